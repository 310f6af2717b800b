-- A push writes the slots of its name and the records of its import, and its answer tells whether a slot changed, or whether the name
-- is newly unresolved.
use Rattle.std.proofs.Common.{◌≡◌, ◌≢◌, ◌∙◌, ap, sym, subst, refl, ℕ, true, false, Bool, not, ◌||◌, List, Option, None, Some, is_some, cond, Result, Ok, Err}
use Rattle.std.proofs.Common.{OnOk, IfOk}
use mathlib.Core.Bool.{true≢false}
use Rattle.std.specs.Cmp.{IsTotalOrder}
use Rattle.std.specs.Cmp.Lexicographic.{slice_cmp}
use Rattle.std.specs.List.Sorted.{IsStrictlySortedBy}
use Rattle.std.specs.Ordering.{nat_cmp, is_eq}
use Rattle.std.specs.BTreeSet.{insert_key}
use Rattle.std.proofs.lemmas.Cmp.{tied_itself, nat_list_cmp_total}
use Rattle.hir_ids.specs.contracts.ids.ModuleDefIdPartialEq.TheImpl as module_def
use Rattle.hir_ids.specs.contracts.ids.ModuleDefIdEq.TheImpl.Laws.{laws-law as module_def_laws}
use Rattle.hir_ids.specs.contracts.macro_kind.MacroIdPartialEq.TheImpl as makro
use Rattle.hir_ids.specs.contracts.macro_kind.MacroIdEq.TheImpl.Laws.{laws-law as makro_laws}
use Rattle.hir_ids.specs.declared.macro_kind.MacroId.{MacroId}
use Rattle.hir_ids.specs.declared.ids.ModuleDefId.{ModuleDefId}
use Rattle.hir_per_ns.specs.contracts.imports.ImportOrExternCratePartialEq.TheImpl as import_or_extern_crate
use Rattle.hir_per_ns.specs.contracts.imports.ImportOrExternCrateEq.TheImpl.Laws.{laws-law as import_or_extern_crate_laws}
use Rattle.hir_per_ns.specs.contracts.imports.ImportOrExternCrateOrd.TheImpl as import_or_extern_crate_order
use Rattle.hir_per_ns.specs.contracts.imports.ImportOrGlobPartialEq.TheImpl as import_or_glob
use Rattle.hir_per_ns.specs.contracts.imports.ImportOrGlobEq.TheImpl.Laws.{laws-law as import_or_glob_laws}
use Rattle.hir_per_ns.specs.contracts.imports.ImportOrGlobOrd.TheImpl as import_or_glob_order
use Rattle.hir_scope.specs.Types.{ImportOrDef, ImportOrExternCrate, ImportOrGlob, PerNs}
use Rattle.hir_scope.specs.Bindings.{Candidate, slot_at, taken, written_items, written_places, written_records, slot_after_candidate, PushesSlot, Records}
use Rattle.hir_scope.specs.Bindings.{type_candidate, value_candidate, macro_candidate}
use Rattle.hir_scope.specs.Globs.{GlobNames, Place, place_cmp}
use Rattle.hir_per_ns.specs.PerNs.{Item, is_nothing}
use Rattle.hir_scope.specs.Scope.{ScopeValue}
use Rattle.hir_scope.specs.Scope.Push.{taken_type, taken_value, taken_macro, taken_candidates, is_some_candidate, is_unresolved, with_unresolved, written_scope}
use Rattle.hir_scope.specs.Scope.Push.{written_globs, pushed_scope, pushed_globs, push_changes, PushesType, PushesValue, PushesMacro, RecordsType, RecordsValue}
use Rattle.hir_scope.specs.Scope.Push.{RecordsMacro, slots_of, IsNewlyUnresolved}
use Rattle.hir_scope_table.proofs.Lookups.{has_value-with_key}
use Rattle.hir_scope_table.proofs.Pushes.{candidate_pushes, candidate_records, moved}

-- ---- the slots

module _ (scope : ScopeValue) (globs : GlobNames) (place : Place) (import : Option ImportOrExternCrate) where
  -- the lists of a scope after a push
  pub pushed-types : (items : PerNs) → (pushed_scope globs place items import scope).types ≡ written_items place.1 (taken_type scope globs place items import)
      scope.types
  pushed-types items = go items.types items.values items.macros
    where
      go : (t : Option (Item ModuleDefId ImportOrExternCrate)) (v : Option (Item ModuleDefId ImportOrGlob)) (m : Option (Item MacroId ImportOrExternCrate))
          → (pushed_scope globs place (record { types = t; values = v; macros = m }) import scope).types
          ≡ written_items place.1 (taken_type scope globs place (record { types = t; values = v; macros = m }) import) scope.types
      go (Some t) v m = refl
      go None (Some v) m = refl
      go None None (Some m) = refl
      go None None None = refl

  pub pushed-values : (items : PerNs) → (pushed_scope globs place items import scope).values
      ≡ written_items place.1 (taken_value scope globs place items import) scope.values
  pushed-values items = go items.types items.values items.macros
    where
      go : (t : Option (Item ModuleDefId ImportOrExternCrate)) (v : Option (Item ModuleDefId ImportOrGlob)) (m : Option (Item MacroId ImportOrExternCrate))
          → (pushed_scope globs place (record { types = t; values = v; macros = m }) import scope).values
          ≡ written_items place.1 (taken_value scope globs place (record { types = t; values = v; macros = m }) import) scope.values
      go (Some t) v m = refl
      go None (Some v) m = refl
      go None None (Some m) = refl
      go None None None = refl

  pub pushed-macros : (items : PerNs) → (pushed_scope globs place items import scope).macros
      ≡ written_items place.1 (taken_macro scope globs place items import) scope.macros
  pushed-macros items = go items.types items.values items.macros
    where
      go : (t : Option (Item ModuleDefId ImportOrExternCrate)) (v : Option (Item ModuleDefId ImportOrGlob)) (m : Option (Item MacroId ImportOrExternCrate))
          → (pushed_scope globs place (record { types = t; values = v; macros = m }) import scope).macros
          ≡ written_items place.1 (taken_macro scope globs place (record { types = t; values = v; macros = m }) import) scope.macros
      go (Some t) v m = refl
      go None (Some v) m = refl
      go None None (Some m) = refl
      go None None None = refl

  module _ (total : IsTotalOrder place_cmp) (items : PerNs) where
    pub type_pushed : IsStrictlySortedBy place_cmp globs.types
        → PushesType place items import scope globs (pushed_scope globs place items import scope) (pushed_globs scope place items import globs)
    type_pushed sorted =
        let at : List (List ℕ × Item ModuleDefId ImportOrExternCrate) → Type 0 = λ xs. PushesSlot module_def.ghosts.eq import_or_extern_crate.ghosts.eq place
        (type_candidate items.types import)
        (slot_at scope.types globs.types) (slot_at xs (written_places place (taken_type scope globs place items import) globs.types)) in
        subst at (sym (pushed-types items)) (candidate_pushes module_def.ghosts.eq import_or_extern_crate.ghosts.eq total scope.types globs.types sorted place
        module_def_laws import_or_extern_crate_laws (type_candidate items.types import))

    pub value_pushed : IsStrictlySortedBy place_cmp globs.values
        → PushesValue place items import scope globs (pushed_scope globs place items import scope) (pushed_globs scope place items import globs)
    value_pushed sorted =
        let at : List (List ℕ × Item ModuleDefId ImportOrGlob) → Type 0 = λ xs. PushesSlot module_def.ghosts.eq import_or_glob.ghosts.eq place
        (value_candidate items.values import)
        (slot_at scope.values globs.values) (slot_at xs (written_places place (taken_value scope globs place items import) globs.values)) in
        subst at (sym (pushed-values items)) (candidate_pushes module_def.ghosts.eq import_or_glob.ghosts.eq total scope.values globs.values sorted place
        module_def_laws import_or_glob_laws (value_candidate items.values import))

    pub macro_pushed : IsStrictlySortedBy place_cmp globs.macros
        → PushesMacro place items import scope globs (pushed_scope globs place items import scope) (pushed_globs scope place items import globs)
    macro_pushed sorted =
        let at : List (List ℕ × Item MacroId ImportOrExternCrate) → Type 0 = λ xs. PushesSlot makro.ghosts.eq import_or_extern_crate.ghosts.eq place
        (macro_candidate items.macros import)
        (slot_at scope.macros globs.macros) (slot_at xs (written_places place (taken_macro scope globs place items import) globs.macros)) in
        subst at (sym (pushed-macros items)) (candidate_pushes makro.ghosts.eq import_or_extern_crate.ghosts.eq total scope.macros globs.macros sorted place
        makro_laws import_or_extern_crate_laws (macro_candidate items.macros import))

-- ---- the records

module _ (scope : ScopeValue) (globs : GlobNames) (place : Place) (import : Option ImportOrExternCrate) where
  -- the records of a scope after a push
  pushed-type_imports : (items : PerNs) → (pushed_scope globs place items import scope).type_imports
      ≡ written_records import_or_extern_crate_order.ghosts.cmp (taken_type scope globs place items import) scope.type_imports
  pushed-type_imports items = go items.types items.values items.macros
    where
      go : (t : Option (Item ModuleDefId ImportOrExternCrate)) (v : Option (Item ModuleDefId ImportOrGlob)) (m : Option (Item MacroId ImportOrExternCrate))
          → (pushed_scope globs place (record { types = t; values = v; macros = m }) import scope).type_imports
          ≡ written_records import_or_extern_crate_order.ghosts.cmp (taken_type scope globs place (record { types = t; values = v; macros = m }) import)
          scope.type_imports
      go (Some t) v m = refl
      go None (Some v) m = refl
      go None None (Some m) = refl
      go None None None = refl

  pushed-value_imports : (items : PerNs) → (pushed_scope globs place items import scope).value_imports
      ≡ written_records import_or_glob_order.ghosts.cmp (taken_value scope globs place items import) scope.value_imports
  pushed-value_imports items = go items.types items.values items.macros
    where
      go : (t : Option (Item ModuleDefId ImportOrExternCrate)) (v : Option (Item ModuleDefId ImportOrGlob)) (m : Option (Item MacroId ImportOrExternCrate))
          → (pushed_scope globs place (record { types = t; values = v; macros = m }) import scope).value_imports
          ≡ written_records import_or_glob_order.ghosts.cmp (taken_value scope globs place (record { types = t; values = v; macros = m }) import)
          scope.value_imports
      go (Some t) v m = refl
      go None (Some v) m = refl
      go None None (Some m) = refl
      go None None None = refl

  pushed-macro_imports : (items : PerNs) → (pushed_scope globs place items import scope).macro_imports
      ≡ written_records import_or_extern_crate_order.ghosts.cmp (taken_macro scope globs place items import) scope.macro_imports
  pushed-macro_imports items = go items.types items.values items.macros
    where
      go : (t : Option (Item ModuleDefId ImportOrExternCrate)) (v : Option (Item ModuleDefId ImportOrGlob)) (m : Option (Item MacroId ImportOrExternCrate))
          → (pushed_scope globs place (record { types = t; values = v; macros = m }) import scope).macro_imports
          ≡ written_records import_or_extern_crate_order.ghosts.cmp (taken_macro scope globs place (record { types = t; values = v; macros = m }) import)
          scope.macro_imports
      go (Some t) v m = refl
      go None (Some v) m = refl
      go None None (Some m) = refl
      go None None None = refl

  -- so each table of records takes what is pushed
  pub type_recorded : IsTotalOrder import_or_extern_crate_order.ghosts.cmp → (items : PerNs) → RecordsType place items import scope globs
      (pushed_scope globs place items import scope)
  type_recorded total items =
      let at : List (ImportOrExternCrate × ImportOrDef) → Type 0 = Records import_or_extern_crate_order.ghosts.cmp (taken_type scope globs place items import)
      scope.type_imports in
      subst at (sym (pushed-type_imports items)) (candidate_records import_or_extern_crate_order.ghosts.cmp total (taken_type scope globs place items import)
      scope.type_imports)

  pub value_recorded : IsTotalOrder import_or_glob_order.ghosts.cmp → (items : PerNs) → RecordsValue place items import scope globs
      (pushed_scope globs place items import scope)
  value_recorded total items =
      let at : List (ImportOrGlob × ImportOrDef) → Type 0 = Records import_or_glob_order.ghosts.cmp (taken_value scope globs place items import)
      scope.value_imports in
      subst at (sym (pushed-value_imports items)) (candidate_records import_or_glob_order.ghosts.cmp total (taken_value scope globs place items import)
      scope.value_imports)

  pub macro_recorded : IsTotalOrder import_or_extern_crate_order.ghosts.cmp → (items : PerNs) → RecordsMacro place items import scope globs
      (pushed_scope globs place items import scope)
  macro_recorded total items =
      let at : List (ImportOrExternCrate × ImportOrDef) → Type 0 = Records import_or_extern_crate_order.ghosts.cmp (taken_macro scope globs place items import)
      scope.macro_imports in
      subst at (sym (pushed-macro_imports items)) (candidate_records import_or_extern_crate_order.ghosts.cmp total (taken_macro scope globs place items import)
      scope.macro_imports)

-- ---- what is answered

-- of three tests, one that says yes
one_of : {G : Type 0} (a b c : Bool) → (a || (b || c)) ≡ true → (a ≡ true → G) → (b ≡ true → G) → (c ≡ true → G) → G
one_of true b c e first second third = first refl
one_of false true c e first second third = second refl
one_of false false true e first second third = third refl
one_of false false false e first second third = absurd (true≢false (sym e))

module _ (scope : ScopeValue) (globs : GlobNames) (place : Place) (import : Option ImportOrExternCrate) where
  no_candidates : (t : Option (Candidate ModuleDefId ImportOrExternCrate)) (v : Option (Candidate ModuleDefId ImportOrGlob))
      (m : Option (Candidate MacroId ImportOrExternCrate))
      → (is_some t || (is_some v || is_some m)) ≡ false
      → written_scope place.1 (record { types = t; values = v; macros = m }) scope ≡ scope
  no_candidates None None None e = refl
  no_candidates (Some t) v m e = absurd (true≢false e)
  no_candidates None (Some v) m e = absurd (true≢false e)
  no_candidates None None (Some m) e = absurd (true≢false e)

  no_names : (t : Option (Candidate ModuleDefId ImportOrExternCrate)) (v : Option (Candidate ModuleDefId ImportOrGlob))
      (m : Option (Candidate MacroId ImportOrExternCrate))
      → (is_some t || (is_some v || is_some m)) ≡ false
      → written_globs place (record { types = t; values = v; macros = m }) globs ≡ globs
  no_names None None None e = refl
  no_names (Some t) v m e = absurd (true≢false e)
  no_names None (Some v) m e = absurd (true≢false e)
  no_names None None (Some m) e = absurd (true≢false e)

  -- a push that changes nothing
  pub scope_stays : (items : PerNs) → push_changes scope globs place items import ≡ false → pushed_scope globs place items import scope ≡ scope
  scope_stays items e = go (is_nothing items) e
    where
      noted : (b : Bool) → not b ≡ false
          → record scope { unresolved = cond b scope.unresolved (insert_key (slice_cmp nat_cmp) scope.unresolved place.1) } ≡ scope
      noted true e = refl
      noted false e = absurd (true≢false e)

      go : (b : Bool) → cond b (not (is_unresolved scope place.1)) (is_some_candidate (taken_candidates scope globs place items import)) ≡ false
          → cond b (with_unresolved scope place.1) (written_scope place.1 (taken_candidates scope globs place items import) scope) ≡ scope
      go true e = noted (is_unresolved scope place.1) e
      go false e =
          no_candidates (taken_type scope globs place items import) (taken_value scope globs place items import) (taken_macro scope globs place items import) e

  pub globs_stay : (items : PerNs) → push_changes scope globs place items import ≡ false → pushed_globs scope place items import globs ≡ globs
  globs_stay items e = go items.types items.values items.macros e
    where
      go : (t : Option (Item ModuleDefId ImportOrExternCrate)) (v : Option (Item ModuleDefId ImportOrGlob)) (m : Option (Item MacroId ImportOrExternCrate))
          → push_changes scope globs place (record { types = t; values = v; macros = m }) import ≡ false
          → pushed_globs scope place (record { types = t; values = v; macros = m }) import globs ≡ globs
      go (Some t) v m e = let items : PerNs = record { types = Some t; values = v; macros = m } in
          no_names (taken_type scope globs place items import) (taken_value scope globs place items import) (taken_macro scope globs place items import) e
      go None (Some v) m e = let items : PerNs = record { types = None; values = Some v; macros = m } in
          no_names (taken_type scope globs place items import) (taken_value scope globs place items import) (taken_macro scope globs place items import) e
      go None None (Some m) e = let items : PerNs = record { types = None; values = None; macros = Some m } in
          no_names (taken_type scope globs place items import) (taken_value scope globs place items import) (taken_macro scope globs place items import) e
      go None None None e = refl

  -- a push of nothing that changes something
  pub name_is_new : (items : PerNs) → push_changes scope globs place items import ≡ true → is_nothing items ≡ true
      → IsNewlyUnresolved place.1 scope (pushed_scope globs place items import scope)
  name_is_new items e n = go (is_nothing items) n e
    where
      absent : (b : Bool) → not b ≡ true → b ≡ false
      absent true e = sym e
      absent false e = refl

      go : (b : Bool) → b ≡ true → cond b (not (is_unresolved scope place.1)) (is_some_candidate (taken_candidates scope globs place items import)) ≡ true
          → IsNewlyUnresolved place.1 scope (cond b (with_unresolved scope place.1) (written_scope place.1 (taken_candidates scope globs place items import)
          scope))
      go true n e = record {
        before = absent (is_unresolved scope place.1) e;
        after = has_value-with_key (slice_cmp nat_cmp) nat_list_cmp_total scope.unresolved place.1 place.1
            ∙ ap (λ (b : Bool). cond b true (is_unresolved scope place.1)) (ap is_eq (tied_itself nat_list_cmp_total place.1));
      }
      go false n e = absurd (true≢false (sym n))

  -- a push of something that changes something
  module _ (total : IsTotalOrder place_cmp) (types : IsStrictlySortedBy place_cmp globs.types)
      (values : IsStrictlySortedBy place_cmp globs.values) (macros : IsStrictlySortedBy place_cmp globs.macros) where
    pub slots_move : (items : PerNs) → push_changes scope globs place items import ≡ true → is_nothing items ≡ false
        → slots_of (pushed_scope globs place items import scope) (pushed_globs scope place items import globs) place ≢ slots_of scope globs place
    slots_move items e n same =
        one_of (is_some (taken_type scope globs place items import)) (is_some (taken_value scope globs place items import))
        (is_some (taken_macro scope globs place items import))
        (brought (is_nothing items) n e)
        (λ t. moved module_def.ghosts.eq import_or_extern_crate.ghosts.eq module_def_laws scope.types globs.types place (type_candidate items.types import) t
        (sym (type_pushed scope globs place import total items types).bound ∙ ap (λ s. s.types) same))
        (λ v. moved module_def.ghosts.eq import_or_glob.ghosts.eq module_def_laws scope.values globs.values place (value_candidate items.values import) v
        (sym (value_pushed scope globs place import total items values).bound ∙ ap (λ s. s.values) same))
        (λ m. moved makro.ghosts.eq import_or_extern_crate.ghosts.eq makro_laws scope.macros globs.macros place (macro_candidate items.macros import) m
        (sym (macro_pushed scope globs place import total items macros).bound ∙ ap (λ s. s.macros) same))
      where
        brought : (b : Bool) → b ≡ false → cond b (not (is_unresolved scope place.1)) (is_some_candidate (taken_candidates scope globs place items import))
            ≡ true
            → is_some_candidate (taken_candidates scope globs place items import) ≡ true
        brought true n e = absurd (true≢false n)
        brought false n e = e

-- what an answer tells of two values it tells of those that an `Ok` equates with them
pub told_of : {E A B : Type 0} (at : Bool) (P : A → B → Type 0) (r : Result Bool E) (v : Bool) (a x : A) (b y : B)
    → OnOk r (x ≡ a) → OnOk r (y ≡ b) → IfOk r (λ changed. changed ≡ v) → (v ≡ at → P a b) → IfOk r (λ changed. changed ≡ at → P x y)
told_of {E} {A} {B} at P (Ok c) v a x b y e f told p = λ is.
    let in_a : A → Type 0 = λ z. P z b in
    let in_b : B → Type 0 = λ z. P x z in
    subst in_b (sym f) (subst in_a (sym e) (p (sym told ∙ is)))
told_of at P (Err v) w a x b y e f told p = tt

-- ---- an answer

-- what holds of a scope holds of the one that an `Ok` equates with it
pub on_ok : {T E A : Type 0} (P : A → Type 0) (r : Result T E) (a x : A) → OnOk r (x ≡ a) → P a → OnOk r (P x)
on_ok P (Ok v) a x e p = subst P (sym e) p
on_ok P (Err v) a x e p = tt

-- what holds of two values holds of those that an `Ok` equates with them
pub on_ok_of : {T E A B : Type 0} (P : A → B → Type 0) (r : Result T E) (a x : A) (b y : B) → OnOk r (x ≡ a) → OnOk r (y ≡ b) → P a b → OnOk r (P x y)
on_ok_of {T} {E} {A} {B} P (Ok v) a x b y e f p = let at : A → Type 0 = λ z. P z b in let to : B → Type 0 = λ z. P x z in subst to (sym f) (subst at (sym e) p)
on_ok_of P (Err v) a x b y e f p = tt
