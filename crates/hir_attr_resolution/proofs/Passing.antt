-- The attributes of an item, one after another.
use Rattle.std.proofs.Common.{◌≡◌, ◌∙◌, ℕ, zero, suc, ◌+◌, ◌<◌, ◌≤◌, Bool, true, false, List, [], ◌∷◌, length, map, drop, get_or, slice_get, Option, Some, None}
use Rattle.std.proofs.Common.{option_map, cond, inl, refl, sym, ap, subst, arith}
use Rattle.std.proofs.lemmas.Option.{slice_get-map}
use Rattle.hir_collector_state.specs.HirBase.ModPath.{Path}
use Rattle.hir_collector_state.specs.HirIds.declared.ids.AdtId.{AdtId}
use Rattle.hir_collector_state.specs.HirIds.declared.ast_id.AstId.{AstId}
use Rattle.hir_collector_state.specs.HirIds.declared.ids.MapId.{MapId}
use Rattle.hir_collector_state.specs.HirIds.declared.ids.AdtId.TheVariants as adts
use Rattle.hir_collector_state.specs.HirItemTree.Collected.{Numbered as Attribute, numbered}
use Rattle.hir_collector_state.specs.HirItemTree.KeptForest.{Head, KeptItem, Leaf, enumeration, holder, leaf, structure, union_structure}
use Rattle.hir_collector_state.specs.HirItemTree.declared.attrs.Attr.{Attr}
use Rattle.hir_collector_state.specs.HirItemTree.Kinds.{item_head}
use Rattle.hir_collector_state.specs.HirTables.Tables.{KeepsTables, TablesValue}
use Rattle.hir_collector_state.specs.HirDefMapRules.Macros.{with_diagnostic}
use Rattle.hir_collector_state.specs.HirDefMapRules.Overlay.{Maps}
use Rattle.hir_collector_state.specs.HirDefMapRules.State.{Map, with_module_scope}
use Rattle.hir_collector_state.proofs.HirDefMapRules.Grown.{length-changed}
use Rattle.hir_attr_resolution.specs.declared.attributes.Visited.{Visited}
use Rattle.hir_collector_state.specs.HirCollectorRules.declared.site.Site.{Site}
use Rattle.hir_collector_state.specs.HirCollectorRules.declared.macro_directive.WaitingItem.{WaitingItem}
use Rattle.hir_collector_state.specs.HirCollectorRules.declared.start.TheConstants.{STEP_LIMIT}
use Rattle.hir_collector_state.specs.HirCollectorRules.Attributes.{adt_by, adt_of, attr_id, first_looked_up, is_derive}
use Rattle.hir_collector_state.specs.HirCollectorRules.Attributes.{is_passed, item_node, next_among, next_attribute}
use Rattle.hir_collector_state.specs.HirCollectorRules.Calls.{IsNumberedDerive, item_kept}
use Rattle.hir_collector_state.specs.HirCollectorRules.Derivation.{counted_out, numbered_out}
use Rattle.hir_collector_state.specs.HirCollectorRules.Invocations.{derive_met, with_invocation, with_noted}
use Rattle.hir_collector_state.specs.HirCollectorRules.ItemIds.{enum_id, module_id, struct_id, union_id}
use Rattle.hir_collector_state.specs.HirCollectorRules.Keys.{Environment}
use Rattle.hir_collector_state.specs.HirCollectorRules.NumberedOut.{IsDeriveNumberedOut, call_out, expansion_out, lacks_derive}
use Rattle.hir_collector_state.specs.HirCollectorRules.Moves.{HandlesAttribute, LacksDeriveNumber, ListsDerive, Passes}
use Rattle.hir_collector_state.specs.HirCollectorRules.Moves.{PassesTooFar, TakesDerive, goes_behind, listed, no_paths}
use Rattle.hir_collector_state.specs.HirCollectorRules.Moves.{no_target}
use Rattle.hir_attr_resolution.specs.Visiting.{IsVisited}
use Rattle.hir_collector_state.specs.HirCollectorRules.Reports.{invalid_target, malformed_derive}
use Rattle.hir_collector_state.specs.HirCollectorRules.State.{Core, State, Task, Visit, visits, counted, joined, visit, behind, with_calls, with_map}
use Rattle.hir_collector_state.specs.HirCollectorRules.Steps.{HasAttribute, Steps, attribute_at, awaits_attribute}
use Rattle.hir_collector_state.specs.HirCollectorRules.Steps.{derives_from, faults_derive, lists_derives, none}
use Rattle.hir_collector_state.specs.HirCollectorRules.Steps.{no_paths as lists_none, no_target as is_no_target}
use Rattle.hir_collector_state.proofs.HirCollectorRules.Changes.{id-Steps}
use Rattle.hir_collector_state.proofs.HirCollectorRules.Lists.{drop_some}
use Rattle.hir_collector_state.proofs.Made.{Goes, goes, made}
use Rattle.hir_collector_state.proofs.HirCollectorRules.ModuleFiles.{derive_kept}
use Rattle.hir_collector_state.proofs.HirCollectorRules.Moves.{Steps-append, Steps-one, spent_after}
use Rattle.hir_collector_state.proofs.HirCollectorRules.Numbers.{still_out}

-- ---- which is next

-- what stands at a place
pub item_there : {A : Type 0} (xs : List A) (i : ℕ) (a : A) → i < length xs → a ≡ get_or xs i a → slice_get xs i ≡ Some a
item_there [] i a inside e = absurd (omega arith)
item_there (x ∷ xs) zero a inside e = ap (λ (y : _). Some y) (sym e)
item_there (x ∷ xs) (suc i) a inside e = item_there xs i a (omega arith) e

pub item_is : {A : Type 0} (xs : List A) (i : ℕ) (a b : A) → slice_get xs i ≡ Some a → b ≡ get_or xs i b → b ≡ a
item_is [] i a b there e = absurd (let no : ⊥ = cc in no)
item_is (x ∷ xs) zero a b there e = let same : x ≡ a = cc in e ∙ same
item_is (x ∷ xs) (suc i) a b there e = item_is xs i a b there e

abbrev pub place_of : Option (ℕ × Attribute) → Option ℕ
place_of found = option_map (λ (n : ℕ × Attribute). n.0) found

nothing_there : (found : Option (ℕ × Attribute)) → place_of found ≡ None → found ≡ None
nothing_there None e = refl
nothing_there (Some n) e = absurd (let no : ⊥ = cc in no)

module _ (m : Map) (node : AstId) where
  -- an attribute that is passed, and one that isn't
  pub passed_over : (attributes : List Attribute) (at : ℕ) (a : Attribute) → slice_get attributes at ≡ Some a → is_passed m node a ≡ true
      → first_looked_up m node at (drop at attributes) ≡ first_looked_up m node (suc at) (drop (suc at) attributes)
  passed_over attributes at a there passed =
      ap (first_looked_up m node at) (drop_some attributes at a there) ∙ ap (λ (b : Bool). cond b (first_looked_up m node (suc at) (drop (suc at) attributes))
      (Some (at, a))) passed

  pub stopped_at : (attributes : List Attribute) (at : ℕ) (a : Attribute) → slice_get attributes at ≡ Some a → is_passed m node a ≡ false
      → first_looked_up m node at (drop at attributes) ≡ Some (at, a)
  stopped_at attributes at a there stopped =
      ap (first_looked_up m node at) (drop_some attributes at a there) ∙ ap (λ (b : Bool). cond b (first_looked_up m node (suc at) (drop (suc at) attributes))
      (Some (at, a))) stopped

  -- the one at a place, among those behind the first so many
  record IsFirst (k : ℕ) (left : List Attribute) (at : ℕ) : Type 0 where
    i : ℕ
    a : Attribute
    place : at ≡ k + i
    there : slice_get left i ≡ Some a
    is : first_looked_up m node k left ≡ Some (at, a)

  first_is : (k : ℕ) (left : List Attribute) (at : ℕ) → place_of (first_looked_up m node k left) ≡ Some at → IsFirst k left at
  first_is k [] at e = absurd (let no : ⊥ = cc in no)
  first_is k (x ∷ left) at e = go (is_passed m node x) refl (first_is (suc k) left at)
    where
      go : (b : Bool) → is_passed m node x ≡ b → (place_of (first_looked_up m node (suc k) left) ≡ Some at → IsFirst (suc k) left at) → IsFirst k (x ∷ left) at
      go true passed later =
          let same : first_looked_up m node k (x ∷ left) ≡ first_looked_up m node (suc k) left = ap
          (λ (b : Bool). cond b (first_looked_up m node (suc k) left) (Some (k, x))) passed in
          let l = later (ap place_of (sym same) ∙ e) in
          record { i = suc l.i; a = l.a; place = (let p = l.place in omega arith); there = l.there; is = same ∙ l.is }
      go false stopped later =
          let same : first_looked_up m node k (x ∷ left) ≡ Some (k, x) = ap (λ (b : Bool). cond b (first_looked_up m node (suc k) left) (Some (k, x))) stopped
          in
          let here : Some k ≡ Some at = ap place_of (sym same) ∙ e in
          let at_it : k ≡ at = cc in
          record { i = 0; a = x; place = omega arith; there = refl; is = same ∙ ap (λ (n : ℕ). Some (n, x)) at_it }

  get_drop : (xs : List Attribute) (k i : ℕ) → slice_get (drop k xs) i ≡ slice_get xs (k + i)
  get_drop xs zero i = ap (slice_get xs) (let e : i ≡ 0 + i = omega arith in e)
  get_drop [] (suc k) i = refl
  get_drop (x ∷ xs) (suc k) i = get_drop xs k i ∙ ap (slice_get (x ∷ xs)) (let e : suc (k + i) ≡ suc k + i = omega arith in e)

  pub next_is : (done : ℕ) (attributes : List Attribute) (at : ℕ) (a : Attribute) → slice_get attributes at ≡ Some a
      → place_of (next_among m node done attributes) ≡ Some at → next_among m node done attributes ≡ Some (at, a)
  next_is done attributes at a there e =
      let f : IsFirst done (drop done attributes) at = first_is done (drop done attributes) at e in
      let here : slice_get attributes at ≡ Some f.a = ap (slice_get attributes) f.place ∙ sym (get_drop attributes done f.i) ∙ f.there in
      let both : Some f.a ≡ Some a = sym here ∙ there in
      let same : f.a ≡ a = cc in
      f.is ∙ ap (λ (x : Attribute). Some (at, x)) same

-- ---- the item that is visited

-- which of its attributes is next, by its node and its attributes
module _ (m : Map) (v : Visited) (item : KeptItem) (is : IsVisited m v item) where
  visited_next : (done : ℕ) → next_attribute m v.site.now item done ≡ next_among m v.node done (map numbered v.attrs.now)
  visited_next done =
      ap (λ (node : AstId). next_among m node done (item_head item).attributes.attributes) (sym is.node) ∙ ap
      (λ (attributes : List Attribute). next_among m v.node done attributes) (sym is.attributes)

  -- none
  pub visited_none : (done : ℕ) → None ≡ place_of (next_among m v.node done (map numbered v.attrs.now)) → next_attribute m v.site.now item done ≡ None
  visited_none done e = visited_next done ∙ nothing_there (next_among m v.node done (map numbered v.attrs.now)) (sym e)

  -- or one at a place
  pub visited_at : (done at : ℕ) (a : Attr) → slice_get v.attrs.now at ≡ Some a → Some at ≡ place_of (next_among m v.node done (map numbered v.attrs.now))
      → next_attribute m v.site.now item done ≡ Some (at, numbered a)
  visited_at done at a there e =
      visited_next done ∙ next_is m v.node done (map numbered v.attrs.now) at (numbered a) (slice_get-map numbered v.attrs.now at ∙ ap (option_map numbered)
      there) (sym e)

-- what it is, where the map grew
adt_by_kept : (m n : Map) (s : Site) (h : Head) (l : Leaf) → n.id ≡ m.id → adt_by m s h l ≡ adt_by n s h l
adt_by_kept m n s h (structure name shape fields) e = ap (λ (id : MapId). Some (adts.StructId (struct_id (record m { id = id }) s h.id))) (sym e)
adt_by_kept m n s h (union_structure name fields) e = ap (λ (id : MapId). Some (adts.UnionId (union_id (record m { id = id }) s h.id))) (sym e)
adt_by_kept m n s h (enumeration name) e = ap (λ (id : MapId). Some (adts.EnumId (enum_id (record m { id = id }) s h.id))) (sym e)
adt_by_kept m n s h _ e = refl

adt_kept : (m n : Map) (s : Site) (item : KeptItem) → n.id ≡ m.id → adt_of m s item ≡ adt_of n s item
adt_kept m n s (leaf h l) e = adt_by_kept m n s h l e
adt_kept m n s (holder h k items) e = refl

pub visited_still : (m n : Map) (v : Visited) (item : KeptItem) → n.id ≡ m.id → IsVisited m v item → IsVisited n v item
visited_still m n v item same is =
    record { kept = is.kept; node = is.node; enabled = is.enabled; attributes = is.attributes; adt = is.adt ∙ adt_kept m n v.site.now item same }

-- ---- one attribute

-- its item is kept as it waits
abbrev waiting_behind : Visited → ℕ → WaitingItem
waiting_behind v done = record { source = v.source.now.value; id = v.id; done = done }

module _ (env : Environment) (finished : Maps) (old : Core) (v : Visited) (item : KeptItem) (is : IsVisited old.map v item) (from at : ℕ) (a : Attribute) (next : next_attribute old.map v.site.now item from ≡ Some (at, a)) where
  abbrev here : Visit
  here = behind (visit v.site.now item) from

  abbrev before : List Task → State
  before rest = joined old (visits here ∷ rest)

  has : (rest : List Task) → HasAttribute (before rest) here at a rest
  has rest = record { on = record { next = refl; enabled = is.enabled }; active = next }

  -- it waits
  pub awaited : (new : Core) (k : WaitingItem) → is_derive a ≡ false → k.done ≡ suc at → item_kept k ≡ Some item
      → new ≡ counted (with_calls old (attribute_at v.site.now v.node (attr_id a) a.meta.path k ∷ [])) → HandlesAttribute env finished old new
      (visit v.site.now item) from []
  awaited new k looked_up behind_it kept e = record {
    step = λ rest.
        made (awaits_attribute here a k rest) (record { at = at; has = has rest; looked_up = looked_up; behind_it = behind_it; kept = kept }) tt tt
        (ap (λ (c : Core). joined c rest) e ∙ ap
        (λ (node : AstId). joined (counted (with_calls old (attribute_at v.site.now node (attr_id a) a.meta.path k ∷ []))) rest) is.node);
  }

  -- the number of its call goes on to mean it
  number_now : (tables : TablesValue) (target : AdtId) (paths : List Path) (mid : Core) → KeepsTables tables env.tables
      → (lists : ListsDerive tables v.site.now v.node (attr_id a) target paths old mid)
      → IsNumberedDerive env.tables old.map.id.krate (item_node v.site.now item) (attr_id a) lists.call
  number_now tables target paths mid keeps lists =
      subst (λ (node : AstId). IsNumberedDerive env.tables old.map.id.krate node (attr_id a) lists.call) is.node
      (derive_kept tables env.tables keeps old.map.id.krate v.node (attr_id a) lists.call lists.numbered)

  -- and one that isn't left is left no more
  still_numbered_out : (tables : TablesValue) → KeepsTables tables env.tables → IsDeriveNumberedOut tables old.map.id.krate v.node (attr_id a)
      → IsDeriveNumberedOut env.tables old.map.id.krate v.node (attr_id a)
  still_numbered_out tables keeps (expansion_out out) = expansion_out (still_out tables.entries env.tables.entries _ keeps.entries out)
  still_numbered_out tables keeps (call_out entry at_it out) =
      call_out entry (keeps.entries entry.0 _ at_it) (still_out tables.calls env.tables.calls _ keeps.calls out)

  -- it lists derives, or can't
  pub taken : (tables : TablesValue) (mid new : Core) → KeepsTables tables env.tables → is_derive a ≡ true → TakesDerive tables v.site.now v.node a v.adt old
      mid → new ≡ counted mid
      → HandlesAttribute env finished old new (visit v.site.now item) from (goes_behind (visit v.site.now item) at true)
  taken tables mid new keeps derives (listed target paths of_target of_paths lists) e = record {
    step = λ rest.
        made (lists_derives here at a target paths lists.call rest)
        (record { has = has rest; derives = derives; target = sym is.adt ∙ of_target; lists = of_paths }) tt
        (number_now tables target paths mid keeps lists)
        (ap (λ (c : Core). joined c (visits (behind here (suc at)) ∷ rest)) (e ∙ ap counted lists.is)
        ∙ ap (λ (node : AstId). joined (counted (with_map (with_calls old (derives_from v.site.now node (attr_id a) target 0 paths))
        (with_noted old.map v.site.now.home (derive_met node (attr_id a) lists.call paths)))) (visits (behind here (suc at)) ∷ rest)) is.node);
  }
  taken tables mid new keeps derives (no_target none_is becomes) e = record {
    step = λ rest.
        made (faults_derive here at (invalid_target (module_id old.map v.site.now.home) (item_node v.site.now item) (attr_id a)) rest)
        (record { attribute = a; has = has rest; derives = derives; faulty = is_no_target (sym is.adt ∙ none_is) refl }) tt tt
        (ap (λ (c : Core). joined c (visits (behind here (suc at)) ∷ rest)) (e ∙ ap counted becomes)
        ∙ ap (λ (node : AstId). joined (counted (with_map old (with_diagnostic old.map (invalid_target (module_id old.map v.site.now.home) node (attr_id a)))))
        (visits (behind here (suc at)) ∷ rest)) is.node);
  }
  taken tables mid new keeps derives (no_paths target of_target none_is becomes) e = record {
    step = λ rest.
        made (faults_derive here at (malformed_derive (module_id old.map v.site.now.home) (item_node v.site.now item) (attr_id a)) rest)
        (record { attribute = a; has = has rest; derives = derives; faulty = lists_none target (sym is.adt ∙ of_target) none_is refl }) tt tt
        (ap (λ (c : Core). joined c (visits (behind here (suc at)) ∷ rest)) (e ∙ ap counted becomes)
        ∙ ap (λ (node : AstId). joined (counted (with_map old
        (with_diagnostic old.map (malformed_derive (module_id old.map v.site.now.home) node (attr_id a))))) (visits (behind here (suc at)) ∷ rest)) is.node);
  }

  -- ---- where as many steps as are counted were taken, or the call of a derive can't get a number

  -- a step might be taken
  goes_too_far : STEP_LIMIT ≤ old.count → ((rest : List Task) → Goes env finished (before rest)) → PassesTooFar env finished old (visit v.site.now item) from
  goes_too_far many goes_on = record {
    spent =
        λ rest. let next : Goes env finished (before rest) = goes_on rest
        in record { at = before rest; steps = none; stuck = counted_out next.next next.step (inl many) };
  }

  -- by which a derive is taken
  pub taken_too_far : (tables : TablesValue) (mid : Core) → KeepsTables tables env.tables → is_derive a ≡ true → TakesDerive tables v.site.now v.node a v.adt
      old mid → STEP_LIMIT ≤ old.count
      → PassesTooFar env finished old (visit v.site.now item) from
  taken_too_far tables mid keeps derives (listed target paths of_target of_paths lists) many = goes_too_far many (λ rest.
      goes (lists_derives here at a target paths lists.call rest)
      (record { has = has rest; derives = derives; target = sym is.adt ∙ of_target; lists = of_paths }) tt
      (number_now tables target paths mid keeps lists))
  taken_too_far tables mid keeps derives (no_target none_is becomes) many = goes_too_far many (λ rest.
      goes (faults_derive here at (invalid_target (module_id old.map v.site.now.home) (item_node v.site.now item) (attr_id a)) rest)
      (record { attribute = a; has = has rest; derives = derives; faulty = is_no_target (sym is.adt ∙ none_is) refl }) tt tt)
  taken_too_far tables mid keeps derives (no_paths target of_target none_is becomes) many = goes_too_far many (λ rest.
      goes (faults_derive here at (malformed_derive (module_id old.map v.site.now.home) (item_node v.site.now item) (attr_id a)) rest)
      (record { attribute = a; has = has rest; derives = derives; faulty = lists_none target (sym is.adt ∙ of_target) none_is refl }) tt tt)

  -- or by which the item waits
  pub awaited_too_far : is_derive a ≡ false → STEP_LIMIT ≤ old.count → PassesTooFar env finished old (visit v.site.now item) from
  awaited_too_far looked_up many = goes_too_far many (λ rest.
      goes (awaits_attribute here a (waiting_behind v (suc at)) rest)
      (record { at = at; has = has rest; looked_up = looked_up; behind_it = refl; kept = is.kept }) tt tt)

  -- no number is left
  pub unnumbered_too_far : (tables : TablesValue) → KeepsTables tables env.tables → is_derive a ≡ true → LacksDeriveNumber tables old.map.id.krate v.node a
      v.adt
      → PassesTooFar env finished old (visit v.site.now item) from
  unnumbered_too_far tables keeps derives lacks = record {
    spent = λ rest. record {
      at = before rest;
      steps = none;
      stuck = numbered_out (lacks_derive (record {
        visited = here;
        place = at;
        attribute = a;
        adt = lacks.target;
        paths = lacks.paths;
        rest = rest;
        lists = record { has = has rest; derives = derives; target = sym is.adt ∙ lacks.is_target; lists = lacks.lists };
        out = subst (λ (node : AstId). IsDeriveNumberedOut env.tables old.map.id.krate node (attr_id a)) is.node (still_numbered_out tables keeps lacks.out);
      }));
    };
  }

-- a derive that is taken leaves as many modules and counts no step
pub taken_modules : (tables : TablesValue) (site : Site) (node : AstId) (a : Attribute) (adt : Option AdtId) (old new : Core) → TakesDerive tables site node a
    adt old new
    → length new.map.modules ≡ length old.map.modules
taken_modules tables site node a adt old new (listed target paths of_target of_paths lists) =
    ap (λ (c : Core). length c.map.modules) lists.is ∙ length-changed old.map.modules site.home
    (with_module_scope (with_invocation (derive_met node (attr_id a) lists.call paths)))
taken_modules tables site node a adt old new (no_target none_is becomes) = ap (λ (c : Core). length c.map.modules) becomes
taken_modules tables site node a adt old new (no_paths target of_target none_is becomes) = ap (λ (c : Core). length c.map.modules) becomes

pub taken_count : (tables : TablesValue) (site : Site) (node : AstId) (a : Attribute) (adt : Option AdtId) (old new : Core) → TakesDerive tables site node a adt
    old new → new.count ≡ old.count
taken_count tables site node a adt old new (listed target paths of_target of_paths lists) = ap (λ (c : Core). c.count) lists.is
taken_count tables site node a adt old new (no_target none_is becomes) = ap (λ (c : Core). c.count) becomes
taken_count tables site node a adt old new (no_paths target of_target none_is becomes) = ap (λ (c : Core). c.count) becomes

-- ---- one after another

module _ (env : Environment) (finished : Maps) (old : Core) (v : Visited) (item : KeptItem) (from : ℕ) where
  abbrev at_item : ℕ → List Task → List Task
  at_item done rest = visits (behind (visit v.site.now item) done) ∷ rest

  -- steps through those before a place; the item is what it was
  pub record PassesTo (now : Core) (done : ℕ) : Type 0 where
    pub steps : (rest : List Task) → Steps env finished (joined old (at_item from rest)) (joined now (at_item done rest))
    pub still : IsVisited now.map v item

  pub passes_none : IsVisited old.map v item → PassesTo old from
  passes_none is = record { steps = λ rest. none; still = is }

  pub passes_next : (now new : Core) (done at : ℕ) → PassesTo now done → HandlesAttribute env finished now new (visit v.site.now item) done
      (goes_behind (visit v.site.now item) at true) → PassesTo new (at + 1)
  passes_next now new done at before handles =
      let same : suc at ≡ at + 1 = omega arith in
      record {
        steps = λ rest.
            subst (λ (n : ℕ). Steps env finished (joined old (at_item from rest)) (joined new (at_item n rest))) same
            (Steps-append (before.steps rest) (Steps-one (handles.step rest)));
        still = visited_still now.map new.map v item (id-Steps (Steps-one (handles.step []))) before.still;
      }

  -- to the end
  pub passes_all : (now : Core) (done : ℕ) → PassesTo now done → next_attribute now.map v.site.now item done ≡ None
      → Passes env finished old now (visit v.site.now item) from (Some done)
  passes_all now done before passed = record { goes = (passed, before.steps) }

  -- to one that waits
  pub passes_waits : (now new : Core) (done : ℕ) → PassesTo now done → HandlesAttribute env finished now new (visit v.site.now item) done []
      → Passes env finished old new (visit v.site.now item) from None
  passes_waits now new done before handles = record { goes = λ rest. Steps-append (before.steps rest) (Steps-one (handles.step rest)) }

  -- too far
  pub passes_far : (now : Core) (done : ℕ) → PassesTo now done → PassesTooFar env finished now (visit v.site.now item) done → PassesTooFar env finished old
      (visit v.site.now item) from
  passes_far now done before far = record { spent = λ rest. spent_after (before.steps rest) (far.spent rest) }
