-- What a name stands for once that is written anew or taken out, and what the other names do.
use Rattle.std.proofs.Common.{◌≡◌, ◌≢◌, ◌∙◌, ap, sym, refl, ℕ, true, false, Bool, List, [], ◌∷◌, Option, None, Some, cond, option_map}
use mathlib.Core.Bool.{true≢false}
use Rattle.std.specs.declared.cmp.Ordering.{Ordering}
use Rattle.std.specs.declared.cmp.Ordering.TheVariants.{Less, Equal, Greater}
use Rattle.std.specs.Cmp.Lexicographic.{slice_cmp}
use Rattle.std.specs.Ordering.{is_eq, nat_cmp}
use Rattle.std.specs.BTreeMap.{is_at}
use Rattle.std.specs.List.Sorted.{IsStrictlySortedBy}
use Rattle.std.specs.Map.{keys_of, lookup, set_value, remove_entry}
use Rattle.std.proofs.lemmas.Map.Keys.{sorted_head, sorted_tail}
use Rattle.std.proofs.lemmas.Map.Lookups.{exact_bytes}
use Rattle.hir_ids.specs.declared.macro_kind.MacroId.{MacroId}
use Rattle.hir_ids.specs.declared.ids.ModuleDefId.{ModuleDefId}
use Rattle.hir_per_ns.specs.declared.imports.ImportOrExternCrate.{ImportOrExternCrate}
use Rattle.hir_per_ns.specs.declared.imports.ImportOrGlob.{ImportOrGlob}
use Rattle.hir_per_ns.specs.declared.imports.ImportOrDef.{ImportOrDef}
use Rattle.hir_scope.specs.declared.item_scope.push.Candidates.{Candidates}
use Rattle.hir_per_ns.specs.contracts.imports.ImportOrExternCrateOrd.TheImpl as item_order
use Rattle.hir_per_ns.specs.contracts.imports.ImportOrGlobOrd.TheImpl as value_order
use Rattle.hir_per_ns.specs.PerNs as of_scope
use Rattle.hir_scope.specs.Scope.{ScopeValue}
use Rattle.hir_scope.specs.Scope.Push.{written_scope}
use Rattle.hir_scope_table.specs.Entries.{item_at}
use Rattle.hir_scope_table.specs.Table.{is_definition, rewritten, without_definition, written_items, written_records}
use Rattle.hir_scope_item.specs.declared.item.Item.{Item}
use Rattle.hir_scope_table.proofs.Pushes.{name-apart}
use Rattle.hir_scope_table.proofs.Slots.{lookup-below}

-- ---- an entry that passes a test

module _ {K X : Type 0} (test : K → Bool) where
  lookup-set : (es : List (K × X)) (v : X) → lookup test (set_value test es v) ≡ option_map (λ _. v) (lookup test es)
  lookup-set [] v = refl
  lookup-set (e ∷ es) v = go (test e.0) refl (lookup-set es v)
    where
      go : (b : Bool) → test e.0 ≡ b → lookup test (set_value test es v) ≡ option_map (λ _. v) (lookup test es)
          → lookup test (cond b ((e.0, v) ∷ es) (e ∷ set_value test es v)) ≡ option_map (λ _. v) (cond b (Some e.1) (lookup test es))
      go true is rest = ap (λ b. cond b (Some v) (lookup test es)) is
      go false is rest = ap (λ b. cond b (Some e.1) (lookup test (set_value test es v))) is ∙ rest

  module _ (other : K → Bool) (apart : (x : K) → test x ≡ true → other x ≡ false) where
    others-set : (es : List (K × X)) (v : X) → lookup other (set_value test es v) ≡ lookup other es
    others-set [] v = refl
    others-set (e ∷ es) v = go (test e.0) refl (others-set es v)
      where
        go : (b : Bool) → test e.0 ≡ b → lookup other (set_value test es v) ≡ lookup other es
            → lookup other (cond b ((e.0, v) ∷ es) (e ∷ set_value test es v)) ≡ cond (other e.0) (Some e.1) (lookup other es)
        go true is rest =
            ap (λ b. cond b (Some v) (lookup other es)) (apart e.0 is) ∙ sym (ap (λ b. cond b (Some e.1) (lookup other es)) (apart e.0 is))
        go false is rest = ap (λ o. cond (other e.0) (Some e.1) o) rest

    others-remove : (es : List (K × X)) → lookup other (remove_entry test es) ≡ lookup other es
    others-remove [] = refl
    others-remove (e ∷ es) = go (test e.0) refl (others-remove es)
      where
        go : (b : Bool) → test e.0 ≡ b → lookup other (remove_entry test es) ≡ lookup other es
            → lookup other (cond b es (e ∷ remove_entry test es)) ≡ cond (other e.0) (Some e.1) (lookup other es)
        go true is rest = sym (ap (λ b. cond b (Some e.1) (lookup other es)) (apart e.0 is))
        go false is rest = ap (λ o. cond (other e.0) (Some e.1) o) rest

-- ---- names

equal_of : (o : Ordering) → is_eq o ≡ true → o ≡ Equal
equal_of Less e = absurd (true≢false (sym e))
equal_of Equal e = refl
equal_of Greater e = absurd (true≢false (sym e))

-- no name is two names
names_apart : (name other : List ℕ) → other ≢ name → (x : List ℕ) → is_eq (slice_cmp nat_cmp name x) ≡ true → is_eq (slice_cmp nat_cmp other x) ≡ false
names_apart name other n x at =
    let same : name ≡ x = exact_bytes name x (equal_of (slice_cmp nat_cmp name x) at) in
    name-apart other x (λ e. n (sym (same ∙ e)))

-- a name that is taken out stands for nothing
lookup-remove : {X : Type 0} (es : List (List ℕ × X)) (name : List ℕ) → IsStrictlySortedBy (slice_cmp nat_cmp) (keys_of es)
    → lookup (is_at (slice_cmp nat_cmp name)) (remove_entry (is_at (slice_cmp nat_cmp name)) es) ≡ None
lookup-remove [] name s = refl
lookup-remove {X} (e ∷ es) name s =
    go (slice_cmp nat_cmp name e.0) refl (lookup-remove es name (sorted_tail (slice_cmp nat_cmp) e.0 (keys_of es) s))
  where
    go : (o : Ordering) → slice_cmp nat_cmp name e.0 ≡ o → lookup (is_at (slice_cmp nat_cmp name)) (remove_entry (is_at (slice_cmp nat_cmp name)) es) ≡ None
        → lookup (is_at (slice_cmp nat_cmp name)) (cond (is_eq o) es (e ∷ remove_entry (is_at (slice_cmp nat_cmp name)) es)) ≡ None
    go Less is rest =
        ap (λ o. cond (is_eq o) (Some e.1) (lookup (is_at (slice_cmp nat_cmp name)) (remove_entry (is_at (slice_cmp nat_cmp name)) es))) is ∙ rest
    go Equal is rest =
        let same : name ≡ e.0 = exact_bytes name e.0 is in
        ap (λ n. lookup (is_at (slice_cmp nat_cmp n)) es) same ∙ lookup-below (slice_cmp nat_cmp) e.0 es (sorted_head (slice_cmp nat_cmp) e.0 (keys_of es) s)
    go Greater is rest =
        ap (λ o. cond (is_eq o) (Some e.1) (lookup (is_at (slice_cmp nat_cmp name)) (remove_entry (is_at (slice_cmp nat_cmp name)) es))) is ∙ rest

-- ---- what a name stands for, written anew

module _ {D V I : Type 0} (new : Item D V I → Item D V I) (old now : List (List ℕ × Item D V I)) (name : List ℕ) (item made : Item D V I)
    (is : Some item ≡ item_at old name) (made_is : made ≡ new item) (now_is : now ≡ set_value (is_at (slice_cmp nat_cmp name)) old made) where
  pub rewritten_is : now ≡ rewritten new old name (item_at old name)
  rewritten_is = now_is ∙ ap (set_value (is_at (slice_cmp nat_cmp name)) old) made_is ∙ ap (rewritten new old name) is

  pub rewritten_bound : item_at now name ≡ option_map new (item_at old name)
  rewritten_bound =
      ap (λ es. item_at es name) now_is ∙ lookup-set (is_at (slice_cmp nat_cmp name)) old made ∙ ap (option_map (λ _. made)) (sym is) ∙ ap Some made_is
      ∙ ap (option_map new) is

  pub rewritten_others : (other : List ℕ) → other ≢ name → item_at now other ≡ item_at old other
  rewritten_others other n =
      ap (λ es. item_at es other) now_is
      ∙ others-set (is_at (slice_cmp nat_cmp name)) (is_at (slice_cmp nat_cmp other)) (names_apart name other n) old made

-- ---- and taken out

module _ {D V I : Type 0} (same : D → D → Bool) (old now : List (List ℕ × Item D V I)) (name : List ℕ) (def : D) (item : Item D V I)
    (is : Some item ≡ item_at old name) (fits : same item.def def ≡ true) (now_is : now ≡ remove_entry (is_at (slice_cmp nat_cmp name)) old) where
  defined : is_definition same def (item_at old name) ≡ true
  defined = ap (is_definition same def) (sym is) ∙ fits

  pub removed_is : now ≡ without_definition same old name def
  removed_is = now_is ∙ ap (λ b. cond b (remove_entry (is_at (slice_cmp nat_cmp name)) old) old) (sym defined)

  pub removed_bound : IsStrictlySortedBy (slice_cmp nat_cmp) (keys_of old)
      → item_at now name ≡ cond (is_definition same def (item_at old name)) None (item_at old name)
  removed_bound sorted =
      ap (λ es. item_at es name) now_is ∙ lookup-remove old name sorted ∙ ap (λ b. cond b None (item_at old name)) (sym defined)

  pub removed_others : (other : List ℕ) → other ≢ name → item_at now other ≡ item_at old other
  removed_others other n =
      ap (λ es. item_at es other) now_is
      ∙ others-remove (is_at (slice_cmp nat_cmp name)) (is_at (slice_cmp nat_cmp other)) (names_apart name other n) old

-- ---- a scope of which one namespace changes

abbrev pub TypeItems : Type 0
TypeItems = List (List ℕ × of_scope.Item ModuleDefId ImportOrExternCrate)

abbrev pub ValueItems : Type 0
ValueItems = List (List ℕ × of_scope.Item ModuleDefId ImportOrGlob)

abbrev pub MacroItems : Type 0
MacroItems = List (List ℕ × of_scope.Item MacroId ImportOrExternCrate)

module _ (seen scope : ScopeValue) (is : seen ≡ scope) (types : TypeItems) (values : ValueItems) (macros : MacroItems) (unresolved : List (List ℕ))
    (u : unresolved ≡ seen.unresolved) where
  seen_types : types ≡ seen.types → types ≡ scope.types
  seen_types t = t ∙ ap (λ (s : ScopeValue). s.types) is

  seen_values : values ≡ seen.values → values ≡ scope.values
  seen_values v = v ∙ ap (λ (s : ScopeValue). s.values) is

  seen_macros : macros ≡ seen.macros → macros ≡ scope.macros
  seen_macros m = m ∙ ap (λ (s : ScopeValue). s.macros) is

  seen_unresolved : unresolved ≡ scope.unresolved
  seen_unresolved = u ∙ ap (λ (s : ScopeValue). s.unresolved) is

  pub types_change : (made : TypeItems) → types ≡ made → values ≡ seen.values → macros ≡ seen.macros
      → record seen { types = types; values = values; macros = macros; unresolved = unresolved } ≡ record scope { types = made }
  types_change made t v m =
      λ i. record (is i) { types = t i; values = seen_values v i; macros = seen_macros m i; unresolved = seen_unresolved i }

  pub values_change : (made : ValueItems) → types ≡ seen.types → values ≡ made → macros ≡ seen.macros
      → record seen { types = types; values = values; macros = macros; unresolved = unresolved } ≡ record scope { values = made }
  values_change made t v m =
      λ i. record (is i) { types = seen_types t i; values = v i; macros = seen_macros m i; unresolved = seen_unresolved i }

  pub macros_change : (made : MacroItems) → types ≡ seen.types → values ≡ seen.values → macros ≡ made
      → record seen { types = types; values = values; macros = macros; unresolved = unresolved } ≡ record scope { macros = made }
  macros_change made t v m =
      λ i. record (is i) { types = seen_types t i; values = seen_values v i; macros = m i; unresolved = seen_unresolved i }

-- ---- a scope in which candidates are bound to a name

pub all_bound : (seen scope : ScopeValue) → seen ≡ scope → (name : List ℕ) (given : Candidates) (types : TypeItems) (values : ValueItems) (macros : MacroItems)
    (unresolved : List (List ℕ)) (type_imports : List (ImportOrExternCrate × ImportOrDef)) (value_imports : List (ImportOrGlob × ImportOrDef))
    (macro_imports : List (ImportOrExternCrate × ImportOrDef))
    → types ≡ written_items name given.types seen.types → values ≡ written_items name given.values seen.values
    → macros ≡ written_items name given.macros seen.macros → unresolved ≡ seen.unresolved
    → type_imports ≡ written_records item_order.ghosts.cmp given.types seen.type_imports
    → value_imports ≡ written_records value_order.ghosts.cmp given.values seen.value_imports
    → macro_imports ≡ written_records item_order.ghosts.cmp given.macros seen.macro_imports
    → record seen {
      types = types;
      values = values;
      macros = macros;
      unresolved = unresolved;
      type_imports = type_imports;
      value_imports = value_imports;
      macro_imports = macro_imports;
    }
    ≡ written_scope name given scope
all_bound seen scope is name given types values macros unresolved type_imports value_imports macro_imports t v m u ti vi mi =
    λ i. record (is i) {
      types = (t ∙ ap (λ (s : ScopeValue). written_items name given.types s.types) is) i;
      values = (v ∙ ap (λ (s : ScopeValue). written_items name given.values s.values) is) i;
      macros = (m ∙ ap (λ (s : ScopeValue). written_items name given.macros s.macros) is) i;
      unresolved = (u ∙ ap (λ (s : ScopeValue). s.unresolved) is) i;
      type_imports = (ti ∙ ap (λ (s : ScopeValue). written_records item_order.ghosts.cmp given.types s.type_imports) is) i;
      value_imports = (vi ∙ ap (λ (s : ScopeValue). written_records value_order.ghosts.cmp given.values s.value_imports) is) i;
      macro_imports = (mi ∙ ap (λ (s : ScopeValue). written_records item_order.ghosts.cmp given.macros s.macro_imports) is) i;
    }
