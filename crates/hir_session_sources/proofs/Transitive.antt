-- The lists that are kept are those of the transitive dependencies of the crates.
use Rattle.std.proofs.Common.{◌≡◌, inl, inr, ℕ, zero, suc, ◌+◌, ◌<◌, ◌≤◌, List, [], ◌∷◌, ◌++◌, length}
use Rattle.std.proofs.Common.{map, Option, Some, None, Result, Ok, Err, OnOk, option_map, slice_get}
use Rattle.std.proofs.Common.{◌-◌, subst, take, drop}
use Rattle.std.proofs.lemmas.List.{get_or-drop, get_or-set_other, length-drop, length-take-le, take_all}
use Rattle.std.proofs.Common.{slice_index_or, refl, sym, ap, ◌∙◌, arith}
use Rattle.std.proofs.lemmas.Bool.{cases_lt}
use Rattle.hir_session_state.specs.HirIds.declared.ids.Crate.{Crate}
use Rattle.hir_session_state.specs.HirCrateGraph.Dependencies.{AgreeBelow, AreTransitive}
use Rattle.hir_session_state.specs.HirCrateGraph.declared.transitive.CrateGraphError.{CrateGraphError}
use Rattle.hir_session_state.specs.HirCrateGraph.Graph.{Adds}
use Rattle.hir_session_state.proofs.HirCrateGraph.Closure.{transitive_at}
use Rattle.hir_session_state.specs.HirCollectorRules.Workspace.{ConfigValue, dependencies_of, earlier}
use Rattle.hir_session_state.specs.HirCollectorRules.declared.source_database.Dependency.{Dependency}
use Rattle.hir_session_state.specs.Crates.{CrateValue, AreTransitiveOf, config_in, crate_in, dependencies_in, no_crate, transitive_in, with_config}
use Rattle.hir_session_state.proofs.HirCollectorRules.Dependencies.{all_earlier}
use Rattle.hir_session_state.proofs.Renewed.{config_there, length_renewed, other_config, own_config, own_crate}
use Rattle.hir_session_state.proofs.Truth.{on_same}

-- what stands at a number
pub some_at : {A : Type 0} (xs : List A) (k : ℕ) (d : A) → k < length xs → slice_get xs k ≡ Some (slice_index_or xs k d)
some_at [] k d lt = absurd (omega arith)
some_at (x ∷ xs) zero d lt = refl
some_at (x ∷ xs) (suc k) d lt = some_at xs k d (omega arith)

pub none_at : {A : Type 0} (xs : List A) (k : ℕ) → length xs ≤ k → slice_get xs k ≡ None
none_at [] k past = refl
none_at (x ∷ xs) zero past = absurd (omega arith)
none_at (x ∷ xs) (suc k) past = none_at xs k (omega arith)

-- the list of a crate that is there is that of its transitive dependencies
pub listed_at : (crates : List CrateValue) (lists : List (List Crate)) → AreTransitiveOf crates lists → (krate : Crate)
    → slice_get lists krate.0 ≡ option_map (λ (c : ConfigValue). transitive_in crates krate.0) (config_in crates krate)
listed_at crates lists are krate = elim (cases_lt krate.0 (length lists)) [
  | inl lt ↦
      let there : krate.0 < length crates = omega (arith, are.count) in
      some_at lists krate.0 [] lt
      ∙ ap (λ (cs : List Crate). Some cs) (ap (λ (all : List (List Crate)). slice_index_or all krate.0 []) are.each.each ∙ transitive_at
      (dependencies_in crates) (length lists) krate.0 lt)
      ∙ ap (λ (o : Option CrateValue). option_map (λ (c : ConfigValue). transitive_in crates krate.0) (option_map (λ (c : CrateValue). c.config) o))
      (sym (some_at crates krate.0 (crate_in crates krate.0) there))
  | inr le ↦
      let past : length crates ≤ krate.0 = omega (arith, are.count) in
      none_at lists krate.0 le
      ∙ ap (λ (o : Option CrateValue). option_map (λ (c : ConfigValue). transitive_in crates krate.0) (option_map (λ (c : CrateValue). c.config) o))
      (sym (none_at crates krate.0 past))
]

-- the lists of the crates below a number
pub record AreListed (crates : List CrateValue) (lists : List (List Crate)) (k : ℕ) : Type 0 where
  pub count : length lists ≡ k
  pub each : AreTransitive (dependencies_in crates) lists

pub listed-start : (crates : List CrateValue) (lists : List (List Crate)) → lists ≡ [] → AreListed crates lists 0
listed-start crates lists none = rw none (record {
  count = refl;
  each = record { ordered = λ k lt. absurd (omega arith); each = refl };
})

-- what the crate of a number depends on
direct_at : (crates : List CrateValue) (k : ℕ) (c other : CrateValue) → k < length crates → c ≡ slice_index_or crates k other
    → dependencies_in crates k ≡ earlier k (map (λ (d : Dependency). d.krate) c.config.dependencies)
direct_at crates k c other lt is =
    ap (λ (o : Option CrateValue). earlier k (map (λ (d : Dependency). d.krate) (dependencies_of (option_map (λ (x : CrateValue). x.config) o))))
    (some_at crates k other lt ∙ ap (λ (x : CrateValue). Some x) (sym is))

-- one more
pub listed-more : (crates : List CrateValue) (old new : List (List Crate)) (k : ℕ) (c other : CrateValue) → k < length crates → c
    ≡ slice_index_or crates k other → AreListed crates old k
    → ((direct : ℕ → List Crate) → AreTransitive direct old → direct (length old)
    ≡ earlier (length old) (map (λ (d : Dependency). d.krate) c.config.dependencies)
    → AreTransitive direct new)
    → length new ≡ length old + 1 → AreListed crates new (k + 1)
listed-more crates old new k c other lt is so_far added longer = record {
  count = let count = so_far.count in omega arith;
  each = added (dependencies_in crates) so_far.each (ap (dependencies_in crates) so_far.count ∙ direct_at crates k c other lt is
      ∙ ap (λ (n : ℕ). earlier n (map (λ (d : Dependency). d.krate) c.config.dependencies)) (sym so_far.count));
}

-- one that is taken has only dependencies that come before it, so those are all
pub added_by : (old new : List (List Crate)) (named : List Crate) (r : Result (Unit {0}) CrateGraphError) → OnOk r (Adds old new named)
    → ((direct : ℕ → List Crate) → AreTransitive direct old → direct (length old) ≡ named → OnOk r (AreTransitive direct new))
    → (direct : ℕ → List Crate) → AreTransitive direct old → direct (length old) ≡ earlier (length old) named → OnOk r (AreTransitive direct new)
added_by old new named (Ok u) added taken direct are is = taken direct are (is ∙ all_earlier (length old) named added.in_order)
added_by old new named (Err e) added taken direct are is = tt

-- ---- one crate with other data

-- the lists of those before it are those that are kept
pub listed-before : (crates : List CrateValue) (lists short : List (List Crate)) (k : ℕ) (config : ConfigValue) → k < length crates → AreTransitiveOf crates lists
    → short ≡ take k lists → ((direct other : ℕ → List Crate) → AreTransitive direct lists → AgreeBelow k direct other → AreTransitive other short)
    → AreListed (with_config crates k config) short k
listed-before crates lists short k config within are is first = record {
  count = ap (λ (ls : List (List Crate)). length ls) is ∙ length-take-le k lists (omega (arith, are.count));
  each = first (dependencies_in crates) (dependencies_in (with_config crates k config)) are.each
      (λ j low. ap (λ (o : Option ConfigValue). earlier j (map (λ (d : Dependency). d.krate) (dependencies_of o)))
      (other_config crates k config (record { 0 = j }) (λ same. absurd (omega (arith, same)))));
}

-- where the crate names those that it named, all lists stay
pub listed-alike : (crates : List CrateValue) (lists : List (List Crate)) (k : ℕ) (config : ConfigValue) → k < length crates
    → map (λ (d : Dependency). d.krate) (crate_in crates k).config.dependencies ≡ map (λ (d : Dependency). d.krate) config.dependencies
    → AreTransitiveOf crates lists → AreTransitiveOf (with_config crates k config) lists
listed-alike crates lists k config within same are = record {
  count = are.count ∙ sym (length_renewed crates k config);
  each = subst (λ (direct : ℕ → List Crate). AreTransitive direct lists) (λ i j. alike j i) are.each;
}
  where
    names : ℕ → Option ConfigValue → List Crate
    names j o = earlier j (map (λ (d : Dependency). d.krate) (dependencies_of o))

    alike : (j : ℕ) → dependencies_in crates j ≡ dependencies_in (with_config crates k config) j
    alike j = on_same j k
        (λ is. subst (λ (n : ℕ). dependencies_in crates n ≡ dependencies_in (with_config crates k config) n) (sym is)
        (ap (names k) (config_there crates k within) ∙ ap (earlier k) same ∙ sym (ap (names k) (own_config crates k config within))))
        (λ apart. sym (ap (names j) (other_config crates k config (record { 0 = j }) apart)))

-- its own is added
pub listed-own : (crates : List CrateValue) (old new : List (List Crate)) (k : ℕ) (config : ConfigValue) → k < length crates
    → AreListed (with_config crates k config) old k
    → ((direct : ℕ → List Crate) → AreTransitive direct old → direct (length old)
    ≡ earlier (length old) (map (λ (d : Dependency). d.krate) config.dependencies)
    → AreTransitive direct new)
    → length new ≡ length old + 1 → AreListed (with_config crates k config) new (k + 1)
listed-own crates old new k config within =
    let long = length_renewed crates k config in
    listed-more (with_config crates k config) old new k (record (crate_in crates k) { config = config }) no_crate (omega (arith, long))
    (sym (own_crate crates k config within))

-- and those of the crates behind it
abbrev pub behind : List CrateValue → ℕ → List CrateValue
behind crates k = take (length crates - (k + 1)) (drop (k + 1) crates)

pub listed-behind : (crates : List CrateValue) (old new : List (List Crate)) (k i : ℕ) (config : ConfigValue) (c other : CrateValue)
    → i < length (behind crates k) → c ≡ slice_index_or (behind crates k) i other → AreListed (with_config crates k config) old ((k + 1) + i)
    → ((direct : ℕ → List Crate) → AreTransitive direct old → direct (length old)
    ≡ earlier (length old) (map (λ (d : Dependency). d.krate) c.config.dependencies)
    → AreTransitive direct new)
    → length new ≡ length old + 1 → AreListed (with_config crates k config) new ((k + 1) + (i + 1))
listed-behind crates old new k i config c other low is so_far added longer =
    let long = length_renewed crates k config in
    let left = length-drop (k + 1) crates in
    let whole : behind crates k ≡ drop (k + 1) crates = take_all (length crates - (k + 1)) (drop (k + 1) crates) (omega (arith, left)) in
    let within : i < length (drop (k + 1) crates) = subst (λ (cs : List CrateValue). i < length cs) whole low in
    let there : (k + 1) + i < length (with_config crates k config) = omega (arith, long, left) in
    subst (AreListed (with_config crates k config) new) (omega arith)
    (listed-more (with_config crates k config) old new ((k + 1) + i) c other there
    (is ∙ ap (λ (cs : List CrateValue). slice_index_or cs i other) whole ∙ at_behind) so_far added longer)
  where
    at_behind : slice_index_or (drop (k + 1) crates) i other ≡ slice_index_or (with_config crates k config) ((k + 1) + i) other
    at_behind =
        get_or-drop (k + 1) crates i other
        ∙ sym (get_or-set_other crates k ((k + 1) + i) (record (crate_in crates k) { config = config }) other (λ same. absurd (omega (arith, same))))

pub listed-end : (crates : List CrateValue) (lists : List (List Crate)) (k : ℕ) → k ≡ length crates → AreListed crates lists k → AreTransitiveOf crates lists
listed-end crates lists k all so_far = record { count = so_far.count ∙ all; each = so_far.each }

length_more : {A : Type 0} (xs : List A) (x : A) → length (xs ++ x ∷ []) ≡ length xs + 1
length_more [] x = refl
length_more (y ∷ ys) x = let e = length_more ys x in omega arith

pub length-adds : {old new : List (List Crate)} {ds : List Crate} → Adds old new ds → length new ≡ length old + 1
length-adds {old} adds = ap (λ (xs : List (List Crate)). length xs) adds.is ∙ length_more old adds.union
