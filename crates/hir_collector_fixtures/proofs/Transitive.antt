-- The transitive dependencies of crates, one crate after another.
use Rattle.std.proofs.Common.{◌≡◌, ◌∙◌, ℕ, zero, suc, ◌+◌, ◌<◌, ◌≤◌, List, [], ◌∷◌, length, map, get_or, Option, Some, None, inl, inr, refl, sym, ap, subst}
use Rattle.std.proofs.Common.{arith, false}
use Rattle.std.specs.Prelude.{option_map, slice_get, slice_index_or}
use Rattle.std.proofs.lemmas.Bool.{cases_lt}
use Rattle.std.proofs.lemmas.Option.{slice_get_past}
use Rattle.hir_ids.specs.declared.ids.Crate.{Crate}
use Rattle.hir_crate_graph.specs.Dependencies.{AreTransitive, has_late, transitive_below, transitive_dependencies}
use Rattle.std.proofs.lemmas.List.{length-append}
use Rattle.hir_crate_graph.specs.Graph.{Adds, crates_at}
use Rattle.hir_collector_rules.specs.declared.source_database.Config.{Config}
use Rattle.hir_collector_rules.specs.declared.source_database.Dependency.{Dependency}
use Rattle.hir_crate_graph.proofs.Closure.{transitive_at}
use Rattle.hir_collector_rules.specs.Workspace.{ConfigValue, config_view, direct_by, earlier, named_by, transitive_by}
use Rattle.hir_collector_rules.proofs.Dependencies.{all_earlier}
use Rattle.hir_collector_fixtures.specs.Crates.{AreTheirs, config_in}

there : {A : Type 0} (xs : List A) (k : ℕ) (d : A) → k < length xs → slice_get xs k ≡ Some (slice_index_or xs k d)
there [] k d h = absurd (omega arith)
there (x ∷ xs) zero d h = refl
there (x ∷ xs) (suc k) d h = there xs k d (omega arith)

some_at : (configs : List Config) (k : ℕ) → k < length configs → (c : Config) × (slice_get configs k ≡ Some c)
some_at [] k h = absurd (omega arith)
some_at (c ∷ cs) zero h = (c, refl)
some_at (c ∷ cs) (suc k) h = some_at cs k (omega arith)

pub are_theirs : (configs : List Config) (found : List (List Crate)) → AreTransitive (direct_by (config_in configs)) found → length found ≡ length configs
    → AreTheirs configs found
are_theirs configs found are long krate =
    elim (cases_lt krate.0 (length configs)) as (λ _. slice_get found krate.0 ≡ option_map (λ _. transitive_by (config_in configs) krate)
    (config_in configs krate)) [
      | inl below ↦
          let here : krate.0 < length found = omega (arith, long) in
          let some = some_at configs krate.0 below in
          let at : slice_index_or found krate.0 [] ≡ transitive_by (config_in configs) krate =
          ap (λ (sets : List (List Crate)). crates_at sets krate.0) are.each ∙ transitive_at (direct_by (config_in configs)) (length found) krate.0 here in
          there found krate.0 [] here ∙ ap (λ (cs : List Crate). Some cs) at
          ∙ ap (λ (o : Option Config). option_map (λ _. transitive_by (config_in configs) krate) (option_map config_view o)) (sym some.1)
      | inr past ↦
          let beyond : length configs ≤ krate.0 = omega arith in
          let beyond_found : length found ≤ krate.0 = omega (arith, long) in
          slice_get_past found krate.0 beyond_found
          ∙ ap (λ (o : Option Config). option_map (λ _. transitive_by (config_in configs) krate) (option_map config_view o))
          (sym (slice_get_past configs krate.0 beyond))
    ]

-- what is handed in is what the crate names
pub named_of : (configs : List Config) (k : ℕ) (c : Config) → k < length configs → c ≡ get_or configs k c → named_by (config_in configs) k
    ≡ map (λ (d : Dependency). d.krate) c.dependencies.items
named_of [] k c h e = absurd (omega arith)
named_of (x ∷ xs) zero c h e = ap (λ (y : Config). map (λ (d : Dependency). d.krate) y.dependencies.items) (sym e)
named_of (x ∷ xs) (suc k) c h e = named_of xs k c (omega arith) e

-- where none of them is late, it is what the crate depends on
pub direct_of : (configs : List Config) (k : ℕ) (crates : List Crate) → named_by (config_in configs) k ≡ crates → has_late k crates ≡ false
    → direct_by (config_in configs) k ≡ crates
direct_of configs k crates named none = ap (earlier k) named ∙ all_earlier k crates none

pub one_longer : (old new : List (List Crate)) (dependencies : List Crate) → Adds old new dependencies → length new ≡ length old + 1
one_longer old new dependencies adds = rw adds.is (length-append old (adds.union ∷ []))
