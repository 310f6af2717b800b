use Rattle.std.proofs.Common.{rules, ◌≡◌, ◌++◌, [], ◌∷◌, List, refl}
use Rattle.std.specs.List.{FoldsTo}
use Rattle.std.proofs.lemmas.Fn.{chained_keeps}
use Rattle.hir_collector_state.specs.HirUseTree.declared.imports.Import.{Import}
use Rattle.hir_collector_macros.specs.contracts.imports.fn.expanded.expand as closure
use Rattle.hir_collector_macros.proofs.imports.expanded.Goals as goal

-- what each call keeps, the calls one after another keep
keeps : {A P : Type 0} {R : P → A → P → Type 0} {p q : P} {xs : List A} → FoldsTo R p xs q → (J : P → List A → P → Type 0)
    → ((xs : List A) (q : P) (x : A) (v : P) → J p xs q → R q x v → J p (xs ++ (x ∷ [])) v) → J p [] p → J p xs q
keeps {R = R} {p = p} {q = q} {xs = xs} calls J step start = chained_keeps R (J p) step xs p q start calls

-- each import that was handed out so far was pushed, in order
pub returns : goal.returns
returns c =
    let e = keeps c.in_ok-expand.ensures.ok (λ p (xs : List Import) f. (f.0.ghost_name ≡ p.0.ghost_name) × ((closure.captures f).imports.items ≡ xs))
    (λ xs q x v j k. (rw (← j.0) (search rules), rw (← j.1) (search rules))) (refl, cc) in
    record { value = first_of (search rules, cc) }
