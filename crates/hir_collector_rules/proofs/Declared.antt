-- What a module lists, it goes on listing.
use Rattle.std.proofs.Common.{ℕ, zero, suc, ◌<◌, ◌++◌, List, [], ◌∷◌, length, slice_get, Option, Some, refl, arith, Contains}
use Rattle.std.proofs.lemmas.List.Elements.{Contains-append_left, Contains-append_right}
use Rattle.hir_nameres.specs.HirIds.declared.ids.ModuleDefId.{ModuleDefId}
use Rattle.hir_nameres.specs.HirDefMapRules.Declaration.{listed}
use Rattle.hir_nameres.specs.HirDefMapRules.State.{ModuleValue, changed_at, with_module_scope}
use Rattle.hir_nameres.specs.HirDefMapRules.declared.declaration.Declaration.{Declaration}
use Rattle.hir_nameres.specs.HirDefMapRules.declared.declaration.Declaration.TheVariants as declaration
use Rattle.hir_collector_rules.specs.Causes.{declarations_of}

module _ (def : ModuleDefId) where
  -- a module, if it is there, lists the definition
  abbrev pub Lists : Option ModuleValue → Type 0
  Lists o = Contains (declarations_of o) def

  -- a change of one module after which it lists no less
  pub Lists-changed : (ms : List ModuleValue) (at : ℕ) (change : ModuleValue → ModuleValue) → ((m : ModuleValue) → Lists (Some m) → Lists (Some (change m)))
      → (k : ℕ) → Lists (slice_get ms k) → Lists (slice_get (changed_at ms at change) k)
  Lists-changed [] at change keeps k h = h
  Lists-changed (m ∷ ms) zero change keeps zero h = keeps m h
  Lists-changed (m ∷ ms) zero change keeps (suc k) h = h
  Lists-changed (m ∷ ms) (suc at) change keeps zero h = h
  Lists-changed (m ∷ ms) (suc at) change keeps (suc k) h = Lists-changed ms at change keeps k h

  -- one more module
  pub Lists-longer : (ms : List ModuleValue) (new : ModuleValue) (k : ℕ) → Lists (slice_get ms k) → Lists (slice_get (ms ++ new ∷ []) k)
  Lists-longer [] new k (n, below, is) = absurd (omega arith)
  Lists-longer (m ∷ ms) new zero h = h
  Lists-longer (m ∷ ms) new (suc k) h = Lists-longer ms new k h

  -- one more declaration
  pub Lists-listed : (d : Declaration) (m : ModuleValue) → Lists (Some m) → Lists (Some (with_module_scope (listed d) m))
  Lists-listed (declaration.Def other) m h = Contains-append_left m.scope.declarations (other ∷ []) def h
  Lists-listed other m h = h

  -- what was declared just now
  pub Lists-now : (ms : List ModuleValue) (at : ℕ) → at < length ms → Lists (slice_get (changed_at ms at (with_module_scope (listed (declaration.Def def)))) at)
  Lists-now [] at h = absurd (omega arith)
  Lists-now (m ∷ ms) zero h = Contains-append_right m.scope.declarations (def ∷ []) def (0, omega arith, refl)
  Lists-now (m ∷ ms) (suc at) h = Lists-now ms at (omega arith)
