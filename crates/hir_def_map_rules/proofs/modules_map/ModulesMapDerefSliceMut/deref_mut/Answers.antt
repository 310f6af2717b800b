-- The list is lent as a whole, so what is left behind it, as many as before, are the modules.
use Rattle.std.proofs.Common.{ℕ, length, refl, ap, ◌∙◌}
use Rattle.std.specs.List.{refill}
use Rattle.hir_def_map_rules.specs.State.{Modules}
use Rattle.hir_def_map_rules.proofs.modules_map.ModulesMapDerefSliceMut.deref_mut.Goals as goal

pub returns : goal.returns
returns c = (
  (
    refl,
    λ w. ap (λ (n : ℕ). record { map = c.self.inside.map; modules = refill n c.self.inside.modules.items w }) c.self.inside.modules.ok.0
        ∙ ap (λ (m : Modules). record { map = m.map; modules = refill (length m.modules) m.modules w }) c.self.view_is,
  ),
  record { lends = tt; value = c.as_mut_slice.ensures.value ∙ ap (λ (m : Modules). m.modules) c.self.view_is },
)
