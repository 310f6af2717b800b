-- It is among those of its crate.
use Rattle.std.proofs.Common.{◌∙◌, ap, subst, refl, Option}
use Rattle.std.specs.Prelude.{is_some}
use Rattle.std.specs.BTreeMap.{is_at}
use Rattle.std.specs.Map.{lookup}
use Rattle.hir_session_state.specs.HirIds.contracts.ids.CrateOrd.TheImpl as crate_order
use Rattle.hir_session_state.specs.HirIds.declared.ids.Crate.{Crate}
use Rattle.hir_session_state.specs.HirItemTree.Source.{SourceValue}
use Rattle.hir_session_state.specs.Blocks.{place_of_block, steps_cmp}
use Rattle.hir_session_sources.specs.BlockTables.{ArePlacedIn, SetBlockValue}
use Rattle.hir_session_sources.proofs.BlockLemmas.{in_none, in_own, placed_has, there_of}
use Rattle.hir_session_sources.proofs.blocks.Blocks.has.Goals as goal

pub returns-in-Some : goal.returns-in-Some
returns-in-Some c =
    let place = c.args.place.now in
    let own = c.in-Some.own.now in
    record {
      value = c.has.ensures.value
          ∙ placed_has place.holder.krate own (subst (λ (k : Crate). ArePlacedIn k own) c.krate.ensures.value c.in-Some.ensures.placed) place refl
          ∙ there_of (λ (b : SetBlockValue). b.source) (lookup (is_at (steps_cmp (place_of_block place).elements)) own)
          ∙ ap (λ (o : Option SourceValue). is_some o) (in_own c.args.self.now place.holder.krate (place_of_block place).elements own
          (c.in-Some.ensures.value ∙ ap (λ (k : Crate). lookup (is_at (crate_order.ghosts.cmp k)) c.args.self.now) c.krate.ensures.value));
    }

pub returns-in-None : goal.returns-in-None
returns-in-None c =
    let place = c.args.place.now in
    record {
      value = ap (λ (o : Option SourceValue). is_some o) (in_none c.args.self.now place.holder.krate (place_of_block place).elements
          (c.in-None.ensures.value ∙ ap (λ (k : Crate). lookup (is_at (crate_order.ghosts.cmp k)) c.args.self.now) c.krate.ensures.value));
    }
