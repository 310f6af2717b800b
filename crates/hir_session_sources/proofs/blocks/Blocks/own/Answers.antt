-- It is that of the crate, and its blocks are in their places.
use Rattle.std.proofs.Common.{◌≡◌, ◌∙◌, ap, sym, refl, Option, Some, None, option_map, Bor}
use Rattle.std.specs.Prelude.{IfSome}
use Rattle.std.specs.BTreeMap.{is_at}
use Rattle.std.specs.Map.{lookup}
use Rattle.hir_session_state.specs.HirIds.contracts.ids.CrateOrd.TheImpl as crate_order
use Rattle.hir_session_state.specs.HirIds.declared.ids.Crate.{Crate}
use Rattle.hir_session_state.specs.Blocks.{Blocks}
use Rattle.hir_session_sources.specs.BlockTables.{AreInPlace, ArePlacedIn, SetBlocks, SetTables, sources_of}
use Rattle.hir_session_sources.proofs.BlockLemmas.{own_found, placed-own}
use Rattle.hir_session_sources.proofs.blocks.Blocks.own.Goals as goal

of_copies : (o : Option (Bor SetBlocks)) → option_map (λ (own : Bor SetBlocks). sources_of own.now) o
    ≡ option_map sources_of (option_map (λ (own : Bor SetBlocks). own.now) o)
of_copies None = refl
of_copies (Some own) = refl

in_place : (krate : Crate) (tables : SetTables) → AreInPlace tables → (o : Option (Bor SetBlocks)) → option_map (λ (own : Bor SetBlocks). own.now) o
    ≡ lookup (is_at (crate_order.ghosts.cmp krate)) tables
    → IfSome o (λ (own : Bor SetBlocks). ArePlacedIn krate own.now)
in_place krate tables placed None e = tt
in_place krate tables placed (Some own) e = placed-own krate tables placed own.now (sym e)

pub returns : goal.returns
returns c = record {
  value = of_copies c.get.result ∙ ap (option_map sources_of) c.get.ensures.value ∙ sym (own_found c.args.krate c.self.inside.by_crate.entries)
      ∙ ap (λ (blocks : Blocks). lookup (is_at (crate_order.ghosts.cmp c.args.krate)) blocks) c.self.view_is;
  placed = in_place c.args.krate c.self.inside.by_crate.entries c.self.invariant c.get.result c.get.ensures.value;
}
