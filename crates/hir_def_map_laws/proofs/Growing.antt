-- A map that grows keeps its modules, and the variants of the enums that names stand for.
use Rattle.std.proofs.Common.{◌≡◌, ◌∙◌, sym, refl, length, Bool, false, Option, None, Some}
use Rattle.std.specs.Prelude.{is_some, not}
use Rattle.hir_nameres.specs.HirIds.declared.ids.EnumId.{EnumId}
use Rattle.hir_nameres.specs.HirDefMapRules.State.{Map, Variants, entry_at, variants_at}
use Rattle.hir_nameres.specs.HirDefMapRules.Overlay.{Maps}
use Rattle.hir_nameres.specs.HirDefMapRules.declared.reference.Reference.{Reference}
use Rattle.hir_nameres.specs.HirDefMapRules.declared.reference.Reference.TheVariants as named
use Rattle.hir_def_map_laws.proofs.Changed.{Change, has_others}
use Rattle.hir_nameres.proofs.HirDefMapRules.Fails.{Fails-weaker}
use Rattle.hir_def_map_laws.proofs.SameAbove.{parent_below, same_numbers_above, same_parent_at}
use Rattle.hir_def_map_laws.specs.ReadLaw.{Grows, StandsBeside, has_no_variants}

module _ (finished : Maps) (one other : Map) (stands : StandsBeside finished one) (grows : Grows one other) where
  -- the enums that have no variants yet
  abbrev pub lacks : EnumId → Bool
  lacks id = not (is_some (variants_at one id))

  pub names_have : (n : Reference) → has_no_variants one n ≡ false → has_others one.id lacks n ≡ false
  names_have (named.Module m) e = refl
  names_have (named.Enum id) e = e
  names_have (named.Map id) e = refl

  pub same_variants : (id : EnumId) → lacks id ≡ false → variants_at other id ≡ variants_at one id
  same_variants id e = go (variants_at one id) refl e
    where
      go : (o : Option Variants) → variants_at one id ≡ o → not (is_some o) ≡ false → variants_at other id ≡ variants_at one id
      go None s f = absurd cc
      go (Some variants) s f = grows.enums id variants s ∙ sym s

  abbrev pub grown : Change
  grown = record {
    finished = finished;
    one = one;
    other = other;
    apart = stands.apart;
    id = grows.id;
    holder = grows.holder;
    crate_data = grows.crate_data;
    prelude = grows.prelude;
    bound = Some (length one.modules);
    parents = same_parent_at one other grows stands.in_order;
    parents_below = parent_below one other grows stands.in_order;
    above = same_numbers_above one other grows stands.in_order finished;
    changes = lacks;
    names = λ at name. Fails-weaker (has_no_variants one) (has_others one.id lacks) names_have (entry_at one at name) (stands.enums at name);
    variants = same_variants;
  }
