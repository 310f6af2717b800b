-- A variant that is the enum's leaves the answer to those that are left.
use Rattle.std.proofs.Common.{rules, ◌≡◌, ◌∙◌, ap, sym, refl, true, false, Bool, ◌&&◌, ◌∷◌}
use Rattle.std.specs.Prelude.{not}
use Rattle.hir_ids.specs.contracts.ids.EnumIdPartialEq.TheImpl as enum_id
use Rattle.hir_map_parts.specs.References.{are_variants_of}
use Rattle.hir_map_parts.proofs.enum_variants.EnumVariants.are_of.Goals as goal

not_other : (b : Bool) → not b ≡ false → b ≡ true
not_other true e = refl
not_other false e = absurd cc

pub each-preserved : goal.each-preserved
each-preserved c =
    let taken : c.each.left ≡ (c.in-Some.field-0-0.now, c.in-Some.variant.now) ∷ c.next.new.self = search rules in
    let own : enum_id.ghosts.eq c.in-Some.variant.now.id.parent c.args.id ≡ true = not_other (enum_id.ghosts.eq c.in-Some.variant.now.id.parent c.args.id)
    (sym c.ne.ensures ∙ c.if-ne.false) in
    c.each.invariant ∙ ap (are_variants_of c.args.id) taken ∙ ap (λ (b : Bool). b && are_variants_of c.args.id c.next.new.self) own
