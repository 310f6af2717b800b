-- The text is a name, which its five characters show.
use Rattle.std.proofs.Common.{refl, lit≤, subst, sym}
use Rattle.std.specs.Prelude.{codes}
use Rattle.std.specs.Str.{chars}
use Rattle.hir_ids.specs.NameForm.{IsName}
use Rattle.hir_ids.proofs.name.NameMadeWithGlobal.made_with.Goals as goal

blank : IsName (codes "blank")
unfolding chars
blank = (refl, lit≤ tt)

pub invariant_of-result : goal.invariant_of-result
invariant_of-result c = subst IsName (sym c.blank.ensures.value) blank
