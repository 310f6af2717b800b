-- The words grow by zeros, and each is joined with the other set's.
use Rattle.std.proofs.Common.{◌≡◌, ℕ, List, Bool, ◌||◌, ap, ap₂, ◌∙◌, length, arith}
use Rattle.std.specs.Vec.{with_items}
use Rattle.std.proofs.lemmas.List.{with_items_is}
use Rattle.hir_crate_graph.specs.Bits.{has_bit}
use Rattle.hir_crate_graph.proofs.Rows.{IsAscending-members, members-alike, Gains-union, on_err}
use Rattle.hir_crate_graph.proofs.crate_set.CrateSet.union_with.Goals as goal

pub returns-in_err-lengthen-clause-ascending : goal.returns-in_err-lengthen-clause-ascending
returns-in_err-lengthen-clause-ascending c = IsAscending-members c.lengthen.new.words.items

pub returns-in_err-lengthen-clause-err : goal.returns-in_err-lengthen-clause-err
returns-in_err-lengthen-clause-err c = rw (← c.self.view_is)
    (on_err c.from_residual.result (members-alike c.lengthen.new.words.items c.self.inside.words.items c.lengthen.ensures.same))

pub returns-clause-ok : goal.returns-clause-ok
returns-clause-ok c =
    let kept = c.set_all.auto.words in
    let lent : length c.as_mut_slice.result.now ≡ length c.lengthen.new.words.items = ap length c.as_mut_slice.ensures.value in
    let own = c.lengthen.new.words.ok.0 in
    let written : (with_items c.lengthen.new.words c.set_all.new.words).items ≡ c.set_all.new.words = with_items_is c.lengthen.new.words c.set_all.new.words
    (omega arith) in
    rw (← c.self.view_is, ← c.other.view_is) (Gains-union c.self.inside.words.items (with_items c.lengthen.new.words c.set_all.new.words).items
    c.other.inside.words.items (λ n.
    ap (λ (ws : List ℕ). has_bit ws n) written ∙ c.set_all.ensures.value n
    ∙ ap₂ (λ (a b : Bool). a || b) (ap (λ (ws : List ℕ). has_bit ws n) c.as_mut_slice.ensures.value ∙ c.lengthen.ensures.same n)
    (ap (λ (ws : List ℕ). has_bit ws n) c.as_slice.ensures.value)))

pub returns-clause-ascending : goal.returns-clause-ascending
returns-clause-ascending c = IsAscending-members (with_items c.lengthen.new.words c.set_all.new.words).items
