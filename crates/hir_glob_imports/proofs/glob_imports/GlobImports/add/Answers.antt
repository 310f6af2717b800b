-- Each edge is listed by its ends, and the new one is to be looked at at each key of its source.
use Rattle.std.proofs.Common.{◌≡◌, ◌∙◌, ap, sym, subst, refl, ℕ, List, length, arith}
use Rattle.std.specs.Prelude.{Contains}
use Rattle.hir_glob_imports.specs.Types.{Edge}
use Rattle.hir_glob_imports.specs.Inner.{IsIndexed}
use Rattle.hir_glob_imports.specs.Waves.{GlobsValue}
use Rattle.hir_glob_imports.proofs.Linking.{indexed_more, indexed_push, linked_from, edges_added}
use Rattle.hir_glob_imports.proofs.glob_imports.GlobImports.add.Goals as goal

pub invariant_of-self-in_err-add : goal.invariant_of-self-in_err-add
invariant_of-self-in_err-add g c =
    indexed_more c.self.inside.edges.items c.self.inside.out_of c.self.inside.out_of c.self.inside.into c.add.new.self (λ of x h. h) c.add.ensures.kept
    c.self.invariant

pub invariant_of-self-in_err-add_out : goal.invariant_of-self-in_err-add_out
invariant_of-self-in_err-add_out g c =
    indexed_more c.self.inside.edges.items c.self.inside.out_of c.add_out.new.out_of c.self.inside.into c.add.new.self c.add_out.ensures.kept c.add.ensures.kept
    c.self.invariant

pub invariant_of-self-in_err-push : goal.invariant_of-self-in_err-push
invariant_of-self-in_err-push g c =
    subst (λ (es : List Edge). IsIndexed es c.add_out.new.out_of c.add.new.self) (sym c.in_err-push.ensures.items)
    (indexed_more c.self.inside.edges.items c.self.inside.out_of c.add_out.new.out_of c.self.inside.into c.add.new.self c.add_out.ensures.kept
    c.add.ensures.kept c.self.invariant)

pub invariant_of-self-2 : goal.invariant_of-self-2
invariant_of-self-2 g c =
    let last : c.len-j.result ≡ length c.self.inside.edges.items = omega (arith, c.len-j.ensures) in
    indexed_push c.self.inside.edges.items c.push.new.self.items c.args.edge c.len-j.result c.self.inside.out_of c.add_out.new.out_of c.self.inside.into
    c.add.new.self
    c.add_out.ensures.kept c.add.ensures.kept c.in_ok-add_out.ensures.added c.in_ok-add.ensures.added last c.in_ok-push.ensures.items c.self.invariant

pub returns-clause-linked : goal.returns-clause-linked
returns-clause-linked g c =
    let same : c.self.inside.edges.items ≡ c.args.self.now.edges = ap (λ (x : GlobsValue). x.edges) c.self.view_is in
    let inside : c.len-j.result ≡ length c.self.inside.edges.items = omega (arith, c.len-j.ensures) in
    let last : c.len-j.result ≡ length c.args.self.now.edges = inside ∙ ap (λ (es : List Edge). length es) same in
    linked_from (g.N.Names.table.view c.args.names.now) (length c.args.self.now.edges) c.args.edge c.args.self.now
    (record { edges = c.self.inside.edges.items; brought = c.self.inside.brought.entries; pending = c.self.inside.pending.items })
    (record { edges = c.push.new.self.items; brought = c.self.inside.brought.entries; pending = c.add_keys.new.pending.items })
    c.self.view_is refl (edges_added c.args.self.now.edges c.self.inside.edges.items c.push.new.self.items c.args.edge same c.in_ok-push.ensures.items)
    c.in_ok-add_keys.ensures.kept
    (λ key some.
    subst (λ (k : ℕ). Contains c.add_keys.new.pending.items (k, key)) last
    (c.in_ok-add_keys.ensures.each key (c.in_ok-keys.ensures.each key some)))
