-- A pair is taken out, and looked at.
use Rattle.std.proofs.Common.{◌≡◌, ◌∙◌, ap, sym, true, false, [], ◌∷◌, ◌++◌, rules}
use Rattle.hir_glob_imports.specs.Inner.{pair}
use Rattle.hir_glob_imports.specs.Waves.{GlobsValue}
use Rattle.hir_glob_imports.proofs.Advancing.{beside, looks_join_at, looks_none, spent_join}
use Rattle.hir_glob_imports.proofs.glob_imports.GlobImports.advance.Goals as goal

pub pending-init : goal.pending-init
pending-init g c = record {
  looks = looks_none g.N.Names.table c.args.names.now c.args.self.now c.args.count.now c.args.changes.now.items;
  kept = λ old. old;
  small = c.requires.small;
}

pub returns-then-branch-clause-looks : goal.returns-then-branch-clause-looks
returns-then-branch-clause-looks g c =
    looks_join_at g.N.Names.table true c.in_ok-look.field-0 c.if-branch.true c.args.names.now c.pending.names c.look.new.names c.args.self.now c.pending.self
    (record { edges = c.self.inside.edges.items; brought = c.self.inside.brought.entries; pending = c.pop.new.self.items }) c.look.new.self
    c.args.count.now c.pending.count c.look.new.count c.args.changes.now.items c.pending.changes.items c.look.new.changes.items c.pending.invariant.looks
    (ap (λ (x : GlobsValue). x.edges) c.self.view_is) (ap (λ (x : GlobsValue). x.brought) c.self.view_is) c.in_ok-look.ensures.looks

pub returns-then-branch-clause-kept : goal.returns-then-branch-clause-kept
returns-then-branch-clause-kept g c = λ old.
    let popped : c.self.inside.pending.items ≡ c.pop.new.self.items ++ pair c.in-Some.j c.in-Some.key ∷ [] =
    search (rules, c.in-Some.ensures.items) in
    c.in_ok-look.ensures.kept
    (beside (g.N.Names.table.view c.pending.names) c.pending.self
    (record { edges = c.self.inside.edges.items; brought = c.self.inside.brought.entries; pending = c.pop.new.self.items }) c.in-Some.j c.in-Some.key
    (ap (λ (x : GlobsValue). x.edges) c.self.view_is) (ap (λ (x : GlobsValue). x.brought) c.self.view_is)
    (ap (λ (x : GlobsValue). x.pending) (sym c.self.view_is) ∙ popped) (c.pending.invariant.kept old))

pub pending-preserved : goal.pending-preserved
pending-preserved g c = record {
  looks =
      looks_join_at g.N.Names.table false c.in_ok-look.field-0 c.if-branch.false c.args.names.now c.pending.names c.look.new.names c.args.self.now
      c.pending.self
      (record { edges = c.self.inside.edges.items; brought = c.self.inside.brought.entries; pending = c.pop.new.self.items }) c.look.new.self
      c.args.count.now c.pending.count c.look.new.count c.args.changes.now.items c.pending.changes.items c.look.new.changes.items c.pending.invariant.looks
      (ap (λ (x : GlobsValue). x.edges) c.self.view_is) (ap (λ (x : GlobsValue). x.brought) c.self.view_is) c.in_ok-look.ensures.looks;
  kept = λ old.
      let popped : c.self.inside.pending.items ≡ c.pop.new.self.items ++ pair c.in-Some.j c.in-Some.key ∷ [] =
      search (rules, c.in-Some.ensures.items) in
      c.in_ok-look.ensures.kept
      (beside (g.N.Names.table.view c.pending.names) c.pending.self
      (record { edges = c.self.inside.edges.items; brought = c.self.inside.brought.entries; pending = c.pop.new.self.items }) c.in-Some.j c.in-Some.key
      (ap (λ (x : GlobsValue). x.edges) c.self.view_is) (ap (λ (x : GlobsValue). x.brought) c.self.view_is)
      (ap (λ (x : GlobsValue). x.pending) (sym c.self.view_is) ∙ popped) (c.pending.invariant.kept old));
  small = c.look.ensures.small;
}

pub returns-in_err-look-clause-many : goal.returns-in_err-look-clause-many
returns-in_err-look-clause-many g c = λ h.
    spent_join g.N.Names.table c.args.names.now c.pending.names c.args.self.now c.pending.self
    (record { edges = c.self.inside.edges.items; brought = c.self.inside.brought.entries; pending = c.pop.new.self.items })
    c.args.count.now c.pending.count c.args.changes.now.items c.pending.changes.items c.pending.invariant.looks
    (ap (λ (x : GlobsValue). x.edges) c.self.view_is) (ap (λ (x : GlobsValue). x.brought) c.self.view_is) (c.in_err-look.ensures.many (search rules))
