use Rattle.std.proofs.Common.{rules, ◌≡◌, true, inl}
use Rattle.hir_collector_state.specs.HirNameres.WorldParts.{part_of}
use Rattle.hir_collector_state.specs.HirCollectorRules.Keys.{environment}
use Rattle.hir_collector_state.specs.HirCollectorRules.Moves.{is_single}
use Rattle.hir_collector_state.specs.HirCollectorRules.TreeReads.{head_of}
use Rattle.hir_collector_state.proofs.HirCollectorRules.Numbers.{tables_stay}
use Rattle.hir_mod_collector.proofs.Walked.{block_here, far_item, inline_here, single_here}
use Rattle.hir_mod_collector.proofs.mod_collector.handle_item.Goals as goal
use Rattle.hir_collector_state.specs.HirCollectorRules.State.{core_in}

pub returns-in_err-visit_leaf-in_default : goal.returns-in_err-visit_leaf-in_default
returns-in_err-visit_leaf-in_default g c = record {
  kept = tables_stay c.args.locations.now;
  placed = λ h. h;
  same = c.in_err-visit_leaf-in_default.ensures.same;
  ok = search rules;
  noted = search rules;
  within = search rules;
  many = λ h grown k items.
      let single : is_single c.args.item ≡ true = search rules in
      far_item (environment grown (g.D.SourceDatabase.workspace c.args.db.now)) (part_of c.args.world) c.args.site.now items (head_of c.args.head) c.args.item
      (core_in c.args.run.now) c.requires.enabled (single_here items (head_of c.args.head) c.args.item single)
      (inl (c.in_err-visit_leaf-in_default.ensures.many (search rules)));
}

pub returns-in-Inline-clause-many : goal.returns-in-Inline-clause-many
returns-in-Inline-clause-many g c = λ h grown k items.
    far_item (environment grown (g.D.SourceDatabase.workspace c.args.db.now)) (part_of c.args.world) c.args.site.now items (head_of c.args.head) c.args.item
    (core_in c.args.run.now) c.requires.enabled
    (inline_here items (head_of c.args.head) c.args.item c.in-Mod.item c.in-Inline.items c.in-Mod.is c.in-Inline.is) (c.visit_inline.ensures.many h)

pub returns-in-ExternBlock-clause-many : goal.returns-in-ExternBlock-clause-many
returns-in-ExternBlock-clause-many g c = λ h grown k items.
    far_item (environment grown (g.D.SourceDatabase.workspace c.args.db.now)) (part_of c.args.world) c.args.site.now items (head_of c.args.head) c.args.item
    (core_in c.args.run.now) c.requires.enabled
    (block_here items (head_of c.args.head) c.args.item c.in-ExternBlock.item c.in-ExternBlock.is) (inl (c.enter.ensures.many h))

pub returns-in_ok-visit_leaf-in_default : goal.returns-in_ok-visit_leaf-in_default
returns-in_ok-visit_leaf-in_default g c = record {
  kept = tables_stay c.args.locations.now;
  placed = λ h. h;
  same = c.in_ok-visit_leaf-in_default.ensures.same;
  ok = c.in_ok-visit_leaf-in_default.ensures.ok;
  noted = c.in_ok-visit_leaf-in_default.ensures.noted;
  within = tt;
  many = λ h. absurd (let no : ⊥ = cc in no);
}

pub returns-in-Outline-clause-ok : goal.returns-in-Outline-clause-ok
returns-in-Outline-clause-ok g c = rw (c.in-Mod.is, c.in-Outline.is) c.visit_outline.ensures.ok
