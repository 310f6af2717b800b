-- What is bound explicitly no glob has brought, and its slot is noted where the push changes anything.
use Rattle.std.proofs.Common.{rules, ◌≡◌, ◌∙◌, ℕ, List, None, ap, refl, subst, sym}
use Rattle.hir_collector_rules.specs.HirScope.Globs.{GlobNames}
use Rattle.hir_collector_rules.specs.HirPerNs.declared.per_ns.PerNs.{PerNs}
use Rattle.hir_collector_rules.specs.HirImportRules.Changed.{ChangedValue, with_slot}
use Rattle.hir_collector_rules.specs.HirDefMapRules.State.{Map, globs_after, pushed}
use Rattle.hir_collector_rules.specs.HirGlobImports.Waves.{GlobsValue, brought_of}
use Rattle.hir_collector_rules.specs.HirImportRules.Changes.{forgotten}
use Rattle.hir_collector_state.specs.contracts.def_collector.DefCollector.{the_view}
use Rattle.hir_collector_rules.specs.State.{Run, core_in, with_bound}
use Rattle.hir_collector_state.specs.Waiting.{IsNoted}
use Rattle.hir_collector_state.proofs.Noted.{noted_push, noted_vain_push}
use Rattle.hir_collector_state.proofs.def_collector.DefCollector.bind.Goals as goal

bound_after : (r : Run) (map : Map) (names : GlobNames) (globs : GlobsValue) (changed : ChangedValue) (home : ℕ) (name : List ℕ) (items : PerNs)
    → map ≡ pushed r.map r.names home name items None → names ≡ globs_after r.map r.names home name items None → globs.edges ≡ r.globs.edges
    → brought_of globs ≡ forgotten home name items (brought_of r.globs) → core_in (record r { map = map; names = names; globs = globs; changed = changed })
    ≡ with_bound (core_in r) home name items
unfolding core_in
bound_after r map names globs changed home name items in_map in_names edges brought = λ i. record {
  map = in_map i;
  local = r.local;
  dependencies = r.dependencies;
  options = r.options;
  globs = record { names = in_names i; edges = edges i; brought = brought i };
  reached = r.reached;
  taken = r.taken;
  calls = r.calls;
  fates = r.fates;
  eager = r.eager;
  settled = r.settled;
  is_proc_macro = r.is_proc_macro;
  exported = r.exported;
  asked = r.asked;
  count = r.count;
}

-- the push may change what the name stands for
pub returns : goal.returns
returns c =
    let before : Run = the_view c.self.inside in
    let after : Run = record before { map = c.push.new.self; names = c.push.new.glob_imports; globs = c.forget.new.globs; changed = c.add.new.self } in
    record {
      ok =
          bound_after before c.push.new.self c.push.new.glob_imports c.forget.new.globs c.add.new.self c.args.home c.args.name c.args.items
          c.in_ok-changes.ensures.ok c.in_ok-changes.ensures.globs
          c.in_ok-forget.ensures.edges c.in_ok-forget.ensures.brought
          ∙ ap (λ (r : Run). with_bound (core_in r) c.args.home c.args.name c.args.items) c.self.view_is;
      noted =
          subst (λ (r : Run). IsNoted r after) c.self.view_is
          (noted_push before after c.args.home c.args.name c.args.items c.in_ok-changes.ensures.ok c.in_ok-forget.ensures.edges c.in_ok-forget.ensures.brought
          c.in_ok-forget.ensures.kept refl refl refl
          (c.in_ok-add.ensures.ok ∙ ap (λ (n : List ℕ). with_slot c.args.home n before.changed) c.in_ok-bound.ensures.value));
    }

-- it changes nothing
pub returns-then-not-changes : goal.returns-then-not-changes
returns-then-not-changes c =
    let before : Run = the_view c.self.inside in
    let after : Run = record before { map = c.push.new.self; names = c.push.new.glob_imports; globs = c.forget.new.globs } in
    record {
      ok =
          bound_after before c.push.new.self c.push.new.glob_imports c.forget.new.globs before.changed c.args.home c.args.name c.args.items
          c.in_ok-changes.ensures.ok c.in_ok-changes.ensures.globs
          c.in_ok-forget.ensures.edges c.in_ok-forget.ensures.brought
          ∙ ap (λ (r : Run). with_bound (core_in r) c.args.home c.args.name c.args.items) c.self.view_is;
      noted =
          subst (λ (r : Run). IsNoted r after) c.self.view_is
          (noted_vain_push before after c.args.home c.args.name c.args.items c.in_ok-changes.ensures.ok c.in_ok-forget.ensures.edges
          c.in_ok-forget.ensures.brought c.in_ok-forget.ensures.kept refl refl refl
          (sym c.in_ok-changes.ensures.changed ∙ search (rules, c.if-not-changes.true)) refl);
    }
