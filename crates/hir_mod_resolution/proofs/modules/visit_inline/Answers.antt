use Rattle.std.proofs.Common.{rules, ◌≡◌, ◌∙◌, ◌++◌, ◌<◌, ℕ, Bool, List, Option, Some, None, length, map, refl, sym, ap, subst}
use Rattle.hir_collector_state.specs.HirItemTree.Collected.{numbered}
use Rattle.hir_collector_state.specs.HirItemTree.Rows.{items_at, numbers_of}
use Rattle.hir_collector_state.specs.HirItemTree.declared.attrs.Attr.{Attr}
use Rattle.hir_collector_state.specs.HirModDir.Directory.{Directory}
use Rattle.hir_collector_state.specs.HirModDir.ModuleFiles.{inline_directory}
use Rattle.hir_collector_state.specs.HirNameres.WorldParts.{part_of}
use Rattle.hir_collector_state.specs.HirCollectorRules.ModuleFiles.{path_attribute}
use Rattle.hir_collector_state.specs.HirCollectorRules.State.{core_in, visits_over}
use Rattle.hir_collector_state.specs.HirCollectorRules.Steps.{closing, inside_module, path_of, visits_inside}
use Rattle.hir_collector_state.specs.HirCollectorRules.TreeReads.{head_of}
use Rattle.hir_mod_resolution.proofs.Outline.{inline_deeper, inline_opened, opened_longer}
use Rattle.hir_mod_resolution.proofs.modules.visit_inline.Goals as goal

pub returns-in_default-clause-ok : goal.returns-in_default-clause-ok
returns-in_default-clause-ok c = λ env items.
    let none : inline_directory c.args.site.now.dir c.args.name.now (path_of (head_of c.args.head)) ≡ None =
    ap (λ (p : Option (List ℕ)). inline_directory c.args.site.now.dir c.args.name.now p)
    (sym (c.path_attr-path.ensures.value ∙ ap (λ (attrs : List Attr). path_attribute (map numbered attrs)) c.as_slice.ensures.value))
    ∙ sym c.in_ok-dir.ensures.value ∙ c.in_default.is in
    inline_opened env (part_of c.args.world) c.args.site.now (head_of c.args.head) c.args.name.now (items_at items (numbers_of c.args.ids.now))
    (core_in c.args.run.now) (core_in c.open.new.run) _ c.requires.enabled
    (search rules) (ap (λ (o : Option Directory). visits_inside (core_in c.args.run.now).map c.args.site.now (head_of c.args.head) o
    (items_at items (numbers_of c.args.ids.now))) (sym none))

pub returns-clause-ok : goal.returns-clause-ok
returns-clause-ok c = λ env items.
    let some : inline_directory c.args.site.now.dir c.args.name.now (path_of (head_of c.args.head)) ≡ Some c.in-Some.dir =
    ap (λ (p : Option (List ℕ)). inline_directory c.args.site.now.dir c.args.name.now p)
    (sym (c.path_attr-path.ensures.value ∙ ap (λ (attrs : List Attr). path_attribute (map numbered attrs)) c.as_slice.ensures.value))
    ∙ sym c.in_ok-dir.ensures.value ∙ c.in-Some.is in
    inline_opened env (part_of c.args.world) c.args.site.now (head_of c.args.head) c.args.name.now (items_at items (numbers_of c.args.ids.now))
    (core_in c.args.run.now) (core_in c.open.new.run) _ c.requires.enabled
    (search rules)
    (ap (λ (home : ℕ). visits_over (record {
      home = home;
      tree = c.args.site.now.tree;
      file = c.args.site.now.file;
      extern_block = None;
      dir = c.in-Some.dir;
      level = c.args.site.now.level;
    }) (items_at items (numbers_of c.args.ids.now))
    ++ closing c.is_macro_use.result c.args.site.now.home home) c.in_ok-home.ensures.made
    ∙ ap (λ (b : Bool). visits_over (inside_module (core_in c.args.run.now).map c.args.site.now c.in-Some.dir) (items_at items (numbers_of c.args.ids.now)) ++
    closing b c.args.site.now.home (length (core_in c.args.run.now).map.modules)) c.is_macro_use.ensures.value
    ∙ ap (λ (o : Option Directory). visits_inside (core_in c.args.run.now).map c.args.site.now (head_of c.args.head) o
    (items_at items (numbers_of c.args.ids.now))) (sym some))

pub returns-clause-within : goal.returns-clause-within
returns-clause-within c = λ tables.
    let some : inline_directory c.args.site.now.dir c.args.name.now (path_of (head_of c.args.head)) ≡ Some c.in-Some.dir =
    ap (λ (p : Option (List ℕ)). inline_directory c.args.site.now.dir c.args.name.now p)
    (sym (c.path_attr-path.ensures.value ∙ ap (λ (attrs : List Attr). path_attribute (map numbered attrs)) c.as_slice.ensures.value))
    ∙ sym c.in_ok-dir.ensures.value ∙ c.in-Some.is in
    let longer : length (core_in c.args.run.now).map.modules < length (core_in c.open.new.run).map.modules = opened_longer (part_of c.args.world)
    (core_in c.args.run.now) (core_in c.open.new.run) c.args.site.now (head_of c.args.head) c.args.name.now _ c.in_ok-home.ensures.ok in (
      record {
        there = subst (λ (n : ℕ). n < length (core_in c.open.new.run).map.modules) (sym c.in_ok-home.ensures.made) longer;
        tree = refl;
        file = refl;
        deep = inline_deeper c.args.site.now.dir c.args.name.now (path_of (head_of c.args.head)) c.in-Some.dir some;
      },
      refl,
    )
