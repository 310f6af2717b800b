-- What wasn't found among the targets isn't there.
use Rattle.std.proofs.Common.{◌≡◌, ◌∙◌, ap, sym, subst, rules, List}
use Rattle.std.specs.Prelude.{Contains, slice_get}
use Rattle.hir_def_map_rules.proofs.Modules.{slice_get-read}
use Rattle.hir_import_rules.specs.Directives.{TakenValue}
use Rattle.hir_import_rules.specs.declared.directive.ImportDirective.{ImportDirective}
use mathlib.Core.Bool.{true≢false}
use Rattle.hir_import_resolution.proofs.Settled.{only_one}
use Rattle.hir_import_resolution.proofs.resolver.Resolver.linking.Goals as goal

pub returns-clause-due : goal.returns-clause-due
returns-clause-due c =
    let import = sym (ap (λ (xs : List ImportDirective). slice_get xs c.args.i) c.deref.ensures.value)
    ∙ slice_get-read c.deref.result.now c.args.i c.in_ok-import.import.now c.in_ok-import.ensures.lookup.3.0 c.in_ok-import.ensures.lookup.1 in
    let path = c.requires.path c.in_ok-import.import.now import in
    record {
      r = c.in_ok-import.import.now;
      t = c.in_ok-before.before.now;
      by = c.in_ok-id.id;
      target = c.in_ok-source.source;
      import = import;
      before = sym (ap (λ (xs : List TakenValue). slice_get xs c.args.i) c.deref-2.ensures.value)
          ∙ slice_get-read c.deref-2.result.now c.args.i c.in_ok-before.before.now c.in_ok-before.ensures.lookup.3.0 c.in_ok-before.ensures.lookup.1;
      is_glob = sym c.in_ok-id.ensures.value;
      reaches = cc (c.in_ok-source.ensures.value, path, c.id.ensures.value, c.map.ensures.value);
      fresh = λ h. absurd (true≢false (sym (c.if-is_for.ensures.value.1 h)));
      is = λ i. record { source = c.in_ok-source.source; importer = c.in_ok-import.import.now.home; id = c.in_ok-id.id; vis = c.visibility_of.ensures.value i };
    }

pub returns-then-is_for-clause-linked : goal.returns-then-is_for-clause-linked
returns-then-is_for-clause-linked c = record {
  linked = λ r t by target r_is t_is glob reached.
      let import = sym (ap (λ (xs : List ImportDirective). slice_get xs c.args.i) c.deref.ensures.value)
      ∙ slice_get-read c.deref.result.now c.args.i c.in_ok-import.import.now c.in_ok-import.ensures.lookup.3.0 c.in_ok-import.ensures.lookup.1 in
      let before = sym (ap (λ (xs : List TakenValue). slice_get xs c.args.i) c.deref-2.ensures.value)
      ∙ slice_get-read c.deref-2.result.now c.args.i c.in_ok-before.before.now c.in_ok-before.ensures.lookup.3.0 c.in_ok-before.ensures.lookup.1 in
      let path = c.requires.path r r_is in
      let same : target ≡ c.in_ok-source.source = cc (reached, c.in_ok-source.ensures.value, path, c.id.ensures.value, c.map.ensures.value) in
      subst (λ (x : TakenValue). Contains x.targets target) (only_one (slice_get c.args.self.now.taken.items c.args.i) c.in_ok-before.before.now t before t_is)
      (subst (Contains c.in_ok-before.before.now.targets) (sym same) (c.is_for.ensures.value.0 (search rules)));
}
