use Rattle.std.proofs.Common.{◌≡◌, ◌∙◌, ap, sym}
use Rattle.hir_scope.specs.Inner.Entries.{bindings_of}
use Rattle.hir_scope.specs.Scope.{ScopeValue}
use Rattle.hir_scope.proofs.EntryNames.{IsScopeOf, entries_are}
use Rattle.hir_scope.proofs.item_scope.ItemScope.entries.Goals as goal

-- what the entries of the list say
pub returns : goal.returns
returns c =
    let es = c.self.inside.names in
    let scope : IsScopeOf es c.args.self.now = record {
      types = sym (ap (λ (s : ScopeValue). s.types) c.self.view_is);
      values = sym (ap (λ (s : ScopeValue). s.values) c.self.view_is);
      macros = sym (ap (λ (s : ScopeValue). s.macros) c.self.view_is);
      unresolved = sym (ap (λ (s : ScopeValue). s.unresolved) c.self.view_is);
    } in
    let all = entries_are es (record { ascends = c.is_kept.ensures.ascends; says = c.is_kept.ensures.says }) c.args.self.now scope in
    record { value = ap bindings_of c.as_slice.ensures.value ∙ sym all }
