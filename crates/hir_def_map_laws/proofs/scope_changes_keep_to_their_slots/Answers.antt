-- Each by itself.
use Rattle.hir_def_map_laws.proofs.SlotLists.{follow_scopes, no_scope, one_scope_change, scope_changes, scope_pushed, scope_traits, scope_updates}
use Rattle.hir_def_map_laws.proofs.SlotLists.{unread_scopes}
use Rattle.hir_def_map_laws.proofs.scope_changes_keep_to_their_slots.Goals as goal

pub returns : goal.returns
returns c = record {
  nothing = no_scope;
  one = one_scope_change;
  scopes = scope_changes;
  pushed = scope_pushed;
  updates = scope_updates;
  traits = scope_traits;
  several = follow_scopes;
  unread = unread_scopes;
}
