use Rattle.std.proofs.Common.{option_map, ap, ◌∙◌}
use Rattle.serde_json.specs.View.{view}
use Rattle.serde_json.proofs.Views.{view-lookup, view_of_ref}
use Rattle.hir_wire.proofs.json.from_json.field.Goals as goal

-- a look-up in the map is one among the members that it stands for
pub returns-clause-value : goal.returns-clause-value
returns-clause-value c = view_of_ref c.get.result ∙ ap (option_map view) c.get.ensures.value ∙ view-lookup c.args.name.now c.args.members.now.entries
