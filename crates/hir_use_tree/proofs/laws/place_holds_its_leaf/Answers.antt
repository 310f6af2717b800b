use Rattle.hir_use_tree.proofs.UseTreePlaces.{place_holds_leaf}
use Rattle.hir_use_tree.proofs.laws.place_holds_its_leaf.Goals as goal

-- by recursion on the tree: its parts stand one after another from its own place on
pub returns : goal.returns
returns c = record { always = place_holds_leaf }
