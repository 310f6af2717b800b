-- Where does the first entry of a node stand?
use Rattle.std.specs.Prelude.{◌≡◌, ℕ, suc, List, [], ◌∷◌, Option, None, Some, if◌then◌else◌}
use Rattle.std.specs.BTreeMap.{BTreeMap, is_at, get}
use Rattle.hir_item_tree.specs.declared.check.NodeId.{NodeId}
use Rattle.hir_item_tree.specs.declared.side_lists.SideEntry.{SideEntry as KeptEntry}
use Rattle.hir_item_tree.specs.contracts.check.NodeIdOrd.TheImpl.{ghosts}

-- the place of the first entry of a node, where the first of all has this place
abbrev pub place_of : NodeId → ℕ → List KeptEntry → Option ℕ
place_of n first [] = None
place_of n first (e ∷ es) = if is_at (ghosts.cmp e.node) n then Some first else place_of n (suc first) es

-- the table has the place of the first entry of each node
abbrev pub IsIndex : BTreeMap NodeId ℕ → List KeptEntry → Type 0
IsIndex places es = (n : NodeId) → get ghosts.cmp places n ≡ place_of n 0 es
