-- How is a tree walked, by the numbers of its items?
use Rattle.std.specs.Prelude.{ℕ, suc, List, [], ◌∷◌, Option, None, Some, max, slice_get}
use Rattle.hir_item_tree.specs.Collected.{collected_of}
use Rattle.hir_item_tree.specs.ItemTree.{Tree}
use Rattle.hir_item_tree.specs.KeptForest.{Head, KeptItem, all_items}
use Rattle.hir_item_tree.specs.Rows.{items_at}
use Rattle.hir_collector_rules.specs.declared.site.ItemHead.{ItemHead}
use Rattle.hir_collector_rules.specs.declared.site.Site.{Site}
use Rattle.hir_collector_rules.specs.State.{Task, behind, visit, visits, visits_over}

-- the plain value of what an item has
abbrev pub head_of : ItemHead → Head
head_of h = record { id = h.id; visibility = h.visibility.now; attributes = collected_of h.attrs.now }

-- the items of a tree that have these numbers, to be visited one after another
abbrev pub visits_at : Tree → Site → List ℕ → List Task
visits_at tree site numbers = visits_over site (items_at (all_items tree.items) numbers)

-- an item, if there is one, to be visited where so many of its attributes are done with
abbrev pub visits_found : Site → ℕ → Option KeptItem → List Task
visits_found site done None = []
visits_found site done (Some i) = visits (behind (visit site i) done) ∷ []

-- the same of the item of a tree that has this number
abbrev pub visits_behind : Tree → Site → ℕ → ℕ → List Task
visits_behind tree site number done = visits_found site done (slice_get (all_items tree.items) number)

-- the least number above these
abbrev pub above : List ℕ → ℕ
above [] = 0
above (n ∷ ns) = max (suc n) (above ns)
