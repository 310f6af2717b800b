-- What is to be done along an edge at a key?
use Rattle.std.specs.Prelude.{ℕ, Bool, ◌&&◌, ◌||◌, not, ◌==◌, Option, None, Some, if◌then◌else◌}
use Rattle.hir_scope.specs.HirPerNs.contracts.item_in_ns.ItemInNsPartialEq.TheImpl as item_in_ns
use Rattle.hir_scope.specs.HirPerNs.contracts.visibility.VisibilityPartialEq.TheImpl as visibility
use Rattle.hir_scope.specs.HirPerNs.declared.item_in_ns.ItemInNs.{ItemInNs}
use Rattle.hir_scope.specs.HirPerNs.declared.visibility.Visibility.{Visibility}
use Rattle.hir_glob_imports.specs.contracts.edge.BoundPartialEq.TheImpl as bound_eq
use Rattle.hir_glob_imports.specs.declared.edge.Bound.{Bound}
use Rattle.hir_glob_imports.specs.declared.edge.Brought.{Brought}
use Rattle.hir_glob_imports.specs.declared.edge.Edge.{Edge}
use Rattle.hir_glob_imports.specs.declared.edge.Key.{Key}
use Rattle.hir_glob_imports.specs.declared.edge.Update.{Update}
use Rattle.hir_glob_imports.specs.declared.edge.Update.TheVariants.{Nothing, Copy, Follow, Raise}
use Rattle.hir_glob_imports.specs.Keys.{is_unnamed}
use Rattle.hir_glob_imports.specs.View.{View}

abbrev pub same_def : ItemInNs → ItemInNs → Bool
same_def = item_in_ns.ghosts.eq

abbrev pub same_vis : Visibility → Visibility → Bool
same_vis = visibility.ghosts.eq

abbrev pub same_bound : Bound → Bound → Bool
same_bound = bound_eq.ghosts.eq

-- what one may see of what stands at a key
abbrev pub seen_by : (Visibility → Bool) → Option Bound → Option Bound
seen_by sees None = None
seen_by sees (Some b) = if sees b.vis then Some b else None

-- what the source of an edge shows its importer at a key
abbrev pub shown : View → Edge → Key → Option Bound
shown v e key = seen_by (v.sees e.importer) (v.bound e.source key)

-- the visibility under which an edge brings what its source shows
abbrev pub brought_vis : View → Edge → Bound → Visibility
brought_vis v e b = v.lesser e.vis b.vis

-- a source and an edge are as they were when the edge last copied or followed
abbrev pub is_as_seen : Edge → Bound → Brought → Bool
is_as_seen e b last = same_bound last.seen b && same_vis last.edge_vis e.vis

-- whether an edge may raise what stands at a key: what another glob brought, and a trait without a name always
abbrev pub may_raise : ℕ → Key → Option Brought → Bool
may_raise j key None = is_unnamed key
may_raise j key (Some last) = is_unnamed key || not (last.edge == j)

-- a visibility gives way to the greater one, where there is one
abbrev pub raise_to : Visibility → Option Visibility → Update
raise_to vis None = Nothing
raise_to vis (Some wide) = if same_vis wide vis then Nothing else Raise wide

-- the same definition takes the greater visibility
abbrev pub raise_of : View → Edge → Bound → Bound → Update
raise_of v e b c = if same_def c.def b.def then raise_to c.vis (v.greater c.vis (brought_vis v e b)) else Nothing

-- what a glob brought follows its own edge, and is raised by others; nothing moves an explicit binding
abbrev pub update_of_brought : View → ℕ → Edge → Bound → Bound → Option Brought → Update
update_of_brought v j e b c None = Nothing
update_of_brought v j e b c (Some last) =
    if last.edge == j then (if is_as_seen e b last then Nothing else Follow b) else raise_of v e b c

abbrev pub update_of_bound : View → ℕ → Edge → Key → Bound → Bound → Option Brought → Update
update_of_bound v j e key b c by = if is_unnamed key then raise_of v e b c else update_of_brought v j e b c by

-- what is to be done along an edge at a key, by what its source shows, what its importer has, and what brought that
abbrev pub update_of : View → ℕ → Edge → Key → Option Bound → Option Bound → Option Brought → Update
update_of v j e key None stands by = Nothing
update_of v j e key (Some b) None by = Copy b
update_of v j e key (Some b) (Some c) by = update_of_bound v j e key b c by
