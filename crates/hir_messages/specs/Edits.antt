-- What does an edit hand in?
use Rattle.std.specs.Prelude.{ℕ, List, [], Option}
use Rattle.hir_base.specs.ModPath.{Path}
use Rattle.hir_base.specs.declared.cfg.CfgAtom.{CfgAtom}
use Rattle.hir_base.specs.declared.place.BlockPlace.{BlockPlace}
use Rattle.hir_ids.specs.declared.ids.Crate.{Crate}
use Rattle.hir_ids.specs.declared.edition.Edition.{Edition}
use Rattle.hir_item_tree.specs.Attributes.{Attributes, attributes_view, no_attributes}
use Rattle.hir_item_tree.specs.Source.{SourceValue, no_items, source_view, unit}
use Rattle.hir_tables.specs.SourcePlaces.{ExpansionValue, expansion_value}
use Rattle.hir_messages.specs.Types.{CallKey, Dependency, Edit, ExpansionEntry}
use Rattle.hir_messages.specs.Types.edit

-- what an expansion gives: its syntax, why it failed, if it did, and the paths that its macro asks to have resolved first
pub record EntryValue : Type 0 where
  pub source : SourceValue
  pub error : Option (List ℕ)
  pub inner : List Path

-- the plain value of an entry, which lists no such paths
abbrev pub entry_view : ExpansionEntry → EntryValue
entry_view e = record { source = source_view e.source; error = e.error; inner = [] }

-- an entry with such paths has no syntax; without any it is that of an empty unit
abbrev pub inner_entry : List Path → Option (List ℕ) → EntryValue
inner_entry paths error = record { source = unit no_attributes no_items; error = error; inner = paths }

-- what an expansion depends on while no path is resolved
abbrev pub call_key_value : CallKey → ExpansionValue
call_key_value key = record { caller = key.caller; called = key.called; call = key.call; input = key.input; reached = [] }

-- the data of a crate that can be edited: all but its root file, and whether it is a procedural macro's
pub record CrateDataValue : Type 0 where
  pub edition : Edition
  pub attributes : Attributes
  pub options : List CfgAtom
  pub deps : List Dependency

-- an edit, as plain values
pub data EditValue : Type 0 where
  -- a file, and its source
  set_file : List ℕ → SourceValue → EditValue
  -- a file that is taken away
  remove_file : List ℕ → EditValue
  -- a block, and its source
  set_block : BlockPlace → SourceValue → EditValue
  -- a block that is taken away
  remove_block : BlockPlace → EditValue
  -- what an expansion depends on, and what it gives
  set_expansion : ExpansionValue → EntryValue → EditValue
  -- an expansion that is taken away
  remove_expansion : ExpansionValue → EditValue
  -- a crate, and the data that it gets
  set_crate : Crate → CrateDataValue → EditValue

-- the plain value of an edit
abbrev pub edit_view : Edit → EditValue
edit_view (edit.SetFile file source) = set_file file (source_view source)
edit_view (edit.RemoveFile file) = remove_file file
edit_view (edit.SetBlock place source) = set_block place (source_view source)
edit_view (edit.RemoveBlock place) = remove_block place
edit_view (edit.SetExpansion key entry) = set_expansion (expansion_value key) (entry_view entry)
edit_view (edit.SetInnerPaths key inner error) = set_expansion (call_key_value key) (inner_entry inner.items error)
edit_view (edit.RemoveExpansion key) = remove_expansion (expansion_value key)
edit_view (edit.SetCrate krate edition attrs cfg deps) =
    set_crate krate (record { edition = edition; attributes = attributes_view attrs.items; options = cfg.items; deps = deps })
