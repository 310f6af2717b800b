-- Which page shows the tree of a file?
use Rattle.std.specs.Prelude.{ℕ, nat_lt, List, length, Result, Ok, Err, if◌then◌else◌}
use Rattle.hir_session_state.specs.HirIds.declared.ids.Crate.{Crate}
use Rattle.hir_session_state.specs.HirIds.declared.edition.Edition.{Edition}
use Rattle.hir_session_state.specs.HirItemTree.Page.{page}
use Rattle.hir_session_state.specs.declared.error.TreeTextError.{TreeTextError}
use Rattle.hir_session_state.specs.declared.error.TreeTextError.TheVariants as error
use Rattle.hir_session_state.specs.Crates.{CrateValue, crate_in}
use Rattle.hir_session_state.specs.HirTables.SourcePlaces.{file}
use Rattle.hir_session_state.specs.Files.{file_at}
use Rattle.hir_session_state.specs.SourceTable.{tree_under}
use Rattle.hir_session_state.specs.SessionState.{SessionState}

-- the edition of a crate
abbrev pub edition_in : List CrateValue → ℕ → Edition
edition_in crates k = (crate_in crates k).config.edition

-- the page of the file's tree in the crate's edition, or that there is no such crate
abbrev pub tree_text_of : SessionState → Crate → List ℕ → Result (List ℕ) TreeTextError
tree_text_of s krate path =
    if nat_lt krate.0 (length s.crates) then Ok
    (page (edition_in s.crates krate.0) (tree_under s.crates krate.0 (file path) (file_at s.sources.files path)).tree) else
    Err error.UnknownCrate
