-- Which reply is told of what a call answers?
use Rattle.std.specs.Prelude.{List, Result, Ok, Err}
use Rattle.hir_session_state.specs.HirBase.Place.{PlaceValue}
use Rattle.hir_session_state.specs.HirMessages.declared.answer.Answer.{Answer}
use Rattle.hir_session_state.specs.HirMessages.declared.diagnostic.Diagnostic.{Diagnostic}
use Rattle.hir_session_state.specs.HirMessages.declared.names.BoundName.{BoundName}
use Rattle.hir_wire.specs.declared.read_error.ReadError.{ReadError}
use Rattle.hir_session_state.specs.HirMessages.declared.reply.Reply.{Reply}
use Rattle.hir_wire.specs.declared.read_error.ReadError.TheVariants as read_error
use Rattle.hir_session_state.specs.HirMessages.declared.reply.Reply.TheVariants as reply
use Rattle.hir_session_state.specs.declared.error.DiagnosticsError.{DiagnosticsError}
use Rattle.hir_session_state.specs.declared.error.EditError.{EditError}
use Rattle.hir_session_state.specs.declared.error.ImplItemsError.{ImplItemsError}
use Rattle.hir_session_state.specs.declared.error.ModulesError.{ModulesError}
use Rattle.hir_session_state.specs.declared.error.NewSessionError.{NewSessionError}
use Rattle.hir_session_state.specs.declared.error.QueryError.{QueryError}
use Rattle.hir_session_state.specs.declared.error.RefreshError.{RefreshError}
use Rattle.hir_session_state.specs.declared.error.TraitItemsError.{TraitItemsError}
use Rattle.hir_session_state.specs.declared.error.TreeTextError.{TreeTextError}
use Rattle.hir_session_state.specs.declared.error.NewSessionError.TheVariants as new_error
use Rattle.hir_session_state.specs.declared.error.EditError.TheVariants as edit_error
use Rattle.hir_session_state.specs.declared.error.RefreshError.TheVariants as refresh_error
use Rattle.hir_session_state.specs.declared.error.QueryError.TheVariants as query_error
use Rattle.hir_session_state.specs.declared.error.TraitItemsError.TheVariants as trait_error
use Rattle.hir_session_state.specs.declared.error.ImplItemsError.TheVariants as impl_error
use Rattle.hir_session_state.specs.declared.error.TreeTextError.TheVariants as tree_text_error
use Rattle.hir_session_state.specs.declared.error.DiagnosticsError.TheVariants as diagnostics_error
use Rattle.hir_session_state.specs.declared.error.ModulesError.TheVariants as modules_error

-- what is told where no session is made
abbrev pub new_reply : NewSessionError → Reply
new_reply (new_error.DependencyOrder krate) = reply.DependencyOrder krate
new_reply (new_error.TooLarge limit) = reply.TooLarge limit
new_reply new_error.Memory = reply.Memory

-- what is told where an edit is refused
abbrev pub edit_reply : EditError → Reply
edit_reply edit_error.UnknownCrate = reply.UnknownCrate
edit_reply (edit_error.TooLarge limit) = reply.TooLarge limit
edit_reply (edit_error.DependencyOrder krate) = reply.DependencyOrder krate
edit_reply (edit_error.DuplicateId kind id) = reply.DuplicateId kind id
edit_reply edit_error.Memory = reply.Memory

-- what is told where a refresh ended early
abbrev pub refresh_reply : RefreshError → Reply
refresh_reply refresh_error.TooMany = reply.TooMany
refresh_reply refresh_error.Memory = reply.Memory

-- what is told where a query has no answer
abbrev pub query_error_reply : QueryError → Reply
query_error_reply query_error.StalePlace = reply.StalePlace
query_error_reply query_error.UnknownPlace = reply.UnknownPlace
query_error_reply query_error.Memory = reply.Memory

-- what a query is answered
abbrev pub query_reply : Result Answer QueryError → Reply
query_reply (Ok a) = reply.Answer a
query_reply (Err why) = query_error_reply why

-- what is told where a trait's items aren't
abbrev pub trait_items_reply : TraitItemsError → Reply
trait_items_reply trait_error.StalePlace = reply.StalePlace
trait_items_reply trait_error.UnknownPlace = reply.UnknownPlace
trait_items_reply trait_error.NotATrait = reply.NotATrait
trait_items_reply trait_error.TooMany = reply.TooMany
trait_items_reply trait_error.Memory = reply.Memory

-- what is told where an impl's items aren't
abbrev pub impl_items_reply : ImplItemsError → Reply
impl_items_reply impl_error.StalePlace = reply.StalePlace
impl_items_reply impl_error.UnknownPlace = reply.UnknownPlace
impl_items_reply impl_error.NoSuchImpl = reply.NoSuchImpl
impl_items_reply impl_error.TooMany = reply.TooMany
impl_items_reply impl_error.Memory = reply.Memory

-- what is told where there is no page
abbrev pub tree_text_reply : TreeTextError → Reply
tree_text_reply tree_text_error.UnknownCrate = reply.UnknownCrate
tree_text_reply tree_text_error.Memory = reply.Memory

-- what is told where diagnostics aren't
abbrev pub diagnostics_error_reply : DiagnosticsError → Reply
diagnostics_error_reply diagnostics_error.UnknownCrate = reply.UnknownCrate
diagnostics_error_reply diagnostics_error.StalePlace = reply.StalePlace
diagnostics_error_reply diagnostics_error.Memory = reply.Memory

-- what a query for diagnostics is answered
abbrev pub diagnostics_reply : Result (List Diagnostic) DiagnosticsError → Reply
diagnostics_reply (Ok list) = reply.Diagnostics list
diagnostics_reply (Err why) = diagnostics_error_reply why

-- what is told where the modules of a crate aren't
abbrev pub modules_error_reply : ModulesError → Reply
modules_error_reply modules_error.UnknownCrate = reply.UnknownCrate
modules_error_reply modules_error.StalePlace = reply.StalePlace
modules_error_reply modules_error.Memory = reply.Memory

-- what a query for them is answered
abbrev pub modules_reply : Result (List PlaceValue) ModulesError → Reply
modules_reply (Ok places) = reply.Places places
modules_reply (Err why) = modules_error_reply why

-- what a query for names is answered
abbrev pub names_reply : Result (List BoundName) QueryError → Reply
names_reply (Ok told) = reply.Names told
names_reply (Err why) = query_error_reply why

-- what is told of a line that is no command
abbrev pub read_reply : ReadError → Reply
read_reply read_error.Json = reply.Json
read_reply read_error.Command = reply.Command
read_reply (read_error.TooLarge limit) = reply.TooLarge limit
read_reply read_error.Memory = reply.Memory
