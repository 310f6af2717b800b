-- Each module of what is kept is written in a file that has a number, or in what a call there expands to.
use Rattle.std.specs.Prelude.{is_some, slice_get, map}
use Rattle.std.proofs.Common.{◌≡◌, ◌∙◌, ap, sym, subst, refl, ℕ, zero, suc, ◌<◌, ◌≤◌, ◌++◌, true, List, [], ◌∷◌, length, IsSome, Option, None, Some}
use Rattle.std.proofs.Common.{option_map, arith, Contains}
use Rattle.std.specs.Option.{option_and_then}
use Rattle.hir_session_state.specs.HirIds.declared.ast_id.AstId.{AstId}
use Rattle.hir_session_state.specs.HirIds.declared.ast_id.BlockId.{BlockId}
use Rattle.hir_session_state.specs.HirIds.declared.ids.Crate.{Crate}
use Rattle.hir_session_state.specs.HirIds.declared.edition.Edition.{Edition}
use Rattle.hir_session_state.specs.HirIds.declared.ast_id.EditionedFileId.{EditionedFileId}
use Rattle.hir_session_state.specs.HirIds.declared.ast_id.FileId.{FileId}
use Rattle.hir_session_state.specs.HirIds.declared.ast_id.HirFileId.{HirFileId}
use Rattle.hir_session_state.specs.HirIds.declared.ast_id.MacroCallId.{MacroCallId}
use Rattle.hir_session_state.specs.HirBase.declared.macro_kind.MacroCallLoc.{MacroCallLoc}
use Rattle.hir_session_state.specs.HirIds.declared.macro_kind.MacroId.{MacroId}
use Rattle.hir_session_state.specs.HirIds.declared.ids.MapId.{MapId}
use Rattle.hir_session_state.specs.HirIds.declared.ids.ModuleId.{ModuleId}
use Rattle.hir_session_state.specs.HirIds.declared.ast_id.HirFileId.TheVariants.{File, Macro}
use Rattle.hir_session_state.specs.HirIds.declared.macro_kind.MacroId.TheVariants as macros
use Rattle.hir_session_state.specs.HirItemTree.KeptForest.{KeptForest}
use Rattle.hir_session_state.specs.HirBase.declared.tree_id.TreeId.{TreeId}
use Rattle.hir_session_state.specs.HirBase.declared.tree_id.TreeKey.{TreeKey}
use Rattle.hir_session_state.specs.HirTables.SourcePlaces.{file}
use Rattle.hir_session_state.specs.HirTables.Tables.{TablesValue, call_at, file_at, source_of}
use Rattle.hir_session_state.specs.HirDefMapRules.Diagnostics.{call_node}
use Rattle.hir_session_state.specs.HirDefMapRules.Overlay.{Maps}
use Rattle.hir_session_state.specs.HirDefMapRules.State.{ModuleValue, module_at}
use Rattle.hir_session_state.specs.HirMapParts.declared.origin.ModuleOrigin.{ModuleOrigin}
use Rattle.hir_session_state.specs.HirCollectorRules.Calls.{AreCallsPlaced, EagerLook, Expanding, Grown, InnerMacro, IsMeantAt, IsPlacedBelow, call_key}
use Rattle.hir_session_state.specs.HirCollectorRules.Calls.{call_kind, call_loc, eager_readings, entry_readings, expansion_readings, grown_readings}
use Rattle.hir_session_state.specs.HirCollectorRules.Calls.{inner_readings, kind_by, text_readings}
use Rattle.hir_session_state.specs.HirCollectorRules.Causes.{HasCause, IsOfCall, IsPassed}
use Rattle.hir_session_state.specs.HirCollectorRules.Causes.HasCause.{root_tree, of_holder, declared_enum, candidate, of_call, of_eager, dependency, handed_in}
use Rattle.hir_session_state.specs.HirCollectorRules.Derivation.{CollectedValue, Ends}
use Rattle.hir_session_state.specs.HirCollectorRules.ModuleFiles.{Reading, file_key}
use Rattle.hir_session_state.specs.HirCollectorRules.Start.{Beginning, held_keys, holder_keys, holders_by, origin_of, read_by, root_site, tree_key}
use Rattle.hir_session_state.specs.HirCollectorRules.State.{State}
use Rattle.hir_session_state.specs.HirCollectorRules.Steps.{keys_read}
use Rattle.hir_session_state.specs.HirCollectorRules.Workspace.{Workspace}
use Rattle.hir_session_state.specs.HirCollectorRules.declared.macro_directive.MacroDirective.{MacroDirective}
use Rattle.hir_session_state.specs.HirCollectorRules.declared.macro_directive.MacroDirectiveKind.{MacroDirectiveKind}
use Rattle.hir_session_state.specs.HirCollectorRules.declared.site.Site.{Site}
use Rattle.hir_session_state.specs.HirCollectorRules.declared.start.Start.{Start}
use Rattle.hir_session_state.specs.HirCollectorRules.declared.macro_directive.MacroDirectiveKind.TheVariants.{Attr, Derive, FnLike}
use Rattle.hir_session_state.specs.HirCollectorRules.declared.source_database.Key.{Key}
use Rattle.hir_session_state.specs.HirCollectorRules.declared.source_database.Key.TheVariants as keys
use Rattle.hir_session_state.specs.HirCollectorRules.declared.start.Start.TheVariants as starts
use Rattle.hir_session_state.proofs.HirCollectorRules.Tried.{call_stays}
use Rattle.hir_session_state.specs.HirDefCollectorLaws.Calls.{IsCallBy}
use Rattle.hir_session_state.specs.HirDefCollectorLaws.Modules.{HasItems}
use Rattle.hir_session_state.specs.HirDefCollectorLaws.Modules.HasItems.{of_root, of_file, inside_item, too_deep, without_file}
use Rattle.hir_session_state.specs.HirDefCollectorLaws.Written.{key_of}
use Rattle.hir_session_state.proofs.HirDefCollectorLaws.Imports.{calls_are_written}
use Rattle.hir_session_state.proofs.HirDefCollectorLaws.Lists.{standing}
use Rattle.hir_session_state.proofs.HirDefCollectorLaws.Modules.{modules_list_their_items}
use Rattle.hir_session_state.specs.Kept.{Resolution, collected_of}
use Rattle.hir_session_state.specs.SessionState.{SessionState, beginning_by, beginning_of, finished_of, kept_of, workspace_of, IsSound}
use Rattle.hir_session_state.specs.Standing.{definition_file, file_around, file_of_module, file_of_origin, file_within, most_calls}
use Rattle.hir_session_state.proofs.Standing.{block_begun, kept_gives}
use Rattle.hir_session_state.proofs.Truth.{no_value, one_value}
use Rattle.hir_session_state.proofs.Worlds.{AgreeOn-refl}
use Rattle.hir_session_answers.proofs.LowerLaws.{asked_keys_have_meaning}

-- ---- where a run begins

-- a run begins with a file, or with a block of one
pub record IsOfFile (from : Beginning) : Type 0 where
  pub root : EditionedFileId
  pub tree : from.tree.file ≡ File root
  pub origin : (t : TablesValue) → file_of_origin t (origin_of from.start) ≡ Some root

pub of_file_begun : (s : SessionState) (id : MapId) (from : Beginning) → beginning_of s id ≡ Some from → IsOfFile from
of_file_begun s id from e = go id.block e
  where
    go : (o : Option BlockId) → beginning_by s id.krate o ≡ Some from → IsOfFile from
    go None f = subst IsOfFile (one_value f) (record { root = _; tree = refl; origin = λ t. refl })
    go (Some b) f = let p = block_begun s id.krate b from f in subst IsOfFile p.is (record { root = p.file; tree = refl; origin = λ t. refl })

-- ---- why a run asked for a tree

same_tree : {a b : TreeKey} → keys.Tree a ≡ keys.Tree b → a ≡ b
same_tree e = cc

-- the key of a tree is such a one
abbrev IfTree : (TreeKey → Type 0) → Key → Type 0
IfTree p (keys.Tree key) = p key
IfTree p (keys.Variants id) = Unit {0}
IfTree p (keys.Text id) = Unit {0}
IfTree p (keys.Input krate ast) = Unit {0}
IfTree p (keys.Expansion id) = Unit {0}
IfTree p (keys.Map id) = Unit {0}
IfTree p (keys.Config krate) = Unit {0}

abbrev TreesAre : (TreeKey → Type 0) → List Reading → Type 0
TreesAre p [] = Unit {0}
TreesAre p (r ∷ rs) = IfTree p r.key × TreesAre p rs

in_both : (p : TreeKey → Type 0) (xs ys : List Reading) → TreesAre p xs → TreesAre p ys → TreesAre p (xs ++ ys)
in_both p [] ys f g = g
in_both p (x ∷ xs) ys f g = (f.0, in_both p xs ys f.1 g)

of_each : (p : TreeKey → Type 0) (rs : List Reading) → TreesAre p rs → (key : TreeKey) → Contains (keys_read rs) (keys.Tree key) → p key
of_each p [] f key h = absurd (let past : h.0 < 0 = h.1 in omega arith)
of_each p (r ∷ rs) f key (zero, within, is) = let at : IfTree p (keys.Tree key) = subst (IfTree p) is f.0 in at
of_each p (r ∷ rs) f key (suc n, within, is) = of_each p rs f.1 key (n, (let past : suc n < suc (length (keys_read rs)) = within in omega arith), is)

of_text : (p : TreeKey → Type 0) (makro : MacroId) (text : Option (List ℕ)) → TreesAre p (text_readings makro text)
of_text p (macros.Macro2Id id) text = (tt, tt)
of_text p (macros.MacroRulesId id) text = (tt, tt)
of_text p (macros.ProcMacroId id) text = tt

of_inner : (p : TreeKey → Type 0) (inner : List InnerMacro) → TreesAre p (inner_readings inner)
of_inner p [] = tt
of_inner p (i ∷ is) = in_both p (text_readings i.makro i.text) (inner_readings is) (of_text p i.makro i.text) (of_inner p is)

of_grown : (p : TreeKey → Type 0) (grown : Option Grown) → TreesAre p (grown_readings grown)
of_grown p None = tt
of_grown p (Some g) = (tt, of_inner p g.macros)

-- a call asks for one tree, that of what it expands to
tree_of_call : (own : Crate) (d : MacroDirective) (makro : MacroId) (x : Expanding) (key : TreeKey)
    → Contains (keys_read (text_readings makro x.text ++ expansion_readings own d x)) (keys.Tree key)
    → call_key own x.id ≡ key
tree_of_call own d makro x key among =
    let p : TreeKey → Type 0 = λ (k : TreeKey). call_key own x.id ≡ k in
    of_each p (text_readings makro x.text ++ expansion_readings own d x)
    (in_both p (text_readings makro x.text) (expansion_readings own d x) (of_text p makro x.text)
    (tt, in_both p (grown_readings x.grown) (entry_readings own x) (of_grown p x.grown) (tt, (refl, tt)))) key among

-- one that waits for a path that its macro asks for asks for none
no_tree_of_eager : (own : Crate) (d : MacroDirective) (makro : MacroId) (x : EagerLook) (key : TreeKey)
    → Contains (keys_read (eager_readings own d makro x)) (keys.Tree key) → ⊥
no_tree_of_eager own d makro x key among =
    let p : TreeKey → Type 0 = λ (k : TreeKey). ⊥ in
    of_each p (eager_readings own d makro x) (in_both p (text_readings makro x.text) _ (of_text p makro x.text) (tt, (tt, tt))) key among

-- what holds a block is asked for by maps
of_holders : {A : Type 0} (holders : List ModuleId) (key : TreeKey) → Contains (holder_keys holders) (keys.Tree key) → A
of_holders [] key h = absurd (let past : h.0 < 0 = h.1 in omega arith)
of_holders (m ∷ ms) key (zero, within, is) = absurd (let wrong : ⊥ = cc in wrong)
of_holders (m ∷ ms) key (suc n, within, is) = of_holders ms key (n, (let past : suc n < suc (length (holder_keys ms)) = within in omega arith), is)

of_held : {A : Type 0} (start : Start) (holders : List ModuleId) (key : TreeKey) → Contains (held_keys start holders) (keys.Tree key) → A
of_held (starts.Crate krate root) holders key h = absurd (let past : h.0 < 0 = h.1 in omega arith)
of_held (starts.Block krate b holder at) holders key (zero, within, is) = absurd (let wrong : ⊥ = cc in wrong)
of_held (starts.Block krate b holder at) holders key (suc n, within, is) =
    of_holders holders key (n, (let past : suc n < suc (length (holder_keys holders)) = within in omega arith), is)

-- it is that with which the run begins, that of a file, or that of what a call expands to
pub data IsTreeBy (tables : TablesValue) (w : Workspace) (all : Maps) (from : Beginning) (last : State) (key : TreeKey) : Type 0 where
  of_start : key ≡ tree_key from.start from.tree → IsTreeBy tables w all from last key
  of_a_file : (krate : Crate) (edition : Edition) (id : FileId) → key ≡ file_key krate edition id → IsTreeBy tables w all from last key
  of_a_call : (at : State) → IsPassed tables w all from last at → (of : IsOfCall tables w (read_by w all from.start) at (keys.Tree key))
      → call_key at.core.map.id.krate of.seen.id ≡ key
      → IsTreeBy tables w all from last key

pub tree_by : (tables : TablesValue) (w : Workspace) (all : Maps) (from : Beginning) (last : State) (key : TreeKey) → HasCause tables w all from last
    (keys.Tree key) → IsTreeBy tables w all from last key
tree_by tables w all from last key (root_tree is) = of_start (same_tree is)
tree_by tables w all from last key (of_holder among) = of_held from.start (holders_by all from.start) key among
tree_by tables w all from last key (declared_enum home n listed is) = absurd (let wrong : ⊥ = cc in wrong)
tree_by tables w all from last key (candidate at passed of) = of_a_file at.core.map.id.krate at.core.map.crate_data.edition of.id (same_tree of.is)
tree_by tables w all from last key (of_call at passed of) = of_a_call at passed of (tree_of_call at.core.map.id.krate of.call of.makro of.seen key of.among)
tree_by tables w all from last key (of_eager at passed of) =
    absurd (no_tree_of_eager at.core.map.id.krate of.call of.makro of.seen key of.among)
tree_by tables w all from last key (dependency c among is) = absurd (let wrong : ⊥ = cc in wrong)
tree_by tables w all from last key (handed_in c among is) = absurd (let wrong : ⊥ = cc in wrong)

-- a block's tree is asked for only where a run begins with it
pub tree_of_block : (tables : TablesValue) (w : Workspace) (all : Maps) (from : Beginning) (answer : CollectedValue) → Ends tables w all from answer
    → (key : TreeKey) (b : BlockId)
    → Contains answer.asked (keys.Tree key) → key.id.block ≡ Some b → key ≡ tree_key from.start from.tree
tree_of_block tables w all from answer ends key b asked e = elim (tree_by tables w all from ends.last key (ends.caused (keys.Tree key) asked)) [
  | of_start is ↦ is
  | of_a_file krate edition id is ↦ no_value (sym (ap (λ (k : TreeKey). k.id.block) is) ∙ e)
  | of_a_call at passed of is ↦ no_value (ap (λ (k : TreeKey). k.id.block) is ∙ e)
]

-- ---- calls

node_by : (node : AstId) (kind : MacroDirectiveKind) → call_node (kind_by node kind) ≡ node
node_by node (FnLike path) = refl
node_by node (Derive path attr index adt) = refl
node_by node (Attr path attr item) = refl

-- a call is written in the tree of its site, and that was asked for
record IsWrittenAt (answer : CollectedValue) (d : MacroDirective) : Type 0 where
  file : d.ast_id.file_id ≡ d.site.tree.file
  block : d.ast_id.block ≡ d.site.tree.block
  asked : Contains answer.asked (keys.Tree (key_of answer d.site.tree))

written_at : (tables : TablesValue) (w : Workspace) (answer : CollectedValue) (d : MacroDirective) (kind : MacroDirectiveKind) → IsCallBy tables w answer d kind
    → IsWrittenAt answer d
written_at tables w answer d (FnLike path) by = record {
  file = ap (λ (x : MacroDirective). x.ast_id.file_id) by.is;
  block = ap (λ (x : MacroDirective). x.ast_id.block) by.is;
  asked = by.written.key_asked;
}
written_at tables w answer d (Derive path attr index adt) by = record {
  file = ap (λ (x : AstId). x.file_id) by.at.node_is;
  block = ap (λ (x : AstId). x.block) by.at.node_is;
  asked = by.at.written.key_asked;
}
written_at tables w answer d (Attr path attr k) by = record {
  file = ap (λ (x : AstId). x.file_id) by.at.node_is;
  block = ap (λ (x : AstId). x.block) by.at.node_is;
  asked = by.at.written.key_asked;
}

-- ---- files

few_calls : (n m : ℕ) (held : HirFileId) → m ≤ n → ((c : MacroCallId) → held ≡ Macro c → c.0 < m) → most_calls held ≤ n
few_calls n m (File f) low earlier = omega arith
few_calls n m (Macro c) low earlier = let before : c.0 < m = earlier c refl in omega arith

-- syntax is written in a file that has a number, or in what so many calls expand to there
pub record HasFile (tables : TablesValue) (n : ℕ) (held : HirFileId) : Type 0 where
  pub root : EditionedFileId
  pub is : file_within n tables held ≡ Some root
  pub means : IsSome (file_at tables root.file_id)

-- what a file's number means
file_means : (tables : TablesValue) (f : EditionedFileId) → IsSome (source_of tables (record { file = File f; block = None }))
    → IsSome (file_at tables f.file_id)
file_means tables f means = go (file_at tables f.file_id) means
  where
    go : (o : Option (List ℕ)) → IsSome (option_map file o) → IsSome o
    go None h = absurd (let wrong : ⊥ = cc in wrong)
    go (Some path) h = refl

module _ (tables : TablesValue) (w : Workspace) (all : Maps) (from : Beginning) (answer : CollectedValue) (ends : Ends tables w all from answer)
    (meant : IsMeantAt tables (root_site from.tree))
    (placed : AreCallsPlaced tables) (begun : IsOfFile from) where
  start_means : IsSome (file_at tables begun.root.file_id)
  start_means = go from.tree.file begun.tree (meant.file)
    where
      go : (held : HirFileId) → held ≡ File begun.root → ((id : FileId) → (root_site (record { file = held; block = from.tree.block })).file ≡ Some id
          → IsSome (file_at tables id)) → IsSome (file_at tables begun.root.file_id)
      go (File f) e h = h begun.root.file_id (let same : f ≡ begun.root = cc in ap (λ (x : EditionedFileId). Some x.file_id) same)
      go (Macro c) e h = absurd (let wrong : ⊥ = cc in wrong)

  in_start : (n : ℕ) (held : HirFileId) → held ≡ File begun.root → HasFile tables n held
  in_start n held e = record { root = begun.root; is = ap (file_within n tables) e; means = start_means }

  -- so is each tree that was asked for
  pub found : (n : ℕ) (krate : Crate) (held : HirFileId) (block : Option BlockId)
      → Contains answer.asked (keys.Tree (record { krate = krate; id = record { file = held; block = block } }))
      → (block ≡ None → most_calls held ≤ n) → HasFile tables n held
  found n krate held (Some b) asked low =
      let key : TreeKey = record { krate = krate; id = record { file = held; block = Some b } } in
      in_start n held (ap (λ (k : TreeKey). k.id.file) (tree_of_block tables w all from answer ends key b asked refl) ∙ begun.tree)
  found n krate (File f) None asked low = record {
    root = f;
    is = refl;
    means =
        file_means tables f (asked_keys_have_meaning tables w all from answer meant ends
        (keys.Tree (record { krate = krate; id = record { file = File f; block = None } })) asked);
  }
  found zero krate (Macro c) None asked low = absurd (let bound : suc c.0 ≤ zero = low refl in omega arith)
  found (suc n) krate (Macro c) None asked low =
      elim (tree_by tables w all from ends.last (record { krate = krate; id = record { file = Macro c; block = None } }) (ends.caused _ asked)) [
        | of_start is ↦ absurd (let wrong : ⊥ = (let both : Macro c ≡ File begun.root = ap (λ (k : TreeKey). k.id.file) is ∙ begun.tree in cc) in wrong)
        | of_a_file other edition id is ↦ absurd
            (let wrong : ⊥ = (let both : Macro c ≡ File (record { file_id = id; edition = edition }) = ap (λ (k : TreeKey). k.id.file) is in cc) in wrong)
        | of_a_call at passed of is ↦ by_call (λ other held block. found n other held block) at passed of (ap (λ (k : TreeKey). k.id.file) is)
      ]
    where
      by_call : ((other : Crate) (held : HirFileId) (block : Option BlockId)
          → Contains answer.asked (keys.Tree (record { krate = other; id = record { file = held; block = block } }))
          → (block ≡ None → most_calls held ≤ n) → HasFile tables n held) → (at : State) → IsPassed tables w all from ends.last at
          → (of : IsOfCall tables w (read_by w all from.start) at (keys.Tree (record { krate = krate; id = record { file = Macro c; block = None } })))
          → Macro of.seen.id ≡ Macro c → HasFile tables (suc n) (Macro c)
      by_call next at passed of same =
          let d : MacroDirective = of.call in
          let is : of.seen.id ≡ c = cc in
          let call : call_at tables c ≡ Some (call_loc d of.seen.entry) = ap (call_at tables) (sym is) ∙ of.numbered.call in
          let written = written_at tables w answer d d.kind
          (calls_are_written tables w all from answer ends d
          (standing ends.last.core.calls of.place d (call_stays passed.after of.place d of.expands.called.due.waiting.call))).0.by in
          let node : call_node (call_kind d) ≡ d.ast_id = node_by d.ast_id d.kind in
          let file : (call_node (call_kind d)).file_id ≡ d.site.tree.file = ap (λ (x : AstId). x.file_id) node ∙ written.file in
          let block : (call_node (call_kind d)).block ≡ d.site.tree.block = ap (λ (x : AstId). x.block) node ∙ written.block in
          let below : IsPlacedBelow tables c.0 (call_node (call_kind d)) = placed.calls c.0 (call_loc d of.seen.entry) call in
          let within : c.0 ≤ n = (let bound : suc c.0 ≤ suc n = low refl in omega arith) in
          let outer = next answer.map.id.krate d.site.tree.file d.site.tree.block written.asked
          (λ none. few_calls n c.0 d.site.tree.file within (λ m e. below.earlier m (file ∙ e) (block ∙ none))) in
          record {
            root = outer.root;
            is = ap (option_and_then (λ (x : MacroCallLoc). file_within n tables (call_node x.kind).file_id)) call ∙ ap (file_within n tables) file ∙ outer.is;
            means = outer.means;
          }

  -- and each module
  pub record HasOrigin (origin : ModuleOrigin) : Type 0 where
    pub root : EditionedFileId
    pub is : file_of_origin tables origin ≡ Some root
    pub means : IsSome (file_at tables root.file_id)

  inline : (tree : TreeId) (origin : ModuleOrigin) → ((t : TablesValue) → file_of_origin t origin ≡ file_around t tree.file)
      → Contains answer.asked (keys.Tree (key_of answer tree)) → HasOrigin origin
  inline tree origin e asked =
      let in_tree = found (most_calls tree.file) answer.map.id.krate tree.file tree.block asked (λ none. omega arith) in
      record { root = in_tree.root; is = e tables ∙ in_tree.is; means = in_tree.means }

  by_items : (origin : ModuleOrigin) (site : Site) {items : KeptForest} → HasItems tables w (read_by w all from.start) from answer origin site items
      → HasOrigin origin
  by_items origin site (of_root o s) = record { root = begun.root; is = ap (file_of_origin tables) o ∙ begun.origin tables; means = start_means }
  by_items origin site (of_file m declared tree id o s asked) = record {
    root = record { file_id = id; edition = answer.map.crate_data.edition };
    is = ap (file_of_origin tables) o;
    means = file_means tables (record { file_id = id; edition = answer.map.crate_data.edition })
        (asked_keys_have_meaning tables w all from answer meant ends (keys.Tree (file_key answer.map.id.krate answer.map.crate_data.edition id)) asked);
  }
  by_items origin site (inside_item head name inner o enabled written) = inline site.tree origin (λ t. ap (file_of_origin t) o) written.key_asked
  by_items origin site (too_deep head name inner deep o enabled written) = inline site.tree origin (λ t. ap (file_of_origin t) o) written.key_asked
  by_items origin site (without_file head name search looked none o enabled written) = inline site.tree origin (λ t. ap (file_of_origin t) o) written.key_asked

  pub module_written : (number : ℕ) (v : ModuleValue) → module_at answer.map number ≡ Some v → number < length answer.map.modules → HasOrigin v.origin
  module_written number v e below =
      let lists = (modules_list_their_items tables w all from answer ends).modules number below in
      let same : lists.value ≡ v = one_value (sym lists.there ∙ e) in
      subst (λ (x : ModuleValue). HasOrigin x.origin) same (by_items lists.value.origin lists.site lists.has)

-- ---- modules of what is kept

below_length : {A : Type 0} (xs : List A) (n : ℕ) (x : A) → slice_get xs n ≡ Some x → n < length xs
below_length [] n x e = no_value e
below_length (y ∷ ys) zero x e = omega arith
below_length (y ∷ ys) (suc n) x e = let rest : n < length ys = below_length ys n x e in omega arith

-- the module is written in a file that has a number, or in what a call there expands to
pub record IsDefined (s : SessionState) (m : ModuleId) : Type 0 where
  pub root : EditionedFileId
  pub is : definition_file s.tables s.kept m ≡ Some root
  pub means : IsSome (file_at s.tables root.file_id)

pub defined_there : (s : SessionState) → IsSound s → (m : ModuleId) (r : Resolution) → kept_of s m.map ≡ Some r → is_some (module_at r.map m.index) ≡ true
    → IsDefined s m
defined_there s sound m r is there = go (module_at r.map m.index) refl there
  where
    go : (o : Option ModuleValue) → module_at r.map m.index ≡ o → is_some o ≡ true → IsDefined s m
    go None e f = absurd (let wrong : ⊥ = cc in wrong)
    go (Some v) e f =
        let gives = kept_gives s sound m.map r is in
        let ended : Ends s.tables (workspace_of s) (finished_of s) gives.from (collected_of r) = gives.resolved.ends (workspace_of s) (finished_of s)
        AgreeOn-refl in
        let origin = module_written s.tables (workspace_of s) (finished_of s) gives.from (collected_of r) ended gives.meant sound.calls
        (of_file_begun s m.map gives.from gives.begun) m.index v e
        (below_length r.map.modules m.index v e) in
        record {
          root = origin.root;
          is = ap (option_and_then (λ (x : Resolution). file_of_module s.tables (module_at x.map m.index))) is ∙ ap (file_of_module s.tables) e ∙ origin.is;
          means = origin.means;
        }
