-- What is asked for of a call that reaches a macro.
use Rattle.std.proofs.Common.{◌≡◌, ◌∙◌, ℕ, ◌++◌, List, [], ◌∷◌, Option, None, Some, refl, sym, ap, subst, option_and_then, option_map}
use Rattle.std.specs.Prelude.{IsSome}
use Rattle.hir_collector_state.specs.HirIds.declared.ast_id.AstId.{AstId}
use Rattle.hir_collector_state.specs.HirBase.declared.macro_kind.CallStyle.{CallStyle}
use Rattle.hir_collector_state.specs.HirIds.declared.ids.Crate.{Crate}
use Rattle.hir_collector_state.specs.HirIds.declared.ast_id.EntryId.{EntryId}
use Rattle.hir_collector_state.specs.HirIds.declared.ast_id.MacroCallId.{MacroCallId}
use Rattle.hir_collector_state.specs.HirBase.declared.macro_kind.MacroCallLoc.{MacroCallLoc}
use Rattle.hir_collector_state.specs.HirIds.declared.macro_kind.MacroId.{MacroId}
use Rattle.hir_collector_state.specs.HirIds.declared.macro_kind.MacroId.TheVariants as macros
use Rattle.hir_collector_state.specs.HirItemTree.SourceTree.{SourceTreeValue}
use Rattle.hir_collector_state.specs.HirTables.Interning.{Interns, IsFull}
use Rattle.hir_collector_state.specs.HirTables.SourcePlaces.{ExpansionValue, SourcePlaceValue, expansion}
use Rattle.hir_collector_state.specs.HirTables.Tables.{KeepsTables, TablesValue, call_at, entry_at, source_of}
use Rattle.hir_collector_state.proofs.HirTables.Growth.{KeepsTables-trans}
use Rattle.hir_collector_state.specs.HirDefMapRules.Diagnostics.{call_node}
use Rattle.hir_collector_state.specs.HirDefMapRules.Overlay.{Maps}
use Rattle.hir_collector_state.specs.HirDefMapRules.State.{Local, Map}
use Rattle.hir_collector_state.specs.HirCollectorRules.declared.source_database.Key.{Key}
use Rattle.hir_collector_state.specs.HirCollectorRules.declared.macro_directive.MacroDirective.{MacroDirective}
use Rattle.hir_collector_state.specs.HirCollectorRules.declared.macro_directive.MacroDirectiveKind.{MacroDirectiveKind}
use Rattle.hir_collector_state.specs.HirCollectorRules.declared.source_database.Key.TheVariants as keys
use Rattle.hir_collector_state.specs.HirCollectorRules.CallMoves.{SeesCall}
use Rattle.hir_collector_state.specs.HirCollectorRules.declared.macro_directive.MacroDirectiveKind.TheVariants.{Attr, Derive, FnLike}
use Rattle.hir_collector_state.specs.HirCollectorRules.Calls.{AreCallsPlaced, Expanding, IsMeantCall, IsNumberedCall}
use Rattle.hir_collector_state.specs.HirCollectorRules.Calls.{IsTextOf, asked_first, call_key, call_kind, call_loc, call_style}
use Rattle.hir_collector_state.specs.HirCollectorRules.Calls.{call_tree, called_text, expansion_of_call, expansion_readings, kind_by, text_readings}
use Rattle.hir_collector_state.specs.HirCollectorRules.Keys.{Environment, IsMeant, entry_under, environment, input_at}
use Rattle.hir_collector_state.specs.HirCollectorRules.Keys.{node_tree, of_entry, of_input, of_text, of_tree, source_in}
use Rattle.hir_collector_state.specs.HirCollectorRules.Keys.{text_at}
use Rattle.hir_collector_state.specs.HirCollectorRules.ModuleFiles.{Reading}
use Rattle.hir_collector_state.specs.HirCollectorRules.Moves.{OnceGrown}
use Rattle.hir_collector_state.specs.HirCollectorRules.NumberedOut.{IsCallNumberedOut, IsNumberedOut, LacksExpansion, at_once, call_out, expansion_by, expansion_out, no_entry}
use Rattle.hir_collector_state.specs.HirCollectorRules.State.{Core}
use Rattle.hir_collector_state.specs.HirCollectorRules.Steps.{Sees, keys_read, with_keys}
use Rattle.hir_collector_state.specs.HirCollectorRules.Workspace.{Workspace, seen_of}
use Rattle.hir_collector_state.proofs.HirCollectorStart.CallPlaces.{placed_loc}
use Rattle.hir_collector_state.proofs.HirCollectorRules.Meaning.{looks_stand}
use Rattle.hir_collector_state.proofs.HirCollectorRules.ModuleFiles.{call_kept, macro_kept, site_kept}
use Rattle.hir_collector_state.proofs.HirCollectorRules.Numbers.{full_out, still_out}

-- ---- keys, one after another

pub with_keys-append : (asked ks ls : List Key) → with_keys asked (ks ++ ls) ≡ with_keys (with_keys asked ks) ls
with_keys-append asked [] ls = refl
with_keys-append asked (k ∷ ks) ls = with_keys-append (asked ++ k ∷ []) ks ls

pub keys_read-append : (xs ys : List Reading) → keys_read (xs ++ ys) ≡ keys_read xs ++ keys_read ys
keys_read-append [] ys = refl
keys_read-append (x ∷ xs) ys = ap (λ (ks : List Key). x.key ∷ ks) (keys_read-append xs ys)

-- what is seen of readings is seen of them before others
pub Sees-append : (env : Environment) (finished : Maps) (xs ys : List Reading) → Sees env finished xs → Sees env finished ys → Sees env finished (xs ++ ys)
Sees-append env finished [] ys p q = q
Sees-append env finished (x ∷ xs) ys p q = (p.0, Sees-append env finished xs ys p.1 q)

-- what is seen of a call whose macro asks for no paths first
abbrev pub alone : Expanding → Expanding
alone y = record y { grown = None }

-- ---- numbers

-- a call whose expansion has a number expands to that source
pub source_of_call : (tables : TablesValue) (id : MacroCallId) (loc : MacroCallLoc) (key : ExpansionValue) → call_at tables id ≡ Some loc
    → entry_at tables loc.entry ≡ Some key
    → source_of tables (call_tree id) ≡ Some (expansion key)
source_of_call tables id loc key call entry =
    ap (λ (o : Option MacroCallLoc). option_map expansion (option_and_then (λ (l : MacroCallLoc). entry_at tables l.entry) o)) call ∙ ap
    (λ (o : Option ExpansionValue). option_map expansion o) entry

-- the text of a macro that was looked up is there, and stays as tables grow
pub sees_text : (first : TablesValue) (w : Workspace) (finished : Maps) (m : Map) (makro : MacroId) (text : Option (List ℕ)) → IsMeant first makro
    → text ≡ called_text finished m makro (text_at first w makro)
    → (grown : TablesValue) → KeepsTables first grown → (maps : Maps)
    → Sees (environment grown w) maps (text_readings makro text)
sees_text first w finished m (macros.Macro2Id id) text there is grown k maps =
    (looks_stand first grown w maps (keys.Text (macros.Macro2Id id)) k there ∙ ap of_text (sym is), tt)
sees_text first w finished m (macros.MacroRulesId id) text there is grown k maps =
    (looks_stand first grown w maps (keys.Text (macros.MacroRulesId id)) k there ∙ ap of_text (sym is), tt)
sees_text first w finished m (macros.ProcMacroId id) text there is grown k maps = tt

-- that of a procedural macro is its name
pub text_of_it : (finished : Maps) (m : Map) (makro : MacroId) (text found : Option (List ℕ)) → text ≡ called_text finished m makro found
    → IsTextOf finished m makro text
text_of_it finished m (macros.Macro2Id id) text found is = tt
text_of_it finished m (macros.MacroRulesId id) text found is = tt
text_of_it finished m (macros.ProcMacroId id) text found is = is

module _ (first second tables : TablesValue) (w : Workspace) (finished : Maps) (c new : Core) (d : MacroDirective) (makro : MacroId) (y : Expanding) (source : SourceTreeValue)
    (before : KeepsTables first second) (after : KeepsTables second tables) (meant : IsMeantCall first d) (of_macro : IsMeant first makro) where
  abbrev x : Expanding
  x = alone y

  abbrev own : Crate
  own = c.map.id.krate

  abbrev key : ExpansionValue
  key = expansion_of_call own (call_style d) makro x.text x.input

  kept : KeepsTables first tables
  kept = KeepsTables-trans first second tables before after

  numbered : entry_at second x.entry ≡ Some key → call_at tables x.id ≡ Some (call_loc d x.entry) → IsNumberedCall tables own d makro x
  numbered entry call = record { meant = macro_kept first tables kept makro of_macro; entry = after.entries x.entry.0 key entry; call = call; first = tt }

  pub sees_call : asked_first makro x.there ≡ [] → entry_at second x.entry ≡ Some key → call_at tables x.id ≡ Some (call_loc d x.entry) → x.text ≡ called_text finished c.map makro
      (text_at first w makro) → x.input ≡ input_at first w own d.ast_id
      → x.there ≡ w.entry key → x.tree ≡ seen_of source → source ≡ source_in tables w (call_key own x.id)
      → new ≡ record c { asked = with_keys c.asked (keys_read (text_readings makro x.text ++ expansion_readings own d x)) } → SeesCall tables w finished d makro
      c new x source
  sees_call nothing entry call text input there tree found asked =
      let at_last : IsNumberedCall tables own d makro x = numbered entry call in
      let place : source_of tables (call_tree x.id) ≡ Some (expansion key) = source_of_call tables x.id (call_loc d x.entry) key call at_last.entry in
      record {
        text = text_of_it finished c.map makro x.text (text_at first w makro) text;
        first = nothing;
        numbered = λ grown k. call_kept tables grown k own d makro x at_last;
        sees = λ grown k maps.
            Sees-append (environment grown w) maps (text_readings makro x.text) (expansion_readings own d x) (sees_text first w finished c.map makro x.text of_macro text grown (KeepsTables-trans first tables grown kept k) maps) (
              looks_stand first grown w maps (keys.Input own d.ast_id) (KeepsTables-trans first tables grown kept k) meant.node ∙ ap of_input (sym input),
              (
                ap (λ (o : Option ExpansionValue). of_entry (entry_under w o)) (k.entries x.entry.0 key at_last.entry) ∙ ap of_entry (sym there),
                (
                  looks_stand tables grown w maps (keys.Tree (call_key own x.id)) k (subst (λ (o : Option SourcePlaceValue). IsSome o) (sym place) refl)
                      ∙ ap (λ (s : SourceTreeValue). of_tree (seen_of s)) (sym found) ∙ ap of_tree (sym tree),
                  tt,
                ),
              ),
            );
        tree = tree;
        asked = asked;
        written =
            record { tree = subst (λ (o : Option SourcePlaceValue). IsSome o) (sym place) refl; file = (site_kept first tables kept d.site meant.site).file };
      }

-- ---- what can't get a number

module _ (first tables : TablesValue) (w : Workspace) (finished : Maps) (local : Local) (m : Map) (d : MacroDirective) (makro : MacroId) (kept : KeepsTables first tables)
    (meant : IsMeantCall first d) (of_macro : IsMeant first makro) where
  -- what its expansion depends on as the tables were at first
  abbrev key_at_first : ExpansionValue
  key_at_first = expansion_by (environment first w) finished m d makro

  -- the macro's text and the call's input stay as tables grow
  pub expansion_stays : (grown : TablesValue) → KeepsTables tables grown → expansion_by (environment grown w) finished m d makro ≡ key_at_first
  expansion_stays grown k =
      let all : KeepsTables first grown = KeepsTables-trans first tables grown kept k in
      let text : of_text (text_at grown w makro) ≡ of_text (text_at first w makro) = looks_stand first grown w finished (keys.Text makro) all of_macro in
      let input : of_input (input_at grown w m.id.krate d.ast_id) ≡ of_input (input_at first w m.id.krate d.ast_id) =
      looks_stand first grown w finished (keys.Input m.id.krate d.ast_id) all meant.node in
      let same_text : text_at grown w makro ≡ text_at first w makro = cc in
      let same_input : input_at grown w m.id.krate d.ast_id ≡ input_at first w m.id.krate d.ast_id = cc in
      let own = m.id.krate in
      let style = call_style d in
      ap (λ (t : Option (List ℕ)). expansion_of_call own style makro (called_text finished m makro t) (input_at grown w own d.ast_id)) same_text
      ∙ ap (λ (i : Option (List ℕ)). expansion_of_call own style makro (called_text finished m makro (text_at first w makro)) i) same_input

  -- it is put together out of what was looked up
  pub key_of_call : (own : Crate) (style : CallStyle) (text input : Option (List ℕ)) (key : ExpansionValue) → key ≡ expansion_of_call own style makro text input
      → own ≡ m.id.krate → style ≡ call_style d → text ≡ called_text finished m makro (text_at first w makro) → input ≡ input_at first w m.id.krate d.ast_id
      → key ≡ key_at_first
  key_of_call own style text input key is caller called text_is input_is =
      is ∙ ap (λ (k : Crate). expansion_of_call k style makro text input) caller
      ∙ ap (λ (s : CallStyle). expansion_of_call m.id.krate s makro text input) called
      ∙ ap (λ (t : Option (List ℕ)). expansion_of_call m.id.krate (call_style d) makro t input) text_is
      ∙ ap (λ (i : Option (List ℕ)). expansion_of_call m.id.krate (call_style d) makro (called_text finished m makro (text_at first w makro)) i) input_is

  pub meant_still : (grown : TablesValue) → KeepsTables tables grown → IsMeant grown makro
  meant_still grown k = macro_kept first grown (KeepsTables-trans first tables grown kept k) makro of_macro

  -- the expansion can't get a number
  pub lacks_expansion : (key : ExpansionValue) → key ≡ key_at_first → IsFull tables.entries key
      → OnceGrown tables w (λ env. LacksExpansion env finished local m d makro)
  lacks_expansion key is full = λ grown k.
      let out = full_out tables.entries key full in
      no_entry (meant_still grown k)
      (subst (λ (x : ExpansionValue). IsNumberedOut grown.entries x) (is ∙ sym (expansion_stays grown k)) (still_out tables.entries grown.entries key k.entries out))

  -- it has one, and the call can't
  pub lacks_its_call : (key : ExpansionValue) → key ≡ key_at_first → asked_first makro (w.entry key) ≡ []
      → OnceGrown tables w (λ env. IsCallNumberedOut env.tables (call_kind d) key)
      → OnceGrown tables w (λ env. LacksExpansion env finished local m d makro)
  lacks_its_call key is nothing out = λ grown k.
      let same : key ≡ expansion_by (environment grown w) finished m d makro = is ∙ sym (expansion_stays grown k) in
      at_once (meant_still grown k) (subst (λ (x : ExpansionValue). asked_first makro (w.entry x) ≡ []) same nothing)
      (subst (λ (x : ExpansionValue). IsCallNumberedOut grown (call_kind d) x) same (out grown k))

-- a call whose expansion has a number can't get one
pub call_numbered_out : (tables : TablesValue) (w : Workspace) (d : MacroDirective) (key : ExpansionValue) (entry : EntryId) → entry_at tables entry ≡ Some key
    → IsFull tables.calls (call_loc d entry) → OnceGrown tables w (λ env. IsCallNumberedOut env.tables (call_kind d) key)
call_numbered_out tables w d key entry at full = λ grown k.
    let loc = call_loc d entry in
    call_out entry (k.entries entry.0 key at) (still_out tables.calls grown.calls loc k.calls (full_out tables.calls loc full))

-- nor can the expansion
pub entry_numbered_out : (tables : TablesValue) (w : Workspace) (d : MacroDirective) (key : ExpansionValue) → IsFull tables.entries key
    → OnceGrown tables w (λ env. IsCallNumberedOut env.tables (call_kind d) key)
entry_numbered_out tables w d key full = λ grown k. expansion_out (still_out tables.entries grown.entries key k.entries (full_out tables.entries key full))

-- ---- where calls are written

-- the node of a call, of a derive or of an attribute is that on which it is
node_by_kind : (node : AstId) (kind : MacroDirectiveKind) → call_node (kind_by node kind) ≡ node
node_by_kind node (FnLike path) = refl
node_by_kind node (Derive path attr index adt) = refl
node_by_kind node (Attr path attr item) = refl

-- where an expansion gets a number, and then a call in a source that has one, each call is placed still
pub placed_call : (first second tables : TablesValue) (d : MacroDirective) (entry : EntryId) → KeepsTables first second → KeepsTables second tables → second
    ≡ record first { entries = second.entries }
    → Interns second.calls tables.calls (call_loc d entry) → IsSome (source_of first (node_tree d.ast_id)) → AreCallsPlaced first → AreCallsPlaced tables
placed_call first second tables d entry before after entries interns there =
    placed_loc first second tables (call_loc d entry) before after entries interns
    (subst (λ (node : AstId). IsSome (source_of first (node_tree node))) (sym (node_by_kind d.ast_id d.kind)) there)
