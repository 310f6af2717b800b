-- How does the code find what an edit touches? No public clause speaks of this.
use Rattle.std.specs.Prelude.{◌≡◌, ◌⊎◌, ℕ, true, List, ◌++◌, Option, Some, None, Contains}
use Rattle.hir_collector_rules.specs.HirIds.declared.ast_id.AstKind.TheVariants.{MacroDef, MacroRules}
use Rattle.hir_collector_rules.specs.HirIds.declared.macro_kind.MacroId.{MacroId}
use Rattle.hir_collector_rules.specs.HirIds.declared.ids.MapId.{MapId}
use Rattle.hir_collector_rules.specs.HirIds.declared.macro_kind.MacroId.TheVariants.{Macro2Id, MacroRulesId, ProcMacroId}
use Rattle.hir_collector_rules.specs.HirDefMapRules.Overlay.{no_maps}
use Rattle.hir_collector_rules.specs.Workspace.{Workspace, seen_of}
use Rattle.hir_collector_rules.specs.Keys.{AgreeOn, Look, input_of, look, of_input, of_map, of_text, of_tree, of_variants, text_of}
use Rattle.hir_collector_rules.specs.declared.source_database.Key.{Key}
use Rattle.hir_collector_rules.specs.declared.source_database.Key.TheVariants.{Tree, Variants, Text, Input, Expansion, Map, Config}
use Rattle.hir_collector_rules.specs.HirItemTree.SourceTree.{SourceTreeValue, variants_of}
use Rattle.hir_collector_rules.specs.HirItemTree.SyntaxIds.{node_id}
use Rattle.hir_session_state.specs.Askers.{KeyAskers, has_asked_in}
use Rattle.hir_session_state.specs.Kept.{Resolutions, kept_in}
use Rattle.hir_session_state.specs.SessionState.{Resolution, SessionState, follows, kept_of, workspace_of}
use Rattle.hir_session_state.specs.Spread.{Spread}
use Rattle.hir_collector_rules.specs.HirTables.Tables.{TablesValue}
use Rattle.hir_session_state.specs.Marks.{IsAltered, IsTouched}

-- the text of a macro that a source defines
abbrev pub text_in : SourceTreeValue → MacroId → Option (List ℕ)
text_in t (Macro2Id id) = text_of t (node_id MacroDef id.loc.id)
text_in t (MacroRulesId id) = text_of t (node_id MacroRules id.loc.id)
text_in t (ProcMacroId id) = None

-- what is seen at a key that asks for something of a source's, of what the source has
abbrev pub seen_at : SourceTreeValue → Key → Look
seen_at t (Tree key) = of_tree (seen_of t)
seen_at t (Variants id) = of_variants (variants_of t id.loc.id)
seen_at t (Text id) = of_text (text_in t id)
seen_at t (Input krate ast) = of_input (input_of t (node_id ast.kind ast.id))
seen_at t (Expansion id) = of_map None
seen_at t (Map id) = of_map None
seen_at t (Config krate) = of_map None

-- one of the keys is altered
pub record HasAltered (tables : TablesValue) (v w : Workspace) (keys : List Key) : Type 0 where
  pub key : Key
  pub asked : Contains keys key
  pub altered : IsAltered tables v w key

-- the run asked for something that is altered
pub record IsAsked (tables : TablesValue) (v w : Workspace) (kept : Option Resolution) : Type 0 where
  pub found : Resolution
  pub is : kept ≡ Some found
  pub altered : HasAltered tables v w found.asked

-- a key was judged: the places that asked for it are added where it is altered
pub data IsJudged (tables : TablesValue) (v w : Workspace) (key : Key) (ids old new : List MapId) : Type 0 where
  hit : IsAltered tables v w key → new ≡ old ++ ids → IsJudged tables v w key ids old new
  missed : look tables w no_maps key ≡ look tables v no_maps key → new ≡ old → IsJudged tables v w key ids old new

-- the place is entered at a key that is altered
pub record IsHit (tables : TablesValue) (v w : Workspace) (askers : Option KeyAskers) (id : MapId) : Type 0 where
  pub key : Key
  pub asked : has_asked_in askers key id ≡ true
  pub altered : IsAltered tables v w key

-- these keys were judged: each place that is hit asked for one that is altered, and each place that asked for one that is altered is hit
pub record AreJudged (tables : TablesValue) (v w : Workspace) (askers : Option KeyAskers) (hits : List MapId) : Type 0 where
  pub asked : (id : MapId) → Contains hits id → IsHit tables v w askers id
  pub missed : (key : Key) (id : MapId) → has_asked_in askers key id ≡ true → Contains hits id ⊎ (look tables w no_maps key ≡ look tables v no_maps key)

-- the places are those whose run asked for something that is altered
pub record AreHit (tables : TablesValue) (v w : Workspace) (kept : Resolutions) (hits : List MapId) : Type 0 where
  pub asked : (id : MapId) → Contains hits id → IsAsked tables v w (kept_in kept id)
  pub missed : (id : MapId) (r : Resolution) → kept_in kept id ≡ Some r → Contains hits id ⊎ AgreeOn tables r.asked v no_maps w no_maps

-- the places are touched where the workspace becomes another, and each that is touched depends on one of them
pub record AreReached (s : SessionState) (w : Workspace) (hits : List MapId) : Type 0 where
  pub touched : (id : MapId) → Contains hits id → IsTouched s w id
  pub missed : (id : MapId) (r : Resolution) → kept_of s id ≡ Some r → (IsTouched s w id × Spread (follows s) (Contains hits) id)
      ⊎ AgreeOn s.tables r.asked (workspace_of s) no_maps w no_maps
