-- What is there stays as tables grow.
use Rattle.std.proofs.Common.{◌≡◌, ◌∙◌, ℕ, zero, suc, List, [], ◌∷◌, ◌++◌, Contains, Option, Some, None, append_assoc, arith, refl, ap, is_some, subst, sym}
use Rattle.std.proofs.lemmas.List.Elements.{Contains-append_right}
use Rattle.std.specs.Prelude.{IsSome}
use Rattle.hir_collector_rules.specs.HirIds.declared.ast_id.AstId.{AstId}
use Rattle.hir_collector_rules.specs.HirIds.declared.ids.Crate.{Crate}
use Rattle.hir_collector_rules.specs.HirIds.declared.macro_kind.MacroId.{MacroId}
use Rattle.hir_collector_rules.specs.HirIds.declared.macro_kind.MacroId.TheVariants as macros
use Rattle.hir_collector_rules.specs.HirBase.declared.macro_kind.CallStyle.TheVariants as styles
use Rattle.hir_collector_rules.specs.HirBase.declared.tree_id.TreeId.{TreeId}
use Rattle.hir_collector_rules.specs.HirBase.declared.tree_id.TreeKey.{TreeKey}
use Rattle.hir_collector_rules.specs.HirTables.SourcePlaces.{ExpansionValue, SourcePlaceValue}
use Rattle.hir_collector_rules.specs.HirTables.Tables.{KeepsTables, TablesValue, source_of}
use Rattle.hir_collector_rules.proofs.HirTables.Growth.{source_of-kept}
use Rattle.hir_collector_rules.specs.HirDefMapRules.Overlay.{Maps, no_maps}
use Rattle.hir_collector_rules.specs.declared.source_database.Key.TheVariants as keys
use Rattle.hir_collector_rules.specs.Calls.{expansion_of_call}
use Rattle.hir_collector_rules.specs.Keys.{Environment, IsMeant, environment, input_at, node_tree, of_input, of_text, source_in, source_under, text_at}
use Rattle.hir_collector_rules.specs.Workspace.{Workspace}
use Rattle.hir_collector_rules.proofs.Meaning.{looks_stand}
use Rattle.hir_collector_rules.specs.HirBase.ModPath.{Path}
use Rattle.hir_collector_rules.specs.HirBase.declared.macro_kind.MacroText.{MacroText}
use Rattle.hir_collector_rules.specs.Calls.{asked_first, or_missing, text_by}
use Rattle.hir_assoc_items.specs.AssocItems.{ContainerValue, crate_of, expansion_by, first_expansion, first_missing, inner_paths, macro_called, macro_text, texts_reached, with_reached}

kept_value : {A : Type 0} (o p : Option A) → IsSome o → ((a : A) → o ≡ Some a → p ≡ Some a) → p ≡ o
kept_value None p there stays = absurd (let no : ⊥ = cc in no)
kept_value (Some a) p there stays = stays a refl

-- the sources that write the macros which paths reach have numbers
abbrev pub AreKnown : TablesValue → ContainerValue → List Path → Type 0
AreKnown tables c paths = (path : Path) (inner : MacroId) → Contains paths path → macro_called c path ≡ Some inner → IsMeant tables inner

module _ (tables grown : TablesValue) (kept : KeepsTables tables grown) where
  pub source_stays : (id : TreeId) → IsSome (source_of tables id) → source_of grown id ≡ source_of tables id
  source_stays id there = kept_value (source_of tables id) (source_of grown id) there (λ place e. source_of-kept tables grown id place kept e)

  -- a source that has a number has it still
  pub there_still : (id : TreeId) → IsSome (source_of tables id) → IsSome (source_of grown id)
  there_still id there = ap (λ (o : Option SourcePlaceValue). is_some o) (source_stays id there) ∙ there

  pub source_in_stays : (w : Workspace) (key : TreeKey) → IsSome (source_of tables key.id) → source_in grown w key ≡ source_in tables w key
  source_in_stays w key there = ap (λ (o : Option SourcePlaceValue). source_under w key.krate o) (source_stays key.id there)

  text_stays : (w : Workspace) (maps : Maps) (makro : MacroId) → IsMeant tables makro → macro_text (environment grown w) maps makro
      ≡ macro_text (environment tables w) maps makro
  text_stays w maps (macros.Macro2Id id) there =
      let seen : of_text (text_at grown w (macros.Macro2Id id)) ≡ of_text (text_at tables w (macros.Macro2Id id)) = looks_stand tables grown w no_maps
      (keys.Text (macros.Macro2Id id)) kept there in
      let same : text_at grown w (macros.Macro2Id id) ≡ text_at tables w (macros.Macro2Id id) = cc in
      same
  text_stays w maps (macros.MacroRulesId id) there =
      let seen : of_text (text_at grown w (macros.MacroRulesId id)) ≡ of_text (text_at tables w (macros.MacroRulesId id)) =
      looks_stand tables grown w no_maps (keys.Text (macros.MacroRulesId id)) kept there in
      let same : text_at grown w (macros.MacroRulesId id) ≡ text_at tables w (macros.MacroRulesId id) = cc in
      same
  text_stays w maps (macros.ProcMacroId id) there = refl

  input_stays : (w : Workspace) (krate : Crate) (node : AstId) → IsSome (source_of tables (node_tree node)) → input_at grown w krate node
      ≡ input_at tables w krate node
  input_stays w krate node there =
      let seen : of_input (input_at grown w krate node) ≡ of_input (input_at tables w krate node) = looks_stand tables grown w no_maps (keys.Input krate node)
      kept there in
      let same : input_at grown w krate node ≡ input_at tables w krate node = cc in
      same

  -- what the expansion of a call depends on while no path is resolved
  pub first_stays : (w : Workspace) (c : ContainerValue) (node : AstId) (makro : MacroId) → IsSome (source_of tables (node_tree node))
      → IsMeant tables makro
      → first_expansion (environment grown w) c node makro ≡ first_expansion (environment tables w) c node makro
  first_stays w c node makro there of_macro =
      ap (λ (t : Option (List ℕ)). expansion_of_call (crate_of c) styles.Bang makro t (input_at grown w (crate_of c) node)) (text_stays w c.maps makro of_macro)
      ∙ ap (λ (i : Option (List ℕ)). expansion_of_call (crate_of c) styles.Bang makro (macro_text (environment tables w) c.maps makro) i)
      (input_stays w (crate_of c) node there)

  -- and so the paths that its macro asks for first
  pub paths_stay : (w : Workspace) (c : ContainerValue) (node : AstId) (makro : MacroId) → IsSome (source_of tables (node_tree node)) → IsMeant tables makro
      → inner_paths (environment grown w) c node makro ≡ inner_paths (environment tables w) c node makro
  paths_stay w c node makro there of_macro = ap (λ (e : ExpansionValue). asked_first makro (w.entry e)) (first_stays w c node makro there of_macro)

  -- the macros that these reach
  texts_stay : (w : Workspace) (c : ContainerValue) (paths : List Path) → AreKnown tables c paths
      → texts_reached (environment grown w) c paths ≡ texts_reached (environment tables w) c paths
  texts_stay w c [] known = refl
  texts_stay w c (p ∷ ps) known =
      go (macro_called c p) refl (texts_stay w c ps (λ path inner among reach. known path inner (Contains-append_right (p ∷ []) ps path among) reach))
    where
      go : (o : Option MacroId) → macro_called c p ≡ o → texts_reached (environment grown w) c ps ≡ texts_reached (environment tables w) c ps
          → with_reached (environment grown w) c o (texts_reached (environment grown w) c ps)
          ≡ with_reached (environment tables w) c o (texts_reached (environment tables w) c ps)
      go None is later = later
      go (Some inner) is later =
          ap (λ (ts : List MacroText). text_by (record { makro = inner; text = macro_text (environment grown w) c.maps inner }) ∷ ts) later
          ∙ ap (λ (t : Option (List ℕ)). text_by (record { makro = inner; text = t }) ∷ texts_reached (environment tables w) c ps)
          (text_stays w c.maps inner (known p inner (0, omega arith, refl) is))

  -- and so what it depends on once they are
  pub expansion_stays : (w : Workspace) (c : ContainerValue) (node : AstId) (makro : MacroId) → IsSome (source_of tables (node_tree node))
      → IsMeant tables makro → AreKnown tables c (inner_paths (environment tables w) c node makro)
      → expansion_by (environment grown w) c node makro ≡ expansion_by (environment tables w) c node makro
  expansion_stays w c node makro there of_macro known =
      ap (λ (e : ExpansionValue). record e { reached = texts_reached (environment grown w) c (inner_paths (environment grown w) c node makro) })
      (first_stays w c node makro there of_macro)
      ∙ ap (λ (ts : List MacroText). record (first_expansion (environment tables w) c node makro) { reached = ts })
      (ap (texts_reached (environment grown w) c) (paths_stay w c node makro there of_macro)
      ∙ texts_stay w c (inner_paths (environment tables w) c node makro) known)

-- ---- paths, one after another

module _ (c : ContainerValue) (path : Path) (left : List Path) (makro : MacroId) (reach : macro_called c path ≡ Some makro) where
  -- the first path reaches a macro
  pub missing_more : (o : Option Path) → first_missing c (path ∷ left) ≡ o → first_missing c left ≡ o
  missing_more o h = sym (ap (λ (x : Option MacroId). or_missing path x (first_missing c left)) reach) ∙ h

  -- with this text
  pub texts_more : (env : Environment) (found all : List MacroText) (text : MacroText)
      → text ≡ text_by (record { makro = makro; text = macro_text env c.maps makro }) → found ++ texts_reached env c (path ∷ left) ≡ all
      → (found ++ text ∷ []) ++ texts_reached env c left ≡ all
  texts_more env found all text told h =
      append_assoc found (text ∷ []) (texts_reached env c left)
      ∙ ap (λ (t : MacroText). found ++ t ∷ texts_reached env c left) told
      ∙ ap (λ (o : Option MacroId). found ++ with_reached env c o (texts_reached env c left)) (sym reach) ∙ h

  -- and the source that writes it has a number
  pub known_more : (tables : TablesValue) → IsMeant tables makro → AreKnown tables c left → AreKnown tables c (path ∷ left)
  known_more tables meant known p inner (zero, below, at) reached =
      let both : Some makro ≡ Some inner = sym reach ∙ ap (macro_called c) at ∙ reached in
      let same : makro ≡ inner = cc in subst (IsMeant tables) same meant
  known_more tables meant known p inner (suc n, below, at) reached = known p inner (n, omega (arith, below), at) reached
