-- Back over one step: what the next item declares is what it lists, and what the items that come next in it declare; and what an
-- expansion declares is what its items do, which come next, or the item that goes on.
use Rattle.std.proofs.Common.{◌≡◌, ◌∙◌, ◌<◌, ◌≤◌, ◌⊎◌, inl, inr, ◌+◌, ℕ, zero, suc, drop, slice_get, List, [], ◌∷◌, ◌++◌, length, ◌||◌, Bool, true, false}
use Rattle.std.proofs.Common.{Option, None, Some, map as list_map, refl, sym, ap, subst, arith, Contains, append-nil, if◌then◌else◌}
use Rattle.std.proofs.lemmas.List.Elements.{Contains-append_right}
use Rattle.either.specs.declared.Either.TheVariants as either
use Rattle.hir_collector_rules.specs.HirBase.Cfg.{Cfg}
use Rattle.hir_collector_rules.specs.HirIds.declared.ast_id.AstId.{AstId}
use Rattle.hir_collector_rules.specs.HirIds.declared.ids.Crate.{Crate}
use Rattle.hir_collector_rules.specs.HirIds.declared.edition.Edition.{Edition}
use Rattle.hir_collector_rules.specs.HirIds.declared.ast_id.FileId.{FileId}
use Rattle.hir_collector_rules.specs.HirIds.declared.macro_kind.MacroId.{MacroId}
use Rattle.hir_collector_rules.specs.HirIds.declared.ids.MapId.{MapId}
use Rattle.hir_collector_rules.specs.HirIds.declared.ids.ModuleDefId.{ModuleDefId}
use Rattle.hir_collector_rules.specs.HirIds.declared.ids.ModuleId.{ModuleId}
use Rattle.hir_collector_rules.specs.HirIds.declared.ast_id.AstKind.TheVariants as nodes
use Rattle.hir_collector_rules.specs.HirIds.declared.ids.AdtId.TheVariants as adts
use Rattle.hir_collector_rules.specs.HirIds.declared.ids.ModuleDefId.TheVariants as definitions
use Rattle.hir_collector_rules.specs.HirIds.declared.macro_kind.MacroId.TheVariants.{ProcMacroId}
use Rattle.hir_collector_rules.specs.HirItemTree.Collected.{Collected, Numbered as Attribute, is_enabled, is_enabled_by}
use Rattle.hir_collector_rules.specs.HirItemTree.ItemTree.{Tree}
use Rattle.hir_collector_rules.specs.HirItemTree.Kinds.{item_head}
use Rattle.hir_collector_rules.specs.HirItemTree.KeptForest.{Head, Leaf, KeptItem, KeptForest, constant, enumeration}
use Rattle.hir_collector_rules.specs.HirItemTree.KeptForest.{extern_block, extern_crate, function, holder}
use Rattle.hir_collector_rules.specs.HirItemTree.KeptForest.{implementation, import, inline_module, leaf, macro_call}
use Rattle.hir_collector_rules.specs.HirItemTree.KeptForest.{macro_def, macro_rules, no_items, outline_module}
use Rattle.hir_collector_rules.specs.HirItemTree.KeptForest.{static_item, structure, trait_item, type_alias, union_structure}
use Rattle.hir_collector_rules.specs.HirBase.declared.tree_id.TreeId.{TreeId}
use Rattle.hir_collector_rules.specs.HirBase.declared.tree_id.TreeKey.{TreeKey}
use Rattle.hir_collector_rules.specs.HirModDir.Directory.{Directory}
use Rattle.hir_collector_rules.specs.HirModDir.ModuleFiles.{inline_directory}
use Rattle.hir_collector_rules.specs.HirTables.Tables.{TablesValue}
use Rattle.hir_collector_rules.specs.HirPerNs.declared.visibility.Visibility.{Visibility}
use Rattle.hir_collector_rules.specs.HirDefMapRules.Overlay.{Maps}
use Rattle.hir_collector_rules.specs.HirDefMapRules.State.{CrateData, Map, module_at, new_id}
use Rattle.hir_collector_rules.specs.HirMapParts.declared.diagnostics.DefDiagnostic.{DefDiagnostic}
use Rattle.hir_collector_rules.specs.HirMapParts.declared.derive_helpers.DeriveHelper.{DeriveHelper}
use Rattle.hir_collector_rules.specs.HirMapParts.declared.origin.ModuleOrigin.{ModuleOrigin}
use Rattle.hir_collector_rules.specs.HirImportRules.Changes.{Change as ImportChange}
use Rattle.hir_collector_rules.specs.HirImportRules.Rules.{acts as import_acts}
use Rattle.hir_collector_rules.specs.declared.declaration.Declaration.{Declaration}
use Rattle.hir_collector_rules.specs.declared.exported.Export.{Export}
use Rattle.hir_collector_rules.specs.declared.macro_directive.MacroDirective.{MacroDirective}
use Rattle.hir_collector_rules.specs.declared.site.Site.{Site}
use Rattle.hir_collector_rules.specs.declared.macro_directive.WaitingItem.{WaitingItem}
use Rattle.hir_collector_rules.specs.declared.macro_directive.Fate.TheVariants.{Handled}
use Rattle.hir_collector_rules.specs.declared.source_database.Key.TheVariants as keys
use Rattle.hir_collector_rules.specs.Attributes.{attr_id, export_at, is_derive, is_passed, item_node, proc_macro_id}
use Rattle.hir_collector_rules.specs.Calls.{Expanding, IsNumberedCall, call_key, call_site, error_of, expansion_readings, helpers_brought, text_readings}
use Rattle.hir_collector_rules.specs.Causes.{declarations_of}
use Rattle.hir_collector_rules.specs.Changes.{Change, act, adds_textual, changes_imports, defines, describes, ends, goes_on, lists_derive, notes, makes}
use Rattle.hir_collector_rules.specs.Changes.{perform, takes_textual, tells}
use Rattle.hir_collector_rules.specs.Invocations.{impl_noted, invocation_of}
use Rattle.hir_collector_rules.specs.Derivation.{CollectedValue}
use Rattle.hir_collector_rules.specs.Items.{declaration_of, declared_by, declared_by_leaf, file_origin, inline_origin, own_visibility}
use Rattle.hir_collector_rules.specs.ItemIds.{enum_id, function_id, macro_def_id, macro_rules_id, module_id, node_of}
use Rattle.hir_collector_rules.specs.Keys.{environment, tree_at}
use Rattle.hir_collector_rules.specs.Macros.{is_macro_use, macro_declaration}
use Rattle.hir_collector_rules.specs.ModuleFiles.{IsNumbered, ModuleFile, Search, file_key, file_readings, file_tree, module_file, tried_in}
use Rattle.hir_collector_rules.specs.Start.{Beginning}
use Rattle.hir_collector_rules.specs.State.{Core, State, Task, Visit, behind, visits, import_state, visits_over}
use Rattle.hir_collector_rules.specs.Steps.{Rule, drops_item, awaits_attribute, lists_derives, faults_derive, exports_macro, reaches_call, rests}
use Rattle.hir_collector_rules.specs.Steps.{expands_call, meets_macro}
use Rattle.hir_collector_rules.specs.Steps.{drops_call, drops_reached, derives_builtin, skips_attribute, falls_back, defines_rules, defines_macro}
use Rattle.hir_collector_rules.specs.Steps.{closes_module, declares_item, declares_enum, lists_constant, lists_impl, opens_module, opens_file, drops_file}
use Rattle.hir_collector_rules.specs.Steps.{misses_file, enters_block, reaches_imports, reaches_crate, resolves_imports, Drops, Expands, HasAttribute, IsItemOf}
use Rattle.hir_collector_rules.specs.Steps.{IsNext, LooksFor, May, Numbered, Sees, acts, after, asking, attribute_at, declaring, inside_block, inside_file}
use Rattle.hir_collector_rules.specs.Steps.{inside_module, keys_read, macro_data_of, module_declaration, path_of, reads, search_readings, visit, visit_behind}
use Rattle.hir_collector_rules.specs.Steps.{visits_in_file, visits_inside}
use Rattle.hir_collector_rules.specs.Workspace.{TreeLook, Workspace}
use Rattle.hir_collector_rules.proofs.InRange.{IsInRange, VisitsBelow, call_below, next_below}
use Rattle.hir_collector_rules.proofs.ModuleFiles.{found_read}
use Rattle.hir_def_collector_laws.specs.Declares.{AreDoneWith, Declares, DeclaresOne, HaveNoCall, InPlace, IsDoneWith, IsLookedFor, IfEnabled, IsModuleOf}
use Rattle.hir_def_collector_laws.specs.Declares.{LeafDeclares, ListsFirst, Waited, definitions_of, disabled_file, in_place, macro_exported, module_alone}
use Rattle.hir_def_collector_laws.specs.Declares.{of_file, site_inside, waited, without_file}
use Rattle.hir_def_collector_laws.specs.Expansions.{Expansion, IsExpansion, at_home, expanded, expanded_in, resumed}
use Rattle.hir_def_collector_laws.specs.Modules.{HasItems, inside_item, items_of, of_file as has_file, too_deep, without_file as has_none}
use Rattle.hir_def_collector_laws.specs.Written.{IsWritten, key_of}
use Rattle.hir_def_collector_laws.proofs.Ahead.{AllDeclare, ForEach, Holds, IsAhead, ahead_unclosed, altogether, back_made, back_one, back_same, back_to}
use Rattle.hir_def_collector_laws.proofs.Ahead.{declare_altogether, earlier, earlier_declare, gathered, gathered_at, gathered_below, gathered_both, is_module}
use Rattle.hir_def_collector_laws.proofs.Ahead.{items_apart, items_listed, module_lists, others, others_declare}
use Rattle.hir_def_collector_laws.proofs.Done.{from_rule}
use Rattle.hir_def_collector_laws.proofs.Found.{expansion_read, expansion_seen, found_seen}
use Rattle.hir_def_collector_laws.proofs.Lists.{at_first, at_home-both, at_home-below, at_home-nothing, standing}
use Rattle.hir_def_collector_laws.proofs.Listings.{all_added, all_made, bringing_agenda, bringing_makes_none, bringing_unlisted, expanding_agenda}
use Rattle.hir_def_collector_laws.proofs.Listings.{expanding_makes_none, expanding_unlisted, length-perform, macro_agenda, macro_makes_none, macro_unlisted}
use Rattle.hir_def_collector_laws.proofs.Listings.{nothing_added, nothing_made, reporting_agenda, reporting_makes_none, reporting_unlisted}
use Rattle.hir_def_collector_laws.proofs.Passed.{IsLookedUp, StayHelpers, all_passed, looked_up, passed_later}
use Rattle.hir_def_collector_laws.proofs.Quiet.{IsQuiet, NoCallIn, NoCallNext, calls_below, quiet_below, quiet_closed}
use Rattle.hir_def_collector_laws.proofs.Written.{IsAllWritten, call_among, placed_next}

-- ids don't hang on more than the map's id
same_definitions : (b : Bool) (m n : Map) → m.id ≡ n.id → (s : Site) (h : Head) (l : Leaf) → definitions_of b m s h l ≡ definitions_of b n s h l
same_definitions b m n e s h (import tree) = refl
same_definitions b m n e s h (extern_crate name alias) = refl
same_definitions b m n e s h (function name) = ap (λ (x : MapId). definitions_of b (record m { id = x }) s h (function name)) e
same_definitions b m n e s h (structure name shape fields) = ap (λ (x : MapId). definitions_of b (record m { id = x }) s h (structure name shape fields)) e
same_definitions b m n e s h (union_structure name fields) = ap (λ (x : MapId). definitions_of b (record m { id = x }) s h (union_structure name fields)) e
same_definitions b m n e s h (enumeration name) = ap (λ (x : MapId). definitions_of b (record m { id = x }) s h (enumeration name)) e
same_definitions b m n e s h (constant None) = refl
same_definitions b m n e s h (constant (Some name)) = ap (λ (x : MapId). definitions_of b (record m { id = x }) s h (constant (Some name))) e
same_definitions b m n e s h (static_item name) = ap (λ (x : MapId). definitions_of b (record m { id = x }) s h (static_item name)) e
same_definitions b m n e s h (trait_item name) = ap (λ (x : MapId). definitions_of b (record m { id = x }) s h (trait_item name)) e
same_definitions b m n e s h (implementation of_trait) = refl
same_definitions b m n e s h (type_alias name) = ap (λ (x : MapId). definitions_of b (record m { id = x }) s h (type_alias name)) e
same_definitions b m n e s h (outline_module name) = refl
same_definitions b m n e s h (macro_call path) = refl
same_definitions b m n e s h (macro_rules name expander helpers) = refl
same_definitions b m n e s h (macro_def name expander helpers) =
    ap (λ (x : MapId). definitions_of b (record m { id = x }) s h (macro_def name expander helpers)) e

if_enabled : {P : Type 0} (defs : List ModuleDefId) (b : Bool) → b ≡ true → P → IfEnabled b P defs
if_enabled defs true e p = p
if_enabled defs false e p = absurd (let no : ⊥ = cc in no)

if_disabled : (P : Type 0) (b : Bool) → b ≡ false → IfEnabled b P []
if_disabled P true e = absurd (let no : ⊥ = cc in no)
if_disabled P false e = refl

no_map : (c : Collected) (condition : Cfg) → c.disabled ≡ Some condition → is_enabled c ≡ false
no_map c condition e = ap is_enabled_by e

items_enabled : (edition : Edition) (id : FileId) (tree : Tree) → is_enabled tree.attributes ≡ true → items_of (file_tree edition id) tree ≡ tree.items
items_enabled edition id tree e = ap (λ (b : Bool). if b then tree.items else no_items) e

module _ (tables : TablesValue) (w : Workspace) (finished : Maps) (from : Beginning) (answer : CollectedValue) (last : Core) where
  -- ---- what one item declares

  -- whatever expansions declare in each module
  abbrev One : KeptItem → ℕ → Site → List ModuleDefId → Type 0
  One i done site defs = (more : ℕ → List ModuleDefId) → DeclaresOne tables w finished answer last more i done site defs

  leaf_one : (site : Site) (head : Head) (l : Leaf) (done : ℕ) (defs : List ModuleDefId) → is_enabled head.attributes ≡ true
      → AreDoneWith answer.map site (leaf head l) done
      → LeafDeclares tables w finished answer last site head l defs → One (leaf head l) done site defs
  leaf_one site head l done defs on passed p = λ more. if_enabled defs (is_enabled head.attributes) on (in_place passed p)

  off_one : (site : Site) (i : KeptItem) (done : ℕ) → is_enabled (item_head i).attributes ≡ false → One i done site []
  off_one site (leaf head l) done off = λ more. if_disabled _ (is_enabled head.attributes) off
  off_one site (holder head k items) done off = λ more. if_disabled _ (is_enabled head.attributes) off

  -- an item that waits
  waits_one : (site : Site) (i : KeptItem) (done : ℕ) → is_enabled (item_head i).attributes ≡ true → Waited last.calls site i done → One i done site []
  waits_one site (leaf head l) done on waits = λ more. if_enabled [] (is_enabled head.attributes) on (waited waits refl)
  waits_one site (holder head k items) done on waits = λ more. if_enabled [] (is_enabled head.attributes) on (waited waits refl)

  -- an item behind an attribute with which it is done
  module _ (site : Site) (i : KeptItem) (done behind_it : ℕ) (defs : List ModuleDefId) (low : done ≤ behind_it) (passed : AreDoneWith answer.map site i behind_it → AreDoneWith answer.map site i done) where
    placed_earlier : {P : Type 0} → InPlace last answer.map site i behind_it P defs → InPlace last answer.map site i done P defs
    placed_earlier (in_place all p) = in_place (passed all) p
    placed_earlier (waited waits e) =
        waited (record {
          call = waits.call;
          among = waits.among;
          site_is = waits.site_is;
          item = waits.item;
          waits = waits.waits;
          kept = waits.kept;
          behind = omega (arith, low, waits.behind);
        }) e

  if_else : {P Q : Type 0} (defs : List ModuleDefId) (b : Bool) → (P → Q) → IfEnabled b P defs → IfEnabled b Q defs
  if_else defs true f p = f p
  if_else defs false f p = p

  earlier_one : (site : Site) (i : KeptItem) (done behind_it : ℕ) (defs : List ModuleDefId) → done ≤ behind_it
      → (AreDoneWith answer.map site i behind_it → AreDoneWith answer.map site i done)
      → (more : ℕ → List ModuleDefId) → DeclaresOne tables w finished answer last more i behind_it site defs → DeclaresOne tables w finished answer last more i
      done site defs
  earlier_one site (leaf head l) done behind_it defs low passed more p =
      if_else defs (is_enabled head.attributes) (placed_earlier site (leaf head l) done behind_it defs low passed) p
  earlier_one site (holder head k items) done behind_it defs low passed more p =
      if_else defs (is_enabled head.attributes) (placed_earlier site (holder head k items) done behind_it defs low passed) p

  declared_one : (s : State) (v : Visit) (done : ℕ) (d : Declaration) → s.core.map.id ≡ answer.map.id → s.core.is_proc_macro ≡ last.is_proc_macro
      → is_enabled (item_head v.item).attributes ≡ true
      → AreDoneWith answer.map v.site v.item done → export_at s.core.is_proc_macro s.core.map v.site v.item ≡ None
      → declaration_of finished s.core.local s.core.map v ≡ Some d → One v.item done v.site (d.def ∷ [])
  declared_one s v done d own proc on passed none e = go v.item on passed none e
    where
      is_d : (a : Declaration) (def : ModuleDefId) → a.def ≡ def → Some a ≡ Some d → d.def ∷ [] ≡ def ∷ []
      is_d a def f g = let same : a ≡ d = cc in ap (λ (x : Declaration). x.def ∷ []) (sym same) ∙ ap (λ (x : ModuleDefId). x ∷ []) f

      in_answer : (h : Head) (l : Leaf) → definitions_of s.core.is_proc_macro s.core.map v.site h l ≡ definitions_of last.is_proc_macro answer.map v.site h l
      in_answer h l =
          same_definitions s.core.is_proc_macro s.core.map answer.map own v.site h l ∙ ap (λ (b : Bool). definitions_of b answer.map v.site h l) proc

      by_leaf : (h : Head) (l : Leaf) → export_at s.core.is_proc_macro s.core.map v.site (leaf h l) ≡ None → declared_by_leaf finished s.core.local s.core.map
          v.site h l ≡ Some d
          → LeafDeclares tables w finished answer last v.site h l (d.def ∷ [])
      by_leaf h (import tree) f g = absurd cc
      by_leaf h (extern_crate name alias) f g = absurd cc
      by_leaf h (function name) f g =
          is_d _ _ refl g
          ∙ sym (ap (λ (o : Option Export). definitions.FunctionId (function_id s.core.map v.site h.id) ∷ macro_exported s.core.map v.site h o) f)
          ∙ in_answer h (function name)
      by_leaf h (structure name shape fields) f g = is_d _ _ refl g ∙ in_answer h (structure name shape fields)
      by_leaf h (union_structure name fields) f g = is_d _ _ refl g ∙ in_answer h (union_structure name fields)
      by_leaf h (enumeration name) f g = absurd cc
      by_leaf h (constant None) f g = absurd cc
      by_leaf h (constant (Some name)) f g = is_d _ _ refl g ∙ in_answer h (constant (Some name))
      by_leaf h (static_item name) f g = is_d _ _ refl g ∙ in_answer h (static_item name)
      by_leaf h (trait_item name) f g = is_d _ _ refl g ∙ in_answer h (trait_item name)
      by_leaf h (implementation of_trait) f g = absurd cc
      by_leaf h (type_alias name) f g = is_d _ _ refl g ∙ in_answer h (type_alias name)
      by_leaf h (outline_module name) f g = absurd cc
      by_leaf h (macro_call path) f g = absurd cc
      by_leaf h (macro_rules name expander helpers) f g = absurd cc
      by_leaf h (macro_def name expander helpers) f g = absurd cc

      go : (i : KeptItem) → is_enabled (item_head i).attributes ≡ true → AreDoneWith answer.map v.site i done → export_at s.core.is_proc_macro s.core.map v.site
          i ≡ None
          → declared_by finished s.core.local s.core.map v.site i ≡ Some d → One i done v.site (d.def ∷ [])
      go (leaf h l) f all n g = leaf_one v.site h l done (d.def ∷ []) f all (by_leaf h l n g)
      go (holder h k items) f all n g = absurd cc

  -- ---- rules

  module _ (es : List Expansion) (s : State) (inside : IsInRange s) (f : IsAllWritten tables w from answer s) (same : s.core.map.crate_data ≡ answer.map.crate_data) (stay : StayHelpers s.core.map answer.map)
      (proc : s.core.is_proc_macro ≡ last.is_proc_macro) where
    abbrev m : Map
    m = s.core.map

    abbrev tools : List (List ℕ)
    tools = answer.map.crate_data.registered_tools

    -- the attributes of the next item are done with in the end
    done_with : (v : Visit) (rest : List Task) → (here : IsNext s v rest) → AreDoneWith answer.map v.site v.item here.done
    done_with v rest here a h =
        inl (passed_later m answer.map same stay (item_node v.site v.item) a
        (all_passed m (item_node v.site v.item) here.done (drop here.done (item_head v.item).attributes.attributes) here.passed a h))

    -- so are those before a `derive`, where those behind it are
    done_behind : (v : Visit) (rest : List Task) (at : ℕ) (a : Attribute) → HasAttribute s v at a rest → is_derive a ≡ true → AreDoneWith answer.map v.site
        v.item (suc at)
        → AreDoneWith answer.map v.site v.item v.done
    done_behind v rest at a has derives all x h = go (found.others x h)
      where
        found : IsLookedUp m (item_node v.site v.item) (item_head v.item).attributes.attributes v.done at a
        found = looked_up m (item_node v.site v.item) (item_head v.item).attributes.attributes v.done at a has.active

        go : (is_passed m (item_node v.site v.item) x ≡ true) ⊎ ((a ≡ x) ⊎ Contains (drop (suc at) (item_head v.item).attributes.attributes) x)
            → IsDoneWith answer.map (item_node v.site v.item) x
        go (inl passed) = inl (passed_later m answer.map same stay (item_node v.site v.item) x passed)
        go (inr (inl is)) = inr (subst (λ (y : Attribute). is_derive y ≡ true) is derives)
        go (inr (inr behind_it)) = all x behind_it

    derive_low : (v : Visit) (rest : List Task) (at : ℕ) (a : Attribute) → HasAttribute s v at a rest → v.done ≤ suc at
    derive_low v rest at a has =
        let low : v.done ≤ at = (looked_up m (item_node v.site v.item) (item_head v.item).attributes.attributes v.done at a has.active).low in
        omega (arith, low)

    abbrev count : ℕ
    count = length s.core.map.modules

    -- the next item is of a module that is there, and so is each that stays
    below : (v : Visit) (rest : List Task) → s.agenda ≡ visits v ∷ rest → (v.site.home < count) × VisitsBelow count rest
    below v rest e = next_below count s.agenda v rest inside.visits e

    -- it is written in its tree
    placed : (v : Visit) (rest : List Task) → s.agenda ≡ visits v ∷ rest → IsWritten tables w answer.asked (key_of answer v.site.tree) v.item
    placed v rest e = (placed_next tables w from answer s.agenda v rest f.visits e).0

    abbrev Ahead : Map → List Task → Type 0
    Ahead new vs = IsAhead tables w finished from answer last es new vs

    abbrev MapAfter : Rule → Map
    MapAfter r = (perform (asking s r) (acts finished s r)).core.map

    -- a leaf that lists nothing among definitions
    unlisted_one : (r : Rule) (site : Site) (head : Head) (l : Leaf) (done : ℕ) (rest : List Task) → One (leaf head l) done site []
        → all_made (acts finished s r) ≡ 0
        → ((k : ℕ) → all_added (acts finished s r) k ≡ []) → Ahead (MapAfter r) rest → Ahead m (visits (behind (visit site (leaf head l)) done) ∷ rest)
    unlisted_one r site head l done rest declares none_made nothing q =
        back_one tables w finished from answer last es (asking s r) (acts finished s r) site (leaf head l) done rest [] declares none_made
        (λ k. nothing k ∙ sym (at_home-nothing site.home k)) q

    -- an extern block
    block_back : (site : Site) (head : Head) (items : KeptForest) (done : ℕ) (rest : List Task) → is_enabled head.attributes ≡ true
        → AreDoneWith answer.map site (holder head extern_block items) done
        → Ahead (MapAfter (enters_block site head items rest)) (visits_over (inside_block m site head) items ++ rest)
        → Ahead m (visits (behind (visit site (holder head extern_block items)) done) ∷ rest)
    block_back site head items done rest on passed q =
        let r : Rule = enters_block site head items rest in
        let inner : Site = inside_block m site head in
        let first : ForEach (visits_over inner items) = earlier (visits_over inner items) rest q.listed in
        let later_defs : ForEach rest = others (visits_over inner items) rest q.listed in
        let defs : List ModuleDefId = altogether inner items first in
        back_same tables w finished from answer last es (asking s r) (acts finished s r) q (defs, later_defs) refl
        (λ k. gathered_both k (visits_over inner items) rest q.listed ∙ ap (λ (xs : List ModuleDefId). xs ++ gathered k rest later_defs)
        (gathered_at k inner items first))
        (λ more g.
        let declares : Declares tables w finished answer last more items inner defs =
        declare_altogether tables w finished from answer last more inner items first
        (earlier_declare tables w finished from answer last more (visits_over inner items) rest q.listed g) in
        let in_answer : Declares tables w finished answer last more items (inside_block answer.map site head) defs =
        subst (λ (id : MapId). Declares tables w finished answer last more items (inside_block (record m { id = id }) site head) defs) f.id declares in (
          if_enabled defs (is_enabled head.attributes) on (in_place passed in_answer),
          others_declare tables w finished from answer last more
              (visits_over inner items) rest q.listed g,
        ))

    -- ---- modules

    module _ (r : Rule) (site : Site) (head : Head) (name : List ℕ) (origin : ModuleOrigin) (vis : Visibility) (cs : List Change) (low : site.home < count) (none_made : all_made cs ≡ 0)
        (adds : (k : ℕ) → all_added cs k ≡ at_home site.home k (definitions.ModuleId (new_id m) ∷ [])) where
      abbrev Made : Map
      Made = (perform (asking s r) (makes site.home name origin vis ∷ cs)).core.map

      -- a module without items
      empty_back : (i : KeptItem) (done : ℕ) (rest : List Task) → VisitsBelow count rest → expanded_in es count ≡ []
          → (IsModuleOf answer.map site origin count → declarations_of (module_at answer.map count) ≡ [] → One i done site (module_alone answer.map count))
          → ((im : IsModuleOf answer.map site origin count) → HasItems tables w finished from answer im.value.origin (site_inside site count site.dir) no_items)
          → Ahead Made rest → Ahead m (visits (behind (visit site i) done) ∷ rest)
      empty_back i done rest apart quiet declares has q =
          let im : IsModuleOf answer.map site origin count = is_module tables w finished from answer last es (asking s r) site.home name origin vis cs low
          none_made adds q site refl in
          let nothing : declarations_of (module_at answer.map count) ≡ [] =
          module_lists tables w finished from answer last es (asking s r) site.home name origin vis cs low none_made adds q
          ∙ ap (λ (xs : List ModuleDefId). xs ++ expanded_in es count) (gathered_below count rest q.listed apart) ∙ quiet in
          back_made tables w finished from answer last es (asking s r) site.home name origin vis cs low none_made adds q site i done rest refl
          (λ more agrees g. declares im nothing more)
          (λ more agrees g.
          let no_more : more count ≡ [] = agrees count (omega arith) ∙ quiet in
          record {
            value = im.value;
            there = im.there;
            site = site_inside site count site.dir;
            home = refl;
            alone = refl;
            items = no_items;
            has = has im;
            lists = record { own = []; declared = refl; listed = nothing ∙ sym no_more; alone = λ none. no_more };
          })
          q.listed (λ k b. refl) (λ more g. g)

      -- a module with items
      filled_back : (i : KeptItem) (done : ℕ) (rest : List Task) (inner : Site) (items : KeptForest) → inner.home ≡ count → inner.extern_block ≡ None
          → VisitsBelow count rest
          → (HaveNoCall tools items → expanded_in es count ≡ [])
          → (IsModuleOf answer.map site origin count → (more : ℕ → List ModuleDefId) → ListsFirst answer.map more count items
          (λ own. Declares tables w finished answer last more items inner own)
          → DeclaresOne tables w finished answer last more i done site (module_alone answer.map count))
          → ((im : IsModuleOf answer.map site origin count) → HasItems tables w finished from answer im.value.origin inner items)
          → Ahead Made (visits_over inner items ++ rest) → Ahead m (visits (behind (visit site i) done) ∷ rest)
      filled_back i done rest inner items here alone apart quiet declares has q =
          let im : IsModuleOf answer.map site origin count = is_module tables w finished from answer last es (asking s r) site.home name origin vis cs low
          none_made adds q site refl in
          back_made tables w finished from answer last es (asking s r) site.home name origin vis cs low none_made adds q site i done rest refl
          (λ more agrees g. declares im more (items_listed tables w finished from answer last es (asking s r) site.home name origin vis cs low none_made adds
          inner items rest here apart q quiet more agrees g))
          (λ more agrees g. record {
            value = im.value;
            there = im.there;
            site = inner;
            home = here;
            alone = alone;
            items = items;
            has = has im;
            lists =
                items_listed tables w finished from answer last es (asking s r) site.home name origin vis cs low none_made adds inner items rest here apart q
                quiet more agrees g;
          })
          (others (visits_over inner items) rest q.listed)
          (items_apart tables w finished from answer last es (asking s r) site.home name origin vis cs low none_made adds inner items rest here apart q)
          (λ more g. others_declare tables w finished from answer last more (visits_over inner items) rest q.listed g)

    -- what is listed where a module is made
    making_adds : (site : Site) (name : List ℕ) (vis : Visibility) (next : List Task) (k : ℕ)
        → all_added (takes_textual count site.home ∷ goes_on next ∷ declaring site.home (module_declaration m name vis)) k
        ≡ at_home site.home k (definitions.ModuleId (new_id m) ∷ [])
    making_adds site name vis next k = append-nil (at_home site.home k (definitions.ModuleId (new_id m) ∷ []))

    -- a module that is written where it is declared
    inline_back : (site : Site) (head : Head) (name : List ℕ) (items : KeptForest) (done : ℕ) (rest : List Task) → is_enabled head.attributes ≡ true
        → AreDoneWith answer.map site (holder head (inline_module name) items) done → site.home < count → VisitsBelow count rest
        → IsWritten tables w answer.asked (key_of answer site.tree) (holder head (inline_module name) items)
        → (o : Option Directory) → inline_directory site.dir name (path_of head) ≡ o → (NoCallNext tools count (visits_inside m site head o items ++ rest)
        → expanded_in es count ≡ [])
        → Ahead (MapAfter (opens_module site head name items rest)) (visits_inside m site head o items ++ rest)
        → Ahead m (visits (behind (visit site (holder head (inline_module name) items)) done) ∷ rest)
    inline_back site head name items done rest on passed low apart p None e quiet q =
        let r : Rule = opens_module site head name items rest in
        let vis : Visibility = own_visibility finished s.core.local m site head in
        let next : List Task = visits_inside m site head (inline_directory site.dir name (path_of head)) items ++ rest in
        empty_back r site head name (inline_origin site.tree head.id) vis (takes_textual count site.home ∷ goes_on next ∷ declaring site.home
        (module_declaration m name vis)) low refl (making_adds site name vis next)
        (holder head (inline_module name) items) done rest apart (quiet (quiet_below tools count rest apart))
        (λ im nothing more. if_enabled (module_alone answer.map count) (is_enabled head.attributes) on (in_place passed (record {
          number = count;
          made = im;
          is = refl;
          lists = λ dir f. absurd (let no : ⊥ = cc in no);
          deep = λ f. nothing;
        })))
        (λ im. too_deep head name items e im.origin_is on p) q
    inline_back site head name items done rest on passed low apart p (Some dir) e quiet q =
        let r : Rule = opens_module site head name items rest in
        let vis : Visibility = own_visibility finished s.core.local m site head in
        let next : List Task = visits_inside m site head (inline_directory site.dir name (path_of head)) items ++ rest in
        let marked : Bool = is_macro_use head.attributes in
        filled_back r site head name (inline_origin site.tree head.id) vis (takes_textual count site.home ∷ goes_on next ∷ declaring site.home
        (module_declaration m name vis)) low refl (making_adds site name vis next)
        (holder head (inline_module name) items) done rest (inside_module m site dir) items refl refl apart
        (λ none. quiet (quiet_closed tools count (inside_module m site dir) items marked site.home count rest (λ here. none)
        (quiet_below tools count rest apart)))
        (λ im more listed. if_enabled (module_alone answer.map count) (is_enabled head.attributes) on (in_place passed (record {
          number = count;
          made = im;
          is = refl;
          lists = λ other f.
              let same : dir ≡ other = cc in
              subst (λ (d : Directory). ListsFirst answer.map more count items
              (λ own. Declares tables w finished answer last more items (site_inside site count d) own)) same listed;
          deep = λ f. absurd (let no : ⊥ = cc in no);
        })))
        (λ im. inside_item head name items im.origin_is on p)
        (ahead_unclosed tables w finished from answer last es (MapAfter r) (visits_over (inside_module m site dir) items) rest marked site.home count q)

    -- ---- files

    -- the key of a file of the run's crate
    same_key : (file : ModuleFile) → m.crate_data.edition ≡ answer.map.crate_data.edition
        → file_key m.id.krate m.crate_data.edition file.id ≡ file_key answer.map.id.krate answer.map.crate_data.edition file.id
    same_key file edition =
        ap (λ (id : MapId). file_key id.krate m.crate_data.edition file.id) f.id ∙ ap (λ (e : Edition). file_key answer.map.id.krate e file.id) edition

    module _ (edition : m.crate_data.edition ≡ answer.map.crate_data.edition) (site : Site) (head : Head) (name : List ℕ) (search : Search) (rest : List Task) (looks : LooksFor s site head name search rest)
        (numbers : IsNumbered tables site.file search) (sees : Sees (environment tables w) finished (search_readings m search))
        (read : (key : TreeKey) → Contains (keys_read (search_readings m search)) (keys.Tree key) → Contains answer.asked (keys.Tree key)) where
      abbrev readings_of : Crate → Edition → Type 0
      readings_of krate e = Sees (environment tables w) finished (file_readings krate e (tried_in search))

      looked_for : IsLookedFor tables w finished answer site head name search
      looked_for = record {
        tries = looks.tries;
        numbers = numbers;
        sees = subst (λ (e : Edition). readings_of answer.map.id.krate e) edition (subst (λ (id : MapId). readings_of id.krate m.crate_data.edition) f.id sees);
      }

      -- the file that is found was asked for, and its tree is what is seen
      file_asked : (file : ModuleFile) → module_file search.found ≡ Some file
          → Contains answer.asked (keys.Tree (file_key answer.map.id.krate answer.map.crate_data.edition file.id))
      file_asked file found =
          subst (λ (key : TreeKey). Contains answer.asked (keys.Tree key)) (same_key file edition)
          (read (file_key m.id.krate m.crate_data.edition file.id) (found_read m.id.krate m.crate_data.edition search.absent search.found file found))

      file_seen : (file : ModuleFile) → module_file search.found ≡ Some file
          → (tree_at tables w (file_key answer.map.id.krate answer.map.crate_data.edition file.id)).tree ≡ file.tree
      file_seen file found =
          ap (λ (key : TreeKey). (tree_at tables w key).tree) (sym (same_key file edition))
          ∙ found_seen tables w finished m.id.krate m.crate_data.edition search.absent search.found file found sees

      here_done : AreDoneWith answer.map site (leaf head (outline_module name)) looks.here.done
      here_done = done_with (visit site (leaf head (outline_module name))) rest looks.here

      file_back : (file : ModuleFile) → module_file search.found ≡ Some file → is_enabled file.tree.attributes ≡ true → site.home < count
          → VisitsBelow count rest
          → (NoCallNext tools count (visits_in_file m site head file ++ rest) → expanded_in es count ≡ [])
          → Ahead (MapAfter (opens_file site head name search file rest)) (visits_in_file m site head file ++ rest)
          → Ahead m (visits (behind (visit site (leaf head (outline_module name))) looks.here.done) ∷ rest)
      file_back file found enabled low apart quiet q =
          let r : Rule = opens_file site head name search file rest in
          let vis : Visibility = own_visibility finished s.core.local m site head in
          let next : List Task = visits_in_file m site head file ++ rest in
          let marked : Bool = is_macro_use head.attributes || is_macro_use file.tree.attributes in
          let id : TreeId = file_tree answer.map.crate_data.edition file.id in
          let items : items_of id (tree_at tables w (file_key answer.map.id.krate answer.map.crate_data.edition file.id)).tree ≡ file.tree.items =
          ap (items_of id) (file_seen file found) ∙ items_enabled answer.map.crate_data.edition file.id file.tree enabled in
          filled_back r site head name (file_origin site.tree head.id m.crate_data.edition file) vis
          (takes_textual count site.home ∷ goes_on next ∷ declaring site.home (module_declaration m name vis)) low refl (making_adds site name vis next)
          (leaf head (outline_module name)) looks.here.done rest (inside_file m file) file.tree.items refl refl apart
          (λ none. quiet (quiet_closed tools count (inside_file m file) file.tree.items marked site.home count rest (λ here. none)
          (quiet_below tools count rest apart)))
          (λ im more listed. leaf_one site head (outline_module name) looks.here.done (module_alone answer.map count) looks.here.enabled here_done
          (of_file search looked_for file found enabled count (subst (λ (e : Edition). IsModuleOf answer.map site (file_origin site.tree head.id e file) count)
          edition im) refl) more)
          (λ im. subst (λ (is : KeptForest). HasItems tables w finished from answer im.value.origin (inside_file m file) is) items
          (has_file file.is_mod_rs _ site.tree file.id (im.origin_is ∙ ap (λ (e : Edition). file_origin site.tree head.id e file) edition)
          (ap (λ (e : Edition). file_tree e file.id) edition) (file_asked file found)))
          (ahead_unclosed tables w finished from answer last es (MapAfter r) (visits_over (inside_file m file) file.tree.items) rest marked site.home count q)

      drop_back : (report : DefDiagnostic) → Drops s site head name search report rest → Ahead (MapAfter (drops_file site head name search report rest)) rest
          → Ahead m (visits (behind (visit site (leaf head (outline_module name))) looks.here.done) ∷ rest)
      drop_back report may q =
          unlisted_one (drops_file site head name search report rest) site head (outline_module name) looks.here.done rest
          (leaf_one site head (outline_module name) looks.here.done [] looks.here.enabled here_done
          (disabled_file search looked_for may.file may.found (no_map may.file.tree.attributes may.condition may.disabled) refl))
          refl (λ k. refl) q

      miss_back : (report : DefDiagnostic) → module_file search.found ≡ None → site.home < count → VisitsBelow count rest
          → IsWritten tables w answer.asked (key_of answer site.tree) (leaf head (outline_module name))
          → (NoCallNext tools count rest → expanded_in es count ≡ [])
          → Ahead (MapAfter (misses_file site head name search report rest)) rest
          → Ahead m (visits (behind (visit site (leaf head (outline_module name))) looks.here.done) ∷ rest)
      miss_back report missing low apart p quiet q =
          let r : Rule = misses_file site head name search report rest in
          let vis : Visibility = own_visibility finished s.core.local m site head in
          empty_back r site head name (inline_origin site.tree head.id) vis (takes_textual count site.home ∷ goes_on rest ∷ declaring site.home
          (module_declaration m name vis) ++ tells report ∷ []) low refl
          (λ k. append-nil (at_home site.home k (definitions.ModuleId (new_id m) ∷ [])))
          (leaf head (outline_module name)) looks.here.done rest apart (quiet (quiet_below tools count rest apart))
          (λ im nothing. leaf_one site head (outline_module name) looks.here.done (module_alone answer.map count) looks.here.enabled here_done
          (without_file search looked_for missing count im refl nothing))
          (λ im. has_none head name search (record { tries = looked_for.tries; numbers = looked_for.numbers; sees = looked_for.sees }) missing im.origin_is
          looks.here.enabled p) q

    -- ---- expansions

    -- what comes next is what one of them brings
    brought_back : (r : Rule) (d : MacroDirective) (next : List Task) (defs : List ModuleDefId) (q : Ahead (MapAfter r) next) → d.site.home < count
        → all_made (acts finished s r) ≡ 0
        → ((k : ℕ) → all_added (acts finished s r) k ++ (gathered k next q.listed ++ expanded_in es k) ≡ at_home d.site.home k defs ++ expanded_in es k)
        → ((more : ℕ → List ModuleDefId) → AllDeclare tables w finished from answer last more next q.listed → IsExpansion tables w finished answer last more
        (record { call = d; defs = defs }))
        → IsAhead tables w finished from answer last (record { call = d; defs = defs } ∷ es) m []
    brought_back r d next defs q home none_made lists is_expansion =
        let e : Expansion = record { call = d; defs = defs } in
        let as_long : length (MapAfter r).modules ≡ count + all_made (acts finished s r) = length-perform (acts finished s r) (asking s r) in
        back_to tables w finished from answer last es (asking s r) (acts finished s r) (e ∷ es) q tt (λ k low. lists k)
        (λ more agrees.
        let h : Holds tables w finished from answer last more es (length (MapAfter r).modules) next q.listed =
        q.holds more (λ k past.
        let apart : at_home d.site.home k defs ≡ [] = at_home-below d.site.home k defs (omega (arith, home, past, as_long, none_made)) in
        agrees k (omega (arith, past, as_long, none_made)) ∙ ap (λ (xs : List ModuleDefId). xs ++ expanded_in es k) apart) in
        record {
          pending = tt;
          modules = λ k past under. h.modules k (omega (arith, past, as_long, none_made)) under;
          expanded = now_or_later more e (is_expansion more h.pending) h.expanded;
        })
      where
        now_or_later : (more : ℕ → List ModuleDefId) (e : Expansion) → IsExpansion tables w finished answer last more e
            → ((x : Expansion) → Contains es x → IsExpansion tables w finished answer last more x)
            → (x : Expansion) → Contains (e ∷ es) x → IsExpansion tables w finished answer last more x
        now_or_later more e now others x (zero, below, is) = subst (λ (y : Expansion). IsExpansion tables w finished answer last more y) is now
        now_or_later more e now others x (suc n, below, is) = others x (n, omega (arith, below), is)

    -- the items to which a call expands
    expansion_back : (i : ℕ) (d : MacroDirective) (makro : MacroId) (x : Expanding) → Expands finished s i d makro x
        → Sees (environment tables w) finished (text_readings makro x.text ++ expansion_readings m.id.krate d x) → IsNumberedCall tables m.id.krate d makro x
        → ((key : TreeKey) → Contains (keys_read (text_readings makro x.text ++ expansion_readings m.id.krate d x)) (keys.Tree key)
        → Contains answer.asked (keys.Tree key))
        → (q : Ahead (MapAfter (expands_call i d makro x)) (visits_over (call_site d x.id) x.tree.tree.items))
        → IsAhead tables w finished from answer last (from_rule (expands_call i d makro x) (altogether (call_site d x.id) x.tree.tree.items q.listed) es) m []
    expansion_back i d makro x may sees numbered read q =
        let at : ModuleId = module_id m d.site.home in
        let site : Site = call_site d x.id in
        let items : KeptForest = x.tree.tree.items in
        let helpers : List DeriveHelper = helpers_brought finished m d makro (Some (either.Left x.id)) in
        brought_back (expands_call i d makro x) d (visits_over site items) (altogether site items q.listed) q
        (call_below count s.core.calls i d inside.calls may.called.due.waiting.call)
        (ap (λ (n : ℕ). 0 + (0 + (0 + n))) (expanding_makes_none d.ast_id helpers at d (error_of x.there)))
        (λ k. ap (λ (xs : List ModuleDefId). xs ++ (gathered k (visits_over site items) q.listed ++ expanded_in es k))
        (expanding_unlisted d.ast_id helpers at d (error_of x.there) k)
        ∙ ap (λ (xs : List ModuleDefId). xs ++ expanded_in es k) (gathered_at k site items q.listed))
        (λ more all. is_expansion more (altogether site items q.listed) (declare_altogether tables w finished from answer last more site items q.listed all))
      where
        krate : Crate
        krate = answer.map.id.krate

        seen : tree_at tables w (call_key krate x.id) ≡ x.tree
        seen = subst (λ (id : MapId). tree_at tables w (call_key id.krate x.id) ≡ x.tree) f.id (expansion_seen tables w finished m.id.krate d makro x sees)

        is_expansion : (more : ℕ → List ModuleDefId) (defs : List ModuleDefId) → Declares tables w finished answer last more x.tree.tree.items
            (call_site d x.id) defs
            → IsExpansion tables w finished answer last more (record { call = d; defs = defs })
        is_expansion more defs declares =
            expanded (call_among tables w from answer s.core.calls d f.calls (standing s.core.calls i d may.called.due.waiting.call)) makro x (record {
              shallow = subst (λ (c : CrateData). d.site.level < c.recursion_limit) same may.shallow;
              numbers = subst (λ (id : MapId). IsNumberedCall tables id.krate d makro x) f.id numbered;
              sees = subst (λ (id : MapId). Sees (environment tables w) finished (text_readings makro x.text ++ expansion_readings id.krate d x)) f.id sees;
              key_asked =
                  subst (λ (id : MapId). Contains answer.asked (keys.Tree (call_key id.krate x.id))) f.id
                  (read (call_key m.id.krate x.id) (expansion_read m.id.krate d makro x));
              declares = subst (λ (t : TreeLook). Declares tables w finished answer last more t.tree.items (call_site d x.id) defs) (sym seen) declares;
            })

    -- the item that had waited for an attribute
    resumed_back : (r : Rule) (i : ℕ) (d : MacroDirective) (k : WaitingItem) (waited_item : KeptItem) → slice_get s.core.calls i ≡ Some d
        → IsItemOf d k waited_item
        → all_made (acts finished s r) ≡ 0 → ((n : ℕ) → all_added (acts finished s r) n ≡ [])
        → (q : Ahead (MapAfter r) (visits (visit_behind d k waited_item) ∷ []))
        → IsAhead tables w finished from answer last (record { call = d; defs = q.listed.0 } ∷ es) m []
    resumed_back r i d k waited_item at of none_made nothing q =
        brought_back r d (visits (visit_behind d k waited_item) ∷ []) q.listed.0 q (call_below count s.core.calls i d inside.calls at) none_made
        (λ n. ap (λ (xs : List ModuleDefId). xs ++ (gathered n (visits (visit_behind d k waited_item) ∷ []) q.listed ++ expanded_in es n)) (nothing n)
        ∙ ap (λ (xs : List ModuleDefId). xs ++ expanded_in es n) (append-nil (at_home d.site.home n q.listed.0)))
        (λ more all. resumed (call_among tables w from answer s.core.calls d f.calls (standing s.core.calls i d at)) k waited_item
        (record { waits = of.waits; kept = of.kept; declares = all.0 }))

    -- ---- each rule

    same_agenda : (cs : List ImportChange) (t : State) → (perform t (list_map changes_imports cs)).agenda ≡ t.agenda
    same_agenda [] t = refl
    same_agenda (c ∷ cs) t = same_agenda cs (act t (changes_imports c))

    at_next : {vs ws : List Task} → vs ≡ ws → Ahead m ws → Ahead m vs
    at_next e q = subst (λ (xs : List Task). Ahead m xs) (sym e) q

    -- what is ahead before a rule: an expansion more, if it expands a call, or an item goes on
    pub record IsSooner (r : Rule) : Type 0 where
      pub defs : List ModuleDefId
      pub ahead : IsAhead tables w finished from answer last (from_rule r defs es) m s.agenda

    -- no expansion declares anything in a module where no call is next or waits
    abbrev pub QuietAfter : State → Type 0
    QuietAfter t = (k : ℕ) → k < length t.core.map.modules → IsQuiet tools k t → expanded_in es k ≡ []

    -- so it is in the next module
    quiet_made : (t : State) → length t.core.map.modules ≡ count + 1 → t.core.calls ≡ s.core.calls → QuietAfter t → NoCallNext tools count t.agenda
        → expanded_in es count ≡ []
    quiet_made t longer same quiet next =
        quiet count (omega (arith, longer)) (record {
          visits = next;
          calls = subst (λ (ds : List MacroDirective). NoCallIn count ds) (sym same)
              (calls_below count s.core.calls inside.calls);
        })

    same_edition : m.crate_data.edition ≡ answer.map.crate_data.edition
    same_edition = ap (λ (c : CrateData). c.edition) same

    -- a function that exports a macro is two definitions
    exported_defs : (site : Site) (head : Head) (name : List ℕ) (d : Declaration) (e : Export) → declaration_of finished s.core.local m
        (visit site (leaf head (function name))) ≡ Some d
        → export_at s.core.is_proc_macro m site (leaf head (function name)) ≡ Some e
        → d.def ∷ definitions.MacroId (ProcMacroId (proc_macro_id m site head.id e.style)) ∷ [] ≡ definitions_of last.is_proc_macro answer.map site head
        (function name)
    exported_defs site head name d e declares exports_it =
        is_function _ refl declares
        ∙ sym (ap (λ (o : Option Export). definitions.FunctionId (function_id m site head.id) ∷ macro_exported m site head o) exports_it)
        ∙ same_definitions s.core.is_proc_macro m answer.map f.id site head (function name)
        ∙ ap (λ (b : Bool). definitions_of b answer.map site head (function name)) proc
      where
        is_function : (x : Declaration) → x.def ≡ definitions.FunctionId (function_id m site head.id) → Some x ≡ Some d
            → d.def ∷ definitions.MacroId (ProcMacroId (proc_macro_id m site head.id e.style)) ∷ [] ≡ definitions.FunctionId (function_id m site head.id) ∷
            definitions.MacroId (ProcMacroId (proc_macro_id m site head.id e.style)) ∷ []
        is_function x at g =
            let is : x ≡ d = cc in
            ap (λ (y : Declaration). y.def ∷ definitions.MacroId (ProcMacroId (proc_macro_id m site head.id e.style)) ∷ []) (sym is)
            ∙ ap (λ (y : ModuleDefId). y ∷ definitions.MacroId (ProcMacroId (proc_macro_id m site head.id e.style)) ∷ []) at

    pub back_rule : (r : Rule) → May finished s r → Sees (environment tables w) finished (reads s r) → Numbered tables s r
        → ((key : TreeKey) → Contains (keys_read (reads s r)) (keys.Tree key) → Contains answer.asked (keys.Tree key))
        → ((d : MacroDirective) → Contains (after finished s r).core.calls d → Contains last.calls d) → QuietAfter (after finished s r)
        → Ahead (MapAfter r) (after finished s r).agenda → IsSooner r
    back_rule (drops_item v report rest) may sees numbers read kept quiet q =
        record {
          defs = [];
          ahead = at_next may.next
              (back_one tables w finished from answer last es (asking s (drops_item v report rest)) (acts finished s (drops_item v report rest)) v.site v.item
              v.done rest [] (off_one v.site v.item v.done (no_map (item_head v.item).attributes may.condition may.disabled)) refl
              (λ k. sym (at_home-nothing v.site.home k)) q);
        }
    back_rule (declares_item v d rest) may sees numbers read kept quiet q =
        record {
          defs = [];
          ahead = at_next may.here.next
              (back_one tables w finished from answer last es (asking s (declares_item v d rest)) (acts finished s (declares_item v d rest)) v.site v.item
              may.here.done rest (d.def ∷ [])
              (declared_one s v may.here.done d f.id proc may.here.enabled (done_with v rest may.here) may.exports_none may.declares) refl
              (λ k. append-nil (at_home v.site.home k (d.def ∷ []))) q);
        }
    back_rule (declares_enum site head name found rest) may sees numbers read kept quiet q =
        let r : Rule = declares_enum site head name found rest in
        let def : ModuleDefId = definitions.AdtId (adts.EnumId (enum_id m site head.id)) in
        record {
          defs = [];
          ahead = at_next may.next
              (back_one tables w finished from answer last es (asking s r) (acts finished s r) site (leaf head (enumeration name)) may.done rest (def ∷ [])
              (leaf_one site head (enumeration name) may.done (def ∷ []) may.enabled (done_with _ rest may)
              (same_definitions last.is_proc_macro m answer.map f.id site head (enumeration name))) refl (λ k. append-nil (at_home site.home k (def ∷ []))) q);
        }
    back_rule (lists_constant site head rest) may sees numbers read kept quiet q =
        record {
          defs = [];
          ahead = at_next may.next (unlisted_one (lists_constant site head rest) site head (constant None) may.done rest
              (leaf_one site head (constant None) may.done [] may.enabled (done_with _ rest may) refl) refl (λ k. refl) q);
        }
    back_rule (lists_impl site head of_trait rest) may sees numbers read kept quiet q =
        record {
          defs = [];
          ahead = at_next may.next (unlisted_one (lists_impl site head of_trait rest) site head (implementation of_trait) may.done rest
              (leaf_one site head (implementation of_trait) may.done [] may.enabled (done_with _ rest may) refl) refl (λ k. refl) q);
        }
    back_rule (opens_module site head name items rest) may sees numbers read kept quiet q =
        let apart = below _ rest may.next in
        record {
          defs = [];
          ahead =
              at_next may.next (inline_back site head name items may.done rest may.enabled (done_with _ rest may) apart.0 apart.1 (placed _ rest may.next)
              (inline_directory site.dir name (path_of head)) refl
              (quiet_made (after finished s (opens_module site head name items rest)) (length-perform (acts finished s (opens_module site head name items rest))
              (asking s (opens_module site head name items rest))) refl quiet) q);
        }
    back_rule (opens_file site head name search file rest) may sees numbers read kept quiet q =
        let apart = below _ rest may.looks.here.next in
        record {
          defs = [];
          ahead =
              at_next may.looks.here.next (file_back same_edition site head name search rest may.looks numbers sees read file may.found may.enabled apart.0
              apart.1
              (quiet_made (after finished s (opens_file site head name search file rest))
              (length-perform (acts finished s (opens_file site head name search file rest)) (asking s (opens_file site head name search file rest))) refl
              quiet) q);
        }
    back_rule (drops_file site head name search report rest) may sees numbers read kept quiet q =
        record { defs = []; ahead = at_next may.looks.here.next (drop_back same_edition site head name search rest may.looks numbers sees read report may q) }
    back_rule (misses_file site head name search report rest) may sees numbers read kept quiet q =
        let apart = below _ rest may.looks.here.next in
        record {
          defs = [];
          ahead =
              at_next may.looks.here.next (miss_back same_edition site head name search rest may.looks numbers sees read report may.missing apart.0 apart.1
              (placed _ rest may.looks.here.next)
              (quiet_made (after finished s (misses_file site head name search report rest))
              (length-perform (acts finished s (misses_file site head name search report rest)) (asking s (misses_file site head name search report rest))) refl
              quiet) q);
        }
    back_rule (enters_block site head items rest) may sees numbers read kept quiet q =
        record { defs = []; ahead = at_next may.next (block_back site head items may.done rest may.enabled (done_with _ rest may) q) }
    back_rule (reaches_imports site head tree rest) may sees numbers read kept quiet q =
        record {
          defs = [];
          ahead = at_next may.next (unlisted_one (reaches_imports site head tree rest) site head (import tree) may.done rest
              (leaf_one site head (import tree) may.done [] may.enabled (done_with _ rest may) refl) refl (λ k. refl) q);
        }
    back_rule (reaches_crate site head name alias rest) may sees numbers read kept quiet q =
        record {
          defs = [];
          ahead = at_next may.next (unlisted_one (reaches_crate site head name alias rest) site head (extern_crate name alias) may.done rest
              (leaf_one site head (extern_crate name alias) may.done [] may.enabled (done_with _ rest may) refl) refl (λ k. refl) q);
        }
    back_rule (defines_rules site head name expander helpers rest) may sees numbers read kept quiet q =
        let r : Rule = defines_rules site head name expander helpers rest in
        let makro : MacroId = macro_rules_id m site head.id expander in
        let node : AstId = node_of site.tree nodes.MacroRules head.id in
        let defined : State = perform (asking s r) (goes_on rest ∷ defines node makro ∷ describes makro (macro_data_of name helpers) ∷ adds_textual site.home
        name makro ∷ []) in
        let now : Ahead (MapAfter r) rest = subst (λ (vs : List Task). Ahead (MapAfter r) vs) (macro_agenda defined head name makro (module_id m site.home) node
        expander) q in
        record {
          defs = [];
          ahead = at_next may.next
              (unlisted_one r site head (macro_rules name expander helpers) may.done rest (leaf_one site head (macro_rules name expander helpers) may.done []
              may.enabled (done_with _ rest may) refl)
              (ap (λ (n : ℕ). 0 + (0 + (0 + (0 + n)))) (macro_makes_none head name makro (module_id m site.home) node expander))
              (macro_unlisted head name makro (module_id m site.home) node expander) now);
        }
    back_rule (defines_macro site head name expander helpers rest) may sees numbers read kept quiet q =
        let r : Rule = defines_macro site head name expander helpers rest in
        let makro : MacroId = macro_def_id m site head.id expander in
        let def : ModuleDefId = definitions.MacroId makro in
        let node : AstId = node_of site.tree nodes.MacroDef head.id in
        let bound : State = perform (asking s r) (goes_on rest ∷ defines node makro ∷ describes makro (macro_data_of name helpers) ∷ declaring site.home
        (macro_declaration name makro (own_visibility finished s.core.local m site head))) in
        let now : Ahead (MapAfter r) rest = subst (λ (vs : List Task). Ahead (MapAfter r) vs) (reporting_agenda bound (module_id m site.home) node expander) q
        in
        record {
          defs = [];
          ahead = at_next may.next
              (back_one tables w finished from answer last es (asking s r) (acts finished s r) site (leaf head (macro_def name expander helpers)) may.done rest
              (def ∷ [])
              (leaf_one site head (macro_def name expander helpers) may.done (def ∷ []) may.enabled (done_with _ rest may)
              (same_definitions last.is_proc_macro m answer.map f.id site head (macro_def name expander helpers)))
              (ap (λ (n : ℕ). 0 + (0 + (0 + (0 + (0 + n))))) (reporting_makes_none (module_id m site.home) node expander))
              (λ k. ap (λ (xs : List ModuleDefId). at_home site.home k (def ∷ []) ++ xs) (reporting_unlisted (module_id m site.home) node expander k) ∙
              append-nil (at_home site.home k (def ∷ []))) now);
        }
    back_rule (closes_module parent child rest) may sees numbers read kept quiet q =
        let r : Rule = closes_module parent child rest in
        record {
          defs = [];
          ahead = at_next may (back_same tables w finished from answer last es (asking s r) (acts finished s r) q q.listed refl (λ k. refl)
              (λ more g. g));
        }
    back_rule (awaits_attribute v a k rest) may sees numbers read kept quiet q =
        let r : Rule = awaits_attribute v a k rest in
        let node : AstId = item_node v.site v.item in
        let call : MacroDirective = attribute_at v.site node (attr_id a) a.meta.path k in
        let low : v.done ≤ may.at = (looked_up m node (item_head v.item).attributes.attributes v.done may.at a may.has.active).low in
        let waits : Waited last.calls v.site v.item v.done = record {
          call = call;
          among = kept call (Contains-append_right s.core.calls (call ∷ []) call (at_first call []));
          site_is = refl;
          item = k;
          waits = refl;
          kept = may.kept;
          behind = omega (arith, low, may.behind_it);
        } in
        record {
          defs = [];
          ahead = at_next may.has.on.next
              (back_one tables w finished from answer last es (asking s r) (acts finished s r) v.site v.item v.done rest []
              (waits_one v.site v.item v.done may.has.on.enabled waits) refl
              (λ n. sym (at_home-nothing v.site.home n)) q);
        }
    back_rule (lists_derives v at a adt paths call rest) may sees numbers read kept quiet q =
        let r : Rule = lists_derives v at a adt paths call rest in
        record {
          defs = [];
          ahead = at_next may.has.on.next
              (back_same tables w finished from answer last es (asking s r) (acts finished s r) q q.listed refl (λ n. refl)
              (λ more g. (
                earlier_one v.site v.item v.done (suc at) q.listed.0 (derive_low v rest at a may.has) (done_behind v rest at a may.has may.derives)
                    more g.0,
                g.1,
              )));
        }
    back_rule (faults_derive v at report rest) may sees numbers read kept quiet q =
        let r : Rule = faults_derive v at report rest in
        record {
          defs = [];
          ahead = at_next may.has.on.next
              (back_same tables w finished from answer last es (asking s r) (acts finished s r) q q.listed refl (λ n. refl)
              (λ more g. (
                earlier_one v.site v.item v.done (suc at) q.listed.0 (derive_low v rest at may.attribute may.has)
                    (done_behind v rest at may.attribute may.has may.derives) more g.0,
                g.1,
              )));
        }
    back_rule (exports_macro site head name d e rest) may sees numbers read kept quiet q =
        let r : Rule = exports_macro site head name d e rest in
        let makro : ModuleDefId = definitions.MacroId (ProcMacroId (proc_macro_id m site head.id e.style)) in
        let declares : LeafDeclares tables w finished answer last site head (function name) (d.def ∷ makro ∷ []) =
        exported_defs site head name d e may.declares may.exports in
        record {
          defs = [];
          ahead = at_next may.here.next
              (back_one tables w finished from answer last es (asking s r) (acts finished s r) site (leaf head (function name)) may.here.done rest
              (d.def ∷ makro ∷ [])
              (leaf_one site head (function name) may.here.done (d.def ∷ makro ∷ []) may.here.enabled (done_with _ rest may.here) declares) refl
              (λ n. ap (λ (xs : List ModuleDefId). at_home site.home n (d.def ∷ []) ++ xs) (append-nil (at_home site.home n (makro ∷ []))) ∙ sym
              (at_home-both site.home n (d.def ∷ []) (makro ∷ []))) q);
        }
    back_rule (reaches_call site head path rest) may sees numbers read kept quiet q =
        record {
          defs = [];
          ahead = at_next may.next (unlisted_one (reaches_call site head path rest) site head (macro_call path) may.done rest
              (leaf_one site head (macro_call path) may.done [] may.enabled (done_with _ rest may) refl) refl (λ k. refl) q);
        }
    back_rule rests may sees numbers read kept quiet q =
        record {
          defs = [];
          ahead = back_same tables w finished from answer last es (asking s rests) (acts finished s rests) q q.listed refl (λ k. refl)
              (λ more g. g);
        }
    back_rule (meets_macro i d makro x) may sees numbers read kept quiet q =
        let r : Rule = meets_macro i d makro x in
        record { defs = []; ahead = back_same tables w finished from answer last es (asking s r) (acts finished s r) q q.listed refl (λ k. refl) (λ more g. g) }
    back_rule (drops_call i d) may sees numbers read kept quiet q =
        let r : Rule = drops_call i d in
        record { defs = []; ahead = back_same tables w finished from answer last es (asking s r) (acts finished s r) q q.listed refl (λ k. refl) (λ more g. g) }
    back_rule (drops_reached i d makro) may sees numbers read kept quiet q =
        let r : Rule = drops_reached i d makro in
        let helpers : List DeriveHelper = helpers_brought finished m d makro None in
        let begun : State = perform (asking s r) (ends i Handled ∷ []) in
        let now : Ahead (MapAfter r) s.agenda = subst (λ (vs : List Task). Ahead (MapAfter r) vs) (bringing_agenda begun d.ast_id helpers) q in
        record {
          defs = [];
          ahead =
              back_same tables w finished from answer last es (asking s r) (acts finished s r) now now.listed
              (ap (λ (n : ℕ). 0 + n) (bringing_makes_none d.ast_id helpers))
              (λ k. ap (λ (xs : List ModuleDefId). xs ++ gathered k s.agenda now.listed) (bringing_unlisted d.ast_id helpers k)) (λ more g. g);
        }
    back_rule (derives_builtin i d makro imp) may sees numbers read kept quiet q =
        let r : Rule = derives_builtin i d makro imp in
        let helpers : List DeriveHelper = helpers_brought finished m d makro (Some (either.Right imp)) in
        let begun : State = perform (asking s r) (ends i Handled ∷ lists_derive d.site.home imp ∷ notes d.site.home (impl_noted d.ast_id imp) ∷ []) in
        let now : Ahead (MapAfter r) s.agenda = subst (λ (vs : List Task). Ahead (MapAfter r) vs) (bringing_agenda begun d.ast_id helpers) q in
        record {
          defs = [];
          ahead =
              back_same tables w finished from answer last es (asking s r) (acts finished s r) now now.listed
              (ap (λ (n : ℕ). 0 + (0 + (0 + n))) (bringing_makes_none d.ast_id helpers))
              (λ k. ap (λ (xs : List ModuleDefId). xs ++ gathered k s.agenda now.listed) (bringing_unlisted d.ast_id helpers k)) (λ more g. g);
        }
    back_rule (skips_attribute i d k waited_item) may sees numbers read kept quiet q =
        let r : Rule = skips_attribute i d k waited_item in
        record {
          defs = q.listed.0;
          ahead = subst (λ (vs : List Task). IsAhead tables w finished from answer last (from_rule r q.listed.0 es) m vs) (sym may.due.visited)
              (resumed_back r i d k waited_item may.due.waiting.call may.of refl (λ n. refl) q);
        }
    back_rule (falls_back i d k waited_item) may sees numbers read kept quiet q =
        let r : Rule = falls_back i d k waited_item in
        record {
          defs = q.listed.0;
          ahead = subst (λ (vs : List Task). IsAhead tables w finished from answer last (from_rule r q.listed.0 es) m vs) (sym may.quiet.visited)
              (resumed_back r i d k waited_item may.waiting.call may.of refl (λ n. refl) q);
        }
    back_rule (resolves_imports rule) may sees numbers read kept quiet q =
        let r : Rule = resolves_imports rule in
        let cs : List ImportChange = import_acts finished (import_state s) rule in
        let now : Ahead (MapAfter r) s.agenda = subst (λ (vs : List Task). Ahead (MapAfter r) vs) (same_agenda cs (asking s r)) q in
        record {
          defs = [];
          ahead = back_same tables w finished from answer last es (asking s r) (acts finished s r) now now.listed (nothing_made cs)
              (λ k. ap (λ (xs : List ModuleDefId). xs ++ gathered k s.agenda now.listed) (nothing_added cs k)) (λ more g. g);
        }
    back_rule (expands_call i d makro x) may sees numbers read kept quiet q =
        let r : Rule = expands_call i d makro x in
        let next : List Task = visits_over (call_site d x.id) x.tree.tree.items in
        let begun : State = perform (asking s r) (ends i Handled ∷ goes_on next ∷ notes d.site.home (invocation_of d x.id) ∷ []) in
        let now : Ahead (MapAfter r) next = subst (λ (vs : List Task). Ahead (MapAfter r) vs)
        (expanding_agenda begun d.ast_id (helpers_brought finished m d makro (Some (either.Left x.id))) (module_id m d.site.home) d (error_of x.there)) q in
        let defs : List ModuleDefId = altogether (call_site d x.id) x.tree.tree.items now.listed in
        record {
          defs = defs;
          ahead =
              subst (λ (vs : List Task). IsAhead tables w finished from answer last (from_rule r defs es) m vs) (sym may.called.due.visited)
              (expansion_back i d makro x may sees numbers read now);
        }
