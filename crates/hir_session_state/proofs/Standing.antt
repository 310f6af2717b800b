-- Where the steps of a place lead stays while what is kept on the way does.
use Rattle.std.proofs.Common.{◌≡◌, ◌∙◌, ap, sym, subst, refl, ℕ, zero, suc, ◌<◌, Bool, true, false, cond, is_some, Option, Some, None, option_map, List, []}
use Rattle.std.proofs.Common.{◌∷◌, ◌++◌, length, not, append_assoc, append-nil, arith, Contains}
use Rattle.std.specs.Option.{option_and_then}
use Rattle.std.specs.BTreeMap.{is_at}
use Rattle.std.specs.Cmp.Lexicographic.{slice_cmp}
use Rattle.std.specs.List.{list_any}
use Rattle.std.specs.Ordering.{nat_cmp}
use Rattle.std.specs.Prelude.{is_none, slice_get}
use Rattle.hir_collector_rules.specs.HirBase.Place.{PlaceValue}
use Rattle.hir_collector_rules.specs.HirIds.contracts.ids.MapIdPartialEq.TheImpl as map_id
use Rattle.hir_collector_rules.specs.HirIds.declared.ast_id.BlockId.{BlockId}
use Rattle.hir_collector_rules.specs.HirBase.declared.place.BlockPlace.{BlockPlace}
use Rattle.hir_collector_rules.specs.HirIds.declared.ids.Crate.{Crate}
use Rattle.hir_collector_rules.specs.HirIds.declared.ast_id.EditionedFileId.{EditionedFileId}
use Rattle.hir_collector_rules.specs.HirIds.declared.ast_id.HirFileId.{HirFileId}
use Rattle.hir_collector_rules.specs.HirBase.declared.macro_kind.MacroCallLoc.{MacroCallLoc}
use Rattle.hir_collector_rules.specs.HirIds.declared.ids.MapId.{MapId}
use Rattle.hir_collector_rules.specs.HirIds.declared.ids.ModuleId.{ModuleId}
use Rattle.hir_collector_rules.specs.HirBase.declared.place.PlaceElement.{PlaceElement}
use Rattle.hir_collector_rules.specs.HirIds.declared.ast_id.SyntaxId.{SyntaxId}
use Rattle.hir_collector_rules.specs.HirIds.declared.ast_id.HirFileId.TheVariants.{File, Macro}
use Rattle.hir_collector_rules.specs.HirBase.declared.place.PlaceElement.TheVariants as element
use Rattle.hir_collector_rules.specs.HirDefMapRules.Diagnostics.{call_node}
use Rattle.hir_collector_rules.specs.HirDefMapRules.Inner.OverlayLaws.{exact_map, same_id}
use Rattle.hir_collector_rules.specs.HirDefMapRules.Overlay.{Maps, Placed, module_in, overlay, placed_in}
use Rattle.hir_collector_rules.specs.HirDefMapRules.References.{any_reference_in, is_missing, test_child}
use Rattle.hir_collector_rules.specs.HirDefMapRules.declared.reference.Reference.TheVariants as named
use Rattle.hir_collector_rules.proofs.HirDefMapRules.NoneOf.{none_at, none_found}
use Rattle.hir_collector_rules.proofs.HirDefMapRules.Referred.{module_parts}
use Rattle.hir_collector_rules.specs.HirDefMapRules.State.{ModuleValue, child_at, child_of, crate_map, module_at, root_of}
use Rattle.hir_collector_rules.specs.HirMapParts.declared.origin.ModuleOrigin.{ModuleOrigin}
use Rattle.hir_collector_rules.specs.HirMapParts.declared.origin.ModuleOrigin.TheVariants as origin
use Rattle.hir_collector_rules.specs.Start.{Beginning, holder_of}
use Rattle.hir_collector_rules.specs.HirTables.Tables.{TablesValue, KeepsTables, block_at, call_at}
use Rattle.hir_session_state.specs.Blocks.{Blocks}
use Rattle.hir_session_state.specs.Crates.{CrateValue, begins_in_block, beginning_in}
use Rattle.hir_session_state.specs.Kept.{Resolution, Resolutions, kept_in}
use Rattle.hir_session_state.specs.SourceTable.{SourceTable}
use Rattle.hir_session_state.specs.SessionState.{SessionState, beginning_at, beginning_by, beginning_held, beginning_of, follows, is_marked, kept_of, module_of}
use Rattle.hir_session_state.specs.SessionState.{read_under, standing_of, IsPlace, IsResolutionOf, IsSound}
use Rattle.hir_session_state.specs.SessionState.IsPlace.{of_block, of_crate}
use Rattle.hir_session_state.specs.Standing.{Standing, block_below, block_map, block_number, child_kept, definition_file, down, file_of_module, file_of_origin}
use Rattle.hir_session_state.specs.Standing.{file_within, from_crate, is_set, kept_block, module_by, most_calls, standing_in, step, to_child, to_root}
use Rattle.hir_session_state.specs.Standing.Standing.{at, lacks, stale, unset}
use Rattle.hir_session_state.proofs.Following.{followed_holder}
use Rattle.hir_session_state.proofs.Places.{has_block_number, number_kept, number_means}
use Rattle.hir_session_state.proofs.Truth.{clash, no_value, one_value}

-- ---- where a step leads

pub at_module : (st : Standing) (m : ModuleId) → module_by st ≡ Some m → st ≡ at m
at_module (at n) m e = ap at (one_value e)
at_module other m e = no_value e

same_module : {m n : ModuleId} → at m ≡ at n → m ≡ n
same_module e = cc

-- a child is one of the same map
pub to_child_at : (id : MapId) (o : Option ModuleId) (m : ModuleId) → to_child id o ≡ at m → (o ≡ Some m) × (m.map ≡ id)
to_child_at id None m e = absurd (let no : ⊥ = cc in no)
to_child_at id (Some n) m e = go (map_id.ghosts.eq n.map id) refl e
  where
    go : (b : Bool) → map_id.ghosts.eq n.map id ≡ b → cond b (at n) (lacks id) ≡ at m → (Some n ≡ Some m) × (m.map ≡ id)
    go true same f =
        let is : n ≡ m = same_module f in
        (ap (λ (x : ModuleId). Some x) is, sym (ap (λ (x : ModuleId). x.map) is) ∙ exact_map n.map id same)
    go false other f = absurd (let no : ⊥ = cc in no)

-- a block to which a step leads is set, has a number and is kept
pub record IsBlockAt (tables : TablesValue) (blocks : Blocks) (kept : Resolutions) (place : BlockPlace) (m : ModuleId) : Type 0 where
  pub set : is_set blocks place ≡ true
  pub number : BlockId
  pub numbered : block_number tables place ≡ Some number
  pub found : Resolution
  pub is : kept_in kept (block_map place.holder.krate number) ≡ Some found
  pub root : root_of found.map.id ≡ m

pub to_block_at : (tables : TablesValue) (blocks : Blocks) (kept : Resolutions) (place : BlockPlace) (m : ModuleId)
    → cond (is_set blocks place) (to_root (kept_block tables kept place)) unset ≡ at m → IsBlockAt tables blocks kept place m
to_block_at tables blocks kept place m e = go (is_set blocks place) refl e
  where
    rooted : is_set blocks place ≡ true → (n : BlockId) → block_number tables place ≡ Some n → (o : Option Resolution)
        → kept_in kept (block_map place.holder.krate n) ≡ o
        → to_root o ≡ at m → IsBlockAt tables blocks kept place m
    rooted on n numbered None is f = absurd (let no : ⊥ = cc in no)
    rooted on n numbered (Some r) is f = record { set = on; number = n; numbered = numbered; found = r; is = is; root = same_module f }

    numbered : is_set blocks place ≡ true → (o : Option BlockId) → block_number tables place ≡ o
        → to_root (option_and_then (λ (n : BlockId). kept_in kept (block_map place.holder.krate n)) o) ≡ at m
        → IsBlockAt tables blocks kept place m
    numbered on None is f = absurd (let no : ⊥ = cc in no)
    numbered on (Some n) is f = rooted on n is (kept_in kept (block_map place.holder.krate n)) refl f

    go : (b : Bool) → is_set blocks place ≡ b → cond b (to_root (kept_block tables kept place)) unset ≡ at m → IsBlockAt tables blocks kept place m
    go true on f = numbered on (block_number tables place) refl f
    go false off f = absurd (let no : ⊥ = cc in no)

-- and the other way round
pub block_step : (tables : TablesValue) (blocks : Blocks) (kept : Resolutions) (place : BlockPlace) (m : ModuleId) → IsBlockAt tables blocks kept place m
    → cond (is_set blocks place) (to_root (kept_block tables kept place)) unset ≡ at m
block_step tables blocks kept place m p =
    ap (λ (b : Bool). cond b (to_root (kept_block tables kept place)) unset) p.set
    ∙ ap (λ (o : Option BlockId). to_root (option_and_then (λ (n : BlockId). kept_in kept (block_map place.holder.krate n)) o)) p.numbered
    ∙ ap to_root p.is
    ∙ ap at p.root

-- steps behind others
pub down-append : (tables : TablesValue) (blocks : Blocks) (kept : Resolutions) (krate : Crate) (before : List PlaceElement) (st : Standing)
    (xs ys : List PlaceElement)
    → down tables blocks kept krate before st (xs ++ ys) ≡ down tables blocks kept krate (before ++ xs) (down tables blocks kept krate before st xs) ys
down-append tables blocks kept krate before st [] ys = ap (λ (zs : List PlaceElement). down tables blocks kept krate zs st ys) (sym (append-nil before))
down-append tables blocks kept krate before st (x ∷ xs) ys =
    let next : Standing = step tables blocks kept krate before st x in
    down-append tables blocks kept krate (before ++ x ∷ []) next xs ys
    ∙ ap (λ (zs : List PlaceElement). down tables blocks kept krate zs (down tables blocks kept krate (before ++ x ∷ []) next xs) ys)
    (append_assoc before (x ∷ []) xs)

-- ---- what the run for a block begins with

-- where its number means a block, its holding place names a module, and that is written in a file
pub record IsBlockBegun (s : SessionState) (krate : Crate) (b : BlockId) (from : Beginning) : Type 0 where
  pub place : BlockPlace
  pub means : block_at s.tables b ≡ Some place
  pub holder : ModuleId
  pub held : module_of s place.holder ≡ Some holder
  pub file : EditionedFileId
  pub written : definition_file s.tables s.kept holder ≡ Some file
  pub is : begins_in_block krate b holder file place.id ≡ from

pub block_begun : (s : SessionState) (krate : Crate) (b : BlockId) (from : Beginning) → beginning_by s krate (Some b) ≡ Some from → IsBlockBegun s krate b from
block_begun s krate b from e = go (block_at s.tables b) refl e
  where
    in_file : (place : BlockPlace) → block_at s.tables b ≡ Some place → (h : ModuleId) → module_of s place.holder ≡ Some h → (o : Option EditionedFileId)
        → definition_file s.tables s.kept h ≡ o
        → option_map (λ (file : EditionedFileId). begins_in_block krate b h file place.id) o ≡ Some from → IsBlockBegun s krate b from
    in_file place means h held None is f = no_value f
    in_file place means h held (Some file) is f = record { place = place; means = means; holder = h; held = held; file = file; written = is; is = one_value f }

    in_module : (place : BlockPlace) → block_at s.tables b ≡ Some place → (o : Option ModuleId) → module_of s place.holder ≡ o
        → option_and_then (λ (h : ModuleId). beginning_held s krate b place.id h) o ≡ Some from → IsBlockBegun s krate b from
    in_module place means None is f = no_value f
    in_module place means (Some h) is f = in_file place means h is (definition_file s.tables s.kept h) refl f

    go : (o : Option BlockPlace) → block_at s.tables b ≡ o → option_and_then (λ (place : BlockPlace). beginning_at s krate b place) o ≡ Some from
        → IsBlockBegun s krate b from
    go None is f = no_value f
    go (Some place) is f = in_module place is (module_of s place.holder) refl f

-- and the other way round
pub begun_block : (s : SessionState) (krate : Crate) (b : BlockId) (from : Beginning) → IsBlockBegun s krate b from → beginning_by s krate (Some b) ≡ Some from
begun_block s krate b from p =
    ap (option_and_then (λ (place : BlockPlace). beginning_at s krate b place)) p.means
    ∙ ap (option_and_then (λ (h : ModuleId). beginning_held s krate b p.place.id h)) p.held
    ∙ ap (option_map (λ (file : EditionedFileId). begins_in_block krate b p.holder file p.place.id)) p.written
    ∙ ap (λ (x : Beginning). Some x) p.is

-- it has the holder
pub holder_begun : (s : SessionState) (krate : Crate) (b : BlockId) (from : Beginning) (p : IsBlockBegun s krate b from) → holder_of from.start ≡ Some p.holder
holder_begun s krate b from p = sym (ap (λ (x : Beginning). holder_of x.start) p.is)

-- nothing holds what a crate's run gives
pub crate_unheld : (s : SessionState) (krate : Crate) (from : Beginning) → beginning_by s krate None ≡ Some from → holder_of from.start ≡ None
crate_unheld s krate from e = sym (ap (λ (x : Beginning). holder_of x.start) (one_value e))

-- ---- the file in which syntax is written

file_kept : (t T : TablesValue) → KeepsTables t T → (n : ℕ) (id : HirFileId) (file : EditionedFileId) → file_within n t id ≡ Some file → file_within n T id
    ≡ Some file
file_kept t T keeps n (File f) file e = e
file_kept t T keeps zero (Macro c) file e = e
file_kept t T keeps (suc n) (Macro c) file e = go (λ id f. file_kept t T keeps n id file f) (call_at t c) refl e
  where
    go : ((id : HirFileId) → file_within n t id ≡ Some file → file_within n T id ≡ Some file) → (o : Option MacroCallLoc) → call_at t c ≡ o
        → option_and_then (λ (call : MacroCallLoc). file_within n t (call_node call.kind).file_id) o ≡ Some file
        → option_and_then (λ (call : MacroCallLoc). file_within n T (call_node call.kind).file_id) (call_at T c) ≡ Some file
    go within None is f = no_value f
    go within (Some call) is f =
        ap (option_and_then (λ (x : MacroCallLoc). file_within n T (call_node x.kind).file_id)) (keeps.calls c.0 call is)
        ∙ within (call_node call.kind).file_id f

-- stays as tables grow
pub origin_file_kept : (t T : TablesValue) → KeepsTables t T → (o : ModuleOrigin) (file : EditionedFileId) → file_of_origin t o ≡ Some file → file_of_origin T o
    ≡ Some file
origin_file_kept t T keeps (origin.CrateRoot f) file e = e
origin_file_kept t T keeps (origin.File is_mod_rs declared tree f) file e = e
origin_file_kept t T keeps (origin.Inline tree declared) file e = file_kept t T keeps (most_calls tree.file) tree.file file e
origin_file_kept t T keeps (origin.BlockExpr id block) file e = file_kept t T keeps (most_calls block.file_id) block.file_id file e

-- ---- what is kept in a sound session

-- what is kept of a place isn't marked
pub unmarked : (s : SessionState) (id : MapId) (r : Resolution) → kept_of s id ≡ Some r → is_marked s id ≡ false
unmarked s id r is = ap (λ (o : Option Resolution). is_none o) is

module _ (s : SessionState) (sound : IsSound s) where
  -- what is kept of a place is a resolution of it
  pub kept_gives : (id : MapId) (r : Resolution) → kept_of s id ≡ Some r → IsResolutionOf s id r
  kept_gives id r is =
      let now = sound.current id (unmarked s id r is) in
      subst (λ (x : Resolution). IsResolutionOf s id x) (one_value (sym now.is ∙ is)) now.gives

  -- a block of which something is kept has a number
  pub kept_number : (krate : Crate) (b : BlockId) (r : Resolution) → kept_of s (block_map krate b) ≡ Some r → (place : BlockPlace)
      × (block_at s.tables b ≡ Some place)
  kept_number krate b r is = go (sound.placed (block_map krate b) (unmarked s (block_map krate b) r is))
    where
      go : IsPlace s (block_map krate b) → (place : BlockPlace) × (block_at s.tables b ≡ Some place)
      go (of_crate none within) = no_value (sym none)
      go (of_block c place is_c means own within set) = (place, ap (block_at s.tables) (one_value is_c) ∙ means)

-- what a block's resolution begins with
pub resolution_begun : (s : SessionState) (krate : Crate) (b : BlockId) (r : Resolution) (p : IsResolutionOf s (block_map krate b) r)
    → IsBlockBegun s krate b p.from
resolution_begun s krate b r p = block_begun s krate b p.from p.begun

-- and what holds it
pub resolution_holder : (s : SessionState) (krate : Crate) (b : BlockId) (r : Resolution) (p : IsResolutionOf s (block_map krate b) r)
    → r.map.holder ≡ Some (resolution_begun s krate b r p).holder
resolution_holder s krate b r p = p.holder ∙ holder_begun s krate b p.from (resolution_begun s krate b r p)

-- ---- what steps lead to is there

-- a module is one of a map of the crate that is kept
pub record IsModuleKept (s : SessionState) (krate : Crate) (m : ModuleId) : Type 0 where
  pub own : m.map.krate ≡ krate
  pub found : Resolution
  pub is : kept_of s m.map ≡ Some found
  pub there : is_some (module_at found.map m.index) ≡ true

not_off : (b : Bool) → not b ≡ false → b ≡ true
not_off true e = refl
not_off false e = clash refl e

-- the first of some modules
first_there : (ms : List ModuleValue) → 0 < length ms → is_some (slice_get ms 0) ≡ true
first_there [] low = absurd (omega arith)
first_there (m ∷ ms) low = refl

-- what a resolution may name
abbrev named_by : SessionState → MapId → Resolution → Maps
named_by s id r = overlay (read_under s id r.holders) r.map

-- a child that lies in the map of a resolution is one of its modules
child_there : (s : SessionState) (id : MapId) (r : Resolution) → IsResolutionOf s id r → (index : ℕ) (name : List ℕ) (c : ModuleId) → child_at r.map index name
    ≡ Some c → c.map ≡ id
    → is_some (module_at r.map c.index) ≡ true
child_there s id r p index name c child of = go (module_at r.map index) refl child
  where
    inside : is_some (module_in (named_by s id r) c) ≡ true → is_some (module_at r.map c.index) ≡ true
    inside there =
        let same : map_id.ghosts.eq c.map r.map.id ≡ true = ap (λ (x : MapId). map_id.ghosts.eq x r.map.id) (of ∙ sym p.own) ∙ same_id r.map.id in
        sym (ap (λ (b : Bool). is_some (option_and_then (λ (q : Placed). module_at q.map c.index) (cond b (Some (placed_in (read_under s id r.holders) r.map))
        (read_under s id r.holders c.map)))) same) ∙ there

    go : (o : Option ModuleValue) → module_at r.map index ≡ o → child_of o name ≡ Some c → is_some (module_at r.map c.index) ≡ true
    go None is e = no_value e
    go (Some v) is e =
        let none : any_reference_in (is_missing (named_by s id r)) v ≡ false = none_at (any_reference_in (is_missing (named_by s id r))) r.map.modules
        p.names.modules index v is in
        let children : list_any (test_child (is_missing (named_by s id r))) v.children ≡ false = (module_parts (is_missing (named_by s id r)) v none).children
        in
        let there : is_missing (named_by s id r) (named.Module c) ≡ false =
        none_found (λ (x : ModuleId). is_missing (named_by s id r) (named.Module x)) (is_at (slice_cmp nat_cmp name)) v.children c children e in
        inside (not_off (is_some (module_in (named_by s id r) c)) there)

module _ (s : SessionState) (sound : IsSound s) where
  pub step_kept : (krate : Crate) (before : List PlaceElement) (st : Standing) (e : PlaceElement) (m : ModuleId)
      → ((n : ModuleId) → st ≡ at n → IsModuleKept s krate n)
      → step s.tables s.sources.blocks s.kept krate before st e ≡ at m → IsModuleKept s krate m
  step_kept krate before (at n) (element.Module name) m from leads =
      let start = from n refl in
      let child = to_child_at n.map (child_kept s.kept n name) m leads in
      let named_child : child_at start.found.map n.index name ≡ Some m =
      sym (ap (λ (o : Option Resolution). option_and_then (λ (r : Resolution). child_at r.map n.index name) o) start.is) ∙ child.0 in
      record {
        own = ap (λ (x : MapId). x.krate) child.1 ∙ start.own;
        found = start.found;
        is = ap (kept_of s) child.1 ∙ start.is;
        there = child_there s n.map start.found (kept_gives s sound n.map start.found start.is) n.index name m named_child child.1;
      }
  step_kept krate before (at n) (element.Block id) m from leads =
      let p = to_block_at s.tables s.sources.blocks s.kept (block_below krate before id) m leads in
      let gives = kept_gives s sound (block_map krate p.number) p.found p.is in
      let own : m.map ≡ block_map krate p.number = sym (ap (λ (x : ModuleId). x.map) p.root) ∙ gives.own in
      record {
        own = ap (λ (x : MapId). x.krate) own;
        found = p.found;
        is = ap (kept_of s) own ∙ p.is;
        there = ap (λ (x : ModuleId). is_some (module_at p.found.map x.index)) (sym p.root) ∙ first_there p.found.map.modules gives.names.root;
      }
  step_kept krate before (lacks id) (element.Module name) m from leads = absurd (let no : ⊥ = cc in no)
  step_kept krate before (lacks id) (element.Block b) m from leads = absurd (let no : ⊥ = cc in no)
  step_kept krate before stale (element.Module name) m from leads = absurd (let no : ⊥ = cc in no)
  step_kept krate before stale (element.Block id) m from leads = not_below (is_set s.sources.blocks (block_below krate before id)) leads
    where
      not_below : (b : Bool) → cond b stale unset ≡ at m → IsModuleKept s krate m
      not_below true f = absurd (let no : ⊥ = cc in no)
      not_below false f = absurd (let no : ⊥ = cc in no)
  step_kept krate before unset (element.Module name) m from leads = absurd (let no : ⊥ = cc in no)
  step_kept krate before unset (element.Block b) m from leads = absurd (let no : ⊥ = cc in no)

  down_kept : (krate : Crate) (before : List PlaceElement) (st : Standing) (steps : List PlaceElement) (m : ModuleId)
      → ((n : ModuleId) → st ≡ at n → IsModuleKept s krate n)
      → down s.tables s.sources.blocks s.kept krate before st steps ≡ at m → IsModuleKept s krate m
  down_kept krate before st [] m from leads = from m leads
  down_kept krate before st (e ∷ more) m from leads =
      down_kept krate (before ++ e ∷ []) (step s.tables s.sources.blocks s.kept krate before st e) more m (λ n is. step_kept krate before st e n from is) leads

  -- the module to which the steps of a place lead
  pub module_there : (place : PlaceValue) (m : ModuleId) → standing_of s place ≡ at m → IsModuleKept s place.krate m
  module_there place m leads = go (kept_of s (crate_map place.krate)) refl leads
    where
      root_kept : (r : Resolution) → kept_of s (crate_map place.krate) ≡ Some r → (n : ModuleId) → at (root_of r.map.id) ≡ at n → IsModuleKept s place.krate n
      root_kept r is n e =
          let gives = kept_gives s sound (crate_map place.krate) r is in
          subst (λ (x : ModuleId). IsModuleKept s place.krate x) (same_module e) (record {
            own = ap (λ (x : MapId). x.krate) gives.own;
            found = r;
            is = ap (kept_of s) gives.own ∙ is;
            there = first_there r.map.modules gives.names.root;
          })

      go : (o : Option Resolution) → kept_of s (crate_map place.krate) ≡ o → from_crate s.tables s.sources.blocks s.kept o place ≡ at m
          → IsModuleKept s place.krate m
      go None is f = absurd (let no : ⊥ = cc in no)
      go (Some r) is f = down_kept place.krate [] (at (root_of r.map.id)) place.elements m (root_kept r is) f

-- ---- along a way in which what is kept stays

module _ (s : SessionState) (sound : IsSound s) (Stays : MapId → Type 0) (outwards : (id d : MapId) → Stays id → Contains (follows s id) d → Stays d) where
  abbrev next : Crate → List PlaceElement → Standing → PlaceElement → Standing
  next krate before st e = step s.tables s.sources.blocks s.kept krate before st e

  abbrev on : Crate → List PlaceElement → Standing → List PlaceElement → Standing
  on krate before st steps = down s.tables s.sources.blocks s.kept krate before st steps

  -- a module of a map that stays
  record IsStaying (st : Standing) : Type 0 where
    pub module_ : ModuleId
    pub is : st ≡ at module_
    pub stays : Stays module_.map

  -- with a block's map that of its holder stays
  holder_stays : (krate : Crate) (before : List PlaceElement) (id : SyntaxId) (n m : ModuleId) → standing_of s (record { krate = krate; elements = before })
      ≡ at n
      → IsBlockAt s.tables s.sources.blocks s.kept (block_below krate before id) m → Stays m.map → Stays n.map
  holder_stays krate before id n m is p stays =
      let gives = kept_gives s sound (block_map krate p.number) p.found p.is in
      let begun = resolution_begun s krate p.number p.found gives in
      let place : begun.place ≡ block_below krate before id = one_value (sym begun.means ∙ number_means s.tables (block_below krate before id) p.number
      p.numbered) in
      let holder : begun.holder ≡ n = one_value (sym begun.held ∙ ap (λ (x : BlockPlace). module_of s x.holder) place ∙ ap module_by is) in
      let held : p.found.map.holder ≡ Some n = resolution_holder s krate p.number p.found gives ∙ ap (λ (x : ModuleId). Some x) holder in
      let own : m.map ≡ block_map krate p.number = sym (ap (λ (x : ModuleId). x.map) p.root) ∙ gives.own in
      outwards (block_map krate p.number) n.map (subst Stays own stays) (followed_holder s (block_map krate p.number) p.number p.found n refl p.is held)

  -- where a step leads into a map that stays, it begins in one
  back_step : (krate : Crate) (before : List PlaceElement) (st : Standing) (e : PlaceElement) (m : ModuleId)
      → standing_of s (record { krate = krate; elements = before }) ≡ st
      → next krate before st e ≡ at m → Stays m.map → IsStaying st
  back_step krate before (at n) (element.Module name) m is leads stays =
      let child = to_child_at n.map (child_kept s.kept n name) m leads in
      record { module_ = n; is = refl; stays = subst Stays child.1 stays }
  back_step krate before (at n) (element.Block id) m is leads stays = record {
    module_ = n;
    is = refl;
    stays = holder_stays krate before id n m is (to_block_at s.tables s.sources.blocks s.kept (block_below krate before id) m leads) stays;
  }
  back_step krate before (lacks id) (element.Module name) m is leads stays = absurd (let no : ⊥ = cc in no)
  back_step krate before (lacks id) (element.Block b) m is leads stays = absurd (let no : ⊥ = cc in no)
  back_step krate before stale (element.Module name) m is leads stays = absurd (let no : ⊥ = cc in no)
  back_step krate before stale (element.Block id) m is leads stays = go (is_set s.sources.blocks (block_below krate before id)) leads
    where
      go : (b : Bool) → cond b stale unset ≡ at m → IsStaying stale
      go true f = absurd (let no : ⊥ = cc in no)
      go false f = absurd (let no : ⊥ = cc in no)
  back_step krate before unset (element.Module name) m is leads stays = absurd (let no : ⊥ = cc in no)
  back_step krate before unset (element.Block b) m is leads stays = absurd (let no : ⊥ = cc in no)

  -- what stands behind some steps from the root of a crate that is kept
  module _ (krate : Crate) (r : Resolution) (is_kept : kept_of s (crate_map krate) ≡ Some r) where
    reached : (before : List PlaceElement) (st : Standing) → on krate [] (at (root_of r.map.id)) before ≡ st
        → standing_of s (record { krate = krate; elements = before }) ≡ st
    reached before st leads =
        ap (λ (o : Option Resolution). from_crate s.tables s.sources.blocks s.kept o (record { krate = krate; elements = before })) is_kept ∙ leads

    one_more : (before : List PlaceElement) (st : Standing) (e : PlaceElement) → on krate [] (at (root_of r.map.id)) before ≡ st
        → on krate [] (at (root_of r.map.id)) (before ++ e ∷ []) ≡ next krate before st e
    one_more before st e leads =
        down-append s.tables s.sources.blocks s.kept krate [] (at (root_of r.map.id)) before (e ∷ []) ∙ ap (λ (x : Standing). next krate before x e) leads

    back : (before : List PlaceElement) (st : Standing) (more : List PlaceElement) (m : ModuleId) → on krate [] (at (root_of r.map.id)) before ≡ st
        → on krate before st more ≡ at m → Stays m.map
        → IsStaying st
    back before st [] m is leads stays = record { module_ = m; is = leads; stays = stays }
    back before st (e ∷ more) m is leads stays =
        let later = back (before ++ e ∷ []) (next krate before st e) more m (one_more before st e is) leads stays in
        back_step krate before st e later.module_ (reached before st is) later.is later.stays

  module _ (C : List CrateValue) (T : TablesValue) (F : SourceTable) (K : Resolutions) (keeps : KeepsTables s.tables T)
      (same : (id : MapId) → Stays id → kept_in K id ≡ kept_of s id)
      (set : (b : BlockId) (place : BlockPlace) → block_at s.tables b ≡ Some place → Stays (block_map place.holder.krate b) → is_set s.sources.blocks place
      ≡ true → is_set F.blocks place ≡ true)
    where
      -- the session with other crates, tables, sources and resolutions
      abbrev other : SessionState
      other = record { crates = C; tables = T; sources = F; kept = K }

      -- one step
      step_stays : (krate : Crate) (before : List PlaceElement) (n : ModuleId) (e : PlaceElement) (m : ModuleId) → Stays n.map → next krate before (at n) e
          ≡ at m → Stays m.map
          → step T F.blocks K krate before (at n) e ≡ at m
      step_stays krate before n (element.Module name) m here leads there =
          ap (λ (o : Option Resolution). to_child n.map (option_and_then (λ (r : Resolution). child_at r.map n.index name) o)) (same n.map here) ∙ leads
      step_stays krate before n (element.Block id) m here leads there =
          let place : BlockPlace = block_below krate before id in
          let p = to_block_at s.tables s.sources.blocks s.kept place m leads in
          let own : m.map ≡ block_map krate p.number = sym (ap (λ (x : ModuleId). x.map) p.root) ∙
          (kept_gives s sound (block_map krate p.number) p.found p.is).own in
          let stays : Stays (block_map krate p.number) = subst Stays own there in
          block_step T F.blocks K place m (record {
            set = set p.number place (number_means s.tables place p.number p.numbered) stays p.set;
            number = p.number;
            numbered = number_kept s.tables T keeps place p.number p.numbered;
            found = p.found;
            is = same (block_map krate p.number) stays ∙ p.is;
            root = p.root;
          })

      -- all steps
      forth : (krate : Crate) (r : Resolution) (is_kept : kept_of s (crate_map krate) ≡ Some r) (before : List PlaceElement) (st : Standing)
          (more : List PlaceElement) (m : ModuleId)
          → on krate [] (at (root_of r.map.id)) before ≡ st → on krate before st more ≡ at m → Stays m.map → down T F.blocks K krate before st more ≡ at m
      forth krate r is_kept before st [] m is leads stays = leads
      forth krate r is_kept before st (e ∷ more) m is leads stays =
          let later = back krate r is_kept (before ++ e ∷ []) (next krate before st e) more m (one_more krate r is_kept before st e is) leads stays in
          let here = back_step krate before st e later.module_ (reached krate r is_kept before st is) later.is later.stays in
          let from : next krate before (at here.module_) e ≡ at later.module_ = ap (λ (x : Standing). next krate before x e) (sym here.is) ∙ later.is in
          let first : step T F.blocks K krate before st e ≡ next krate before st e =
          ap (λ (x : Standing). step T F.blocks K krate before x e) here.is ∙ step_stays krate before here.module_ e later.module_ here.stays from later.stays ∙
          sym later.is in
          ap (λ (x : Standing). down T F.blocks K krate (before ++ e ∷ []) x more) first
          ∙ forth krate r is_kept (before ++ e ∷ []) (next krate before st e) more m (one_more krate r is_kept before st e is) leads stays

      -- the steps of a place that lead into a map that stays lead there
      pub standing_stays : (place : PlaceValue) (m : ModuleId) → standing_of s place ≡ at m → Stays m.map → standing_in T F.blocks K place ≡ at m
      standing_stays place m leads stays = go (kept_of s (crate_map place.krate)) refl leads
        where
          go : (o : Option Resolution) → kept_of s (crate_map place.krate) ≡ o → from_crate s.tables s.sources.blocks s.kept o place ≡ at m
              → standing_in T F.blocks K place ≡ at m
          go None is f = absurd (let no : ⊥ = cc in no)
          go (Some r) is f =
              let root = back place.krate r is [] (at (root_of r.map.id)) place.elements m refl f stays in
              let first : root_of r.map.id ≡ root.module_ = same_module root.is in
              let own : root.module_.map ≡ crate_map place.krate = sym (ap (λ (x : ModuleId). x.map) first) ∙
              (kept_gives s sound (crate_map place.krate) r is).own in
              ap (λ (o : Option Resolution). from_crate T F.blocks K o place) (same (crate_map place.krate) (subst Stays own root.stays) ∙ is)
              ∙ forth place.krate r is [] (at (root_of r.map.id)) place.elements m refl f stays

      pub module_stays : (place : PlaceValue) (m : ModuleId) → module_of s place ≡ Some m → Stays m.map → module_of other place ≡ Some m
      module_stays place m leads stays = ap module_by (standing_stays place m (at_module (standing_of s place) m leads) stays)

      -- so does the file in which a module of such a map is written
      pub definition_stays : (m : ModuleId) (file : EditionedFileId) → definition_file s.tables s.kept m ≡ Some file → Stays m.map → definition_file T K m
          ≡ Some file
      definition_stays m file written stays =
          ap (λ (o : Option Resolution). option_and_then (λ (r : Resolution). file_of_module T (module_at r.map m.index)) o) (same m.map stays)
          ∙ go (kept_of s m.map) written
        where
          of_module : (o : Option ModuleValue) → file_of_module s.tables o ≡ Some file → file_of_module T o ≡ Some file
          of_module None f = f
          of_module (Some v) f = origin_file_kept s.tables T keeps v.origin file f

          go : (o : Option Resolution) → option_and_then (λ (r : Resolution). file_of_module s.tables (module_at r.map m.index)) o ≡ Some file
              → option_and_then (λ (r : Resolution). file_of_module T (module_at r.map m.index)) o ≡ Some file
          go None f = no_value f
          go (Some r) f = of_module (module_at r.map m.index) f

      -- and what a run begins with whose holder lies in such a map
      pub beginning_stays : (id : MapId) → (id.block ≡ None → beginning_in C id.krate.0 ≡ beginning_in s.crates id.krate.0) → (from : Beginning)
          → beginning_of s id ≡ Some from → ((h : ModuleId) → holder_of from.start ≡ Some h → Stays h.map) → beginning_of other id ≡ Some from
      beginning_stays id alike from begun held = go id.block refl begun
        where
          go : (o : Option BlockId) → id.block ≡ o → beginning_by s id.krate o ≡ Some from → beginning_by other id.krate o ≡ Some from
          go None none e = ap (λ (b : Beginning). Some b) (alike none) ∙ e
          go (Some b) of e =
              let p = block_begun s id.krate b from e in
              let stays : Stays p.holder.map = held p.holder (holder_begun s id.krate b from p) in
              begun_block other id.krate b from (record {
                place = p.place;
                means = keeps.blocks b.0 p.place p.means;
                holder = p.holder;
                held = module_stays p.place.holder p.holder p.held stays;
                file = p.file;
                written = definition_stays p.holder p.file p.written stays;
                is = p.is;
              })

-- ---- as tables grow

-- nothing is kept of a block that has no number yet
module _ (s : SessionState) (sound : IsSound s) (T : TablesValue) (keeps : KeepsTables s.tables T) where
  pub kept_block_grown : (place : BlockPlace) → kept_block T s.kept place ≡ kept_block s.tables s.kept place
  kept_block_grown place = go (block_number s.tables place) refl
    where
      unnumbered : block_number s.tables place ≡ None → (n : BlockId) → block_number T place ≡ Some n → (o : Option Resolution)
          → kept_of s (block_map place.holder.krate n) ≡ o → o ≡ None
      unnumbered none n numbered None is = refl
      unnumbered none n numbered (Some r) is =
          let was = kept_number s sound place.holder.krate n r is in
          let same : was.0 ≡ place = one_value (sym (keeps.blocks n.0 was.0 was.1) ∙ number_means T place n numbered) in
          let has = has_block_number s.tables place n (was.1 ∙ ap (λ (x : BlockPlace). Some x) same) in
          no_value (sym none ∙ has.1)

      or_none : block_number s.tables place ≡ None → (o : Option BlockId) → block_number T place ≡ o
          → option_and_then (λ (n : BlockId). kept_in s.kept (block_map place.holder.krate n)) o ≡ None
      or_none none None is = refl
      or_none none (Some n) is = unnumbered none n is (kept_of s (block_map place.holder.krate n)) refl

      go : (o : Option BlockId) → block_number s.tables place ≡ o → kept_block T s.kept place
          ≡ option_and_then (λ (n : BlockId). kept_in s.kept (block_map place.holder.krate n)) o
      go None none = or_none none (block_number T place) refl
      go (Some n) is = ap (option_and_then (λ (m : BlockId). kept_in s.kept (block_map place.holder.krate m))) (number_kept s.tables T keeps place n is)

  step_grown : (krate : Crate) (before : List PlaceElement) (st : Standing) (e : PlaceElement)
      → step T s.sources.blocks s.kept krate before st e ≡ step s.tables s.sources.blocks s.kept krate before st e
  step_grown krate before (at m) (element.Module name) = refl
  step_grown krate before (at m) (element.Block id) =
      ap (λ (o : Option Resolution). cond (is_set s.sources.blocks (block_below krate before id)) (to_root o) unset)
      (kept_block_grown (block_below krate before id))
  step_grown krate before (lacks id) (element.Module name) = refl
  step_grown krate before (lacks id) (element.Block b) = refl
  step_grown krate before stale (element.Module name) = refl
  step_grown krate before stale (element.Block id) = refl
  step_grown krate before unset (element.Module name) = refl
  step_grown krate before unset (element.Block b) = refl

  down_grown : (krate : Crate) (before : List PlaceElement) (st : Standing) (steps : List PlaceElement)
      → down T s.sources.blocks s.kept krate before st steps ≡ down s.tables s.sources.blocks s.kept krate before st steps
  down_grown krate before st [] = refl
  down_grown krate before st (e ∷ more) =
      ap (λ (x : Standing). down T s.sources.blocks s.kept krate (before ++ e ∷ []) x more) (step_grown krate before st e)
      ∙ down_grown krate (before ++ e ∷ []) (step s.tables s.sources.blocks s.kept krate before st e) more

  -- the steps of a place lead where they led
  pub standing_grown : (place : PlaceValue) → standing_in T s.sources.blocks s.kept place ≡ standing_of s place
  standing_grown place = go (kept_of s (crate_map place.krate))
    where
      go : (o : Option Resolution) → from_crate T s.sources.blocks s.kept o place ≡ from_crate s.tables s.sources.blocks s.kept o place
      go None = refl
      go (Some r) = down_grown place.krate [] (at (root_of r.map.id)) place.elements
