-- What waits and whose slots stand for what they stood for reaches the same macro, while the map grows.
use Rattle.std.proofs.Common.{◌≡◌, ◌∙◌, ap, sym, subst, refl, ℕ, ◌<◌, ◌&&◌, Bool, true, false, length, List, [], ◌∷◌, ◌++◌, Option, None, Some, unwrap_or}
use Rattle.std.proofs.Common.{arith}
use Rattle.std.specs.List.{All}
use Rattle.std.specs.Option.{option_map}
use Rattle.std.proofs.lemmas.List.Elements.{All-cons, All-head, All-nil, All-tail}
use Rattle.hir_collector_rules.specs.HirBase.ModPath.{Path}
use Rattle.hir_collector_rules.specs.HirIds.contracts.ids.MapIdPartialEq.TheImpl as map_id
use Rattle.hir_collector_rules.specs.HirIds.declared.ast_id.AstId.{AstId}
use Rattle.hir_collector_rules.specs.HirIds.declared.macro_kind.MacroId.{MacroId}
use Rattle.hir_collector_rules.specs.HirIds.declared.ids.MapId.{MapId}
use Rattle.hir_collector_rules.specs.HirIds.declared.ids.ModuleId.{ModuleId}
use Rattle.hir_collector_rules.specs.HirBase.declared.mod_path.PathKind.{PathKind}
use Rattle.hir_collector_rules.specs.HirBase.declared.mod_path.PathKind.TheVariants as roots
use Rattle.hir_collector_rules.specs.HirPerNs.PerNs.{Item}
use Rattle.hir_collector_rules.specs.HirPerNs.declared.imports.ImportOrExternCrate.{ImportOrExternCrate}
use Rattle.hir_collector_rules.proofs.HirDefMapRules.Fails.{Fails-nowhere}
use Rattle.hir_collector_rules.specs.HirDefMapRules.Macros.{helpers_at}
use Rattle.hir_collector_rules.specs.HirDefMapRules.Overlay.{Maps, overlay}
use Rattle.hir_collector_rules.specs.HirDefMapRules.Scoping.{resolution_of}
use Rattle.hir_collector_rules.specs.HirDefMapRules.State.{IsBefore, IsInOrder, Local, Map, entry_at, numbered, parent_at, parent_of}
use Rattle.hir_collector_rules.specs.HirNameres.declared.nameres.path_resolution.slots.Slot.{Slot as PathSlot}
use Rattle.hir_collector_rules.specs.HirNameres.declared.nameres.path_resolution.slots.Slot.TheVariants.{Module as of_module, Preludes as of_preludes}
use Rattle.hir_collector_rules.specs.HirDefMapRules.declared.reference.Reference.{Reference}
use Rattle.hir_collector_rules.specs.HirDefMapRules.declared.reference.Reference.TheVariants as named
use Rattle.hir_def_map_laws.proofs.Changed.{Change, has_others}
use Rattle.hir_def_map_laws.proofs.ReadLaw.{reads_alike}
use Rattle.hir_def_map_laws.proofs.SameAbove.{before_at, same_numbers_above, same_parent_at}
use Rattle.hir_def_map_laws.specs.ReadLaw.{AgreeAt, BeginsOutside, Grows, IsReadAlike, KeepApart}
use Rattle.hir_collector_rules.specs.declared.macro_directive.MacroDirective.{MacroDirective}
use Rattle.hir_collector_rules.specs.declared.macro_directive.MacroDirectiveKind.{MacroDirectiveKind}
use Rattle.hir_collector_rules.specs.declared.macro_directive.WaitingItem.{WaitingItem}
use Rattle.hir_collector_rules.specs.declared.macro_directive.MacroDirectiveKind.TheVariants.{Attr, Derive, FnLike}
use Rattle.hir_collector_rules.specs.Attributes.{is_helper_among}
use Rattle.hir_collector_rules.specs.HirBase.declared.resolve_mode.MacroSubNs.{MacroSubNs}
use Rattle.hir_collector_rules.specs.HirBase.declared.resolve_mode.MacroSubNs.TheVariants.{Bang}
use Rattle.hir_collector_rules.specs.HirNameres.Scoping.Slots.{reads}
use Rattle.hir_collector_rules.specs.Calls.{LacksMacro, by_style, called_macro, inner_macro, is_inert_by, item_in, lacks_inner, macro_among, path_of_call}
use Rattle.hir_collector_rules.specs.Calls.{reaches_none, style_of, suited}
use Rattle.hir_collector_state.specs.Waiting as vain
use Rattle.hir_collector_state.specs.Waiting.{KeepsModules, ReadsInVain, StandsStill, call_reads, inner_reads, is_helped}
use Rattle.hir_collector_rules.specs.State.{Core, eager_at}
use Rattle.hir_collector_state.proofs.EnumMacros.{enums_bring_no_macro, macros_of}

-- ---- what a slot stands for, at two times

pub agree_itself : (map : Map) (local : Local) (slot : PathSlot) → AgreeAt map local map local slot
agree_itself map local (of_module at name) = record { entries = refl; legacy = refl }
agree_itself map local (of_preludes name) = record { crates = refl; macro_uses = refl }

pub agree_later : (a b c : Map) (k l m : Local) (slot : PathSlot) → AgreeAt a k b l slot → AgreeAt b l c m slot → AgreeAt a k c m slot
agree_later a b c k l m (of_module at name) first then = record { entries = then.entries ∙ first.entries; legacy = then.legacy ∙ first.legacy }
agree_later a b c k l m (of_preludes name) first then = record { crates = then.crates ∙ first.crates; macro_uses = then.macro_uses ∙ first.macro_uses }

-- ---- helpers

-- what waits is inert where it was, as long as the item that an attribute stands on has the helpers that it had
module _ (old new : Map) (node : AstId) where
  inert_by_path : (kind : PathKind) (segments : List (List ℕ)) → ((name : List ℕ) → is_helped new node name ≡ is_helped old node name)
      → is_helper_among (unwrap_or (helpers_at new node) []) kind segments ≡ is_helper_among (unwrap_or (helpers_at old node) []) kind segments
  inert_by_path roots.Plain (name ∷ []) alike = alike name
  inert_by_path roots.Plain [] alike = refl
  inert_by_path roots.Plain (name ∷ (next ∷ rest)) alike = refl
  inert_by_path (roots.Super levels) segments alike = refl
  inert_by_path roots.Crate segments alike = refl
  inert_by_path roots.Abs segments alike = refl
  inert_by_path (roots.DollarCrate krate) segments alike = refl

  pub inert_by_kind : (kind : MacroDirectiveKind) → ((item : AstId) → option_map (λ (k : WaitingItem). node) (item_in kind) ≡ Some item → (name : List ℕ)
      → is_helped new item name ≡ is_helped old item name)
      → is_inert_by new node kind ≡ is_inert_by old node kind
  inert_by_kind (FnLike path) alike = refl
  inert_by_kind (Derive path attr index adt) alike = refl
  inert_by_kind (Attr path attr item) alike = inert_by_path path.kind path.segments (alike node refl)

-- ---- maps that keep their modules

pub modules_kept_itself : (m : Map) → KeepsModules m m
modules_kept_itself m = record { id = refl; holder = refl; crate_data = refl; prelude = refl; parents = λ at v e. ap parent_of e; count = omega arith }

module _ (finished : Maps) (one other : Map) (apart : KeepApart finished one.id) (in_order : IsInOrder one) (keeps : KeepsModules one other) where
  -- the map as it is now, with the variants that its enums had
  abbrev bare : Map
  bare = record other { enums = one.enums }

  grows : Grows one bare
  grows =
      record {
        id = keeps.id;
        holder = keeps.holder;
        crate_data = keeps.crate_data;
        prelude = keeps.prelude;
        parents = keeps.parents;
        enums = λ id variants e. e;
      }

  parent_below : (at : ℕ) (p : ModuleId) → at < length one.modules → parent_at one at ≡ Some p → p.index < length one.modules
  parent_below at p low e = go (parent_at one at) (before_at one bare grows in_order at low) e
    where
      go : (o : Option ModuleId) → IsBefore one.id at o → o ≡ Some p → p.index < length one.modules
      go None f g = absurd cc
      go (Some q) f g = let same : q ≡ p = cc in let less : q.index < at = f.1 in subst (λ (x : ModuleId). x.index < length one.modules) same (omega arith)

  and_no : (b : Bool) → (b && false) ≡ false
  and_no true = refl
  and_no false = refl

  none_changes : (n : Reference) → has_others one.id (λ id. false) n ≡ false
  none_changes (named.Module m) = refl
  none_changes (named.Enum id) = and_no (map_id.ghosts.eq id.loc.container.map one.id)
  none_changes (named.Map id) = refl

  abbrev change : Change
  change = record {
    finished = finished;
    one = one;
    other = bare;
    apart = apart;
    id = keeps.id;
    holder = keeps.holder;
    crate_data = keeps.crate_data;
    prelude = keeps.prelude;
    bound = Some (length one.modules);
    parents = same_parent_at one bare grows in_order;
    parents_below = parent_below;
    above = same_numbers_above one bare grows in_order finished;
    changes = λ id. false;
    names = λ at name. Fails-nowhere (has_others one.id (λ id. false)) none_changes (entry_at one at name);
    variants = λ id e. refl;
  }

  module _ (local other_local : Local) (outside : BeginsOutside one.id local) (style : MacroSubNs) (home : ℕ) (path : Path) (low : home < length one.modules) where
    -- the slots agree also with the map as it is now but for its enums
    agree_bare : (slot : PathSlot) → AgreeAt one local other other_local slot → AgreeAt one local bare other_local slot
    agree_bare (of_module at name) a = record { entries = a.entries; legacy = a.legacy }
    agree_bare (of_preludes name) a = record { crates = a.crates; macro_uses = a.macro_uses }

    alike : All (AgreeAt one local other other_local) (reads finished (by_style style local) one (numbered one.id home) path)
        → IsReadAlike finished one (by_style style local) bare other_local (numbered one.id home) path
    alike agree = reads_alike change (by_style style local) other_local outside home low path (λ n x l. agree_bare _ (agree n x l))

    -- a path reaches the macro that it reached
    pub same_reached : All (AgreeAt one local other other_local) (reads finished (by_style style local) one (numbered one.id home) path)
        → macro_among (resolution_of (overlay finished other) (by_style style other_local) (numbered other.id home) path).resolved_def
        ≡ macro_among (resolution_of (overlay finished one) (by_style style local) (numbered one.id home) path).resolved_def
    same_reached agree =
        ap (λ (o : Option (Item MacroId ImportOrExternCrate)). option_map (λ (i : Item MacroId ImportOrExternCrate). i.def) o)
        ((λ i. macros_of (resolution_of (overlay finished other) (by_style style other_local) (numbered (keeps.id i) home) path))
        ∙ sym (enums_bring_no_macro finished other one.enums (by_style style other_local) path.kind path.segments (numbered one.id home))
        ∙ ap macros_of (alike agree).answers)

-- what holds of each of two lists holds of each
module _ {X : Type 0} (P : X → Type 0) where
  all_left : (xs ys : List X) → All P (xs ++ ys) → All P xs
  all_left [] ys all = All-nil P
  all_left (x ∷ xs) ys all = All-cons P x xs (All-head P x (xs ++ ys) all) (all_left xs ys (All-tail P x (xs ++ ys) all))

  all_right : (xs ys : List X) → All P (xs ++ ys) → All P ys
  all_right [] ys all = all
  all_right (x ∷ xs) ys all = all_right xs ys (All-tail P x (xs ++ ys) all)

-- a call that stands still reaches no macro with all that this asks for first
module _ (finished : Maps) (c : Core) (i : ℕ) (d : MacroDirective) (seen : List PathSlot) (s : StandsStill finished c i d seen) (apart : KeepApart finished c.map.id) where
  before_apart : KeepApart finished s.map.id
  before_apart = subst (λ (id : MapId). KeepApart finished id) s.keeps.id apart

  same_macro : All (AgreeAt s.map s.local c.map c.local) (call_reads finished s.local s.map d) → called_macro finished c.local c.map d
      ≡ called_macro finished s.local s.map d
  same_macro agree =
      ap (suited d.kind)
      (same_reached finished s.map c.map before_apart s.in_order s.keeps s.local c.local s.outside (style_of d.kind) d.site.home (path_of_call d) s.low agree)

  same_inner : (path : Path) → All (AgreeAt s.map s.local c.map c.local) (inner_reads finished s.local s.map d.site.home path)
      → inner_macro finished c.local c.map d.site.home path ≡ inner_macro finished s.local s.map d.site.home path
  same_inner path agree = same_reached finished s.map c.map before_apart s.in_order s.keeps s.local c.local s.outside Bang d.site.home path s.low agree

  pub stands_nowhere : LacksMacro finished c i d
  stands_nowhere = go s.vain
    where
      go : ReadsInVain finished s.local s.map (eager_at c i) d seen → LacksMacro finished c i d
      go (vain.reaches_none nowhere read) = reaches_none (same_macro (subst (All (AgreeAt s.map s.local c.map c.local)) read s.agree) ∙ nowhere)
      go (vain.lacks_inner makro by path called known same among missing read) =
          let both = subst (All (AgreeAt s.map s.local c.map c.local)) read s.agree in
          let own = call_reads finished s.local s.map d in
          let inner = inner_reads finished s.local s.map d.site.home path in
          lacks_inner makro by path (same_macro (all_left (AgreeAt s.map s.local c.map c.local) own inner both) ∙ called) known same among
          (same_inner path (all_right (AgreeAt s.map s.local c.map c.local) own inner both) ∙ missing)
