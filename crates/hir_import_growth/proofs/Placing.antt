-- What modules of a map see names modules that are there.
use Rattle.std.proofs.Common.{◌≡◌, ◌∙◌, ap, sym, subst, refl, ℕ, zero, suc, ◌+◌, ◌<◌, List, [], ◌∷◌, length, Bool, true, false, ◌&&◌, ◌||◌, not, cond, Option}
use Rattle.std.proofs.Common.{None, Some, arith}
use mathlib.Core.Bool.{true≢false}
use Rattle.std.proofs.lemmas.Bool.Decides.{nat_tests}
use Rattle.std.proofs.lemmas.Grind.{common_steps}
use Rattle.std.proofs.lemmas.List.Elements.{All-append, All-cons, All-head, All-map, All-nil, All-tail, All-weaker}
use Rattle.std.specs.Cmp.{second_so, unsigned_Decides}
use Rattle.std.specs.List.{All, list_any}
use Rattle.std.specs.Option.{option_map}
use Rattle.std.specs.Prelude.{is_some, nat_lt, unwrap_or}
use Rattle.hir_nameres.specs.HirIds.contracts.ids.MapIdPartialEq.TheImpl as map_id
use Rattle.hir_nameres.specs.HirIds.declared.ast_id.BlockId.{BlockId}
use Rattle.hir_nameres.specs.HirIds.declared.ids.MapId.{MapId}
use Rattle.hir_nameres.specs.HirIds.declared.ids.ModuleId.{ModuleId as AnyModule}
use Rattle.hir_nameres.proofs.HirPerNs.Wider.{exact_module}
use Rattle.hir_nameres.specs.HirScope.Globs.{GlobNames}
use Rattle.hir_nameres.specs.HirPerNs.ModuleTree.{is_at_or_above, same_block, same_crate, same_module}
use Rattle.hir_nameres.specs.HirPerNs.Visibility.{both_in, greater_of, is_visible, stands_for}
use Rattle.hir_nameres.specs.HirPerNs.declared.visibility.Visibility.{Visibility}
use Rattle.hir_nameres.specs.HirPerNs.declared.visibility.Visibility.TheVariants.{Module, PubCrate, Public}
use Rattle.hir_nameres.specs.HirDefMapRules.Ancestors.{above_in, above_inside, above_under, frame_of, frames_of}
use Rattle.hir_nameres.specs.HirDefMapRules.Ancestors.{holders_in, leads_to_root, number_in, numbers_above}
use Rattle.hir_nameres.specs.HirDefMapRules.Ancestors.{numbers_of, step_in, step_to, steps_by, steps_from}
use Rattle.hir_nameres.specs.HirDefMapRules.Inner.OverlayLaws.{exact_map, frame_holders, same_id}
use Rattle.hir_nameres.specs.HirDefMapRules.Overlay.{Maps, Placed, holders_of, overlay, placed_in}
use Rattle.hir_nameres.specs.Scoping.Slots.{is_in}
use Rattle.hir_nameres.specs.HirDefMapRules.State.{IsBefore, Map, numbered, parent_at}
use Rattle.hir_def_map_laws.proofs.SameAbove.{before_at}
use Rattle.hir_def_map_laws.proofs.SlotChanges.{Grows-itself}
use Rattle.hir_def_map_laws.proofs.Steps.{number_there, step_listed}
use Rattle.hir_glob_imports.specs.Waves.{FindsKind}
use Rattle.hir_import_rules.specs.Names.{view_of}
use Rattle.hir_import_rules.specs.Lasting.{IsOrdered, IsPlaced, beside}
use Rattle.hir_import_rules.specs.Visibilities.{greater_in, lesser_in, sees_in}
use Rattle.hir_import_growth.proofs.GlobsGrowing.{chosen, lesser_placed}

-- where one passes, what follows of each that does
any_of : {A : Type 0} (p : A → Bool) (Q : Type 0) (xs : List A) → All (λ (x : A). p x ≡ true → Q) xs → list_any p xs ≡ true → Q
any_of p Q [] all e = absurd (true≢false (sym e))
any_of {A} p Q (x ∷ xs) all e = go (p x) refl e (λ f. any_of p Q xs (All-tail (λ (y : A). p y ≡ true → Q) x xs all) f)
  where
    go : (b : Bool) → p x ≡ b → (b || list_any p xs) ≡ true → (list_any p xs ≡ true → Q) → Q
    go true here f later = All-head (λ (y : A). p y ≡ true → Q) x xs all here
    go false here f later = later f

-- steps that lead to lower numbers stay below a bound
steps-below : (up : ℕ → Option ℕ) (bound : ℕ) → ((k p : ℕ) → k < bound → up k ≡ Some p → p < k) → (n at : ℕ) → at < bound
    → All (λ (k : ℕ). k < bound) (steps_by up n at)
steps-below up bound falls zero at low = All-nil (λ (k : ℕ). k < bound)
steps-below up bound falls (suc n) at low = go (up at) refl (λ p f. steps-below up bound falls n p f)
  where
    go : (o : Option ℕ) → up at ≡ o → ((p : ℕ) → p < bound → All (λ (k : ℕ). k < bound) (steps_by up n p))
        → All (λ (k : ℕ). k < bound) (steps_from (steps_by up n) o)
    go None e further = All-nil (λ (k : ℕ). k < bound)
    go (Some p) e further =
        let less : p < at = falls at p low e in
        let lower : p < bound = omega arith in
        All-cons (λ (k : ℕ). k < bound) p (steps_by up n p) lower (further p lower)

not_other_itself : (b : Option BlockId) → (is_some b && not (same_block b b)) ≡ false
not_other_itself None = refl
not_other_itself (Some x) = ap not ((unsigned_Decides x.0 x.0).1 refl)

module _ (finished : Maps) (map : Map) (ordered : IsOrdered finished map) where
  abbrev own : MapId
  own = map.id

  abbrev maps : Maps
  maps = overlay finished map

  abbrev placed : Placed
  placed = placed_in finished map

  -- it lies outside of the map
  abbrev Out : AnyModule → Type 0
  Out m = is_in own m ≡ false

  -- it is there, where it lies in the map
  abbrev Lies : AnyModule → Type 0
  Lies m = is_in own m ≡ true → m.index < length map.modules

  out_lies : (m : AnyModule) → Out m → Lies m
  out_lies m out inside = absurd (true≢false (sym inside ∙ out))

  -- ---- above a module of the map, in it

  step-falls : (k p : ℕ) → k < length map.modules → step_in (frame_of placed) k ≡ Some p → p < k
  step-falls k p low e = go (parent_at map k) (before_at map map (Grows-itself map) ordered.in_order k low) (sym (step_listed placed k) ∙ e)
    where
      go : (o : Option AnyModule) → IsBefore own k o → step_to (frame_of placed) k (number_in own o) ≡ Some p → p < k
      go None before f = absurd cc
      go (Some q) before f =
          on (nat_lt q.index k || leads_to_root (frame_of placed) k) (sym (ap (step_to (frame_of placed) k) (number_there own q before.0)) ∙ f)
        where
          on : (b : Bool) → cond b (Some q.index) None ≡ Some p → p < k
          on true g = let same : q.index ≡ p = cc in subst (λ (n : ℕ). n < k) same before.1
          on false g = absurd cc

  numbers_below : (at : ℕ) → at < length map.modules → All (λ (k : ℕ). k < length map.modules) (numbers_above (frame_of placed) at)
  unfolding numbers_above
  numbers_below at low = steps-below (step_in (frame_of placed)) (length map.modules) step-falls (length (frame_of placed).parents + at) at low

  own_placed : (id : MapId) → map_id.ghosts.eq id own ≡ true → maps id ≡ Some placed
  own_placed id e = ap (λ (b : Bool). cond b (Some placed) (finished id)) e

  inside_lies : (from : AnyModule) → is_in own from ≡ true → from.index < length map.modules → All Lies (above_inside (frames_of maps) from)
  unfolding frames_of
  inside_lies from e low =
      All-map Lies (numbered from.map) (numbers_of (frames_of maps from.map) from.index)
      (subst (λ (o : Option Placed). All (λ (k : ℕ). Lies (numbered from.map k)) (numbers_of (option_map frame_of o) from.index)) (sym (own_placed from.map e))
      (All-weaker (λ (k : ℕ). k < length map.modules) (λ (k : ℕ). Lies (numbered from.map k)) (λ k lower inside. lower)
      (numbers_above (frame_of placed) from.index) (numbers_below from.index low)))

  -- ---- above a module that lies outside

  inside_out : (m : AnyModule) → Out m → All Out (above_inside (frames_of maps) m)
  inside_out m out = All-map Out (numbered m.map) (numbers_of (frames_of maps m.map) m.index) (λ k d lt. out)

  under_out : (hs : List AnyModule) (m : AnyModule) → Out m → All Out hs → All Out (above_under (frames_of maps) hs m)
  under_out [] m out all = inside_out m out
  under_out (h ∷ hs) m out all =
      All-append Out (above_inside (frames_of maps) m) (h ∷ above_under (frames_of maps) hs h) (inside_out m out)
      (All-cons Out h (above_under (frames_of maps) hs h) (All-head Out h hs all) (under_out hs h (All-head Out h hs all) (All-tail Out h hs all)))

  -- ---- above a module of the map

  under_lies : (hs : List AnyModule) (from : AnyModule) → is_in own from ≡ true → from.index < length map.modules → All Out hs
      → All Lies (above_under (frames_of maps) hs from)
  under_lies [] from e low all = inside_lies from e low
  under_lies (h ∷ hs) from e low all =
      All-append Lies (above_inside (frames_of maps) from) (h ∷ above_under (frames_of maps) hs h) (inside_lies from e low)
      (All-weaker Out Lies out_lies (h ∷ above_under (frames_of maps) hs h)
      (All-cons Out h (above_under (frames_of maps) hs h) (All-head Out h hs all) (under_out hs h (All-head Out h hs all) (All-tail Out h hs all))))

  holders_outside : (from : AnyModule) → is_in own from ≡ true → All Out (holders_in maps from)
  unfolding frames_of
  holders_outside from e = subst (All Out) (sym (frame_holders (maps from.map) ∙ ap holders_of (own_placed from.map e))) ordered.holders

  above_lies : (from : AnyModule) → is_in own from ≡ true → from.index < length map.modules → All Lies (above_in maps from)
  unfolding above_in
  above_lies from e low = under_lies (holders_in maps from) from e low (holders_outside from e)

  -- ---- what one of its modules sees

  at_or_above_lies : (from m : AnyModule) → is_in own from ≡ true → from.index < length map.modules → is_in own m ≡ true → is_at_or_above (above_in maps) m from
      ≡ true
      → m.index < length map.modules
  at_or_above_lies from m e low inside high =
      any_of (same_module m) (m.index < length map.modules) (from ∷ above_in maps from)
      (All-weaker Lies (λ (x : AnyModule). same_module m x ≡ true → m.index < length map.modules) each (from ∷ above_in maps from)
      (All-cons Lies from (above_in maps from) (λ f. low) (above_lies from e low))) high
    where
      each : (x : AnyModule) → Lies x → same_module m x ≡ true → m.index < length map.modules
      each x lies same =
          let one : m ≡ x = exact_module m x same in
          subst (λ (y : AnyModule). y.index < length map.modules) (sym one) (lies (subst (λ (y : AnyModule). is_in own y ≡ true) one inside))

  -- a module of the map stands for itself there
  stands_itself : (from m : AnyModule) → from.map ≡ m.map → (hs : List AnyModule) → stands_for from m hs ≡ m
  stands_itself from m same [] = refl
  stands_itself from m same (h ∷ hs) =
      ap (λ (b : Bool). cond b (stands_for from h hs) m)
      (ap (λ (id : MapId). is_some m.map.block && not (same_block m.map.block id.block)) same ∙ not_other_itself m.map.block)

  seen_placed : (at : ℕ) (vis : Visibility) → at < length map.modules → is_visible (above_in maps) (holders_in maps) vis (numbered own at) ≡ true
      → IsPlaced map vis
  seen_placed at Public low sees = tt
  seen_placed at (PubCrate c) low sees = tt
  seen_placed at (Module m e) low sees = λ inside.
      at_or_above_lies (numbered own at) m (same_id own) low inside
      (subst (λ (x : AnyModule). is_at_or_above (above_in maps) x (numbered own at) ≡ true)
      (stands_itself (numbered own at) m (sym (exact_map m.map own inside)) (holders_in maps m))
      (second_so (same_crate own.krate m.map.krate) (is_at_or_above (above_in maps) (stands_for (numbered own at) m (holders_in maps m)) (numbered own at))
      sees))

-- ---- the greater of two visibilities names what one of them names

greater_placed : (above : AnyModule → List AnyModule) (map : Map) (a b : Visibility) → IsPlaced map a → IsPlaced map b
    → IsPlaced map (unwrap_or (greater_of above map.id a b) a)
greater_placed above map Public b first second = tt
greater_placed above map (PubCrate c) Public first second = tt
greater_placed above map (PubCrate c) (PubCrate d) first second = chosen map (PubCrate c) (same_crate c d) (Some (PubCrate c)) None tt tt
greater_placed above map (PubCrate c) (Module m e) first second = chosen map (PubCrate c) (same_crate m.map.krate c) (Some (PubCrate c)) None tt tt
greater_placed above map (Module m e) Public first second = tt
greater_placed above map (Module m e) (PubCrate c) first second = chosen map (Module m e) (same_crate m.map.krate c) (Some (PubCrate c)) None tt first
greater_placed above map (Module m d) (Module n e) first second =
    chosen map (Module m d) (same_module m n) _ _ first
    (chosen map (Module m d) (both_in map.id m n) _ None
    (chosen map (Module m d) (list_any (same_module n) (m ∷ above m)) (Some (Module n e)) _ second
    (chosen map (Module m d) (list_any (same_module m) (n ∷ above n)) (Some (Module m d)) None first first)) first)

-- ---- a map beside finished ones

module _ (finished : Maps) (map : Map) (names : GlobNames) (ordered : IsOrdered finished map) where
  below : (at n : ℕ) → nat_lt at n ≡ true → at < n
  below at n e = grind (arith, common_steps, nat_tests)

  seen_there : (at : ℕ) (vis : Visibility) → nat_lt at (length map.modules) ≡ true → sees_in finished map (numbered map.id at) vis ≡ true → IsPlaced map vis
  unfolding sees_in
  seen_there at vis has sees = seen_placed finished map ordered at vis (below at (length map.modules) has) sees

  lesser_there : (a b : Visibility) → IsPlaced map a → IsPlaced map b → IsPlaced map (unwrap_or (lesser_in finished map a b) a)
  unfolding lesser_in
  lesser_there a b first second = lesser_placed (above_in (overlay finished map)) map a b first second

  greater_there : (a b wide : Visibility) → IsPlaced map a → IsPlaced map b → greater_in finished map a b ≡ Some wide → IsPlaced map wide
  unfolding greater_in
  greater_there a b wide first second is =
      subst (IsPlaced map) (ap (λ (o : Option Visibility). unwrap_or o a) is) (greater_placed (above_in (overlay finished map)) map a b first second)

  -- visibilities that name modules that are there are a kind
  pub placed_kind : FindsKind (IsPlaced map) (view_of (beside finished map names))
  placed_kind = record { seen = seen_there; lesser = lesser_there; greater = greater_there }
