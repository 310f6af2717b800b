-- What is asked of a block is asked of its holder too.
use Rattle.std.proofs.Common.{◌≡◌, ◌∙◌, ap, sym, refl, ◌==◌, ℕ, List, [], ◌∷◌, Bool, true, false, ◌&&◌, ◌||◌, cond, Option, None, Some, max, arith}
use Rattle.std.specs.Prelude.{is_some, not}
use Rattle.hir_nameres.specs.HirIds.declared.ast_id.BlockId.{BlockId}
use Rattle.hir_nameres.specs.HirBase.declared.mod_path.PathKind.{PathKind}
use Rattle.hir_nameres.specs.HirIds.declared.ids.ModuleId.{ModuleId as AnyModule}
use Rattle.hir_nameres.specs.HirScope.Bindings.{first_of}
use Rattle.hir_nameres.specs.HirDefMapRules.Overlay.{Maps}
use Rattle.hir_nameres.specs.HirDefMapRules.Ancestors.{head_of, holder_in, holders_in, IsPlaced}
use Rattle.hir_nameres.specs.HirDefMapRules.Scoping.Asking.{Asking}
use Rattle.hir_nameres.specs.HirDefMapRules.Scoping.Blocks.{either_reached, from_blocks, in_preludes, inherited, joined, later_stop, with_preludes}
use Rattle.hir_nameres.specs.HirDefMapRules.Scoping.FirstSegment.{is_block_root}
use Rattle.hir_nameres.specs.HirDefMapRules.State.{crate_root}
use Rattle.hir_nameres.specs.HirDefMapRules.Scoping.Start.{from_start}
use Rattle.hir_nameres.specs.HirDefMapRules.declared.path_result.ReachedFixedPoint.{ReachedFixedPoint}
use Rattle.hir_nameres.specs.HirDefMapRules.declared.path_result.ResolvePathResult.{ResolvePathResult}
use Rattle.hir_nameres.specs.HirDefMapRules.declared.path_result.ReachedFixedPoint.TheVariants.{Yes, No}
use Rattle.hir_nameres.proofs.HirDefMapRules.Blocks.{inherited-stop}

-- ---- answers of three maps

first_of-assoc : {A : Type 0} (x y z : Option A) → first_of (first_of x y) z ≡ first_of x (first_of y z)
first_of-assoc None y z = refl
first_of-assoc (Some a) y z = refl

later_stop-assoc : (x y z : Option ℕ) → later_stop (later_stop x y) z ≡ later_stop x (later_stop y z)
later_stop-assoc None y z = refl
later_stop-assoc (Some a) None z = refl
later_stop-assoc (Some a) (Some b) None = refl
later_stop-assoc (Some a) (Some b) (Some c) = let same : max (max a b) c ≡ max a (max b c) = omega arith in ap (λ (n : ℕ). Some n) same

either_reached-assoc : (x y z : ReachedFixedPoint) → either_reached (either_reached x y) z ≡ either_reached x (either_reached y z)
either_reached-assoc Yes y z = refl
either_reached-assoc No y z = refl

either-assoc : (x y z : Bool) → ((x || y) || z) ≡ (x || (y || z))
either-assoc true y z = refl
either-assoc false y z = refl

joined-assoc : (a b c : ResolvePathResult) → joined (joined a b) c ≡ joined a (joined b c)
joined-assoc a b c = λ i. record {
  resolved_def = record {
    types = first_of-assoc a.resolved_def.types b.resolved_def.types c.resolved_def.types i;
    values = first_of-assoc a.resolved_def.values b.resolved_def.values c.resolved_def.values i;
    macros = first_of-assoc a.resolved_def.macros b.resolved_def.macros c.resolved_def.macros i;
  };
  segment_index = later_stop-assoc a.segment_index b.segment_index c.segment_index i;
  reached_fixedpoint = either_reached-assoc a.reached_fixedpoint b.reached_fixedpoint c.reached_fixedpoint i;
  prefix_info = record {
    differing_crate = either-assoc a.prefix_info.differing_crate b.prefix_info.differing_crate c.prefix_info.differing_crate i;
    enum_variant = either-assoc a.prefix_info.enum_variant b.prefix_info.enum_variant c.prefix_info.enum_variant i;
  };
}

-- ---- from holder to holder

module _ (maps : Maps) (asking : Asking) (kind : PathKind) (segs : List (List ℕ)) where
  preludes_joined : (r a : ResolvePathResult) (m : AnyModule) → with_preludes maps asking kind segs (joined r a) m
      ≡ joined r (with_preludes maps asking kind segs a m)
  preludes_joined r a m = go (is_some m.map.block && not (is_block_root m)) (in_preludes maps asking (crate_root m.map.krate) kind segs)
    where
      go : (b : Bool) (p : ResolvePathResult) → cond b (joined (joined r a) p) (joined r a) ≡ joined r (cond b (joined a p) a)
      go true p = joined-assoc r a p
      go false p = refl

  -- what is there before comes first
  inherited_joined : (hs : List AnyModule) (m : AnyModule) (r a : ResolvePathResult) → inherited maps asking kind segs (joined r a) m hs
      ≡ joined r (inherited maps asking kind segs a m hs)
  inherited_joined [] m r a = preludes_joined r a m
  inherited_joined (h ∷ hs) m r a = go (λ (b : ResolvePathResult). inherited_joined hs h r b) (is_block_root m)
    where
      go : ((b : ResolvePathResult) → inherited maps asking kind segs (joined r b) h hs ≡ joined r (inherited maps asking kind segs b h hs))
          → (c : Bool)
          → cond c (inherited maps asking kind segs (joined (joined r a) (from_start maps asking h kind segs)) h hs)
          (with_preludes maps asking kind segs (joined r a) m)
          ≡ joined r (cond c (inherited maps asking kind segs (joined a (from_start maps asking h kind segs)) h hs) (with_preludes maps asking kind segs a m))
      go outwards true =
          ap (λ (x : ResolvePathResult). inherited maps asking kind segs x h hs) (joined-assoc r a (from_start maps asking h kind segs))
          ∙ outwards (joined a (from_start maps asking h kind segs))
      go outwards false = preludes_joined r a m

  pub asks_holder : (from holder : AnyModule) → IsPlaced maps → is_block_root from ≡ true → holder_in maps from ≡ Some holder
      → from_blocks maps asking from kind segs ≡ joined (from_start maps asking from kind segs) (from_blocks maps asking holder kind segs)
  asks_holder from holder placed root held = go (holders_in maps from) refl held
    where
      go : (hs : List AnyModule) → holders_in maps from ≡ hs → head_of hs ≡ Some holder
          → inherited maps asking kind segs (from_start maps asking from kind segs) from hs ≡ joined (from_start maps asking from kind segs)
          (from_blocks maps asking holder kind segs)
      go [] e f = absurd cc
      go (h ∷ hs) e f =
          let same : h ≡ holder = cc in
          let leads = placed from.map h hs e in
          ap (λ (b : Bool). cond b (inherited maps asking kind segs (joined (from_start maps asking from kind segs) (from_start maps asking h kind segs)) h hs)
          (with_preludes maps asking kind segs (from_start maps asking from kind segs) from)) root
          ∙ inherited_joined hs h (from_start maps asking from kind segs) (from_start maps asking h kind segs)
          ∙ ap (λ (xs : List AnyModule). joined (from_start maps asking from kind segs) (inherited maps asking kind segs (from_start maps asking h kind segs) h
          xs)) (sym leads.2)
          ∙ ap (λ (m : AnyModule). joined (from_start maps asking from kind segs) (from_blocks maps asking m kind segs)) same

  pub asks_preludes : (from : AnyModule) → is_some from.map.block ≡ true → is_block_root from ≡ false
      → from_blocks maps asking from kind segs ≡ joined (from_start maps asking from kind segs) (in_preludes maps asking (crate_root from.map.krate) kind segs)
  asks_preludes from inside inner =
      inherited-stop maps asking kind segs (from_start maps asking from kind segs) from (holders_in maps from) inner
      ∙ ap (λ (b : Bool). cond (b && not (is_block_root from))
      (joined (from_start maps asking from kind segs) (in_preludes maps asking (crate_root from.map.krate) kind segs)) (from_start maps asking from kind segs))
      inside
      ∙ ap (λ (b : Bool). cond (true && not b) (joined (from_start maps asking from kind segs) (in_preludes maps asking (crate_root from.map.krate) kind segs))
      (from_start maps asking from kind segs)) inner

-- in a crate's own map nobody else is asked
pub start-of_crate : (maps : Maps) (asking : Asking) (from : AnyModule) (kind : PathKind) (segs : List (List ℕ)) → from.map.block ≡ None
    → from_blocks maps asking from kind segs ≡ from_start maps asking from kind segs
start-of_crate maps asking from kind segs none = go (holders_in maps from)
  where
    outside : is_some from.map.block ≡ false
    outside = ap (λ (b : Option BlockId). is_some b) none

    kept : with_preludes maps asking kind segs (from_start maps asking from kind segs) from ≡ from_start maps asking from kind segs
    kept =
        ap (λ (b : Bool). cond (b && not (is_block_root from))
        (joined (from_start maps asking from kind segs) (in_preludes maps asking (crate_root from.map.krate) kind segs))
        (from_start maps asking from kind segs)) outside

    go : (hs : List AnyModule) → inherited maps asking kind segs (from_start maps asking from kind segs) from hs ≡ from_start maps asking from kind segs
    go [] = kept
    go (h ∷ hs) =
        ap (λ (b : Bool). cond (b && (from.index == 0))
        (inherited maps asking kind segs (joined (from_start maps asking from kind segs) (from_start maps asking h kind segs)) h hs)
        (with_preludes maps asking kind segs (from_start maps asking from kind segs) from)) outside
        ∙ kept
