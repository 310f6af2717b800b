-- What may be seen from a module may be seen from those above it in the same map.
use Rattle.std.proofs.Common.{◌≡◌, ◌∙◌, ap, sym, subst, refl, Bool, true, false, ◌&&◌, ◌||◌, not, ◌==◌, ◌⊎◌, inl, inr, Option, Some, None, List, [], ◌∷◌}
use mathlib.Core.Bool.{true≢false}
use Rattle.std.specs.List.{list_any}
use Rattle.std.specs.Option.{is_some}
use Rattle.std.specs.Cmp.{unsigned_Decides, first_so, second_so}
use Rattle.hir_ids.specs.declared.ast_id.BlockId.{BlockId}
use Rattle.hir_ids.specs.declared.ids.Crate.{Crate}
use Rattle.hir_ids.specs.declared.ids.MapId.{MapId}
use Rattle.hir_ids.specs.declared.ids.ModuleId.{ModuleId}
use Rattle.hir_ids.specs.declared.explicitness.VisibilityExplicitness.{VisibilityExplicitness}
use Rattle.hir_per_ns.specs.declared.visibility.Visibility.TheVariants.{Module}
use Rattle.hir_per_ns.specs.ModuleTree.{same_crate, same_block, same_map, same_module, chain_from, is_at_or_above, IsTree}
use Rattle.hir_per_ns.specs.Visibility.{is_in_other_block, stands_for, is_visible}

exact_crate : (a b : Crate) → same_crate a b ≡ true → a ≡ b
exact_crate a b e = λ i. record { 0 = (unsigned_Decides a.0 b.0).0 e i }

exact_block : (a b : Option BlockId) → same_block a b ≡ true → a ≡ b
exact_block None None e = refl
exact_block None (Some b) e = absurd (true≢false (sym e))
exact_block (Some a) None e = absurd (true≢false (sym e))
exact_block (Some a) (Some b) e = λ i. Some (record { 0 = (unsigned_Decides a.0 b.0).0 e i })

pub exact_map : (a b : MapId) → same_map a b ≡ true → a ≡ b
exact_map a b e =
    let krate : same_crate a.krate b.krate ≡ true = first_so (same_crate a.krate b.krate) (same_block a.block b.block) e in
    let block : same_block a.block b.block ≡ true = second_so (same_crate a.krate b.krate) (same_block a.block b.block) e in
    λ i. record { krate = exact_crate a.krate b.krate krate i; block = exact_block a.block b.block block i }

pub exact_module : (a b : ModuleId) → same_module a b ≡ true → a ≡ b
exact_module a b e =
    let map : same_map a.map b.map ≡ true = first_so (same_map a.map b.map) (a.index == b.index) e in
    let index : (a.index == b.index) ≡ true = second_so (same_map a.map b.map) (a.index == b.index) e in
    λ i. record { map = exact_map a.map b.map map i; index = (unsigned_Decides a.index b.index).0 index i }

or_right : (a b : Bool) → b ≡ true → (a || b) ≡ true
or_right true b e = refl
or_right false b e = e

or_second : (a b : Bool) → a ≡ false → (a || b) ≡ true → b ≡ true
or_second true b e h = absurd (true≢false e)
or_second false b e h = h

or_first : (a : Bool) → (a || false) ≡ true → a ≡ true
or_first true h = refl
or_first false h = h

module _ {above holders : ModuleId → List ModuleId} {up holder : ModuleId → Option ModuleId} (tree : IsTree above holders up holder) where
  -- above what is above
  above_above : (m n : ModuleId) → is_at_or_above above n m ≡ true
      → (ys : List ModuleId) (f : ModuleId) → above f ≡ ys → list_any (same_module m) (f ∷ ys) ≡ true → list_any (same_module n) (f ∷ ys) ≡ true
  above_above m n j [] f e h =
      let same : m ≡ f = exact_module m f (or_first (same_module m f) h) in
      let at : ModuleId → Type 0 = λ x. is_at_or_above above n x ≡ true in
      let there : is_at_or_above above n f ≡ true = subst at same j in
      let on : List ModuleId → Type 0 = λ zs. list_any (same_module n) (f ∷ zs) ≡ true in
      subst on e there
  above_above m n j (y ∷ zs) f e h = go (λ p q g. above_above m n j zs p q g) (up f) (sym (tree.above_step f) ∙ e) (same_module m f) refl
    where
      go : ((p : ModuleId) → above p ≡ zs → list_any (same_module m) (p ∷ zs) ≡ true → list_any (same_module n) (p ∷ zs) ≡ true)
          → (o : Option ModuleId) → chain_from above o ≡ y ∷ zs → (b : Bool) → same_module m f ≡ b → list_any (same_module n) (f ∷ y ∷ zs) ≡ true
      go below o c true s =
          let same : m ≡ f = exact_module m f s in
          let at : ModuleId → Type 0 = λ x. is_at_or_above above n x ≡ true in
          let there : is_at_or_above above n f ≡ true = subst at same j in
          let on : List ModuleId → Type 0 = λ ws. list_any (same_module n) (f ∷ ws) ≡ true in
          subst on e there
      go below None c false s = cc
      go below (Some p) c false s =
          let first : p ≡ y = cc in
          let rest : above p ≡ zs = cc in
          let left : list_any (same_module m) (y ∷ zs) ≡ true = or_second (same_module m f) (list_any (same_module m) (y ∷ zs)) s h in
          let on : ModuleId → Type 0 = λ x. list_any (same_module m) (x ∷ zs) ≡ true in
          let to : ModuleId → Type 0 = λ x. list_any (same_module n) (x ∷ zs) ≡ true in
          or_right (same_module n f) (list_any (same_module n) (y ∷ zs)) (subst to first (below p rest (subst on (sym first) left)))

  -- two modules of one map stand for themselves, or for the same
  stand_alike : (f m n : ModuleId) → m.map ≡ n.map
      → ((stands_for f m (holders m) ≡ m) × (stands_for f n (holders n) ≡ n)) ⊎ (stands_for f m (holders m) ≡ stands_for f n (holders n))
  stand_alike f m n e =
      let at_m : holders m ≡ chain_from holders (holder m) = tree.holders_step m in
      let at_n : holders n ≡ chain_from holders (holder m) = tree.holders_step n ∙ ap (λ (o : Option ModuleId). chain_from holders o)
      (sym (tree.same_holder m n e)) in
      rw (at_m, at_n) (go (holder m))
    where
      go : (o : Option ModuleId)
          → ((stands_for f m (chain_from holders o) ≡ m) × (stands_for f n (chain_from holders o) ≡ n))
          ⊎ (stands_for f m (chain_from holders o) ≡ stands_for f n (chain_from holders o))
      go None = inl (refl, refl)
      go (Some h) = on (is_in_other_block f m) refl (ap (λ (x : MapId). is_some x.block && not (same_block x.block f.map.block)) (sym e))
        where
          on : (c : Bool) → is_in_other_block f m ≡ c → is_in_other_block f n ≡ is_in_other_block f m
              → ((stands_for f m (h ∷ holders h) ≡ m) × (stands_for f n (h ∷ holders h) ≡ n))
              ⊎ (stands_for f m (h ∷ holders h) ≡ stands_for f n (h ∷ holders h))
          on true p q = inr (let r : is_in_other_block f n ≡ true = q ∙ p in rw (p, r))
          on false p q = inl (rw p, let r : is_in_other_block f n ≡ false = q ∙ p in rw r)

  -- so what may be seen from m may be seen from n above it, in the same map
  pub wider : (d e : VisibilityExplicitness) (m n : ModuleId) → m.map ≡ n.map → is_at_or_above above n m ≡ true
      → (f : ModuleId) → is_visible above holders (Module m d) f ≡ true → is_visible above holders (Module n e) f ≡ true
  wider d e m n k j f h =
      let krate : same_crate f.map.krate m.map.krate ≡ true = first_so (same_crate f.map.krate m.map.krate)
      (is_at_or_above above (stands_for f m (holders m)) f) h in
      let there : is_at_or_above above (stands_for f m (holders m)) f ≡ true = second_so (same_crate f.map.krate m.map.krate)
      (is_at_or_above above (stands_for f m (holders m)) f) h in
      let same : same_crate f.map.krate n.map.krate ≡ true = let at : MapId → Type 0 = λ x. same_crate f.map.krate x.krate ≡ true in subst at k krate in
      rw same (on (stand_alike f m n k) there)
    where
      has : ModuleId → Type 0
      has x = is_at_or_above above x f ≡ true

      on : ((stands_for f m (holders m) ≡ m) × (stands_for f n (holders n) ≡ n)) ⊎ (stands_for f m (holders m) ≡ stands_for f n (holders n))
          → has (stands_for f m (holders m)) → has (stands_for f n (holders n))
      on (inl p) t = subst has (sym p.1) (above_above m n j (above f) f refl (subst has p.0 t))
      on (inr p) t = subst has p t

-- of two sets the one that has the other is their union
pub union_right : (a b : Bool) → (a ≡ true → b ≡ true) → b ≡ (a || b)
union_right true b h = h refl
union_right false b h = refl

pub union_left : (a b : Bool) → (b ≡ true → a ≡ true) → a ≡ (a || b)
union_left true b h = refl
union_left false true h = h refl
union_left false false h = refl

-- and the one that the other has is what both have
pub meet_left : (a b : Bool) → (a ≡ true → b ≡ true) → a ≡ (a && b)
meet_left true b h = sym (h refl)
meet_left false b h = refl

pub meet_right : (a b : Bool) → (b ≡ true → a ≡ true) → b ≡ (a && b)
meet_right true b h = refl
meet_right false true h = sym (h refl)
meet_right false false h = refl

-- one set, under two marks, is the union of both and what both have
pub same_union : (above holders : ModuleId → List ModuleId) (c d e : VisibilityExplicitness) (m n : ModuleId) → m ≡ n
    → (f : ModuleId) → is_visible above holders (Module m c) f ≡ (is_visible above holders (Module m d) f || is_visible above holders (Module n e) f)
same_union above holders c d e m n k f =
    let at : ModuleId → Type 0 = λ x. is_visible above holders (Module m c) f
    ≡ (is_visible above holders (Module m d) f || is_visible above holders (Module x e) f) in
    subst at k (union_right (is_visible above holders (Module m c) f) (is_visible above holders (Module m c) f) (λ h. h))

pub same_meet : (above holders : ModuleId → List ModuleId) (c d e : VisibilityExplicitness) (m n : ModuleId) → m ≡ n
    → (f : ModuleId) → is_visible above holders (Module m c) f ≡ (is_visible above holders (Module m d) f && is_visible above holders (Module n e) f)
same_meet above holders c d e m n k f =
    let at : ModuleId → Type 0 = λ x. is_visible above holders (Module m c) f
    ≡ (is_visible above holders (Module m d) f && is_visible above holders (Module x e) f) in
    subst at k (meet_right (is_visible above holders (Module m c) f) (is_visible above holders (Module m c) f) (λ h. h))
