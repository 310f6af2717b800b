-- What lies above a module is one step and what lies above from there.
use Rattle.std.specs.Prelude.{◌≡◌, ℕ, zero, suc, ◌<◌, ◌≤◌, ◌+◌, ◌++◌, ◌⊎◌, Bool, true, false, ◌||◌, not, is_some, Option, None, Some, List, [], ◌∷◌, map}
use Rattle.std.specs.Prelude.{length, cond, nat_lt, option_map, All}
use Rattle.std.proofs.Common.{refl, ap, sym, subst, ◌∙◌, inl, inr, arith}
use Rattle.std.proofs.lemmas.Grind.{common_steps}
use Rattle.std.proofs.lemmas.List.Elements.{All-cons, All-nil}
use Rattle.hir_scope.specs.HirIds.declared.ids.Crate.{Crate}
use Rattle.hir_scope.specs.HirIds.declared.ids.MapId.{MapId}
use Rattle.hir_scope.specs.HirIds.declared.ids.ModuleId.{ModuleId}
use Rattle.hir_scope.specs.Bindings.{first_of}
use Rattle.hir_scope.specs.HirPerNs.ModuleTree.{chain_from, up_of, IsInOneCrate}
use Rattle.hir_def_map_rules.specs.Overlay.{Maps}
use Rattle.hir_def_map_rules.specs.State.{numbered}
use Rattle.hir_def_map_rules.specs.Ancestors.{Frame, Frames, above_by, above_in, above_inside, above_under, ends_from, ends_within, frames_of, head_of}
use Rattle.hir_def_map_rules.specs.Ancestors.{holder_in, holders_by, holders_in, holders_of_frame, leads_to_root, numbers_above, numbers_of, parent_number}
use Rattle.hir_def_map_rules.specs.Ancestors.{step_in, step_of, step_to, steps_by, steps_from, up_by, up_in, IsPlaced}

-- ---- in one map

module _ (up : ℕ → Option ℕ) where
  -- what ends within so many steps ends within more
  ends_later : (n k at : ℕ) → n ≤ k → ends_within up n at ≡ true → ends_within up k at ≡ true
  ends_later zero zero at h e = e
  ends_later zero (suc k) at h e = go (up at) e
    where
      go : (o : Option ℕ) → not (is_some o) ≡ true → ends_from (ends_within up k) o ≡ true
      go None e = refl
      go (Some p) e = absurd cc
  ends_later (suc n) zero at h e = absurd (omega (arith, h))
  ends_later (suc n) (suc k) at h e = go (λ p f. ends_later n k p (omega (arith, h)) f) (up at) e
    where
      go : ((p : ℕ) → ends_within up n p ≡ true → ends_within up k p ≡ true) → (o : Option ℕ) → ends_from (ends_within up n) o ≡ true
          → ends_from (ends_within up k) o ≡ true
      go below None e = refl
      go below (Some p) e = below p e

  -- from a step on they end within as many
  ends_below : (n at p : ℕ) → up at ≡ Some p → ends_within up n at ≡ true → ends_within up n p ≡ true
  ends_below zero at p s e = go (up at) s e
    where
      go : (o : Option ℕ) → o ≡ Some p → not (is_some o) ≡ true → ends_within up zero p ≡ true
      go None f e = absurd cc
      go (Some q) f e = absurd cc
  ends_below (suc n) at p s e = ends_later n (suc n) p (omega arith) (go (up at) s e)
    where
      go : (o : Option ℕ) → o ≡ Some p → ends_from (ends_within up n) o ≡ true → ends_within up n p ≡ true
      go None f e = absurd cc
      go (Some q) f e = let same : q ≡ p = cc in subst (λ (x : ℕ). ends_within up n x ≡ true) same e

  module _ (step : ℕ → Option ℕ) (keeps : (at p : ℕ) → step at ≡ Some p → up at ≡ Some p) where
    -- where steps end, more of them find nothing more
    stable : (n k at : ℕ) → n ≤ k → ends_within up n at ≡ true → steps_by step k at ≡ steps_by step n at
    stable zero zero at h e = refl
    stable zero (suc k) at h e = go (step at) refl
      where
        no : (o : Option ℕ) → (p : ℕ) → o ≡ Some p → not (is_some o) ≡ true → steps_from (steps_by step k) (Some p) ≡ []
        no None p f e = absurd cc
        no (Some q) p f e = absurd cc

        go : (o : Option ℕ) → step at ≡ o → steps_from (steps_by step k) o ≡ []
        go None s = refl
        go (Some p) s = no (up at) p (keeps at p s) e
    stable (suc n) zero at h e = absurd (omega (arith, h))
    stable (suc n) (suc k) at h e = go (λ p f. stable n k p (omega (arith, h)) f) (step at) refl
      where
        past : (p : ℕ) (o : Option ℕ) → o ≡ Some p → ends_from (ends_within up n) o ≡ true → ends_within up n p ≡ true
        past p None f e = absurd cc
        past p (Some q) f e = let same : q ≡ p = cc in subst (λ (x : ℕ). ends_within up n x ≡ true) same e

        go : ((p : ℕ) → ends_within up n p ≡ true → steps_by step k p ≡ steps_by step n p) → (o : Option ℕ) → step at ≡ o → steps_from (steps_by step k) o
            ≡ steps_from (steps_by step n) o
        go below None s = refl
        go below (Some p) s = ap (λ (xs : List ℕ). p ∷ xs) (below p (past p (up at) (keeps at p s) e))

module _ (frame : Frame) where
  abbrev size : ℕ
  size = length frame.parents

  step_keeps : (at p : ℕ) → step_in frame at ≡ Some p → parent_number frame at ≡ Some p
  step_keeps at p e = go (parent_number frame at) e
    where
      go : (o : Option ℕ) → step_to frame at o ≡ Some p → o ≡ Some p
      go None f = absurd cc
      go (Some q) f = on (nat_lt q at || leads_to_root frame at) f
        where
          on : (b : Bool) → cond b (Some q) None ≡ Some p → Some q ≡ Some p
          on true g = g
          on false g = absurd cc

  -- a step goes to a module that comes before, or parents lead to a root
  step_goes : (at p : ℕ) → step_in frame at ≡ Some p → (p < at) ⊎ (leads_to_root frame at ≡ true)
  step_goes at p e = go (parent_number frame at) e
    where
      go : (o : Option ℕ) → step_to frame at o ≡ Some p → (p < at) ⊎ (leads_to_root frame at ≡ true)
      go None f = absurd cc
      go (Some q) f = on (nat_lt q at) refl (leads_to_root frame at) refl f
        where
          on : (b : Bool) → nat_lt q at ≡ b → (c : Bool) → leads_to_root frame at ≡ c → cond (b || c) (Some q) None ≡ Some p → (p < at)
              ⊎ (leads_to_root frame at ≡ true)
          on true s c t g = let same : q ≡ p = cc in inl (grind (arith, common_steps))
          on false s true t g = inr t
          on false s false t g = absurd cc

  -- where parents lead to a root, no more steps are there than the map has modules
  rooted : (k at : ℕ) → size ≤ k → leads_to_root frame at ≡ true → steps_by (step_in frame) k at ≡ steps_by (step_in frame) size at
  unfolding leads_to_root
  rooted k at h e = stable (parent_number frame) (step_in frame) step_keeps size k at h e

  -- a step to a module that comes before needs one less
  by_lower : (n k at p : ℕ) → step_in frame at ≡ Some p → p < at → size + at ≤ n → size + at ≤ k
      → ((x y : ℕ) → size + p ≤ x → size + p ≤ y → steps_by (step_in frame) x p ≡ steps_by (step_in frame) y p)
      → steps_by (step_in frame) n at ≡ steps_by (step_in frame) k at
  by_lower zero k at p s lower i j below = absurd (omega (arith, i, lower))
  by_lower (suc n) zero at p s lower i j below = absurd (omega (arith, j, lower))
  by_lower (suc n) (suc k) at p s lower i j below =
      ap (steps_from (steps_by (step_in frame) n)) s
      ∙ ap (λ (xs : List ℕ). p ∷ xs) (below n k (omega (arith, i, lower)) (omega (arith, j, lower)))
      ∙ sym (ap (steps_from (steps_by (step_in frame) k)) s)

  none : (n at : ℕ) → step_in frame at ≡ None → steps_by (step_in frame) n at ≡ []
  none zero at s = refl
  none (suc n) at s = ap (steps_from (steps_by (step_in frame) n)) s

  -- more steps than the map has modules and the module's number find nothing more
  enough : (b n k at : ℕ) → at ≤ b → size + at ≤ n → size + at ≤ k → steps_by (step_in frame) n at ≡ steps_by (step_in frame) k at
  enough zero n k at h i j = go (step_in frame at) refl
    where
      go : (o : Option ℕ) → step_in frame at ≡ o → steps_by (step_in frame) n at ≡ steps_by (step_in frame) k at
      go None s = none n at s ∙ sym (none k at s)
      go (Some p) s = elim (step_goes at p s) [
        | inl lower ↦ absurd (omega (arith, h, lower))
        | inr leads ↦ rooted n at (omega (arith, i)) leads ∙ sym (rooted k at (omega (arith, j)) leads)
      ]
  enough (suc b) n k at h i j = go (λ p lower x y u v. enough b x y p (omega (arith, h, lower)) u v) (step_in frame at) refl
    where
      go : ((p : ℕ) → p < at → (x y : ℕ) → size + p ≤ x → size + p ≤ y → steps_by (step_in frame) x p ≡ steps_by (step_in frame) y p)
          → (o : Option ℕ) → step_in frame at ≡ o → steps_by (step_in frame) n at ≡ steps_by (step_in frame) k at
      go below None s = none n at s ∙ sym (none k at s)
      go below (Some p) s = elim (step_goes at p s) [
        | inl lower ↦ by_lower n k at p s lower i j (below p lower)
        | inr leads ↦ rooted n at (omega (arith, i)) leads ∙ sym (rooted k at (omega (arith, j)) leads)
      ]

  pub numbers_step : (at : ℕ) → numbers_above frame at ≡ steps_from (numbers_above frame) (step_in frame at)
  unfolding numbers_above leads_to_root
  numbers_step at = enough at (size + at) (suc (size + at)) at (omega arith) (omega arith) (omega arith) ∙ go (step_in frame at) refl
    where
      go : (o : Option ℕ) → step_in frame at ≡ o → steps_from (steps_by (step_in frame) (size + at)) o ≡ steps_from (λ x. steps_by (step_in frame) (size + x) x)
          o
      go None s = refl
      go (Some p) s = ap (λ (xs : List ℕ). p ∷ xs) (elim (step_goes at p s) [
        | inl lower ↦ enough p (size + at) (size + p) p (omega arith) (omega (arith, lower)) (omega arith)
        | inr leads ↦ (let on : leads_to_root frame p ≡ true = onward leads in rooted (size + at) p (omega arith) on ∙ sym
            (rooted (size + p) p (omega arith) on))
      ])
        where
          onward : leads_to_root frame at ≡ true → leads_to_root frame p ≡ true
          onward leads = ends_below (parent_number frame) size at p (step_keeps at p s) leads

-- ---- in several maps

module _ (frames : Frames) where
  inside_step : (m : ModuleId) → above_inside frames m ≡ chain_from (above_inside frames) (up_by frames m)
  inside_step m = go (frames m.map) refl
    where
      on : (f : Frame) → frames m.map ≡ Some f → (o : Option ℕ) → map (numbered m.map) (steps_from (numbers_above f) o) ≡ chain_from (above_inside frames)
          (option_map (numbered m.map) o)
      on f e None = refl
      on f e (Some p) = ap (λ (q : Option Frame). numbered m.map p ∷ map (numbered m.map) (numbers_of q p)) (sym e)

      go : (o : Option Frame) → frames m.map ≡ o → map (numbered m.map) (numbers_of o m.index) ≡ chain_from (above_inside frames)
          (option_map (numbered m.map) (step_of o m.index))
      go None e = refl
      go (Some f) e = ap (map (numbered m.map)) (numbers_step f m.index) ∙ on f e (step_in f m.index)

  -- past a parent there is what lies above it, and where there's none, the holder and what lies above that
  under_step : (m : ModuleId) (hs : List ModuleId) → ((h : ModuleId) (rest : List ModuleId) → hs ≡ h ∷ rest → holders_by frames h ≡ rest)
      → holders_by frames m ≡ hs
      → above_under frames hs m ≡ chain_from (above_by frames) (first_of (up_by frames m) (head_of hs))
  under_step m hs lead e = go hs lead e (up_by frames m) refl (inside_step m)
    where
      own : (hs : List ModuleId) (p : ModuleId) → p.map ≡ m.map → holders_by frames m ≡ hs → above_by frames p ≡ above_under frames hs p
      own hs p same e = ap (λ (ks : List ModuleId). above_under frames ks p) (ap (λ (id : MapId). holders_of_frame (frames id)) same ∙ e)

      in_map : (o : Option ℕ) (p : ModuleId) → option_map (numbered m.map) o ≡ Some p → p.map ≡ m.map
      in_map None p f = absurd cc
      in_map (Some q) p f = let same : numbered m.map q ≡ p = cc in ap (λ (x : ModuleId). x.map) (sym same)

      go : (hs : List ModuleId) → ((h : ModuleId) (rest : List ModuleId) → hs ≡ h ∷ rest → holders_by frames h ≡ rest)
          → holders_by frames m ≡ hs → (o : Option ModuleId) → up_by frames m ≡ o → above_inside frames m ≡ chain_from (above_inside frames) (up_by frames m)
          → above_under frames hs m ≡ chain_from (above_by frames) (first_of o (head_of hs))
      go [] lead e None s t = t ∙ ap (chain_from (above_inside frames)) s
      go [] lead e (Some p) s t =
          t ∙ ap (chain_from (above_inside frames)) s
          ∙ ap (λ (xs : List ModuleId). p ∷ xs) (sym (own [] p (in_map (step_of (frames m.map) m.index) p s) e))
      go (h ∷ rest) lead e None s t =
          ap (λ (xs : List ModuleId). xs ++ h ∷ above_under frames rest h) (t ∙ ap (chain_from (above_inside frames)) s)
          ∙ ap (λ (ks : List ModuleId). h ∷ above_under frames ks h) (sym (lead h rest refl))
      go (h ∷ rest) lead e (Some p) s t =
          ap (λ (xs : List ModuleId). xs ++ h ∷ above_under frames rest h) (t ∙ ap (chain_from (above_inside frames)) s)
          ∙ ap (λ (xs : List ModuleId). p ∷ xs) (sym (own (h ∷ rest) p (in_map (step_of (frames m.map) m.index) p s) e))

  -- the modules above one lie in its crate
  numbered_in_crate : (m : ModuleId) (c : Crate) → m.map.krate ≡ c → (xs : List ℕ) (ys : List ModuleId) → All (λ (x : ModuleId). x.map.krate ≡ c) ys
      → All (λ (x : ModuleId). x.map.krate ≡ c) (map (numbered m.map) xs ++ ys)
  numbered_in_crate m c e [] ys all = all
  numbered_in_crate m c e (x ∷ xs) ys all =
      All-cons (λ (x : ModuleId). x.map.krate ≡ c) (numbered m.map x) (map (numbered m.map) xs ++ ys) e (numbered_in_crate m c e xs ys all)

append_nothing : {A : Type 0} (xs : List A) → xs ++ [] ≡ xs
append_nothing [] = refl
append_nothing (x ∷ xs) = ap (λ (ys : List _). x ∷ ys) (append_nothing xs)

module _ (maps : Maps) (placed : IsPlaced maps) where
  pub above_up : (m : ModuleId) → above_in maps m ≡ chain_from (above_in maps) (up_of (up_in maps) (holder_in maps) m)
  unfolding above_in
  above_up m = under_step (frames_of maps) m (holders_in maps m) (λ h rest e. (placed m.map h rest e).2) refl

  pub holders_up : (m : ModuleId) → holders_in maps m ≡ chain_from (holders_in maps) (holder_in maps m)
  holders_up m = go (holders_in maps m) refl
    where
      go : (hs : List ModuleId) → holders_in maps m ≡ hs → hs ≡ chain_from (holders_in maps) (head_of hs)
      go [] e = refl
      go (h ∷ hs) e = ap (λ (ks : List ModuleId). h ∷ ks) (sym (placed m.map h hs e).2)

  under_in_crate : (c : Crate) (m : ModuleId) (hs : List ModuleId) → m.map.krate ≡ c → holders_in maps m ≡ hs → All (λ (x : ModuleId). x.map.krate ≡ c)
      (above_under (frames_of maps) hs m)
  under_in_crate c m [] e f = subst (λ (xs : List ModuleId). All (λ (x : ModuleId). x.map.krate ≡ c) xs) (append_nothing (above_inside (frames_of maps) m))
      (numbered_in_crate (frames_of maps) m c e (numbers_of (frames_of maps m.map) m.index) [] (All-nil (λ (x : ModuleId). x.map.krate ≡ c)))
  under_in_crate c m (h ∷ hs) e f =
      let l = placed m.map h hs f in
      let here : h.map.krate ≡ c = l.0 ∙ e in
      numbered_in_crate (frames_of maps) m c e (numbers_of (frames_of maps m.map) m.index) (h ∷ above_under (frames_of maps) hs h)
      (All-cons (λ (x : ModuleId). x.map.krate ≡ c) h (above_under (frames_of maps) hs h) here (under_in_crate c h hs here l.2))

  pub above_in_crate : (m : ModuleId) → IsInOneCrate m (above_in maps m)
  unfolding above_in
  above_in_crate m = under_in_crate m.map.krate m (holders_in maps m) refl refl

pub same_holder : (maps : Maps) (m n : ModuleId) → m.map ≡ n.map → holder_in maps m ≡ holder_in maps n
same_holder maps m n e = ap (λ (id : MapId). head_of (holders_of_frame (frames_of maps id))) e
