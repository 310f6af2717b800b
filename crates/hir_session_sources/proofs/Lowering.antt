-- What is lowered anew of sources under a crate, and what is put in place of what is kept.
use Rattle.std.proofs.Common.{◌≡◌, ◌∙◌, ◌⊎◌, inl, inr, ℕ, ◌+◌, ◌<◌, nat_eq, Bool, true, false, ◌&&◌, if◌then◌else◌, List, [], ◌∷◌, ◌++◌, length, map, drop}
use Rattle.std.proofs.Common.{get_or, drop-cons, add-one, arith, cond, Option, Some, None, option_map, refl, sym, ap, ap₂, subst, Contains, is_some}
use Rattle.std.specs.BTreeMap.{is_at}
use Rattle.std.specs.Cmp.{unsigned_Decides}
use Rattle.std.specs.Cmp.Lexicographic.{pointwise, slice_cmp}
use Rattle.std.specs.Map.{keys_of, lookup}
use Rattle.std.specs.Ordering.{nat_cmp}
use Rattle.std.specs.declared.alloc.Global.{Global}
use Rattle.std.specs.declared.rc.Rc.{Rc}
use Rattle.std.proofs.lemmas.List.Elements.{Contains-append_left, Contains-append_right, Contains-push, Contains-push_cases}
use Rattle.hir_session_state.specs.HirBase.CfgOptions.{is_set}
use Rattle.hir_session_state.specs.HirBase.contracts.place.BlockPlaceOrd.TheImpl as block_order
use Rattle.hir_session_state.specs.HirBase.declared.cfg.CfgAtom.{CfgAtom}
use Rattle.hir_session_state.specs.HirBase.declared.macro_kind.ExpansionKey.{ExpansionKey}
use Rattle.hir_session_state.specs.HirIds.declared.ids.Crate.{Crate}
use Rattle.hir_session_state.specs.HirItemTree.Attributes.{Attributes, no_attributes}
use Rattle.hir_session_state.specs.HirItemTree.SourceTree.{SourceTreeValue, source_tree_of}
use Rattle.hir_session_state.specs.HirTables.SourcePlaces.{SourcePlaceValue, expansion_value, block, expansion, file}
use Rattle.hir_session_state.specs.Crates.{CrateValue}
use Rattle.hir_session_state.specs.Entries.{expansion_cmp}
use Rattle.hir_session_state.specs.SourceTable.{SourceTable, front_in, source_at}
use Rattle.hir_session_sources.specs.ByCrate.{entries_under, keys_under}
use Rattle.hir_session_sources.specs.LoweredTrees.{kept_place, tree_for, AreLowered, AreLoweredAnew, HasLowered, IsTreeFor, LowerAlike}
use Rattle.hir_session_sources.specs.LoweredTrees.{MayLower, lowers, leaves}
use Rattle.hir_session_sources.specs.SourceTrees.{file_tree, is_place, tree_in}
use Rattle.hir_session_sources.specs.declared.source_trees.SourceTrees.{SourceTrees}
use Rattle.hir_session_sources.specs.declared.source_trees.lowering.LoweredTree.{LoweredTree}
use Rattle.hir_session_sources.proofs.BlockLemmas.{exact_blocks}
use Rattle.hir_session_sources.proofs.Expansions.{exact_expansions}
use Rattle.hir_session_sources.proofs.Lookups.{lookup-keyed}
use Rattle.hir_session_sources.proofs.Replaced.{IsPut, in_place}
use Rattle.hir_session_sources.proofs.SourceLemmas.{exact_paths, place_same}
use Rattle.hir_session_state.proofs.HirCollectorRules.Asked.{head_or_later}
use Rattle.hir_session_state.proofs.Truth.{clash, no_value, on_bool}

nowhere : {A B : Type 0} {x : A} → Contains [] x → B
nowhere among = let below = among.1 in absurd (omega (arith, below))

-- the next element and those behind it are left
pub drop_next : {A : Type 0} (k : ℕ) (xs : List A) (x other : A) → k < length xs → x ≡ get_or xs k other → drop k xs ≡ x ∷ drop (k + 1) xs
drop_next k xs x other within is = rw (add-one, drop-cons xs k other, is) refl

-- ---- of which sources something may be kept

-- a key that is found is among the keys
module _ {K X P : Type 0} (test : K → Bool) (g : K → P) (p : P) (says : (k : K) → test k ≡ true → g k ≡ p) where
  found_among : (es : List (K × X)) → (lookup test es ≡ None → ⊥) → Contains (map g (keys_of es)) p
  found_among [] there = absurd (there refl)
  found_among (e ∷ es) there = on_bool (test e.0)
      (λ on. (0, omega arith, says e.0 on))
      (λ off. Contains-append_right (g e.0 ∷ []) (map g (keys_of es)) p (found_among es (λ none. there (rw off none))))

neither : {A : Type 0} (b : Bool) → ◌≡◌ {A = Option A} (if b then None else None) None
neither true = refl
neither false = refl

module _ (trees : SourceTrees) (krate : Crate) where
  -- the files that the crate lists, and the blocks and expansions of which something is stored under it
  abbrev pub all_places : List SourcePlaceValue
  all_places =
      (map file (keys_under trees.paths krate) ++ map block (keys_under trees.by_block krate))
      ++ map (λ (key : ExpansionKey). expansion (expansion_value key)) (keys_under trees.by_key krate)

  -- something is kept of the source at a place under the crate
  abbrev pub IsKept : SourcePlaceValue → Type 0
  IsKept p = tree_in trees p krate ≡ None → ⊥

  pub place_among : (p : SourcePlaceValue) → IsKept p → Contains all_places p
  place_among (file j) there =
      let test : List ℕ → Bool = is_at (slice_cmp nat_cmp j) in
      Contains-append_left (map file (keys_under trees.paths krate) ++ map block (keys_under trees.by_block krate)) _ (file j)
      (Contains-append_left (map file (keys_under trees.paths krate)) (map block (keys_under trees.by_block krate)) (file j)
      (found_among test file (file j) (λ k on. ap file (sym (exact_paths.same j k on))) (entries_under trees.paths krate)
      (λ none. there (ap (λ o. if is_some o then file_tree trees.by_path j krate else None) none))))
  place_among (block q) there =
      Contains-append_left (map file (keys_under trees.paths krate) ++ map block (keys_under trees.by_block krate)) _ (block q)
      (Contains-append_right (map file (keys_under trees.paths krate)) (map block (keys_under trees.by_block krate)) (block q)
      (found_among (is_at (block_order.ghosts.cmp q)) block (block q) (λ k on. ap block (sym (exact_blocks.same q k on))) (entries_under trees.by_block krate)
      (λ none. there (ap (λ (o : Option (Rc SourceTreeValue Global)). if nat_eq q.holder.krate.0 krate.0 then option_map (λ t. t.value) o else None) none
      ∙ neither (nat_eq q.holder.krate.0 krate.0)))))
  place_among (expansion q) there =
      Contains-append_right (map file (keys_under trees.paths krate) ++ map block (keys_under trees.by_block krate)) _ (expansion q)
      (found_among (λ (k : ExpansionKey). is_at (expansion_cmp q) (expansion_value k)) (λ (k : ExpansionKey). expansion (expansion_value k)) (expansion q)
      (λ k on. ap expansion (sym (exact_expansions.same q (expansion_value k) on))) (entries_under trees.by_key krate)
      (λ none. there (ap (λ (o : Option (Rc SourceTreeValue Global)). if nat_eq q.caller.0 krate.0 then option_map (λ t. t.value) o else None)
      (sym (lookup-keyed expansion_value (is_at (expansion_cmp q)) (entries_under trees.by_key krate)) ∙ none)
      ∙ neither (nat_eq q.caller.0 krate.0))))

-- ---- what is lowered

module _ (c : CrateValue) (t : SourceTable) (krate : Crate) (trees : SourceTrees) where
  -- each that was lowered is right, and of what is kept the rest is still to be
  pub record IsLowering (rest : List SourcePlaceValue) (lowered : List LoweredTree) : Type 0 where
    pub each : (l : LoweredTree) → Contains lowered l → IsTreeFor c t l
    pub all : (p : SourcePlaceValue) → IsKept trees krate p → Contains rest p ⊎ HasLowered lowered p

  pub lowering-start : (places : List SourcePlaceValue) → ((p : SourcePlaceValue) → IsKept trees krate p → Contains places p) → IsLowering places []
  lowering-start places all = record { each = λ l among. nowhere among; all = λ p there. inl (all p there) }

  more_lowered : (old : List LoweredTree) (l : LoweredTree) (p : SourcePlaceValue) → HasLowered old p → HasLowered (old ++ l ∷ []) p
  more_lowered old l p has = record { is = has.is; among = Contains-append_left old (l ∷ []) has.is has.among; at = has.at }

  pub lowering-more : (place : SourcePlaceValue) (rest : List SourcePlaceValue) (old new : List LoweredTree) → MayLower c t krate trees place old new
      → IsLowering (place ∷ rest) old → IsLowering rest new
  lowering-more place rest old new (lowers l at right becomes) are = subst (λ (ls : List LoweredTree). IsLowering rest ls) (sym becomes) record {
    each = λ x among. elim (Contains-push_cases old l x among) [
      | inl before ↦ are.each x before
      | inr same ↦ subst (λ (y : LoweredTree). IsTreeFor c t y) same right
    ];
    all = λ p there. elim (are.all p there) [
      | inl among ↦ elim (head_or_later place rest p among) [
        | inl here ↦ inr (record { is = l; among = Contains-push old l; at = at ∙ here })
        | inr later ↦ inl later
      ]
      | inr has ↦ inr (more_lowered old l p has)
    ];
  }
  lowering-more place rest old new (leaves none same) are = subst (λ (ls : List LoweredTree). IsLowering rest ls) (sym same) record {
    each = are.each;
    all = λ p there. elim (are.all p there) [
      | inl among ↦ elim (head_or_later place rest p among) [
        | inl here ↦ absurd (there (ap (λ (q : SourcePlaceValue). tree_in trees q krate) (sym here) ∙ none))
        | inr later ↦ inl later
      ]
      | inr has ↦ inr has
    ];
  }

  pub lowering-end : (lowered : List LoweredTree) → IsLowering [] lowered → AreLowered c t krate trees lowered
  lowering-end lowered are = record {
    each = are.each;
    all = λ p tree is. elim (are.all p (λ none. no_value (sym none ∙ is))) [
      | inl among ↦ nowhere among
      | inr has ↦ inr has
    ];
  }

-- ---- what is put in place

own_place : (p : SourcePlaceValue) → is_place p p ≡ true
own_place (file path) = exact_paths.own path
own_place (block place) = exact_blocks.own place
own_place (expansion key) = exact_expansions.own key

put_twice : {A B : Type 0} (x : A) (o : Option B) → in_place x (in_place x o) ≡ in_place x o
put_twice x None = refl
put_twice x (Some y) = refl

module _ (c : CrateValue) (t : SourceTable) (krate : Crate) (old : SourceTrees) where
  abbrev anew : SourcePlaceValue → Option SourceTreeValue
  anew p = in_place (tree_for c t p) (tree_in old p krate)

  -- what was kept under the crate is lowered anew, or is still to be
  pub record IsReplacing (rest : List LoweredTree) (now : SourceTrees) : Type 0 where
    pub own : (p : SourcePlaceValue) → (tree_in now p krate ≡ anew p) ⊎ (tree_in now p krate ≡ tree_in old p krate) × HasLowered rest p
    pub others : (p : SourcePlaceValue) (other : Crate) → nat_eq krate.0 other.0 ≡ false → tree_in now p other ≡ tree_in old p other
    pub each : (l : LoweredTree) → Contains rest l → IsTreeFor c t l

  pub replacing-start : (lowered : List LoweredTree) → AreLowered c t krate old lowered → IsReplacing lowered old
  replacing-start lowered are = record { own = λ p. go p (tree_in old p krate) refl; others = λ p other apart. refl; each = are.each }
    where
      go : (p : SourcePlaceValue) (o : Option SourceTreeValue) → tree_in old p krate ≡ o
          → (tree_in old p krate ≡ anew p) ⊎ (tree_in old p krate ≡ tree_in old p krate) × HasLowered lowered p
      go p None is = inl (is ∙ sym (ap (in_place (tree_for c t p)) is))
      go p (Some tree) is = elim (are.all p tree is) [
        | inl right ↦ inl (is ∙ ap Some right ∙ sym (ap (in_place (tree_for c t p)) is))
        | inr has ↦ inr (refl, has)
      ]

  module _ (l : LoweredTree) (rest : List LoweredTree) (now next : SourceTrees) (are : IsReplacing (l ∷ rest) now)
      (put : IsPut now next krate l.tree (kept_place l.place)) where
    put_here : (p : SourcePlaceValue) → is_place (kept_place l.place) p ≡ true → tree_in next p krate ≡ in_place (tree_for c t p) (tree_in now p krate)
    put_here p on =
        let own : nat_eq krate.0 krate.0 ≡ true = (unsigned_Decides krate.0 krate.0).1 refl in
        put p krate
        ∙ ap (λ (b : Bool). if b && nat_eq krate.0 krate.0 then in_place l.tree.value (tree_in now p krate) else tree_in now p krate) on
        ∙ ap (λ (b : Bool). if b then in_place l.tree.value (tree_in now p krate) else tree_in now p krate) own
        ∙ ap (λ (x : SourceTreeValue). in_place x (tree_in now p krate))
        (are.each l (0, omega arith, refl) ∙ ap (tree_for c t) (place_same (kept_place l.place) p on))

    put_elsewhere : (p : SourcePlaceValue) (k : Crate) → is_place (kept_place l.place) p ≡ false → tree_in next p k ≡ tree_in now p k
    put_elsewhere p k off =
        put p k ∙ ap (λ (b : Bool). if b && nat_eq krate.0 k.0 then in_place l.tree.value (tree_in now p k) else tree_in now p k) off

    at_rest : (p : SourcePlaceValue) → is_place (kept_place l.place) p ≡ false → HasLowered (l ∷ rest) p → HasLowered rest p
    at_rest p off has = elim (head_or_later l rest has.is has.among) [
      | inl same ↦
          let here : kept_place l.place ≡ p = ap (λ (x : LoweredTree). kept_place x.place) same ∙ has.at in
          clash (subst (λ (q : SourcePlaceValue). is_place (kept_place l.place) q ≡ true) here (own_place (kept_place l.place))) off
      | inr later ↦ record { is = has.is; among = later; at = has.at }
    ]

    pub replacing-more : IsReplacing rest next
    replacing-more = record {
      own = λ p. on_bool (is_place (kept_place l.place) p)
          (λ on. elim (are.own p) [
            | inl done ↦ inl (put_here p on ∙ ap (in_place (tree_for c t p)) done ∙ put_twice (tree_for c t p) (tree_in old p krate))
            | inr left ↦ inl (put_here p on ∙ ap (in_place (tree_for c t p)) left.0)
          ])
          (λ off. elim (are.own p) [
            | inl done ↦ inl (put_elsewhere p krate off ∙ done)
            | inr left ↦ inr (put_elsewhere p krate off ∙ left.0, at_rest p off left.1)
          ]);
      others = λ p other apart.
          put p other
          ∙ ap (λ (b : Bool). if is_place (kept_place l.place) p && b then in_place l.tree.value (tree_in now p other) else tree_in now p other) apart
          ∙ in_neither (is_place (kept_place l.place) p) (in_place l.tree.value (tree_in now p other)) (tree_in now p other)
          ∙ are.others p other apart;
      each = λ x among. are.each x (Contains-append_right (l ∷ []) rest x among);
    }
      where
        in_neither : (b : Bool) (x y : Option SourceTreeValue) → (if b && false then x else y) ≡ y
        in_neither true x y = refl
        in_neither false x y = refl

  pub replacing-end : (new : SourceTrees) → IsReplacing [] new → AreLoweredAnew c t krate old new
  replacing-end new are = record {
    own = λ p. elim (are.own p) [
      | inl done ↦ done
      | inr left ↦ nowhere left.1.among
    ];
    others = are.others;
  }

-- ---- crates under which sources have the same

front_alike : (one other : CrateValue) (p : SourcePlaceValue) → other.own ≡ one.own → one.config.attributes ≡ other.config.attributes
    → front_in one p ≡ front_in other p
front_alike one other (file path) own attributes = λ i. cond (pointwise nat_eq (sym own i).root path) (attributes i) no_attributes
front_alike one other (block place) own attributes = refl
front_alike one other (expansion key) own attributes = refl

pub trees_alike : (one other : CrateValue) (t : SourceTable) (p : SourcePlaceValue) → other.own ≡ one.own → LowerAlike one.config other.config
    → tree_for one t p ≡ tree_for other t p
trees_alike one other t p own alike =
    let set : is_set one.config.options ≡ is_set other.config.options = λ i a. alike.options a i in
    ap₂ (λ (options : CfgAtom → Bool) (front : Attributes). source_tree_of options front (source_at t p)) set (front_alike one other p own alike.attributes)

-- where all that is kept is right, nothing is lowered
pub none_lowered : (c : CrateValue) (t : SourceTable) (krate : Crate) (trees : SourceTrees) (lowered : List LoweredTree) → lowered ≡ []
    → ((p : SourcePlaceValue) (tree : SourceTreeValue) → tree_in trees p krate ≡ Some tree → tree ≡ tree_for c t p) → AreLowered c t krate trees lowered
none_lowered c t krate trees lowered none right = subst (λ (ls : List LoweredTree). AreLowered c t krate trees ls) (sym none) record {
  each = λ l among. nowhere among;
  all = λ p tree is. inl (right p tree is);
}
