-- What is recorded for a map covers all that it refers to.
use Rattle.std.proofs.Common.{◌≡◌, ◌∙◌, ◌⊎◌, ap, sym, subst, refl, Bool, true, false, not, ◌&&◌, ◌||◌, Option, Some, None, Result, Ok, Err, is_none, OnOk, List}
use Rattle.std.proofs.Common.{[], ◌∷◌, ◌++◌, inl, inr, length, ◌+◌, ◌<◌, arith}
use Rattle.std.specs.Cmp.{first_so, second_so}
use Rattle.std.specs.List.{list_any}
use Rattle.std.proofs.lemmas.List.{length-append}
use Rattle.std.specs.BTreeMap.{BTreeMap, get, is_at}
use Rattle.std.specs.BTreeSet.{BTreeSet, contains}
use Rattle.hir_nameres.specs.HirIds.declared.ast_id.BlockId.{BlockId}
use Rattle.hir_nameres.specs.HirIds.declared.ids.Crate.{Crate}
use Rattle.hir_nameres.specs.HirIds.declared.ids.MapId.{MapId}
use Rattle.hir_nameres.specs.HirIds.contracts.ids.MapIdOrd.TheImpl as map_order
use Rattle.hir_nameres.specs.HirIds.contracts.ids.MapIdPartialEq.TheImpl as map_id
use mathlib.Core.Bool.{true≢false}
use Rattle.hir_nameres.specs.HirCrateGraph.CrateSet.{Gains as CratesGain, has_crate}
use Rattle.hir_def_map.specs.Types.{Finished}
use Rattle.hir_def_map_rules.specs.State.{Local, Map, crate_map}
use Rattle.hir_def_map.specs.Insertion.{Gains}
use Rattle.hir_def_map_rules.specs.References.{any_own_crate, any_reference, lies_in, test_crate}
use Rattle.hir_nameres.specs.Removal.{lists_in, refers_in, refers_of}
use Rattle.hir_nameres.specs.World.{IsChecked}
use Rattle.hir_def_map.specs.Inner.Recorded.{AreCovered, GainsOnly, IsCovered, IsRecordedFor, Records, is_left_out, is_other}
use Rattle.hir_def_map_rules.specs.Inner.ReferenceLists.{any_listed}
use Rattle.hir_def_map_rules.proofs.References.{any-append, any_is}
use Rattle.hir_def_map.proofs.Depending.{falls_itself}
use Rattle.hir_nameres.specs.HirPerNs.ModuleTree.{same_crate}
use Rattle.hir_def_map_rules.specs.Inner.OverlayLaws.{exact_crate, exact_map}
use Rattle.hir_def_map.proofs.Joined.{both, crate_named, equal_id, own_crate_named, own_id, same_id}
use Rattle.hir_def_map_rules.proofs.NoneOf.{not_first}

abbrev pub has : BTreeSet MapId → MapId → Bool
has ids id = contains map_order.ghosts.cmp ids id

-- taking the last one leaves fewer
pub fewer_before : (before left : List Crate) (last : Crate) → before ≡ left ++ last ∷ [] → length left < length before
fewer_before before left last e =
    let more : length before ≡ length left + 1 = ap length e ∙ length-append left (last ∷ []) in
    omega (arith, more)

pub or_first : (a b : Bool) → a ≡ true → (a || b) ≡ true
or_first true b e = refl
or_first false b e = absurd cc

pub or_second : (a b : Bool) → b ≡ true → (a || b) ≡ true
or_second true b e = refl
or_second false b e = e

pub or_either : (a b : Bool) → (a || b) ≡ true → (a ≡ true) ⊎ (b ≡ true)
or_either true b e = inl refl
or_either false b e = inr e

pub and_both : (a b : Bool) → a ≡ true → b ≡ true → (a && b) ≡ true
and_both true b e f = f
and_both false b e f = absurd cc

-- what holds of a success holds with what follows of it
pub ok-map : {T E : Type 0} {P Q : Type 0} (r : Result T E) → (P → Q) → OnOk r P → OnOk r Q
ok-map (Ok x) f p = f p
ok-map (Err e) f p = tt

-- an id that isn't the own one
apart_from : (own id : MapId) → map_id.ghosts.eq id own ≡ false → is_at (map_order.ghosts.cmp own) id ≡ false
apart_from own id e = go (is_at (map_order.ghosts.cmp own) id) refl
  where
    go : (b : Bool) → is_at (map_order.ghosts.cmp own) id ≡ b → b ≡ false
    go true s = absurd (true≢false (sym (equal_id own id (same_id own id s)) ∙ e))
    go false s = refl

-- the map of a crate is known by the crate
no_block : (o : Option BlockId) → is_none o ≡ true → None ≡ o
no_block None e = refl
no_block (Some b) e = absurd cc

crate_of_id : (id : MapId) → is_none id.block ≡ true → crate_map id.krate ≡ id
crate_of_id id e = λ i. record { krate = id.krate; block = no_block id.block e i }

-- an empty set has no id
at_empty : (set : BTreeSet MapId) → set.keys ≡ [] → (id : MapId) → has set id ≡ false
at_empty set none id = ap (λ (ks : List MapId). list_any (is_at (map_order.ghosts.cmp id)) ks) none

-- ---- what a set gains

pub gains-none : (set : BTreeSet MapId) (own : MapId) (test : MapId → Bool) → GainsOnly set set own test
gains-none set own test = record { kept = λ id e. e; only = λ id e. inl e }

-- a test that holds of more
other-more : (own : MapId) (one more : MapId → Bool) → ((id : MapId) → one id ≡ true → more id ≡ true) → (id : MapId) → is_other own one id ≡ true
    → is_other own more id ≡ true
other-more own one more f id e =
    and_both (not (is_at (map_order.ghosts.cmp own) id)) (more id) (first_so (not (is_at (map_order.ghosts.cmp own) id)) (one id) e)
    (f id (second_so (not (is_at (map_order.ghosts.cmp own) id)) (one id) e))

pub gains-more : (old new : BTreeSet MapId) (own : MapId) (one more : MapId → Bool) → ((id : MapId) → one id ≡ true → more id ≡ true)
    → GainsOnly old new own one → GainsOnly old new own more
gains-more old new own one more f g =
    record { kept = g.kept; only = λ id e. elim (g.only id e) [ inl there ↦ inl there | inr gained ↦ inr (other-more own one more f id gained) ] }

pub gains-then : (old now new : BTreeSet MapId) (own : MapId) (test : MapId → Bool) → GainsOnly old now own test → GainsOnly now new own test
    → GainsOnly old new own test
gains-then old now new own test f g = record {
  kept = λ id e. g.kept id (f.kept id e);
  only = λ id e. elim (g.only id e) [ inl there ↦ f.only id there | inr gained ↦ inr gained ];
}

-- one gain after another
pub gains-both : (old now new : BTreeSet MapId) (own : MapId) (one other : MapId → Bool) → GainsOnly old now own one → GainsOnly now new own other
    → GainsOnly old new own (λ id. one id || other id)
gains-both old now new own one other f g =
    gains-then old now new own (λ id. one id || other id)
    (gains-more old now own one (λ id. one id || other id) (λ id e. or_first (one id) (other id) e) f)
    (gains-more now new own other (λ id. one id || other id) (λ id e. or_second (one id) (other id) e) g)

-- the id of another map that is inserted
pub gains-inserted : (old new : BTreeSet MapId) (own id : MapId) (crates : List Crate) → is_left_out crates own id ≡ false
    → Gains old new (λ k. is_at (map_order.ghosts.cmp id) k)
    → GainsOnly old new own (λ k. is_at (map_order.ghosts.cmp id) k)
gains-inserted old new own id crates out gains = record {
  kept = λ k e. gains.has k ∙ or_first (has old k) (is_at (map_order.ghosts.cmp id) k) e;
  only = λ k e. elim (or_either (has old k) (is_at (map_order.ghosts.cmp id) k) (sym (gains.has k) ∙ e)) [
    | inl there ↦ inl there
    | inr added ↦ inr (and_both (not (is_at (map_order.ghosts.cmp own) k)) (is_at (map_order.ghosts.cmp id) k) (other k added) added)
  ];
}
  where
    apart : is_at (map_order.ghosts.cmp own) id ≡ false
    apart = apart_from own id (not_first (map_id.ghosts.eq id own) (is_none id.block && has_crate crates id.krate) out)

    other : (k : MapId) → is_at (map_order.ghosts.cmp id) k ≡ true → not (is_at (map_order.ghosts.cmp own) k) ≡ true
    other k added = ap (λ (x : MapId). not (is_at (map_order.ghosts.cmp own) x)) (sym (same_id id k added)) ∙ ap not apart

-- ---- the crates of a list, the last of which is taken

module _ (all before left : List Crate) (krate : Crate) (taken : before ≡ left ++ krate ∷ [])
    (less : (id : MapId) → list_any (test_crate (lies_in id)) before ≡ true → list_any (test_crate (lies_in id)) all ≡ true) where
  split : (id : MapId) → list_any (test_crate (lies_in id)) before ≡ (list_any (test_crate (lies_in id)) left || (test_crate (lies_in id) krate || false))
  split id = ap (list_any (test_crate (lies_in id))) taken ∙ any-append (test_crate (lies_in id)) left (krate ∷ [])

  pub last-less : (id : MapId) → list_any (test_crate (lies_in id)) left ≡ true → list_any (test_crate (lies_in id)) all ≡ true
  last-less id e = less id (split id ∙ or_first (list_any (test_crate (lies_in id)) left) (test_crate (lies_in id) krate || false) e)

  pub last-gained : (old now new : BTreeSet MapId) (own : MapId) → GainsOnly old now own (λ id. list_any (test_crate (lies_in id)) all)
      → GainsOnly now new own (λ id. test_crate (lies_in id) krate)
      → GainsOnly old new own (λ id. list_any (test_crate (lies_in id)) all)
  last-gained old now new own f g =
      gains-then old now new own (λ id. list_any (test_crate (lies_in id)) all) f
      (gains-more now new own (λ id. test_crate (lies_in id) krate) (λ id. list_any (test_crate (lies_in id)) all)
      (λ id e. less id (split id ∙ or_second (list_any (test_crate (lies_in id)) left) (test_crate (lies_in id) krate || false)
      (or_first (test_crate (lies_in id) krate) false e))) g)

-- ---- what is covered

-- a crate of a list has its map among those of the list
in_list : (crates : List Crate) (c : Crate) → has_crate crates c ≡ true → list_any (test_crate (lies_in (crate_map c))) crates ≡ true
in_list [] c e = absurd cc
in_list (d ∷ ds) c e = elim (or_either (same_crate c d) (has_crate ds c) e) [
  | inl here ↦ or_first (test_crate (lies_in (crate_map c)) d) (list_any (test_crate (lies_in (crate_map c))) ds) (own d (exact_crate c d here))
  | inr later ↦ or_second (test_crate (lies_in (crate_map c)) d) (list_any (test_crate (lies_in (crate_map c))) ds) (in_list ds c later)
]
  where
    own : (d : Crate) → c ≡ d → test_crate (lies_in (crate_map c)) d ≡ true
    own d same = let P : Crate → Type 0 = λ x. test_crate (lies_in (crate_map c)) x ≡ true in subst P same (own_id (crate_map c))

module _ (maps : BTreeMap MapId Finished) where
  pub covered-more : (old new : BTreeSet MapId) → ((id : MapId) → has old id ≡ true → has new id ≡ true) → (id : MapId) → IsCovered maps old id
      → IsCovered maps new id
  covered-more old new more id c = record { by = c.by; is_recorded = more c.by c.is_recorded; falls = c.falls }

  pub all_covered-more : (old new : BTreeSet MapId) (crates : List Crate) → ((id : MapId) → has old id ≡ true → has new id ≡ true) → AreCovered maps old crates
      → AreCovered maps new crates
  all_covered-more old new crates more all = record { each = λ c e. covered-more old new more (crate_map c) (all.each c e) }

  pub by_itself : (set : BTreeSet MapId) (id : MapId) → has set id ≡ true → IsCovered maps set id
  by_itself set id e = record { by = id; is_recorded = e; falls = falls_itself (lists_in maps) id }

  -- the crates on which that of a recorded map depends
  pub covered-crate : (old new : BTreeSet MapId) (before after : List Crate) (krate : Crate) (f : Finished) → IsChecked maps → get map_order.ghosts.cmp maps
      (crate_map krate) ≡ Some f
      → Gains old new (λ k. is_at (map_order.ghosts.cmp (crate_map krate)) k)
      → AreCovered maps old before → CratesGain before after (has_crate f.map.crate_data.dependencies) → AreCovered maps new after
  covered-crate old new before after krate f checked there inserted all gains = record {
    each = λ c e. elim (or_either (has_crate before c) (has_crate f.map.crate_data.dependencies c) (sym (gains.has c) ∙ e)) [
      | inl was ↦ covered-more old new more (crate_map c) (all.each c was)
      | inr is ↦ go c is (is_at (map_order.ghosts.cmp (crate_map krate)) (crate_map c)) refl
    ];
  }
    where
      more : (id : MapId) → has old id ≡ true → has new id ≡ true
      more id e = inserted.has id ∙ or_first (has old id) (is_at (map_order.ghosts.cmp (crate_map krate)) id) e

      recorded : has new (crate_map krate) ≡ true
      recorded =
          inserted.has (crate_map krate) ∙ or_second (has old (crate_map krate)) (is_at (map_order.ghosts.cmp (crate_map krate)) (crate_map krate))
          (own_id (crate_map krate))

      go : (c : Crate) → has_crate f.map.crate_data.dependencies c ≡ true → (b : Bool) → is_at (map_order.ghosts.cmp (crate_map krate)) (crate_map c) ≡ b
          → IsCovered maps new (crate_map c)
      go c is true s =
          let P : MapId → Type 0 = λ x. has new x ≡ true in by_itself new (crate_map c) (subst P (same_id (crate_map krate) (crate_map c) s) recorded)
      go c is false s = record { by = crate_map krate; is_recorded = recorded; falls = checked.covered (crate_map krate) (crate_map c) named }
        where
          apart : not (is_at (map_order.ghosts.cmp f.map.id) (crate_map c)) ≡ true
          apart =
              let P : MapId → Type 0 = λ x. is_at (map_order.ghosts.cmp x) (crate_map c) ≡ false
              in ap not (subst P (sym (checked.each (crate_map krate) f there).own) s)

          named : refers_in maps (crate_map krate) (crate_map c) ≡ true
          named =
              ap (λ o. refers_of o (crate_map c)) there
              ∙ both (not (is_at (map_order.ghosts.cmp f.map.id) (crate_map c))) (any_reference (lies_in (crate_map c)) f.map f.local) apart
              (crate_named f.map f.local (crate_map c) (in_list f.map.crate_data.dependencies c is))

  -- no crate is covered yet
  pub none_covered : (set : BTreeSet MapId) (crates : List Crate) → crates ≡ [] → AreCovered maps set crates
  none_covered set crates none = record { each = λ c e. absurd (true≢false (sym e ∙ ap (λ (cs : List Crate). has_crate cs c) none)) }

  -- ---- records

  -- what is left out is covered
  pub records-left_out : (set : BTreeSet MapId) (own id : MapId) (crates : List Crate) → is_left_out crates own id ≡ true → AreCovered maps set crates
      → Records maps set set own (λ k. is_at (map_order.ghosts.cmp id) k)
  records-left_out set own id crates out covers = record { gains = gains-none set own (λ k. is_at (map_order.ghosts.cmp id) k); each = each }
    where
      each : (k : MapId) → is_other own (λ k. is_at (map_order.ghosts.cmp id) k) k ≡ true → IsCovered maps set k
      each k e = elim (or_either (map_id.ghosts.eq id own) (is_none id.block && has_crate crates id.krate) out) [
        | inl same ↦ absurd (true≢false (sym (first_so (not (is_at (map_order.ghosts.cmp own) k)) (is_at (map_order.ghosts.cmp id) k) e) ∙ ap not
            (at_own same)))
        | inr covered ↦ (let P : MapId → Type 0 = λ x. IsCovered maps set x in
            subst P (crate_of_id id (first_so (is_none id.block) (has_crate crates id.krate) covered) ∙ here)
            (covers.each id.krate (second_so (is_none id.block) (has_crate crates id.krate) covered)))
      ]
        where
          here : id ≡ k
          here = same_id id k (second_so (not (is_at (map_order.ghosts.cmp own) k)) (is_at (map_order.ghosts.cmp id) k) e)

          at_own : map_id.ghosts.eq id own ≡ true → is_at (map_order.ghosts.cmp own) k ≡ true
          at_own same = ap (λ (x : MapId). is_at (map_order.ghosts.cmp x) k) (sym (exact_map id own same) ∙ here) ∙ own_id k

  -- what is inserted is covered by itself
  pub records-inserted : (old new : BTreeSet MapId) (own id : MapId) (crates : List Crate) → is_left_out crates own id ≡ false
      → Gains old new (λ k. is_at (map_order.ghosts.cmp id) k)
      → Records maps old new own (λ k. is_at (map_order.ghosts.cmp id) k)
  records-inserted old new own id crates out gains = record {
    gains = gains-inserted old new own id crates out gains;
    each =
        λ k e. by_itself new k (gains.has k ∙ or_second (has old k) (is_at (map_order.ghosts.cmp id) k)
        (second_so (not (is_at (map_order.ghosts.cmp own) k)) (is_at (map_order.ghosts.cmp id) k) e));
  }

  pub records-none : (set : BTreeSet MapId) (own : MapId) (test : MapId → Bool) → ((id : MapId) → is_other own test id ≡ true → IsCovered maps set id)
      → Records maps set set own test
  records-none set own test each = record { gains = gains-none set own test; each = each }

  -- the same by an equal test
  pub records-along : (old new : BTreeSet MapId) (own : MapId) (one other : MapId → Bool) → ((id : MapId) → one id ≡ other id) → Records maps old new own one
      → Records maps old new own other
  records-along old new own one other same r = record {
    gains = gains-more old new own one other (λ id e. sym (same id) ∙ e) r.gains;
    each = λ id e. r.each id (other-more own other one (λ k f. same k ∙ f) id e);
  }

  pub records-both : (old now new : BTreeSet MapId) (own : MapId) (one other : MapId → Bool) → Records maps old now own one → Records maps now new own other
      → Records maps old new own (λ id. one id || other id)
  records-both old now new own one other f g = record {
    gains = gains-both old now new own one other f.gains g.gains;
    each = λ id e.
        let apart = first_so (not (is_at (map_order.ghosts.cmp own) id)) (one id || other id) e in
        elim (or_either (one id) (other id) (second_so (not (is_at (map_order.ghosts.cmp own) id)) (one id || other id) e)) [
          | inl here ↦ covered-more now new g.gains.kept id (f.each id (and_both (not (is_at (map_order.ghosts.cmp own) id)) (one id) apart here))
          | inr there ↦ g.each id (and_both (not (is_at (map_order.ghosts.cmp own) id)) (other id) apart there)
        ];
  }

  -- ---- one reference after another

  -- those of all that are not left are recorded
  pub record IsRecording (old now : BTreeSet MapId) (own : MapId) (covered : List Crate) (all left : MapId → Bool) : Type 0 where
    pub covers : AreCovered maps now covered
    pub gains : GainsOnly old now own all
    pub each : (id : MapId) → is_other own all id ≡ true → IsCovered maps now id ⊎ (left id ≡ true)
    pub less : (id : MapId) → left id ≡ true → all id ≡ true

  pub recording-start : (set : BTreeSet MapId) (own : MapId) (covered : List Crate) (all left : MapId → Bool) → ((id : MapId) → all id ≡ left id)
      → AreCovered maps set covered → IsRecording set set own covered all left
  recording-start set own covered all left same covers = record {
    covers = covers;
    gains = gains-none set own all;
    each = λ id e. inr (sym (same id) ∙ second_so (not (is_at (map_order.ghosts.cmp own) id)) (all id) e);
    less = λ id e. same id ∙ e;
  }

  pub recording-step : (old now new : BTreeSet MapId) (own : MapId) (covered : List Crate) (all left one others : MapId → Bool)
      → ((id : MapId) → left id ≡ (one id || others id))
      → IsRecording old now own covered all left → Records maps now new own one → IsRecording old new own covered all others
  recording-step old now new own covered all left one others taken half r = record {
    covers = all_covered-more now new covered r.gains.kept half.covers;
    gains =
        gains-then old now new own all half.gains (gains-more now new own one all (λ id e. half.less id (taken id ∙ or_first (one id) (others id) e)) r.gains);
    each = λ id e. elim (half.each id e) [
      | inl done ↦ inl (covered-more now new r.gains.kept id done)
      | inr waits ↦ (elim (or_either (one id) (others id) (sym (taken id) ∙ waits)) [
        | inl this ↦ inl (r.each id (and_both (not (is_at (map_order.ghosts.cmp own) id)) (one id)
            (first_so (not (is_at (map_order.ghosts.cmp own) id)) (all id) e) this))
        | inr later ↦ inr later
      ])
    ];
    less = λ id e. half.less id (taken id ∙ or_second (one id) (others id) e);
  }

  pub recording-end : (old now : BTreeSet MapId) (own : MapId) (covered : List Crate) (all left : MapId → Bool) → ((id : MapId) → left id ≡ false)
      → IsRecording old now own covered all left → Records maps old now own all
  recording-end old now own covered all left none half = record {
    gains = half.gains;
    each = λ id e. elim (half.each id e) [ inl done ↦ done | inr waits ↦ absurd (let no : true ≡ false = sym waits ∙ none id in cc) ];
  }

  -- ---- all at once

  -- what a block's crate and the dependencies give is referred to
  crates_less : (map : Map) (local : Local) (id : MapId) → (any_own_crate (lies_in id) map.id || list_any (test_crate (lies_in id)) map.crate_data.dependencies)
      ≡ true → any_reference (lies_in id) map local ≡ true
  crates_less map local id e = elim (or_either (any_own_crate (lies_in id) map.id) (list_any (test_crate (lies_in id)) map.crate_data.dependencies) e) [
    | inl own ↦ own_crate_named map local id own
    | inr crate ↦ crate_named map local id crate
  ]

  recorded_at : (none first recorded : BTreeSet MapId) (map : Map) (local : Local) → ((id : MapId) → has none id ≡ false)
      → GainsOnly none first map.id (λ id. any_own_crate (lies_in id) map.id || list_any (test_crate (lies_in id)) map.crate_data.dependencies)
      → Records maps first recorded map.id (λ id. any_listed (lies_in id) map local) → IsRecordedFor maps recorded map local
  recorded_at none first recorded map local empty gains listed =
      let r = records-along first recorded map.id (λ id. any_listed (lies_in id) map local) (λ id. any_reference (lies_in id) map local)
      (λ id. any_is (lies_in id) map local) listed in
      record {
        named = λ id e. elim (r.gains.only id e) [
          | inl there ↦ (elim (gains.only id there) [
            | inl before ↦ absurd (true≢false (sym before ∙ empty id))
            | inr crate ↦ other-more map.id (λ k. any_own_crate (lies_in k) map.id || list_any (test_crate (lies_in k)) map.crate_data.dependencies)
                (λ k. any_reference (lies_in k) map local) (crates_less map local) id crate
          ])
          | inr gained ↦ gained
        ];
        each = λ id e. r.each id e;
      }

  pub recorded_for : (none first recorded : BTreeSet MapId) (own : MapId) (crates : List Crate) (map : Map) (local : Local) → own ≡ map.id → crates
      ≡ map.crate_data.dependencies → none.keys ≡ []
      → GainsOnly none first own (λ id. any_own_crate (lies_in id) own || list_any (test_crate (lies_in id)) crates)
      → Records maps first recorded own (λ id. any_listed (lies_in id) map local) → IsRecordedFor maps recorded map local
  recorded_for none first recorded own crates map local same_own same_crates empty gains listed =
      let G : MapId → Type 0 = λ x. GainsOnly none first x (λ id. any_own_crate (lies_in id) x || list_any (test_crate (lies_in id)) crates) in
      let D : List Crate → Type 0 = λ cs. GainsOnly none first map.id (λ id. any_own_crate (lies_in id) map.id || list_any (test_crate (lies_in id)) cs) in
      let R : MapId → Type 0 = λ x. Records maps first recorded x (λ id. any_listed (lies_in id) map local) in
      recorded_at none first recorded map local (at_empty none empty) (subst D same_crates (subst G same_own gains)) (subst R same_own listed)
