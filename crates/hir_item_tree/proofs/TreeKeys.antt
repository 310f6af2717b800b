-- Keys of trees, and what one change leaves at each.
use Rattle.std.proofs.Common.{◌≡◌, ◌∙◌, ap, sym, subst, refl, ℕ, nat_eq, Bool, true, false, ◌&&◌, cond, List, [], Option, Some, None, Result, Ok, Err, rules}
use mathlib.Core.Bool.{true≢false}
use denote.Enum.Bare.{same_true}
use Rattle.std.specs.BTreeMap.{BTreeMap, get, is_at, IsEmpty}
use Rattle.std.specs.Cmp.{unsigned_Decides, first_so, second_so, tied_itself}
use Rattle.std.specs.Map.{lookup}
use Rattle.std.specs.Option.{option_and_then, option_eq, option_map}
use Rattle.std.specs.Ordering.{is_eq}
use Rattle.std.specs.Result.{OnErr}
use Rattle.std.specs.declared.cmp.Ordering.{Ordering}
use Rattle.hir_ids.specs.contracts.ast_id.BlockIdPartialEq.TheImpl as block_eq
use Rattle.hir_ids.specs.contracts.ast_id.HirFileIdPartialEq.TheImpl as file_eq
use Rattle.hir_ids.specs.contracts.edition.Edition.{the_type as editions}
use Rattle.hir_ids.specs.contracts.ids.CrateOrd.TheImpl.{ghosts as crates}
use Rattle.hir_ids.specs.contracts.ids.CrateOrd.TheImpl.Laws.{total-law as crates_total, matches_eq-law as crates_tie}
use Rattle.hir_ids.specs.declared.ast_id.BlockId.{BlockId}
use Rattle.hir_ids.specs.declared.ids.Crate.{Crate}
use Rattle.hir_ids.specs.declared.ast_id.HirFileId.{HirFileId}
use Rattle.hir_ids.specs.declared.ast_id.HirFileId.TheVariants.{File, Macro}
use Rattle.hir_base.specs.contracts.tree_id.TreeIdOrd.TheImpl.{ghosts as ids}
use Rattle.hir_base.specs.contracts.tree_id.TreeIdOrd.TheImpl.Laws.{total-law as ids_total, matches_eq-law as ids_tie}
use Rattle.hir_item_tree.specs.Types.{TreeId, TreeKey}
use Rattle.hir_item_tree.specs.Trees.{is_key}

same_nat : (m n : ℕ) → nat_eq m n ≡ true → m ≡ n
same_nat m n e = (unsigned_Decides m n).0 e

equal_file : (a b : HirFileId) → file_eq.ghosts.eq a b ≡ true → a ≡ b
equal_file (File a) (File b) e = λ i. File (record {
  file_id = record { 0 = same_nat a.file_id.0 b.file_id.0 (first_so _ _ e) i };
  edition = same_true editions (search rules) a.edition b.edition (second_so _ _ e) i;
})
equal_file (File a) (Macro b) e = absurd (true≢false (sym e))
equal_file (Macro a) (File b) e = absurd (true≢false (sym e))
equal_file (Macro a) (Macro b) e = λ i. Macro (record { 0 = same_nat a.0 b.0 e i })

equal_block : (a b : Option BlockId) → option_eq block_eq.ghosts.eq a b ≡ true → a ≡ b
equal_block None None e = refl
equal_block None (Some b) e = absurd (true≢false (sym e))
equal_block (Some a) None e = absurd (true≢false (sym e))
equal_block (Some a) (Some b) e = λ i. Some (record { 0 = same_nat a.0 b.0 e i })

pub equal_id : (a b : TreeId) → is_at (ids.cmp a) b ≡ true → a ≡ b
equal_id a b e =
    let file = file_eq.ghosts.eq a.file b.file in
    let block = option_eq block_eq.ghosts.eq a.block b.block in
    let both : (file && block) ≡ true = ids_tie a b ∙ e in
    λ i. record { file = equal_file a.file b.file (first_so file block both) i; block = equal_block a.block b.block (second_so file block both) i }

equal_crate : (a b : Crate) → is_at (crates.cmp a) b ≡ true → a ≡ b
equal_crate a b e = λ i. record { 0 = same_nat a.0 b.0 (crates_tie a b ∙ e) i }

-- two keys that pass the test are one
pub is_key-equal : (key q : TreeKey) → is_key key q ≡ true → key ≡ q
is_key-equal key q e =
    let id = is_at (ids.cmp key.id) q.id in
    let krate = is_at (crates.cmp key.krate) q.krate in
    λ i. record { krate = equal_crate key.krate q.krate (second_so id krate e) i; id = equal_id key.id q.id (first_so id krate e) i }

-- a key passes the test with itself
pub is_key-same : (key : TreeKey) → is_key key key ≡ true
is_key-same key = λ i. is_eq (tied_itself ids_total key.id i) && is_eq (tied_itself crates_total key.krate i)

-- ---- maps from sources to maps from crates, whose sources' test is exact

module _ {V W : Type 0} (of : V → W) where
  -- what is kept under a crate, where a source is kept
  abbrev pub kept_under : Option (BTreeMap Crate V) → Crate → Option W
  kept_under source krate = option_and_then (λ (kept : BTreeMap Crate V). option_map of (get crates.cmp kept krate)) source

  -- a map without entries keeps nothing under any crate
  pub from_none : (source : Option (BTreeMap Crate V)) (empty : BTreeMap Crate V) → None ≡ source → IsEmpty empty
      → (k : Crate) → kept_under source k ≡ kept_under (Some empty) k
  from_none source empty none no_entries k =
      ap (λ (o : Option (BTreeMap Crate V)). kept_under o k) (sym none)
      ∙ sym (ap (λ (es : List (Crate × V)). option_map of (lookup (is_at (crates.cmp k)) es)) no_entries)

module _ {K V W : Type 0} (cmp : K → K → Ordering) (exact : (a b : K) → is_at (cmp a) b ≡ true → a ≡ b) (of : V → W) where
  -- whether a source and a crate are this source and this crate
  abbrev is_here : K → Crate → K → Crate → Bool
  is_here id krate j k = is_at (cmp id) j && is_at (crates.cmp krate) k

  -- what is kept of a source changes at a crate, and that of no other source
  pub changed : (id : K) (krate : Crate) (old new : K → Option (BTreeMap Crate V)) (was is : BTreeMap Crate V) (now : Option V)
      → ((k : Crate) → kept_under of (old id) k ≡ kept_under of (Some was) k)
      → ((j : K) → new j ≡ cond (is_at (cmp id) j) (Some is) (old j))
      → ((k : Crate) → get crates.cmp is k ≡ cond (is_at (crates.cmp krate) k) now (get crates.cmp was k))
      → (j : K) (k : Crate) → kept_under of (new j) k ≡ cond (is_here id krate j k) (option_map of now) (kept_under of (old j) k)
  changed id krate old new was is now before outer inner j k = go (is_at (cmp id) j) refl
    where
      here : (b : Bool) → option_map of (cond b now (get crates.cmp was k)) ≡ cond b (option_map of now) (option_map of (get crates.cmp was k))
      here true = refl
      here false = refl

      go : (b : Bool) → is_at (cmp id) j ≡ b → kept_under of (new j) k ≡ cond (b && is_at (crates.cmp krate) k) (option_map of now) (kept_under of (old j) k)
      go true on =
          let was_kept : kept_under of (old j) k ≡ option_map of (get crates.cmp was k) = ap (λ (a : K). kept_under of (old a) k) (sym (exact id j on)) ∙ before
          k in
          ap (λ (source : Option (BTreeMap Crate V)). kept_under of source k) (outer j ∙ ap (λ (b : Bool). cond b (Some is) (old j)) on)
          ∙ ap (option_map of) (inner k)
          ∙ here (is_at (crates.cmp krate) k)
          ∙ ap (λ (o : Option W). cond (is_at (crates.cmp krate) k) (option_map of now) o) (sym was_kept)
      go false off = ap (λ (source : Option (BTreeMap Crate V)). kept_under of source k) (outer j ∙ ap (λ (b : Bool). cond b (Some is) (old j)) off)

  -- a source whose crates keep what they have, as all other sources do
  pub unchanged : (id : K) (old new : K → Option (BTreeMap Crate V)) (was is : BTreeMap Crate V)
      → ((k : Crate) → kept_under of (old id) k ≡ kept_under of (Some was) k)
      → ((j : K) → new j ≡ cond (is_at (cmp id) j) (Some is) (old j))
      → is.entries ≡ was.entries
      → (j : K) (k : Crate) → kept_under of (new j) k ≡ kept_under of (old j) k
  unchanged id old new was is before outer same j k = go (is_at (cmp id) j) refl
    where
      go : (b : Bool) → is_at (cmp id) j ≡ b → kept_under of (new j) k ≡ kept_under of (old j) k
      go true on =
          ap (λ (source : Option (BTreeMap Crate V)). kept_under of source k) (outer j ∙ ap (λ (b : Bool). cond b (Some is) (old j)) on)
          ∙ ap (λ (es : List (Crate × V)). option_map of (lookup (is_at (crates.cmp k)) es)) same
          ∙ sym (before k)
          ∙ ap (λ (a : K). kept_under of (old a) k) (exact id j on)
      go false off = ap (λ (source : Option (BTreeMap Crate V)). kept_under of source k) (outer j ∙ ap (λ (b : Bool). cond b (Some is) (old j)) off)

  -- where nothing is kept of a source, nothing is under any crate
  pub absent : (id : K) (krate : Crate) (old : K → Option (BTreeMap Crate V)) → None ≡ old id
      → (j : K) (k : Crate) → kept_under of (old j) k ≡ cond (is_here id krate j k) None (kept_under of (old j) k)
  absent id krate old none j k = go (is_at (cmp id) j) refl
    where
      alike : (b : Bool) (o : Option W) → o ≡ cond b o o
      alike true o = refl
      alike false o = refl

      go : (b : Bool) → is_at (cmp id) j ≡ b → kept_under of (old j) k ≡ cond (b && is_at (crates.cmp krate) k) None (kept_under of (old j) k)
      go true on =
          let nothing : kept_under of (old j) k ≡ None = ap (λ (a : K). kept_under of (old a) k) (sym (exact id j on)) ∙ ap
          (λ (source : Option (BTreeMap Crate V)). kept_under of source k) (sym none) in
          nothing ∙ alike (is_at (crates.cmp krate) k) None ∙ ap (λ (o : Option W). cond (is_at (crates.cmp krate) k) None o) (sym nothing)
      go false off = refl

-- a fact holds of an error too
pub on_err : {A E : Type 0} (r : Result A E) {P : Type 0} → P → OnErr r P
on_err (Ok x) p = tt
on_err (Err e) p = p
