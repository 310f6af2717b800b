-- What is to be visited is walked, and what comes of it hangs on the end of a run alone.
use Rattle.std.proofs.Common.{◌≡◌, ◌≤◌, ℕ, Bool, true, false, List, [], ◌∷◌, ◌++◌, Some, refl, subst, arith, append_assoc}
use Rattle.hir_collector_rules.specs.HirItemTree.Collected.{is_enabled}
use Rattle.hir_collector_rules.specs.HirItemTree.Kinds.{item_head}
use Rattle.hir_collector_rules.specs.HirItemTree.KeptForest.{Head, Holder, KeptForest, KeptItem, Leaf, constant, enumeration}
use Rattle.hir_collector_rules.specs.HirItemTree.KeptForest.{extern_crate, function, holder, implementation}
use Rattle.hir_collector_rules.specs.HirItemTree.KeptForest.{import, item, leaf, macro_call, macro_def, macro_rules, no_items}
use Rattle.hir_collector_rules.specs.HirItemTree.KeptForest.{outline_module, static_item, structure, trait_item}
use Rattle.hir_collector_rules.specs.HirItemTree.KeptForest.{type_alias, union_structure}
use Rattle.hir_collector_rules.specs.HirDefMapRules.Overlay.{Maps}
use Rattle.hir_collector_rules.specs.HirDefMapRules.State.{Local, Map}
use Rattle.hir_collector_rules.specs.declared.declaration.Declaration.{Declaration}
use Rattle.hir_collector_rules.specs.declared.site.Site.{Site}
use Rattle.hir_collector_rules.specs.Derivation.{CollectedValue}
use Rattle.hir_collector_rules.specs.Items.{declaration_of, declared_by}
use Rattle.hir_collector_rules.specs.State.{Core, Task, Visit, closes, visits, visits_over}
use Rattle.hir_collector_rules.specs.Steps.{closing}
use Rattle.hir_def_collector_laws.specs.Declares.{Waited}
use Rattle.hir_def_collector_written.specs.Walked.{Comes, HolderWalks, LeafWalks, Walks, WalksOne, WhereEnabled, in_place, waited}

where_enabled : {P : Type 0} (b : Bool) → (b ≡ true → P) → WhereEnabled b P
where_enabled true f = f refl
where_enabled false f = tt

where_else : {P Q : Type 0} (b : Bool) → (P → Q) → WhereEnabled b P → WhereEnabled b Q
where_else true f p = f p
where_else false f p = tt

module _ (answer : CollectedValue) (last : Core) where
  -- ---- items

  pub leaf_walks : (site : Site) (head : Head) (l : Leaf) (done : ℕ) → LeafWalks answer last site head l → WalksOne answer last (leaf head l) done site
  leaf_walks site head l done p = where_enabled (is_enabled head.attributes) (λ on. in_place p)

  pub holder_walks : (site : Site) (head : Head) (k : Holder) (items : KeptForest) (done : ℕ)
      → HolderWalks answer site head k (λ inner. Walks answer last items inner)
      → WalksOne answer last (holder head k items) done site
  holder_walks site head k items done p = where_enabled (is_enabled head.attributes) (λ on. in_place p)

  -- a disabled item
  pub off_walks : (site : Site) (i : KeptItem) (done : ℕ) → is_enabled (item_head i).attributes ≡ false → WalksOne answer last i done site
  off_walks site (leaf head l) done off = where_enabled (is_enabled head.attributes) (λ on. absurd (let no : ⊥ = cc in no))
  off_walks site (holder head k items) done off = where_enabled (is_enabled head.attributes) (λ on. absurd (let no : ⊥ = cc in no))

  -- an item that waits
  pub waits_walks : (site : Site) (i : KeptItem) (done : ℕ) → Waited last.calls site i done → WalksOne answer last i done site
  waits_walks site (leaf head l) done waits = where_enabled (is_enabled head.attributes) (λ on. waited waits)
  waits_walks site (holder head k items) done waits = where_enabled (is_enabled head.attributes) (λ on. waited waits)

  -- an item behind an attribute with which it is done
  comes_earlier : {P : Type 0} (site : Site) (i : KeptItem) (done behind_it : ℕ) → done ≤ behind_it → Comes last site i behind_it P → Comes last site i done P
  comes_earlier site i done behind_it low (in_place p) = in_place p
  comes_earlier site i done behind_it low (waited waits) = waited (record {
    call = waits.call;
    among = waits.among;
    site_is = waits.site_is;
    item = waits.item;
    waits = waits.waits;
    kept = waits.kept;
    behind = omega (arith, low, waits.behind);
  })

  pub earlier_walks : (site : Site) (i : KeptItem) (done behind_it : ℕ) → done ≤ behind_it → WalksOne answer last i behind_it site
      → WalksOne answer last i done site
  earlier_walks site (leaf head l) done behind_it low p = where_else (is_enabled head.attributes) (comes_earlier site (leaf head l) done behind_it low) p
  earlier_walks site (holder head k items) done behind_it low p =
      where_else (is_enabled head.attributes) (comes_earlier site (holder head k items) done behind_it low) p

  -- an item that declares a name is no import
  pub declared_walks : (finished : Maps) (local : Local) (m : Map) (v : Visit) (d : Declaration) (done : ℕ) → declaration_of finished local m v ≡ Some d
      → WalksOne answer last v.item done v.site
  declared_walks finished local m v d done e = go v.item e
    where
      go : (i : KeptItem) → declared_by finished local m v.site i ≡ Some d → WalksOne answer last i done v.site
      go (leaf h (import tree)) f = absurd cc
      go (leaf h (extern_crate name alias)) f = absurd cc
      go (leaf h (function name)) f = leaf_walks v.site h (function name) done tt
      go (leaf h (structure name shape fields)) f = leaf_walks v.site h (structure name shape fields) done tt
      go (leaf h (union_structure name fields)) f = leaf_walks v.site h (union_structure name fields) done tt
      go (leaf h (enumeration name)) f = leaf_walks v.site h (enumeration name) done tt
      go (leaf h (constant name)) f = leaf_walks v.site h (constant name) done tt
      go (leaf h (static_item name)) f = leaf_walks v.site h (static_item name) done tt
      go (leaf h (trait_item name)) f = leaf_walks v.site h (trait_item name) done tt
      go (leaf h (implementation of_trait)) f = leaf_walks v.site h (implementation of_trait) done tt
      go (leaf h (type_alias name)) f = leaf_walks v.site h (type_alias name) done tt
      go (leaf h (outline_module name)) f = leaf_walks v.site h (outline_module name) done tt
      go (leaf h (macro_call path)) f = leaf_walks v.site h (macro_call path) done tt
      go (leaf h (macro_rules name expander helpers)) f = leaf_walks v.site h (macro_rules name expander helpers) done tt
      go (leaf h (macro_def name expander helpers)) f = leaf_walks v.site h (macro_def name expander helpers) done tt
      go (holder h k items) f = absurd cc

  -- ---- visits

  -- the items of these visits are walked
  abbrev pub AllWalk : List Task → Type 0
  AllWalk [] = Unit {0}
  AllWalk (visits v ∷ ts) = WalksOne answer last v.item v.done v.site × AllWalk ts
  AllWalk (closes parent child ∷ ts) = AllWalk ts

  -- those of one site
  pub all_walk : (s : Site) (is : KeptForest) → AllWalk (visits_over s is) → Walks answer last is s
  all_walk s no_items f = tt
  all_walk s (item i is) f = (f.0, all_walk s is f.1)

  -- and others behind them
  pub items_walk : (s : Site) (is : KeptForest) (rest : List Task) → AllWalk (visits_over s is ++ rest) → Walks answer last is s × AllWalk rest
  items_walk s no_items rest f = (tt, f)
  items_walk s (item i is) rest f = let more = items_walk s is rest f.1 in ((f.0, more.0), more.1)

  closing_walk : (marked : Bool) (parent child : ℕ) (rest : List Task) → AllWalk (closing marked parent child ++ rest) → AllWalk rest
  closing_walk true parent child rest f = f
  closing_walk false parent child rest f = f

  -- those of a module that is closed
  pub closed_walk : (s : Site) (is : KeptForest) (marked : Bool) (parent child : ℕ) (rest : List Task)
      → AllWalk ((visits_over s is ++ closing marked parent child) ++ rest)
      → Walks answer last is s × AllWalk rest
  closed_walk s is marked parent child rest f =
      let joined : AllWalk (visits_over s is ++ (closing marked parent child ++ rest)) =
      subst AllWalk (append_assoc (visits_over s is) (closing marked parent child) rest) f in
      let both = items_walk s is (closing marked parent child ++ rest) joined in
      (both.0, closing_walk marked parent child rest both.1)
