-- How one source changes, and what is kept of it then.
use Rattle.std.proofs.Common.{◌≡◌, ◌∙◌, ap, sym, nat_eq, Bool, true, cond, List, Option, Some, option_map}
use Rattle.std.proofs.lemmas.Bool.{eqb-true}
use Rattle.std.specs.BTreeMap.{get, is_at, IsEmpty}
use Rattle.std.specs.Map.{lookup}
use Rattle.std.specs.declared.alloc.Global.{Global}
use Rattle.std.specs.declared.rc.Rc.{Rc}
use Rattle.hir_session_state.specs.HirIds.contracts.ids.CrateOrd.TheImpl as crate_order
use Rattle.hir_session_state.specs.HirIds.contracts.ids.CrateOrd.TheImpl.Laws.{matches_eq-law as crates_tie}
use Rattle.hir_session_state.specs.HirIds.declared.ids.Crate.{Crate}
use Rattle.hir_session_state.specs.HirItemTree.SourceTree.{SourceTreeValue}
use Rattle.hir_session_state.specs.HirItemTree.Source.{SourceValue}
use Rattle.hir_session_state.specs.HirTables.SourcePlaces.{SourcePlaceValue}
use Rattle.std.specs.Cmp.{unsigned_Decides}
use Rattle.hir_session_state.specs.Crates.{CrateValue}
use Rattle.hir_session_state.specs.SourceTable.{tree_under}
use Rattle.hir_session_sources.specs.SourceTrees.{CrateTrees, AreTreesOf}
use Rattle.hir_session_state.proofs.Truth.{on_bool}

-- ---- what is kept

pub same_crate : (a b : Crate) → nat_eq a.0 b.0 ≡ true → a ≡ b
same_crate a b e = λ i. record { 0 = eqb-true a.0 b.0 e i }

pub equal_crate : (a b : Crate) → is_at (crate_order.ghosts.cmp a) b ≡ true → a ≡ b
equal_crate a b e = λ i. record { 0 = (unsigned_Decides a.0 b.0).0 (crates_tie a b ∙ e) i }

module _ (crates : List CrateValue) (place : SourcePlaceValue) (source : Option SourceValue) where
  pub no_trees : (trees : CrateTrees) → IsEmpty trees → AreTreesOf crates place source trees
  no_trees trees empty = record {
    each =
        λ krate t is. absurd (let wrong : ⊥ = cc
        (ap (λ (es : List (Crate × Rc SourceTreeValue Global)). option_map (λ (r : Rc SourceTreeValue Global). r.value)
        (lookup (is_at (crate_order.ghosts.cmp krate)) es)) empty) in wrong);
  }

  -- one more
  pub one_more_tree : (old new : CrateTrees) (krate : Crate) (tree : Rc SourceTreeValue Global) → tree.value ≡ tree_under crates krate.0 place source
      → AreTreesOf crates place source old
      → ((c : Crate) → get crate_order.ghosts.cmp new c ≡ cond (is_at (crate_order.ghosts.cmp krate) c) (Some tree) (get crate_order.ghosts.cmp old c))
      → AreTreesOf crates place source new
  one_more_tree old new krate tree right are updates = record {
    each = λ c t is. on_bool (is_at (crate_order.ghosts.cmp krate) c)
        (λ on.
        let now : Some tree.value ≡ Some t = sym (ap (option_map (λ (r : Rc SourceTreeValue Global). r.value))
        (updates c ∙ ap (λ (b : Bool). cond b (Some tree) (get crate_order.ghosts.cmp old c)) on)) ∙ is in
        let same : tree.value ≡ t = cc in
        sym same ∙ right ∙ ap (λ (k : Crate). tree_under crates k.0 place source) (equal_crate krate c on))
        (λ off. are.each c t (sym (ap (option_map (λ (r : Rc SourceTreeValue Global). r.value))
        (updates c ∙ ap (λ (b : Bool). cond b (Some tree) (get crate_order.ghosts.cmp old c)) off)) ∙ is));
  }
