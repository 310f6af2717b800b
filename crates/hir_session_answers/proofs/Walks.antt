-- One step further down a place.
use Rattle.std.specs.Prelude.{is_some}
use Rattle.std.specs.Option.{option_and_then}
use Rattle.std.proofs.Common.{◌≡◌, ◌∙◌, ap, sym, refl, Bool, true, false, Option, Some, None, option_map, List, [], ◌∷◌, ◌++◌, ℕ, ◌+◌, ◌<◌, length, get_or}
use Rattle.std.proofs.Common.{take}
use Rattle.std.proofs.lemmas.List.{take_more}
use Rattle.hir_session_state.specs.HirBase.Place.{PlaceValue}
use Rattle.hir_session_state.specs.HirIds.declared.ast_id.BlockId.{BlockId}
use Rattle.hir_session_state.specs.HirBase.declared.place.BlockPlace.{BlockPlace}
use Rattle.hir_session_state.specs.HirIds.declared.ids.Crate.{Crate}
use Rattle.hir_session_state.specs.HirIds.declared.ids.ModuleId.{ModuleId}
use Rattle.hir_session_state.specs.HirBase.declared.place.PlaceElement.{PlaceElement}
use Rattle.hir_session_state.specs.HirIds.declared.ast_id.SyntaxId.{SyntaxId}
use Rattle.hir_session_state.specs.HirBase.declared.place.PlaceElement.TheVariants as element
use Rattle.hir_session_state.specs.HirItemTree.Source.{SourceValue}
use Rattle.hir_session_state.specs.HirTables.Tables.{TablesValue, HasEachOnce, block_at}
use Rattle.std.specs.Prelude.{◌↔◌}
use Rattle.hir_session_state.specs.Blocks.{Blocks, block_in, place_of_block}
use Rattle.hir_session_state.specs.Kept.{Resolution, Resolutions, kept_in}
use Rattle.hir_session_state.specs.Standing.{Standing, block_below, block_map, block_number, down, is_set, kept_block, step, to_root}
use Rattle.hir_session_state.specs.Standing.{Standing as way}
use Rattle.hir_session_sources.specs.BlockTables.{steps_in}
use Rattle.hir_session_sources.proofs.BlockLemmas.{same_root}
use Rattle.hir_session_state.proofs.Places.{number_is, number_means}
use Rattle.hir_session_state.proofs.Standing.{down-append}
use Rattle.hir_session_state.proofs.Truth.{no_value}
use Rattle.hir_session_answers.specs.Walking.{root_kept, to_block, to_name}

module _ (tables : TablesValue) (blocks : Blocks) (kept : Resolutions) (krate : Crate) where
  -- the step to a name
  pub to_name_is : (before : List PlaceElement) (st : Standing) (name : List ℕ) → to_name kept st name ≡ step tables blocks kept krate before st
      (element.Module name)
  to_name_is before (way.at m) name = refl
  to_name_is before (way.lacks id) name = refl
  to_name_is before way.stale name = refl
  to_name_is before way.unset name = refl

  -- and to a block
  to_block_is : (before : List PlaceElement) (st : Standing) (id : SyntaxId)
      → to_block st (is_set blocks (block_below krate before id)) (to_root (kept_block tables kept (block_below krate before id)))
      ≡ step tables blocks kept krate before st (element.Block id)
  to_block_is before (way.at m) id = refl
  to_block_is before (way.lacks j) id = refl
  to_block_is before way.stale id = refl
  to_block_is before way.unset id = refl

  -- where it isn't set, it doesn't matter what is kept
  to_unset : (st x y : Standing) → to_block st false x ≡ to_block st false y
  to_unset (way.at m) x y = refl
  to_unset (way.lacks id) x y = refl
  to_unset way.stale x y = refl
  to_unset way.unset x y = refl

  -- a block that is looked up by the steps to it
  pub to_found : {A : Type 0} (place : A → BlockPlace) (before steps : List PlaceElement) (id : SyntaxId) (st : Standing) (o : Option A) → steps
      ≡ before ++ element.Block id ∷ []
      → option_map (λ (a : A). place_of_block (place a)) o ≡ option_map (λ (_ : SourceValue). steps_in krate steps) (block_in blocks (steps_in krate steps))
      → to_block st (is_some o) (root_kept tables kept (option_map place o)) ≡ step tables blocks kept krate before st (element.Block id)
  to_found {A} place before steps id st o is found = go o (block_in blocks (steps_in krate steps)) refl found ∙ to_block_is before st id
    where
      below : BlockPlace
      below = block_below krate before id

      root : steps_in krate steps ≡ place_of_block below
      root = λ i. record { krate = krate; elements = is i }

      go : (o : Option A) (b : Option SourceValue) → block_in blocks (steps_in krate steps) ≡ b → option_map (λ (a : A). place_of_block (place a)) o
          ≡ option_map (λ (_ : SourceValue). steps_in krate steps) b
          → to_block st (is_some o) (root_kept tables kept (option_map place o)) ≡ to_block st (is_set blocks below) (to_root (kept_block tables kept below))
      go None None e f =
          let off : is_set blocks below ≡ false = ap (λ (p : PlaceValue). is_some (block_in blocks p)) (sym root) ∙ ap (λ (b : Option SourceValue). is_some b) e
          in
          to_unset st way.unset (to_root (kept_block tables kept below)) ∙ ap (λ (t : Bool). to_block st t (to_root (kept_block tables kept below))) (sym off)
      go None (Some s) e f = no_value f
      go (Some a) None e f = no_value (sym f)
      go (Some a) (Some s) e f =
          let on : is_set blocks below ≡ true = ap (λ (p : PlaceValue). is_some (block_in blocks p)) (sym root) ∙ ap (λ (b : Option SourceValue). is_some b) e
          in
          let at_root : place_of_block (place a) ≡ steps_in krate steps = cc in
          let same : place a ≡ below = same_root (place a) below (at_root ∙ root) in
          (λ i. to_block st (sym on i) (to_root (kept_block tables kept (same i))))

  -- the same of a step that is a name, or a block
  pub to_name_at : (before : List PlaceElement) (st : Standing) (e : PlaceElement) (name : List ℕ) → e ≡ element.Module name → to_name kept st name
      ≡ step tables blocks kept krate before st e
  to_name_at before st e name is = to_name_is before st name ∙ ap (λ (x : PlaceElement). step tables blocks kept krate before st x) (sym is)

  pub to_found_at : {A : Type 0} (place : A → BlockPlace) (before steps : List PlaceElement) (e : PlaceElement) (id : SyntaxId) (st : Standing) (o : Option A)
      → e ≡ element.Block id
      → steps ≡ before ++ e ∷ []
      → option_map (λ (a : A). place_of_block (place a)) o ≡ option_map (λ (_ : SourceValue). steps_in krate steps) (block_in blocks (steps_in krate steps))
      → to_block st (is_some o) (root_kept tables kept (option_map place o)) ≡ step tables blocks kept krate before st e
  to_found_at place before steps e id st o is to found =
      to_found place before steps id st o (to ∙ ap (λ (x : PlaceElement). before ++ x ∷ []) is) found
      ∙ ap (λ (x : PlaceElement). step tables blocks kept krate before st x) (sym is)

  -- one more step
  pub one_further : (root : ModuleId) (xs ys : List PlaceElement) (e : PlaceElement) (st next : Standing) → st ≡ down tables blocks kept krate [] (way.at root)
      xs → ys ≡ xs ++ e ∷ []
      → next ≡ step tables blocks kept krate xs st e → next ≡ down tables blocks kept krate [] (way.at root) ys
  one_further root xs ys e st next so_far is leads =
      leads ∙ ap (λ (x : Standing). step tables blocks kept krate xs x e) so_far
      ∙ sym (ap (λ (zs : List PlaceElement). down tables blocks kept krate [] (way.at root) zs) is ∙ down-append tables blocks kept krate [] (way.at root) xs
      (e ∷ []))

  -- one more turn of the walk
  pub turn : (root : ModuleId) (steps : List PlaceElement) (i : ℕ) (e : PlaceElement) (st next : Standing) → i < length steps → e ≡ get_or steps i e
      → st ≡ down tables blocks kept krate [] (way.at root) (take i steps)
      → ((before : List PlaceElement) → take (i + 1) steps ≡ before ++ e ∷ [] → next ≡ step tables blocks kept krate before st e)
      → next ≡ down tables blocks kept krate [] (way.at root) (take (i + 1) steps)
  turn root steps i e st next within is so_far leads =
      let more : take (i + 1) steps ≡ take i steps ++ e ∷ [] = take_more steps i e within ∙ ap (λ (x : PlaceElement). take i steps ++ x ∷ []) (sym is) in
      one_further root (take i steps) (take (i + 1) steps) e st next so_far more (leads (take i steps) more)

-- the number that a block has, as the tables find it
pub number_found : (tables : TablesValue) (place : BlockPlace) (o : Option BlockId) → ((id : BlockId) → (o ≡ Some id) ↔ (block_at tables id ≡ Some place))
    → HasEachOnce tables
    → o ≡ block_number tables place
number_found tables place (Some id) exact once = sym (number_is tables once place id ((exact id).0 refl))
number_found tables place None exact once = go (block_number tables place) refl
  where
    go : (o : Option BlockId) → block_number tables place ≡ o → None ≡ block_number tables place
    go None e = sym e
    go (Some id) e = no_value ((exact id).1 (number_means tables place id e))

-- so what is kept of it is found by that number
pub root_found : (tables : TablesValue) (kept : Resolutions) (place : BlockPlace) (o : Option BlockId)
    → ((id : BlockId) → (o ≡ Some id) ↔ (block_at tables id ≡ Some place)) → HasEachOnce tables
    → (r : Option Resolution) → r ≡ option_and_then (λ (id : BlockId). kept_in kept (block_map place.holder.krate id)) o → to_root r
    ≡ to_root (kept_block tables kept place)
root_found tables kept place o exact once r is =
    ap to_root (is ∙ ap (λ (x : Option BlockId). option_and_then (λ (id : BlockId). kept_in kept (block_map place.holder.krate id)) x)
    (number_found tables place o exact once))
