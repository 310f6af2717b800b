-- Blocks that are stored by crate and steps: what is found of them, and what a change makes of them.
use Rattle.std.proofs.Common.{◌≡◌, Bool, true, false, ◌&&◌, ◌||◌, cond, not, filter, map, Bor, Ordering, Less, Equal, Greater, List, [], ◌∷◌, ◌++◌}
use Rattle.std.proofs.Common.{append_assoc, Option, Some, None, option_map, refl, sym, ap, subst, ◌∙◌}
use Rattle.std.specs.Prelude.{IfSome, is_some}
use Rattle.std.specs.BTreeMap.{insert_entry, is_at}
use Rattle.std.specs.Cmp.{tied_itself}
use Rattle.std.specs.Cmp.Lexicographic.{lists_ties, lists_total, pointwise, slice_cmp}
use Rattle.std.specs.List.{flat_map}
use Rattle.std.specs.List.Sorted.{IsStrictlySortedBy}
use Rattle.std.specs.Map.{keys_of, lookup, set_value, values_of}
use Rattle.std.specs.Ordering.{is_eq, match_ordering}
use Rattle.std.specs.declared.alloc.Global.{Global}
use Rattle.std.specs.declared.vec.Vec.{Vec}
use Rattle.std.proofs.lemmas.List.{same_from_push}
use Rattle.hir_session_state.specs.HirBase.Place.{PlaceValue}
use Rattle.hir_session_state.specs.HirIds.contracts.ids.CrateOrd.TheImpl as crate_order
use Rattle.hir_session_state.specs.HirIds.contracts.ids.CrateOrd.TheImpl.Laws.{total-law as crates_total}
use Rattle.hir_session_state.specs.HirBase.contracts.place.BlockPlaceOrd.TheImpl as block_order
use Rattle.hir_session_state.specs.HirBase.contracts.place.BlockPlaceOrd.TheImpl.Laws.{total-law as blocks_total, matches_eq-law as blocks_tie}
use Rattle.hir_session_state.specs.HirBase.contracts.place.BlockPlacePartialEq.TheImpl as block_eq
use Rattle.hir_session_state.specs.HirBase.contracts.place.PlaceElementOrd.TheImpl as element_order
use Rattle.hir_session_state.specs.HirBase.contracts.place.PlaceElementOrd.TheImpl.Laws.{total-law as elements_total, matches_eq-law as elements_tie}
use Rattle.hir_session_state.specs.HirBase.contracts.place.PlaceElementPartialEq.TheImpl as element_eq
use Rattle.hir_session_state.specs.HirBase.declared.place.BlockPlace.{BlockPlace}
use Rattle.hir_session_state.specs.HirIds.declared.ids.Crate.{Crate}
use Rattle.hir_session_state.specs.HirBase.declared.place.PlaceElement.{PlaceElement}
use Rattle.hir_session_state.specs.HirBase.declared.place.PlaceElement.TheVariants as element
use Rattle.hir_session_state.specs.HirItemTree.Source.{SourceValue}
use Rattle.hir_session_state.specs.Blocks.{Blocks, CrateBlocks, block_in, blocks_in, blocks_of, blocks_with, place_of_block, steps_cmp, steps_with, with_block}
use Rattle.hir_session_state.specs.Blocks.{without_block, without_in}
use Rattle.hir_session_state.proofs.Places.{exact_block}
use Rattle.hir_session_state.proofs.Truth.{clash, no_value, on_bool, one_value}
use Rattle.hir_session_sources.specs.BlockPlaces.{places_in, places_of}
use Rattle.hir_session_sources.specs.BlockTables.{AreInPlace, ArePlacedIn, SetBlockValue, SetBlocks, SetTables, by_steps, has_place, left_by, of_crate, or_none}
use Rattle.hir_session_sources.specs.BlockTables.{sources_by_crate, sources_of, steps_in, with_set, without_set, without_steps}
use Rattle.hir_session_sources.proofs.Changing.{equal_crate}
use Rattle.hir_session_sources.proofs.Lookups.{IsExact, at_same, insert_entry-there, lookup-insert_entry, lookup-keyed, lookup-valued, lookup-without}
use Rattle.hir_session_sources.proofs.Lookups.{renamed-insert_entry, keyed-without, valued-insert_entry, valued-without}

-- ---- steps, places and crates that are tied are the same

-- the block of an id at the end of some steps
abbrev at_end : List PlaceElement → BlockPlace
at_end steps = record { holder = record { krate = record { 0 = 0 }; elements = steps }; id = record { hash = 0; index = 0 } }

same_steps : (xs ys : List PlaceElement) → pointwise element_eq.ghosts.eq xs ys ≡ true → xs ≡ ys
same_steps xs ys e = ap (λ (b : BlockPlace). b.holder.elements) (exact_block (at_end xs) (at_end ys) (ap (λ (b : Bool). (true && b) && true) e))

pub exact_steps : IsExact steps_cmp
exact_steps = record {
  same = λ p q h. same_steps p q (lists_ties element_order.ghosts.cmp elements_tie p q ∙ h);
  own = λ p. ap is_eq (tied_itself (lists_total elements_total) p);
}

pub exact_blocks : IsExact block_order.ghosts.cmp
exact_blocks = record { same = λ p q h. exact_block p q (blocks_tie p q ∙ h); own = λ p. ap is_eq (tied_itself blocks_total p) }

pub exact_crates : IsExact crate_order.ghosts.cmp
exact_crates = record { same = equal_crate; own = λ p. ap is_eq (tied_itself crates_total p) }

-- a block is given by the place of its root
pub same_root : (a b : BlockPlace) → place_of_block a ≡ place_of_block b → a ≡ b
same_root a b e =
    let both = same_from_push a.holder.elements b.holder.elements (element.Block a.id) (element.Block b.id) (ap (λ (p : PlaceValue). p.elements) e) in
    let id : a.id ≡ b.id = (let same : element.Block a.id ≡ element.Block b.id = both.1 in cc) in
    λ i. record {
      holder = record { krate = ap (λ (p : PlaceValue). p.krate) e i; elements = both.0 i };
      id = id i;
    }

-- ---- what is stored

abbrev StepEntries : Type 0
StepEntries = List (Vec PlaceElement Global × SetBlockValue)

-- steps that are stored are compared as what they are
pub compared_as_steps : (a b : Vec PlaceElement Global) → slice_cmp element_order.ghosts.cmp a.items b.items ≡ steps_cmp a.items b.items
compared_as_steps a b = refl

pub set_by_steps : (es : StepEntries) (steps : Vec PlaceElement Global) (b : SetBlockValue)
    → by_steps (insert_entry (λ (x y : Vec PlaceElement Global). slice_cmp element_order.ghosts.cmp x.items y.items) es steps b)
    ≡ insert_entry steps_cmp (by_steps es) steps.items b
set_by_steps es steps b =
    renamed-insert_entry (λ (v : Vec PlaceElement Global). v.items) (λ (x y : Vec PlaceElement Global). slice_cmp element_order.ghosts.cmp x.items y.items)
    steps_cmp compared_as_steps es steps b

pub found_by_steps : (steps : List PlaceElement) (es : StepEntries) → lookup (λ (k : Vec PlaceElement Global). is_at (steps_cmp steps) k.items) es
    ≡ lookup (is_at (steps_cmp steps)) (by_steps es)
found_by_steps steps es = lookup-keyed (λ (v : Vec PlaceElement Global). v.items) (is_at (steps_cmp steps)) es

pub left_by_steps : (steps : List PlaceElement) (es : StepEntries)
    → by_steps (filter (λ (e : Vec PlaceElement Global × SetBlockValue). not (is_at (steps_cmp steps) e.0.items)) es) ≡ without_steps (by_steps es) steps
left_by_steps steps es = keyed-without (λ (v : Vec PlaceElement Global). v.items) (is_at (steps_cmp steps)) es

-- ---- their sources

abbrev source : SetBlockValue → SourceValue
source b = b.source

pub source_found : (steps : List PlaceElement) (own : SetBlocks) → lookup (is_at (steps_cmp steps)) (sources_of own)
    ≡ option_map (λ (b : SetBlockValue). b.source) (lookup (is_at (steps_cmp steps)) own)
source_found steps own = lookup-valued source (is_at (steps_cmp steps)) own

pub own_found : (krate : Crate) (tables : SetTables)
    → lookup (is_at (crate_order.ghosts.cmp krate)) (sources_by_crate tables) ≡ option_map sources_of (lookup (is_at (crate_order.ghosts.cmp krate)) tables)
own_found krate tables = lookup-valued sources_of (is_at (crate_order.ghosts.cmp krate)) tables

-- those of a crate that has a table, and of one that hasn't
pub in_own : (blocks : Blocks) (krate : Crate) (steps : List PlaceElement) (own : SetBlocks) → Some (sources_of own)
    ≡ lookup (is_at (crate_order.ghosts.cmp krate)) blocks
    → option_map (λ (b : SetBlockValue). b.source) (lookup (is_at (steps_cmp steps)) own) ≡ block_in blocks (steps_in krate steps)
in_own blocks krate steps own is =
    sym (source_found steps own) ∙ ap (λ (o : Option CrateBlocks). lookup (is_at (steps_cmp steps)) (blocks_of o)) is

pub in_none : (blocks : Blocks) (krate : Crate) (steps : List PlaceElement) → None ≡ lookup (is_at (crate_order.ghosts.cmp krate)) blocks → None
    ≡ block_in blocks (steps_in krate steps)
in_none blocks krate steps none = ap (λ (o : Option CrateBlocks). lookup (is_at (steps_cmp steps)) (blocks_of o)) none

own_blocks : (krate : Crate) (tables : SetTables) → sources_of (of_crate tables krate) ≡ blocks_in (sources_by_crate tables) krate
own_blocks krate tables = go (lookup (is_at (crate_order.ghosts.cmp krate)) tables) ∙ ap blocks_of (sym (own_found krate tables))
  where
    go : (o : Option SetBlocks) → sources_of (or_none o) ≡ blocks_of (option_map sources_of o)
    go None = refl
    go (Some own) = refl

-- a block that is set
pub sources-set : (tables : SetTables) (place : BlockPlace) (steps : List PlaceElement) (b : SetBlockValue) → steps ≡ (place_of_block place).elements
    → sources_by_crate (with_set tables place.holder.krate steps b) ≡ with_block (sources_by_crate tables) (place_of_block place) b.source
sources-set tables place steps b is =
    let krate : Crate = place.holder.krate in
    valued-insert_entry sources_of crate_order.ghosts.cmp tables krate (insert_entry steps_cmp (of_crate tables krate) steps b)
    ∙ ap (λ (own : CrateBlocks). insert_entry crate_order.ghosts.cmp (sources_by_crate tables) krate own)
    (valued-insert_entry source steps_cmp (of_crate tables krate) steps b
    ∙ (λ i. insert_entry steps_cmp (own_blocks krate tables i) (is i) b.source))

-- where the code has set it
pub sources-new : (old new : SetTables) (place : BlockPlace) (s : SourceValue) (krate : Crate) (steps : List PlaceElement) → krate ≡ place.holder.krate → steps
    ≡ (place_of_block place).elements
    → new ≡ with_set old krate steps (record { place = place; source = s }) → sources_by_crate new ≡ with_block (sources_by_crate old) (place_of_block place) s
sources-new old new place s krate steps of to is =
    let b : SetBlockValue = record { place = place; source = s } in
    ap (λ (tables : SetTables). sources_by_crate tables) (is ∙ ap (λ (k : Crate). with_set old k steps b) of) ∙ sources-set old place steps b to

-- one that is removed
pub sources-left : (tables : SetTables) (place : BlockPlace) (steps : List PlaceElement) → steps ≡ (place_of_block place).elements
    → sources_by_crate (without_set tables place.holder.krate steps) ≡ without_block (sources_by_crate tables) (place_of_block place)
sources-left tables place steps is =
    go (lookup (is_at (crate_order.ghosts.cmp place.holder.krate)) tables)
    ∙ ap (without_in (sources_by_crate tables) (place_of_block place)) (sym (own_found place.holder.krate tables))
  where
    go : (o : Option SetBlocks) → sources_by_crate (left_by tables place.holder.krate steps o) ≡ without_in (sources_by_crate tables) (place_of_block place)
        (option_map sources_of o)
    go None = refl
    go (Some own) =
        valued-insert_entry sources_of crate_order.ghosts.cmp tables place.holder.krate (without_steps own steps)
        ∙ ap (λ (left : CrateBlocks). insert_entry crate_order.ghosts.cmp (sources_by_crate tables) place.holder.krate left)
        (valued-without source (is_at (steps_cmp steps)) own ∙ ap (λ (xs : List PlaceElement). steps_with (sources_of own) xs None) is)

pub sources-gone : (old new : SetTables) (place : BlockPlace) (krate : Crate) (steps : List PlaceElement) → krate ≡ place.holder.krate → steps
    ≡ (place_of_block place).elements
    → new ≡ without_set old krate steps → sources_by_crate new ≡ without_block (sources_by_crate old) (place_of_block place)
sources-gone old new place krate steps of to is =
    ap (λ (tables : SetTables). sources_by_crate tables) (is ∙ ap (λ (k : Crate). without_set old k steps) of) ∙ sources-left old place steps to

-- ---- a table that is written over

-- where the crate has a table
pub set_there : (krate : Crate) (old new : SetTables) (own now : SetBlocks) (steps : List PlaceElement) (b : SetBlockValue)
    → IsStrictlySortedBy crate_order.ghosts.cmp (keys_of old)
    → Some own ≡ lookup (is_at (crate_order.ghosts.cmp krate)) old → new ≡ set_value (is_at (crate_order.ghosts.cmp krate)) old now → now
    ≡ insert_entry steps_cmp own steps b
    → new ≡ with_set old krate steps b
set_there krate old new own now steps b sorted there written is =
    written ∙ sym (insert_entry-there crate_order.ghosts.cmp crates_total old krate now own sorted (sym there))
    ∙ ap (λ (x : SetBlocks). insert_entry crate_order.ghosts.cmp old krate x) (is ∙ ap (λ (o : Option SetBlocks). insert_entry steps_cmp (or_none o) steps b)
    there)

-- and where it gets one
pub set_first : (krate : Crate) (old mid new : SetTables) (fresh now : SetBlocks) (steps : List PlaceElement) (b : SetBlockValue) → None
    ≡ lookup (is_at (crate_order.ghosts.cmp krate)) old
    → mid ≡ old → new ≡ insert_entry crate_order.ghosts.cmp mid krate now → now ≡ insert_entry steps_cmp fresh steps b → fresh ≡ [] → new
    ≡ with_set old krate steps b
set_first krate old mid new fresh now steps b none same written is empty =
    written
    ∙ (λ i. insert_entry crate_order.ghosts.cmp (same i) krate (is i))
    ∙ ap (λ (x : SetBlocks). insert_entry crate_order.ghosts.cmp old krate (insert_entry steps_cmp x steps b)) (empty ∙ ap or_none none)

-- where one of its blocks is removed
pub left_there : (krate : Crate) (old new : SetTables) (own now : SetBlocks) (steps : List PlaceElement) → IsStrictlySortedBy crate_order.ghosts.cmp
    (keys_of old)
    → Some own ≡ lookup (is_at (crate_order.ghosts.cmp krate)) old → new ≡ set_value (is_at (crate_order.ghosts.cmp krate)) old now → now
    ≡ without_steps own steps → new ≡ without_set old krate steps
left_there krate old new own now steps sorted there written is =
    written ∙ sym (insert_entry-there crate_order.ghosts.cmp crates_total old krate now own sorted (sym there))
    ∙ ap (λ (x : SetBlocks). insert_entry crate_order.ghosts.cmp old krate x) is
    ∙ ap (left_by old krate steps) there

-- ---- their places

placed-found : (krate : Crate) (steps : List PlaceElement) (own : SetBlocks) → ArePlacedIn krate own → (b : SetBlockValue) → lookup (is_at (steps_cmp steps))
    own ≡ Some b
    → place_of_block b.place ≡ steps_in krate steps
placed-found krate steps [] placed b is = no_value is
placed-found krate steps (e ∷ es) placed b is = on_bool (is_at (steps_cmp steps) e.0)
    (λ on.
    let same : e.1 ≡ b = one_value (sym (ap (λ (t : Bool). cond t (Some e.1) (lookup (is_at (steps_cmp steps)) es)) on) ∙ is) in
    ap (λ (x : SetBlockValue). place_of_block x.place) (sym same) ∙ placed.0 ∙ ap (steps_in krate) (sym (exact_steps.same steps e.0 on)))
    (λ off. placed-found krate steps es placed.1 b (sym (ap (λ (t : Bool). cond t (Some e.1) (lookup (is_at (steps_cmp steps)) es)) off) ∙ is))

pub placed_at : (krate : Crate) (steps : List PlaceElement) (own : SetBlocks) → ArePlacedIn krate own → IfSome (lookup (is_at (steps_cmp steps)) own)
    (λ (b : SetBlockValue). place_of_block b.place ≡ steps_in krate steps)
placed_at krate steps own placed = go (lookup (is_at (steps_cmp steps)) own) refl
  where
    go : (o : Option SetBlockValue) → lookup (is_at (steps_cmp steps)) own ≡ o → IfSome o (λ (b : SetBlockValue). place_of_block b.place ≡ steps_in krate steps)
    go None e = tt
    go (Some b) e = placed-found krate steps own placed b e

pub placed-own : (krate : Crate) (tables : SetTables) → AreInPlace tables → (own : SetBlocks) → lookup (is_at (crate_order.ghosts.cmp krate)) tables ≡ Some own
    → ArePlacedIn krate own
placed-own krate [] placed own is = no_value is
placed-own krate (e ∷ es) placed own is = on_bool (is_at (crate_order.ghosts.cmp krate) e.0)
    (λ on.
    let same : e.1 ≡ own = one_value (sym (ap (λ (t : Bool). cond t (Some e.1) (lookup (is_at (crate_order.ghosts.cmp krate)) es)) on) ∙ is) in
    subst (λ (k : Crate). ArePlacedIn k own) (sym (equal_crate krate e.0 on)) (subst (ArePlacedIn e.0) same placed.0))
    (λ off. placed-own krate es placed.1 own (sym (ap (λ (t : Bool). cond t (Some e.1) (lookup (is_at (crate_order.ghosts.cmp krate)) es)) off) ∙ is))

placed_of_crate : (krate : Crate) (tables : SetTables) → AreInPlace tables → ArePlacedIn krate (of_crate tables krate)
placed_of_crate krate tables placed = go (lookup (is_at (crate_order.ghosts.cmp krate)) tables) refl
  where
    go : (o : Option SetBlocks) → lookup (is_at (crate_order.ghosts.cmp krate)) tables ≡ o → ArePlacedIn krate (or_none o)
    go None e = tt
    go (Some own) e = placed-own krate tables placed own e

placed-insert : (krate : Crate) (own : SetBlocks) (steps : List PlaceElement) (b : SetBlockValue) → ArePlacedIn krate own → place_of_block b.place
    ≡ steps_in krate steps
    → ArePlacedIn krate (insert_entry steps_cmp own steps b)
placed-insert krate [] steps b placed here = (here, tt)
placed-insert krate (e ∷ es) steps b placed here = by (steps_cmp steps e.0) refl (placed-insert krate es steps b placed.1 here)
  where
    by : (r : Ordering) → steps_cmp steps e.0 ≡ r → ArePlacedIn krate (insert_entry steps_cmp es steps b)
        → ArePlacedIn krate (match_ordering r ((steps, b) ∷ e ∷ es) ((e.0, b) ∷ es) (e ∷ insert_entry steps_cmp es steps b))
    by Less p more = (here, placed)
    by Equal p more = (here ∙ ap (steps_in krate) (exact_steps.same steps e.0 (ap is_eq p)), placed.1)
    by Greater p more = (placed.0, more)

placed-without : (krate : Crate) (own : SetBlocks) (steps : List PlaceElement) → ArePlacedIn krate own → ArePlacedIn krate (without_steps own steps)
placed-without krate [] steps placed = tt
placed-without krate (e ∷ es) steps placed = on_bool (is_at (steps_cmp steps) e.0)
    (λ on. rw on (placed-without krate es steps placed.1))
    (λ off. rw off (placed.0, placed-without krate es steps placed.1))

in_place-insert : (tables : SetTables) (krate : Crate) (own : SetBlocks) → AreInPlace tables → ArePlacedIn krate own
    → AreInPlace (insert_entry crate_order.ghosts.cmp tables krate own)
in_place-insert [] krate own placed here = (here, tt)
in_place-insert (e ∷ es) krate own placed here = by (crate_order.ghosts.cmp krate e.0) refl (in_place-insert es krate own placed.1 here)
  where
    by : (r : Ordering) → crate_order.ghosts.cmp krate e.0 ≡ r → AreInPlace (insert_entry crate_order.ghosts.cmp es krate own)
        → AreInPlace (match_ordering r ((krate, own) ∷ e ∷ es) ((e.0, own) ∷ es) (e ∷ insert_entry crate_order.ghosts.cmp es krate own))
    by Less p more = (here, placed)
    by Equal p more = (subst (λ (k : Crate). ArePlacedIn k own) (equal_crate krate e.0 (ap is_eq p)) here, placed.1)
    by Greater p more = (placed.0, more)

pub in_place-set : (tables : SetTables) (krate : Crate) (steps : List PlaceElement) (b : SetBlockValue) → AreInPlace tables → place_of_block b.place
    ≡ steps_in krate steps
    → AreInPlace (with_set tables krate steps b)
in_place-set tables krate steps b placed here =
    in_place-insert tables krate (insert_entry steps_cmp (of_crate tables krate) steps b) placed
    (placed-insert krate (of_crate tables krate) steps b (placed_of_crate krate tables placed) here)

pub in_place-left : (tables : SetTables) (krate : Crate) (steps : List PlaceElement) → AreInPlace tables → AreInPlace (without_set tables krate steps)
in_place-left tables krate steps placed = go (lookup (is_at (crate_order.ghosts.cmp krate)) tables) refl
  where
    go : (o : Option SetBlocks) → lookup (is_at (crate_order.ghosts.cmp krate)) tables ≡ o → AreInPlace (left_by tables krate steps o)
    go None e = placed
    go (Some own) e = in_place-insert tables krate (without_steps own steps) placed (placed-without krate own steps (placed-own krate tables placed own e))

-- the same of what the code has set or removed
pub in_place-new : (old new : SetTables) (place : BlockPlace) (s : SourceValue) (krate : Crate) (steps : List PlaceElement) → AreInPlace old → krate
    ≡ place.holder.krate
    → steps ≡ (place_of_block place).elements → new ≡ with_set old krate steps (record { place = place; source = s }) → AreInPlace new
in_place-new old new place s krate steps placed of to is =
    let b : SetBlockValue = record { place = place; source = s } in
    subst (λ (tables : SetTables). AreInPlace tables) (sym is) (in_place-set old krate steps b placed (sym (λ i. steps_in (of i) (to i))))

pub in_place-gone : (old new : SetTables) (krate : Crate) (steps : List PlaceElement) → AreInPlace old → new ≡ without_set old krate steps → AreInPlace new
in_place-gone old new krate steps placed is = subst (λ (tables : SetTables). AreInPlace tables) (sym is) (in_place-left old krate steps placed)

-- ---- all places

-- those of a crate's blocks
pub places_by_steps : (es : StepEntries) → map (λ (b : SetBlockValue). b.place) (values_of es) ≡ map (λ (e : List PlaceElement × SetBlockValue). e.1.place)
    (by_steps es)
places_by_steps [] = refl
places_by_steps (e ∷ es) = ap (λ (ps : List BlockPlace). e.1.place ∷ ps) (places_by_steps es)

-- the roots of the blocks of a crate
abbrev pub roots_of : SetBlocks → List PlaceValue
roots_of own = map (λ e. place_of_block e.1.place) own

roots-placed : (krate : Crate) (own : SetBlocks) → ArePlacedIn krate own → roots_of own ≡ places_in krate (sources_of own)
roots-placed krate [] placed = refl
roots-placed krate (e ∷ es) placed = λ i. placed.0 i ∷ roots-placed krate es placed.1 i

pub all_roots : (tables : SetTables) → AreInPlace tables → flat_map roots_of (values_of tables) ≡ places_of (sources_by_crate tables)
all_roots [] placed = refl
all_roots (e ∷ es) placed = λ i. roots-placed e.0 e.1 placed.0 i ++ all_roots es placed.1 i

-- more places, by the roots of the blocks
pub more_roots : (ps : List BlockPlace) (own : SetBlocks) → map place_of_block (ps ++ map (λ (e : List PlaceElement × SetBlockValue). e.1.place) own)
    ≡ map place_of_block ps ++ roots_of own
more_roots [] [] = refl
more_roots [] (e ∷ es) = ap (λ (rs : List PlaceValue). place_of_block e.1.place ∷ rs) (more_roots [] es)
more_roots (p ∷ ps) own = ap (λ (rs : List PlaceValue). place_of_block p ∷ rs) (more_roots ps own)

-- the roots of places that are lent
abbrev pub roots_lent : List (Bor BlockPlace) → List PlaceValue
roots_lent ps = map (λ p. place_of_block p.now) ps

lent : (ps : List (Bor BlockPlace)) → roots_lent ps ≡ map place_of_block (map (λ (p : Bor BlockPlace). p.now) ps)
lent [] = refl
lent (p ∷ ps) = ap (λ (rs : List PlaceValue). place_of_block p.now ∷ rs) (lent ps)

-- one more crate's places
pub roots_turn : (ps qs : List (Bor BlockPlace)) (own : SetBlocks) (left rest : List SetBlocks) (all : List PlaceValue) → left ≡ own ∷ rest
    → map (λ (q : Bor BlockPlace). q.now) qs ≡ map (λ (p : Bor BlockPlace). p.now) ps ++ map (λ (e : List PlaceElement × SetBlockValue). e.1.place) own
    → roots_lent ps ++ flat_map roots_of left ≡ all → roots_lent qs ++ flat_map roots_of rest ≡ all
roots_turn ps qs own left rest all first more so_far =
    let longer : roots_lent qs ≡ roots_lent ps ++ roots_of own =
    lent qs ∙ ap (map place_of_block) more ∙ more_roots (map (λ (p : Bor BlockPlace). p.now) ps) own ∙ ap (λ (rs : List PlaceValue). rs ++ roots_of own)
    (sym (lent ps)) in
    ap (λ (rs : List PlaceValue). rs ++ flat_map roots_of rest) longer
    ∙ append_assoc (roots_lent ps) (roots_of own) (flat_map roots_of rest)
    ∙ ap (λ (ls : List SetBlocks). roots_lent ps ++ flat_map roots_of ls) (sym first)
    ∙ so_far

-- ---- whether a block is there

-- one place of some is looked at
pub has_first : (b : BlockPlace) (x : SetBlockValue) (left rest : List SetBlockValue) → left ≡ x ∷ rest → block_eq.ghosts.eq x.place b ≡ true
    → has_place (map (λ (e : SetBlockValue). e.place) left) b ≡ true
has_first b x left rest first on =
    ap (λ (bs : List SetBlockValue). has_place (map (λ (e : SetBlockValue). e.place) bs) b) first
    ∙ ap (λ (t : Bool). t || has_place (map (λ (e : SetBlockValue). e.place) rest) b) on

pub has_later : (b : BlockPlace) (x : SetBlockValue) (left rest : List SetBlockValue) → left ≡ x ∷ rest → block_eq.ghosts.eq x.place b ≡ false
    → has_place (map (λ (e : SetBlockValue). e.place) left) b ≡ has_place (map (λ (e : SetBlockValue). e.place) rest) b
has_later b x left rest first off =
    ap (λ (bs : List SetBlockValue). has_place (map (λ (e : SetBlockValue). e.place) bs) b) first
    ∙ ap (λ (t : Bool). t || has_place (map (λ (e : SetBlockValue). e.place) rest) b) off

-- a place is among those of a crate's blocks where its steps lead to one
pub placed_has : (krate : Crate) (own : SetBlocks) → ArePlacedIn krate own → (b : BlockPlace) → b.holder.krate ≡ krate
    → has_place (map (λ (e : List PlaceElement × SetBlockValue). e.1.place) own) b ≡ is_some (lookup (is_at (steps_cmp (place_of_block b).elements)) own)
placed_has krate [] placed b of = refl
placed_has krate (e ∷ es) placed b of = on_bool (block_eq.ghosts.eq e.1.place b)
    (λ on.
    let steps : (place_of_block b).elements ≡ e.0 = ap (λ (p : PlaceValue). p.elements) (ap place_of_block (sym (exact_block e.1.place b on)) ∙ placed.0) in
    let here : is_at (steps_cmp (place_of_block b).elements) e.0 ≡ true = at_same steps_cmp exact_steps (place_of_block b).elements e.0 steps in
    rw (on, here) refl)
    (λ off. rw off (placed_has krate es placed.1 b of ∙ on_bool (is_at (steps_cmp (place_of_block b).elements) e.0)
    (λ here.
    let steps : (place_of_block b).elements ≡ e.0 = exact_steps.same (place_of_block b).elements e.0 here in
    let root : place_of_block e.1.place ≡ place_of_block b = placed.0 ∙ sym (λ i. steps_in (of i) (steps i)) in
    clash (subst (λ (x : BlockPlace). block_eq.ghosts.eq x b ≡ true) (sym (same_root e.1.place b root)) (blocks_tie b b ∙ exact_blocks.own b)) off)
    (λ other. rw other refl)))

-- one that has a source
pub there_of : {A B : Type 0} (f : A → B) (o : Option A) → is_some o ≡ is_some (option_map f o)
there_of f None = refl
there_of f (Some x) = refl

-- ---- a block before an edit and after it

-- in a list of blocks by crate that is exact, those of another crate stay
blocks_in-with : (blocks : Blocks) (krate : Crate) (own : CrateBlocks) (c : Crate)
    → blocks_in (insert_entry crate_order.ghosts.cmp blocks krate own) c ≡ cond (is_at (crate_order.ghosts.cmp krate) c) own (blocks_in blocks c)
blocks_in-with blocks krate own c =
    ap blocks_of (lookup-insert_entry crate_order.ghosts.cmp exact_crates blocks krate own c)
    ∙ on_bool (is_at (crate_order.ghosts.cmp krate) c) (λ on. rw on refl) (λ off. rw off refl)

-- whether the place of a root is this one
abbrev pub is_root : PlaceValue → PlaceValue → Bool
is_root p q = cond (is_at (crate_order.ghosts.cmp p.krate) q.krate) (is_at (steps_cmp p.elements) q.elements) false

pub block_in-edited : (blocks : Blocks) (p : PlaceValue) (there : Option SourceValue) (q : PlaceValue) → block_in (blocks_with blocks p there) q
    ≡ cond (is_root p q) there (block_in blocks q)
block_in-edited blocks p (Some s) q =
    ap (lookup (is_at (steps_cmp q.elements))) (blocks_in-with blocks p.krate (steps_with (blocks_in blocks p.krate) p.elements (Some s)) q.krate)
    ∙ on_bool (is_at (crate_order.ghosts.cmp p.krate) q.krate)
    (λ on. rw on (
    lookup-insert_entry steps_cmp exact_steps (blocks_in blocks p.krate) p.elements s q.elements
    ∙ ap (λ (k : Crate). cond (is_at (steps_cmp p.elements) q.elements) (Some s) (lookup (is_at (steps_cmp q.elements)) (blocks_in blocks k)))
    (equal_crate p.krate q.krate on)))
    (λ off. rw off refl)
block_in-edited blocks p None q = go (lookup (is_at (crate_order.ghosts.cmp p.krate)) blocks) refl
  where
    go : (o : Option CrateBlocks) → lookup (is_at (crate_order.ghosts.cmp p.krate)) blocks ≡ o → block_in (without_in blocks p o) q
        ≡ cond (is_root p q) None (block_in blocks q)
    go None none = on_bool (is_at (crate_order.ghosts.cmp p.krate) q.krate)
        (λ on.
        let empty : block_in blocks q ≡ None =
        ap (λ (o : Option CrateBlocks). lookup (is_at (steps_cmp q.elements)) (blocks_of o))
        (ap (λ (k : Crate). lookup (is_at (crate_order.ghosts.cmp k)) blocks) (sym (equal_crate p.krate q.krate on)) ∙ none) in
        rw (on, empty) (on_bool (is_at (steps_cmp p.elements) q.elements) (λ here. rw here refl) (λ off. rw off refl)))
        (λ off. rw off refl)
    go (Some own) some =
        ap (lookup (is_at (steps_cmp q.elements))) (blocks_in-with blocks p.krate (steps_with own p.elements None) q.krate)
        ∙ on_bool (is_at (crate_order.ghosts.cmp p.krate) q.krate)
        (λ on. rw on (
        lookup-without steps_cmp exact_steps own p.elements q.elements
        ∙ ap (λ (bs : CrateBlocks). cond (is_at (steps_cmp p.elements) q.elements) None (lookup (is_at (steps_cmp q.elements)) bs))
        (sym (ap (λ (k : Crate). blocks_in blocks k) (sym (equal_crate p.krate q.krate on)) ∙ ap blocks_of some))))
        (λ off. rw off refl)

-- the roots of two blocks are one where the blocks are
pub root-block : (a b : BlockPlace) → is_root (place_of_block a) (place_of_block b) ≡ is_at (block_order.ghosts.cmp a) b
root-block a b = on_bool (is_at (block_order.ghosts.cmp a) b)
    (λ on.
    let same : a ≡ b = exact_blocks.same a b on in
    let here : is_root (place_of_block a) (place_of_block b) ≡ true = subst (λ (x : BlockPlace). is_root (place_of_block a) (place_of_block x) ≡ true) same
    (own (place_of_block a)) in
    here ∙ sym on)
    (λ off. on_bool (is_root (place_of_block a) (place_of_block b))
    (λ root. clash (at_same block_order.ghosts.cmp exact_blocks a b (same_root a b (one_root (place_of_block a) (place_of_block b) root))) off)
    (λ other. other ∙ sym off))
  where
    own : (p : PlaceValue) → is_root p p ≡ true
    own p = rw (exact_crates.own p.krate) (exact_steps.own p.elements)

    one_root : (p q : PlaceValue) → is_root p q ≡ true → p ≡ q
    one_root p q e = on_bool (is_at (crate_order.ghosts.cmp p.krate) q.krate)
        (λ on.
        let steps : is_at (steps_cmp p.elements) q.elements ≡ true = rw on at e in
        λ i. record { krate = equal_crate p.krate q.krate on i; elements = exact_steps.same p.elements q.elements steps i })
        (λ off. clash (rw off at e) refl)
