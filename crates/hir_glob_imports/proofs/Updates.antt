-- What an update that is to be made says of the edge and the slot.
use Rattle.std.proofs.Common.{◌≡◌, ◌∙◌, ap, sym, subst, refl, ℕ, Bool, true, false, not, ◌||◌, ◌==◌, Option, None, Some, if◌then◌else◌}
use mathlib.Core.Bool.{true≢false}
use Rattle.hir_scope.specs.HirPerNs.declared.visibility.Visibility.{Visibility}
use Rattle.hir_glob_imports.specs.Types.{Bound, Brought, Edge, Key, Update}
use Rattle.hir_glob_imports.specs.declared.edge.Update.TheVariants.{Nothing, Copy, Follow, Raise}
use Rattle.hir_glob_imports.specs.Keys.{is_unnamed}
use Rattle.hir_glob_imports.specs.Moves.{same_def, same_vis, seen_by, brought_vis, is_as_seen, may_raise, raise_to, raise_of, update_of_brought}
use Rattle.hir_glob_imports.specs.Moves.{update_of_bound, update_of}
use Rattle.hir_glob_imports.specs.View.{View}

-- what one sees is there
pub there_from_seen : (sees : Visibility → Bool) (o : Option Bound) (b : Bound) → seen_by sees o ≡ Some b → o ≡ Some b
there_from_seen sees None b e = absurd cc
there_from_seen sees (Some x) b e = go (sees x.vis) e
  where
    go : (t : Bool) → (if t then Some x else None) ≡ Some b → Some x ≡ Some b
    go true f = f
    go false f = absurd cc

-- ---- why something is raised

pub record IsRaise (v : View) (e : Edge) (b c : Bound) (vis : Visibility) : Type 0 where
  pub same : same_def c.def b.def ≡ true
  pub greater : v.greater c.vis (brought_vis v e b) ≡ Some vis
  pub differs : same_vis vis c.vis ≡ false

abbrev is_raise : Update → Bool
is_raise Nothing = true
is_raise (Copy b) = false
is_raise (Follow b) = false
is_raise (Raise vis) = true

module _ (v : View) (e : Edge) (b c : Bound) where
  pub raise_from : (vis : Visibility) → raise_of v e b c ≡ Raise vis → IsRaise v e b c vis
  raise_from vis is = on_def (same_def c.def b.def) refl is
    where
      on_vis : (wide : Visibility) → v.greater c.vis (brought_vis v e b) ≡ Some wide → same_def c.def b.def ≡ true
          → (t : Bool) → same_vis wide c.vis ≡ t → (if t then Nothing else Raise wide) ≡ Raise vis → IsRaise v e b c vis
      on_vis wide g d true s f = absurd cc
      on_vis wide g d false s f =
          let is_wide : wide ≡ vis = cc in
          record { same = d; greater = g ∙ ap Some is_wide; differs = subst (λ (x : Visibility). same_vis x c.vis ≡ false) is_wide s }

      on_greater : same_def c.def b.def ≡ true → (o : Option Visibility) → v.greater c.vis (brought_vis v e b) ≡ o → raise_to c.vis o ≡ Raise vis
          → IsRaise v e b c vis
      on_greater d None g f = absurd cc
      on_greater d (Some wide) g f = on_vis wide g d (same_vis wide c.vis) refl f

      on_def : (t : Bool) → same_def c.def b.def ≡ t → (if t then raise_to c.vis (v.greater c.vis (brought_vis v e b)) else Nothing) ≡ Raise vis
          → IsRaise v e b c vis
      on_def true d f = on_greater d (v.greater c.vis (brought_vis v e b)) refl f
      on_def false d f = absurd cc

  raise_or_nothing : is_raise (raise_of v e b c) ≡ true
  raise_or_nothing = on_def (same_def c.def b.def)
    where
      on_vis : (wide : Visibility) (t : Bool) → is_raise (if t then Nothing else Raise wide) ≡ true
      on_vis wide true = refl
      on_vis wide false = refl

      on_greater : (o : Option Visibility) → is_raise (raise_to c.vis o) ≡ true
      on_greater None = refl
      on_greater (Some wide) = on_vis wide (same_vis wide c.vis)

      on_def : (t : Bool) → is_raise (if t then raise_to c.vis (v.greater c.vis (brought_vis v e b)) else Nothing) ≡ true
      on_def true = on_greater (v.greater c.vis (brought_vis v e b))
      on_def false = refl

-- ---- why something is copied, followed or raised

pub record IsCopy (b : Bound) (shows stands : Option Bound) : Type 0 where
  pub shown : shows ≡ Some b
  pub vacant : stands ≡ None

pub record IsFollow (j : ℕ) (e : Edge) (key : Key) (b : Bound) (shows stands : Option Bound) (by : Option Brought) : Type 0 where
  pub bound : Bound
  pub last : Brought
  pub shown : shows ≡ Some b
  pub stands_there : stands ≡ Some bound
  pub named : is_unnamed key ≡ false
  pub brought : by ≡ Some last
  pub by_it : (last.edge == j) ≡ true
  pub differs : is_as_seen e b last ≡ false

pub record IsRaising (v : View) (j : ℕ) (e : Edge) (key : Key) (vis : Visibility) (shows stands : Option Bound) (by : Option Brought) : Type 0 where
  pub b : Bound
  pub c : Bound
  pub shown : shows ≡ Some b
  pub stands_there : stands ≡ Some c
  pub may : may_raise j key by ≡ true
  pub raise : IsRaise v e b c vis

module _ (v : View) (j : ℕ) (e : Edge) (key : Key) where
  -- where something stands, nothing is copied
  no_copy : (x c b : Bound) (by : Option Brought) → update_of_bound v j e key x c by ≡ Copy b → ⊥
  no_copy x c b by is = on_name (is_unnamed key) is
    where
      of_raise : raise_of v e x c ≡ Copy b → ⊥
      of_raise f = true≢false (sym (raise_or_nothing v e x c) ∙ ap is_raise f)

      on_seen : (t : Bool) → (if t then Nothing else Follow x) ≡ Copy b → ⊥
      on_seen true f = cc
      on_seen false f = cc

      on_edge : (last : Brought) (t : Bool) → (if t then (if is_as_seen e x last then Nothing else Follow x) else raise_of v e x c) ≡ Copy b → ⊥
      on_edge last true f = on_seen (is_as_seen e x last) f
      on_edge last false f = of_raise f

      on_brought : (o : Option Brought) → update_of_brought v j e x c o ≡ Copy b → ⊥
      on_brought None f = cc
      on_brought (Some last) f = on_edge last (last.edge == j) f

      on_name : (t : Bool) → (if t then raise_of v e x c else update_of_brought v j e x c by) ≡ Copy b → ⊥
      on_name true f = of_raise f
      on_name false f = on_brought by f

  pub copy_from : (b : Bound) (shows stands : Option Bound) (by : Option Brought) → update_of v j e key shows stands by ≡ Copy b → IsCopy b shows stands
  copy_from b None stands by is = absurd cc
  copy_from b (Some x) None by is = let same : x ≡ b = cc in record { shown = ap Some same; vacant = refl }
  copy_from b (Some x) (Some c) by is = absurd (no_copy x c b by is)

  pub follow_from : (b : Bound) (shows stands : Option Bound) (by : Option Brought) → update_of v j e key shows stands by ≡ Follow b
      → IsFollow j e key b shows stands by
  follow_from b None stands by is = absurd cc
  follow_from b (Some x) None by is = absurd cc
  follow_from b (Some x) (Some c) by is = on_name (is_unnamed key) refl is
    where
      of_raise : raise_of v e x c ≡ Follow b → ⊥
      of_raise f = true≢false (sym (raise_or_nothing v e x c) ∙ ap is_raise f)

      on_seen : (last : Brought) → is_unnamed key ≡ false → by ≡ Some last → (last.edge == j) ≡ true
          → (t : Bool) → is_as_seen e x last ≡ t → (if t then Nothing else Follow x) ≡ Follow b → IsFollow j e key b (Some x) (Some c) by
      on_seen last n y i true s f = absurd cc
      on_seen last n y i false s f =
          let same : x ≡ b = cc in
          record {
            bound = c;
            last = last;
            shown = ap Some same;
            stands_there = refl;
            named = n;
            brought = y;
            by_it = i;
            differs = subst (λ (z : Bound). is_as_seen e z last ≡ false) same s;
          }

      on_edge : (last : Brought) → is_unnamed key ≡ false → by ≡ Some last → (t : Bool) → (last.edge == j) ≡ t
          → (if t then (if is_as_seen e x last then Nothing else Follow x) else raise_of v e x c) ≡ Follow b → IsFollow j e key b (Some x) (Some c) by
      on_edge last n y true i f = on_seen last n y i (is_as_seen e x last) refl f
      on_edge last n y false i f = absurd (of_raise f)

      on_brought : is_unnamed key ≡ false → (o : Option Brought) → by ≡ o → update_of_brought v j e x c o ≡ Follow b → IsFollow j e key b (Some x) (Some c) by
      on_brought n None y f = absurd cc
      on_brought n (Some last) y f = on_edge last n y (last.edge == j) refl f

      on_name : (t : Bool) → is_unnamed key ≡ t → (if t then raise_of v e x c else update_of_brought v j e x c by) ≡ Follow b
          → IsFollow j e key b (Some x) (Some c) by
      on_name true n f = absurd (of_raise f)
      on_name false n f = on_brought n by refl f

  -- an edge may raise a trait without a name
  may_unnamed : (by : Option Brought) → is_unnamed key ≡ true → may_raise j key by ≡ true
  may_unnamed None n = n
  may_unnamed (Some last) n = ap (λ (t : Bool). t || not (last.edge == j)) n

  may_other : (last : Brought) → (last.edge == j) ≡ false → may_raise j key (Some last) ≡ true
  may_other last i = on (is_unnamed key)
    where
      on : (t : Bool) → (t || not (last.edge == j)) ≡ true
      on true = refl
      on false = ap not i

  pub raising_from : (vis : Visibility) (shows stands : Option Bound) (by : Option Brought) → update_of v j e key shows stands by ≡ Raise vis
      → IsRaising v j e key vis shows stands by
  raising_from vis None stands by is = absurd cc
  raising_from vis (Some x) None by is = absurd cc
  raising_from vis (Some x) (Some c) by is = on_name (is_unnamed key) refl is
    where
      made : may_raise j key by ≡ true → raise_of v e x c ≡ Raise vis → IsRaising v j e key vis (Some x) (Some c) by
      made m f = record { b = x; c = c; shown = refl; stands_there = refl; may = m; raise = raise_from v e x c vis f }

      on_seen : (t : Bool) → (if t then Nothing else Follow x) ≡ Raise vis → ⊥
      on_seen true f = cc
      on_seen false f = cc

      on_edge : (last : Brought) → by ≡ Some last → (t : Bool) → (last.edge == j) ≡ t
          → (if t then (if is_as_seen e x last then Nothing else Follow x) else raise_of v e x c) ≡ Raise vis → IsRaising v j e key vis (Some x) (Some c) by
      on_edge last y true i f = absurd (on_seen (is_as_seen e x last) f)
      on_edge last y false i f = made (subst (λ (o : Option Brought). may_raise j key o ≡ true) (sym y) (may_other last i)) f

      on_brought : (o : Option Brought) → by ≡ o → update_of_brought v j e x c o ≡ Raise vis → IsRaising v j e key vis (Some x) (Some c) by
      on_brought None y f = absurd cc
      on_brought (Some last) y f = on_edge last y (last.edge == j) refl f

      on_name : (t : Bool) → is_unnamed key ≡ t → (if t then raise_of v e x c else update_of_brought v j e x c by) ≡ Raise vis
          → IsRaising v j e key vis (Some x) (Some c) by
      on_name true n f = made (may_unnamed by n) f
      on_name false n f = on_brought by refl f
