-- What was found so far and what is left come to what all items come to.
use Rattle.std.proofs.Common.{◌≡◌, ◌∙◌, ℕ, suc, ◌+◌, ◌≤◌, List, [], ◌∷◌, ◌++◌, map, reverse, sym, ap, subst, append_assoc, arith}
use Rattle.std.specs.Prelude.{IsSome}
use Rattle.std.proofs.lemmas.List.{append-nil, map-append, reverse-append, reverse-reverse}
use Rattle.hir_collector_rules.specs.HirIds.declared.ids.AssocItemId.{AssocItemId}
use Rattle.hir_collector_rules.specs.HirIds.declared.ast_id.AstId.{AstId}
use Rattle.hir_collector_rules.specs.HirIds.declared.ast_id.MacroCallId.{MacroCallId}
use Rattle.hir_collector_rules.specs.HirTables.Tables.{KeepsTables, TablesValue, source_of}
use Rattle.hir_collector_rules.proofs.HirTables.Growth.{KeepsTables-refl, KeepsTables-trans}
use Rattle.hir_collector_rules.specs.HirDefMapRules.Diagnostics.{DiagnosticValue}
use Rattle.hir_collector_rules.specs.Keys.{environment}
use Rattle.hir_collector_rules.specs.Workspace.{Workspace}
use Rattle.hir_collector_rules.specs.declared.start.TheConstants.{STEP_LIMIT}
use Rattle.hir_assoc_items.specs.AssocItems.{ComesUp, ContainerValue, FlattensTo, IsTooMany, ListingValue, ReachesUnknown, first, followed_by, later, next}
use Rattle.hir_assoc_items.specs.AssocItems.{none, nothing, numbered_out, overlong}
use Rattle.hir_assoc_items.specs.Steps.{AreMeant, IsGivenUp, IsOnItsWay, LeadsToUnknown, Takes, left_of}
use Rattle.hir_assoc_items.specs.Written.{WrittenValue, written_view}
use Rattle.hir_assoc_items.specs.declared.written.Written.{Written}
use Rattle.hir_assoc_items.proofs.Growth.{there_still}
use Rattle.hir_assoc_items.proofs.Taking.{meant_both}

-- ---- listings

pub followed_nothing : (a : ListingValue) → followed_by a nothing ≡ a
followed_nothing a =
    ap (λ (xs : List (List ℕ × AssocItemId)). record { items = xs; calls = a.calls ++ []; diagnostics = a.diagnostics ++ [] }) (append-nil a.items)
    ∙ ap (λ (xs : List (AstId × MacroCallId)). record { items = a.items; calls = xs; diagnostics = a.diagnostics ++ [] }) (append-nil a.calls)
    ∙ ap (λ (xs : List DiagnosticValue). record { items = a.items; calls = a.calls; diagnostics = xs }) (append-nil a.diagnostics)

followed_assoc : (a b c : ListingValue) → followed_by (followed_by a b) c ≡ followed_by a (followed_by b c)
followed_assoc a b c =
    ap (λ (xs : List (List ℕ × AssocItemId)). record {
      items = xs;
      calls = (a.calls ++ b.calls) ++ c.calls;
      diagnostics = (a.diagnostics ++ b.diagnostics) ++
          c.diagnostics;
    })
    (append_assoc a.items b.items c.items)
    ∙ ap (λ (xs : List (AstId × MacroCallId)). record {
      items = a.items ++ (b.items ++ c.items);
      calls = xs;
      diagnostics = (a.diagnostics ++ b.diagnostics) ++
          c.diagnostics;
    })
    (append_assoc a.calls b.calls c.calls)
    ∙ ap (λ (xs : List DiagnosticValue). record { items = a.items ++ (b.items ++ c.items); calls = a.calls ++ (b.calls ++ c.calls); diagnostics = xs })
    (append_assoc a.diagnostics b.diagnostics c.diagnostics)

-- ---- what is left

-- the last is the next
pub left_popped : (items rest : List Written) (i : Written) → items ≡ rest ++ i ∷ [] → left_of items ≡ written_view i ∷ left_of rest
left_popped items rest i e = ap left_of e ∙ ap (λ (is : List Written). map written_view is) (reverse-append rest (i ∷ []))

-- what is put behind in the other order comes first
pub left_pushed : (items inside : List Written) → left_of (items ++ reverse inside) ≡ map written_view inside ++ left_of items
left_pushed items inside =
    ap (λ (is : List Written). map written_view is) (reverse-append items (reverse inside))
    ∙ ap (λ (is : List Written). map written_view (is ++ reverse items)) (reverse-reverse inside)
    ∙ map-append written_view inside (reverse items)

pub left_reversed : (items : List Written) → left_of (reverse items) ≡ map written_view items
left_reversed items = ap (λ (is : List Written). map written_view is) (reverse-reverse items)

meant_still : (tables grown : TablesValue) → KeepsTables tables grown → (items : List WrittenValue) → AreMeant tables items → AreMeant grown items
meant_still tables grown kept [] all = tt
meant_still tables grown kept (i ∷ is) all = (there_still tables grown kept i.tree all.0, meant_still tables grown kept is all.1)

-- ---- the walk

module _ (w : Workspace) (c : ContainerValue) (all : List WrittenValue) where
  pub begins : (tables : TablesValue) (left : List WrittenValue) (found : ListingValue) → left ≡ all → found ≡ nothing → AreMeant tables all
      → IsOnItsWay tables w c all left found 0
  begins tables left found same empty meant = record {
    flattens = λ grown k behind h.
        subst (λ (f : ListingValue). FlattensTo (environment grown w) c all (followed_by f behind)) (sym empty)
        (subst (λ (is : List WrittenValue). FlattensTo (environment grown w) c is behind) same h);
    comes = λ grown k n i h.
        subst (λ (m : ℕ). ComesUp (environment grown w) c all m i) (let e : n ≡ 0 + n = omega arith in e)
        (subst (λ (is : List WrittenValue). ComesUp (environment grown w) c is n i) same h);
    meant = subst (λ (is : List WrittenValue). AreMeant tables is) (sym same) meant;
  }

  module _ (tables : TablesValue) (left : List WrittenValue) (found : ListingValue) (count : ℕ) (so_far : IsOnItsWay tables w c all left found count) where
    pub ends : left ≡ [] → FlattensTo (environment tables w) c all found
    ends over =
        subst (λ (f : ListingValue). FlattensTo (environment tables w) c all f) (followed_nothing found)
        (so_far.flattens tables (KeepsTables-refl tables) nothing (subst (λ (is : List WrittenValue). FlattensTo (environment tables w) c is nothing) (sym over)
        none))

    module _ (i : WrittenValue) (rest : List WrittenValue) (here : left ≡ i ∷ rest) where
      pub first_meant : IsSome (source_of tables i.tree)
      first_meant = (subst (λ (is : List WrittenValue). AreMeant tables is) here so_far.meant).0

      module _ (new : TablesValue) (kept : KeepsTables tables new) where
        comes_up : ComesUp (environment new w) c all count i
        comes_up =
            subst (λ (m : ℕ). ComesUp (environment new w) c all m i) (let e : count + 0 ≡ count = omega arith in e)
            (so_far.comes new kept 0 i (subst (λ (is : List WrittenValue). ComesUp (environment new w) c is 0 i) (sym here) (first i rest)))

        pub too_long : count ≤ STEP_LIMIT → STEP_LIMIT ≤ count → IsTooMany (environment new w) c all
        too_long most least = overlong i (subst (λ (m : ℕ). ComesUp (environment new w) c all m i) (let e : count ≡ STEP_LIMIT = omega arith in e) comes_up)

        pub given_up : IsGivenUp (environment new w) c i → IsTooMany (environment new w) c all
        given_up why = numbered_out i why.makro (record { before = count; comes = comes_up; path = why.path; reaches = why.reaches }) why.out

        pub unknown_source : LeadsToUnknown (environment new w) c i → ReachesUnknown (environment new w) c all
        unknown_source why =
            record {
              item = i;
              makro = why.makro;
              meets = record { before = count; comes = comes_up; path = why.path; reaches = why.reaches };
              unknown = why.unknown;
            }

        pub goes_on : (after : List WrittenValue) (found' : ListingValue) → Takes new w c i rest after found found' → IsOnItsWay new w c all after found'
            (count + 1)
        goes_on after found' taken = record {
          flattens = λ grown k behind h.
              let env = environment grown w in
              let inside : FlattensTo env c (taken.inside ++ rest) behind = subst (λ (is : List WrittenValue). FlattensTo env c is behind) taken.left h in
              let from_here : FlattensTo env c left (followed_by taken.ahead behind) =
              subst (λ (is : List WrittenValue). FlattensTo env c is (followed_by taken.ahead behind)) (sym here)
              (next i rest taken.ahead taken.inside behind (taken.becomes grown k) inside) in
              subst (λ (f : ListingValue). FlattensTo env c all f)
              (sym (followed_assoc found taken.ahead behind) ∙ ap (λ (f : ListingValue). followed_by f behind) (sym taken.found))
              (so_far.flattens grown (KeepsTables-trans tables new grown kept k) (followed_by taken.ahead behind) from_here);
          comes = λ grown k n j h.
              let env = environment grown w in
              let inside : ComesUp env c (taken.inside ++ rest) n j = subst (λ (is : List WrittenValue). ComesUp env c is n j) taken.left h in
              let from_here : ComesUp env c left (suc n) j =
              subst (λ (is : List WrittenValue). ComesUp env c is (suc n) j) (sym here) (later i rest taken.ahead taken.inside n j (taken.becomes grown k)
              inside) in
              subst (λ (m : ℕ). ComesUp env c all m j) (let e : count + suc n ≡ (count + 1) + n = omega arith in e)
              (so_far.comes grown (KeepsTables-trans tables new grown kept k) (suc n) j from_here);
          meant =
              subst (λ (is : List WrittenValue). AreMeant new is) (sym taken.left)
              (meant_both new taken.inside rest taken.meant
              (meant_still tables new kept rest (subst (λ (is : List WrittenValue). AreMeant tables is) here so_far.meant).1));
        }
