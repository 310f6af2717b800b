-- What globs were taken for stays recorded.
use Rattle.std.proofs.Common.{◌≡◌, ◌≢◌, ◌⊎◌, inl, inr, ◌∙◌, ap, sym, subst, refl, ◌==◌, ◌&&◌, ℕ, zero, suc, ◌++◌, Bool, true, false, List, [], ◌∷◌, length}
use Rattle.std.proofs.Common.{Some}
use Rattle.std.specs.Prelude.{Contains, slice_get, slice_set}
use Rattle.std.specs.Cmp.{unsigned_Decides}
use Rattle.std.proofs.lemmas.List.Elements.{Contains-push_cases}
use mathlib.Core.Bool.{true≢false}
use Rattle.hir_glob_imports.specs.View.{View}
use Rattle.hir_glob_imports.specs.Waves.{Records, adds, edge_with_vis, same_own, stays, widens}
use Rattle.hir_glob_imports.specs.declared.edge.Edge.{Edge}
use Rattle.hir_glob_imports.specs.declared.edge.Target.{Target}
use Rattle.hir_glob_imports.specs.declared.edge.Target.TheVariants as targets
use Rattle.hir_import_rules.specs.declared.directive.ImportDirective.{ImportDirective}
use Rattle.hir_import_rules.specs.Directives.{TakenValue, taken_for}
use Rattle.hir_import_rules.specs.Rest.{IsRecorded, IsSource}
use Rattle.hir_import_rules.specs.State.{ImportState}

-- ---- lists with one value set

module _ {X : Type 0} where
  -- what is found once a value is set is that value at its place, or was there
  pub found_set : (xs : List X) (i : ℕ) (v : X) (k : ℕ) (w : X) → slice_get (slice_set xs i v) k ≡ Some w
      → ((k ≡ i) × (v ≡ w)) ⊎ (slice_get xs k ≡ Some w)
  found_set [] i v k w e = absurd cc
  found_set (x ∷ xs) zero v zero w e = inl (refl, cc)
  found_set (x ∷ xs) zero v (suc k) w e = inr e
  found_set (x ∷ xs) (suc i) v zero w e = inr e
  found_set (x ∷ xs) (suc i) v (suc k) w e = go (found_set xs i v k w e)
    where
      go : ((k ≡ i) × (v ≡ w)) ⊎ (slice_get xs k ≡ Some w) → ((suc k ≡ suc i) × (v ≡ w)) ⊎ (slice_get xs k ≡ Some w)
      go (inl p) = inl (ap suc p.0, p.1)
      go (inr p) = inr p

  pub set_here : (xs : List X) (i : ℕ) (v x : X) → slice_get xs i ≡ Some x → slice_get (slice_set xs i v) i ≡ Some v
  set_here [] i v x e = absurd cc
  set_here (y ∷ xs) zero v x e = refl
  set_here (y ∷ xs) (suc i) v x e = set_here xs i v x e

  pub set_elsewhere : (xs : List X) (i : ℕ) (v : X) (k : ℕ) → k ≢ i → slice_get (slice_set xs i v) k ≡ slice_get xs k
  set_elsewhere [] i v k ne = refl
  set_elsewhere (x ∷ xs) zero v zero ne = absurd (ne refl)
  set_elsewhere (x ∷ xs) zero v (suc k) ne = refl
  set_elsewhere (x ∷ xs) (suc i) v zero ne = refl
  set_elsewhere (x ∷ xs) (suc i) v (suc k) ne = set_elsewhere xs i v k (λ e. ne (ap suc e))

  pub found_appended : (xs ys : List X) (k : ℕ) (x : X) → slice_get xs k ≡ Some x → slice_get (xs ++ ys) k ≡ Some x
  found_appended [] ys k x e = absurd cc
  found_appended (y ∷ xs) ys zero x e = e
  found_appended (y ∷ xs) ys (suc k) x e = found_appended xs ys k x e

  pub found_last : (xs : List X) (x : X) → slice_get (xs ++ x ∷ []) (length xs) ≡ Some x
  found_last [] x = refl
  found_last (y ∷ xs) x = found_last xs x

-- ---- recorded edges

-- an edge among some that leads from a target to a module
pub record Leads (edges : List Edge) (target : Target) (importer : ℕ) : Type 0 where
  pub number : ℕ
  pub edge : Edge
  pub recorded : slice_get edges number ≡ Some edge
  pub source : edge.source ≡ target
  pub into : edge.importer ≡ importer

both_true : (a b : Bool) → (a && b) ≡ true → (a ≡ true) × (b ≡ true)
both_true true b e = (refl, e)
both_true false b e = absurd (true≢false (sym e))

exact_own : (a b : Target) → same_own a b ≡ true → a ≡ b
exact_own (targets.Own m) (targets.Own n) e = ap targets.Own ((unsigned_Decides m n).0 e)
exact_own (targets.Own m) (targets.Module id) e = absurd (true≢false (sym e))
exact_own (targets.Own m) (targets.Enum id) e = absurd (true≢false (sym e))
exact_own (targets.Module id) b e = absurd (true≢false (sym e))
exact_own (targets.Enum id) b e = absurd (true≢false (sym e))

-- what led from a target to a module still does
leads_on : (v : View) (old new : List Edge) (e : Edge) → Records v old new e → (target : Target) (importer : ℕ)
    → Leads old target importer → Leads new target importer
leads_on v old new e (widens j d wide at ends wider is) target importer l = go (l.number == j) refl
  where
    go : (b : Bool) → (l.number == j) ≡ b → Leads new target importer
    go true s =
        let same : l.number ≡ j = (unsigned_Decides l.number j).0 s in
        let here : slice_get old j ≡ Some l.edge = subst (λ (k : ℕ). slice_get old k ≡ Some l.edge) same l.recorded in
        let one : d ≡ l.edge = cc in
        record {
          number = j;
          edge = edge_with_vis d wide;
          recorded = ap (λ (es : List Edge). slice_get es j) is ∙ set_here old j (edge_with_vis d wide) d at;
          source = ap (λ (x : Edge). x.source) one ∙ l.source;
          into = ap (λ (x : Edge). x.importer) one ∙ l.into;
        }
    go false s = record {
      number = l.number;
      edge = l.edge;
      recorded = ap (λ (es : List Edge). slice_get es l.number) is
          ∙ set_elsewhere old j (edge_with_vis d wide) l.number (λ same. true≢false (sym ((unsigned_Decides l.number j).1 same) ∙ s)) ∙ l.recorded;
      source = l.source;
      into = l.into;
    }
leads_on v old new e (stays j d at ends wider is) target importer l =
    record { number = l.number; edge = l.edge; recorded = ap (λ (es : List Edge). slice_get es l.number) is ∙ l.recorded; source = l.source; into = l.into }
leads_on v old new e (adds apart is) target importer l =
    record {
      number = l.number;
      edge = l.edge;
      recorded = ap (λ (es : List Edge). slice_get es l.number) is ∙ found_appended old (e ∷ []) l.number l.edge l.recorded;
      source = l.source;
      into = l.into;
    }

-- what is recorded leads from its source to its importer
leads_now : (v : View) (old new : List Edge) (e : Edge) → Records v old new e → Leads new e.source e.importer
leads_now v old new e (widens j d wide at ends wider is) =
    let both = both_true (same_own d.source e.source) (d.importer == e.importer) ends in
    record {
      number = j;
      edge = edge_with_vis d wide;
      recorded = ap (λ (es : List Edge). slice_get es j) is ∙ set_here old j (edge_with_vis d wide) d at;
      source = exact_own d.source e.source both.0;
      into = (unsigned_Decides d.importer e.importer).0 both.1;
    }
leads_now v old new e (stays j d at ends wider is) =
    let both = both_true (same_own d.source e.source) (d.importer == e.importer) ends in
    record {
      number = j;
      edge = d;
      recorded = ap (λ (es : List Edge). slice_get es j) is ∙ at;
      source = exact_own d.source e.source both.0;
      into = (unsigned_Decides d.importer e.importer).0 both.1;
    }
leads_now v old new e (adds apart is) = record {
  number = length old;
  edge = e;
  recorded = ap (λ (es : List Edge). slice_get es (length old)) is ∙ found_last old e;
  source = refl;
  into = refl;
}

-- ---- what globs were taken for

source_of : (s : ImportState) (target : Target) (importer : ℕ) → Leads s.edges target importer → IsSource s target importer
source_of s target importer l = record { number = l.number; edge = l.edge; recorded = l.recorded; source = l.source; into = l.into }

leads_of : (s : ImportState) (target : Target) (importer : ℕ) → IsSource s target importer → Leads s.edges target importer
leads_of s target importer l = record { number = l.number; edge = l.edge; recorded = l.recorded; source = l.source; into = l.into }

-- an import is taken, and no glob is recorded
pub recorded_taken : (s s' : ImportState) (i : ℕ) (t t' : TakenValue) → slice_get s.taken i ≡ Some t → t'.targets ≡ t.targets
    → s'.imports ≡ s.imports → s'.edges ≡ s.edges → s'.taken ≡ slice_set s.taken i t' → ((k : ℕ) → IsRecorded s k) → (k : ℕ) → IsRecorded s' k
recorded_taken s s' i t t' before same imports edges taken old k = record { each = each }
  where
    each : (r : ImportDirective) (w : TakenValue) (target : Target) → slice_get s'.imports k ≡ Some r → slice_get s'.taken k ≡ Some w
        → Contains w.targets target → IsSource s' target r.home
    each r w target import there has = go (found_set s.taken i t' k w (sym (ap (λ (ts : List TakenValue). slice_get ts k) taken) ∙ there))
      where
        was : slice_get s.imports k ≡ Some r
        was = sym (ap (λ (rs : List ImportDirective). slice_get rs k) imports) ∙ import

        now : IsSource s target r.home → IsSource s' target r.home
        now l = source_of s' target r.home (subst (λ (es : List Edge). Leads es target r.home) (sym edges) (leads_of s target r.home l))

        go : ((k ≡ i) × (t' ≡ w)) ⊎ (slice_get s.taken k ≡ Some w) → IsSource s' target r.home
        go (inl p) = now ((old k).each r t target was (ap (slice_get s.taken) p.0 ∙ before)
            (subst (λ (ts : List Target). Contains ts target) (sym (ap (λ (x : TakenValue). x.targets) p.1) ∙ same) has))
        go (inr p) = now ((old k).each r w target was p has)

-- a glob is recorded, and taken for its source
pub recorded_linked : (v : View) (s s' : ImportState) (i : ℕ) (r : ImportDirective) (t : TakenValue) (e : Edge) → slice_get s.imports i ≡ Some r
    → slice_get s.taken i ≡ Some t
    → e.importer ≡ r.home → Records v s.edges s'.edges e → s'.imports ≡ s.imports → s'.taken ≡ slice_set s.taken i (taken_for t e.source)
    → ((k : ℕ) → IsRecorded s k) → (k : ℕ) → IsRecorded s' k
recorded_linked v s s' i r t e import before into records imports taken old k = record { each = each }
  where
    each : (q : ImportDirective) (w : TakenValue) (target : Target) → slice_get s'.imports k ≡ Some q → slice_get s'.taken k ≡ Some w
        → Contains w.targets target → IsSource s' target q.home
    each q w target found there has = go (found_set s.taken i (taken_for t e.source) k w (sym (ap (λ (ts : List TakenValue). slice_get ts k) taken) ∙ there))
      where
        was : slice_get s.imports k ≡ Some q
        was = sym (ap (λ (rs : List ImportDirective). slice_get rs k) imports) ∙ found

        now : IsSource s target q.home → IsSource s' target q.home
        now l = source_of s' target q.home (leads_on v s.edges s'.edges e records target q.home (leads_of s target q.home l))

        new : (k ≡ i) → Contains t.targets target ⊎ (e.source ≡ target) → IsSource s' target q.home
        new same (inl h) = now ((old k).each q t target was (ap (slice_get s.taken) same ∙ before) h)
        new same (inr h) =
            let one : slice_get s.imports k ≡ Some r = ap (slice_get s.imports) same ∙ import in
            let alike : r ≡ q = cc in
            source_of s' target q.home
            (subst (λ (x : Target). Leads s'.edges x q.home) h
            (subst (Leads s'.edges e.source) (into ∙ ap (λ (x : ImportDirective). x.home) alike) (leads_now v s.edges s'.edges e records)))

        go : ((k ≡ i) × (taken_for t e.source ≡ w)) ⊎ (slice_get s.taken k ≡ Some w) → IsSource s' target q.home
        go (inl p) = new p.0 (Contains-push_cases t.targets e.source target (subst (λ (x : TakenValue). Contains x.targets target) (sym p.1) has))
        go (inr p) = now ((old k).each q w target was p has)

-- nothing is taken
pub recorded_kept : (s s' : ImportState) → s'.imports ≡ s.imports → s'.edges ≡ s.edges → s'.taken ≡ s.taken → ((k : ℕ) → IsRecorded s k) → (k : ℕ)
    → IsRecorded s' k
recorded_kept s s' imports edges taken old k = record { each = each }
  where
    each : (r : ImportDirective) (w : TakenValue) (target : Target) → slice_get s'.imports k ≡ Some r → slice_get s'.taken k ≡ Some w
        → Contains w.targets target → IsSource s' target r.home
    each r w target import there has = source_of s' target r.home (subst (λ (es : List Edge). Leads es target r.home) (sym edges) (leads_of s target r.home
        ((old k).each r w target (sym (ap (λ (rs : List ImportDirective). slice_get rs k) imports) ∙ import)
        (sym (ap (λ (ts : List TakenValue). slice_get ts k) taken) ∙ there) has)))
