-- Which imports are settled as the state changes?
use Rattle.std.proofs.Common.{◌≡◌, ◌≢◌, ◌∙◌, ap, sym, refl, subst, ℕ, ◌<◌, Bool, true, false, not, ◌&&◌, ◌||◌, Option, None, Some, List, [], ◌∷◌, ◌++◌, length}
use Rattle.std.proofs.Common.{cond, get_or, arith}
use Rattle.std.specs.Prelude.{Contains, slice_get, slice_set}
use Rattle.std.specs.Option.{option_and_then}
use Rattle.std.proofs.lemmas.List.Elements.{All-contains_itself, Contains-append_right}
use Rattle.std.specs.List.{All}
use Rattle.hir_nameres.specs.HirIds.declared.ids.Crate.{Crate}
use Rattle.hir_nameres.specs.HirIds.declared.ids.ExternCrateId.{ExternCrateId}
use Rattle.hir_nameres.specs.HirPerNs.declared.imports.GlobId.{GlobId}
use Rattle.hir_nameres.specs.HirPerNs.declared.per_ns.PerNs.{PerNs}
use Rattle.hir_use_tree.specs.declared.imports.ImportKind.TheVariants as kinds
use Rattle.hir_def_map_rules.specs.Overlay.{Maps, overlay}
use Rattle.hir_def_map_rules.specs.Reaches.{by_import}
use Rattle.hir_def_map_rules.specs.Scoping.{Resolution, resolution_of}
use Rattle.hir_nameres.specs.Scoping.Slots.{reads}
use Rattle.hir_def_map_rules.specs.State.{IsInOrder, numbered}
use Rattle.hir_nameres.specs.declared.nameres.path_resolution.slots.Slot.{Slot as PathSlot}
use Rattle.hir_def_map_laws.proofs.EnumsGrow.{unstopped_reads}
use Rattle.hir_def_map_laws.proofs.SlotLists.{unread_scopes}
use Rattle.hir_def_map_laws.specs.ReadLaw.{AgreeAt, IsReadAlike, stops_bare}
use Rattle.hir_def_map_laws.specs.SlotChanges.{ScopesChangeAmong}
use Rattle.hir_glob_imports.specs.declared.edge.Target.{Target}
use Rattle.hir_import_resolution.specs.Types.{Taking}
use Rattle.hir_import_rules.specs.declared.directive.ImportDirective.{ImportDirective}
use Rattle.hir_import_rules.specs.declared.directive.ImportSource.{ImportSource}
use Rattle.hir_import_rules.specs.declared.namespaces.Namespaces.{Namespaces}
use Rattle.hir_import_rules.specs.declared.directive.ImportSource.TheVariants as sources
use Rattle.hir_import_rules.specs.Directives.{AreAmong, TakenValue, answer_by_source, answer_in, answer_to, both_of, glob_of, goes_beyond, namespaces_of}
use Rattle.hir_import_rules.specs.Directives.{path_answer, reached_by, taken_after, taken_for, target_among, target_of}
use Rattle.hir_import_resolution.specs.Inner.Queue.{IsFirmBy, path_reads}
use Rattle.hir_import_resolution.specs.Inner.State.{IsApart}
use Rattle.hir_import_resolution.specs.Inner.Steps.{IsLinkedAt, taking_at, taking_for, taking_of}
use Rattle.hir_import_rules.specs.Lasting.{IsThere}
use Rattle.hir_import_rules.specs.Rest.{IsSettled}
use Rattle.hir_import_resolution.specs.Rounds.{Grew}
use Rattle.hir_import_rules.specs.State.{ImportState, with_taken}
use Rattle.hir_import_resolution.proofs.Due.{Due}
use Rattle.hir_import_growth.proofs.Firm.{all_there_still, as_many, more_variants, same_variants, still_unstopped}
use Rattle.hir_import_resolution.proofs.Recorded.{set_elsewhere, set_here}

-- ---- what an import reaches at two times

-- an import reaches the same in both states
pub record IsAlike (finished : Maps) (s t : ImportState) (r : ImportDirective) : Type 0 where
  pub reached : reached_by finished t.local t.map r ≡ reached_by finished s.local s.map r
  pub target : (by : GlobId) → glob_of r.source ≡ Some by → target_of finished t.local t.map r ≡ target_of finished s.local s.map r

-- what is settled stays so as long as it reaches the same
pub stays_settled : (finished : Maps) (s t : ImportState) (p : ℕ) → slice_get t.imports p ≡ slice_get s.imports p → slice_get t.taken p ≡ slice_get s.taken p
    → ((r : ImportDirective) → slice_get s.imports p ≡ Some r → IsAlike finished s t r) → IsSettled finished s p → IsSettled finished t p
stays_settled finished s t p same taken alike old = record {
  among = λ r x e f.
      subst (λ (items : PerNs). AreAmong (namespaces_of items) x.namespaces) (sym (alike r (before r e)).reached) (old.among r x (before r e) (sym taken ∙ f));
  linked = λ r x by target e f g h. old.linked r x by target (before r e) (sym taken ∙ f) g (sym ((alike r (before r e)).target by g) ∙ h);
}
  where
    before : (r : ImportDirective) → slice_get t.imports p ≡ Some r → slice_get s.imports p ≡ Some r
    before r e = sym same ∙ e

-- an import reaches the same, and reads the same slots
pub record IsUnchanged (finished : Maps) (s t : ImportState) (r : ImportDirective) (source : ImportSource) : Type 0 where
  pub alike : IsAlike finished s t r
  pub slots : path_reads finished t r source ≡ path_reads finished s r source
  -- and where its path's meaning stayed as modules and enums came, it does so still
  pub firm : IsFirmBy finished s r source → IsFirmBy finished t r source

-- an `extern crate` reads nothing
extern_alike : (finished : Maps) (s t : ImportState) (r : ImportDirective) (id : ExternCrateId) (krate : Option Crate) → r.source ≡ sources.ExternCrate id krate
    → IsAlike finished s t r
extern_alike finished s t r id krate e = record {
  reached =
      ap (λ (x : ImportSource). (answer_by_source x (path_answer finished t.local t.map r)).resolved_def) e
      ∙ sym (ap (λ (x : ImportSource). (answer_by_source x (path_answer finished s.local s.map r)).resolved_def) e);
  target = λ by g. absurd (let none : None ≡ Some by = sym (ap glob_of e) ∙ g in cc);
}

-- where it reads none of the slots that change, it does
pub unchanged : (finished : Maps) (s t : ImportState) (slots : List PathSlot) (r : ImportDirective) (source : ImportSource) → r.source ≡ source
    → IsApart finished s.map.id s.local
    → ScopesChangeAmong s.map t.map s.local slots → t.local ≡ s.local
    → ((slot : PathSlot) → Contains slots slot → ¬ Contains (path_reads finished s r source) slot)
    → IsUnchanged finished s t r source
unfolding answer_in
unchanged finished s t slots r (sources.Use id kind) e apart changes local unread = record {
  alike = record {
    reached = ap (λ (a : Resolution). (answer_by_source r.source a).resolved_def) same;
    target = λ by g i. target_among (changes.differs.id i) (same i).resolved_def.types;
  };
  slots = same_slots;
  firm = λ old. record {
    unstopped =
        ap (stops_bare t.map) same ∙ still_unstopped s.map t.map (same_variants s.map t.map changes.differs) (path_answer finished s.local s.map r)
        old.unstopped;
    there =
        subst (λ (n : ℕ). All (IsThere n) (path_reads finished t r (sources.Use id kind))) (sym (as_many s.map t.map changes.differs))
        (subst (All (IsThere (length s.map.modules))) (sym same_slots) old.there);
  };
}
  where
    read : IsReadAlike finished s.map (by_import s.local) t.map s.local (numbered s.map.id r.home) r.path
    read = unread_scopes finished s.map t.map (by_import s.local) slots r.home r.path apart.apart apart.outside changes unread

    same : path_answer finished t.local t.map r ≡ path_answer finished s.local s.map r
    same = (λ i. resolution_of (overlay finished t.map) (by_import (local i)) (numbered (changes.differs.id i) r.home) r.path) ∙ read.answers

    same_slots : path_reads finished t r (sources.Use id kind) ≡ path_reads finished s r (sources.Use id kind)
    same_slots = (λ i. reads finished (by_import (local i)) t.map (numbered (changes.differs.id i) r.home) r.path) ∙ read.slots
unchanged finished s t slots r (sources.ExternCrate id krate) e apart changes local unread =
    record { alike = extern_alike finished s t r id krate e; slots = refl; firm = λ old. tt }

-- the same while the map of a crate grows, where its path's meaning stays as modules and enums come
pub unchanged_grown : (finished : Maps) (s t : ImportState) (slots : List PathSlot) (r : ImportDirective) (source : ImportSource) → r.source ≡ source
    → IsApart finished s.map.id s.local
    → s.map.id.block ≡ None → IsInOrder s.map → r.home < length s.map.modules → Grew s t slots → IsFirmBy finished s r source
    → ((slot : PathSlot) → Contains slots slot → ¬ Contains (path_reads finished s r source) slot) → IsUnchanged finished s t r source
unfolding answer_in
unchanged_grown finished s t slots r (sources.Use id kind) e apart of_crate in_order there grew firm unread = record {
  alike = record {
    reached = ap (λ (a : Resolution). (answer_by_source r.source a).resolved_def) same;
    target = λ by g i. target_among (grew.grows.id i) (same i).resolved_def.types;
  };
  slots = same_slots;
  firm = λ old. record {
    unstopped =
        ap (stops_bare t.map) same ∙ still_unstopped s.map t.map (more_variants s.map t.map grew.grows) (path_answer finished s.local s.map r) old.unstopped;
    there =
        all_there_still (length s.map.modules) (length t.map.modules) grew.modules (path_reads finished t r (sources.Use id kind))
        (subst (All (IsThere (length s.map.modules))) (sym same_slots) old.there);
  };
}
  where
    agree : All (AgreeAt s.map s.local t.map t.local) (path_reads finished s r (sources.Use id kind))
    agree = λ n d l.
        let slot : PathSlot = get_or (path_reads finished s r (sources.Use id kind)) n d in
        grew.others slot (λ among. unread slot among (All-contains_itself (path_reads finished s r (sources.Use id kind)) n d l)) (firm.there n d l)

    read : IsReadAlike finished s.map (by_import s.local) t.map t.local (numbered s.map.id r.home) r.path
    read =
        unstopped_reads finished s.map t.map (by_import s.local) t.local r.home r.path apart.apart of_crate in_order there grew.grows grew.modules
        firm.unstopped agree

    same : path_answer finished t.local t.map r ≡ path_answer finished s.local s.map r
    same = (λ i. resolution_of (overlay finished t.map) (by_import t.local) (numbered (grew.grows.id i) r.home) r.path) ∙ read.answers

    same_slots : path_reads finished t r (sources.Use id kind) ≡ path_reads finished s r (sources.Use id kind)
    same_slots = (λ i. reads finished (by_import t.local) t.map (numbered (grew.grows.id i) r.home) r.path) ∙ read.slots
unchanged_grown finished s t slots r (sources.ExternCrate id krate) e apart of_crate in_order there grew firm unread =
    record { alike = extern_alike finished s t r id krate e; slots = refl; firm = λ old. tt }

-- ---- takings

pub only_one : {X : Type 0} (o : Option X) (x y : X) → o ≡ Some x → o ≡ Some y → x ≡ y
only_one o x y e f = cc

or_right : (a b : Bool) → b ≡ true → (a || b) ≡ true
or_right true b e = refl
or_right false b e = e

both_among : (a b : Namespaces) → AreAmong b (both_of a b)
both_among a b = record { types = λ h. or_right a.types b.types h; values = λ h. or_right a.values b.values h; macros = λ h. or_right a.macros b.macros h }

-- a glob binds nothing
glob_gains_nothing : (source : ImportSource) (by : GlobId) (a : Resolution) (all : Namespaces) → glob_of source ≡ Some by
    → goes_beyond (namespaces_of (answer_by_source source a).resolved_def) all ≡ false
glob_gains_nothing (sources.Use id kinds.Plain) by a all e = absurd cc
glob_gains_nothing (sources.Use id kinds.TypeOnly) by a all e = absurd cc
glob_gains_nothing (sources.Use id kinds.Glob) by a all e = refl
glob_gains_nothing (sources.ExternCrate id krate) by a all e = absurd cc

-- once what an import reached is noted, it's settled
pub taken_settled : (finished : Maps) (s : ImportState) (i : ℕ) (taking : Taking) (d : Due finished s i taking)
    → IsSettled finished (with_taken s i (taken_after d.t (answer_to finished s.local s.map d.r))) i
taken_settled finished s i taking d = record {
  among = λ r x e f.
      let import : d.r ≡ r = only_one (slice_get s.imports i) d.r r d.import e in
      let noted : now ≡ x = only_one (slice_get (slice_set s.taken i now) i) now x (set_here s.taken i now d.t d.before) f in
      subst (λ (y : TakenValue). AreAmong (namespaces_of (reached_by finished s.local s.map r)) y.namespaces) noted
      (subst (λ (q : ImportDirective). AreAmong (namespaces_of (reached_by finished s.local s.map q)) now.namespaces) import
      (both_among d.t.namespaces (namespaces_of (reached_by finished s.local s.map d.r))));
  linked = λ r x by target e f g h.
      let import : d.r ≡ r = only_one (slice_get s.imports i) d.r r d.import e in
      let none = glob_gains_nothing d.r.source by (path_answer finished s.local s.map d.r) d.t.namespaces
      (ap (λ (q : ImportDirective). glob_of q.source) import ∙ g) in
      let gains = d.gains in absurd cc;
}
  where
    now : TakenValue
    now = taken_after d.t (answer_to finished s.local s.map d.r)

-- ---- nothing to take

none_false : {X : Type 0} (b : Bool) (x : X) → cond b (Some x) None ≡ None → b ≡ false
none_false true x e = absurd cc
none_false false x e = refl

not_beyond : (a b : Bool) (rest : Bool) → ((a && not b) || rest) ≡ false → (a ≡ true → b ≡ true) × (rest ≡ false)
not_beyond true true rest e = (λ h. refl, e)
not_beyond true false rest e = absurd cc
not_beyond false b rest e = (λ h. absurd cc, e)

are_among : (some all : Namespaces) → goes_beyond some all ≡ false → AreAmong some all
are_among some all e = record {
  types = first.0;
  values = second.0;
  macros = third.0;
}
  where
    swapped : (a b c : Bool) → ((a || b) || c) ≡ false → (a || (b || (c || false))) ≡ false
    swapped true b c e = absurd cc
    swapped false true c e = absurd cc
    swapped false false true e = absurd cc
    swapped false false false e = refl

    first : (some.types ≡ true → all.types ≡ true) × (((some.values && not all.values) || ((some.macros && not all.macros) || false)) ≡ false)
    first = not_beyond some.types all.types _ (swapped (some.types && not all.types) (some.values && not all.values) (some.macros && not all.macros) e)

    second : (some.values ≡ true → all.values ≡ true) × (((some.macros && not all.macros) || false) ≡ false)
    second = not_beyond some.values all.values _ first.1

    third : (some.macros ≡ true → all.macros ≡ true) × (false ≡ false)
    third = not_beyond some.macros all.macros false second.1

-- where no taking is due, no namespace is reached that wasn't
pub nothing_gained : (finished : Maps) (s : ImportState) (i : ℕ) → taking_at finished s i ≡ None → (r : ImportDirective) (t : TakenValue)
    → slice_get s.imports i ≡ Some r
    → slice_get s.taken i ≡ Some t → AreAmong (namespaces_of (reached_by finished s.local s.map r)) t.namespaces
nothing_gained finished s i none r t e f =
    are_among (namespaces_of (reached_by finished s.local s.map r)) t.namespaces
    (none_false (goes_beyond (namespaces_of (reached_by finished s.local s.map r)) t.namespaces) (taking_for finished s r)
    (sym (λ j. option_and_then (λ q. option_and_then (λ x. taking_of finished s q x) (f j)) (e j)) ∙ none))

-- where nothing is due, an import is settled
pub nothing_due : (finished : Maps) (s : ImportState) (i : ℕ) → taking_at finished s i ≡ None → IsLinkedAt finished s i → IsSettled finished s i
nothing_due finished s i none linked = record { among = nothing_gained finished s i none; linked = linked.linked }

-- once a glob is noted for what it reaches, it's settled, if nothing else was due
pub linked_settled : (finished : Maps) (s : ImportState) (i : ℕ) (t : TakenValue) (target : Target) → taking_at finished s i ≡ None → slice_get s.taken i
    ≡ Some t
    → ((r : ImportDirective) → slice_get s.imports i ≡ Some r → target_of finished s.local s.map r ≡ Some target)
    → IsSettled finished (with_taken s i (taken_for t target)) i
linked_settled finished s i t target none before reaches = record {
  among = λ r x e f.
      subst (λ (y : TakenValue). AreAmong (namespaces_of (reached_by finished s.local s.map r)) y.namespaces) (noted x f)
      (nothing_gained finished s i none r t e before);
  linked = λ r x by other e f g h.
      let same : target ≡ other = only_one (target_of finished s.local s.map r) target other (reaches r e) h in
      subst (λ (y : TakenValue). Contains y.targets other) (noted x f)
      (subst (λ (z : Target). Contains (t.targets ++ target ∷ []) z) same (Contains-append_right t.targets (target ∷ []) target (0, omega arith, refl)));
}
  where
    noted : (x : TakenValue) → slice_get (slice_set s.taken i (taken_for t target)) i ≡ Some x → taken_for t target ≡ x
    noted x f = only_one (slice_get (slice_set s.taken i (taken_for t target)) i) (taken_for t target) x (set_here s.taken i (taken_for t target) t before) f

-- the others stay settled
pub others_settled : (finished : Maps) (s : ImportState) (i p : ℕ) (t : TakenValue) → Some i ≢ Some p → IsSettled finished s p
    → IsSettled finished (with_taken s i t) p
others_settled finished s i p t other old =
    stays_settled finished s (with_taken s i t) p refl (set_elsewhere s.taken i t p (λ e. other (ap Some (sym e))))
    (λ r e. record { reached = refl; target = λ by g. refl }) old
