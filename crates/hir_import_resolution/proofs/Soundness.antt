-- What holds of imports and globs wherever steps lead stays so.
use Rattle.std.proofs.Common.{◌≡◌, ◌∙◌, ap, sym, subst, refl, ℕ, zero, suc, ◌<◌, ◌⊎◌, inl, inr, Bool, true, false, List, [], ◌∷◌, ◌++◌, length, Option, None}
use Rattle.std.proofs.Common.{Some, is_some, if◌then◌else◌, map as list_map, arith}
use Rattle.std.proofs.lemmas.Bool.{lt-ltb, ltb-true, true≢false}
use Rattle.std.specs.Prelude.{Contains, slice_get, slice_set}
use Rattle.hir_nameres.specs.HirIds.declared.ids.TraitId.{TraitId}
use Rattle.hir_nameres.specs.HirPerNs.declared.imports.ImportId.{ImportId}
use Rattle.hir_nameres.specs.HirPerNs.declared.imports.ImportOrExternCrate.{ImportOrExternCrate}
use Rattle.hir_nameres.specs.HirPerNs.declared.per_ns.PerNs.{PerNs}
use Rattle.hir_nameres.specs.HirPerNs.declared.visibility.Visibility.{Visibility}
use Rattle.hir_def_map_rules.specs.Overlay.{Maps}
use Rattle.hir_def_map_rules.specs.State.{globs_after, module_at, place_at, pushed, pushed_module, with_module_scope}
use Rattle.hir_def_map_rules.proofs.Grown.{length-changed}
use Rattle.hir_glob_imports.proofs.Exact.{exact_slot}
use Rattle.hir_glob_imports.proofs.Linking.{one_or_last}
use Rattle.hir_glob_imports.proofs.Taking.{noted-named, noted-other, noted-unnamed}
use Rattle.hir_glob_imports.proofs.Updates.{there_from_seen}
use Rattle.hir_glob_imports.specs.Keys.{is_unnamed, same_slot, slot_at}
use Rattle.hir_glob_imports.specs.Moves.{brought_vis}
use Rattle.hir_glob_imports.specs.Rules.{BroughtBy, GlobState, May as MayAlong, Rule as GlobRule, acts as acts_along, as_seen, copies_along, follows_along}
use Rattle.hir_glob_imports.specs.Rules.{noted, perform as perform_along, raises_along, with_brought}
use Rattle.hir_glob_imports.specs.View.{Binds, ChangesOnly, View, bound_in, with_vis}
use Rattle.hir_glob_imports.specs.Waves.{Records, Stands, adds, edge_with_vis, stays, widens}
use Rattle.hir_glob_imports.specs.declared.edge.Bound.{Bound}
use Rattle.hir_glob_imports.specs.declared.edge.Brought.{Brought}
use Rattle.hir_glob_imports.specs.declared.edge.Edge.{Edge}
use Rattle.hir_glob_imports.specs.declared.edge.Key.{Key}
use Rattle.hir_glob_imports.specs.declared.edge.Slot.{Slot}
use Rattle.hir_glob_imports.specs.declared.edge.Target.{Target}
use Rattle.hir_glob_imports.specs.declared.edge.Key.TheVariants.{Types, Values, Macros, Unnamed}
use Rattle.hir_glob_imports.specs.declared.edge.Target.TheVariants as targets
use Rattle.hir_import_rules.specs.declared.directive.ImportDirective.{ImportDirective}
use Rattle.hir_import_rules.specs.declared.directive.ImportSource.{ImportSource}
use Rattle.hir_import_rules.specs.Changes.{along, bound_as, forgotten, forgotten_in, kept_vis, perform, pushing, with_kept}
use Rattle.hir_import_rules.specs.Directives.{TakenValue, answer_to, edge_to, kept_trait, leaf_of, name_of, not_taken, nothing_taken, offered_by}
use Rattle.hir_import_rules.specs.Directives.{taken_after, taken_for, visibility_of}
use Rattle.hir_import_growth.specs.Binding.{IsBound, MayBind}
use Rattle.hir_import_resolution.specs.Inner.TableLaws.{is_name_table}
use Rattle.hir_import_growth.specs.ViewLaws.{bound_inside, inside_own}
use Rattle.hir_import_rules.specs.Names.{ScopesValue, bound_at, copied, followed, raised, scope_table, trait_vis, view_of, with_trait}
use Rattle.hir_import_rules.specs.Rest.{IsSound, IsSource}
use Rattle.hir_import_rules.specs.Rules.{May, Rule, after, goes_along, takes_glob, takes_import}
use Rattle.hir_import_resolution.specs.Sound.{GrowthKeepsSound, LocalKeepsSound, PushesKeepSound, ReachedImportsKeepSound, StepsKeepSound}
use Rattle.hir_import_rules.specs.State.{ImportState, glob_state, scopes_of, ticked, with_glob_state, with_taken}
use Rattle.hir_import_resolution.proofs.Along.{performed}
use Rattle.hir_import_growth.proofs.Binding.{keep_binds, push_binds}
use Rattle.hir_import_resolution.proofs.Recorded.{found_set, recorded_kept, recorded_linked, recorded_taken}
use Rattle.hir_import_resolution.proofs.Writes.{copies_write, follows_write, raises_write}

-- ---- what globs brought stands

abbrev AllStand : View → BroughtBy → Type 0
AllStand v brought = (q : Slot) (by : Brought) → brought q ≡ Some by → Stands v q by

-- what stands in another slot stands still
stands_apart : (v w : View) (s : Slot) → ChangesOnly s v w → (q : Slot) (by : Brought) → same_slot s q ≡ false → Stands v q by → Stands w q by
stands_apart v w s changes q by apart old = record { bound = old.bound; there = changes.bound (targets.Own q.at) q.key apart ∙ old.there; same = old.same }

-- what stands in a module stands where that module is as it was
stands_inside : (n m : ScopesValue) (q : Slot) (by : Brought) → module_at m.map q.at ≡ module_at n.map q.at → Stands (view_of n) q by → Stands (view_of m) q by
stands_inside n m q by same old = record {
  bound = old.bound;
  there = inside_own m q.at q.key ∙ ap (bound_inside q.key) same ∙ sym (inside_own n q.at q.key) ∙ old.there;
  same = old.same;
}

-- a slot takes what is noted as brought there
noted_stand : (v w : View) (s : Slot) (x : Bound) (seen : Brought) (brought : BroughtBy) → Binds s x v w → x.def ≡ seen.seen.def
    → (is_unnamed s.key ≡ true → (by : Brought) → brought s ≡ Some by → Stands w s by) → AllStand v brought → AllStand w (noted brought s seen)
noted_stand v w s x seen brought binds same unnamed old q by is = go (same_slot s q) refl
  where
    here : (u : Bool) → is_unnamed s.key ≡ u → noted brought s seen s ≡ Some by → Stands w s by
    here true un e = unnamed un by (sym (noted-unnamed brought s seen un) ∙ e)
    here false named e =
        let now : Some seen ≡ Some by = sym (noted-named brought s seen named) ∙ e in
        let one : seen ≡ by = cc in
        record { bound = x; there = binds.bound; same = same ∙ ap (λ (y : Brought). y.seen.def) one }

    go : (m : Bool) → same_slot s q ≡ m → Stands w q by
    go true m =
        let at : s ≡ q = exact_slot s q m in
        subst (λ (k : Slot). Stands w k by) at (here (is_unnamed s.key) refl (subst (λ (k : Slot). noted brought s seen k ≡ Some by) (sym at) is))
    go false m = stands_apart v w s binds.changes q by m (old q by (sym (noted-other brought s seen q m) ∙ is))

-- a slot takes another visibility
raised_stand : (v w : View) (s : Slot) (c : Bound) (vis : Visibility) (brought : BroughtBy) → bound_in v s ≡ Some c → Binds s (with_vis c vis) v w
    → AllStand v brought → AllStand w brought
raised_stand v w s c vis brought there binds old q by is = go (same_slot s q) refl
  where
    here : Stands v s by → Stands w s by
    here stands =
        let two : Some stands.bound ≡ Some c = sym stands.there ∙ there in
        let one : stands.bound ≡ c = cc in
        record { bound = with_vis c vis; there = binds.bound; same = ap (λ (x : Bound). x.def) (sym one) ∙ stands.same }

    go : (m : Bool) → same_slot s q ≡ m → Stands w q by
    go true m =
        let at : s ≡ q = exact_slot s q m in
        subst (λ (k : Slot). Stands w k by) at (here (old s by (subst (λ (k : Slot). brought k ≡ Some by) (sym at) is)))
    go false m = stands_apart v w s binds.changes q by m (old q by is)

-- no glob is said to have brought what changed
forgets_stand : (v w : View) (s : Slot) (brought : BroughtBy) → ChangesOnly s v w → AllStand v brought → AllStand w (with_brought brought s None)
forgets_stand v w s brought changes old q by is = go (same_slot s q) refl is
  where
    go : (m : Bool) → same_slot s q ≡ m → (if m then None else brought q) ≡ Some by → Stands w q by
    go true m e = absurd cc
    go false m e = stands_apart v w s changes q by m (old q by e)

binds_stand : (v w : View) (home : ℕ) (key : Key) (binds : Bool) (brought : BroughtBy) → MayBind home key binds v w → AllStand v brought
    → AllStand w (forgotten_in home key binds brought)
binds_stand v w home key true brought may old = forgets_stand v w (slot_at home key) brought (may.bound refl).changes old
binds_stand v w home key false brought may old = subst (λ (x : View). AllStand x brought) (sym (may.stays refl)) old

bound_stand : (v w : View) (home : ℕ) (name : List ℕ) (items : PerNs) (brought : BroughtBy) → IsBound home name items v w → AllStand v brought
    → AllStand w (forgotten home name items brought)
bound_stand v w home name items brought bound old =
    binds_stand bound.with_values w home (Macros name) (is_some items.macros) with_values bound.macros
    (binds_stand bound.with_types bound.with_values home (Values name) (is_some items.values) with_types bound.values
    (binds_stand v bound.with_types home (Types name) (is_some items.types) brought bound.types old))
  where
    with_types : BroughtBy
    with_types = forgotten_in home (Types name) (is_some items.types) brought

    with_values : BroughtBy
    with_values = forgotten_in home (Values name) (is_some items.values) with_types

-- items are pushed to a name of a module
module _ (n : ScopesValue) (home : ℕ) (name : List ℕ) (items : PerNs) (import : Option ImportOrExternCrate) (brought : BroughtBy) (old : AllStand (view_of n) brought) where
  abbrev once : ScopesValue
  once = record n { map = pushed n.map n.globs home name items import; globs = globs_after n.map n.globs home name items import }

  pushed_stand : AllStand (view_of once) (forgotten home name items brought)
  pushed_stand = bound_stand (view_of n) (view_of once) home name items brought (push_binds n home name items import) old

-- ---- what leaves the edges and the takings

-- where nothing but the map and what was brought changes
sound_from : (finished : Maps) (s s' : ImportState) → s'.imports ≡ s.imports → s'.taken ≡ s.taken → s'.edges ≡ s.edges
    → ((at : ℕ) → at < length s.map.modules → at < length s'.map.modules)
    → AllStand (view_of (scopes_of finished s')) s'.brought → IsSound finished s → IsSound finished s'
sound_from finished s s' imports taken edges longer stands sound = record {
  there = λ j e is. longer e.importer (sound.there j e (sym (ap (λ (es : List Edge). slice_get es j) edges) ∙ is));
  stands = stands;
  recorded = recorded_kept s s' imports edges taken sound.recorded;
}

pub local_keeps_sound : LocalKeepsSound
local_keeps_sound finished s local count sound =
    sound_from finished s (record s { local = local; count = count }) refl refl refl (λ at low. low) (λ q by is. sound.stands q by is) sound

ticked_sound : (finished : Maps) (s : ImportState) → IsSound finished s → IsSound finished (ticked s)
ticked_sound finished s sound = sound_from finished s (ticked s) refl refl refl (λ at low. low) (λ q by is. sound.stands q by is) sound

pub growth_keeps_sound : GrowthKeepsSound
growth_keeps_sound finished s m around sound =
    sound_from finished s (record s { map = m }) refl refl refl (λ at low. omega (arith, around.modules, low)) (λ q by is. on q by (sound.stands q by is)) sound
  where
    own : (at : ℕ) (key : Key) → (view_of (scopes_of finished (record s { map = m }))).bound (targets.Own at) key ≡ (view_of (scopes_of finished s)).bound
        (targets.Own at) key
    own at key = λ i. bound_at (λ name. around.entries at name i) (λ id. around.traits at id i) key

    on : (q : Slot) (by : Brought) → Stands (view_of (scopes_of finished s)) q by → Stands (view_of (scopes_of finished (record s { map = m }))) q by
    on q by old = record { bound = old.bound; there = own q.at q.key ∙ old.there; same = old.same }

bound_sound : (finished : Maps) (s : ImportState) (home : ℕ) (name : Option (List ℕ)) (items : PerNs) (source : Option ImportSource) → IsSound finished s
    → IsSound finished (bound_as s home name items source)
bound_sound finished s home None items source sound = sound
bound_sound finished s home (Some name) items source sound =
    sound_from finished s (bound_as s home (Some name) items source) refl refl refl
    (λ at low. subst (λ (n : ℕ). at < n) (sym (length-changed s.map.modules home (pushed_module s.globs (place_at s.map.id home name) items (pushing source))))
    low)
    (pushed_stand (scopes_of finished s) home name items (pushing source) s.brought (λ q by is. sound.stands q by is)) sound

pub pushes_keep_sound : PushesKeepSound
pushes_keep_sound finished s home name items sound = bound_sound finished s home name items None sound

kept_sound : (finished : Maps) (s : ImportState) (home : ℕ) (kept : Option TraitId) (vis : Visibility) (leaf : Option ImportId) → IsSound finished s
    → IsSound finished (with_kept finished s home kept vis leaf)
kept_sound finished s home None vis leaf sound = sound
kept_sound finished s home (Some id) vis leaf sound =
    sound_from finished s (with_kept finished s home (Some id) vis leaf) refl refl refl
    (λ at low. subst (λ (n : ℕ). at < n) (sym
    (length-changed s.map.modules home (with_module_scope (with_trait id (kept_vis finished s.map vis (trait_vis (module_at s.map home) id)) leaf)))) low)
    (forgets_stand (view_of (scopes_of finished s)) (view_of (scopes_of finished (with_kept finished s home (Some id) vis leaf))) (slot_at home (Unnamed id))
    s.brought
    (keep_binds (scopes_of finished s) home id (kept_vis finished s.map vis (trait_vis (module_at s.map home) id)) leaf).changes
    (λ q by is. sound.stands q by is)) sound

-- ---- imports that come behind the others

module _ {X Y : Type 0} where
  -- a place in two lists that were as long and grew: in both as they were, or in what came behind the second
  in_grown : (xs more : List X) (ys others : List Y) → length ys ≡ length xs → (i : ℕ) (x : X) (y : Y) → slice_get (xs ++ more) i ≡ Some x
      → slice_get (ys ++ others) i ≡ Some y
      → ((slice_get xs i ≡ Some x) × (slice_get ys i ≡ Some y)) ⊎ ((k : ℕ) × (slice_get others k ≡ Some y))
  in_grown [] more [] others long i x y e f = inr (i, f)
  in_grown [] more (b ∷ ys) others long i x y e f = absurd (omega arith)
  in_grown (a ∷ xs) more [] others long i x y e f = absurd (omega arith)
  in_grown (a ∷ xs) more (b ∷ ys) others long zero x y e f = inl (e, f)
  in_grown (a ∷ xs) more (b ∷ ys) others long (suc i) x y e f = in_grown xs more ys others (omega arith) i x y e f

-- what wasn't taken has no target
no_targets : (rs : List ImportDirective) (k : ℕ) (t : TakenValue) → slice_get (not_taken rs) k ≡ Some t → t.targets ≡ []
no_targets [] k t e = absurd cc
no_targets (r ∷ rs) zero t e = let same : t ≡ nothing_taken = cc in ap (λ (x : TakenValue). x.targets) same
no_targets (r ∷ rs) (suc k) t e = no_targets rs k t e

pub reached_keep_sound : ReachedImportsKeepSound
reached_keep_sound finished s rs long sound = record { there = sound.there; stands = λ q by is. sound.stands q by is; recorded = λ i. record { each = each i } }
  where
    each : (i : ℕ) (r : ImportDirective) (t : TakenValue) (target : Target) → slice_get (s.imports ++ rs) i ≡ Some r → slice_get (s.taken ++ not_taken rs) i
        ≡ Some t → Contains t.targets target
        → IsSource (record s { imports = s.imports ++ rs; taken = s.taken ++ not_taken rs }) target r.home
    each i r t target import there has = go (in_grown s.imports rs s.taken (not_taken rs) long i r t import there)
      where
        go : ((slice_get s.imports i ≡ Some r) × (slice_get s.taken i ≡ Some t)) ⊎ ((k : ℕ) × (slice_get (not_taken rs) k ≡ Some t))
            → IsSource (record s { imports = s.imports ++ rs; taken = s.taken ++ not_taken rs }) target r.home
        go (inl old) =
            let source = (sound.recorded i).each r t target old.0 old.1 has in
            record { number = source.number; edge = source.edge; recorded = source.recorded; source = source.source; into = source.into }
        go (inr none) =
            let empty : Contains [] target = subst (λ (ts : List Target). Contains ts target) (no_targets rs none.0 t none.1) has in
            absurd (omega (arith, empty.1))

-- ---- a step along a glob

-- what goes along globs changes names and what was brought
along_sound : (finished : Maps) (s : ImportState) (g : GlobState ScopesValue) → g.names.finished ≡ finished → g.edges ≡ s.edges
    → ((at : ℕ) → (view_of g.names).has at ≡ (view_of (scopes_of finished s)).has at) → AllStand (view_of g.names) g.brought → IsSound finished s
    → IsSound finished (with_glob_state s g)
along_sound finished s g same edges has stands sound =
    sound_from finished s (with_glob_state s g) refl refl edges
    (λ at low. ltb-true at (length g.names.map.modules) (has at ∙ lt-ltb at (length s.map.modules) low))
    (subst (λ (f : Maps). AllStand (view_of (record { finished = f; map = g.names.map; globs = g.names.globs })) g.brought) same stands) sound

module _ (finished : Maps) (s : ImportState) (sound : IsSound finished s) where
  abbrev n : ScopesValue
  n = scopes_of finished s

  -- the state once the changes of a rule are made
  abbrev gone : GlobRule → ImportState
  gone rule = with_glob_state s (perform_along scope_table (glob_state finished s) (acts_along (view_of n) rule))

  -- the module of a slot that an edge leads to is there
  has_importer : (j : ℕ) (e : Edge) (q : Slot) → slice_get s.edges j ≡ Some e → e.importer ≡ q.at → (view_of n).has q.at ≡ true
  has_importer j e q is at = lt-ltb q.at (length s.map.modules) (subst (λ (k : ℕ). k < length s.map.modules) at (sound.there j e is))

  goes_sound : (rule : GlobRule) → MayAlong scope_table (glob_state finished s) rule → IsSound finished (gone rule)
  goes_sound (copies_along j e q b) may =
      along_sound finished s (record { names = now; edges = s.edges; brought = noted s.brought q (as_seen j e b); count = s.count })
      (copies_write n q e.source vis e.id).finished refl binds.changes.has
      (noted_stand (view_of n) (view_of now) q (with_vis b vis) (as_seen j e b) s.brought binds refl unnamed (λ k by is. sound.stands k by is)) sound
    where
      vis : Visibility
      vis = brought_vis (view_of n) e b

      now : ScopesValue
      now = copied n q e.source vis e.id

      binds : Binds q (with_vis b vis) (view_of n) (view_of now)
      binds = is_name_table.copies n q e.source b vis e.id (has_importer j e q may.shows.recorded may.shows.at) may.vacant
          (there_from_seen ((view_of n).sees e.importer) ((view_of n).bound e.source q.key) b may.shows.shown)

      -- nothing stood there, so nothing was brought there
      unnamed : is_unnamed q.key ≡ true → (by : Brought) → s.brought q ≡ Some by → Stands (view_of now) q by
      unnamed un by is =
          let old = sound.stands q by is in
          let none : Some old.bound ≡ None = sym old.there ∙ may.vacant in
          absurd cc
  goes_sound (follows_along j e q b) may =
      along_sound finished s (record { names = now; edges = s.edges; brought = noted s.brought q (as_seen j e b); count = s.count })
      (follows_write n q e.source vis).finished refl binds.changes.has
      (noted_stand (view_of n) (view_of now) q (with_vis b vis) (as_seen j e b) s.brought binds refl (λ un by is. absurd (true≢false (sym un ∙ may.named)))
      (λ k by is. sound.stands k by is)) sound
    where
      vis : Visibility
      vis = brought_vis (view_of n) e b

      now : ScopesValue
      now = followed n q e.source vis

      stood : Stands (view_of n) q may.last
      stood = sound.stands q may.last may.brought_last

      binds : Binds q (with_vis b vis) (view_of n) (view_of now)
      binds = is_name_table.follows n q e.source b stood.bound vis stood.there
          (there_from_seen ((view_of n).sees e.importer) ((view_of n).bound e.source q.key) b may.shows.shown)
  goes_sound (raises_along j e q vis) may =
      along_sound finished s (record { names = raised n q vis; edges = s.edges; brought = s.brought; count = s.count })
      (raises_write n q vis).finished refl binds.changes.has
      (raised_stand (view_of n) (view_of (raised n q vis)) q may.c vis s.brought may.stands binds (λ k by is. sound.stands k by is)) sound
    where
      binds : Binds q (with_vis may.c vis) (view_of n) (view_of (raised n q vis))
      binds = is_name_table.raises n q may.c vis may.stands

-- ---- an import, and a glob

-- neither binding nor keeping changes the takings
bound_taken : (s : ImportState) (home : ℕ) (name : Option (List ℕ)) (items : PerNs) (source : Option ImportSource) → (bound_as s home name items source).taken
    ≡ s.taken
bound_taken s home None items source = refl
bound_taken s home (Some name) items source = refl

kept_taken : (finished : Maps) (s : ImportState) (home : ℕ) (kept : Option TraitId) (vis : Visibility) (leaf : Option ImportId)
    → (with_kept finished s home kept vis leaf).taken ≡ s.taken
kept_taken finished s home None vis leaf = refl
kept_taken finished s home (Some id) vis leaf = refl

taken_sound : (finished : Maps) (s : ImportState) (i : ℕ) (t t' : TakenValue) → slice_get s.taken i ≡ Some t → t'.targets ≡ t.targets → IsSound finished s
    → IsSound finished (with_taken s i t')
taken_sound finished s i t t' before same sound = record {
  there = sound.there;
  stands = λ q by is. sound.stands q by is;
  recorded = recorded_taken s (with_taken s i t') i t t' before same refl refl refl sound.recorded;
}

-- each edge leads to a module that is there, once a glob into one is recorded
records_there : (v : View) (old new : List Edge) (e : Edge) (n : ℕ) → Records v old new e → e.importer < n
    → ((j : ℕ) (d : Edge) → slice_get old j ≡ Some d → d.importer < n)
    → (j : ℕ) (d : Edge) → slice_get new j ≡ Some d → d.importer < n
records_there v old new e n (widens at w wide recorded ends wider is) low there j d found =
    go (found_set old at (edge_with_vis w wide) j d (sym (ap (λ (es : List Edge). slice_get es j) is) ∙ found))
  where
    go : ((j ≡ at) × (edge_with_vis w wide ≡ d)) ⊎ (slice_get old j ≡ Some d) → d.importer < n
    go (inl now) = subst (λ (x : Edge). x.importer < n) now.1 (there at w recorded)
    go (inr before) = there j d before
records_there v old new e n (stays at w recorded ends wider is) low there j d found = there j d (sym (ap (λ (es : List Edge). slice_get es j) is) ∙ found)
records_there v old new e n (adds apart is) low there j d found = go (one_or_last old e j d (sym (ap (λ (es : List Edge). slice_get es j) is) ∙ found))
  where
    go : (slice_get old j ≡ Some d) ⊎ ((j ≡ length old) × (d ≡ e)) → d.importer < n
    go (inl before) = there j d before
    go (inr last) = subst (λ (x : Edge). x.importer < n) (sym last.1) low

-- ---- any step

rule_sound : (finished : Maps) (s : ImportState) → ((i : ℕ) (r : ImportDirective) → slice_get s.imports i ≡ Some r → r.home < length s.map.modules)
    → IsSound finished s
    → (rule : Rule) → May finished s rule → IsSound finished (after finished s rule)
rule_sound finished s homes sound (takes_import i r t) may =
    ticked_sound finished (with_taken later i now)
    (taken_sound finished later i t now (ap (λ (ts : List TakenValue). slice_get ts i) taken ∙ may.before) refl
    (kept_sound finished once r.home kept vis (leaf_of r.source) (bound_sound finished s r.home (name_of r) (offered_by finished s.local s.map r)
    (Some r.source) sound)))
  where
    kept : Option TraitId
    kept = kept_trait finished s.local s.map r

    vis : Visibility
    vis = visibility_of finished s.local s.map r

    now : TakenValue
    now = taken_after t (answer_to finished s.local s.map r)

    once : ImportState
    once = bound_as s r.home (name_of r) (offered_by finished s.local s.map r) (Some r.source)

    later : ImportState
    later = with_kept finished once r.home kept vis (leaf_of r.source)

    taken : later.taken ≡ s.taken
    taken = kept_taken finished once r.home kept vis (leaf_of r.source) ∙ bound_taken s r.home (name_of r) (offered_by finished s.local s.map r) (Some r.source)
rule_sound finished s homes sound (takes_glob i r t by target edges) may = ticked_sound finished now (record {
  there = records_there (view_of (scopes_of finished s)) s.edges edges edge (length s.map.modules) may.recorded (homes i r may.import) sound.there;
  stands = λ q b is. sound.stands q b is;
  recorded = recorded_linked (view_of (scopes_of finished s)) s now i r t edge may.import may.before refl may.recorded refl refl sound.recorded;
})
  where
    edge : Edge
    edge = edge_to finished s.local s.map r by target

    now : ImportState
    now = record s { taken = slice_set s.taken i (taken_for t target); edges = edges }
rule_sound finished s homes sound (goes_along rule) may =
    ticked_sound finished (perform s (list_map (along finished) (acts_along (view_of (scopes_of finished s)) rule)))
    (subst (IsSound finished) (sym (performed finished s (acts_along (view_of (scopes_of finished s)) rule))) (goes_sound finished s sound rule may))

pub steps_keep_sound : StepsKeepSound
steps_keep_sound finished old new homes step sound = subst (IsSound finished) (sym step.is) (rule_sound finished old homes sound step.rule step.may)
