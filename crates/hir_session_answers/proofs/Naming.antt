-- What a module's names are told to be stands on what is kept, and no name is left out.
use Rattle.std.specs.Prelude.{◌≡◌, ℕ, Bool, true, List, [], ◌∷◌, ◌++◌, map, cond, is_some, Option, None, Some, option_and_then, option_map, Result, Ok}
use Rattle.std.proofs.Common.{ap, refl, subst, sym, ◌∙◌}
use Rattle.hir_session_state.specs.HirBase.Place.{PlaceValue}
use Rattle.hir_session_state.specs.HirIds.contracts.ids.MapIdPartialEq.TheImpl as map_id
use Rattle.hir_session_state.specs.HirIds.declared.ids.MapId.{MapId}
use Rattle.hir_session_state.specs.HirIds.declared.ids.ModuleId.{ModuleId}
use Rattle.hir_session_state.specs.HirIds.declared.ids.TraitId.{TraitId}
use Rattle.hir_session_state.specs.HirPerNs.PerNs.{Item}
use Rattle.hir_session_state.specs.HirScope.Scope.{ScopeValue, binding_of}
use Rattle.hir_session_state.specs.HirScope.Scope.Entries.{entries_of, scope_names, unnamed_binding, with_bindings}
use Rattle.hir_session_state.specs.HirPerNs.declared.imports.ImportId.{ImportId}
use Rattle.hir_session_state.specs.HirPerNs.declared.per_ns.PerNs.{PerNs}
use Rattle.hir_session_state.specs.HirTables.Tables.{TablesValue}
use Rattle.hir_session_state.specs.HirDefMapRules.Closed.{AreThere, IsClosed}
use Rattle.hir_session_state.specs.HirDefMapRules.Inner.OverlayLaws.{same_id}
use Rattle.hir_session_state.specs.HirDefMapRules.Overlay.{Maps, Placed, entry_in, module_in, overlay, placed_in}
use Rattle.hir_session_state.specs.HirDefMapRules.Sources.{HoldsNowhere, HoldsOfNone}
use Rattle.hir_session_state.specs.HirDefMapRules.State.{ModuleValue, entry_of, module_at, scope_at}
use Rattle.hir_session_state.proofs.HirDefMapRules.StaysWellFormed.{IsClosed-overlay}
use Rattle.hir_session_state.specs.HirDefCollectorLaws.Sources.{RunsBindFromSources}
use Rattle.hir_session_state.proofs.HirDefCollectorLaws.SourcedEdits.{entry_clear}
use Rattle.hir_session_state.specs.HirMessages.declared.names.BoundName.{BoundName}
use Rattle.hir_session_state.specs.HirMessages.declared.reply.Status.{Status}
use Rattle.hir_session_state.specs.HirMessages.declared.reply.Status.TheVariants as status
use Rattle.hir_session_state.specs.declared.error.QueryError.{QueryError}
use Rattle.hir_session_state.specs.SessionState.{SessionState, Resolution, kept_of, module_of, read_of, read_under, IsSound}
use Rattle.hir_session_state.proofs.Standing.{kept_gives}
use Rattle.hir_session_answers.specs.Names.{named_in, names_by, names_from, names_in, names_kept, names_of, names_of_module, names_when}
use Rattle.hir_session_answers.specs.NamesStand.{AreTold, IsTold, NamesStand}
use Rattle.hir_session_answers.specs.Status.{status_of}
use Rattle.hir_session_answers.proofs.LeftOut.{IsSourced, IsThereAt, macros, maps_behind, place_there, read_kept, sourced, types, unsourced, values}
use Rattle.hir_session_answers.proofs.ReadMaps.{own_apart, read_whole}
use Rattle.hir_session_answers.proofs.Stand.{stands_at}

-- what is told over what is kept
pub names_given : (s : SessionState) (place : PlaceValue) (m : ModuleId) (found : Resolution) (maps : Maps) (scope : ScopeValue) (told : List BoundName)
    → module_of s place ≡ Some m → kept_of s m.map ≡ Some found → maps ≡ overlay (read_of s m.map) found.map → scope_at found.map m.index ≡ Some scope
    → told ≡ names_in s.tables maps scope → names_kept s place ≡ Ok told
names_given s place m found maps scope told named kept over has is =
    ap (λ (o : Option ModuleId). names_of_module s o) named
    ∙ ap (λ (o : Option Resolution). names_from s.tables (read_of s m.map) o m) kept
    ∙ ap (λ (o : Option ScopeValue). names_by s.tables (overlay (read_of s m.map) found.map) o) has
    ∙ ap (λ (x : List BoundName). Ok x) (sym (is ∙ ap (λ (ms : Maps). names_in s.tables ms scope) over))

-- ---- no name is left out

module _ (tables : TablesValue) (maps : Maps) (bound : HoldsNowhere (unsourced tables maps) maps) where
  is_told : (entry : List ℕ × PerNs) → HoldsOfNone (unsourced tables maps) entry.1 → AreThere maps entry.1
      → IsTold entry (named_in tables maps (Some entry.0, entry.1))
  is_told entry none there = record {
    name = refl;
    types = types tables maps bound entry.1.types none.types there.types;
    values = values tables maps bound entry.1.values none.values;
    macros = macros tables maps bound entry.1.macros none.macros;
  }

  are_told : (scope : ScopeValue) (others : List (Option (List ℕ) × PerNs)) → ((name : List ℕ) → HoldsOfNone (unsourced tables maps) (binding_of scope name))
      → ((name : List ℕ) → AreThere maps (binding_of scope name)) → (names : List (List ℕ))
      → AreTold (with_bindings scope names)
      (map (named_in tables maps) (map (λ (entry : List ℕ × PerNs). (Some entry.0, entry.1)) (with_bindings scope names) ++ others))
  are_told scope others none there [] = tt
  are_told scope others none there (name ∷ names) =
      (is_told (name, binding_of scope name) (none name) (there name), are_told scope others none there names)

module _ (runs : RunsBindFromSources) (s : SessionState) (sound : IsSound s) (m : ModuleId) (r : Resolution) (is : kept_of s m.map ≡ Some r)
    (v : ModuleValue) (at : module_at r.map m.index ≡ Some v) where
  abbrev read : Maps
  read = read_under s m.map r.holders

  abbrev maps : Maps
  maps = maps_behind s m.map r

  -- the module is there beside the maps that its own reads
  own_module : module_in maps m ≡ Some v
  own_module =
      let own : map_id.ghosts.eq m.map r.map.id ≡ true =
      ap (λ (x : MapId). map_id.ghosts.eq m.map x) (kept_gives s sound m.map r is).own ∙ same_id m.map in
      ap (λ (b : Bool). option_and_then (λ (p : Placed). module_at p.map m.index) (cond b (Some (placed_in read r.map)) (read m.map))) own ∙ at

  own_entry : (name : List ℕ) → entry_in maps m name ≡ binding_of v.scope name
  own_entry name = ap (λ (o : Option ModuleValue). entry_of o name) own_module

  names_whole : AreTold (entries_of v.scope) (names_in s.tables maps v.scope)
  names_whole =
      let gives = kept_gives s sound m.map r is in
      let written : IsSourced s maps r = sourced runs s sound m.map r is in
      let alone : read r.map.id ≡ None = ap read gives.own ∙ own_apart s sound m.map r is in
      let closed : IsClosed maps = IsClosed-overlay read r.map alone (read_whole s sound m.map r is) gives.names in
      are_told s.tables maps written.bound v.scope (map (λ (entry : TraitId × Item (Unit {0}) ImportId). (None, unnamed_binding entry)) v.scope.unnamed_traits)
      (λ name. subst (HoldsOfNone (unsourced s.tables maps)) (own_entry name) (entry_clear (unsourced s.tables maps) maps written.bound m name))
      (λ name. subst (AreThere maps) (own_entry name) (closed.names m name))
      (scope_names v.scope)

-- names that are told are those over what is kept
told_over : (now : Status) (x : Result (List BoundName) QueryError) (told : List BoundName) → names_when now x ≡ Ok told → x ≡ Ok told
told_over status.Current x told e = e
told_over status.Stale x told e = absurd (let wrong : ⊥ = cc in wrong)
told_over status.Unknown x told e = absurd (let wrong : ⊥ = cc in wrong)

same_told : {a b : List BoundName} {x : Result (List BoundName) QueryError} → x ≡ Ok a → x ≡ Ok b → a ≡ b
same_told {a} {b} e f = let both : Ok a ≡ Ok b = sym e ∙ f in cc

-- where the status is current, what is told is what is over what is kept
pub names_of-current : (s : SessionState) (place : PlaceValue) {r : Result (List BoundName) QueryError} → status.Current ≡ status_of s place
    → names_kept s place ≡ r → names_of s place ≡ r
names_of-current s place current over = ap (λ (now : Status). names_when now (names_kept s place)) (sym current) ∙ over

-- names that are told stand
pub names_stand : RunsBindFromSources → (s : SessionState) (place : PlaceValue) (told : List BoundName) → IsSound s → names_of s place ≡ Ok told
    → NamesStand s place told
names_stand runs s place told sound h = go (module_of s place) refl (told_over (status_of s place) (names_kept s place) told h)
  where
    within : (m : ModuleId) → module_of s place ≡ Some m → names_of_module s (Some m) ≡ Ok told → (there : IsThereAt s m) → (o : Option ModuleValue)
        → module_at there.found.map m.index ≡ o → is_some o ≡ true → NamesStand s place told
    within m named e there None at f = absurd (let wrong : ⊥ = cc in wrong)
    within m named e there (Some v) at f =
        let r : Resolution = there.found in
        let has : scope_at r.map m.index ≡ Some v.scope = ap (λ (o : Option ModuleValue). option_map (λ (x : ModuleValue). x.scope) o) at in
        let given : names_of_module s (Some m) ≡ Ok (names_in s.tables (overlay (read_of s m.map) r.map) v.scope) =
        ap (λ (o : Option Resolution). names_from s.tables (read_of s m.map) o m) there.is
        ∙ ap (λ (o : Option ScopeValue). names_by s.tables (overlay (read_of s m.map) r.map) o) has in
        let same : told ≡ names_in s.tables (overlay (read_of s m.map) r.map) v.scope = same_told e given in
        let over : names_in s.tables (maps_behind s m.map r) v.scope ≡ told =
        ap (λ (read : Maps). names_in s.tables (overlay read r.map) v.scope) (sym (read_kept s m.map r there.is)) ∙ sym same in
        record {
          asked_from = m;
          named = named;
          found = r;
          stands = stands_at s sound m.map r there.is;
          scope = v.scope;
          has = has;
          whole = subst (AreTold (entries_of v.scope)) over (names_whole runs s sound m r there.is v at);
          is = same;
        }

    go : (o : Option ModuleId) → module_of s place ≡ o → names_of_module s o ≡ Ok told → NamesStand s place told
    go None named e = absurd (let wrong : ⊥ = cc in wrong)
    go (Some m) named e =
        let there = place_there s sound place m named in within m named e there (module_at there.found.map m.index) refl there.module_
