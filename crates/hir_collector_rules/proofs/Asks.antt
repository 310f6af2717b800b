-- What a run asks for, step by step.
use Rattle.std.proofs.Common.{◌≡◌, ℕ, zero, suc, ◌<◌, List, [], ◌∷◌, length, Option, Some, ◌⊎◌, inl, inr, sym, subst, arith, Contains, None}
use Rattle.std.proofs.lemmas.List.Elements.{Contains-append_left, Contains-append_cases}
use Rattle.hir_nameres.specs.HirIds.declared.ids.AdtId.TheVariants as adts
use Rattle.hir_nameres.specs.HirIds.declared.ids.EnumId.{EnumId}
use Rattle.hir_nameres.specs.HirIds.declared.ids.ModuleDefId.{ModuleDefId}
use Rattle.hir_nameres.specs.HirIds.declared.ids.ModuleDefId.TheVariants as definitions
use Rattle.hir_item_tree.specs.KeptForest.{Head}
use Rattle.hir_item_tree.specs.declared.side_lists.VariantItem.{VariantItem}
use Rattle.hir_nameres.specs.HirDefMapRules.State.{Map, module_at}
use Rattle.hir_nameres.specs.HirDefMapRules.declared.declaration.Declaration.TheVariants as listings
use Rattle.hir_nameres.specs.HirDefMapRules.Overlay.{Maps}
use Rattle.hir_import_rules.specs.Changes.{pushes}
use Rattle.hir_collector_rules.specs.Types.{Declaration, Key, Site}
use Rattle.hir_collector_rules.specs.declared.source_database.Key.TheVariants as keys
use Rattle.hir_tables.specs.Tables.{TablesValue}
use Rattle.hir_mod_dir.specs.ModuleFiles.{candidates_of}
use Rattle.hir_collector_rules.specs.Workspace.{Workspace}
use Rattle.hir_collector_rules.specs.Causes.{IsCandidate, IsOfCall, IsOfEager}
use Rattle.hir_collector_rules.specs.ModuleFiles.{IsNumbered, Search}
use Rattle.hir_collector_rules.specs.Keys.{Environment, environment}
use Rattle.hir_collector_rules.specs.State.{State, Task}
use Rattle.hir_collector_rules.specs.ItemIds.{enum_id}
use Rattle.hir_collector_rules.specs.Items.{own_visibility}
use Rattle.hir_collector_rules.specs.Changes.{changes_imports, gives_variants, goes_on, lists, perform}
use Rattle.hir_collector_rules.specs.Enums.{variants_of}
use Rattle.hir_collector_rules.specs.Steps.{Rule, drops_item, awaits_attribute, lists_derives, faults_derive, exports_macro, reaches_call, rests}
use Rattle.hir_collector_rules.specs.Steps.{expands_call, meets_macro}
use Rattle.hir_collector_rules.specs.Steps.{drops_call, drops_reached, derives_builtin, skips_attribute, falls_back, defines_rules, defines_macro}
use Rattle.hir_collector_rules.specs.Steps.{closes_module, declares_item, declares_enum, lists_constant, lists_impl, opens_module, opens_file, drops_file}
use Rattle.hir_collector_rules.specs.Steps.{misses_file, enters_block, reaches_imports, reaches_crate, resolves_imports, LooksFor, May, Numbered, Sees, after}
use Rattle.hir_collector_rules.specs.Steps.{asking, keys_read, path_of, reads, search_readings, Step, Steps, none, more, enum_declaration}
use Rattle.hir_collector_rules.proofs.Changes.{asked-Step}
use Rattle.hir_collector_rules.proofs.Declared.{Lists, Lists-now}
use Rattle.hir_collector_rules.proofs.Grows.{Grows, Grows-Step, Grows-act}
use Rattle.hir_collector_rules.proofs.InRange.{IsInRange, in_range-Steps, next_home}
use Rattle.hir_collector_rules.proofs.ModuleFiles.{IsAsked, asked_candidate}

abbrev of_enum : EnumId → ModuleDefId
of_enum id = definitions.AdtId (adts.EnumId id)

-- a module lists an enum of whose variants the key is
pub record IsOfListed (m : Map) (key : Key) : Type 0 where
  pub home : ℕ
  pub id : EnumId
  pub listed : Lists (of_enum id) (module_at m home)
  pub is : key ≡ keys.Variants id

IsOfListed-Grows : {old new : Map} {key : Key} → Grows old new → IsOfListed old key → IsOfListed new key
IsOfListed-Grows grows p = record { home = p.home; id = p.id; listed = grows.listed p.home (of_enum p.id) p.listed; is = p.is }

-- an enum that is declared is listed
listed_now : (finished : Maps) (s : State) (site : Site) (head : Head) (name : List ℕ) (found : Option (List VariantItem)) (rest : List Task)
    → site.home < length s.core.map.modules
    → Lists (of_enum (enum_id s.core.map site head.id)) (module_at (after finished s (declares_enum site head name found rest)).core.map site.home)
listed_now finished s site head name found rest here =
    let rule : Rule = declares_enum site head name found rest in
    let def : ModuleDefId = of_enum (enum_id s.core.map site head.id) in
    let d : Declaration = enum_declaration s.core.map site head name (own_visibility finished s.core.local s.core.map site head) in
    let before : State = perform (asking s rule) (goes_on rest ∷ gives_variants (enum_id s.core.map site head.id)
    (variants_of (enum_id s.core.map site head.id) found) ∷ lists site.home (listings.Def def) ∷ []) in
    (Grows-act before (changes_imports (pushes site.home (Some d.name) d.items None))).listed site.home def (Lists-now def s.core.map.modules site.home here)

no_key : (key : Key) → Contains [] key → ⊥
no_key key (n, below, is) = let past : n < 0 = below in omega arith

pub only : {A : Type 0} (x y : A) → Contains (x ∷ []) y → x ≡ y
only x y (zero, below, is) = is
only x y (suc n, below, is) = absurd (omega arith)

-- a run that ends in a state asked for a key: it is of an enum that a module lists, of a candidate of a `mod` item, or of a call that reaches a macro
pub data IsAskedFor (tables : TablesValue) (w : Workspace) (finished : Maps) (from to : State) (key : Key) : Type 0 where
  of_enum_listed : IsOfListed to.core.map key → IsAskedFor tables w finished from to key
  of_candidate : (at : State) → Steps (environment tables w) finished from at → Steps (environment tables w) finished at to → IsCandidate tables w at key
      → IsAskedFor tables w finished from to key
  of_call : (at : State) → Steps (environment tables w) finished from at → Steps (environment tables w) finished at to → IsOfCall tables w finished at key
      → IsAskedFor tables w finished from to key
  of_eager : (at : State) → Steps (environment tables w) finished from at → Steps (environment tables w) finished at to → IsOfEager tables w finished at key
      → IsAskedFor tables w finished from to key

-- what a rule reads is of an enum that it lists, of a candidate, or of a call
data IsRead (tables : TablesValue) (w : Workspace) (finished : Maps) (s : State) (r : Rule) (key : Key) : Type 0 where
  enum_read : IsOfListed (after finished s r).core.map key → IsRead tables w finished s r key
  file_read : IsCandidate tables w s key → IsRead tables w finished s r key
  call_read : IsOfCall tables w finished s key → IsRead tables w finished s r key
  eager_read : IsOfEager tables w finished s key → IsRead tables w finished s r key

module _ (tables : TablesValue) (w : Workspace) (finished : Maps) (s : State) where
  searched : (site : Site) (head : Head) (name : List ℕ) (search : Search) (rest : List Task) → LooksFor s site head name search rest
      → IsNumbered tables site.file search
      → Sees (environment tables w) finished (search_readings s.core.map search) → (key : Key) → Contains (keys_read (search_readings s.core.map search)) key
      → IsCandidate tables w s key
  searched site head name search rest looks numbered sees key h =
      let m : Map = s.core.map in
      let asked : IsAsked tables w m.id.krate m.crate_data.edition search.declaring (candidates_of site.dir name (path_of head)) key =
      asked_candidate tables w finished m.id.krate m.crate_data.edition search.declaring search (candidates_of site.dir name (path_of head))
      looks.tries.in_order looks.tries.absent numbered.tried sees key h in
      record {
        site = site;
        head = head;
        name = name;
        rest = rest;
        done = looks.here.done;
        next = looks.here.next;
        enabled = looks.here.enabled;
        passed = looks.here.passed;
        declaring = search.declaring;
        written = numbered.declaring;
        place = asked.place;
        candidate = asked.candidate;
        is_candidate = asked.is_candidate;
        id = asked.id;
        is_file = asked.is_file;
        is = asked.is;
        earlier = asked.earlier;
      }

  caused : (r : Rule) → May finished s r → Sees (environment tables w) finished (reads s r) → Numbered tables s r → IsInRange s → (key : Key)
      → Contains (keys_read (reads s r)) key
      → IsRead tables w finished s r key
  caused (expands_call i d makro x) may sees numbered p key h =
      call_read (record { place = i; call = d; makro = makro; expands = may; seen = x; numbered = numbered; sees = sees; among = h })
  caused (meets_macro i d makro x) may sees numbered p key h =
      eager_read (record { place = i; call = d; makro = makro; meets = may; seen = x; numbered = numbered; sees = sees; among = h })
  caused (declares_enum site head name found rest) may sees numbered p key h =
      let m : Map = s.core.map in
      let id : EnumId = enum_id m site head.id in
      let here : site.home < length m.modules = next_home s p _ rest may.next in
      enum_read (record { home = site.home; id = id; listed = listed_now finished s site head name found rest here; is = sym (only (keys.Variants id) key h) })
  caused (opens_file site head name search file rest) may sees numbered p key h = file_read (searched site head name search rest may.looks numbered sees key h)
  caused (drops_file site head name search report rest) may sees numbered p key h =
      file_read (searched site head name search rest may.looks numbered sees key h)
  caused (misses_file site head name search report rest) may sees numbered p key h =
      file_read (searched site head name search rest may.looks numbered sees key h)
  caused other may sees numbered p key h = absurd (no_key key h)

-- ---- steps

-- what was asked for stays
pub still_asked-Step : {env : Environment} {finished : Maps} {old new : State} → Step env finished old new → (key : Key) → Contains old.core.asked key
    → Contains new.core.asked key
still_asked-Step {old = old} step key h =
    subst (λ (ks : List Key). Contains ks key) (sym (asked-Step step)) (Contains-append_left old.core.asked (keys_read (reads old step.rule)) key h)

pub still_asked : {env : Environment} {finished : Maps} {from to : State} → Steps env finished from to → (key : Key) → Contains from.core.asked key
    → Contains to.core.asked key
still_asked none key p = p
still_asked (more old new before step) key p = still_asked-Step step key (still_asked before key p)

-- a step later too
asked_before : {tables : TablesValue} {w : Workspace} {finished : Maps} {from old new : State} {key : Key} → Step (environment tables w) finished old new
    → IsAskedFor tables w finished from old key → IsAskedFor tables w finished from new key
asked_before step (of_enum_listed p) = of_enum_listed (IsOfListed-Grows (Grows-Step step) p)
asked_before {old = old} {new = new} step (of_candidate at before after p) = of_candidate at before (more old new after step) p
asked_before {old = old} {new = new} step (of_call at before after p) = of_call at before (more old new after step) p
asked_before {old = old} {new = new} step (of_eager at before after p) = of_eager at before (more old new after step) p

asked_now : {tables : TablesValue} {w : Workspace} {finished : Maps} {from old new : State} {key : Key} → Steps (environment tables w) finished from old
    → (step : Step (environment tables w) finished old new) → IsRead tables w finished old step.rule key → IsAskedFor tables w finished from new key
asked_now {key = key} before step (enum_read p) = of_enum_listed (subst (λ (s : State). IsOfListed s.core.map key) (sym step.is) p)
asked_now {old = old} {new = new} before step (file_read p) = of_candidate old before (more old new none step) p
asked_now {old = old} {new = new} before step (call_read p) = of_call old before (more old new none step) p
asked_now {old = old} {new = new} before step (eager_read p) = of_eager old before (more old new none step) p

-- what was asked for in the end was so at first, or is of an enum that a module lists, of a candidate or of a call
pub asked_by : {tables : TablesValue} {w : Workspace} {finished : Maps} {from to : State} → IsInRange from → Steps (environment tables w) finished from to
    → (key : Key) → Contains to.core.asked key
    → Contains from.core.asked key ⊎ IsAskedFor tables w finished from to key
asked_by p none key h = inl h
asked_by {tables = tables} {w = w} {finished = finished} {from = from} p (more old new before step) key h =
    elim (Contains-append_cases old.core.asked (keys_read (reads old step.rule)) key (subst (λ (ks : List Key). Contains ks key) (asked-Step step) h)) as
    (λ _. Contains from.core.asked key ⊎ IsAskedFor tables w finished from new key) [
      | inl earlier ↦ elim (asked_by p before key earlier) as (λ _. Contains from.core.asked key ⊎ IsAskedFor tables w finished from new key) [
        | inl first ↦ inl first
        | inr later ↦ inr (asked_before step later)
      ]
      | inr now ↦ inr (asked_now before step (caused tables w finished old step.rule step.may step.sees step.numbered (in_range-Steps before p) key now))
    ]
