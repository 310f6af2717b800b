-- A run's map seen from a state on the way: each module lists what it lists there, what is still to be visited declares, and
-- what expansions yet to come do.
use Rattle.std.proofs.Common.{◌≡◌, ◌∙◌, ◌<◌, ◌≤◌, ◌+◌, ℕ, Bool, true, false, List, [], ◌∷◌, ◌++◌, length, Option, Some, inl, inr, refl, sym, ap, subst, arith}
use Rattle.std.proofs.Common.{append-nil, append_assoc, Contains}
use Rattle.std.proofs.lemmas.Bool.{cases_lt}
use Rattle.hir_collector_rules.specs.HirIds.declared.ids.MapId.{MapId}
use Rattle.hir_collector_rules.specs.HirIds.declared.ids.ModuleDefId.{ModuleDefId}
use Rattle.hir_collector_rules.specs.HirIds.declared.ids.ModuleDefId.TheVariants as definitions
use Rattle.hir_collector_rules.specs.HirItemTree.KeptForest.{KeptForest, KeptItem, item, no_items}
use Rattle.hir_collector_rules.specs.HirPerNs.declared.visibility.Visibility.{Visibility}
use Rattle.hir_collector_rules.specs.HirTables.Tables.{TablesValue}
use Rattle.hir_collector_rules.specs.HirDefMapRules.Overlay.{Maps}
use Rattle.hir_collector_rules.specs.HirDefMapRules.State.{Map, ModuleValue, module_at, new_id, new_module, numbered}
use Rattle.hir_collector_rules.proofs.HirDefMapRules.StaysWellFormed.{length-made}
use Rattle.hir_collector_rules.specs.HirMapParts.declared.origin.ModuleOrigin.{ModuleOrigin}
use Rattle.hir_collector_rules.specs.declared.site.Site.{Site}
use Rattle.hir_collector_rules.specs.Causes.{declarations_of}
use Rattle.hir_collector_rules.specs.Changes.{Change, makes, act, perform}
use Rattle.hir_collector_rules.specs.Derivation.{CollectedValue}
use Rattle.hir_collector_rules.specs.ItemIds.{module_id}
use Rattle.hir_collector_rules.specs.Start.{Beginning}
use Rattle.hir_collector_rules.specs.State.{Core, State, Task, behind, visits, closes, visits_over}
use Rattle.hir_collector_rules.specs.Steps.{closing, visit}
use Rattle.hir_collector_rules.specs.Workspace.{Workspace}
use Rattle.hir_collector_rules.proofs.InRange.{VisitsBelow}
use Rattle.hir_def_collector_laws.specs.Declares.{Declares, DeclaresOne, HaveNoCall, IsModuleOf, ListsFirst, module_alone}
use Rattle.hir_def_collector_laws.specs.Expansions.{Expansion, IsExpansion, at_home, expanded_in}
use Rattle.hir_def_collector_laws.specs.Modules.{ListsItsItems}
use Rattle.hir_def_collector_laws.proofs.Lists.{at_home-above, at_home-below, at_home-both, at_home-nothing, at_home-same}
use Rattle.hir_def_collector_laws.proofs.Passed.{StayHelpers, StayHelpers-perform}
use Rattle.hir_def_collector_laws.proofs.Listings.{Stays, StaysAt, Stays-perform, Stays-trans, added-perform, all_added, all_made, data-perform, id-perform}
use Rattle.hir_def_collector_laws.proofs.Listings.{length-perform, made_there}

-- ---- definitions of visits

-- some for each visit
abbrev pub ForEach : List Task → Type 0
ForEach [] = Unit {0}
ForEach (visits v ∷ ts) = List ModuleDefId × ForEach ts
ForEach (closes parent child ∷ ts) = ForEach ts

-- in a module
abbrev pub gathered : ℕ → (vs : List Task) → ForEach vs → List ModuleDefId
gathered k [] p = []
gathered k (visits v ∷ ts) p = at_home v.site.home k p.0 ++ gathered k ts p.1
gathered k (closes parent child ∷ ts) p = gathered k ts p

-- those of the items of one site, all together
abbrev pub altogether : (s : Site) (is : KeptForest) → ForEach (visits_over s is) → List ModuleDefId
altogether s no_items p = []
altogether s (item i is) p = p.0 ++ altogether s is p.1

pub gathered_at : (k : ℕ) (s : Site) (is : KeptForest) (p : ForEach (visits_over s is)) → gathered k (visits_over s is) p ≡ at_home s.home k (altogether s is p)
gathered_at k s no_items p = sym (at_home-nothing s.home k)
gathered_at k s (item i is) p =
    ap (λ (xs : List ModuleDefId). at_home s.home k p.0 ++ xs) (gathered_at k s is p.1) ∙ sym (at_home-both s.home k p.0 (altogether s is p.1))

pub gathered_below : (k : ℕ) (vs : List Task) (p : ForEach vs) → VisitsBelow k vs → gathered k vs p ≡ []
gathered_below k [] p f = refl
gathered_below k (visits v ∷ ts) p f =
    ap (λ (xs : List ModuleDefId). xs ++ gathered k ts p.1) (at_home-below v.site.home k p.0 f.0) ∙ gathered_below k ts p.1 f.1
gathered_below k (closes parent child ∷ ts) p f = gathered_below k ts p f

abbrev pub earlier : (xs ys : List Task) → ForEach (xs ++ ys) → ForEach xs
earlier [] ys p = tt
earlier (visits v ∷ xs) ys p = (p.0, earlier xs ys p.1)
earlier (closes parent child ∷ xs) ys p = earlier xs ys p

abbrev pub others : (xs ys : List Task) → ForEach (xs ++ ys) → ForEach ys
others [] ys p = p
others (visits v ∷ xs) ys p = others xs ys p.1
others (closes parent child ∷ xs) ys p = others xs ys p

pub gathered_both : (k : ℕ) (xs ys : List Task) (p : ForEach (xs ++ ys)) → gathered k (xs ++ ys) p ≡ gathered k xs (earlier xs ys p) ++ gathered k ys
    (others xs ys p)
gathered_both k [] ys p = refl
gathered_both k (visits v ∷ xs) ys p =
    ap (λ (zs : List ModuleDefId). at_home v.site.home k p.0 ++ zs) (gathered_both k xs ys p.1)
    ∙ sym (append_assoc (at_home v.site.home k p.0) (gathered k xs (earlier xs ys p.1)) (gathered k ys (others xs ys p.1)))
gathered_both k (closes parent child ∷ xs) ys p = gathered_both k xs ys p

-- where a module is closed, none are
abbrev unclosed : (xs rest : List Task) (parent child : ℕ) → ForEach (xs ++ closes parent child ∷ rest) → ForEach (xs ++ rest)
unclosed [] rest parent child p = p
unclosed (visits v ∷ xs) rest parent child p = (p.0, unclosed xs rest parent child p.1)
unclosed (closes a b ∷ xs) rest parent child p = unclosed xs rest parent child p

gathered_unclosed : (k : ℕ) (xs rest : List Task) (parent child : ℕ) (p : ForEach (xs ++ closes parent child ∷ rest))
    → gathered k (xs ++ closes parent child ∷ rest) p ≡ gathered k (xs ++ rest) (unclosed xs rest parent child p)
gathered_unclosed k [] rest parent child p = refl
gathered_unclosed k (visits v ∷ xs) rest parent child p =
    ap (λ (zs : List ModuleDefId). at_home v.site.home k p.0 ++ zs) (gathered_unclosed k xs rest parent child p.1)
gathered_unclosed k (closes a b ∷ xs) rest parent child p = gathered_unclosed k xs rest parent child p

module _ (tables : TablesValue) (w : Workspace) (finished : Maps) (from : Beginning) (answer : CollectedValue) (last : Core) where
  -- ---- what visits declare

  -- each visit declares its definitions
  abbrev pub AllDeclare : (ℕ → List ModuleDefId) → (vs : List Task) → ForEach vs → Type 0
  AllDeclare more [] p = Unit {0}
  AllDeclare more (visits v ∷ ts) p = DeclaresOne tables w finished answer last more v.item v.done v.site p.0 × AllDeclare more ts p.1
  AllDeclare more (closes parent child ∷ ts) p = AllDeclare more ts p

  pub declare_altogether : (more : ℕ → List ModuleDefId) (s : Site) (is : KeptForest) (p : ForEach (visits_over s is)) → AllDeclare more (visits_over s is) p
      → Declares tables w finished answer last more is s (altogether s is p)
  declare_altogether more s no_items p f = refl
  declare_altogether more s (item i is) p f = (p.0, altogether s is p.1, f.0, declare_altogether more s is p.1 f.1, refl)

  pub earlier_declare : (more : ℕ → List ModuleDefId) (xs ys : List Task) (p : ForEach (xs ++ ys)) → AllDeclare more (xs ++ ys) p
      → AllDeclare more xs (earlier xs ys p)
  earlier_declare more [] ys p f = tt
  earlier_declare more (visits v ∷ xs) ys p f = (f.0, earlier_declare more xs ys p.1 f.1)
  earlier_declare more (closes parent child ∷ xs) ys p f = earlier_declare more xs ys p f

  pub others_declare : (more : ℕ → List ModuleDefId) (xs ys : List Task) (p : ForEach (xs ++ ys)) → AllDeclare more (xs ++ ys) p
      → AllDeclare more ys (others xs ys p)
  others_declare more [] ys p f = f
  others_declare more (visits v ∷ xs) ys p f = others_declare more xs ys p.1 f.1
  others_declare more (closes parent child ∷ xs) ys p f = others_declare more xs ys p f

  declare_unclosed : (more : ℕ → List ModuleDefId) (xs rest : List Task) (parent child : ℕ) (p : ForEach (xs ++ closes parent child ∷ rest))
      → AllDeclare more (xs ++ closes parent child ∷ rest) p
      → AllDeclare more (xs ++ rest) (unclosed xs rest parent child p)
  declare_unclosed more [] rest parent child p f = f
  declare_unclosed more (visits v ∷ xs) rest parent child p f = (f.0, declare_unclosed more xs rest parent child p.1 f.1)
  declare_unclosed more (closes a b ∷ xs) rest parent child p f = declare_unclosed more xs rest parent child p f

  -- ---- a map on the way, what is to be visited, and the expansions yet to come

  -- these expansions declare so much in each module from a number on
  abbrev pub Agrees : (ℕ → List ModuleDefId) → List Expansion → ℕ → Type 0
  Agrees more es n = (k : ℕ) → n ≤ k → more k ≡ expanded_in es k

  -- what holds where this is what expansions declare in each module
  pub record Holds (more : ℕ → List ModuleDefId) (es : List Expansion) (n : ℕ) (vs : List Task) (listed : ForEach vs) : Type 0 where
    pub pending : AllDeclare more vs listed
    pub modules : (k : ℕ) → n ≤ k → k < length answer.map.modules → ListsItsItems tables w finished from answer last more k
    pub expanded : (e : Expansion) → Contains es e → IsExpansion tables w finished answer last more e

  pub record IsAhead (es : List Expansion) (m : Map) (vs : List Task) : Type 0 where
    pub id : m.id ≡ answer.map.id
    pub crate_data : m.crate_data ≡ answer.map.crate_data
    pub fewer : length m.modules ≤ length answer.map.modules
    pub stays : Stays m answer.map
    pub helpers : StayHelpers m answer.map
    pub listed : ForEach vs
    pub lists : (k : ℕ) → k < length m.modules → declarations_of (module_at answer.map k) ≡ declarations_of (module_at m k) ++
        (gathered k vs listed ++ expanded_in es k)
    -- whatever expansions declare in modules that are there already
    pub holds : (more : ℕ → List ModuleDefId) → Agrees more es (length m.modules) → Holds more es (length m.modules) vs listed

  -- where a module is closed, nothing is ahead that isn't without it
  ahead_closing : (es : List Expansion) (m : Map) (xs rest : List Task) (parent child : ℕ) → IsAhead es m (xs ++ closes parent child ∷ rest)
      → IsAhead es m (xs ++ rest)
  ahead_closing es m xs rest parent child q = record {
    id = q.id;
    crate_data = q.crate_data;
    fewer = q.fewer;
    stays = q.stays;
    helpers = q.helpers;
    listed = unclosed xs rest parent child q.listed;
    lists =
        λ k low. q.lists k low ∙ ap (λ (zs : List ModuleDefId). declarations_of (module_at m k) ++ (zs ++ expanded_in es k))
        (gathered_unclosed k xs rest parent child q.listed);
    holds = λ more agrees.
        let h : Holds more es (length m.modules) (xs ++ closes parent child ∷ rest) q.listed = q.holds more agrees in
        record { pending = declare_unclosed more xs rest parent child q.listed h.pending; modules = h.modules; expanded = h.expanded };
  }

  pub ahead_unclosed : (es : List Expansion) (m : Map) (xs rest : List Task) (marked : Bool) (parent child : ℕ)
      → IsAhead es m ((xs ++ closing marked parent child) ++ rest) → IsAhead es m (xs ++ rest)
  ahead_unclosed es m xs rest marked parent child q =
      go marked (subst (λ (ts : List Task). IsAhead es m ts) (append_assoc xs (closing marked parent child) rest) q)
    where
      go : (b : Bool) → IsAhead es m (xs ++ (closing b parent child ++ rest)) → IsAhead es m (xs ++ rest)
      go true f = ahead_closing es m xs rest parent child f
      go false f = f

  module _ (es : List Expansion) (s : State) (cs : List Change) where
    abbrev before : Map
    before = s.core.map

    abbrev after : Map
    after = (perform s cs).core.map

    -- back over changes, where what they list, what comes next and what is expanded later is what is declared before
    pub back_to : {next vs : List Task} (sooner : List Expansion) (q : IsAhead es after next) (listed : ForEach vs)
        → ((k : ℕ) → k < length before.modules → all_added cs k ++ (gathered k next q.listed ++ expanded_in es k) ≡ gathered k vs listed ++ expanded_in sooner
        k)
        → ((more : ℕ → List ModuleDefId) → Agrees more sooner (length before.modules) → Holds more sooner (length before.modules) vs listed)
        → IsAhead sooner before vs
    back_to {next = next} {vs = vs} sooner q listed same holds =
        let grown : length after.modules ≡ length before.modules + all_made cs = length-perform cs s in
        record {
          id = sym (id-perform cs s) ∙ q.id;
          crate_data = sym (data-perform cs s) ∙ q.crate_data;
          fewer = omega (arith, grown, q.fewer);
          stays = Stays-trans before after answer.map (Stays-perform cs s) q.stays;
          helpers = λ node path h. q.helpers node path (StayHelpers-perform cs s node path h);
          listed = listed;
          lists = λ k low.
              q.lists k (omega (arith, grown, low))
              ∙ ap (λ (xs : List ModuleDefId). xs ++ (gathered k next q.listed ++ expanded_in es k)) (added-perform cs s k low)
              ∙ append_assoc (declarations_of (module_at before k)) (all_added cs k) (gathered k next q.listed ++ expanded_in es k)
              ∙ ap (λ (xs : List ModuleDefId). declarations_of (module_at before k) ++ xs) (same k low);
          holds = holds;
        }

    -- where nothing is expanded
    pub back : {next vs : List Task} (q : IsAhead es after next) (listed : ForEach vs)
        → ((k : ℕ) → k < length before.modules → all_added cs k ++ gathered k next q.listed ≡ gathered k vs listed)
        → ((more : ℕ → List ModuleDefId) → Agrees more es (length before.modules) → Holds more es (length before.modules) vs listed) → IsAhead es before vs
    back {next = next} {vs = vs} q listed same holds =
        back_to es q listed
        (λ k low. sym (append_assoc (all_added cs k) (gathered k next q.listed) (expanded_in es k)) ∙ ap (λ (xs : List ModuleDefId). xs ++ expanded_in es k)
        (same k low)) holds

    -- and no module is made
    pub back_same : {next vs : List Task} (q : IsAhead es after next) (listed : ForEach vs) → all_made cs ≡ 0
        → ((k : ℕ) → all_added cs k ++ gathered k next q.listed ≡ gathered k vs listed) → ((more : ℕ → List ModuleDefId) → AllDeclare more next q.listed
        → AllDeclare more vs listed) → IsAhead es before vs
    back_same {next = next} q listed none_made same declare =
        let grown : length after.modules ≡ length before.modules + all_made cs = length-perform cs s in
        back q listed (λ k low. same k)
        (λ more agrees.
        let h : Holds more es (length after.modules) next q.listed = q.holds more (λ k past. agrees k (omega (arith, grown, none_made, past))) in
        record { pending = declare more h.pending; modules = λ k past below. h.modules k (omega (arith, grown, none_made, past)) below; expanded = h.expanded })

    -- an item that lists what it declares
    pub back_one : (site : Site) (i : KeptItem) (done : ℕ) (rest : List Task) (defs : List ModuleDefId)
        → ((more : ℕ → List ModuleDefId) → DeclaresOne tables w finished answer last more i done site defs) → all_made cs ≡ 0
        → ((k : ℕ) → all_added cs k ≡ at_home site.home k defs) → IsAhead es after rest → IsAhead es before (visits (behind (visit site i) done) ∷ rest)
    back_one site i done rest defs declares none_made adds q =
        back_same q (defs, q.listed) none_made (λ k. ap (λ (xs : List ModuleDefId). xs ++ gathered k rest q.listed) (adds k)) (λ more f. (declares more, f))

  -- ---- a module that is made

  module _ (es : List Expansion) (s : State) (home : ℕ) (name : List ℕ) (origin : ModuleOrigin) (vis : Visibility) (cs : List Change) (low : home < length s.core.map.modules) (none_made : all_made cs ≡ 0)
      (adds : (k : ℕ) → all_added cs k ≡ at_home home k (definitions.ModuleId (new_id s.core.map) ∷ [])) where
    abbrev old_map : Map
    old_map = s.core.map

    abbrev number : ℕ
    number = length s.core.map.modules

    abbrev made : State
    made = act s (makes home name origin vis)

    abbrev new_map : Map
    new_map = (perform made cs).core.map

    one_more : length new_map.modules ≡ number + 1
    one_more =
        let all : length new_map.modules ≡ number + (1 + all_made cs) = length-perform (makes home name origin vis ∷ cs) s in
        omega (arith, all, none_made)

    there : module_at made.core.map number ≡ Some (new_module origin vis (Some (module_id old_map home)))
    there = made_there old_map home name (new_module origin vis (Some (module_id old_map home)))

    module _ {next : List Task} (q : IsAhead es new_map next) where
      in_answer : number < length answer.map.modules
      in_answer = let fewer : length new_map.modules ≤ length answer.map.modules = q.fewer in omega (arith, one_more, fewer)

      own_id : old_map.id ≡ answer.map.id
      own_id = sym (id-perform (makes home name origin vis ∷ cs) s) ∙ q.id

      pub is_module : (site : Site) → site.home ≡ home → IsModuleOf answer.map site origin number
      is_module site same =
          let stays : StaysAt (module_at answer.map number) (new_module origin vis (Some (module_id old_map home))) = Stays-trans made.core.map new_map
          answer.map (Stays-perform cs made) q.stays number _ there in
          record {
            value = stays.value;
            there = stays.there;
            origin_is = stays.origin;
            parent = stays.parent ∙ ap (λ (id : MapId). Some (numbered id home)) own_id ∙ ap (λ (h : ℕ). Some (numbered answer.map.id h)) (sym same);
          }

      -- it lists what comes next in it, and what is expanded in it
      pub module_lists : declarations_of (module_at answer.map number) ≡ gathered number next q.listed ++ expanded_in es number
      module_lists =
          let longer : length made.core.map.modules ≡ number + 1 = length-made old_map home name (new_module origin vis (Some (module_id old_map home))) in
          let inside_made : number < length made.core.map.modules = omega (arith, longer) in
          q.lists number (omega (arith, one_more))
          ∙ ap (λ (xs : List ModuleDefId). xs ++ (gathered number next q.listed ++ expanded_in es number))
          (added-perform cs made number inside_made ∙ ap (λ (o : Option ModuleValue). declarations_of o ++ all_added cs number) there ∙ adds number ∙
          at_home-below home number _ low)

      pub back_made : (site : Site) (i : KeptItem) (done : ℕ) (rest : List Task) → site.home ≡ home
          → ((more : ℕ → List ModuleDefId) → Agrees more es number → AllDeclare more next q.listed → DeclaresOne tables w finished answer last more i done site
          (module_alone answer.map number))
          → ((more : ℕ → List ModuleDefId) → Agrees more es number → AllDeclare more next q.listed → ListsItsItems tables w finished from answer last more
          number)
          → (listed : ForEach rest) → ((k : ℕ) → k < number → gathered k next q.listed ≡ gathered k rest listed)
          → ((more : ℕ → List ModuleDefId) → AllDeclare more next q.listed → AllDeclare more rest listed)
          → IsAhead es old_map (visits (behind (visit site i) done) ∷ rest)
      back_made site i done rest same declares lists listed gathers declare =
          back es s (makes home name origin vis ∷ cs) q (module_alone answer.map number, listed)
          (λ k below.
          ap (λ (xs : List ModuleDefId). xs ++ gathered k next q.listed)
          (adds k ∙ ap (λ (id : MapId). at_home home k (definitions.ModuleId (numbered id number) ∷ [])) own_id
          ∙ ap (λ (h : ℕ). at_home h k (module_alone answer.map number)) (sym same))
          ∙ ap (λ (xs : List ModuleDefId). at_home site.home k (module_alone answer.map number) ++ xs) (gathers k below))
          (λ more agrees.
          let h : Holds more es (length new_map.modules) next q.listed = q.holds more (λ k past. agrees k (omega (arith, one_more, past))) in
          record {
            pending = (declares more agrees h.pending, declare more h.pending);
            modules = λ k past below. elim (cases_lt number k) [
              | inl later ↦ h.modules k (omega (arith, one_more, later)) below
              | inr here ↦ subst (λ (n : ℕ). ListsItsItems tables w finished from answer last more n) (omega (arith, past, here)) (lists more agrees h.pending)
            ];
            expanded = h.expanded;
          })

    -- where the items of one site in it come next
    module _ (inner : Site) (items : KeptForest) (rest : List Task) (here : inner.home ≡ number) (apart : VisitsBelow number rest) (q : IsAhead es new_map (visits_over inner items ++ rest)) where
      abbrev first_visits : ForEach (visits_over inner items)
      first_visits = earlier (visits_over inner items) rest q.listed

      abbrev last_visits : ForEach rest
      last_visits = others (visits_over inner items) rest q.listed

      abbrev inside_defs : List ModuleDefId
      inside_defs = altogether inner items first_visits

      gathered_here : gathered number (visits_over inner items ++ rest) q.listed ≡ inside_defs
      gathered_here =
          gathered_both number (visits_over inner items) rest q.listed
          ∙ ap (λ (xs : List ModuleDefId). gathered number (visits_over inner items) first_visits ++ xs) (gathered_below number rest last_visits apart)
          ∙ append-nil (gathered number (visits_over inner items) first_visits)
          ∙ gathered_at number inner items first_visits
          ∙ ap (λ (h : ℕ). at_home h number inside_defs) here
          ∙ at_home-same number inside_defs

      pub items_listed : (HaveNoCall answer.map.crate_data.registered_tools items → expanded_in es number ≡ []) → (more : ℕ → List ModuleDefId)
          → Agrees more es number → AllDeclare more (visits_over inner items ++ rest) q.listed
          → ListsFirst answer.map more number items (λ own. Declares tables w finished answer last more items inner own)
      items_listed quiet more agrees f =
          let same : more number ≡ expanded_in es number = agrees number (omega arith) in
          record {
            own = inside_defs;
            declared = declare_altogether more inner items first_visits (earlier_declare more (visits_over inner items) rest q.listed f);
            listed =
                module_lists q ∙ ap (λ (xs : List ModuleDefId). xs ++ expanded_in es number) gathered_here ∙ ap (λ (xs : List ModuleDefId). inside_defs ++ xs)
                (sym same);
            alone = λ none. same ∙ quiet none;
          }

      pub items_apart : (k : ℕ) → k < number → gathered k (visits_over inner items ++ rest) q.listed ≡ gathered k rest last_visits
      items_apart k low_k =
          gathered_both k (visits_over inner items) rest q.listed
          ∙ ap (λ (xs : List ModuleDefId). xs ++ gathered k rest last_visits)
          (gathered_at k inner items first_visits ∙ at_home-above inner.home k inside_defs (omega (arith, low_k, here)))
