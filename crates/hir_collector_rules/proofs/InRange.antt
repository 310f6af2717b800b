-- What is to be visited, each import and each call is of a module that is there.
use Rattle.std.proofs.Common.{◌≡◌, ℕ, zero, suc, ◌+◌, ◌<◌, ◌≤◌, Bool, true, false, ◌||◌, List, [], ◌∷◌, ◌++◌, length, map as list_map, slice_get, Option, None}
use Rattle.std.proofs.Common.{Some, refl, sym, subst, arith, append_assoc}
use Rattle.hir_nameres.specs.HirIds.declared.ids.AdtId.{AdtId}
use Rattle.hir_nameres.specs.HirIds.declared.ast_id.AstId.{AstId}
use Rattle.hir_nameres.specs.HirIds.declared.ast_id.AttrId.{AttrId}
use Rattle.hir_nameres.specs.HirIds.declared.ids.UseId.{UseId}
use Rattle.hir_item_tree.specs.KeptForest.{Head, KeptForest, no_items, item}
use Rattle.hir_item_tree.specs.Imports.{imports_of}
use Rattle.hir_use_tree.specs.declared.imports.Import.{Import}
use Rattle.hir_nameres.specs.HirRawVisibility.declared.raw_visibility.RawVisibility.{RawVisibility}
use Rattle.hir_mod_dir.specs.Directory.{Directory}
use Rattle.hir_mod_dir.specs.ModuleFiles.{inline_directory}
use Rattle.hir_nameres.specs.HirDefMapRules.State.{Map, ModuleValue, new_module, with_module}
use Rattle.hir_nameres.specs.HirDefMapRules.Overlay.{Maps}
use Rattle.hir_nameres.proofs.HirDefMapRules.Grown.{length-changed}
use Rattle.hir_nameres.proofs.HirDefMapRules.StaysWellFormed.{length-made}
use Rattle.hir_import_rules.specs.declared.directive.ImportDirective.{ImportDirective}
use Rattle.hir_import_rules.specs.Rules.{acts as import_acts}
use Rattle.hir_collector_rules.specs.Types.{MacroDirective, Site}
use Rattle.hir_collector_rules.specs.Calls.{call_site, error_of}
use Rattle.hir_collector_rules.specs.Keys.{Environment}
use Rattle.hir_collector_rules.specs.State.{State, Task, Visit, visits, closes, import_state, visits_over}
use Rattle.hir_nameres.specs.HirBase.ModPath.{Path}
use Rattle.hir_use_tree.specs.UseTree.{count_of}
use Rattle.hir_collector_rules.specs.Attributes.{attr_id, item_node}
use Rattle.hir_collector_rules.specs.ItemIds.{macro_rules_id, module_id, use_id}
use Rattle.hir_collector_rules.specs.Items.{file_origin, inline_origin, own_visibility}
use Rattle.hir_collector_rules.specs.Imports.{reached_import}
use Rattle.hir_collector_rules.specs.Macros.{is_macro_use}
use Rattle.hir_collector_rules.specs.Moves.{begun}
use Rattle.hir_collector_rules.specs.Changes.{Change, lists, makes, gives_variants, begins_paths, reaches, awaits, ends, settles, changes_imports, adds_textual}
use Rattle.hir_collector_rules.specs.Changes.{takes_textual, defines, describes, helps, lists_derive, notes, exports, uses_macros, tells, goes_on, act, on_map}
use Rattle.hir_collector_rules.specs.Steps.{Rule, drops_item, awaits_attribute, lists_derives, faults_derive, exports_macro, reaches_call, rests}
use Rattle.hir_collector_rules.specs.Steps.{expands_call, meets_macro}
use Rattle.hir_collector_rules.specs.Steps.{drops_call, drops_reached, derives_builtin, skips_attribute, falls_back, defines_rules, defines_macro}
use Rattle.hir_collector_rules.specs.Steps.{closes_module, closing, declares_item, declares_enum, lists_constant, lists_impl, opens_module, opens_file}
use Rattle.hir_collector_rules.specs.Steps.{drops_file, misses_file, enters_block, reaches_imports, reaches_crate, resolves_imports, May, acts, asking}
use Rattle.hir_collector_rules.specs.Steps.{derives_from, inside_block, inside_file, inside_module, path_of, visits_in_file, visits_inside, Step, Steps, none}
use Rattle.hir_collector_rules.specs.Steps.{more}
use Rattle.hir_collector_rules.proofs.Changes.{AllFine, all_fine, fine_bringing, fine_expanding, fine_macro, fine_reporting, perform_keeps}
use Rattle.hir_collector_rules.proofs.Grows.{Grows, Grows-act}
use Rattle.hir_collector_rules.proofs.ImportEdits.{imports_after}

-- each visit is of a module that is there
abbrev pub VisitsBelow : ℕ → List Task → Type 0
VisitsBelow n [] = Unit {0}
VisitsBelow n (visits v ∷ ts) = (v.site.home < n) × VisitsBelow n ts
VisitsBelow n (closes parent child ∷ ts) = VisitsBelow n ts

-- so is each import
abbrev pub ImportsBelow : ℕ → List ImportDirective → Type 0
ImportsBelow n [] = Unit {0}
ImportsBelow n (r ∷ rs) = (r.home < n) × ImportsBelow n rs

-- and each call
abbrev pub CallsBelow : ℕ → List MacroDirective → Type 0
CallsBelow n [] = Unit {0}
CallsBelow n (d ∷ ds) = (d.site.home < n) × CallsBelow n ds

pub record IsInRange (s : State) : Type 0 where
  pub visits : VisitsBelow (length s.core.map.modules) s.agenda
  pub imports : ImportsBelow (length s.core.map.modules) s.core.reached
  pub calls : CallsBelow (length s.core.map.modules) s.core.calls

-- ---- lists

visits_more : (n k : ℕ) → n ≤ k → (vs : List Task) → VisitsBelow n vs → VisitsBelow k vs
visits_more n k low [] f = tt
visits_more n k low (visits v ∷ ts) f = let first : v.site.home < n = f.0 in (omega arith, visits_more n k low ts f.1)
visits_more n k low (closes parent child ∷ ts) f = visits_more n k low ts f

imports_more : (n k : ℕ) → n ≤ k → (rs : List ImportDirective) → ImportsBelow n rs → ImportsBelow k rs
imports_more n k low [] f = tt
imports_more n k low (r ∷ rs) f = let first : r.home < n = f.0 in (omega arith, imports_more n k low rs f.1)

imports_joined : (n : ℕ) (rs ts : List ImportDirective) → ImportsBelow n rs → ImportsBelow n ts → ImportsBelow n (rs ++ ts)
imports_joined n [] ts f g = g
imports_joined n (r ∷ rs) ts f g = (f.0, imports_joined n rs ts f.1 g)

pub import_at : (n : ℕ) (rs : List ImportDirective) (i : ℕ) (r : ImportDirective) → ImportsBelow n rs → slice_get rs i ≡ Some r → r.home < n
import_at n [] i r f e = absurd cc
import_at n (x ∷ xs) zero r f e = let same : x ≡ r = cc in subst (λ (y : ImportDirective). y.home < n) same f.0
import_at n (x ∷ xs) (suc i) r f e = import_at n xs i r f.1 e

calls_more : (n k : ℕ) → n ≤ k → (ds : List MacroDirective) → CallsBelow n ds → CallsBelow k ds
calls_more n k low [] f = tt
calls_more n k low (d ∷ ds) f = let first : d.site.home < n = f.0 in (omega arith, calls_more n k low ds f.1)

calls_joined : (n : ℕ) (ds es : List MacroDirective) → CallsBelow n ds → CallsBelow n es → CallsBelow n (ds ++ es)
calls_joined n [] es f g = g
calls_joined n (d ∷ ds) es f g = (f.0, calls_joined n ds es f.1 g)

pub call_below : (n : ℕ) (ds : List MacroDirective) (i : ℕ) (d : MacroDirective) → CallsBelow n ds → slice_get ds i ≡ Some d → d.site.home < n
call_below n [] i d f e = absurd cc
call_below n (x ∷ xs) zero d f e = let same : x ≡ d = cc in subst (λ (y : MacroDirective). y.site.home < n) same f.0
call_below n (x ∷ xs) (suc i) d f e = call_below n xs i d f.1 e

-- visits of one site come before others
pub visits_before : (n : ℕ) (s : Site) → s.home < n → (is : KeptForest) (rest : List Task) → VisitsBelow n rest → VisitsBelow n (visits_over s is ++ rest)
visits_before n s low no_items rest f = f
visits_before n s low (item i is) rest f = (low, visits_before n s low is rest f)

-- visits of one site alone
pub visits_of : (n : ℕ) (s : Site) → s.home < n → (is : KeptForest) → VisitsBelow n (visits_over s is)
visits_of n s low no_items = tt
visits_of n s low (item i is) = (low, visits_of n s low is)

pub next_below : (n : ℕ) (ts : List Task) (v : Visit) (rest : List Task) → VisitsBelow n ts → ts ≡ visits v ∷ rest → (v.site.home < n) × VisitsBelow n rest
next_below n ts v rest f e = subst (VisitsBelow n) e f

-- a module that is closed comes before others
closing_before : (n : ℕ) (marked : Bool) (parent child : ℕ) (rest : List Task) → VisitsBelow n rest → VisitsBelow n (closing marked parent child ++ rest)
closing_before n true parent child rest f = f
closing_before n false parent child rest f = f

-- visits of one site come before it
pub visits_closed : (n : ℕ) (s : Site) → s.home < n → (is : KeptForest) (marked : Bool) (parent child : ℕ) (rest : List Task) → VisitsBelow n rest
    → VisitsBelow n ((visits_over s is ++ closing marked parent child) ++ rest)
visits_closed n s low is marked parent child rest f =
    subst (VisitsBelow n) (sym (append_assoc (visits_over s is) (closing marked parent child) rest))
    (visits_before n s low is (closing marked parent child ++ rest) (closing_before n marked parent child rest f))

imports_of_use : (n home : ℕ) → home < n → (by : UseId) (vis : RawVisibility) (is : List Import) → ImportsBelow n (list_map (reached_import home by vis) is)
imports_of_use n home low by vis [] = tt
imports_of_use n home low by vis (i ∷ is) = (low, imports_of_use n home low by vis is)

-- ---- changes

-- where imports or calls are come upon, or what is to be visited changes, these are of modules that are there
abbrev StaysInRange : State → Change → Type 0
StaysInRange s (reaches rs) = ImportsBelow (length s.core.map.modules) rs
StaysInRange s (awaits calls) = CallsBelow (length s.core.map.modules) calls
StaysInRange s (goes_on vs) = VisitsBelow (length s.core.map.modules) vs
StaysInRange s other = Unit {0}

in_larger : (s : State) (m : Map) → Grows s.core.map m → IsInRange s → IsInRange (on_map s m)
in_larger s m grows p = record {
  visits = visits_more (length s.core.map.modules) (length m.modules) grows.longer s.agenda p.visits;
  imports = imports_more (length s.core.map.modules) (length m.modules) grows.longer s.core.reached p.imports;
  calls = calls_more (length s.core.map.modules) (length m.modules) grows.longer s.core.calls p.calls;
}

in_range-act : (s : State) (c : Change) → IsInRange s → StaysInRange s c → IsInRange (act s c)
in_range-act s (lists home d) p fine = in_larger s _ (Grows-act s (lists home d)) p
in_range-act s (makes home name origin visibility) p fine = in_larger s _ (Grows-act s (makes home name origin visibility)) p
in_range-act s (gives_variants id variants) p fine = in_larger s _ (Grows-act s (gives_variants id variants)) p
in_range-act s (reaches rs) p fine =
    record { visits = p.visits; imports = imports_joined (length s.core.map.modules) s.core.reached rs p.imports fine; calls = p.calls }
in_range-act s (awaits calls) p fine =
    record { visits = p.visits; imports = p.imports; calls = calls_joined (length s.core.map.modules) s.core.calls calls p.calls fine }
in_range-act s (changes_imports c) p fine =
    let larger : IsInRange (on_map s (act s (changes_imports c)).core.map) = in_larger s _ (Grows-act s (changes_imports c)) p in
    record {
      visits = larger.visits;
      imports =
          subst (λ (rs : List ImportDirective). ImportsBelow (length (act s (changes_imports c)).core.map.modules) rs) (sym (imports_after (import_state s) c))
          larger.imports;
      calls = larger.calls;
    }
in_range-act s (adds_textual home name makro) p fine = in_larger s _ (Grows-act s (adds_textual home name makro)) p
in_range-act s (takes_textual home from) p fine = in_larger s _ (Grows-act s (takes_textual home from)) p
in_range-act s (defines node makro) p fine = in_larger s _ (Grows-act s (defines node makro)) p
in_range-act s (describes makro what) p fine = in_larger s _ (Grows-act s (describes makro what)) p
in_range-act s (helps node helper) p fine = in_larger s _ (Grows-act s (helps node helper)) p
in_range-act s (lists_derive home imp) p fine = in_larger s _ (Grows-act s (lists_derive home imp)) p
in_range-act s (notes home invocation) p fine = in_larger s _ (Grows-act s (notes home invocation)) p
in_range-act s (uses_macros macros by) p fine = in_larger s _ (Grows-act s (uses_macros macros by)) p
in_range-act s (tells d) p fine = in_larger s _ (Grows-act s (tells d)) p
in_range-act s (goes_on vs) p fine = record { visits = fine; imports = p.imports; calls = p.calls }
in_range-act s other p fine = record { visits = p.visits; imports = p.imports; calls = p.calls }

-- ---- modules that are made

-- visits of the next module come before others
made_before : (n : ℕ) (s : Site) → s.home ≡ n → (is : KeptForest) (marked : Bool) (parent child : ℕ) (rest : List Task) → VisitsBelow n rest
    → VisitsBelow (n + 1) ((visits_over s is ++ closing marked parent child) ++ rest)
made_before n s here is marked parent child rest f =
    visits_closed (n + 1) s (omega arith) is marked parent child rest (visits_more n (n + 1) (omega arith) rest f)

inside_before : (m : Map) (s : Site) (head : Head) (dir : Option Directory) (is : KeptForest) (rest : List Task) → VisitsBelow (length m.modules) rest
    → VisitsBelow (length m.modules + 1) (visits_inside m s head dir is ++ rest)
inside_before m s head None is rest f = visits_more (length m.modules) (length m.modules + 1) (omega arith) rest f
inside_before m s head (Some dir) is rest f =
    made_before (length m.modules) (inside_module m s dir) refl is (is_macro_use head.attributes) s.home (length m.modules) rest f

-- so is all of a module that is there once the next one is
below_made : (m : Map) (home : ℕ) (name : List ℕ) (new : ModuleValue) (ts : List Task) → VisitsBelow (length m.modules + 1) ts
    → VisitsBelow (length (begun m home name new).modules) ts
below_made m home name new ts f =
    let made : Map = with_module m home name new in
    let longer : length made.modules ≡ length m.modules + 1 = length-made m home name new in
    let same : length (begun m home name new).modules ≡ length made.modules = length-changed made.modules (length m.modules) _ in
    visits_more (length m.modules + 1) (length (begun m home name new).modules) (omega arith) ts f

-- ---- rules

-- the paths of a derive are called where it is written
derives_below : (n : ℕ) (site : Site) (node : AstId) (attr : AttrId) (adt : AdtId) → site.home < n → (index : ℕ) (paths : List Path)
    → CallsBelow n (derives_from site node attr adt index paths)
derives_below n site node attr adt low index [] = tt
derives_below n site node attr adt low index (path ∷ paths) = (low, derives_below n site node attr adt low (count_of (index + 1)) paths)

module _ (s : State) (p : IsInRange s) (v : Visit) (rest : List Task) (next : s.agenda ≡ visits v ∷ rest) where
  -- the next item is of a module that is there, and so is each that stays
  pub next_home : v.site.home < length s.core.map.modules
  next_home = (next_below (length s.core.map.modules) s.agenda v rest p.visits next).0

  left : VisitsBelow (length s.core.map.modules) rest
  left = (next_below (length s.core.map.modules) s.agenda v rest p.visits next).1

stays_in_range : (finished : Maps) (s : State) (r : Rule) → May finished s r → IsInRange s → AllFine StaysInRange (asking s r) (acts finished s r)
stays_in_range finished s (drops_item v report rest) may p = (left s p v rest may.next, (tt, tt))
stays_in_range finished s (declares_item v d rest) may p = (left s p _ rest may.here.next, (tt, (tt, tt)))
stays_in_range finished s (declares_enum site head name found rest) may p = (left s p _ rest may.next, (tt, (tt, (tt, tt))))
stays_in_range finished s (lists_constant site head rest) may p = (left s p _ rest may.next, (tt, tt))
stays_in_range finished s (lists_impl site head of_trait rest) may p = (left s p _ rest may.next, (tt, tt))
stays_in_range finished s (opens_module site head name items rest) may p =
    let m : Map = s.core.map in
    let inside : Option Directory = inline_directory site.dir name (path_of head) in
    let new : ModuleValue = new_module (inline_origin site.tree head.id) (own_visibility finished s.core.local m site head) (Some (module_id m site.home)) in (
      tt,
      (
        tt,
        (
          below_made m site.home name new (visits_inside m site head inside items ++ rest)
              (inside_before m site head inside items rest (left s p _ rest may.next)),
          (tt, (tt, tt)),
        ),
      ),
    )
stays_in_range finished s (opens_file site head name search file rest) may p =
    let m : Map = s.core.map in
    let new : ModuleValue = new_module (file_origin site.tree head.id m.crate_data.edition file) (own_visibility finished s.core.local m site head)
    (Some (module_id m site.home)) in
    let below = made_before (length m.modules) (inside_file m file) refl file.tree.items (is_macro_use head.attributes || is_macro_use file.tree.attributes)
    site.home (length m.modules) rest
    (left s p _ rest may.looks.here.next) in
    (tt, (tt, (below_made m site.home name new (visits_in_file m site head file ++ rest) below, (tt, (tt, tt)))))
stays_in_range finished s (drops_file site head name search report rest) may p = (left s p _ rest may.looks.here.next, (tt, tt))
stays_in_range finished s (misses_file site head name search report rest) may p =
    let n : ℕ = length s.core.map.modules in (
      tt,
      (
        tt,
        (
          below_made s.core.map site.home name _ rest (visits_more n (n + 1) (omega arith) rest (left s p _ rest may.looks.here.next)),
          (tt, (tt, (tt, tt))),
        ),
      ),
    )
stays_in_range finished s (enters_block site head items rest) may p = (
  visits_before (length s.core.map.modules) (inside_block s.core.map site head) (next_home s p _ rest may.next) items rest (left s p _ rest may.next),
  (tt, tt),
)
stays_in_range finished s (reaches_imports site head tree rest) may p =
    let below = imports_of_use (length s.core.map.modules) site.home (next_home s p _ rest may.next) (use_id s.core.map site head.id) head.visibility
    (imports_of tree) in
    (left s p _ rest may.next, (below, (tt, tt)))
stays_in_range finished s (reaches_crate site head name alias rest) may p =
    (left s p _ rest may.next, (tt, (tt, ((next_home s p _ rest may.next, tt), (tt, tt)))))
stays_in_range finished s (defines_rules site head name expander helpers rest) may p = (
  left s p _ rest may.next,
  (
    tt,
    (
      tt,
      (
        tt,
        fine_macro StaysInRange _ _ expander (λ t. tt) head name (macro_rules_id s.core.map site head.id expander)
            (λ t. tt) _,
      ),
    ),
  ),
)
stays_in_range finished s (defines_macro site head name expander helpers rest) may p =
    (left s p _ rest may.next, (tt, (tt, (tt, (tt, fine_reporting StaysInRange _ _ expander (λ t. tt) _)))))
stays_in_range finished s (closes_module parent child rest) may p = (subst (VisitsBelow (length s.core.map.modules)) may p.visits, (tt, tt))
stays_in_range finished s (awaits_attribute v a k rest) may p = (left s p v rest may.has.on.next, ((next_home s p v rest may.has.on.next, tt), tt))
stays_in_range finished s (lists_derives v at a adt paths call rest) may p =
    let here : v.site.home < length s.core.map.modules = next_home s p v rest may.has.on.next in (
      (here, left s p v rest may.has.on.next),
      (
        derives_below (length s.core.map.modules) v.site (item_node v.site v.item) (attr_id a) adt here 0 paths,
        (tt, tt),
      ),
    )
stays_in_range finished s (faults_derive v at report rest) may p = ((next_home s p v rest may.has.on.next, left s p v rest may.has.on.next), (tt, tt))
stays_in_range finished s (exports_macro site head name d e rest) may p = (left s p _ rest may.here.next, (tt, (tt, (tt, (tt, (tt, (tt, tt)))))))
stays_in_range finished s (reaches_call site head path rest) may p = (left s p _ rest may.next, ((next_home s p _ rest may.next, tt), tt))
stays_in_range finished s rests may p = (tt, tt)
stays_in_range finished s (expands_call i d makro x) may p =
    let here : d.site.home < length s.core.map.modules = call_below (length s.core.map.modules) s.core.calls i d p.calls may.called.due.waiting.call in (
      tt,
      (
        visits_of (length s.core.map.modules) (call_site d x.id) here x.tree.tree.items,
        (tt, fine_expanding StaysInRange _ (λ t helper. tt) _ _ d (error_of x.there) (λ t text. tt) _),
      ),
    )
stays_in_range finished s (meets_macro i d makro x) may p = (tt, tt)
stays_in_range finished s (drops_call i d) may p = (tt, tt)
stays_in_range finished s (drops_reached i d makro) may p = (tt, fine_bringing StaysInRange _ (λ t helper. tt) _ _)
stays_in_range finished s (derives_builtin i d makro imp) may p = (tt, (tt, (tt, fine_bringing StaysInRange _ (λ t helper. tt) _ _)))
stays_in_range finished s (skips_attribute i d k kept_item) may p =
    (tt, ((call_below (length s.core.map.modules) s.core.calls i d p.calls may.due.waiting.call, tt), tt))
stays_in_range finished s (falls_back i d k kept_item) may p =
    (tt, (tt, ((call_below (length s.core.map.modules) s.core.calls i d p.calls may.waiting.call, tt), tt)))
stays_in_range finished s (resolves_imports rule) may p = all_fine StaysInRange (λ t c. tt) (import_acts finished (import_state s) rule) s

pub in_range-Step : {env : Environment} {finished : Maps} {old new : State} → Step env finished old new → IsInRange old → IsInRange new
in_range-Step {finished = finished} {old = old} step p =
    let done = perform_keeps IsInRange StaysInRange in_range-act (acts finished old step.rule) (asking old step.rule)
    (record { visits = p.visits; imports = p.imports; calls = p.calls }) (stays_in_range finished old step.rule step.may p) in
    subst IsInRange (sym step.is) (record { visits = done.visits; imports = done.imports; calls = done.calls })

pub in_range-Steps : {env : Environment} {finished : Maps} {from to : State} → Steps env finished from to → IsInRange from → IsInRange to
in_range-Steps none p = p
in_range-Steps (more old new before step) p = in_range-Step step (in_range-Steps before p)
