-- What a run asks of sources, texts of macros aside, it asks of its own crate's.
use Rattle.std.proofs.Common.{◌≡◌, ◌∙◌, ◌⊎◌, inl, inr, ℕ, zero, suc, ◌<◌, List, [], ◌∷◌, ◌++◌, Option, Some, None, refl, sym, ap, subst, arith, Contains}
use Rattle.std.proofs.lemmas.List.Elements.{Contains-append_cases}
use Rattle.hir_collector_rules.specs.HirIds.declared.ids.Crate.{Crate}
use Rattle.hir_collector_rules.specs.HirIds.declared.edition.Edition.{Edition}
use Rattle.hir_collector_rules.specs.HirIds.declared.macro_kind.MacroId.{MacroId}
use Rattle.hir_collector_rules.specs.HirIds.declared.macro_kind.MacroId.TheVariants as macros
use Rattle.hir_collector_rules.specs.HirIds.declared.ids.ModuleId.{ModuleId}
use Rattle.hir_collector_rules.specs.HirDefMapRules.Overlay.{Maps}
use Rattle.hir_collector_rules.specs.HirTables.Tables.{TablesValue}
use Rattle.hir_collector_rules.specs.Calls.{Expanding, Grown, InnerMacro, entry_readings, expansion_readings, grown_readings, inner_readings, text_readings}
use Rattle.hir_collector_rules.specs.Derivation.{CollectedValue, Ends}
use Rattle.hir_collector_rules.specs.Keys.{Environment, dependency_keys, environment, keys_behind}
use Rattle.hir_collector_rules.specs.ModuleFiles.{LookedAt, Reading, Tried, file_readings, tried_in}
use Rattle.hir_collector_rules.specs.Start.{Beginning, begin_of, held_keys, holder_keys, holders_by, krate_of, read_by}
use Rattle.hir_collector_rules.specs.State.{State}
use Rattle.hir_collector_rules.specs.Steps.{Rule, declares_enum, opens_file, drops_file, misses_file, expands_call, meets_macro, keys_read, reads, Step, Steps, none, more}
use Rattle.hir_collector_rules.specs.Workspace.{Workspace, transitive_dependencies_in}
use Rattle.hir_collector_rules.specs.declared.macro_directive.MacroDirective.{MacroDirective}
use Rattle.hir_collector_rules.specs.declared.source_database.Key.{Key}
use Rattle.hir_collector_rules.specs.declared.source_database.Key.TheVariants as keys
use Rattle.hir_collector_rules.specs.declared.start.Start.{Start}
use Rattle.hir_collector_rules.specs.declared.start.Start.TheVariants as starts
use Rattle.hir_collector_rules.proofs.Changes.{asked-Step, id-Step}

-- the crate under which a key asks for a tree, variants or an input
abbrev pub crate_of_key : Key → Option Crate
crate_of_key (keys.Tree key) = Some key.krate
crate_of_key (keys.Variants id) = Some id.loc.container.map.krate
crate_of_key (keys.Input krate ast) = Some krate
crate_of_key (keys.Text id) = None
crate_of_key (keys.Expansion id) = None
crate_of_key (keys.Map id) = None
crate_of_key (keys.Config krate) = None

-- it is this crate, if there is one
abbrev pub IsOwnKey : Crate → Key → Type 0
IsOwnKey own key = (crate_of_key key ≡ None) ⊎ (crate_of_key key ≡ Some own)

abbrev AreOwn : Crate → List Key → Type 0
AreOwn own [] = Unit {0}
AreOwn own (key ∷ others) = IsOwnKey own key × AreOwn own others

both : (own : Crate) (xs ys : List Key) → AreOwn own xs → AreOwn own ys → AreOwn own (xs ++ ys)
both own [] ys f g = g
both own (x ∷ xs) ys f g = (f.0, both own xs ys f.1 g)

of_each : (own : Crate) (xs : List Key) → AreOwn own xs → (key : Key) → Contains xs key → IsOwnKey own key
of_each own [] f key h = absurd (let past : h.0 < 0 = h.1 in omega arith)
of_each own (x ∷ xs) f key (zero, within, is) = subst (IsOwnKey own) is f.0
of_each own (x ∷ xs) f key (suc n, within, is) = of_each own xs f.1 key (n, omega arith, is)

of_files : (own : Crate) (edition : Edition) (tried : List Tried) → AreOwn own (keys_read (file_readings own edition tried))
of_files own edition [] = tt
of_files own edition (t ∷ ts) = go t.file (of_files own edition ts)
  where
    go : (o : Option LookedAt) → AreOwn own (keys_read (file_readings own edition ts))
        → AreOwn own (keys_read (file_readings own edition (record t { file = o } ∷ ts)))
    go None others = others
    go (Some f) others = (inr refl, others)

of_dependencies : (own : Crate) (crates : List Crate) → AreOwn own (dependency_keys crates)
of_dependencies own [] = tt
of_dependencies own (c ∷ cs) = (inl refl, (inl refl, of_dependencies own cs))

of_holders : (own : Crate) (holders : List ModuleId) → AreOwn own (holder_keys holders)
of_holders own [] = tt
of_holders own (h ∷ hs) = (inl refl, of_holders own hs)

of_held : (own : Crate) (start : Start) (holders : List ModuleId) → AreOwn own (held_keys start holders)
of_held own (starts.Crate krate root) holders = tt
of_held own (starts.Block krate block holder at) holders = (inl refl, of_holders own holders)

-- ---- calls

in_both : (own : Crate) (xs ys : List Reading) → AreOwn own (keys_read xs) → AreOwn own (keys_read ys) → AreOwn own (keys_read (xs ++ ys))
in_both own [] ys f g = g
in_both own (x ∷ xs) ys f g = (f.0, in_both own xs ys f.1 g)

of_text : (own : Crate) (makro : MacroId) (text : Option (List ℕ)) → AreOwn own (keys_read (text_readings makro text))
of_text own (macros.Macro2Id id) text = (inl refl, tt)
of_text own (macros.MacroRulesId id) text = (inl refl, tt)
of_text own (macros.ProcMacroId id) text = tt

of_inner : (own : Crate) (inner : List InnerMacro) → AreOwn own (keys_read (inner_readings inner))
of_inner own [] = tt
of_inner own (i ∷ is) = in_both own (text_readings i.makro i.text) (inner_readings is) (of_text own i.makro i.text) (of_inner own is)

of_grown : (own : Crate) (grown : Option Grown) → AreOwn own (keys_read (grown_readings grown))
of_grown own None = tt
of_grown own (Some g) = (inl refl, of_inner own g.macros)

of_expansion : (own : Crate) (d : MacroDirective) (x : Expanding) → AreOwn own (keys_read (expansion_readings own d x))
of_expansion own d x = (inr refl, in_both own (grown_readings x.grown) (entry_readings own x) (of_grown own x.grown) (inl refl, (inr refl, tt)))

-- ---- steps

reads_own : (s : State) (r : Rule) → AreOwn s.core.map.id.krate (keys_read (reads s r))
reads_own s (declares_enum site head name found rest) = (inr refl, tt)
reads_own s (opens_file site head name search f rest) = of_files s.core.map.id.krate s.core.map.crate_data.edition (tried_in search)
reads_own s (drops_file site head name search report rest) = of_files s.core.map.id.krate s.core.map.crate_data.edition (tried_in search)
reads_own s (misses_file site head name search report rest) = of_files s.core.map.id.krate s.core.map.crate_data.edition (tried_in search)
reads_own s (expands_call i d makro x) =
    in_both s.core.map.id.krate (text_readings makro x.text) (expansion_readings s.core.map.id.krate d x) (of_text s.core.map.id.krate makro x.text)
    (of_expansion s.core.map.id.krate d x)
reads_own s (meets_macro i d makro x) =
    in_both s.core.map.id.krate (text_readings makro x.text) _ (of_text s.core.map.id.krate makro x.text) (inr refl, (inl refl, tt))
reads_own s other = tt

-- a run asked so
record AsksOwn (own : Crate) (s : State) : Type 0 where
  pub krate : s.core.map.id.krate ≡ own
  pub asked : AreOwn own s.core.asked

own-Step : (own : Crate) (env : Environment) (finished : Maps) (old new : State) → AsksOwn own old → Step env finished old new → AsksOwn own new
own-Step own env finished old new so_far step = record {
  krate = ap (λ (id : _). id.krate) (id-Step step) ∙ so_far.krate;
  asked = subst (AreOwn own) (sym (asked-Step step)) (both own old.core.asked (keys_read (reads old step.rule)) so_far.asked
      (subst (λ (c : Crate). AreOwn c (keys_read (reads old step.rule))) so_far.krate (reads_own old step.rule)));
}

own-Steps : (own : Crate) (env : Environment) (finished : Maps) (first last : State) → AsksOwn own first → Steps env finished first last → AsksOwn own last
own-Steps own env finished first last so_far none = so_far
own-Steps own env finished first last so_far (more old new before step) =
    own-Step own env finished old new (own-Steps own env finished first old so_far before) step

-- ---- a run

begins_own : (tables : TablesValue) (w : Workspace) (all : Maps) (from : Beginning) → AsksOwn (krate_of from.start) (begin_of tables w all from)
begins_own tables w all from = go from.start
  where
    go : (start : Start) → AsksOwn (krate_of start) (begin_of tables w all (record from { start = start }))
    go (starts.Crate krate root) = record { krate = refl; asked = (inr refl, tt) }
    go (starts.Block krate block holder at) = record {
      krate = refl;
      asked = (inr refl, of_held krate (starts.Block krate block holder at) (holders_by all (starts.Block krate block holder at)));
    }

-- each key for which a run asked is one of its own crate's sources, or none of sources, or a macro's text
pub asks_own : (tables : TablesValue) (w : Workspace) (all : Maps) (from : Beginning) (answer : CollectedValue) → Ends tables w all from answer → (key : Key)
    → Contains answer.asked key → IsOwnKey (krate_of from.start) key
asks_own tables w all from answer e key h =
    let own : Crate = krate_of from.start in
    let transitive : List Crate = transitive_dependencies_in w own in
    let last : AsksOwn own e.last = own-Steps own (environment tables w) (read_by w all from.start) (begin_of tables w all from) e.last
    (begins_own tables w all from) e.derived in
    of_each own (e.last.core.asked ++ keys_behind own transitive)
    (both own e.last.core.asked (keys_behind own transitive) last.asked (inl refl, of_dependencies own transitive)) key
    (subst (λ (ks : List Key). Contains ks key) e.asked_is h)
