-- What is seen of a call that reaches a macro.
use Rattle.std.proofs.Common.{◌≡◌, ◌∙◌, ◌==◌, ◌⊎◌, ◌<◌, ℕ, true, List, [], length, inl, inr, Option, None, Some, Result, Ok, Err, IsErrAnd, refl, sym, ap, subst, arith}
use Rattle.std.proofs.lemmas.Bool.Decides.{nat_tests}
use Rattle.std.proofs.lemmas.List.{nil_from_length}
use Rattle.std.specs.Prelude.{IsSome, option_map}
use Rattle.std.specs.Option.{option_and_then}
use Rattle.hir_collector_rules.specs.HirIds.declared.ast_id.AstId.{AstId}
use Rattle.hir_collector_rules.specs.HirIds.declared.ids.Crate.{Crate}
use Rattle.hir_collector_rules.specs.HirIds.declared.ast_id.EntryId.{EntryId}
use Rattle.hir_collector_rules.specs.HirBase.declared.locations.LocationsError.{LocationsError}
use Rattle.hir_collector_rules.specs.HirIds.declared.ast_id.MacroCallId.{MacroCallId}
use Rattle.hir_collector_rules.specs.HirBase.ModPath.{Path}
use Rattle.hir_collector_rules.specs.HirBase.declared.macro_kind.MacroCallLoc.{MacroCallLoc}
use Rattle.hir_collector_rules.specs.HirBase.declared.macro_kind.MacroText.{MacroText}
use Rattle.hir_collector_rules.specs.HirIds.declared.macro_kind.MacroId.{MacroId}
use Rattle.hir_collector_rules.specs.HirBase.declared.locations.LocationsError.TheVariants as numbers
use Rattle.hir_collector_rules.specs.HirBase.declared.macro_kind.CallStyle.TheVariants as styles
use Rattle.hir_collector_rules.specs.HirItemTree.SourceTree.{SourceTreeValue}
use Rattle.hir_collector_rules.specs.HirTables.Interning.{IsFull}
use Rattle.hir_collector_rules.specs.HirTables.SourcePlaces.{ExpansionValue, SourcePlaceValue, expansion}
use Rattle.hir_collector_rules.specs.HirTables.Tables.{KeepsTables, TablesValue, call_at, entry_at, source_of}
use Rattle.hir_collector_rules.proofs.HirTables.Growth.{KeepsTables-trans}
use Rattle.hir_collector_rules.specs.Calls.{asked_first, call_key, call_tree, error_of, expansion_of_call}
use Rattle.hir_collector_rules.specs.Keys.{IsMeant, environment, input_at, node_tree, source_in}
use Rattle.hir_collector_rules.specs.Moves.{OnceGrown}
use Rattle.hir_collector_rules.specs.NumberedOut.{IsNumberedOut}
use Rattle.hir_collector_rules.specs.Workspace.{Workspace}
use Rattle.hir_collector_rules.proofs.Numbers.{full_out}
use Rattle.hir_assoc_items.specs.AssocItems.{ContainerValue, HasNoNumber, call_loc, call_out, crate_of, expansion_by, expansion_out, first_expansion, first_missing, inner_paths, macro_text}
use Rattle.hir_assoc_items.specs.AssocItems.{texts_reached}
use Rattle.hir_assoc_items.specs.Steps.{SeesCall, refusal_of_number}
use Rattle.hir_assoc_items.specs.declared.error.AssocItemsError.{AssocItemsError}
use Rattle.hir_assoc_items.specs.declared.error.AssocItemsError.TheVariants as errors
use Rattle.hir_assoc_items.proofs.Growth.{AreKnown, expansion_stays, paths_stay, source_in_stays}

-- the key is put together out of what was looked up, as long as no path is resolved
pub key_of_call : (tables : TablesValue) (w : Workspace) (c : ContainerValue) (node : AstId) (makro : MacroId) (krate : Crate) (text input : Option (List ℕ))
    (key : ExpansionValue)
    → key ≡ expansion_of_call krate styles.Bang makro text input → krate ≡ crate_of c → text ≡ macro_text (environment tables w) c.maps makro → input
    ≡ input_at tables w krate node
    → key ≡ first_expansion (environment tables w) c node makro
key_of_call tables w c node makro krate text input key is own of_macro of_node =
    is ∙ ap (λ (t : Option (List ℕ)). expansion_of_call krate styles.Bang makro t input) of_macro
    ∙ ap (λ (i : Option (List ℕ)). expansion_of_call krate styles.Bang makro (macro_text (environment tables w) c.maps makro) i) of_node
    ∙ ap (λ (k : Crate). expansion_of_call k styles.Bang makro (macro_text (environment tables w) c.maps makro) (input_at tables w k node)) own

-- a call whose expansion has a number expands to that source
source_of_call : (tables : TablesValue) (id : MacroCallId) (loc : MacroCallLoc) (key : ExpansionValue) → call_at tables id ≡ Some loc
    → entry_at tables loc.entry ≡ Some key
    → source_of tables (call_tree id) ≡ Some (expansion key)
source_of_call tables id loc key call entry =
    ap (λ (o : Option MacroCallLoc). option_map expansion (option_and_then (λ (l : MacroCallLoc). entry_at tables l.entry) o)) call ∙ ap
    (λ (o : Option ExpansionValue). option_map expansion o) entry

module _ (first : TablesValue) (w : Workspace) (c : ContainerValue) (node : AstId) (makro : MacroId) (meant : IsSome (source_of first (node_tree node))) (of_macro : IsMeant first makro)
    (known : AreKnown first c (inner_paths (environment first w) c node makro)) (key : ExpansionValue) (is : key ≡ expansion_by (environment first w) c node makro) where
  key_stays : (grown : TablesValue) → KeepsTables first grown → key ≡ expansion_by (environment grown w) c node makro
  key_stays grown kept = is ∙ sym (expansion_stays first grown kept w c node makro meant of_macro known)

  pub sees_call : (second tables : TablesValue) (entry : EntryId) (id : MacroCallId) (error : Option (List ℕ)) (source : SourceTreeValue)
      → KeepsTables first second → KeepsTables second tables
      → entry_at second entry ≡ Some key → call_at tables id ≡ Some (call_loc node entry) → error ≡ error_of (w.entry key) → source
      ≡ source_in tables w (call_key (crate_of c) id)
      → OnceGrown tables w (λ env. first_missing c (inner_paths env c node makro) ≡ None)
      → SeesCall tables w c node makro id error source
  sees_call second tables entry id error source before after at call told found all =
      let kept : KeepsTables first tables = KeepsTables-trans first second tables before after in
      let there : IsSome (source_of tables (call_tree id)) =
      subst (λ (o : Option SourcePlaceValue). IsSome o) (sym (source_of_call tables id (call_loc node entry) key call (after.entries entry.0 key at))) refl in
      record {
        numbered = λ grown k. record {
          entry = entry;
          depends = k.entries entry.0 key (after.entries entry.0 key at) ∙ ap Some (key_stays grown (KeepsTables-trans first tables grown kept k));
          call = k.calls id.0 (call_loc node entry) call;
        };
        told = λ grown k. told ∙ ap (λ (e : ExpansionValue). error_of (w.entry e)) (key_stays grown (KeepsTables-trans first tables grown kept k));
        brought = λ grown k. found ∙ sym (source_in_stays tables grown k w (call_key (crate_of c) id) there);
        first = all;
        meant = there;
      }

  -- the expansion gets no number
  pub no_expansion : (tables : TablesValue) → KeepsTables first tables → first_missing c (inner_paths (environment tables w) c node makro) ≡ None
      → IsFull tables.entries key
      → HasNoNumber (environment tables w) c node makro
  no_expansion tables kept all full =
      expansion_out all (subst (λ (e : ExpansionValue). IsNumberedOut tables.entries e) (key_stays tables kept) (full_out tables.entries key full))

  -- it has one, and the call gets none
  pub no_call : (tables : TablesValue) (entry : EntryId) → KeepsTables first tables → first_missing c (inner_paths (environment tables w) c node makro) ≡ None
      → entry_at tables entry ≡ Some key
      → IsFull tables.calls (call_loc node entry)
      → HasNoNumber (environment tables w) c node makro
  no_call tables entry kept all at full = call_out all entry (at ∙ ap Some (key_stays tables kept)) (full_out tables.calls (call_loc node entry) full)

  -- so it is where looking it up says so
  pub no_number : (tables : TablesValue) → KeepsTables first tables → first_missing c (inner_paths (environment tables w) c node makro) ≡ None
      → IsFull tables.entries key ⊎ ((entry : EntryId) × (entry_at tables entry ≡ Some key) × IsFull tables.calls (call_loc node entry))
      → HasNoNumber (environment tables w) c node makro
  no_number tables kept all (inl full) = no_expansion tables kept all full
  no_number tables kept all (inr (entry, at, full)) = no_call tables entry kept all at full

-- ---- the paths that a macro asks for first

module _ (first : TablesValue) (w : Workspace) (c : ContainerValue) (node : AstId) (makro : MacroId) (meant : IsSome (source_of first (node_tree node))) (of_macro : IsMeant first makro)
    (key : ExpansionValue) (is : key ≡ first_expansion (environment first w) c node makro) (paths : List Path) (are : paths ≡ asked_first makro (w.entry key)) where
  paths_at_first : paths ≡ inner_paths (environment first w) c node makro
  paths_at_first = are ∙ ap (λ (k : ExpansionValue). asked_first makro (w.entry k)) is

  pub paths_later : (grown : TablesValue) → KeepsTables first grown → paths ≡ inner_paths (environment grown w) c node makro
  paths_later grown kept = paths_at_first ∙ sym (paths_stay first grown kept w c node makro meant of_macro)

  pub all_reach : first_missing c paths ≡ None → (tables : TablesValue) → KeepsTables first tables
      → OnceGrown tables w (λ env. first_missing c (inner_paths env c node makro) ≡ None)
  all_reach none tables kept = λ grown k. ap (first_missing c) (sym (paths_later grown (KeepsTables-trans first tables grown kept k))) ∙ none

  pub known_at_first : AreKnown first c paths → AreKnown first c (inner_paths (environment first w) c node makro)
  known_at_first known = subst (λ (ps : List Path). AreKnown first c ps) paths_at_first known

  -- the key as it is, where it asks for none
  pub key_once : paths ≡ [] → key ≡ expansion_by (environment first w) c node makro
  key_once nothing =
      is
      ∙ ap (λ (ps : List Path). record (first_expansion (environment first w) c node makro) { reached = texts_reached (environment first w) c ps })
      (sym nothing ∙ paths_at_first)

  -- and with what they reach
  pub key_grown : (grown : ExpansionValue) (texts : List MacroText) → grown ≡ record key { reached = texts }
      → texts ≡ texts_reached (environment first w) c paths
      → grown ≡ expansion_by (environment first w) c node makro
  key_grown grown texts grows told =
      grows ∙ ap (λ (ts : List MacroText). record key { reached = ts }) (told ∙ ap (texts_reached (environment first w) c) paths_at_first)
      ∙ ap (λ (k : ExpansionValue). record k { reached = texts_reached (environment first w) c (inner_paths (environment first w) c node makro) }) is

-- no path is unknown where there is none
pub none_unknown : (tables : TablesValue) (c : ContainerValue) (paths : List Path) → paths ≡ [] → AreKnown tables c paths
none_unknown tables c paths nothing = subst (λ (ps : List Path). AreKnown tables c ps) (sym nothing) known
  where
    known : AreKnown tables c []
    known path inner (n, below, at) reached = absurd (let past : n < 0 = below in omega arith)

-- a list that counts as empty is
zero_long : (n : ℕ) → (n == 0) ≡ true → n ≡ 0
zero_long n h = grind (arith, nat_tests)

pub none_there : {A : Type 0} (xs : List A) → true ≡ (length xs == 0) → xs ≡ []
none_there xs h = nil_from_length xs (zero_long (length xs) (sym h))

-- ---- refusals of tables

-- too many is told only where no number is left
pub refused_full : {T U : Type 0} (given : Result T LocationsError) (told : Result U AssocItemsError) (e : LocationsError) → given ≡ Err e
    → IsErrAnd told (λ x. x ≡ refusal_of_number e)
    → told ≡ Err errors.TooMany → given ≡ Err numbers.TooMany
refused_full given (Ok x) e was refused many = absurd refused
refused_full given (Err x) numbers.TooMany was refused many = was
refused_full given (Err x) numbers.Memory was refused many = let no : ⊥ = cc in absurd no

pub refused_known : {U : Type 0} (told : Result U AssocItemsError) (e : LocationsError) → IsErrAnd told (λ x. x ≡ refusal_of_number e) → told
    ≡ Err errors.UnknownSource → ⊥
refused_known (Ok x) e refused unknown = refused
refused_known (Err x) numbers.TooMany refused unknown = cc
refused_known (Err x) numbers.Memory refused unknown = cc

-- ---- what else the tables have

pub others_first : (first middle : TablesValue) → middle ≡ record first { entries = middle.entries } → middle
    ≡ record first { entries = middle.entries; calls = middle.calls }
others_first first middle e =
    e ∙ ap (λ (ls : List MacroCallLoc). record first { entries = middle.entries; calls = ls }) (sym (ap (λ (t : TablesValue). t.calls) e))

pub others_both : (first middle tables : TablesValue) → middle ≡ record first { entries = middle.entries } → tables ≡ record middle { calls = tables.calls }
    → tables ≡ record first { entries = tables.entries; calls = tables.calls }
others_both first middle tables e f =
    f ∙ ap (λ (t : TablesValue). record t { calls = tables.calls }) e
    ∙ ap (λ (es : List ExpansionValue). record first { entries = es; calls = tables.calls }) (sym (ap (λ (t : TablesValue). t.entries) f))

pub others_later : (first middle tables : TablesValue) → middle ≡ record first { entries = middle.entries; calls = middle.calls } → tables
    ≡ record middle { entries = tables.entries; calls = tables.calls }
    → tables ≡ record first { entries = tables.entries; calls = tables.calls }
others_later first middle tables e f = f ∙ ap (λ (t : TablesValue). record t { entries = tables.entries; calls = tables.calls }) e
