-- What is asked for of a call whose macro asks for paths first.
use Rattle.std.proofs.Common.{◌≡◌, ◌∙◌, ◌==◌, ℕ, true, false, ◌++◌, List, [], ◌∷◌, length, Option, None, Some, Result, Ok, Err, refl, sym, ap, subst, inl, inr, map, arith}
use Rattle.std.specs.Prelude.{IfOk, IsSome, OnOk}
use Rattle.std.proofs.lemmas.Bool.Decides.{nat_tests}
use Rattle.std.proofs.lemmas.List.{nil_from_length}
use Rattle.std.specs.List.{All}
use Rattle.std.proofs.lemmas.List.Elements.{All-head, All-map, All-tail, All-weaker}
use Rattle.hir_collector_state.specs.HirBase.ModPath.{Path}
use Rattle.hir_collector_state.specs.HirBase.declared.macro_kind.MacroText.{MacroText}
use Rattle.hir_collector_state.specs.HirIds.declared.ast_id.EntryId.{EntryId}
use Rattle.hir_collector_state.specs.HirIds.declared.ids.Crate.{Crate}
use Rattle.hir_collector_state.specs.HirIds.declared.macro_kind.MacroId.{MacroId}
use Rattle.hir_collector_state.specs.HirTables.Interning.{IsFull}
use Rattle.hir_collector_state.specs.HirTables.SourcePlaces.{ExpansionValue, SourcePlaceValue, expansion}
use Rattle.hir_collector_state.specs.HirTables.Tables.{KeepsTables, TablesValue, call_at, entry_at, source_of}
use Rattle.hir_collector_state.proofs.HirTables.Growth.{KeepsTables-trans}
use Rattle.hir_collector_state.specs.HirDefMapRules.Overlay.{Maps}
use Rattle.hir_collector_state.specs.HirDefMapRules.State.{Local, Map}
use Rattle.hir_collector_state.specs.HirItemTree.SourceTree.{SourceTreeValue}
use Rattle.hir_collector_state.specs.HirCollectorRules.declared.source_database.Key.{Key}
use Rattle.hir_collector_state.specs.HirCollectorRules.declared.source_database.Key.TheVariants as keys
use Rattle.hir_collector_state.specs.HirCollectorRules.declared.macro_directive.MacroDirective.{MacroDirective}
use Rattle.hir_collector_state.specs.HirCollectorRules.CallMoves.{SeesCall, SeesEager}
use Rattle.hir_collector_state.specs.HirCollectorRules.Calls.{AreReached, EagerLook, Expanding, InnerMacro, IsMeantCall, IsNumberedCall, IsNumberedEager}
use Rattle.hir_collector_state.specs.HirCollectorRules.Calls.{asked_first, call_key, call_kind, call_loc, call_style, call_tree, called_text, eager_readings, entry_readings, error_of}
use Rattle.hir_collector_state.specs.HirCollectorRules.Calls.{expansion_of_call, expansion_readings, first_missing, grown_by, inner_macro, inner_readings, text_by, text_readings}
use Rattle.hir_collector_state.specs.HirCollectorRules.Keys.{Environment, IsMeant, entry_under, environment, input_at}
use Rattle.hir_collector_state.specs.HirCollectorRules.Keys.{node_tree, of_entry, of_input, of_text, of_tree, source_in, text_at}
use Rattle.hir_collector_state.specs.HirCollectorRules.Moves.{OnceGrown}
use Rattle.hir_collector_state.specs.HirCollectorRules.NumberedOut.{IsCallNumberedOut, LacksExpansion, expansion_by, grown, no_entry}
use Rattle.hir_collector_state.specs.HirCollectorRules.State.{Core, with_asked}
use Rattle.hir_collector_state.specs.HirCollectorRules.Steps.{Sees, keys_read, with_keys}
use Rattle.hir_collector_state.specs.HirCollectorRules.Workspace.{Workspace, seen_of}
use Rattle.hir_collector_state.proofs.HirCollectorRules.Meaning.{looks_stand}
use Rattle.hir_collector_state.proofs.HirCollectorRules.Numbers.{full_out, still_out, tables_stay}
use Rattle.hir_collector_state.proofs.HirCollectorRules.ModuleFiles.{call_kept, eager_kept, macro_kept, site_kept, source_kept}
use Rattle.hir_call_expansion.specs.Looks.{IsBehindPaths, IsLook, IsLookBehind, LacksBehind}
use Rattle.hir_call_expansion.specs.declared.expansion.CallLook.{CallLook}
use Rattle.hir_call_expansion.specs.declared.expansion.Expansion.{Expansion}
use Rattle.hir_call_expansion.specs.declared.expansion.CallLook.TheVariants.{Expands, Waits}
use Rattle.hir_call_expansion.proofs.Looking.{Sees-append, keys_read-append, sees_call, sees_text, source_of_call, text_of_it, with_keys-append}

-- ---- the macros that paths reach

module _ (finished : Maps) (w : Workspace) (local : Local) (m : Map) (tables : TablesValue) where
  -- one of them with its text, and all
  abbrev pub inner_at : MacroId → InnerMacro
  inner_at makro = record { makro = makro; text = called_text finished m makro (text_at tables w makro) }

  abbrev pub inner_of : List MacroId → List InnerMacro
  inner_of found = map inner_at found

  pub all_reached : (home : ℕ) (paths : List Path) (found : List MacroId)
      → map (inner_macro finished local m home) paths ≡ map (λ (makro : MacroId). Some makro) found → AreReached finished local m home paths (inner_of found)
  all_reached home [] [] is = tt
  all_reached home [] (x ∷ xs) is = absurd (let no : ⊥ = cc in no)
  all_reached home (p ∷ ps) [] is = absurd (let no : ⊥ = cc in no)
  all_reached home (p ∷ ps) (x ∷ xs) is =
      let first : inner_macro finished local m home p ≡ Some x = cc in
      let others : map (inner_macro finished local m home) ps ≡ map (λ (makro : MacroId). Some makro) xs = cc in
      (first, text_of_it finished m x (called_text finished m x (text_at tables w x)) (text_at tables w x) refl, all_reached home ps xs others)

  pub inner_are : (found : List MacroId) → map (λ (i : InnerMacro). i.makro) (inner_of found) ≡ found
  inner_are [] = refl
  inner_are (x ∷ xs) = ap (λ (ms : List MacroId). x ∷ ms) (inner_are xs)

  pub inner_texts : (found : List MacroId) → map text_by (inner_of found) ≡ map (λ (makro : MacroId). text_by (inner_at makro)) found
  inner_texts [] = refl
  inner_texts (x ∷ xs) = ap (λ (ts : List MacroText). text_by (inner_at x) ∷ ts) (inner_texts xs)

  module _ (later : TablesValue) (kept : KeepsTables tables later) (found : List MacroId) (meant : All (IsMeant tables) found) where
    pub inner_meant : All (λ (i : InnerMacro). IsMeant later i.makro) (inner_of found)
    inner_meant =
        All-map (λ (i : InnerMacro). IsMeant later i.makro) inner_at found
        (All-weaker (IsMeant tables) (IsMeant later) (λ makro. macro_kept tables later kept makro) found meant)

    -- their texts stay as tables grow
    pub inner_told : All (λ (i : InnerMacro). i.text ≡ called_text finished m i.makro (text_at later w i.makro)) (inner_of found)
    inner_told =
        All-map (λ (i : InnerMacro). i.text ≡ called_text finished m i.makro (text_at later w i.makro)) inner_at found
        (All-weaker (IsMeant tables)
        (λ (makro : MacroId). called_text finished m makro (text_at tables w makro) ≡ called_text finished m makro (text_at later w makro)) stays found meant)
      where
        stays : (makro : MacroId) → IsMeant tables makro
            → called_text finished m makro (text_at tables w makro) ≡ called_text finished m makro (text_at later w makro)
        stays makro there =
            let look : of_text (text_at later w makro) ≡ of_text (text_at tables w makro) =
            looks_stand tables later w finished (keys.Text makro) kept there in
            let same : text_at tables w makro ≡ text_at later w makro = cc in
            ap (λ (t : Option (List ℕ)). called_text finished m makro t) same

-- what is read of them is there, and stays as tables grow
sees_inner : (tables : TablesValue) (w : Workspace) (finished : Maps) (m : Map) (bigger : TablesValue) → KeepsTables tables bigger → (maps : Maps) (inner : List InnerMacro)
    → All (λ (i : InnerMacro). IsMeant tables i.makro) inner
    → All (λ (i : InnerMacro). i.text ≡ called_text finished m i.makro (text_at tables w i.makro)) inner
    → Sees (environment bigger w) maps (inner_readings inner)
sees_inner tables w finished m bigger kept maps [] meant told = tt
sees_inner tables w finished m bigger kept maps (i ∷ is) meant told =
    Sees-append (environment bigger w) maps (text_readings i.makro i.text) (inner_readings is)
    (sees_text tables w finished m i.makro i.text (All-head (λ (i : InnerMacro). IsMeant tables i.makro) i is meant)
    (All-head (λ (i : InnerMacro). i.text ≡ called_text finished m i.makro (text_at tables w i.makro)) i is told) bigger kept maps)
    (sees_inner tables w finished m bigger kept maps is (All-tail (λ (i : InnerMacro). IsMeant tables i.makro) i is meant)
    (All-tail (λ (i : InnerMacro). i.text ≡ called_text finished m i.makro (text_at tables w i.makro)) i is told))

-- ---- what is found

module _ (first tables : TablesValue) (w : Workspace) (finished : Maps) (c new : Core) (d : MacroDirective) (makro : MacroId) (text input : Option (List ℕ))
    (kept : KeepsTables first tables) (meant : IsMeantCall first d) (of_macro : IsMeant first makro)
    (text_is : text ≡ called_text finished c.map makro (text_at first w makro)) (input_is : input ≡ input_at first w c.map.id.krate d.ast_id) where
  abbrev own : Crate
  own = c.map.id.krate

  abbrev key : ExpansionValue
  key = expansion_of_call own (call_style d) makro text input

  abbrev paths : List Path
  paths = asked_first makro (w.entry key)

  -- the keys that were asked for by then: the macro's text and the input
  abbrev before : List Key
  before = with_keys c.asked (keys_read (text_readings makro text)) ++ keys.Input own d.ast_id ∷ []

  abbrev mid : Core
  mid = record c { asked = before }

  of_input_at : (bigger : TablesValue) (k : KeepsTables tables bigger) → of_input (input_at bigger w own d.ast_id) ≡ of_input input
  of_input_at bigger k =
      looks_stand first bigger w finished (keys.Input own d.ast_id) (KeepsTables-trans first tables bigger kept k) meant.node ∙ ap of_input (sym input_is)

  text_seen : (bigger : TablesValue) (k : KeepsTables tables bigger) (maps : Maps) → Sees (environment bigger w) maps (text_readings makro text)
  text_seen bigger k maps = sees_text first w finished c.map makro text of_macro text_is bigger (KeepsTables-trans first tables bigger kept k) maps

  module _ (entry : EntryId) (at : entry_at tables entry ≡ Some key) where
    -- what is seen of a call that waits
    abbrev waiting : EagerLook
    waiting = record { text = text; input = input; entry = entry; there = w.entry key }

    sees_waiting : IsSome (first_missing finished c.local c.map d.site.home paths) → new ≡ with_asked mid (keys.Expansion entry)
        → SeesEager tables w finished d makro c new waiting
    sees_waiting missing asked =
        let numbered : IsNumberedEager tables own d makro waiting = record { meant = macro_kept first tables kept makro of_macro; entry = at } in
        record {
          text = text_of_it finished c.map makro text (text_at first w makro) text_is;
          numbered = λ bigger k. eager_kept tables bigger k own d makro waiting numbered;
          sees = λ bigger k maps.
              Sees-append (environment bigger w) maps (text_readings makro text)
              (record { key = keys.Input own d.ast_id; there = of_input input } ∷ record { key = keys.Expansion entry; there = of_entry (w.entry key) } ∷ [])
              (text_seen bigger k maps)
              (of_input_at bigger k, (ap (λ (o : Option ExpansionValue). of_entry (entry_under w o)) (k.entries entry.0 key at), tt));
          missing = missing;
          asked = asked ∙ ap (λ (ks : List Key). record c { asked = ks }) all;
        }
      where
        behind : List Key
        behind = keys.Input own d.ast_id ∷ keys.Expansion entry ∷ []

        all : before ++ keys.Expansion entry ∷ [] ≡ with_keys c.asked (keys_read (eager_readings own d makro waiting))
        all =
            sym (with_keys-append c.asked (keys_read (text_readings makro text)) behind)
            ∙ ap (λ (ks : List Key). with_keys c.asked ks) (sym (keys_read-append (text_readings makro text)
            (record { key = keys.Input own d.ast_id; there = of_input input } ∷ record { key = keys.Expansion entry; there = of_entry (w.entry key) } ∷ [])))

  module _ (e : Expansion) (b : IsBehindPaths tables w finished d key paths mid new e) where
    abbrev grown_key : ExpansionValue
    grown_key = grown_by b.macros key

    -- what is seen of one that is expanded
    abbrev x : Expanding
    x = record {
      text = text;
      input = input;
      grown = Some (record { entry = b.first; there = w.entry key; macros = b.macros });
      entry = b.entry;
      id = e.id;
      there = w.entry grown_key;
      tree = seen_of e.source.value;
    }

    numbered : IsNumberedCall tables own d makro x
    numbered = record { meant = macro_kept first tables kept makro of_macro; entry = b.grown; call = b.call; first = (b.asks, b.meant) }

    place : source_of tables (call_tree e.id) ≡ Some (expansion grown_key)
    place = source_of_call tables e.id (call_loc d b.entry) grown_key b.call b.grown

    place_there : IsSome (source_of tables (call_tree e.id))
    place_there = subst (λ (o : Option SourcePlaceValue). IsSome o) (sym place) refl

    sees_entry : (bigger : TablesValue) (k : KeepsTables tables bigger) (maps : Maps) → Sees (environment bigger w) maps (entry_readings own x)
    sees_entry bigger k maps = (
      ap (λ (o : Option ExpansionValue). of_entry (entry_under w o)) (k.entries b.entry.0 grown_key b.grown),
      (
        looks_stand tables bigger w maps (keys.Tree (call_key own e.id)) k place_there ∙ ap (λ (s : SourceTreeValue). of_tree (seen_of s)) (sym b.source),
        tt,
      ),
    )

    asked_all_behind : new ≡ record c { asked = with_keys c.asked (keys_read (text_readings makro text ++ expansion_readings own d x)) }
    asked_all_behind =
        let inner : List Key = keys_read (inner_readings b.macros) in
        let ends : List Key = keys_read (entry_readings own x) in
        let began : List Key = before ++ keys.Expansion b.first ∷ [] in
        b.asked
        ∙ ap (λ (ks : List Key). record c { asked = ks })
        (sym (with_keys-append began inner ends)
        ∙ ap (λ (ks : List Key). with_keys began ks) (sym (keys_read-append (inner_readings b.macros) (entry_readings own x)))
        ∙ sym (with_keys-append c.asked (keys_read (text_readings makro text)) (keys_read (expansion_readings own d x)))
        ∙ ap (λ (ks : List Key). with_keys c.asked ks) (sym (keys_read-append (text_readings makro text) (expansion_readings own d x))))

    sees_expanding : ¬ (paths ≡ []) → SeesCall tables w finished d makro c new x e.source.value
    sees_expanding some = record {
      text = text_of_it finished c.map makro text (text_at first w makro) text_is;
      first = (some, b.reached);
      numbered = λ bigger k. call_kept tables bigger k own d makro x numbered;
      sees = λ bigger k maps.
          Sees-append (environment bigger w) maps (text_readings makro text) (expansion_readings own d x) (text_seen bigger k maps) (
            of_input_at bigger k,
            (
              ap (λ (o : Option ExpansionValue). of_entry (entry_under w o)) (k.entries b.first.0 key b.asks),
              Sees-append (environment bigger w) maps (inner_readings b.macros) (entry_readings own x)
                  (sees_inner tables w finished c.map bigger k maps b.macros b.meant b.texts) (sees_entry bigger k maps),
            ),
          );
      tree = refl;
      asked = asked_all_behind;
      written = record { tree = place_there; file = (site_kept first tables kept d.site meant.site).file };
    }

  -- where its macro asks for none, the expansion is looked up by the key as it is
  pub look_at_once : paths ≡ [] → (e : Expansion) (entry : EntryId) → entry_at tables entry ≡ Some key → call_at tables e.id ≡ Some (call_loc d entry)
      → e.error ≡ error_of (w.entry key)
      → e.source.value ≡ source_in tables w (call_key own e.id)
      → new ≡ with_asked (with_asked mid (keys.Expansion entry)) (keys.Tree (call_key own e.id)) → IsLook tables w finished d makro c new (Expands e)
  look_at_once nothing e entry at call error source asked = (
    once,
    sees_call first tables tables w finished c new d makro once e.source.value kept (tables_stay tables) meant of_macro nothing at call text_is input_is refl refl source
        (asked ∙ ap (λ (ks : List Key). record c { asked = ks }) all),
    refl,
    error,
  )
    where
      once : Expanding
      once = record { text = text; input = input; grown = None; entry = entry; id = e.id; there = w.entry key; tree = seen_of e.source.value }

      all : with_keys before (keys_read (entry_readings own once)) ≡ with_keys c.asked (keys_read (text_readings makro text ++ expansion_readings own d once))
      all =
          sym (with_keys-append c.asked (keys_read (text_readings makro text)) (keys_read (expansion_readings own d once)))
          ∙ ap (λ (ks : List Key). with_keys c.asked ks) (sym (keys_read-append (text_readings makro text) (expansion_readings own d once)))

  -- what is found behind the paths is what is found of the call
  pub look_behind : ¬ (paths ≡ []) → (look : CallLook) → IsLookBehind tables w finished d key paths mid new look → IsLook tables w finished d makro c new look
  look_behind some (Expands e) b = (x e b, sees_expanding e b some, refl, b.error)
  look_behind some (Waits inner) h = (waiting h.2 h.3, sees_waiting h.2 h.3 h.1 h.4, h.0)

-- ---- what can't get a number

-- what tells the paths, or the key with what they reach, or the call, has no number
pub lacks_behind : (env : Environment) (finished : Maps) (c : Core) (d : MacroDirective) (makro : MacroId) (at_first : ExpansionValue) → IsMeant env.tables makro
    → at_first ≡ expansion_by env finished c.map d makro
    → LacksBehind env finished c d at_first (asked_first makro (env.workspace.entry at_first)) → LacksExpansion env finished c.local c.map d makro
lacks_behind env finished c d makro at_first meant is lacks =
    go (subst (λ (k : ExpansionValue). LacksBehind env finished c d k (asked_first makro (env.workspace.entry k))) is lacks)
  where
    found : ExpansionValue
    found = expansion_by env finished c.map d makro

    go : LacksBehind env finished c d found (asked_first makro (env.workspace.entry found)) → LacksExpansion env finished c.local c.map d makro
    go (inl out) = no_entry meant out
    go (inr (inner, reached, known, out)) = grown meant inner reached known out

-- where paths reach these macros, whose sources have numbers
module _ (first : TablesValue) (w : Workspace) (finished : Maps) (c : Core) (d : MacroDirective) (key : ExpansionValue) (paths : List Path) (found : List MacroId)
    (are : map (inner_macro finished c.local c.map d.site.home) paths ≡ map (λ (makro : MacroId). Some makro) found) (meant : All (IsMeant first) found) where
  abbrev inner : List InnerMacro
  inner = inner_of finished w c.local c.map first found

  abbrev wide : ExpansionValue
  wide = grown_by inner key

  abbrev then_asked : EntryId → Core
  then_asked entry = record c { asked = with_keys (with_asked c (keys.Expansion entry)).asked (keys_read (inner_readings inner)) }

  -- the expansion was looked up by the key with these
  pub found_behind : (middle tables : TablesValue) (new : Core) (e : Expansion) (entry other : EntryId) → KeepsTables first middle → KeepsTables middle tables
      → entry_at middle entry ≡ Some key → entry_at tables other ≡ Some wide → call_at tables e.id ≡ Some (call_loc d other)
      → e.error ≡ error_of (w.entry wide)
      → e.source.value ≡ source_in tables w (call_key c.map.id.krate e.id)
      → new ≡ with_asked (with_asked (then_asked entry) (keys.Expansion other)) (keys.Tree (call_key c.map.id.krate e.id))
      → IsBehindPaths tables w finished d key paths c new e
  found_behind middle tables new e entry other before after asks at call error source asked =
      let kept : KeepsTables first tables = KeepsTables-trans first middle tables before after in
      record {
        first = entry;
        asks = after.entries entry.0 key asks;
        macros = inner;
        reached = all_reached finished w c.local c.map first d.site.home paths found are;
        meant = inner_meant finished w c.local c.map first tables kept found meant;
        texts = inner_told finished w c.local c.map first tables kept found meant;
        entry = other;
        grown = at;
        call = call;
        error = error;
        source = source;
        asked = asked;
      }

  -- or gets no number
  pub out_behind : (tables : TablesValue) → KeepsTables first tables → OnceGrown tables w (λ env. IsCallNumberedOut env.tables (call_kind d) wide)
      → OnceGrown tables w (λ env. LacksBehind env finished c d key paths)
  out_behind tables kept out = λ bigger k.
      inr (
        inner,
        all_reached finished w c.local c.map first d.site.home paths found are,
        inner_meant finished w c.local c.map first bigger (KeepsTables-trans first tables bigger kept k) found meant,
        out bigger k,
      )

-- the key that tells the paths gets no number
pub key_out : (tables : TablesValue) (w : Workspace) (finished : Maps) (c : Core) (d : MacroDirective) (at_first : ExpansionValue) (ps : List Path)
    → IsFull tables.entries at_first → OnceGrown tables w (λ env. LacksBehind env finished c d at_first ps)
key_out tables w finished c d at_first ps full = λ bigger k.
    inl (still_out tables.entries bigger.entries at_first k.entries (full_out tables.entries at_first full))

-- what holds of an answer holds of it in other words
pub once_ok : {T E : Type 0} (r : Result T E) (P Q : T → Type 0) → ((t : T) → P t → Q t) → IfOk r P → IfOk r Q
once_ok (Ok t) P Q f p = f t p
once_ok (Err e) P Q f p = tt

-- a list that counts as empty is, and one that doesn't isn't
zero_long : (n : ℕ) → (n == 0) ≡ true → n ≡ 0
zero_long n h = grind (arith, nat_tests)

pub none_there : {A : Type 0} (xs : List A) → true ≡ (length xs == 0) → xs ≡ []
none_there xs h = nil_from_length xs (zero_long (length xs) (sym h))

pub some_there : {A : Type 0} (xs : List A) → false ≡ (length xs == 0) → ¬ (xs ≡ [])
some_there [] h = absurd cc
some_there (y ∷ ys) h = λ none. cc

-- what holds where something is well holds so in other words
pub when_ok : {T E : Type 0} (r : Result T E) (P Q : Type 0) → (P → Q) → OnOk r P → OnOk r Q
when_ok (Ok t) P Q f p = f p
when_ok (Err e) P Q f p = tt

-- the numbers of a call mean something as tables grow
pub meant_later : (tables bigger : TablesValue) (d : MacroDirective) → KeepsTables tables bigger → IsMeantCall tables d → IsMeantCall bigger d
meant_later tables bigger d kept meant = record {
  site = site_kept tables bigger kept d.site meant.site;
  node = source_kept tables bigger kept (node_tree d.ast_id) meant.node;
  item = meant.item;
}
