-- What a search for the file of a module comes to.
use Rattle.std.proofs.Common.{◌≡◌, ◌∙◌, ℕ, zero, suc, ◌<◌, false, List, [], ◌∷◌, ◌++◌, map, Option, Some, None, slice_get, refl, sym, ap, subst, arith}
use Rattle.std.proofs.Common.{Contains}
use Rattle.std.specs.Prelude.{IsSome, option_map}
use Rattle.std.proofs.lemmas.List.Elements.{All-weaker}
use Rattle.std.specs.Option.{option_map_or, option_to_list}
use Rattle.hir_nameres.specs.HirIds.declared.ast_id.AstId.{AstId}
use Rattle.hir_nameres.specs.HirIds.declared.ast_id.AttrId.{AttrId}
use Rattle.hir_nameres.specs.HirIds.declared.ids.Crate.{Crate}
use Rattle.hir_nameres.specs.HirIds.declared.edition.Edition.{Edition}
use Rattle.hir_nameres.specs.HirIds.declared.ast_id.FileId.{FileId}
use Rattle.hir_nameres.specs.HirIds.declared.ast_id.MacroCallId.{MacroCallId}
use Rattle.hir_nameres.specs.HirIds.declared.macro_kind.MacroId.{MacroId}
use Rattle.hir_nameres.specs.HirIds.declared.macro_kind.MacroId.TheVariants as macros
use Rattle.hir_nameres.specs.HirBase.declared.tree_id.TreeId.{TreeId}
use Rattle.hir_mod_dir.specs.Directory.{Directory}
use Rattle.hir_mod_dir.specs.declared.candidate.Candidate.{Candidate}
use Rattle.hir_tables.specs.SourcePlaces.{ExpansionValue, SourcePlaceValue, file}
use Rattle.hir_tables.specs.Tables.{KeepsTables, TablesValue, file_at, source_of}
use Rattle.hir_tables.proofs.Growth.{source_of-kept}
use Rattle.hir_nameres.specs.HirDefMapRules.Overlay.{Maps}
use Rattle.hir_collector_rules.specs.Types.{Key, MacroDirective, Site}
use Rattle.hir_collector_rules.specs.declared.source_database.Key.TheVariants as keys
use Rattle.hir_collector_rules.specs.Workspace.{TreeLook, Workspace, seen_of}
use Rattle.hir_collector_rules.specs.Keys.{HasMeaning, IsMeant, Look, absent_source, environment, look, macro_tree, of_tree, source_under}
use Rattle.hir_collector_rules.specs.Attributes.{attr_id, item_node}
use Rattle.hir_collector_rules.specs.Calls.{EagerLook, Expanding, Grown, InnerMacro, IsGrownFrom, IsMeantAt, IsNumberedCall, IsNumberedDerive, IsNumberedEager}
use Rattle.hir_collector_rules.specs.Calls.{call_loc, call_style, derive_expansion, derive_loc, expansion_of_call, grown_expansion}
use Rattle.hir_collector_rules.specs.ModuleFiles.{AreAbsent, AreNumbered, AreTried, IsNumberOf, IsNumbered, LookedAt, ModuleFile, NoneIsThereBefore, Search}
use Rattle.hir_collector_rules.specs.ModuleFiles.{Tried, file_key, file_reading, file_readings, file_tree, is_there, module_file, named_by, taken_by, tried_in}
use Rattle.hir_collector_rules.specs.Steps.{Numbered, Rule, Sees, drops_item, awaits_attribute, lists_derives, faults_derive, exports_macro, reaches_call}
use Rattle.hir_collector_rules.specs.Steps.{rests, expands_call, meets_macro, drops_call, drops_reached, derives_builtin, skips_attribute, falls_back}
use Rattle.hir_collector_rules.specs.Steps.{defines_rules}
use Rattle.hir_collector_rules.specs.Steps.{defines_macro, closes_module, declares_item, declares_enum, lists_constant, lists_impl, opens_module, opens_file}
use Rattle.hir_collector_rules.specs.Steps.{drops_file, misses_file, enters_block, reaches_imports, reaches_crate, resolves_imports, keys_read}
use Rattle.hir_collector_rules.specs.State.{State}
use Rattle.hir_collector_rules.proofs.Asked.{seen_tree}

-- ---- numbers stay as tables grow

module _ (tables grown : TablesValue) (kept : KeepsTables tables grown) where
  pub number_kept : (id : Option FileId) (path : Option (List ℕ)) → IsNumberOf tables id path → IsNumberOf grown id path
  number_kept None None h = tt
  number_kept None (Some path) h = absurd h
  number_kept (Some id) None h = absurd h
  number_kept (Some id) (Some path) h = kept.files id.0 path h

  pub numbers_kept : (declaring : Option (List ℕ)) (ts : List Tried) → AreNumbered tables declaring ts → AreNumbered grown declaring ts
  numbers_kept declaring [] h = tt
  numbers_kept declaring (t ∷ ts) h =
      (number_kept (option_map (λ (f : LookedAt). f.id) t.file) (named_by declaring t.candidate) h.0, numbers_kept declaring ts h.1)

  pub numbered_kept : (f : Option FileId) (s : Search) → IsNumbered tables f s → IsNumbered grown f s
  numbered_kept f s h = record { declaring = number_kept f s.declaring h.declaring; tried = numbers_kept s.declaring (tried_in s) h.tried }

  -- so do those of sources
  pub source_kept : (id : TreeId) → IsSome (source_of tables id) → IsSome (source_of grown id)
  source_kept id h = go (source_of tables id) refl h
    where
      go : (o : Option SourcePlaceValue) → source_of tables id ≡ o → IsSome o → IsSome (source_of grown id)
      go None e there = absurd (let no : ⊥ = cc in no)
      go (Some place) e there = subst (λ (o : Option SourcePlaceValue). IsSome o) (sym (source_of-kept tables grown id place kept e)) refl

  -- of macros, and of expansions and calls
  pub macro_kept : (makro : MacroId) → IsMeant tables makro → IsMeant grown makro
  macro_kept (macros.Macro2Id id) h = source_kept (macro_tree id.loc) h
  macro_kept (macros.MacroRulesId id) h = source_kept (macro_tree id.loc) h
  macro_kept (macros.ProcMacroId id) h = h

  pub call_kept : (own : Crate) (d : MacroDirective) (makro : MacroId) (x : Expanding) → IsNumberedCall tables own d makro x → IsNumberedCall grown own d makro
      x
  call_kept own d makro x h = record {
    meant = macro_kept makro h.meant;
    entry = kept.entries x.entry.0 (grown_expansion x.grown (expansion_of_call own (call_style d) makro x.text x.input)) h.entry;
    call = kept.calls x.id.0 (call_loc d x.entry) h.call;
    first = grown_kept (expansion_of_call own (call_style d) makro x.text x.input) x.grown h.first;
  }
    where
      grown_kept : (key : ExpansionValue) (g : Option Grown) → IsGrownFrom tables key g → IsGrownFrom grown key g
      grown_kept key None h = tt
      grown_kept key (Some g) h = (
        kept.entries g.entry.0 key h.0,
        All-weaker (λ (i : InnerMacro). IsMeant tables i.makro) (λ (i : InnerMacro). IsMeant grown i.makro) (λ i. macro_kept i.makro) g.macros h.1,
      )

  pub eager_kept : (own : Crate) (d : MacroDirective) (makro : MacroId) (x : EagerLook) → IsNumberedEager tables own d makro x → IsNumberedEager grown own d
      makro x
  eager_kept own d makro x h = record {
    meant = macro_kept makro h.meant;
    entry = kept.entries x.entry.0 (expansion_of_call own (call_style d) makro x.text x.input) h.entry;
  }

  pub derive_kept : (own : Crate) (item : AstId) (attr : AttrId) (id : MacroCallId) → IsNumberedDerive tables own item attr id → IsNumberedDerive grown own item
      attr id
  derive_kept own item attr id h = record {
    entry = h.entry;
    expansion = kept.entries h.entry.0 (derive_expansion own attr) h.expansion;
    call = kept.calls id.0 (derive_loc item attr h.entry) h.call;
  }

  -- and those of a site
  file_there : (id : FileId) → IsSome (file_at tables id) → IsSome (file_at grown id)
  file_there id h = go (file_at tables id) refl h
    where
      go : (o : Option (List ℕ)) → file_at tables id ≡ o → IsSome o → IsSome (file_at grown id)
      go None e there = absurd (let no : ⊥ = cc in no)
      go (Some path) e there = subst (λ (o : Option (List ℕ)). IsSome o) (sym (kept.files id.0 path e)) refl

  pub site_kept : (site : Site) → IsMeantAt tables site → IsMeantAt grown site
  site_kept site h = record { tree = source_kept site.tree h.tree; file = λ id e. file_there id (h.file id e) }

  pub Numbered-kept : (s : State) (r : Rule) → Numbered tables s r → Numbered grown s r
  Numbered-kept s (opens_file site head name search f rest) h = numbered_kept site.file search h
  Numbered-kept s (drops_file site head name search report rest) h = numbered_kept site.file search h
  Numbered-kept s (misses_file site head name search report rest) h = numbered_kept site.file search h
  Numbered-kept s (lists_derives v at a adt paths call rest) h = derive_kept s.core.map.id.krate (item_node v.site v.item) (attr_id a) call h
  Numbered-kept s (expands_call i d makro x) h = call_kept s.core.map.id.krate d makro x h
  Numbered-kept s (meets_macro i d makro x) h = eager_kept s.core.map.id.krate d makro x h
  Numbered-kept s other h = tt

-- ---- files that have numbers mean something

meant_file : (tables : TablesValue) (krate : Crate) (edition : Edition) (id : FileId) (path : Option (List ℕ)) → IsNumberOf tables (Some id) path
    → IsSome (source_of tables (file_tree edition id))
meant_file tables krate edition id None h = absurd h
meant_file tables krate edition id (Some path) h = rw h refl

no_key : (key : Key) → Contains [] key → ⊥
no_key key (n, below, is) = let past : n < 0 = below in omega arith

pub readings_meant : (tables : TablesValue) (krate : Crate) (edition : Edition) (declaring : Option (List ℕ)) (ts : List Tried) → AreNumbered tables declaring
    ts
    → (key : Key) → Contains (keys_read (file_readings krate edition ts)) key → HasMeaning tables key
readings_meant tables krate edition declaring [] h key among = absurd (no_key key among)
readings_meant tables krate edition declaring (t ∷ ts) h key among = go t.file h.0 (readings_meant tables krate edition declaring ts h.1 key) among
  where
    go : (f : Option LookedAt) → IsNumberOf tables (option_map (λ (g : LookedAt). g.id) f) (named_by declaring t.candidate)
        → (Contains (keys_read (file_readings krate edition ts)) key → HasMeaning tables key)
        → Contains (keys_read (file_reading krate edition f ++ file_readings krate edition ts)) key → HasMeaning tables key
    go None n later c = later c
    go (Some f) n later (zero, below, is) = subst (HasMeaning tables) is (meant_file tables krate edition f.id (named_by declaring t.candidate) n)
    go (Some f) n later (suc m, below, is) = later (m, omega arith, is)

-- ---- the file that is found

-- the candidate that is found has a directory, and a file
pub found_at : (t : Tried) (f : ModuleFile) → module_file (Some t) ≡ Some f → (g : LookedAt) × (t.file ≡ Some g) × (t.candidate.dir ≡ Some f.dir)
    × (g.id ≡ f.id) × (g.there.tree ≡ f.tree)
found_at t f e = go t.candidate.dir refl t.file refl e
  where
    go : (d : Option Directory) → t.candidate.dir ≡ d → (o : Option LookedAt) → t.file ≡ o → taken_by d t.candidate.is_mod_rs o ≡ Some f
        → (g : LookedAt) × (t.file ≡ Some g) × (t.candidate.dir ≡ Some f.dir) × (g.id ≡ f.id) × (g.there.tree ≡ f.tree)
    go None de o oe h = absurd cc
    go (Some d) de None oe h = absurd cc
    go (Some d) de (Some g) oe h =
        let same : record { id = g.id; is_mod_rs = t.candidate.is_mod_rs; dir = d; tree = g.there.tree } ≡ f = cc in
        (g, oe, de ∙ ap (λ (x : ModuleFile). Some x.dir) same, ap (λ (x : ModuleFile). x.id) same, ap (λ (x : ModuleFile). x.tree) same)

-- it is among those that are read
pub found_read : (krate : Crate) (edition : Edition) (absent : List Tried) (found : Option Tried) (f : ModuleFile) → module_file found ≡ Some f
    → Contains (keys_read (file_readings krate edition (absent ++ option_to_list found))) (keys.Tree (file_key krate edition f.id))
found_read krate edition absent None f e = absurd cc
found_read krate edition [] (Some t) f e =
    let at = found_at t f e in
    subst (λ (o : Option LookedAt). Contains (keys_read (file_reading krate edition o ++ [])) (keys.Tree (file_key krate edition f.id))) (sym at.1)
    (0, omega arith, ap (λ (id : FileId). keys.Tree (file_key krate edition id)) at.3)
found_read krate edition (x ∷ xs) (Some t) f e = go x.file (found_read krate edition xs (Some t) f e)
  where
    go : (o : Option LookedAt) → Contains (keys_read (file_readings krate edition (xs ++ t ∷ []))) (keys.Tree (file_key krate edition f.id))
        → Contains (keys_read (file_reading krate edition o ++ file_readings krate edition (xs ++ t ∷ []))) (keys.Tree (file_key krate edition f.id))
    go None h = h
    go (Some g) (n, below, is) = (suc n, omega (arith, below), is)

-- and its number means something
pub found_meant : (tables : TablesValue) (edition : Edition) (krate : Crate) (declaring : Option (List ℕ)) (absent : List Tried) (found : Option Tried)
    (f : ModuleFile) → module_file found ≡ Some f
    → AreNumbered tables declaring (absent ++ option_to_list found) → IsSome (source_of tables (file_tree edition f.id))
found_meant tables edition krate declaring absent found f e h =
    readings_meant tables krate edition declaring (absent ++ option_to_list found) h (keys.Tree (file_key krate edition f.id))
    (found_read krate edition absent found f e)

-- ---- a key that is asked for is that of a candidate, and no earlier one is there

-- what is seen at the number of a path
there_at : (tables : TablesValue) (w : Workspace) (finished : Maps) (krate : Crate) (edition : Edition) (id : FileId) (path : List ℕ) (there : TreeLook)
    → file_at tables id ≡ Some path
    → look tables w finished (keys.Tree (file_key krate edition id)) ≡ of_tree there → (w.tree krate (file path)).present ≡ there.present
there_at tables w finished krate edition id path there number sees =
    let at : of_tree (seen_of (source_under w krate (option_map file (file_at tables id)))) ≡ of_tree there = sees in
    let here : of_tree (seen_of (w.tree krate (file path))) ≡ of_tree there =
    subst (λ (o : Option (List ℕ)). of_tree (seen_of (source_under w krate (option_map file o))) ≡ of_tree there) number at in
    ap (λ (l : Look). (seen_tree l (seen_of absent_source)).present) here

pub record IsAsked (tables : TablesValue) (w : Workspace) (krate : Crate) (edition : Edition) (declaring : Option (List ℕ)) (candidates : List Candidate)
    (key : Key) : Type 0 where
  pub place : ℕ
  pub candidate : Candidate
  pub is_candidate : slice_get candidates place ≡ Some candidate
  pub id : FileId
  pub is_file : IsNumberOf tables (Some id) (named_by declaring candidate)
  pub is : key ≡ keys.Tree (file_key krate edition id)
  pub earlier : NoneIsThereBefore w krate declaring candidates place

-- where none before a place is there, nor is one in front of them, none before the next place is
pub none_there_behind : (w : Workspace) (krate : Crate) (declaring : Option (List ℕ)) (c : Candidate) (cs : List Candidate) (place : ℕ)
    → option_map_or (λ path. (w.tree krate (file path)).present) (named_by declaring c) false ≡ false → NoneIsThereBefore w krate declaring cs place
    → NoneIsThereBefore w krate declaring (c ∷ cs) (suc place)
none_there_behind w krate declaring c cs place gone before = λ m d below at. go m d below at
  where
    go : (m : ℕ) (d : Candidate) → m < suc place → slice_get (c ∷ cs) m ≡ Some d
        → option_map_or (λ path. (w.tree krate (file path)).present) (named_by declaring d) false ≡ false
    go zero d below at =
        let same : c ≡ d = cc in
        subst (λ (x : Candidate). option_map_or (λ path. (w.tree krate (file path)).present) (named_by declaring x) false ≡ false) same gone
    go (suc m) d below at = before m d (omega arith) at

module _ (tables : TablesValue) (w : Workspace) (finished : Maps) (krate : Crate) (edition : Edition) (declaring : Option (List ℕ)) where
  -- a candidate that was tried and isn't there
  pub absent_there : (t : Tried) → is_there t ≡ false → IsNumberOf tables (option_map (λ (f : LookedAt). f.id) t.file) (named_by declaring t.candidate)
      → Sees (environment tables w) finished (file_reading krate edition t.file) → option_map_or (λ path. (w.tree krate (file path)).present)
      (named_by declaring t.candidate) false ≡ false
  absent_there t gone number sees = go t.file (named_by declaring t.candidate) gone number sees
    where
      go : (f : Option LookedAt) (p : Option (List ℕ)) → option_map_or (λ (g : LookedAt). g.there.present) f false ≡ false
          → IsNumberOf tables (option_map (λ (g : LookedAt). g.id) f) p
          → Sees (environment tables w) finished (file_reading krate edition f) → option_map_or (λ path. (w.tree krate (file path)).present) p false ≡ false
      go None None g n s = refl
      go None (Some path) g n s = absurd n
      go (Some f) None g n s = refl
      go (Some f) (Some path) g n s = there_at tables w finished krate edition f.id path f.there n s.0 ∙ g

  sees_first : (t : Tried) (ts : List Tried) → Sees (environment tables w) finished (file_readings krate edition (t ∷ ts))
      → Sees (environment tables w) finished (file_reading krate edition t.file) × Sees (environment tables w) finished (file_readings krate edition ts)
  sees_first t ts sees = go t.file sees
    where
      go : (f : Option LookedAt) → Sees (environment tables w) finished (file_reading krate edition f ++ file_readings krate edition ts)
          → Sees (environment tables w) finished (file_reading krate edition f) × Sees (environment tables w) finished (file_readings krate edition ts)
      go None s = (tt, s)
      go (Some f) s = ((s.0, tt), s.1)

  -- the first of the candidates
  asked_first : (t : Tried) (cs : List Candidate) (key : Key) (f : LookedAt) → t.file ≡ Some f → IsNumberOf tables (option_map (λ (g : LookedAt). g.id) t.file)
      (named_by declaring t.candidate)
      → keys.Tree (file_key krate edition f.id) ≡ key → IsAsked tables w krate edition declaring (t.candidate ∷ cs) key
  asked_first t cs key f e number is = record {
    place = 0;
    candidate = t.candidate;
    is_candidate = refl;
    id = f.id;
    is_file = subst (λ (o : Option LookedAt). IsNumberOf tables (option_map (λ (g : LookedAt). g.id) o) (named_by declaring t.candidate)) e number;
    is = sym is;
    earlier = λ m c below at. absurd (omega arith);
  }

  -- one behind a candidate that isn't there
  asked_later : (t : Tried) (cs : List Candidate) (key : Key) → option_map_or (λ path. (w.tree krate (file path)).present) (named_by declaring t.candidate)
      false ≡ false
      → IsAsked tables w krate edition declaring cs key → IsAsked tables w krate edition declaring (t.candidate ∷ cs) key
  asked_later t cs key gone a = record {
    place = suc a.place;
    candidate = a.candidate;
    is_candidate = a.is_candidate;
    id = a.id;
    is_file = a.is_file;
    is = a.is;
    earlier = none_there_behind w krate declaring t.candidate cs a.place gone a.earlier;
  }

  -- that of one that isn't there, or of one behind it
  asked_of : (t : Tried) (ts : List Tried) (cs : List Candidate) (key : Key) → is_there t ≡ false
      → IsNumberOf tables (option_map (λ (f : LookedAt). f.id) t.file) (named_by declaring t.candidate)
      → Sees (environment tables w) finished (file_reading krate edition t.file)
      → (Contains (keys_read (file_readings krate edition ts)) key → IsAsked tables w krate edition declaring cs key)
      → Contains (keys_read (file_readings krate edition (t ∷ ts))) key → IsAsked tables w krate edition declaring (t.candidate ∷ cs) key
  asked_of t ts cs key gone number sees later among = go t.file refl among
    where
      go : (f : Option LookedAt) → t.file ≡ f → Contains (keys_read (file_reading krate edition f ++ file_readings krate edition ts)) key
          → IsAsked tables w krate edition declaring (t.candidate ∷ cs) key
      go None e c = asked_later t cs key (absent_there t gone number sees) (later c)
      go (Some f) e (zero, below, is) = asked_first t cs key f e number is
      go (Some f) e (suc n, below, is) = asked_later t cs key (absent_there t gone number sees) (later (n, omega arith, is))

  asked_among : (absent : List Tried) (found : Option Tried) (cs : List Candidate) → AreTried cs absent found → AreAbsent absent → AreNumbered tables declaring
      (absent ++ option_to_list found)
      → Sees (environment tables w) finished (file_readings krate edition (absent ++ option_to_list found)) → (key : Key)
      → Contains (keys_read (file_readings krate edition (absent ++ option_to_list found))) key → IsAsked tables w krate edition declaring cs key
  asked_among [] None cs order gone numbers sees key among = absurd (no_key key among)
  asked_among [] (Some t) cs order gone numbers sees key among =
      subst (λ (xs : List Candidate). IsAsked tables w krate edition declaring xs key) (sym order.1) (go t.file refl among)
    where
      go : (f : Option LookedAt) → t.file ≡ f → Contains (keys_read (file_reading krate edition f ++ [])) key → IsAsked tables w krate edition declaring
          (t.candidate ∷ order.0) key
      go None e c = absurd (no_key key c)
      go (Some f) e (zero, below, is) = asked_first t order.0 key f e numbers.0 is
      go (Some f) e (suc n, below, is) = absurd (omega arith)
  asked_among (t ∷ ts) None cs order gone numbers sees key among =
      let seen = sees_first t (ts ++ []) sees in
      subst (λ (xs : List Candidate). IsAsked tables w krate edition declaring xs key) (sym order)
      (asked_of t (ts ++ []) (map (λ (x : Tried). x.candidate) ts) key gone.0 numbers.0 seen.0 (asked_among ts None _ refl gone.1 numbers.1 seen.1 key) among)
  asked_among (t ∷ ts) (Some u) cs order gone numbers sees key among =
      let seen = sees_first t (ts ++ u ∷ []) sees in
      subst (λ (xs : List Candidate). IsAsked tables w krate edition declaring xs key) (sym order.1)
      (asked_of t (ts ++ u ∷ []) (map (λ (x : Tried). x.candidate) ts ++ u.candidate ∷ order.0) key gone.0 numbers.0 seen.0
      (asked_among ts (Some u) _ (order.0, refl) gone.1 numbers.1 seen.1 key) among)

  pub asked_candidate : (search : Search) (cs : List Candidate) → AreTried cs search.absent search.found → AreAbsent search.absent
      → AreNumbered tables declaring (tried_in search)
      → Sees (environment tables w) finished (file_readings krate edition (tried_in search)) → (key : Key)
      → Contains (keys_read (file_readings krate edition (tried_in search))) key → IsAsked tables w krate edition declaring cs key
  asked_candidate search cs order gone numbers sees key among = asked_among search.absent search.found cs order gone numbers sees key among
