-- What a run reads of finished maps is the same where what it asked for is.
use Rattle.std.proofs.Common.{◌≡◌, ◌<◌, ◌∙◌, ◌⊎◌, inl, inr, suc, zero, List, [], ◌∷◌, map, Bool, Option, None, Some, true, false, ◌&&◌, ◌||◌, is_none, refl}
use Rattle.std.proofs.Common.{sym, ap, subst, arith, Contains}
use Rattle.std.specs.List.{list_any}
use Rattle.std.proofs.lemmas.Map.Views.{Contains-from_any}
use Rattle.hir_nameres.specs.HirIds.declared.ast_id.BlockId.{BlockId}
use Rattle.hir_nameres.specs.HirIds.declared.ids.Crate.{Crate}
use Rattle.hir_nameres.specs.HirIds.declared.ids.MapId.{MapId}
use Rattle.hir_nameres.specs.HirIds.declared.ids.ModuleId.{ModuleId}
use Rattle.hir_nameres.specs.HirIds.contracts.ids.MapIdPartialEq.TheImpl as map_id
use Rattle.hir_nameres.specs.HirPerNs.ModuleTree.{same_crate}
use Rattle.hir_nameres.specs.WorldParts.{among, is_of_some}
use Rattle.hir_nameres.specs.Inner.PartLaws.{among_agrees}
use Rattle.hir_nameres.specs.HirDefMapRules.Inner.OverlayLaws.{exact_crate, exact_map}
use Rattle.hir_nameres.specs.HirDefMapRules.References.{crate_map}
use Rattle.hir_nameres.specs.HirDefMapRules.Overlay.{Maps, Placed, holders_of}
use Rattle.hir_collector_rules.specs.Types.{Key, Start}
use Rattle.hir_collector_rules.specs.declared.start.Start.TheVariants as starts
use Rattle.hir_collector_rules.specs.declared.source_database.Key.TheVariants.{Map}
use Rattle.hir_collector_rules.specs.Workspace.{ConfigValue, TreeLook, Workspace, seen_of, transitive_dependencies_in}
use Rattle.hir_collector_rules.specs.Keys.{Environment, Look, of_tree, of_map, of_variants, of_text, of_input, of_entry, of_config, absent_source, look}
use Rattle.hir_collector_rules.specs.Keys.{config_key, dependency_keys, keys_behind, map_key}
use Rattle.hir_tables.specs.Tables.{KeepsTables, TablesValue}
use Rattle.hir_collector_rules.specs.Start.{Beginning, held_keys, holder_keys, holders_by, krate_of, read_by, root_key, root_tree}
use Rattle.hir_collector_rules.proofs.Dependencies.{same_transitive}

-- ---- lists

mapped_from : {A B : Type 0} (f : A → B) (xs : List A) (y : B) → Contains (map f xs) y → (x : A) × Contains xs x × (f x ≡ y)
mapped_from f [] y (n, below, is) = absurd (omega arith)
mapped_from f (x ∷ xs) y (zero, below, is) = (x, (0, omega arith, refl), is)
mapped_from f (x ∷ xs) y (suc n, below, is) =
    let later = mapped_from f xs y (n, omega arith, is) in (later.0, (suc later.1.0, omega (arith, later.1.1), later.1.2), later.2)

-- an element of a list is its first or one of the others
pub head_or_later : {A : Type 0} (x : A) (xs : List A) (y : A) → Contains (x ∷ xs) y → (x ≡ y) ⊎ Contains xs y
head_or_later x xs y (zero, below, is) = inl is
head_or_later x xs y (suc n, below, is) = inr (n, omega arith, is)

-- ---- the keys of crates

-- a key is that of one of some crates
pub record IsOfOne (key_of : Crate → Key) (crates : List Crate) (key : Key) : Type 0 where
  pub krate : Crate
  pub among : Contains crates krate
  pub is : key ≡ key_of krate

-- the keys of the crates behind a crate are those of the map of each, and of what each was handed in with
map_key_in : (crates : List Crate) (c : Crate) → Contains crates c → Contains (dependency_keys crates) (map_key c)
map_key_in [] c (n, within, is) = absurd (omega arith)
map_key_in (x ∷ xs) c (zero, within, is) = (0, omega arith, ap map_key is)
map_key_in (x ∷ xs) c (suc n, within, is) = let later = map_key_in xs c (n, omega arith, is) in (suc (suc later.0), omega (arith, later.1), later.2)

config_key_in : (crates : List Crate) (c : Crate) → Contains crates c → Contains (dependency_keys crates) (config_key c)
config_key_in [] c (n, within, is) = absurd (omega arith)
config_key_in (x ∷ xs) c (zero, within, is) = (1, omega arith, ap config_key is)
config_key_in (x ∷ xs) c (suc n, within, is) = let later = config_key_in xs c (n, omega arith, is) in (suc (suc later.0), omega (arith, later.1), later.2)

-- and no other key
of_dependency : (crates : List Crate) (key : Key) → Contains (dependency_keys crates) key → IsOfOne map_key crates key ⊎ IsOfOne config_key crates key
of_dependency [] key (n, within, is) = absurd (omega arith)
of_dependency (x ∷ xs) key (zero, within, is) = inl (record { krate = x; among = (0, omega arith, refl); is = sym is })
of_dependency (x ∷ xs) key (suc zero, within, is) = inr (record { krate = x; among = (0, omega arith, refl); is = sym is })
of_dependency (x ∷ xs) key (suc (suc n), within, is) = elim (of_dependency xs key (n, omega arith, is)) [
  | inl m ↦ inl (record { krate = m.krate; among = (suc m.among.0, omega (arith, m.among.1), m.among.2); is = m.is })
  | inr m ↦ inr (record { krate = m.krate; among = (suc m.among.0, omega (arith, m.among.1), m.among.2); is = m.is })
]

module _ (krate : Crate) (transitive : List Crate) where
  pub map_behind : (c : Crate) → Contains transitive c → Contains (keys_behind krate transitive) (map_key c)
  map_behind c h = let later = map_key_in transitive c h in (suc later.0, omega (arith, later.1), later.2)

  pub config_behind : (c : Crate) → Contains (krate ∷ transitive) c → Contains (keys_behind krate transitive) (config_key c)
  config_behind c (zero, within, is) = (0, omega arith, ap config_key is)
  config_behind c (suc n, within, is) = let later = config_key_in transitive c (n, omega arith, is) in (suc later.0, omega (arith, later.1), later.2)

  pub of_behind : (key : Key) → Contains (keys_behind krate transitive) key → IsOfOne map_key transitive key ⊎ IsOfOne config_key (krate ∷ transitive) key
  of_behind key (zero, within, is) = inr (record { krate = krate; among = (0, omega arith, refl); is = sym is })
  of_behind key (suc n, within, is) = elim (of_dependency transitive key (n, omega arith, is)) [
    | inl m ↦ inl m
    | inr m ↦ inr (record { krate = m.krate; among = (suc m.among.0, omega (arith, m.among.1), m.among.2); is = m.is })
  ]

-- ---- the maps that are read

-- whether one of some modules lies in a map
abbrev pub lies_in : List ModuleId → MapId → Bool
lies_in holders id = list_any (λ (h : ModuleId). map_id.ghosts.eq h.map id) holders

-- a map that may be read is that of one of the crates, or one in which a holder lies
of_some : (crates : List Crate) (holders : List ModuleId) (id : MapId) → is_of_some crates holders id ≡ true
    → ((list_any (same_crate id.krate) crates ≡ true) × (id ≡ crate_map id.krate)) ⊎ (lies_in holders id ≡ true)
of_some crates holders id h = go id.block refl (list_any (same_crate id.krate) crates) refl (lies_in holders id) refl h
  where
    go : (b : Option BlockId) → id.block ≡ b → (l : Bool) → list_any (same_crate id.krate) crates ≡ l → (r : Bool) → lies_in holders id ≡ r
        → ((is_none b && l) || r) ≡ true
        → ((list_any (same_crate id.krate) crates ≡ true) × (id ≡ crate_map id.krate)) ⊎ (lies_in holders id ≡ true)
    go None e true l r s f = inl (l, λ i. record { krate = id.krate; block = e i })
    go None e false l true s f = inr s
    go None e false l false s f = absurd (let no : ⊥ = cc in no)
    go (Some b) e l m true s f = inr s
    go (Some b) e true l false s f = absurd (let no : ⊥ = cc in no)
    go (Some b) e false l false s f = absurd (let no : ⊥ = cc in no)

-- ---- what holds a block

-- a map in which a holder lies has its key among those of the holders
key_of_holder : (holders : List ModuleId) (id : MapId) → lies_in holders id ≡ true → Contains (holder_keys holders) (Map id)
key_of_holder [] id h = absurd (let no : ⊥ = cc in no)
key_of_holder (one ∷ others) id h = go (map_id.ghosts.eq one.map id) refl h (key_of_holder others id)
  where
    go : (b : Bool) → map_id.ghosts.eq one.map id ≡ b → (b || lies_in others id) ≡ true → (lies_in others id ≡ true → Contains (holder_keys others) (Map id))
        → Contains (holder_keys (one ∷ others)) (Map id)
    go true e f among = (0, omega arith, ap Map (exact_map one.map id e))
    go false e f among = let later = among f in (suc later.0, omega (arith, later.1), later.2)

-- a run asks for each map in which one lies that holds it
pub key_of_held : (start : Start) (finished : Maps) (id : MapId) → lies_in (holders_by finished start) id ≡ true
    → Contains (held_keys start (holders_by finished start)) (Map id)
key_of_held (starts.Crate krate root) finished id h = absurd (let no : ⊥ = cc in no)
key_of_held (starts.Block krate block holder at) finished id h =
    let later = key_of_holder (holder ∷ holders_of (finished holder.map)) id h in (suc later.0, omega (arith, later.1), later.2)

-- what it asks for so are keys of maps
pub held_is_map : (start : Start) (holders : List ModuleId) (key : Key) → Contains (held_keys start holders) key → (id : MapId) × (Map id ≡ key)
held_is_map (starts.Crate krate root) holders key (n, below, is) = absurd (let past : n < 0 = below in omega arith)
held_is_map (starts.Block krate block holder at) holders key (zero, below, is) = (crate_map krate, is)
held_is_map (starts.Block krate block holder at) holders key (suc n, below, is) =
    let found = mapped_from (λ (h : ModuleId). Map h.map) holders key (n, omega arith, is) in (found.0.map, found.2)

abbrev pub seen_tree : Look → TreeLook → TreeLook
seen_tree (of_tree t) other = t
seen_tree otherwise other = other

abbrev seen_map : Look → Option Placed → Option Placed
seen_map (of_map m) other = m
seen_map otherwise other = other

-- what a crate was handed in with, as it is seen at its key
abbrev pub seen_config : Look → Option ConfigValue → Option ConfigValue
seen_config (of_config c) other = c
seen_config otherwise other = other

-- where two workspaces have the same at the keys of the crates behind a crate
module _ (tables grown : TablesValue) (v w : Workspace) (before finished : Maps) (krate : Crate)
    (same : (key : Key) → Contains (keys_behind krate (transitive_dependencies_in v krate)) key → look grown w finished key ≡ look tables v before key) where
  -- the crate and those on which it depends were handed in alike
  pub same_config : (c : Crate) → Contains (krate ∷ transitive_dependencies_in v krate) c → w.config c ≡ v.config c
  same_config c h =
      ap (λ (l : Look). seen_config l None) (same (config_key c) (config_behind krate (transitive_dependencies_in v krate) c h))

  -- so it depends on the same
  pub same_behind : transitive_dependencies_in w krate ≡ transitive_dependencies_in v krate
  same_behind = same_transitive v.config w.config krate same_config

-- a workspace with its finished maps is like another, where the numbers that the one is spoken of by mean the same to the other
pub record Alike (keys : List Key) (env : Environment) (before : Maps) (other : Environment) (finished : Maps) : Type 0 where
  pub kept : KeepsTables env.tables other.tables
  pub crates : other.workspace.crates ≡ env.workspace.crates
  pub same : (key : Key) → Contains keys key → look other.tables other.workspace finished key ≡ look env.tables env.workspace before key

module _ (from : Beginning) {keys : List Key} {env other : Environment} {before finished : Maps} (alike : Alike keys env before other finished)
    (root_asked : Contains keys (root_key from.start from.tree))
    (held_asked : (key : Key) → Contains (held_keys from.start (holders_by before from.start)) key → Contains keys key)
    (behind_asked : (key : Key) → Contains (keys_behind (krate_of from.start) (transitive_dependencies_in env.workspace (krate_of from.start))) key
    → Contains keys key) where
  abbrev behind : List Crate
  behind = transitive_dependencies_in env.workspace (krate_of from.start)

  pub same_tree : root_tree other.tables other.workspace from ≡ root_tree env.tables env.workspace from
  same_tree = ap (λ (l : Look). (seen_tree l (seen_of absent_source)).tree) (alike.same (root_key from.start from.tree) root_asked)

  seen_alike : (key : Key) → Contains (keys_behind (krate_of from.start) behind) key → look other.tables other.workspace finished key
      ≡ look env.tables env.workspace before key
  seen_alike key h = alike.same key (behind_asked key h)

  -- its crate was handed in alike
  pub own_config : other.workspace.config (krate_of from.start) ≡ env.workspace.config (krate_of from.start)
  own_config =
      same_config env.tables other.tables env.workspace other.workspace before finished (krate_of from.start) seen_alike (krate_of from.start)
      (0, omega arith, refl)

  -- the crates on which that depends are the same
  pub same_dependencies : transitive_dependencies_in other.workspace (krate_of from.start) ≡ behind
  same_dependencies = same_behind env.tables other.tables env.workspace other.workspace before finished (krate_of from.start) seen_alike

  same_at : (id : MapId) → Contains keys (Map id) → finished id ≡ before id
  same_at id h = ap (λ (l : Look). seen_map l None) (alike.same (Map id) h)

  -- the modules that hold the run are the same
  pub same_holders : holders_by finished from.start ≡ holders_by before from.start
  same_holders = go from.start held_asked
    where
      go : (start : Start) → ((key : Key) → Contains (held_keys start (holders_by before start)) key → Contains keys key) → holders_by finished start
          ≡ holders_by before start
      go (starts.Crate krate root) asked = refl
      go (starts.Block krate block holder at) asked =
          ap (λ (o : Option Placed). holder ∷ holders_of o) (same_at holder.map (asked (Map holder.map) (1, omega arith, refl)))

  same_map : (id : MapId) → is_of_some behind (holders_by before from.start) id ≡ true → finished id ≡ before id
  same_map id h =
      elim (of_some behind (holders_by before from.start) id h) [
        | inl own ↦
            let there : Contains behind id.krate = Contains-from_any exact_crate id.krate behind own.0 in
            subst (λ (k : MapId). finished k ≡ before k) (sym own.1)
            (same_at (crate_map id.krate) (behind_asked (map_key id.krate) (map_behind (krate_of from.start) behind id.krate there)))
        | inr held ↦ same_at id (held_asked (Map id) (key_of_held from.start before id held))
      ]

  -- the maps that a run reads are the same
  pub same_read : read_by other.workspace finished from.start ≡ read_by env.workspace before from.start
  same_read =
      ap (λ (crates : List Crate). among crates (holders_by finished from.start) finished) same_dependencies
      ∙ ap (λ (holders : List ModuleId). among behind holders finished) same_holders
      ∙ among_agrees behind (holders_by before from.start) finished before same_map
