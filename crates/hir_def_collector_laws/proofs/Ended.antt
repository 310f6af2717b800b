-- What the map of a run has that its last state has: the root of a procedural-macro crate shows less.
use Rattle.std.proofs.Common.{◌≡◌, Bool, true, false, cond, length, refl}
use Rattle.hir_collector_rules.specs.HirDefMapRules.State.{Map, with_module_scope, with_scope}
use Rattle.hir_collector_rules.proofs.HirDefMapRules.Grown.{length-changed}
use Rattle.hir_collector_rules.specs.Ended.{ended, exporting_scope}
use Rattle.hir_collector_rules.specs.State.{Core}

module _ (c : Core) where
  abbrev pub less_seen : Map
  less_seen = with_scope c.map 0 (exporting_scope c.map.id.krate c.exported)

  pub ended_by : (P : Map → Type 0) → P c.map → P less_seen → P (ended c)
  ended_by P all less = go c.is_proc_macro
    where
      go : (b : Bool) → P (cond b less_seen c.map)
      go true = less
      go false = all

  pub same_length : length (ended c).modules ≡ length c.map.modules
  same_length =
      ended_by (λ (m : Map). length m.modules ≡ length c.map.modules) refl
      (length-changed c.map.modules 0 (with_module_scope (exporting_scope c.map.id.krate c.exported)))

  pub same_id : (ended c).id ≡ c.map.id
  same_id = ended_by (λ (m : Map). m.id ≡ c.map.id) refl refl

  pub same_data : (ended c).crate_data ≡ c.map.crate_data
  same_data = ended_by (λ (m : Map). m.crate_data ≡ c.map.crate_data) refl refl

  pub same_diagnostics : (ended c).diagnostics ≡ c.map.diagnostics
  same_diagnostics = ended_by (λ (m : Map). m.diagnostics ≡ c.map.diagnostics) refl refl
