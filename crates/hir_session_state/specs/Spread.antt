-- Which places does a set of places reach?
use Rattle.std.specs.Prelude.{List, Contains}
use Rattle.hir_collector_rules.specs.HirIds.declared.ids.MapId.{MapId}

-- the least set that holds each place of P, and each that directly depends on one in it
pub data Spread (follows : MapId → List MapId) (P : MapId → Type 0) : MapId → Type 0 where
  here : (id : MapId) → P id → Spread follows P id
  depends : (id d : MapId) → Contains (follows id) d → Spread follows P d → Spread follows P id
