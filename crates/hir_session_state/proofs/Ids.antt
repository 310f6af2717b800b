-- Ids of maps, and the test of two of them.
use Rattle.std.proofs.Common.{◌≡◌, ◌≢◌, ◌∙◌, ap, sym, subst, true, false, None}
use Rattle.std.specs.Cmp.{tied_itself}
use Rattle.std.specs.Ordering.{is_eq}
use Rattle.std.specs.BTreeMap.{is_at}
use Rattle.hir_collector_rules.specs.HirIds.declared.ids.MapId.{MapId}
use Rattle.hir_collector_rules.specs.HirIds.contracts.ids.MapIdOrd.TheImpl as map_order
use Rattle.hir_collector_rules.specs.HirIds.contracts.ids.MapIdOrd.TheImpl.Laws.{total-law as order_total, matches_eq-law as order_ties}
use Rattle.hir_collector_rules.specs.HirIds.contracts.ids.MapIdPartialEq.TheImpl as map_id
use Rattle.hir_collector_rules.specs.HirDefMapRules.Inner.OverlayLaws.{exact_map, same_id}
use Rattle.hir_session_state.specs.Crates.{id_of}
use Rattle.hir_session_state.proofs.Truth.{clash, on_bool}

pub own_id : (a : MapId) → is_at (map_order.ghosts.cmp a) a ≡ true
own_id a = ap is_eq (tied_itself order_total a)

pub equal_id : (a b : MapId) → is_at (map_order.ghosts.cmp a) b ≡ true → a ≡ b
equal_id a b e = exact_map a b (order_ties a b ∙ e)

-- two ids that aren't the same don't pass
pub other_id : (a b : MapId) → b ≢ a → is_at (map_order.ghosts.cmp a) b ≡ false
other_id a b ne = on_bool (is_at (map_order.ghosts.cmp a) b) (λ on. absurd (ne (sym (equal_id a b on)))) (λ off. off)

-- an id is this one, or another
pub on_id : {A : Type 0} (j id : MapId) → (j ≡ id → A) → (j ≢ id → A) → A
on_id j id f g = on_bool (map_id.ghosts.eq j id)
    (λ e. f (exact_map j id e))
    (λ e. g (λ same. let P : MapId → Type 0 = λ x. map_id.ghosts.eq x id ≡ true in clash (subst P (sym same) (same_id id)) e))

-- that of a crate is that of its number
pub of_number : (id : MapId) → id.block ≡ None → id ≡ id_of id.krate.0
of_number id of_crate = λ i. record { krate = id.krate; block = of_crate i }
