-- What binds only from sources?
use Rattle.std.specs.Prelude.{◌≡◌, ℕ, zero, suc, ◌≤◌, List, [], ◌∷◌, length, Bool, true, false, is_some, Some, cond, option_and_then, slice_get}
use Rattle.std.specs.List.{list_any}
use Rattle.std.proofs.Common.{Contains, ap, refl, sym, ◌∙◌, arith}
use mathlib.Core.Bool.{true≢false}
use Rattle.hir_collector_rules.specs.HirIds.contracts.ids.MapIdPartialEq.TheImpl as map_id
use Rattle.hir_collector_rules.specs.HirIds.declared.ids.MapId.{MapId}
use Rattle.hir_collector_rules.specs.HirIds.declared.ids.ModuleId.{ModuleId}
use Rattle.hir_collector_rules.specs.HirBase.declared.tree_id.TreeKey.{TreeKey}
use Rattle.hir_collector_rules.specs.HirDefMapRules.Closed.{ModuleIsThere}
use Rattle.hir_collector_rules.specs.HirDefMapRules.Sources.{HoldsNowhereIn, HoldsOfNoExtern, SourceTest, on_import}
use Rattle.hir_collector_rules.specs.HirDefMapRules.State.{Map, module_at}
use Rattle.hir_collector_rules.specs.HirDefMapRules.Overlay.{Maps, Placed, overlay, placed_in}
use Rattle.hir_collector_rules.specs.HirImportRules.declared.directive.ImportDirective.{ImportDirective}
use Rattle.hir_collector_rules.specs.HirImportRules.Directives.{way_of}
use Rattle.hir_collector_rules.specs.declared.macro_directive.MacroDirective.{MacroDirective}
use Rattle.hir_collector_rules.specs.State.{State, Task, visits, closes}
use Rattle.hir_collector_rules.specs.declared.source_database.Key.TheVariants as keys
use Rattle.hir_collector_rules.proofs.Grows.{Grows}
use Rattle.hir_def_collector_laws.proofs.SourcedEdits.{on_edge}

-- ---- what is written at sites, and what brings bindings

abbrev pub on_site : SourceTest → Task → Bool
on_site t (visits v) = t.holder v.site.tree.file v.site.tree.block
on_site t (closes parent child) = false

-- what waits is written at its site
abbrev pub on_call : SourceTest → MacroDirective → Bool
on_call t d = t.holder d.site.tree.file d.site.tree.block

abbrev pub on_reached : SourceTest → ImportDirective → Bool
on_reached t r = on_import t (way_of r.source)

-- a test holds of nothing that a run has come upon
pub record IsSourced (t : SourceTest) (s : State) : Type 0 where
  pub map : HoldsNowhereIn t s.core.map
  pub local : HoldsOfNoExtern t s.core.local
  pub visits : list_any (on_site t) s.agenda ≡ false
  pub reached : list_any (on_reached t) s.core.reached ≡ false
  pub calls : list_any (on_call t) s.core.calls ≡ false
  pub edges : list_any (on_edge t) s.core.globs.edges ≡ false

-- nor of a source that was asked for
abbrev pub AreClear : SourceTest → State → Type 0
AreClear t s = (key : TreeKey) → Contains s.core.asked (keys.Tree key) → t.holder key.id.file key.id.block ≡ false

-- nor of a module that is there
abbrev pub ShowsThere : SourceTest → Maps → Map → Type 0
ShowsThere t finished m = (at : ModuleId) → ModuleIsThere (overlay finished m) at → t.shown at ≡ false

-- ---- modules stay there

some_at : {A : Type 0} (xs ys : List A) → length xs ≤ length ys → (k : ℕ) → is_some (slice_get xs k) ≡ true → is_some (slice_get ys k) ≡ true
some_at [] ys low k e = absurd (true≢false (sym e))
some_at (x ∷ xs) [] low k e = absurd (omega arith)
some_at (x ∷ xs) (y ∷ ys) low zero e = refl
some_at (x ∷ xs) (y ∷ ys) low (suc k) e = some_at xs ys (omega arith) k e

pub stays_longer : (finished : Maps) (old new : Map) → new.id ≡ old.id → length old.modules ≤ length new.modules → (m : ModuleId)
    → ModuleIsThere (overlay finished old) m
    → ModuleIsThere (overlay finished new) m
stays_longer finished old new same longer m e =
    ap (λ (id : MapId). is_some (option_and_then (λ (p : Placed). module_at p.map m.index) (cond (map_id.ghosts.eq m.map id) (Some (placed_in finished new))
    (finished m.map)))) same
    ∙ go (map_id.ghosts.eq m.map old.id) e
  where
    go : (b : Bool) → is_some (option_and_then (λ (p : Placed). module_at p.map m.index) (cond b (Some (placed_in finished old)) (finished m.map))) ≡ true
        → is_some (option_and_then (λ (p : Placed). module_at p.map m.index) (cond b (Some (placed_in finished new)) (finished m.map))) ≡ true
    go true f = some_at old.modules new.modules longer m.index f
    go false f = f

pub stays_there : (finished : Maps) (old new : Map) → new.id ≡ old.id → Grows old new → (m : ModuleId) → ModuleIsThere (overlay finished old) m
    → ModuleIsThere (overlay finished new) m
stays_there finished old new same grows m e = stays_longer finished old new same grows.longer m e
