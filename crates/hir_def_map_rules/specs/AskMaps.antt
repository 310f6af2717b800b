-- What comes of asking about modules of maps one after another?
use Rattle.std.specs.Prelude.{◌≡◌, List, [], ◌∷◌, Option, None, Some, MatchOption}
use Rattle.std.specs.Borrow.{Bor}
use Rattle.hir_scope.specs.HirIds.declared.ids.ModuleId.{ModuleId}
use Rattle.hir_def_map_rules.specs.State.{Map}
use Rattle.hir_def_map_rules.specs.Overlay.{Maps, map_in}

-- who is asked about modules and their maps in order, until there is an answer: that is the outcome, and none if all had none
abbrev pub AsksMaps : {F T : Type 0} → (F → Bor Map → ModuleId → Option T → F → Type 0) → F → List (Map × ModuleId) → Option T → Type 0
AsksMaps steps f [] outcome = outcome ≡ None
AsksMaps {F} {T} steps f (m ∷ ms) outcome =
    (given : Option T) × (g : F) × (lent : Bor Map) × (lent.now ≡ m.0) × steps f lent m.1 given g
    × MatchOption given (AsksMaps steps g ms outcome) (λ answer. outcome ≡ Some answer)

-- a module with its map, where that is there, before others
abbrev pub with_map : Option Map → ModuleId → List (Map × ModuleId) → List (Map × ModuleId)
with_map None m others = others
with_map (Some map) m others = (map, m) ∷ others

-- the modules whose maps are there, each with its map
abbrev pub with_maps : Maps → List ModuleId → List (Map × ModuleId)
with_maps maps [] = []
with_maps maps (m ∷ ms) = with_map (map_in maps m.map) m (with_maps maps ms)
