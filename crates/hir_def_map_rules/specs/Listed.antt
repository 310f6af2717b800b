-- What does a declaration that is listed leave of a map?
use Rattle.std.specs.Prelude.{◌≡◌, ℕ, List, length}
use Rattle.hir_def_map_rules.specs.State.{Map, child_at, entry_at, parent_at}

-- the modules of a map stay, with what they are in and what their names stand for
pub record KeepsNames (old new : Map) : Type 0 where
  pub id : new.id ≡ old.id
  pub crate_data : new.crate_data ≡ old.crate_data
  pub count : length new.modules ≡ length old.modules
  pub entries : (at : ℕ) (name : List ℕ) → entry_at new at name ≡ entry_at old at name
  pub children : (at : ℕ) (name : List ℕ) → child_at new at name ≡ child_at old at name
  pub parents : (at : ℕ) → parent_at new at ≡ parent_at old at
