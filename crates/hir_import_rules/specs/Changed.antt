-- Which slots stand for what they stood for, and which items have the helpers that they had?
use Rattle.std.specs.Prelude.{◌≡◌, ℕ, Bool, true, false, List, [], ◌∷◌, ◌++◌, Contains, cond}
use Rattle.std.specs.BTreeMap.{is_at}
use Rattle.std.specs.List.{list_any}
use Rattle.std.specs.declared.cmp.Ordering.{Ordering}
use Rattle.hir_nameres.specs.HirIds.contracts.ast_id.AstIdOrd.TheImpl as ast_order
use Rattle.hir_nameres.specs.HirIds.declared.ast_id.AstId.{AstId}
use Rattle.hir_nameres.specs.declared.nameres.path_resolution.slots.Slot.{Slot as PathSlot}
use Rattle.hir_nameres.specs.declared.nameres.path_resolution.slots.Slot.TheVariants.{Module as of_module, Preludes as of_preludes}
pub use Rattle.hir_import_rules.specs.Lasting.{IsThere}

-- what may stand for something else, and where helpers came into scope
pub record ChangedValue : Type 0 where
  -- whether any slot may
  pub all : Bool
  -- those that may, unless any slot may
  pub slots : List PathSlot
  -- the items on which helpers of derives came into scope, unless any slot may
  pub items : List AstId

-- any slot, and none
abbrev pub everything : ChangedValue
everything = record { all = true; slots = []; items = [] }

abbrev pub nothing : ChangedValue
nothing = record { all = false; slots = []; items = [] }

-- the slot of a name in a module besides
abbrev pub with_slot : ℕ → List ℕ → ChangedValue → ChangedValue
with_slot at name c = cond c.all c (record c { slots = c.slots ++ of_module at name ∷ [] })

-- the slot of a name in the preludes besides
abbrev pub with_preludes : List ℕ → ChangedValue → ChangedValue
with_preludes name c = cond c.all c (record c { slots = c.slots ++ of_preludes name ∷ [] })

-- an item besides, on which a helper came into scope
abbrev pub with_item : AstId → ChangedValue → ChangedValue
with_item item c = cond c.all c (record c { items = c.items ++ item ∷ [] })

-- these slots besides
abbrev pub with_slots : List PathSlot → ChangedValue → ChangedValue
with_slots slots c = cond c.all c (record c { slots = c.slots ++ slots })

-- the slots of two, any where any may be of the second, and the items of the first
abbrev pub joined : ChangedValue → ChangedValue → ChangedValue
joined c other = cond other.all everything (with_slots other.slots c)

-- a slot isn't among them
pub record IsUntouched (changed : ChangedValue) (slot : PathSlot) : Type 0 where
  pub some : changed.all ≡ false
  pub other : ¬ Contains changed.slots slot

-- the order of items
abbrev pub item_cmp : AstId → AstId → Ordering
item_cmp = ast_order.ghosts.cmp

-- whether an item is one of some
abbrev pub is_one_of : AstId → List AstId → Bool
is_one_of item items = list_any (is_at (item_cmp item)) items

-- an item is none of those on which helpers came into scope
pub record IsUnhelped (changed : ChangedValue) (item : AstId) : Type 0 where
  pub some : changed.all ≡ false
  pub other : is_one_of item changed.items ≡ false
