-- How deep do items nest in one another?
use Rattle.std.specs.Prelude.{ℕ, suc, max, Bool, false, nat_lt}
use Rattle.hir_collector_rules.specs.HirItemTree.Source.{Item, Items, SourceValue, plain, holder, no_items, item, broken, unit}

abbrev mutual
  -- how many modules, traits, impls and extern blocks are in one another, the item itself among them
  pub item_nesting : Item → ℕ
  item_nesting (plain h kind) = 0
  item_nesting (holder h kind items) = suc (items_nesting items)

  pub items_nesting : Items → ℕ
  items_nesting no_items = 0
  items_nesting (item i is) = max (item_nesting i) (items_nesting is)

-- whether they are too many to be looked at
abbrev pub is_nested_too_deep : SourceValue → Bool
is_nested_too_deep broken = false
is_nested_too_deep (unit _ items) = nat_lt 128 (items_nesting items)
