-- Where is a module, or a block, in a workspace?
use Rattle.std.specs.Prelude.{List}
use Rattle.hir_ids.specs.declared.ids.Crate.{Crate}
use Rattle.hir_base.specs.declared.place.PlaceElement.{PlaceElement}

-- a crate, and the modules and blocks that lead down from its root
pub record PlaceValue : Type 0 where
  pub krate : Crate
  pub elements : List PlaceElement
