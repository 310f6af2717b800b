-- Which names of structs and variants stand for values?
use Rattle.std.specs.Prelude.{Bool, true, false}
use Rattle.hir_base.specs.declared.shape.FieldsShape.{FieldsShape}
use Rattle.hir_base.specs.declared.shape.FieldsShape.TheVariants as shapes

-- a struct with named fields alone has no value of its name
abbrev pub has_constructor : FieldsShape → Bool
has_constructor shapes.Record = false
has_constructor shapes.Tuple = true
has_constructor shapes.Unit = true
