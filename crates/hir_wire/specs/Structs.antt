-- What do structs, unions and enums have besides their heads?
use Rattle.std.specs.Prelude.{ℕ, List, [], Option, Some, None, Err, if◌then◌else◌, codes}
use Rattle.std.specs.Str.{bytes_eq}
use Rattle.serde_json.specs.Data.{Data, null, boolean, number, string, array, object, Members}
use Rattle.hir_item_tree.specs.Attributes.{no_attributes}
use Rattle.hir_item_tree.specs.Source.{NodeHead, VariantValue, structure, union_structure, enumeration, Item, plain}
use Rattle.hir_base.specs.declared.shape.FieldsShape.{FieldsShape}
use Rattle.hir_base.specs.declared.shape.FieldsShape.TheVariants as shape
use Rattle.hir_wire.specs.declared.read_error.ReadError.TheVariants.{Command}
use Rattle.hir_wire.specs.Attributes.{attributes_of}
use Rattle.hir_wire.specs.Paths.{name_of, id_meant}
use Rattle.hir_wire.specs.Reading.{Reading, made, paired, required, optional, word_as, list_of}
use Rattle.hir_wire.specs.Visibility.{vis_of}

-- the shape that a word stands for
abbrev pub shape_of_word : List ℕ → Option FieldsShape
shape_of_word word =
    if bytes_eq word (codes "record") then Some shape.Record else
    (if bytes_eq word (codes "tuple") then Some shape.Tuple else
    (if bytes_eq word (codes "unit") then Some shape.Unit else None))

-- a struct: its name, its shape and its fields
unfoldable pub struct_in : Members → Reading (NodeHead → Item)
struct_in ms =
    made (λ p h. plain h (structure p.0 p.1.0 p.1.1)) (paired (required name_of (codes "name") ms)
    (paired (optional shape.Unit (word_as shape_of_word) (codes "shape") ms) (optional [] (list_of vis_of) (codes "fields") ms)))

-- a union: its name and its fields
unfoldable pub union_in : Members → Reading (NodeHead → Item)
union_in ms =
    made (λ p h. plain h (union_structure p.0 p.1)) (paired (required name_of (codes "name") ms) (optional [] (list_of vis_of) (codes "fields") ms))

-- a variant's members
unfoldable pub variant_in : Members → Reading VariantValue
variant_in ms =
    made (λ p. record { id = p.0.1; attributes = p.1.1; name = p.0.0; shape = p.1.0 })
    (paired (paired (required name_of (codes "name") ms) (required id_meant (codes "id") ms))
    (paired (optional shape.Unit (word_as shape_of_word) (codes "shape") ms) (optional no_attributes attributes_of (codes "attrs") ms)))

-- a value as a variant
abbrev pub variant_of : Data → Reading VariantValue
variant_of null = Err Command
variant_of (boolean b) = Err Command
variant_of (number n) = Err Command
variant_of (string s) = Err Command
variant_of (array ds) = Err Command
variant_of (object ms) = variant_in ms

-- an enum: its name and its variants
unfoldable pub enum_in : Members → Reading (NodeHead → Item)
enum_in ms =
    made (λ p h. plain h (enumeration p.0 p.1)) (paired (required name_of (codes "name") ms) (required (list_of variant_of) (codes "variants") ms))
