-- Which builtin type has a name?
use Rattle.std.specs.Prelude.{ℕ, List, [], ◌∷◌, codes, Option, Some, None, if◌then◌else◌}
use Rattle.std.specs.Option.{option_map, option_or}
use Rattle.hir_ids.specs.NameForm.{same_text}
use Rattle.hir_ids.specs.declared.builtin_type.BuiltinInt.{BuiltinInt}
use Rattle.hir_ids.specs.declared.builtin_type.BuiltinInt.TheVariants as int
use Rattle.hir_ids.specs.declared.builtin_type.BuiltinUint.{BuiltinUint}
use Rattle.hir_ids.specs.declared.builtin_type.BuiltinUint.TheVariants as uint
use Rattle.hir_ids.specs.declared.builtin_type.BuiltinFloat.{BuiltinFloat}
use Rattle.hir_ids.specs.declared.builtin_type.BuiltinFloat.TheVariants as float
use Rattle.hir_ids.specs.declared.builtin_type.BuiltinType.{BuiltinType}
use Rattle.hir_ids.specs.declared.builtin_type.BuiltinType.TheVariants.{Char, Bool, Str, Int, Uint, Float}

-- the name of a signed integer type
abbrev pub int_text : BuiltinInt → List ℕ
int_text int.Isize = codes "isize"
int_text int.I8 = codes "i8"
int_text int.I16 = codes "i16"
int_text int.I32 = codes "i32"
int_text int.I64 = codes "i64"
int_text int.I128 = codes "i128"

-- the name of an unsigned integer type
abbrev pub uint_text : BuiltinUint → List ℕ
uint_text uint.Usize = codes "usize"
uint_text uint.U8 = codes "u8"
uint_text uint.U16 = codes "u16"
uint_text uint.U32 = codes "u32"
uint_text uint.U64 = codes "u64"
uint_text uint.U128 = codes "u128"

-- the name of a floating-point type
abbrev pub float_text : BuiltinFloat → List ℕ
float_text float.F16 = codes "f16"
float_text float.F32 = codes "f32"
float_text float.F64 = codes "f64"
float_text float.F128 = codes "f128"

-- the name of a builtin type
abbrev pub builtin_text : BuiltinType → List ℕ
builtin_text Char = codes "char"
builtin_text Bool = codes "bool"
builtin_text Str = codes "str"
builtin_text (Int kind) = int_text kind
builtin_text (Uint kind) = uint_text kind
builtin_text (Float kind) = float_text kind

-- the signed integer type of this name
abbrev pub int_named : List ℕ → Option BuiltinInt
int_named name =
    if same_text name (codes "isize") then Some int.Isize else
    if same_text name (codes "i8") then Some int.I8 else
    if same_text name (codes "i16") then Some int.I16 else
    if same_text name (codes "i32") then Some int.I32 else
    if same_text name (codes "i64") then Some int.I64 else
    if same_text name (codes "i128") then Some int.I128 else
    None

-- the unsigned integer type of this name
abbrev pub uint_named : List ℕ → Option BuiltinUint
uint_named name =
    if same_text name (codes "usize") then Some uint.Usize else
    if same_text name (codes "u8") then Some uint.U8 else
    if same_text name (codes "u16") then Some uint.U16 else
    if same_text name (codes "u32") then Some uint.U32 else
    if same_text name (codes "u64") then Some uint.U64 else
    if same_text name (codes "u128") then Some uint.U128 else
    None

-- the floating-point type of this name
abbrev pub float_named : List ℕ → Option BuiltinFloat
float_named name =
    if same_text name (codes "f16") then Some float.F16 else
    if same_text name (codes "f32") then Some float.F32 else
    if same_text name (codes "f64") then Some float.F64 else
    if same_text name (codes "f128") then Some float.F128 else
    None

-- the builtin type that is no number and has this name
abbrev pub other_named : List ℕ → Option BuiltinType
other_named name =
    if same_text name (codes "char") then Some Char else
    if same_text name (codes "bool") then Some Bool else
    if same_text name (codes "str") then Some Str else
    None

-- the builtin type of this name
abbrev pub builtin_named : List ℕ → Option BuiltinType
builtin_named name =
    option_or (other_named name) (option_or (option_map Int (int_named name))
    (option_or (option_map Uint (uint_named name)) (option_map Float (float_named name))))

-- all builtin types
abbrev pub all_builtin_types : List BuiltinType
all_builtin_types = Char ∷ Bool ∷ Str ∷ Int int.Isize ∷ Int int.I8 ∷ Int int.I16 ∷ Int int.I32 ∷ Int int.I64 ∷ Int int.I128
    ∷ Uint uint.Usize ∷ Uint uint.U8 ∷ Uint uint.U16 ∷ Uint uint.U32 ∷ Uint uint.U64 ∷ Uint uint.U128
    ∷ Float float.F16 ∷ Float float.F32 ∷ Float float.F64 ∷ Float float.F128 ∷ []
