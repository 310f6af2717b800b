-- The names of builtin types are names.
use Rattle.std.proofs.Common.{refl, lit≤}
use Rattle.std.specs.Str.{chars}
use Rattle.hir_ids.specs.NameForm.{IsName}
use Rattle.hir_ids.specs.declared.builtin_type.BuiltinInt.TheVariants as int
use Rattle.hir_ids.specs.declared.builtin_type.BuiltinUint.TheVariants as uint
use Rattle.hir_ids.specs.declared.builtin_type.BuiltinFloat.TheVariants as float
use Rattle.hir_ids.specs.Types.{BuiltinType}
use Rattle.hir_ids.specs.declared.builtin_type.BuiltinType.TheVariants.{Char, Bool, Str, Int, Uint, Float}
use Rattle.hir_ids.specs.BuiltinType.{builtin_text}

pub is_name_of_builtin : (builtin : BuiltinType) → IsName (builtin_text builtin)
unfolding chars
is_name_of_builtin Char = (refl, lit≤ tt)
is_name_of_builtin Bool = (refl, lit≤ tt)
is_name_of_builtin Str = (refl, lit≤ tt)
is_name_of_builtin (Int int.Isize) = (refl, lit≤ tt)
is_name_of_builtin (Int int.I8) = (refl, lit≤ tt)
is_name_of_builtin (Int int.I16) = (refl, lit≤ tt)
is_name_of_builtin (Int int.I32) = (refl, lit≤ tt)
is_name_of_builtin (Int int.I64) = (refl, lit≤ tt)
is_name_of_builtin (Int int.I128) = (refl, lit≤ tt)
is_name_of_builtin (Uint uint.Usize) = (refl, lit≤ tt)
is_name_of_builtin (Uint uint.U8) = (refl, lit≤ tt)
is_name_of_builtin (Uint uint.U16) = (refl, lit≤ tt)
is_name_of_builtin (Uint uint.U32) = (refl, lit≤ tt)
is_name_of_builtin (Uint uint.U64) = (refl, lit≤ tt)
is_name_of_builtin (Uint uint.U128) = (refl, lit≤ tt)
is_name_of_builtin (Float float.F16) = (refl, lit≤ tt)
is_name_of_builtin (Float float.F32) = (refl, lit≤ tt)
is_name_of_builtin (Float float.F64) = (refl, lit≤ tt)
is_name_of_builtin (Float float.F128) = (refl, lit≤ tt)
