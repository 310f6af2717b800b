-- What was read of a list so far?
use Rattle.std.specs.Prelude.{List, [], ◌∷◌, ◌++◌, Option, Some, None, Ok, Err}
use Rattle.hir_wire.specs.declared.json.parts.Parts.{Parts}
use Rattle.hir_wire.specs.declared.read_error.ReadError.{ReadError}
use Rattle.hir_wire.specs.Reading.{Reading, paired, made}

-- the values, unless there was an error
abbrev pub unless_error : {A : Type 0} → Option ReadError → List A → Reading (List A)
unless_error None values = Ok values
unless_error (Some e) values = Err e

-- what was read so far
abbrev pub read_so_far : {T : Type 0} → Parts T → Reading (List T)
read_so_far parts = unless_error parts.error parts.values.items

-- what was read, and one more reading
abbrev pub extended : {A : Type 0} → Reading (List A) → Reading A → Reading (List A)
extended before reading = made (λ p. p.0 ++ p.1 ∷ []) (paired before reading)

-- what was read, and the reading of all that follows
abbrev pub joined : {A : Type 0} → Reading (List A) → Reading (List A) → Reading (List A)
joined before after = made (λ p. p.0 ++ p.1) (paired before after)
