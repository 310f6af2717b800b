-- What does making a name of a text answer?
use Rattle.std.specs.Prelude.{◌≡◌, ℕ, not, nat_lt, List, length, Result, Ok, Err, if◌then◌else◌}
use Rattle.hir_ids.specs.declared.name.NameError.{NameError}
use Rattle.hir_ids.specs.declared.name.NameError.TheVariants.{Bad, TooLarge, Memory}
use Rattle.hir_ids.specs.NameForm.{is_name, max_name}

-- memory ran out
abbrev pub IsMemory : NameError → Type 0
IsMemory e = e ≡ Memory

-- the name that a text is, or why it is none
abbrev pub name_verdict : List ℕ → Result (List ℕ) NameError
name_verdict text =
    if not (is_name text) then Err Bad else
    if nat_lt max_name (length text) then Err TooLarge else
    Ok text
