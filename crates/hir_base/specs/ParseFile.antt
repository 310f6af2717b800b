-- Which file does a text name?
use Rattle.std.specs.Prelude.{ℕ, ◌-◌, ◌==◌, ◌||◌, nat_lt, List, [], ◌∷◌, ◌++◌, length, take, codes, Result, Ok, Err, Option, Some, None, if◌then◌else◌}
use Rattle.std.specs.List.{fold, slice_split, join_with_byte}
use Rattle.hir_base.specs.declared.limit.Limit.TheVariants.{File as FileLimit}
use Rattle.hir_base.specs.declared.mod_path.ParseError.{ParseError}
use Rattle.hir_base.specs.declared.mod_path.ParseError.TheVariants.{Bad, TooLarge}
use Rattle.hir_ids.specs.NameForm.{same_text}

-- the segments up to here and one more: an empty one and `.` vanish, `..` drops the segment before and may not climb past the root
abbrev pub one_more : Option (List (List ℕ)) → List ℕ → Option (List (List ℕ))
one_more None segment = None
one_more (Some before) segment =
    if length segment == 0 || same_text segment (codes ".") then Some before else
    if same_text segment (codes "..") then (if length before == 0 then None else Some (take (length before - 1) before)) else
    Some (before ++ segment ∷ [])

-- the segments that are left of a text
abbrev pub folded_segments : List ℕ → Option (List (List ℕ))
folded_segments text = fold one_more (Some []) (slice_split (λ b. b == 47) text)

-- the text that these segments make, or why they name no file
abbrev pub joined : Option (List (List ℕ)) → Result (List ℕ) ParseError
joined None = Err Bad
joined (Some segments) =
    if length segments == 0 then Err Bad else
    if nat_lt 64 (length segments) then Err (TooLarge FileLimit) else
    Ok (join_with_byte 47 segments)

-- the folded path of a text, or why it names no file
abbrev pub folded_path : List ℕ → Result (List ℕ) ParseError
folded_path text = joined (folded_segments text)
