-- Which path does a text spell?
use Rattle.std.specs.Prelude.{◌≡◌, ℕ, ◌+◌, ◌^◌, ◌==◌, not, ◌&&◌, ◌||◌, nat_lt, List, [], ◌∷◌, length, slice_index, drop, codes, Result, Ok, Err, Option, Some}
use Rattle.std.specs.Prelude.{None, if◌then◌else◌}
use Rattle.std.specs.List.{list_any, list_all, slice_split}
use Rattle.std.specs.Option.{option_map}
use Rattle.std.specs.Str.{all_ascii_digits}
use Rattle.std.specs.Str.Parse.{digits_value}
use Rattle.hir_ids.specs.declared.ids.Crate.{Crate}
use Rattle.hir_base.specs.declared.limit.Limit.TheVariants.{Name as NameLimit, Path as PathLimit}
use Rattle.hir_base.specs.declared.mod_path.ParseError.{ParseError}
use Rattle.hir_base.specs.declared.mod_path.ParseError.TheVariants.{Bad, TooLarge, Memory}
use Rattle.hir_base.specs.declared.mod_path.PathKind.{PathKind}
use Rattle.hir_base.specs.declared.mod_path.PathKind.TheVariants.{Plain, Super, Crate as CrateRoot, Abs, DollarCrate}
use Rattle.hir_base.specs.ModPath.{Path}
use Rattle.hir_ids.specs.NameForm.{same_text, is_name, max_name}

-- memory ran out
abbrev pub IsMemory : ParseError → Type 0
IsMemory e = e ≡ Memory

-- of the pieces between colons each second is empty, and the others are the parts; a colon that stands alone leaves none
abbrev pub parts_of_pieces : List (List ℕ) → Option (List (List ℕ))
parts_of_pieces [] = None
parts_of_pieces (part ∷ []) = Some (part ∷ [])
parts_of_pieces (part ∷ between ∷ pieces) =
    if length between == 0 then option_map (λ parts. part ∷ parts) (parts_of_pieces pieces) else None

-- the parts that `::` joins to the text
abbrev pub parts : List ℕ → Option (List (List ℕ))
parts text = parts_of_pieces (slice_split (λ b. b == 58) text)

-- a path of these parts
abbrev pub path : PathKind → List (List ℕ) → Path
path kind segments = record { kind = kind; segments = segments }

-- each further `super` is one more level
abbrev pub climb : ℕ → List (List ℕ) → Path
climb levels [] = path (Super levels) []
climb levels (part ∷ rest) = if same_text part (codes "super") then climb (levels + 1) rest else path (Super levels) (part ∷ rest)

-- the crate whose number these digits are
abbrev pub crate_of_digits : List ℕ → Option Crate
crate_of_digits digits =
    if not (length digits == 0) && all_ascii_digits digits && nat_lt (digits_value 10 digits) (2 ^ 32)
    then Some (record { 0 = digits_value 10 digits }) else None

-- the path that these parts spell, of which the first may be a root
abbrev pub from_root : List ℕ → List (List ℕ) → Option Path
from_root root rest =
    if same_text root (codes "crate") then Some (path CrateRoot rest) else
    if same_text root (codes "self") then Some (climb 0 rest) else
    if same_text root (codes "super") then Some (climb 1 rest) else
    if slice_index root 0 == 36 then option_map (λ krate. path (DollarCrate krate) rest) (crate_of_digits (drop 1 root)) else
    Some (path Plain (root ∷ rest))

-- the path that these parts spell, where an empty first part makes it absolute
abbrev pub from_parts : List (List ℕ) → Option Path
from_parts [] = None
from_parts ([] ∷ []) = Some (path Plain [])
from_parts ([] ∷ [] ∷ []) = Some (path Abs [])
from_parts ([] ∷ part ∷ rest) = Some (path Abs (part ∷ rest))
from_parts (root ∷ rest) = from_root root rest

-- the path, if what follows its root are names
abbrev pub with_names : Option Path → Option Path
with_names None = None
with_names (Some p) = if list_all is_name p.segments then Some p else None

-- the path that these parts spell, however large; no parts spell none
abbrev pub spelled_by : Option (List (List ℕ)) → Option Path
spelled_by None = None
spelled_by (Some ps) = with_names (from_parts ps)

-- the path that a text spells, however large
abbrev pub spelled : List ℕ → Option Path
spelled text = spelled_by (parts text)

-- the levels of `super`
abbrev pub levels : PathKind → ℕ
levels (Super n) = n
levels kind = 0

-- the path, or the first limit that it passes
abbrev pub within_limits : Path → Result Path ParseError
within_limits p =
    if list_any (λ segment. nat_lt max_name (length segment)) p.segments then Err (TooLarge NameLimit) else
    if nat_lt 64 (length p.segments) || nat_lt 255 (levels p.kind) then Err (TooLarge PathLimit) else
    Ok p

-- the answer to a text that spells this path, if any
abbrev pub parse_of_spelled : Option Path → Result Path ParseError
parse_of_spelled None = Err Bad
parse_of_spelled (Some p) = within_limits p

-- the path of a text, or why it has none
abbrev pub path_of_text : List ℕ → Result Path ParseError
path_of_text text = parse_of_spelled (spelled text)
