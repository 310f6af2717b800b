-- What does the line hold that is being read?
use Rattle.std.specs.Prelude.{◌≡◌, ℕ, ◌<◌, ◌≤◌, List, length}
use Rattle.hir_lines.specs.declared.open_line.TheConstants.{LINE_LIMIT}
use Rattle.hir_lines.specs.declared.open_line.Fate.{Fate}
use Rattle.hir_lines.specs.declared.open_line.Fate.TheVariants as fate
use Rattle.hir_lines.specs.declared.open_line.OpenLine.{OpenLine}

-- a line of this fate is kept whole, or is counted, or is above the limit
abbrev pub HoldsPart : Fate → List ℕ → ℕ → List ℕ → Type 0
HoldsPart fate.Kept kept count part = (kept ≡ part) × (count ≡ length part) × (length part ≤ LINE_LIMIT)
HoldsPart fate.Refused kept count part = (count ≡ length part) × (length part ≤ LINE_LIMIT)
HoldsPart fate.TooLarge kept count part = LINE_LIMIT < length part

-- the open line stands after this part of a line
abbrev pub Holds : OpenLine → List ℕ → Type 0
Holds line part = HoldsPart line.fate line.kept.items line.length part
