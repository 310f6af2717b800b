-- What a line means, by what was read of it.
use Rattle.std.proofs.Common.{◌≡◌, ◌≢◌, List, ℕ, Bool, true, false, Some, None, Result, Ok, Err, MatchResult, refl}
use Rattle.std.specs.Str.{IsUtf8, is_utf8}
use Rattle.std.proofs.lemmas.Str.{IsUtf8-from_is_utf8, is_utf8-from_IsUtf8}
use Rattle.serde_json.specs.Data.{Data}
use Rattle.serde_json.specs.Read.{read}
use Rattle.serde_json.specs.Written.{has_float}
use Rattle.hir_wire.specs.Types.{Command, ReadError}
use Rattle.hir_wire.specs.declared.read_error.ReadError.TheVariants as error
use Rattle.hir_messages.specs.CommandValue.{command_view}
use Rattle.hir_wire.specs.Commands.{command_of, data_of, reading_from}
use Rattle.hir_wire.specs.Reading.{Reads, Tells}

-- a line of UTF-8 that reads as a value has it
pub data_of-some : (line : List ℕ) (d : Data) → IsUtf8 line → read line ≡ Some d → data_of line ≡ Some d
unfolding data_of
data_of-some line d utf8 is = rw (is_utf8-from_IsUtf8 line utf8) is

none_at : (line : List ℕ) (b : Bool) → is_utf8 line ≡ b → (IsUtf8 line → read line ≡ None) → data_of line ≡ None
unfolding data_of
none_at line true e h = rw e (h (IsUtf8-from_is_utf8 line e))
none_at line false e h = rw e refl

-- a line that reads as none where it is UTF-8 has none
pub data_of-none : (line : List ℕ) → (IsUtf8 line → read line ≡ None) → data_of line ≡ None
data_of-none line h = none_at line (is_utf8 line) refl h

line_tells : (line : List ℕ) (d : Data) (r : Result Command ReadError) → data_of line ≡ Some d → has_float d ≡ false → Tells command_view (command_of d) r
    → MatchResult r (λ c. reading_from (data_of line) ≡ Ok (command_view c)) (λ e. e ≢ error.Memory → reading_from (data_of line) ≡ Err e)
line_tells line d (Ok c) is plain h = rw (is, plain, h) refl
line_tells line d (Err error.Json) is plain h = elim h [ ]
line_tells line d (Err error.Command) is plain h = λ _. rw (is, plain, h) refl
line_tells line d (Err (error.TooLarge limit)) is plain h = λ _. rw (is, plain, h) refl
line_tells line d (Err error.Memory) is plain h = λ other. absurd (other refl)

-- what the fields say is what the line says
pub line_says : (line : List ℕ) (d : Data) (r : Result Command ReadError) → data_of line ≡ Some d → has_float d ≡ false → Reads command_view (command_of d) r
    → MatchResult r (λ c. reading_from (data_of line) ≡ Ok (command_view c)) (λ e. e ≢ error.Memory → reading_from (data_of line) ≡ Err e)
line_says line d r is plain h = line_tells line d r is plain h.told
