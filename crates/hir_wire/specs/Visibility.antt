-- What does a JSON value mean as a visibility?
use Rattle.std.specs.Prelude.{ℕ, List, Option, Some, None, Ok, Err, if◌then◌else◌, codes}
use Rattle.std.specs.Str.{bytes_eq}
use Rattle.serde_json.specs.Data.{Data, null, boolean, number, string, array, object}
use Rattle.hir_raw_visibility.specs.declared.raw_visibility.RawVisibility.{RawVisibility}
use Rattle.hir_raw_visibility.specs.declared.raw_visibility.RawVisibility.TheVariants as vis
use Rattle.hir_ids.specs.declared.explicitness.VisibilityExplicitness.TheVariants.{Explicit, Implicit}
use Rattle.hir_wire.specs.declared.read_error.ReadError.TheVariants.{Command}
use Rattle.hir_wire.specs.Paths.{path_of}
use Rattle.hir_wire.specs.Reading.{Reading, made, required, formed}

-- the visibility that a word stands for
abbrev pub vis_of_word : List ℕ → Option RawVisibility
vis_of_word word =
    if bytes_eq word (codes "self") then Some (vis.PubSelf Explicit) else
    (if bytes_eq word (codes "crate") then Some vis.PubCrate else
    (if bytes_eq word (codes "pub") then Some vis.Public else None))

-- a value as a visibility
abbrev pub vis_of : Data → Reading RawVisibility
vis_of null = Ok (vis.PubSelf Implicit)
vis_of (boolean b) = Err Command
vis_of (number n) = Err Command
vis_of (string word) = formed (vis_of_word word)
vis_of (array ds) = Err Command
vis_of (object ms) = made (λ path. vis.Module path Explicit) (required path_of (codes "in") ms)
