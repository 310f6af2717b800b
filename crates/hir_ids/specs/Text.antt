-- Which bytes does a kept text have?
use Rattle.std.specs.Prelude.{ℕ, List, map, codes}
use Rattle.std.specs.Borrow.{Bor}
use Rattle.std.specs.Rc.{rc_str_bytes}
use Rattle.hir_ids.specs.BuiltinType.{builtin_text}
use Rattle.hir_ids.specs.declared.text.Kept.{Kept}
use Rattle.hir_ids.specs.declared.text.Kept.TheVariants.{Blank, Builtin, Shared}

-- the bytes of a text, wherever it is kept
abbrev pub kept_bytes : Kept → List ℕ
kept_bytes Blank = codes "blank"
kept_bytes (Builtin builtin) = builtin_text builtin
kept_bytes (Shared text) = rc_str_bytes text

-- the texts that these references point to
abbrev pub nows : List (Bor (List ℕ)) → List (List ℕ)
nows refs = map (λ text. text.now) refs
