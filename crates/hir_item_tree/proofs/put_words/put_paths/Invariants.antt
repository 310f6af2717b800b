use Rattle.std.proofs.Common.{◌≡◌, ◌++◌, drop, string_bytes, false}
use Rattle.hir_item_tree.specs.Page.{paths_text}
use Rattle.hir_item_tree.proofs.put_words.put_paths.Given as goal

-- the text so far, and that of the paths that are left, are the whole
abbrev pub invariant-loop-path : goal.invariant-loop-path
invariant-loop-path l =
    string_bytes l.out ++ paths_text l.edition (drop l.path-index l.paths) l.later ≡ string_bytes l.initial.out ++ paths_text l.edition l.paths false
