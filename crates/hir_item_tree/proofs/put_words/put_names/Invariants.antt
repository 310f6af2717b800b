use Rattle.std.proofs.Common.{◌≡◌, ◌++◌, drop, string_bytes, false}
use Rattle.hir_item_tree.specs.Page.{names_text}
use Rattle.hir_item_tree.proofs.put_words.put_names.Given as goal

-- the text so far, and that of the names that are left, are the whole
abbrev pub invariant-loop-name : goal.invariant-loop-name
invariant-loop-name l =
    string_bytes l.out ++ names_text l.edition (drop l.name-index l.names) l.later ≡ string_bytes l.initial.out ++ names_text l.edition l.names false
