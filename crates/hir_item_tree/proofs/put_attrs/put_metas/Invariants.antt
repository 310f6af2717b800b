use Rattle.std.proofs.Common.{◌≡◌, ◌++◌, drop, map, string_bytes}
use Rattle.hir_item_tree.specs.Collected.{numbered}
use Rattle.hir_item_tree.specs.Page.{metas_text}
use Rattle.hir_item_tree.proofs.put_attrs.put_metas.Given as goal

-- the lines so far, and those of the attributes that are left, are the whole
abbrev pub invariant-loop-attr : goal.invariant-loop-attr
invariant-loop-attr l =
    string_bytes l.out ++ metas_text l.edition l.level l.mark (map numbered (drop l.attr-index l.attrs))
    ≡ string_bytes l.initial.out ++ metas_text l.edition l.level l.mark (map numbered l.attrs)
