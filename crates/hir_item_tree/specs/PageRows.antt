-- What does a row print?
use Rattle.std.specs.Prelude.{ℕ, List}
use Rattle.hir_ids.specs.declared.edition.Edition.{Edition}
use Rattle.hir_raw_visibility.specs.declared.raw_visibility.RawVisibility.{RawVisibility}
use Rattle.hir_item_tree.specs.Rows.{Content, alone, with_items}
use Rattle.hir_item_tree.specs.Page.{leaf_word, holder_word, leaf_line, holder_line}

-- the kind of an item, as its id's line has it
abbrev pub content_word : Content → List ℕ
content_word (alone l) = leaf_word l
content_word (with_items k ns) = holder_word k

-- an item's own line: of one that holds others the line that opens it
abbrev pub content_line : Edition → RawVisibility → Content → List ℕ
content_line e v (alone l) = leaf_line e v l
content_line e v (with_items k ns) = holder_line e v k
