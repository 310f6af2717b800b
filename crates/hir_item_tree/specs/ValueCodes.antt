-- Codes of the values of which items are made: how each is stored as a tree of numbers.
use Rattle.std.specs.Prelude.{◌≡◌, ℕ, List}
use Rattle.std.specs.Coded.{Coded, codes, coded_ℕ, coded_list}
use base.Stored.{Gv, gnum, gcons}
use Rattle.hir_base.specs.ModPath.{Path}
use Rattle.hir_ids.specs.declared.ast_id.SyntaxId.{SyntaxId}
use Rattle.hir_raw_visibility.specs.declared.raw_visibility.RawVisibility.{RawVisibility}
use Rattle.hir_base.specs.declared.shape.FieldsShape.{FieldsShape}
use Rattle.hir_use_tree.specs.declared.imports.ImportAlias.{ImportAlias}

-- a name, by its bytes
abbrev pub coded_name : Coded (List ℕ)
coded_name = coded_list coded_ℕ

-- a syntax id
pub coded_id : Coded SyntaxId
coded_id = hlevel (codes)

-- a path
pub coded_path : Coded Path
coded_path = hlevel (codes)

-- a written visibility
pub coded_visibility : Coded RawVisibility
coded_visibility = hlevel (codes, coded_path)

-- a shape of fields
pub coded_shape : Coded FieldsShape
coded_shape = hlevel (codes)

-- an alias
pub coded_alias : Coded ImportAlias
coded_alias = hlevel (codes)

-- equal number trees have equal numbers
pub number : (m n : ℕ) → gnum m ≡ gnum n → m ≡ n
number m n h = cc

-- equal pairs have equal halves
pub halves : (a b c d : Gv) → gcons a b ≡ gcons c d → (a ≡ c) × (b ≡ d)
halves a b c d h = (cc, cc)
