-- Which word names a limit?
use Rattle.std.specs.Prelude.{ℕ, List, codes}
use Rattle.hir_base.specs.declared.limit.Limit.{Limit}
use Rattle.hir_base.specs.declared.limit.Limit.TheVariants as limit

-- the word of a limit
abbrev pub limit_text : Limit → List ℕ
limit_text limit.Line = codes "line"
limit_text limit.Name = codes "name"
limit_text limit.Path = codes "path"
limit_text limit.File = codes "file"
limit_text limit.Index = codes "index"
limit_text limit.Nodes = codes "nodes"
limit_text limit.Modules = codes "modules"
limit_text limit.UseTree = codes "use tree"
limit_text limit.Cfg = codes "cfg"
limit_text limit.Blocks = codes "blocks"
limit_text limit.Crates = codes "crates"
limit_text limit.Inner = codes "inner"
