-- What compares as equal is: definitions, and who may see them.
use Rattle.std.proofs.Common.{◌≡◌, nat_eq, ℕ, Bool, true, false, ◌&&◌, Option, Some, None, refl, sym, ap, rules, true≢false}
use Rattle.std.specs.Bool.{beq}
use Rattle.std.specs.Cmp.{unsigned_Decides, first_so, second_so}
use Rattle.std.specs.Option.{option_eq}
use denote.Enum.Bare.{same_true}
use Rattle.hir_collector_rules.specs.HirIds.contracts.ast_id.BlockIdPartialEq.TheImpl as block_id
use Rattle.hir_collector_rules.specs.HirIds.contracts.ast_id.HirFileIdPartialEq.TheImpl as hir_file
use Rattle.hir_collector_rules.specs.HirIds.contracts.ast_id.SyntaxIdPartialEq.TheImpl as syntax
use Rattle.hir_collector_rules.specs.HirIds.contracts.builtin_type.BuiltinFloat.{the_type as floats}
use Rattle.hir_collector_rules.specs.HirIds.contracts.builtin_type.BuiltinInt.{the_type as ints}
use Rattle.hir_collector_rules.specs.HirIds.contracts.builtin_type.BuiltinTypePartialEq.TheImpl as builtin_type
use Rattle.hir_collector_rules.specs.HirIds.contracts.builtin_type.BuiltinUint.{the_type as uints}
use Rattle.hir_collector_rules.specs.HirIds.contracts.edition.Edition.{the_type as editions}
use Rattle.hir_collector_rules.specs.HirIds.contracts.ids.AdtIdPartialEq.TheImpl as adt
use Rattle.hir_collector_rules.specs.HirIds.contracts.ids.EnumIdPartialEq.TheImpl as enum_id
use Rattle.hir_collector_rules.specs.HirIds.contracts.ids.ItemContainerIdPartialEq.TheImpl as container
use Rattle.hir_collector_rules.specs.HirIds.contracts.ids.ModuleDefIdPartialEq.TheImpl as module_def
use Rattle.hir_collector_rules.specs.HirIds.contracts.ids.ModuleIdPartialEq.TheImpl as module_id
use Rattle.hir_collector_rules.specs.HirIds.contracts.macro_kind.MacroCallStylesPartialEq.TheImpl as call_styles
use Rattle.hir_collector_rules.specs.HirIds.contracts.macro_kind.MacroExpanderPartialEq.TheImpl as expander
use Rattle.hir_collector_rules.specs.HirIds.contracts.macro_kind.MacroIdPartialEq.TheImpl as makro
use Rattle.hir_collector_rules.specs.HirIds.contracts.macro_kind.MacroLocPartialEq.TheImpl as macro_loc
use Rattle.hir_collector_rules.specs.HirIds.contracts.macro_kind.ProcMacroLocPartialEq.TheImpl as proc_macro_loc
use Rattle.hir_collector_rules.specs.HirIds.contracts.macro_kind.ProcMacroStyle.{the_type as proc_macro_styles}
use Rattle.hir_collector_rules.specs.HirIds.declared.ids.AdtId.{AdtId}
use Rattle.hir_collector_rules.specs.HirIds.declared.ast_id.BlockId.{BlockId}
use Rattle.hir_collector_rules.specs.HirIds.declared.builtin_type.BuiltinType.{BuiltinType}
use Rattle.hir_collector_rules.specs.HirIds.declared.ids.EnumId.{EnumId}
use Rattle.hir_collector_rules.specs.HirIds.declared.ast_id.HirFileId.{HirFileId}
use Rattle.hir_collector_rules.specs.HirIds.declared.ids.ItemContainerId.{ItemContainerId}
use Rattle.hir_collector_rules.specs.HirIds.declared.ids.ItemLoc.{ItemLoc}
use Rattle.hir_collector_rules.specs.HirIds.declared.macro_kind.MacroCallStyles.{MacroCallStyles}
use Rattle.hir_collector_rules.specs.HirIds.declared.macro_kind.MacroExpander.{MacroExpander}
use Rattle.hir_collector_rules.specs.HirIds.declared.macro_kind.MacroId.{MacroId}
use Rattle.hir_collector_rules.specs.HirIds.declared.macro_kind.MacroLoc.{MacroLoc}
use Rattle.hir_collector_rules.specs.HirIds.declared.ids.ModuleDefId.{ModuleDefId}
use Rattle.hir_collector_rules.specs.HirIds.declared.ids.ModuleId.{ModuleId}
use Rattle.hir_collector_rules.specs.HirIds.declared.macro_kind.ProcMacroLoc.{ProcMacroLoc}
use Rattle.hir_collector_rules.specs.HirIds.declared.ast_id.SyntaxId.{SyntaxId}
use Rattle.hir_collector_rules.specs.HirIds.declared.ast_id.HirFileId.TheVariants as files
use Rattle.hir_collector_rules.specs.HirIds.declared.builtin_type.BuiltinType.TheVariants as builtins
use Rattle.hir_collector_rules.specs.HirIds.declared.ids.AdtId.TheVariants as adts
use Rattle.hir_collector_rules.specs.HirIds.declared.ids.ItemContainerId.TheVariants as containers
use Rattle.hir_collector_rules.specs.HirIds.declared.ids.ModuleDefId.TheVariants as definitions
use Rattle.hir_collector_rules.specs.HirIds.declared.macro_kind.MacroExpander.TheVariants as expanders
use Rattle.hir_collector_rules.specs.HirIds.declared.macro_kind.MacroId.TheVariants as macros
use Rattle.hir_collector_rules.specs.HirIds.contracts.explicitness.VisibilityExplicitness.{the_type as ways_of_writing}
use Rattle.hir_collector_rules.specs.HirPerNs.declared.item_in_ns.ItemInNs.{ItemInNs}
use Rattle.hir_collector_rules.specs.HirPerNs.declared.visibility.Visibility.{Visibility}
use Rattle.hir_collector_rules.specs.HirPerNs.declared.item_in_ns.ItemInNs.TheVariants as in_ns
use Rattle.hir_collector_rules.specs.HirPerNs.declared.visibility.Visibility.TheVariants.{Module, PubCrate, Public}
use Rattle.hir_collector_rules.specs.HirGlobImports.Moves.{same_bound, same_def, same_vis}
use Rattle.hir_collector_rules.specs.HirGlobImports.declared.edge.Bound.{Bound}
use Rattle.hir_def_collector_laws.proofs.Places.{exact_module}

same_nat : (m n : ℕ) → nat_eq m n ≡ true → m ≡ n
same_nat m n e = (unsigned_Decides m n).0 e

exact_bool : (a b : Bool) → beq a b ≡ true → a ≡ b
exact_bool true true e = refl
exact_bool true false e = absurd (true≢false (sym e))
exact_bool false true e = absurd (true≢false (sym e))
exact_bool false false e = refl

-- ---- where items are

exact_syntax : (a b : SyntaxId) → syntax.ghosts.eq a b ≡ true → a ≡ b
exact_syntax a b e = λ i. record {
  hash = same_nat a.hash b.hash (first_so _ _ e) i;
  index = same_nat a.index b.index (second_so (nat_eq a.hash b.hash) (nat_eq a.index b.index) e) i;
}

exact_file : (a b : HirFileId) → hir_file.ghosts.eq a b ≡ true → a ≡ b
exact_file (files.File a) (files.File b) e = λ i. files.File (record {
  file_id = record { 0 = same_nat a.file_id.0 b.file_id.0 (first_so _ _ e) i };
  edition = same_true editions (search rules) a.edition b.edition (second_so _ _ e) i;
})
exact_file (files.File a) (files.Macro b) e = absurd (true≢false (sym e))
exact_file (files.Macro a) (files.File b) e = absurd (true≢false (sym e))
exact_file (files.Macro a) (files.Macro b) e = λ i. files.Macro (record { 0 = same_nat a.0 b.0 e i })

exact_in_block : (a b : Option BlockId) → option_eq block_id.ghosts.eq a b ≡ true → a ≡ b
exact_in_block None None e = refl
exact_in_block None (Some b) e = absurd (true≢false (sym e))
exact_in_block (Some a) None e = absurd (true≢false (sym e))
exact_in_block (Some a) (Some b) e = λ i. Some (record { 0 = same_nat a.0 b.0 e i })

-- the four parts of a place are compared one after another
module _ (container file block id : Bool) (e : (container && (file && (block && id))) ≡ true) where
  container_so : container ≡ true
  container_so = first_so container (file && (block && id)) e

  behind_container : (file && (block && id)) ≡ true
  behind_container = second_so container (file && (block && id)) e

  file_so : file ≡ true
  file_so = first_so file (block && id) behind_container

  block_so : block ≡ true
  block_so = first_so block id (second_so file (block && id) behind_container)

  id_so : id ≡ true
  id_so = second_so block id (second_so file (block && id) behind_container)

exact_loc : {C : Type 0} (eq : C → C → Bool) → ((x y : C) → eq x y ≡ true → x ≡ y) → (a b : ItemLoc C)
    → (eq a.container b.container && (hir_file.ghosts.eq a.file_id b.file_id && (option_eq block_id.ghosts.eq a.block b.block && syntax.ghosts.eq a.id b.id)))
    ≡ true → a ≡ b
exact_loc eq exact a b e =
    let same_container = eq a.container b.container in
    let same_file = hir_file.ghosts.eq a.file_id b.file_id in
    let same_block = option_eq block_id.ghosts.eq a.block b.block in
    let same_id = syntax.ghosts.eq a.id b.id in
    λ i. record {
      container = exact a.container b.container (container_so same_container same_file same_block same_id e) i;
      file_id = exact_file a.file_id b.file_id (file_so same_container same_file same_block same_id e) i;
      block = exact_in_block a.block b.block (block_so same_container same_file same_block same_id e) i;
      id = exact_syntax a.id b.id (id_so same_container same_file same_block same_id e) i;
    }

exact_in_module : (a b : ItemLoc ModuleId)
    → (module_id.ghosts.eq a.container b.container &&
    (hir_file.ghosts.eq a.file_id b.file_id && (option_eq block_id.ghosts.eq a.block b.block && syntax.ghosts.eq a.id b.id))) ≡ true → a ≡ b
exact_in_module a b e = exact_loc module_id.ghosts.eq exact_module a b e

exact_container : (a b : ItemContainerId) → container.ghosts.eq a b ≡ true → a ≡ b
exact_container (containers.ExternBlockId a) (containers.ExternBlockId b) e = λ i. containers.ExternBlockId (record { loc = exact_in_module a.loc b.loc e i })
exact_container (containers.ModuleId a) (containers.ModuleId b) e = ap containers.ModuleId (exact_module a b e)
exact_container (containers.ImplId a) (containers.ImplId b) e = λ i. containers.ImplId (record { loc = exact_in_module a.loc b.loc e i })
exact_container (containers.TraitId a) (containers.TraitId b) e = λ i. containers.TraitId (record { loc = exact_in_module a.loc b.loc e i })
exact_container a b e = absurd (true≢false (sym e))

exact_in_container : (a b : ItemLoc ItemContainerId)
    → (container.ghosts.eq a.container b.container &&
    (hir_file.ghosts.eq a.file_id b.file_id && (option_eq block_id.ghosts.eq a.block b.block && syntax.ghosts.eq a.id b.id))) ≡ true → a ≡ b
exact_in_container a b e = exact_loc container.ghosts.eq exact_container a b e

-- ---- definitions

exact_adt : (a b : AdtId) → adt.ghosts.eq a b ≡ true → a ≡ b
exact_adt (adts.StructId a) (adts.StructId b) e = λ i. adts.StructId (record { loc = exact_in_module a.loc b.loc e i })
exact_adt (adts.UnionId a) (adts.UnionId b) e = λ i. adts.UnionId (record { loc = exact_in_module a.loc b.loc e i })
exact_adt (adts.EnumId a) (adts.EnumId b) e = λ i. adts.EnumId (record { loc = exact_in_module a.loc b.loc e i })
exact_adt a b e = absurd (true≢false (sym e))

exact_enum : (a b : EnumId) → enum_id.ghosts.eq a b ≡ true → a ≡ b
exact_enum a b e = λ i. record { loc = exact_in_module a.loc b.loc e i }

exact_builtin : (a b : BuiltinType) → builtin_type.ghosts.eq a b ≡ true → a ≡ b
exact_builtin builtins.Char builtins.Char e = refl
exact_builtin builtins.Bool builtins.Bool e = refl
exact_builtin builtins.Str builtins.Str e = refl
exact_builtin (builtins.Int a) (builtins.Int b) e = ap builtins.Int (same_true ints (search rules) a b e)
exact_builtin (builtins.Uint a) (builtins.Uint b) e = ap builtins.Uint (same_true uints (search rules) a b e)
exact_builtin (builtins.Float a) (builtins.Float b) e = ap builtins.Float (same_true floats (search rules) a b e)
exact_builtin a b e = absurd (true≢false (sym e))

exact_styles : (a b : MacroCallStyles) → call_styles.ghosts.eq a b ≡ true → a ≡ b
exact_styles a b e =
    let of_functions = beq a.fn_like b.fn_like in
    let of_attributes = beq a.attr b.attr in
    let of_derives = beq a.derive b.derive in
    let behind : (of_attributes && of_derives) ≡ true = second_so of_functions (of_attributes && of_derives) e in
    λ i. record {
      fn_like = exact_bool a.fn_like b.fn_like (first_so of_functions (of_attributes && of_derives) e) i;
      attr = exact_bool a.attr b.attr (first_so of_attributes of_derives behind) i;
      derive = exact_bool a.derive b.derive (second_so of_attributes of_derives behind) i;
    }

exact_expander : (a b : MacroExpander) → expander.ghosts.eq a b ≡ true → a ≡ b
exact_expander (expanders.Declarative a) (expanders.Declarative b) e = ap expanders.Declarative (exact_styles a b e)
exact_expander expanders.Builtin expanders.Builtin e = refl
exact_expander expanders.BuiltinEager expanders.BuiltinEager e = refl
exact_expander expanders.BuiltinAttr expanders.BuiltinAttr e = refl
exact_expander expanders.BuiltinDerive expanders.BuiltinDerive e = refl
exact_expander expanders.Unimplemented expanders.Unimplemented e = refl
exact_expander a b e = absurd (true≢false (sym e))

-- a macro's place has one part more
module _ (container file block id last : Bool) (e : (container && (file && (block && (id && last)))) ≡ true) where
  placed_so : (container && (file && (block && id))) ≡ true
  placed_so = all container file block id last e
    where
      all : (a b c d f : Bool) → (a && (b && (c && (d && f)))) ≡ true → (a && (b && (c && d))) ≡ true
      all true true true true f g = refl
      all true true true false f g = g
      all true true false d f g = g
      all true false c d f g = g
      all false b c d f g = g

  last_so : last ≡ true
  last_so =
      second_so id last (second_so block (id && last) (second_so file (block && (id && last)) (second_so container (file && (block && (id && last))) e)))

exact_macro_loc : (a b : MacroLoc) → macro_loc.ghosts.eq a b ≡ true → a ≡ b
exact_macro_loc a b e =
    let same_container = module_id.ghosts.eq a.container b.container in
    let same_file = hir_file.ghosts.eq a.file_id b.file_id in
    let same_block = option_eq block_id.ghosts.eq a.block b.block in
    let same_id = syntax.ghosts.eq a.id b.id in
    let same_expander = expander.ghosts.eq a.expander b.expander in
    let placed : (same_container && (same_file && (same_block && same_id))) ≡ true = placed_so same_container same_file same_block same_id same_expander e in
    λ i. record {
      container = exact_module a.container b.container (container_so same_container same_file same_block same_id placed) i;
      file_id = exact_file a.file_id b.file_id (file_so same_container same_file same_block same_id placed) i;
      block = exact_in_block a.block b.block (block_so same_container same_file same_block same_id placed) i;
      id = exact_syntax a.id b.id (id_so same_container same_file same_block same_id placed) i;
      expander = exact_expander a.expander b.expander (last_so same_container same_file same_block same_id same_expander e) i;
    }

exact_proc_macro_loc : (a b : ProcMacroLoc) → proc_macro_loc.ghosts.eq a b ≡ true → a ≡ b
exact_proc_macro_loc a b e =
    let same_container = module_id.ghosts.eq a.container b.container in
    let same_file = hir_file.ghosts.eq a.file_id b.file_id in
    let same_block = option_eq block_id.ghosts.eq a.block b.block in
    let same_id = syntax.ghosts.eq a.id b.id in
    let placed : (same_container && (same_file && (same_block && same_id))) ≡ true = placed_so same_container same_file same_block same_id _ e in
    λ i. record {
      container = exact_module a.container b.container (container_so same_container same_file same_block same_id placed) i;
      file_id = exact_file a.file_id b.file_id (file_so same_container same_file same_block same_id placed) i;
      block = exact_in_block a.block b.block (block_so same_container same_file same_block same_id placed) i;
      id = exact_syntax a.id b.id (id_so same_container same_file same_block same_id placed) i;
      style = same_true proc_macro_styles (search rules) a.style b.style (last_so same_container same_file same_block same_id _ e) i;
    }

exact_macro : (a b : MacroId) → makro.ghosts.eq a b ≡ true → a ≡ b
exact_macro (macros.Macro2Id a) (macros.Macro2Id b) e = λ i. macros.Macro2Id (record { loc = exact_macro_loc a.loc b.loc e i })
exact_macro (macros.MacroRulesId a) (macros.MacroRulesId b) e = λ i. macros.MacroRulesId (record { loc = exact_macro_loc a.loc b.loc e i })
exact_macro (macros.ProcMacroId a) (macros.ProcMacroId b) e = λ i. macros.ProcMacroId (record { loc = exact_proc_macro_loc a.loc b.loc e i })
exact_macro a b e = absurd (true≢false (sym e))

exact_definition : (a b : ModuleDefId) → module_def.ghosts.eq a b ≡ true → a ≡ b
exact_definition (definitions.ModuleId a) (definitions.ModuleId b) e = ap definitions.ModuleId (exact_module a b e)
exact_definition (definitions.FunctionId a) (definitions.FunctionId b) e = λ i. definitions.FunctionId (record { loc = exact_in_container a.loc b.loc e i })
exact_definition (definitions.AdtId a) (definitions.AdtId b) e = ap definitions.AdtId (exact_adt a b e)
exact_definition (definitions.EnumVariantId a) (definitions.EnumVariantId b) e = λ i. definitions.EnumVariantId (record {
  parent = exact_enum a.parent b.parent (first_so _ _ e) i;
  id = exact_syntax a.id b.id (second_so (enum_id.ghosts.eq a.parent b.parent) (syntax.ghosts.eq a.id b.id) e) i;
})
exact_definition (definitions.ConstId a) (definitions.ConstId b) e = λ i. definitions.ConstId (record { loc = exact_in_container a.loc b.loc e i })
exact_definition (definitions.StaticId a) (definitions.StaticId b) e = λ i. definitions.StaticId (record { loc = exact_in_container a.loc b.loc e i })
exact_definition (definitions.TraitId a) (definitions.TraitId b) e = λ i. definitions.TraitId (record { loc = exact_in_module a.loc b.loc e i })
exact_definition (definitions.TypeAliasId a) (definitions.TypeAliasId b) e = λ i. definitions.TypeAliasId (record { loc = exact_in_container a.loc b.loc e i })
exact_definition (definitions.BuiltinType a) (definitions.BuiltinType b) e = ap definitions.BuiltinType (exact_builtin a b e)
exact_definition (definitions.MacroId a) (definitions.MacroId b) e = ap definitions.MacroId (exact_macro a b e)
exact_definition a b e = absurd (true≢false (sym e))

-- ---- what stands at a key

pub exact_item : (a b : ItemInNs) → same_def a b ≡ true → a ≡ b
exact_item (in_ns.Types a) (in_ns.Types b) e = ap in_ns.Types (exact_definition a b e)
exact_item (in_ns.Values a) (in_ns.Values b) e = ap in_ns.Values (exact_definition a b e)
exact_item (in_ns.Macros a) (in_ns.Macros b) e = ap in_ns.Macros (exact_macro a b e)
exact_item a b e = absurd (true≢false (sym e))

pub exact_visibility : (a b : Visibility) → same_vis a b ≡ true → a ≡ b
exact_visibility (Module m d) (Module n f) e =
    λ i. Module (exact_module m n (first_so _ _ e) i) (same_true ways_of_writing (search rules) d f (second_so (module_id.ghosts.eq m n) _ e) i)
exact_visibility (PubCrate c) (PubCrate d) e = λ i. PubCrate (record { 0 = same_nat c.0 d.0 e i })
exact_visibility Public Public e = refl
exact_visibility a b e = absurd (true≢false (sym e))

pub exact_bound : (a b : Bound) → same_bound a b ≡ true → a ≡ b
exact_bound a b e = λ i. record {
  def = exact_item a.def b.def (first_so _ _ e) i;
  vis = exact_visibility a.vis b.vis (second_so (same_def a.def b.def) (same_vis a.vis b.vis) e) i;
}
