-- Updates of what a name stands for, by what is there.
use Rattle.std.proofs.Common.{◌≡◌, ℕ, Bool, false, List, Option}
use Rattle.hir_nameres.specs.HirIds.declared.macro_kind.MacroId.{MacroId}
use Rattle.hir_nameres.specs.HirIds.declared.ids.ModuleDefId.{ModuleDefId}
use Rattle.hir_nameres.specs.HirIds.declared.ids.TraitId.{TraitId}
use Rattle.hir_nameres.specs.HirScope.Scope.{ScopeValue}
use Rattle.hir_nameres.specs.HirPerNs.declared.imports.ImportId.{ImportId}
use Rattle.hir_nameres.specs.HirPerNs.declared.visibility.Visibility.{Visibility}
use Rattle.hir_nameres.specs.HirDefMapRules.Overlay.{Maps, overlay}
use Rattle.hir_nameres.specs.HirDefMapRules.References.{any_reference_in_scope, is_missing, reference_to, test_of, test_visibility}
use Rattle.hir_nameres.specs.HirDefMapRules.State.{Map}
use Rattle.hir_nameres.specs.HirDefMapRules.declared.reference.Reference.{Reference}
use Rattle.hir_nameres.proofs.HirDefMapRules.Referred.{FailsInScope, scope_parts, scope_whole}
use Rattle.hir_nameres.proofs.HirDefMapRules.ScopeChanges.{defined_fail, macros_defined_fail, macros_seen_fail, seen_fail, trait_fails}
use Rattle.hir_nameres.proofs.HirDefMapRules.StaysWellFormed.{HasNoDanglingReference-scope}
use Rattle.hir_def_map_laws.specs.Building.{UpdatesNameWhatIsThere}
use Rattle.hir_def_map_laws.specs.SlotChanges.{with_macro, with_macro_vis, with_trait, with_type, with_type_vis, with_value, with_value_vis}

module _ (test : Reference → Bool) (name : List ℕ) (vis : Visibility) (seen : test_visibility test vis ≡ false) where
  -- a change of a scope leaves one to which a test applies nowhere
  abbrev Keeps : (ScopeValue → ScopeValue) → Type 0
  Keeps change = (s : ScopeValue) → any_reference_in_scope test s ≡ false → any_reference_in_scope test (change s) ≡ false

  pub type_keeps : (def : ModuleDefId) → test_of test (reference_to def) ≡ false → Keeps (with_type name def vis)
  type_keeps def f s g =
      let parts = scope_parts test s g in
      scope_whole test (with_type name def vis s) (record {
        types = defined_fail test s.types name def vis f seen parts.types;
        values = parts.values;
        macros = parts.macros;
        traits = parts.traits;
      })

  pub value_keeps : (def : ModuleDefId) → test_of test (reference_to def) ≡ false → Keeps (with_value name def vis)
  value_keeps def f s g =
      let parts = scope_parts test s g in
      scope_whole test (with_value name def vis s) (record {
        types = parts.types;
        values = defined_fail test s.values name def vis f seen parts.values;
        macros = parts.macros;
        traits = parts.traits;
      })

  pub macro_keeps : (def : MacroId) → Keeps (with_macro name def vis)
  macro_keeps def s g =
      let parts = scope_parts test s g in
      scope_whole test (with_macro name def vis s)
      (record { types = parts.types; values = parts.values; macros = macros_defined_fail test s.macros name def vis seen parts.macros; traits = parts.traits })

  pub type_vis_keeps : Keeps (with_type_vis name vis)
  type_vis_keeps s g =
      let parts = scope_parts test s g in
      scope_whole test (with_type_vis name vis s) (record {
        types = seen_fail test s.types name vis seen parts.types;
        values = parts.values;
        macros = parts.macros;
        traits = parts.traits;
      })

  pub value_vis_keeps : Keeps (with_value_vis name vis)
  value_vis_keeps s g =
      let parts = scope_parts test s g in
      scope_whole test (with_value_vis name vis s) (record {
        types = parts.types;
        values = seen_fail test s.values name vis seen parts.values;
        macros = parts.macros;
        traits = parts.traits;
      })

  pub macro_vis_keeps : Keeps (with_macro_vis name vis)
  macro_vis_keeps s g =
      let parts = scope_parts test s g in
      scope_whole test (with_macro_vis name vis s)
      (record { types = parts.types; values = parts.values; macros = macros_seen_fail test s.macros name vis seen parts.macros; traits = parts.traits })

  pub trait_keeps : (tr : TraitId) (import : Option ImportId) → Keeps (with_trait tr vis import)
  trait_keeps tr import s g =
      let parts = scope_parts test s g in
      scope_whole test (with_trait tr vis import s)
      (record { types = parts.types; values = parts.values; macros = parts.macros; traits = trait_fails test s.unnamed_traits tr vis import seen parts.traits })

pub updates_name : (finished : Maps) (map : Map) (at : ℕ) (name : List ℕ) → UpdatesNameWhatIsThere finished map at name
updates_name finished map at name =
    let missing : Reference → Bool = λ n. is_missing (overlay finished map) n in
    record {
      types = λ def vis there seen. HasNoDanglingReference-scope finished map at (with_type name def vis) (type_keeps missing name vis seen def there);
      values = λ def vis there seen. HasNoDanglingReference-scope finished map at (with_value name def vis) (value_keeps missing name vis seen def there);
      macros = λ def vis seen. HasNoDanglingReference-scope finished map at (with_macro name def vis) (macro_keeps missing name vis seen def);
      type_vis = λ vis seen. HasNoDanglingReference-scope finished map at (with_type_vis name vis) (type_vis_keeps missing name vis seen);
      value_vis = λ vis seen. HasNoDanglingReference-scope finished map at (with_value_vis name vis) (value_vis_keeps missing name vis seen);
      macro_vis = λ vis seen. HasNoDanglingReference-scope finished map at (with_macro_vis name vis) (macro_vis_keeps missing name vis seen);
      traits = λ tr vis import seen. HasNoDanglingReference-scope finished map at (with_trait tr vis import) (trait_keeps missing name vis seen tr import);
    }
