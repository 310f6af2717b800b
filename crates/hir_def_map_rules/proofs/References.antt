-- A test holds of some reference of a walk where it does of some part that the walk goes over.
use Rattle.std.specs.Prelude.{◌≡◌, ℕ, ◌++◌, ◌||◌, ◌&&◌, Bool, true, false, List, [], ◌∷◌, Option, None, Some, cond, is_some, map, option_map}
use Rattle.std.specs.List.{list_any}
use Rattle.std.proofs.Common.{ap, ap₂, refl, sym, ◌∙◌}
use Rattle.hir_scope.specs.HirIds.declared.ast_id.BlockId.{BlockId}
use Rattle.hir_scope.specs.HirIds.declared.ids.Crate.{Crate}
use Rattle.hir_scope.specs.HirIds.declared.ids.MapId.{MapId}
use Rattle.hir_scope.specs.HirIds.declared.ids.ModuleDefId.{ModuleDefId}
use Rattle.hir_scope.specs.HirIds.declared.ids.ModuleId.{ModuleId}
use Rattle.hir_scope.specs.HirIds.declared.ids.UseId.{UseId}
use Rattle.hir_scope.specs.HirPerNs.PerNs.{Item}
use Rattle.hir_scope.specs.Scope.{ScopeValue}
use Rattle.hir_scope.specs.HirPerNs.declared.visibility.Visibility.{Visibility}
use Rattle.hir_def_map_rules.specs.Types.{Reference}
use Rattle.hir_def_map_rules.specs.declared.reference.Reference.TheVariants as reference
use Rattle.hir_def_map_rules.specs.Inner.ReferenceLists.{any_listed, block_crate, child_reference, crate_before, crate_reference, extern_reference}
use Rattle.hir_def_map_rules.specs.Inner.ReferenceLists.{item_reference, item_visibility, items_before, listed_in, module_before, references_besides}
use Rattle.hir_def_map_rules.specs.Inner.ReferenceLists.{references_in, references_in_scope, visibility_before}
use Rattle.hir_def_map_rules.specs.References.{any_own_crate, any_reference, any_reference_besides, any_reference_in, any_reference_in_scope, prelude_reference}
use Rattle.hir_def_map_rules.specs.References.{test_child, test_crate, test_extern, test_item, test_macro, test_of, test_type, test_value, test_visibility}
use Rattle.hir_def_map_rules.specs.State.{Local, Map, ModuleValue, crate_map}

or-assoc : (a b c : Bool) → ((a || b) || c) ≡ (a || (b || c))
or-assoc true b c = refl
or-assoc false b c = refl

or-false : (a : Bool) → (a || false) ≡ a
or-false true = refl
or-false false = refl

pub any-append : {A : Type 0} (p : A → Bool) (xs ys : List A) → list_any p (xs ++ ys) ≡ (list_any p xs || list_any p ys)
any-append p [] ys = refl
any-append p (x ∷ xs) ys = ap (λ (b : Bool). p x || b) (any-append p xs ys) ∙ sym (or-assoc (p x) (list_any p xs) (list_any p ys))

any-map : {A B : Type 0} (p : B → Bool) (f : A → B) (xs : List A) → list_any p (map f xs) ≡ list_any (λ (x : A). p (f x)) xs
any-map p f [] = refl
any-map p f (x ∷ xs) = ap (λ (b : Bool). p (f x) || b) (any-map p f xs)

module _ (test : Reference → Bool) where
  abbrev holds : List (Option Reference) → Bool
  holds rs = list_any (test_of test) rs

  any-module : (o : Option ModuleId) (rest : List (Option Reference)) → holds (module_before o rest)
      ≡ (test_of test (option_map reference.Module o) || holds rest)
  any-module None rest = refl
  any-module (Some m) rest = refl

  any-part : {A : Type 0} (f : A → Option Reference) (xs : List A) (rest : List (Option Reference)) → holds (map f xs ++ rest)
      ≡ (list_any (λ (x : A). test_of test (f x)) xs || holds rest)
  any-part f xs rest = any-append (test_of test) (map f xs) rest ∙ ap (λ (b : Bool). b || holds rest) (any-map (test_of test) f xs)

  any-own : (id : MapId) → holds (crate_before (block_crate id) []) ≡ any_own_crate test id
  any-own id = go (is_some id.block)
    where
      go : (b : Bool) → holds (crate_before (cond b (Some id.krate) None) []) ≡ (b && test_crate test id.krate)
      go true = or-false (test_crate test id.krate)
      go false = refl

  any-visibility : (v : Visibility) (rest : List (Option Reference)) → holds (visibility_before (Some v) rest) ≡ (test_visibility test v || holds rest)
  any-visibility v rest = refl

  -- what items are and who may see them
  any-items : {I : Type 0} (items : List (List ℕ × Item ModuleDefId I)) (rest : List (Option Reference))
      → holds (items_before items rest) ≡ (list_any (λ (e : List ℕ × Item ModuleDefId I). test_item test e.1) items || holds rest)
  any-items [] rest = refl
  any-items {I} (item ∷ items) rest =
      let def = test_of test (item_reference item) in
      let seen = test_of test (item_visibility item) in
      let others = list_any (λ (e : List ℕ × Item ModuleDefId I). test_item test e.1) items in
      ap (λ (b : Bool). def || (seen || b)) (any-items items rest)
      ∙ sym (or-assoc def seen (others || holds rest))
      ∙ sym (or-assoc (def || seen) others (holds rest))

  -- of a scope
  any_in_scope : (scope : ScopeValue) → holds (references_in_scope scope) ≡ any_reference_in_scope test scope
  any_in_scope scope =
      let traits = map item_visibility scope.unnamed_traits in
      let macros = map item_visibility scope.macros ++ traits in
      any-items scope.types (items_before scope.values macros)
      ∙ ap (λ (b : Bool). list_any (test_type test) scope.types || b)
      (any-items scope.values macros
      ∙ ap (λ (b : Bool). list_any (test_value test) scope.values || b)
      (any-part item_visibility scope.macros traits
      ∙ ap (λ (b : Bool). list_any (test_macro test) scope.macros || b) (any-map (test_of test) item_visibility scope.unnamed_traits)))

  -- of a module
  pub any_in : (m : ModuleValue) → holds (references_in m) ≡ any_reference_in test m
  any_in m =
      let rest = map child_reference m.children ++ references_in_scope m.scope in
      any-module m.parent (visibility_before (Some m.visibility) rest)
      ∙ ap (λ (b : Bool). test_of test (option_map reference.Module m.parent) || b)
      (any-visibility m.visibility rest
      ∙ ap (λ (b : Bool). test_visibility test m.visibility || b)
      (any-part child_reference m.children (references_in_scope m.scope)
      ∙ ap (λ (b : Bool). list_any (test_child test) m.children || b) (any_in_scope m.scope)))

  prelude_is : (o : Option (ModuleId × Option UseId)) → test_of test (option_map reference.Module (option_map (λ (p : ModuleId × Option UseId). p.0) o))
      ≡ test_of test (prelude_reference o)
  prelude_is None = refl
  prelude_is (Some p) = refl

  -- and of a map besides its modules
  pub any_besides : (m : Map) (local : Local) → holds (references_besides m local) ≡ any_reference_besides test m local
  any_besides m local =
      let own = crate_before (block_crate m.id) [] in
      let crates = map crate_reference m.crate_data.dependencies ++ own in
      let externs = map extern_reference local ++ crates in
      any-module (option_map (λ (p : ModuleId × Option UseId). p.0) m.prelude) (module_before m.holder externs)
      ∙ ap₂ (λ (a b : Bool). a || b) (prelude_is m.prelude)
      (any-module m.holder externs
      ∙ ap (λ (b : Bool). test_of test (option_map reference.Module m.holder) || b)
      (any-part extern_reference local crates
      ∙ ap (λ (b : Bool). list_any (test_extern test) local || b)
      (any-part crate_reference m.crate_data.dependencies own
      ∙ ap (λ (b : Bool). list_any (test_crate test) m.crate_data.dependencies || b) (any-own m.id))))

  any_in_modules : (ms : List ModuleValue) → list_any (listed_in test) ms ≡ list_any (any_reference_in test) ms
  any_in_modules [] = refl
  any_in_modules (m ∷ ms) = ap₂ (λ (a b : Bool). a || b) (any_in m) (any_in_modules ms)

  -- of all
  pub any_is : (m : Map) (local : Local) → any_listed test m local ≡ any_reference test m local
  any_is m local = ap₂ (λ (a b : Bool). a || b) (any_in_modules m.modules) (any_besides m local)
