use Rattle.std.proofs.Common.{◌≡◌, ◌≢◌, true, false}
use Rattle.hir_per_ns.specs.contracts.imports.ImportOrExternCrateOrd.TheImpl.Laws.{total-law as import_or_extern_crate_total}
use Rattle.hir_per_ns.specs.contracts.imports.ImportOrGlobOrd.TheImpl.Laws.{total-law as import_or_glob_total}
use Rattle.hir_per_ns.specs.PerNs.{is_nothing}
use Rattle.hir_scope.specs.Scope.Push.{RecordsType, RecordsValue, RecordsMacro, pushed_scope, pushed_globs, push_changes, PushesType, PushesValue, PushesMacro}
use Rattle.hir_scope.specs.Scope.Push.{slots_of, IsNewlyUnresolved}
use Rattle.hir_scope.proofs.Pushes.{type_pushed, value_pushed, macro_pushed, type_recorded, value_recorded, macro_recorded, scope_stays, globs_stay}
use Rattle.hir_scope.proofs.Pushes.{name_is_new, slots_move, told_of, on_ok, on_ok_of}
use Rattle.hir_scope.proofs.item_scope.ItemScope.push_res_with_import.Goals as goal

-- the answer is whether the push changes anything
pub returns-clause-stays : goal.returns-clause-stays
returns-clause-stays c =
    told_of false (λ scope globs. scope ≡ c.args.self.now) c.push.result (push_changes c.args.self.now c.args.glob_imports.now c.args.lookup c.args.def
    c.args.import)
    (pushed_scope c.args.glob_imports.now c.args.lookup c.args.def c.args.import c.args.self.now) c.push.new.self
    (pushed_globs c.args.self.now c.args.lookup c.args.def c.args.import c.args.glob_imports.now) c.push.new.glob_imports c.push.ensures.ok c.push.ensures.globs
    c.push.ensures.changed
    (scope_stays c.args.self.now c.args.glob_imports.now c.args.lookup c.args.import c.args.def)

pub returns-clause-stays_globs : goal.returns-clause-stays_globs
returns-clause-stays_globs c =
    told_of false (λ scope globs. globs ≡ c.args.glob_imports.now) c.push.result (push_changes c.args.self.now c.args.glob_imports.now c.args.lookup c.args.def
    c.args.import)
    (pushed_scope c.args.glob_imports.now c.args.lookup c.args.def c.args.import c.args.self.now) c.push.new.self
    (pushed_globs c.args.self.now c.args.lookup c.args.def c.args.import c.args.glob_imports.now) c.push.new.glob_imports c.push.ensures.ok c.push.ensures.globs
    c.push.ensures.changed
    (globs_stay c.args.self.now c.args.glob_imports.now c.args.lookup c.args.import c.args.def)

pub returns-clause-moves : goal.returns-clause-moves
returns-clause-moves c =
    told_of true (λ scope globs. is_nothing c.args.def ≡ false → slots_of scope globs c.args.lookup ≢ slots_of c.args.self.now c.args.glob_imports.now
    c.args.lookup)
    c.push.result (push_changes c.args.self.now c.args.glob_imports.now c.args.lookup c.args.def c.args.import)
    (pushed_scope c.args.glob_imports.now c.args.lookup c.args.def c.args.import c.args.self.now) c.push.new.self
    (pushed_globs c.args.self.now c.args.lookup c.args.def c.args.import c.args.glob_imports.now) c.push.new.glob_imports c.push.ensures.ok c.push.ensures.globs
    c.push.ensures.changed
    (slots_move c.args.self.now c.args.glob_imports.now c.args.lookup c.args.import c.is_ordered.ensures.total
    c.is_ordered.ensures.types c.is_ordered.ensures.values c.is_ordered.ensures.macros c.args.def)

pub returns-clause-notes : goal.returns-clause-notes
returns-clause-notes c =
    told_of true (λ scope globs. is_nothing c.args.def ≡ true → IsNewlyUnresolved c.args.lookup.1 c.args.self.now scope)
    c.push.result (push_changes c.args.self.now c.args.glob_imports.now c.args.lookup c.args.def c.args.import)
    (pushed_scope c.args.glob_imports.now c.args.lookup c.args.def c.args.import c.args.self.now) c.push.new.self
    (pushed_globs c.args.self.now c.args.lookup c.args.def c.args.import c.args.glob_imports.now) c.push.new.glob_imports c.push.ensures.ok c.push.ensures.globs
    c.push.ensures.changed
    (name_is_new c.args.self.now c.args.glob_imports.now c.args.lookup c.args.import c.args.def)

-- scope and glob table are what the push makes of them, and that writes the name's slots
pub returns-clause-types : goal.returns-clause-types
returns-clause-types c =
    on_ok_of (λ scope globs. PushesType c.args.lookup c.args.def c.args.import c.args.self.now c.args.glob_imports.now scope globs) c.push.result
    (pushed_scope c.args.glob_imports.now c.args.lookup c.args.def c.args.import c.args.self.now) c.push.new.self
    (pushed_globs c.args.self.now c.args.lookup c.args.def c.args.import c.args.glob_imports.now) c.push.new.glob_imports c.push.ensures.ok c.push.ensures.globs
    (type_pushed c.args.self.now c.args.glob_imports.now c.args.lookup c.args.import c.is_ordered.ensures.total c.args.def c.is_ordered.ensures.types)

pub returns-clause-values : goal.returns-clause-values
returns-clause-values c =
    on_ok_of (λ scope globs. PushesValue c.args.lookup c.args.def c.args.import c.args.self.now c.args.glob_imports.now scope globs) c.push.result
    (pushed_scope c.args.glob_imports.now c.args.lookup c.args.def c.args.import c.args.self.now) c.push.new.self
    (pushed_globs c.args.self.now c.args.lookup c.args.def c.args.import c.args.glob_imports.now) c.push.new.glob_imports c.push.ensures.ok c.push.ensures.globs
    (value_pushed c.args.self.now c.args.glob_imports.now c.args.lookup c.args.import c.is_ordered.ensures.total c.args.def c.is_ordered.ensures.values)

pub returns-clause-macros : goal.returns-clause-macros
returns-clause-macros c =
    on_ok_of (λ scope globs. PushesMacro c.args.lookup c.args.def c.args.import c.args.self.now c.args.glob_imports.now scope globs) c.push.result
    (pushed_scope c.args.glob_imports.now c.args.lookup c.args.def c.args.import c.args.self.now) c.push.new.self
    (pushed_globs c.args.self.now c.args.lookup c.args.def c.args.import c.args.glob_imports.now) c.push.new.glob_imports c.push.ensures.ok c.push.ensures.globs
    (macro_pushed c.args.self.now c.args.glob_imports.now c.args.lookup c.args.import c.is_ordered.ensures.total c.args.def c.is_ordered.ensures.macros)

pub returns-clause-type_records : goal.returns-clause-type_records
returns-clause-type_records c =
    on_ok (λ scope. RecordsType c.args.lookup c.args.def c.args.import c.args.self.now c.args.glob_imports.now scope) c.push.result
    (pushed_scope c.args.glob_imports.now c.args.lookup c.args.def c.args.import c.args.self.now) c.push.new.self c.push.ensures.ok
    (type_recorded c.args.self.now c.args.glob_imports.now c.args.lookup c.args.import import_or_extern_crate_total c.args.def)

pub returns-clause-value_records : goal.returns-clause-value_records
returns-clause-value_records c =
    on_ok (λ scope. RecordsValue c.args.lookup c.args.def c.args.import c.args.self.now c.args.glob_imports.now scope) c.push.result
    (pushed_scope c.args.glob_imports.now c.args.lookup c.args.def c.args.import c.args.self.now) c.push.new.self c.push.ensures.ok
    (value_recorded c.args.self.now c.args.glob_imports.now c.args.lookup c.args.import import_or_glob_total c.args.def)

pub returns-clause-macro_records : goal.returns-clause-macro_records
returns-clause-macro_records c =
    on_ok (λ scope. RecordsMacro c.args.lookup c.args.def c.args.import c.args.self.now c.args.glob_imports.now scope) c.push.result
    (pushed_scope c.args.glob_imports.now c.args.lookup c.args.def c.args.import c.args.self.now) c.push.new.self c.push.ensures.ok
    (macro_recorded c.args.self.now c.args.glob_imports.now c.args.lookup c.args.import import_or_extern_crate_total c.args.def)
