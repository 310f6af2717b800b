-- Each key at which something is bound is among the target's.
use Rattle.std.proofs.Common.{◌≡◌, IfOk, List, subst, sym}
use Rattle.std.specs.Prelude.{Contains, IsSome}
use Rattle.std.specs.declared.alloc.AllocError.{AllocError}
use Rattle.std.specs.declared.alloc.Global.{Global}
use Rattle.std.specs.declared.result.Result.{Result}
use Rattle.std.specs.declared.result.Result.TheVariants.{Err, Ok}
use Rattle.std.specs.declared.vec.Vec.{Vec}
use Rattle.hir_glob_imports.specs.declared.edge.Key.{Key}
use Rattle.hir_glob_imports.specs.declared.edge.Target.{Target}
use Rattle.hir_import_resolution.specs.KeyLists.{keys_of}
use Rattle.hir_import_rules.specs.Names.{ScopesValue, bound_of}
use Rattle.hir_import_resolution.specs.Scopes.{value_of}
use Rattle.hir_import_resolution.proofs.KeyLists.{each_is_listed}
use Rattle.hir_import_resolution.proofs.scopes.OpenScopesNames.keys.Goals as goal

each_in : (n : ScopesValue) (of : Target) (r : Result (Vec Key Global) AllocError) → IfOk r (λ keys. keys.items ≡ keys_of n of)
    → IfOk r (λ keys. (key : Key) → IsSome (bound_of n of key) → Contains keys.items key)
each_in n of (Ok keys) is = λ key bound. subst (λ (items : List Key). Contains items key) (sym is) (each_is_listed n of key bound)
each_in n of (Err e) is = is

pub returns : goal.returns
returns c = record { each = each_in (value_of c.args.self.now) c.args.of c.keys_of.result c.keys_of.ensures.value }
