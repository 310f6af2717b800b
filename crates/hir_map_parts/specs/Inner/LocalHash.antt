-- What does an extern prelude feed a hasher?
use Rattle.std.specs.Prelude.{◌≡◌, ℕ, pos, true, ◌++◌, List, Option, None, Some}
use Rattle.std.specs.Option.{option_eq}
use Rattle.std.specs.Hash as fed
use Rattle.std.specs.Hash.{Alike, HashWrites, and-Alike, items_Alike, on_Alike}
use Rattle.std.proofs.Common.{refl}
use Rattle.hir_ids.specs.declared.ids.ExternCrateId.{ExternCrateId}
use Rattle.hir_ids.specs.declared.ids.ModuleId.{ModuleId}
use Rattle.hir_ids.specs.contracts.ids.ExternCrateIdHash.TheImpl as extern_crate_hash
use Rattle.hir_ids.specs.contracts.ids.ExternCrateIdHash.TheImpl.Laws.{respects_eq-law as extern_crate_alike}
use Rattle.hir_ids.specs.contracts.ids.ExternCrateIdPartialEq.TheImpl as extern_crate
use Rattle.hir_ids.specs.contracts.ids.ModuleIdHash.TheImpl as module_hash
use Rattle.hir_ids.specs.contracts.ids.ModuleIdHash.TheImpl.Laws.{respects_eq-law as module_alike}
use Rattle.hir_ids.specs.contracts.name.NameHash.TheImpl.Laws.{respects_eq-law as name_alike}
use Rattle.hir_map_parts.specs.Equality.{same_local}
use Rattle.hir_map_parts.specs.State.{Local}

abbrev pub Named : Type 0
Named = ModuleId × Option ExternCrateId

abbrev pub fed_named : Named → HashWrites
fed_named named = module_hash.ghosts.hash_input named.0 ++ fed.option extern_crate_hash.ghosts.hash_input named.1

abbrev pub fed_entry : (List ℕ × Named) → HashWrites
fed_entry entry = fed.str entry.0 ++ fed_named entry.1

-- the entries in order, each with its name, its module and its `extern crate`
abbrev pub fed_local : Local → HashWrites
fed_local local = fed.slice fed_entry local

options_alike : Alike (option_eq extern_crate.ghosts.eq) (fed.option extern_crate_hash.ghosts.hash_input)
options_alike = record { fed = go }
  where
    go : (one other : Option ExternCrateId) → option_eq extern_crate.ghosts.eq one other ≡ true → fed.option extern_crate_hash.ghosts.hash_input one
        ≡ fed.option extern_crate_hash.ghosts.hash_input other
    go None None e = refl
    go None (Some y) e = absurd cc
    go (Some x) None e = absurd cc
    go (Some x) (Some y) e = λ i. fed.isize (pos 1) ++ extern_crate_alike x y e i

-- extern preludes that are equal feed alike
pub local_alike : Alike same_local fed_local
local_alike =
    items_Alike (and-Alike (on_Alike (λ (e : List ℕ × Named). e.0) (record { fed = name_alike }))
    (on_Alike (λ (e : List ℕ × Named). e.1)
    (and-Alike (on_Alike (λ (n : Named). n.0) (record { fed = module_alike })) (on_Alike (λ (n : Named). n.1) options_alike))))
