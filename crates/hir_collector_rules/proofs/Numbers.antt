-- What numbers mean stays as tables grow.
use Rattle.std.proofs.Common.{◌≡◌, ◌∙◌, List, Some, Result, Ok, Err, IsErrAnd, ap, arith}
use Rattle.hir_nameres.specs.HirBase.Locations.{KeepsNumbers}
use Rattle.hir_nameres.specs.HirBase.declared.locations.LocationsError.{LocationsError}
use Rattle.hir_nameres.specs.HirBase.declared.locations.LocationsError.TheVariants as numbers
use Rattle.hir_tables.specs.Interning.{IsFull}
use Rattle.hir_tables.specs.Tables.{TablesValue, KeepsTables}
use Rattle.hir_collector_rules.specs.Types.{CollectError, StepError}
use Rattle.hir_collector_rules.specs.declared.start.CollectError.TheVariants as runs
use Rattle.hir_collector_rules.specs.declared.start.StepError.TheVariants.{Memory, TooMany}
use Rattle.hir_collector_rules.specs.Moves.{refusal_of_number, refusal_of_step}
use Rattle.hir_collector_rules.specs.NumberedOut.{IsNumberedOut}
use Rattle.hir_collector_rules.proofs.Lists.{get_there}

-- tables to which nothing comes keep what they have
pub tables_stay : (t : TablesValue) → KeepsTables t t
tables_stay t = record { files = λ n v e. e; blocks = λ n v e. e; entries = λ n v e. e; calls = λ n v e. e }

-- where a value has no number, and none is left for it, each means something else
pub full_out : {V : Type 0} (values : List V) (value : V) → IsFull values value → IsNumberedOut values value
full_out values value full = λ number below.
    let there = get_there values number (omega (arith, full.full, below)) in
    (there.0, there.1, λ same. full.absent (number, there.1 ∙ ap Some same))

-- and goes on to mean it
pub still_out : {V : Type 0} (old new : List V) (value : V) → KeepsNumbers old new → IsNumberedOut old value → IsNumberedOut new value
still_out old new value kept out = λ number below. let there = out number below in (there.0, kept number there.0 there.1, there.2)

-- where a step isn't taken as too many since a value gets no number, there is none left for it
pub refused_full : {T U : Type 0} (given : Result T LocationsError) (told : Result U StepError) (e : LocationsError) → given ≡ Err e
    → IsErrAnd told (λ x. x ≡ refusal_of_number e) → told ≡ Err TooMany → given ≡ Err numbers.TooMany
refused_full given (Ok x) e was refused many = absurd refused
refused_full given (Err x) numbers.TooMany was refused many = was
refused_full given (Err x) numbers.Memory was refused many = let no : ⊥ = cc in absurd no

-- a run that is given up since a step isn't taken is given up as too many only where the step is
pub refused_step : {T U : Type 0} (taken : Result T StepError) (told : Result U CollectError) (e : StepError) → taken ≡ Err e
    → IsErrAnd told (λ x. x ≡ refusal_of_step e) → told ≡ Err runs.TooMany → taken ≡ Err TooMany
refused_step taken (Ok x) e was refused many = absurd refused
refused_step taken (Err x) TooMany was refused many = was
refused_step taken (Err x) Memory was refused many = let no : ⊥ = cc in absurd no

-- and never for an unknown source
pub known_step : {U : Type 0} (told : Result U CollectError) (e : StepError) → IsErrAnd told (λ x. x ≡ refusal_of_step e) → told ≡ Err runs.UnknownSource → ⊥
known_step (Ok x) e refused unknown = refused
known_step (Err x) TooMany refused unknown = cc
known_step (Err x) Memory refused unknown = cc
