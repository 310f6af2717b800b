-- What a name of a module stands for, and none of it is left out, stays so as tables grow.
use Rattle.std.proofs.Common.{◌≡◌, ℕ, List, [], ◌∷◌, map, Option, refl}
use Rattle.hir_session_machine.specs.HirSessionState.HirPerNs.declared.per_ns.PerNs.{PerNs}
use Rattle.hir_session_machine.specs.HirTables.Tables.{TablesValue, KeepsTables}
use Rattle.hir_session_machine.specs.HirDefMapRules.Overlay.{Maps}
use Rattle.hir_session_machine.specs.HirSessionAnswers.Names.{named_in}
use Rattle.hir_session_machine.specs.HirSessionAnswers.SourceItems.{answered_macro, answered_type, answered_value}
use Rattle.hir_session_machine.proofs.HirSessionAnswers.Growing.{macro_item_stays, not_left_out, type_stays, value_stays}
use Rattle.hir_session_laws.specs.Laws.{AreWhole, IsWhole}

module _ (few more : TablesValue) (keeps : KeepsTables few more) (maps : Maps) where
  named_alike : (entry : Option (List ℕ) × PerNs) → IsWhole few maps entry.1 → named_in more maps entry ≡ named_in few maps entry
  named_alike entry whole =
      let types = not_left_out few more keeps maps (answered_type few maps) (answered_type more maps) (type_stays few more keeps maps) entry.1.types whole.types
      in
      let values = not_left_out few more keeps maps (answered_value few maps) (answered_value more maps) (value_stays few more keeps maps) entry.1.values
      whole.values in
      let macros = not_left_out few more keeps maps (answered_macro few maps) (answered_macro more maps) (macro_item_stays few more keeps maps) entry.1.macros
      whole.macros in
      λ k. record { name = entry.0; types = types k; values = values k; macros = macros k }

  pub names_stay : (entries : List (Option (List ℕ) × PerNs)) → AreWhole few maps entries
      → map (named_in more maps) entries ≡ map (named_in few maps) entries
  names_stay [] all = refl
  names_stay (entry ∷ entries) all = λ k. named_alike entry all.0 k ∷ names_stay entries all.1 k
