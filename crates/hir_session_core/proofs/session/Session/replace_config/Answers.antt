-- The crate asked for what it was handed in with, and so did what depends on it; nothing is kept of those.
use Rattle.std.proofs.Common.{◌≡◌, ◌≢◌, ◌<◌, List, inr, length, map, refl, sym, subst, Contains}
use Rattle.hir_session_state.specs.HirIds.declared.ids.Crate.{Crate}
use Rattle.hir_session_state.specs.HirIds.declared.ids.MapId.{MapId}
use Rattle.hir_session_state.specs.HirCollectorRules.Workspace.{config_view}
use Rattle.hir_session_state.specs.Beginning.{IsSameConfig}
use Rattle.hir_session_state.specs.Crates.{crate_in, with_config}
use Rattle.hir_session_state.specs.Kept.{AreForgotten}
use Rattle.hir_session_state.specs.SessionState.{SessionState, state_of}
use Rattle.hir_session_core.specs.CrateEdits.{SetsConfig}
use Rattle.hir_session_core.proofs.Awaiting.{known_forgot}
use Rattle.hir_session_core.proofs.CrateEdits.{apart_of, hits, renewed_becomes, renewed_set, renewed_sound}
use Rattle.hir_session_core.proofs.HirSessionSources.Start.{before_all}
use Rattle.hir_session_core.proofs.session.Session.replace_config.Goals as goal

pub invariant_of-self : goal.invariant_of-self
invariant_of-self c = rw c.in_err-set_crate.ensures.err c.self.invariant

pub invariant_of-self-2 : goal.invariant_of-self-2
invariant_of-self-2 c =
    let old = state_of c.self.inside.inputs c.self.inside.tables c.self.inside.kept in
    let config = config_view c.args.config in
    let new = record old { crates = with_config old.crates c.args.krate.0 config; kept = c.forget.new.kept } in
    let within = subst (λ (s : SessionState). c.args.krate.0 < length s.crates) (sym c.self.view_is) c.requires.within in
    let apart = subst (λ (s : SessionState). config ≢ (crate_in s.crates c.args.krate.0).config) (sym c.self.view_is) (apart_of config _ c.requires.other) in
    let forgotten = subst (λ (ids : List MapId). AreForgotten c.self.inside.kept ids c.forget.new.kept) c.in_ok-hits.ensures.value
    c.forget.ensures.forgotten in (
      rw c.in_ok-set_crate.ensures.ok (renewed_sound old c.self.invariant.0 c.args.krate within config apart
          (λ d among. before_all c.args.krate.0 _ d c.requires.early among) c.forget.new.kept forgotten),
      c.forget.ensures.exact,
      rw c.in_ok-set_crate.ensures.ok (known_forgot old new c.self.inside.pending c.forget.new.pending refl refl c.forget.ensures.pending c.self.invariant.2),
    )

pub returns-clause-ok : goal.returns-clause-ok
returns-clause-ok c =
    let old = state_of c.self.inside.inputs c.self.inside.tables c.self.inside.kept in
    let config = config_view c.args.config in
    let within = subst (λ (s : SessionState). c.args.krate.0 < length s.crates) (sym c.self.view_is) c.requires.within in
    let apart = subst (λ (s : SessionState). config ≢ (crate_in s.crates c.args.krate.0).config) (sym c.self.view_is) (apart_of config _ c.requires.other) in
    let forgotten = subst (λ (ids : List MapId). AreForgotten c.self.inside.kept ids c.forget.new.kept) c.in_ok-hits.ensures.value c.forget.ensures.forgotten in
    let other = subst (λ (s : SessionState). IsSameConfig config (crate_in s.crates c.args.krate.0).config → ⊥) (sym c.self.view_is) c.requires.other in
    let becomes = renewed_becomes old c.self.invariant.0 c.args.krate within config apart (λ d among. before_all c.args.krate.0 _ d c.requires.early among)
    c.forget.new.kept forgotten in
    rw c.in_ok-set_crate.ensures.ok (subst (λ (s : SessionState). SetsConfig s c.args.krate config
    (record old { crates = with_config old.crates c.args.krate.0 config; kept = c.forget.new.kept })) c.self.view_is
    (renewed_set old c.self.invariant.0 c.args.krate within config apart (λ d among. before_all c.args.krate.0 _ d c.requires.early among) other
    c.forget.new.kept forgotten))
