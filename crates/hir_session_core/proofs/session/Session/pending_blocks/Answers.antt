-- All blocks are gone over.
use Rattle.std.proofs.Common.{◌≡◌, ◌∙◌, ap, subst, List, [], ◌∷◌, ◌++◌, length, map, arith, rules, Bor}
use Rattle.std.proofs.lemmas.List.{length-map, map-append}
use Rattle.hir_session_state.specs.HirBase.Place.{PlaceValue}
use Rattle.hir_session_state.specs.HirBase.declared.place.BlockPlace.{BlockPlace}
use Rattle.hir_session_state.specs.Blocks.{place_of_block}
use Rattle.hir_session_state.specs.SessionState.{SessionState, IsSound}
use Rattle.hir_session_core.proofs.Pending.{IsCollecting, collecting-end, collecting-last, collecting-more, collecting-start}
use Rattle.hir_session_core.proofs.session.Session.pending_blocks.Goals as goal

abbrev root : Bor BlockPlace → PlaceValue
root p = place_of_block p.now

pub next-init : goal.next-init
next-init c = collecting-start _ _ _ (search rules) (search rules)

pub next-preserved : goal.next-preserved
next-preserved c =
    let popped : c.next.left.items ≡ c.pop.new.self.items ++ c.in-Some.block ∷ [] = search (rules, c.in-Some.ensures.items) in
    collecting-more c.args.self.now c.next.pending _ c.in-Some.block.now (map root c.pop.new.self.items)
    (collecting-last c.args.self.now c.next.pending (root c.in-Some.block) (map root c.pop.new.self.items)
    (subst (λ (rest : List PlaceValue). IsCollecting c.args.self.now c.next.pending rest)
    (ap (map root) popped ∙ map-append root c.pop.new.self.items (c.in-Some.block ∷ [])) c.next.invariant))
    c.in_ok-add_pending.ensures.ok

pub returns-clause-all : goal.returns-clause-all
returns-clause-all c =
    let none : length c.next.left.items ≡ 0 = omega (arith, c.in_default.ensures.cases) in
    collecting-end c.args.self.now c.next.pending (map root c.next.left.items) (length-map c.next.left.items root ∙ none) c.next.invariant

pub returns-clause-sound : goal.returns-clause-sound
returns-clause-sound c = subst (λ (s : SessionState). IsSound s) c.self.view_is c.self.invariant.0
