-- One item after another is taken.
use Rattle.std.proofs.Common.{rules, ◌≡◌, ◌∙◌, List, [], ◌∷◌, map, ap, refl, subst, arith}
use Rattle.hir_collector_rules.proofs.HirTables.Growth.{KeepsTables-refl, KeepsTables-trans}
use Rattle.hir_collector_rules.specs.Keys.{environment}
use Rattle.hir_collector_rules.specs.Workspace.{Workspace}
use Rattle.hir_assoc_items.specs.Steps.{IsGivenUp, LeadsToUnknown, Takes, container_view, left_of, listing_view}
use Rattle.hir_assoc_items.specs.Written.{WrittenValue, written_view}
use Rattle.hir_assoc_items.proofs.Expanding.{others_later}
use Rattle.hir_assoc_items.proofs.OnItsWay.{begins, ends, first_meant, given_up, goes_on, left_popped, left_reversed, too_long, unknown_source}
use Rattle.hir_assoc_items.proofs.flatten.flatten.Goals as goal

pub next-init : goal.next-init
next-init g c =
    let w = g.D.SourceDatabase.workspace c.args.db.now in
    let all : List WrittenValue = map written_view c.args.items.items in
    record {
      kept = KeepsTables-refl c.args.locations.now;
      others = refl;
      placed = λ placed. placed;
      same = refl;
      few = omega arith;
      way =
          begins w (container_view c.args.container.now) all c.args.locations.now (left_of c.reverse.new.self.items) (listing_view c.new-found.result)
          (ap left_of c.reverse.ensures.items ∙ left_reversed c.args.items.items) c.new-found.ensures.value c.requires.meant;
    }

pub take-requires : goal.take-requires
take-requires g c =
    let w = g.D.SourceDatabase.workspace c.args.db.now in
    let all : List WrittenValue = map written_view c.args.items.items in
    let here : left_of c.next.left.items ≡ written_view c.in-Some.item ∷ left_of c.pop.new.self.items = left_popped c.next.left.items c.pop.new.self.items
    c.in-Some.item c.in-Some.ensures.items in
    record {
      meant = first_meant w (container_view c.args.container.now) all c.next.locations (left_of c.next.left.items) (listing_view c.next.found)
          c.next.count c.next.invariant.way (written_view c.in-Some.item) (left_of c.pop.new.self.items) here;
    }

pub next-preserved : goal.next-preserved
next-preserved g c =
    let w = g.D.SourceDatabase.workspace c.args.db.now in
    let of = container_view c.args.container.now in
    let all : List WrittenValue = map written_view c.args.items.items in
    let before = c.next.locations in
    let after = c.take.new.locations in
    let rest = left_of c.pop.new.self.items in
    let i : WrittenValue = written_view c.in-Some.item in
    let here : left_of c.next.left.items ≡ i ∷ rest = left_popped c.next.left.items c.pop.new.self.items c.in-Some.item c.in-Some.ensures.items in
    record {
      kept = KeepsTables-trans c.args.locations.now before after c.next.invariant.kept c.in_ok-take.ensures.kept;
      others = others_later c.args.locations.now before after c.next.invariant.others c.in_ok-take.ensures.others;
      placed = λ placed. c.in_ok-take.ensures.placed (c.next.invariant.placed placed);
      same = c.in_ok-take.ensures.same ∙ c.next.invariant.same;
      few = omega arith;
      way =
          goes_on w of all before (left_of c.next.left.items) (listing_view c.next.found) c.next.count c.next.invariant.way i rest here after
          c.in_ok-take.ensures.kept (left_of c.take.new.left.items)
          (listing_view c.take.new.found)
          (subst (λ (v : Workspace). Takes after v of i rest (left_of c.take.new.left.items) (listing_view c.next.found) (listing_view c.take.new.found))
          c.next.invariant.same c.in_ok-take.ensures.ok);
    }

pub returns-in_err-take-clause-many : goal.returns-in_err-take-clause-many
returns-in_err-take-clause-many g c = λ h.
    let w = g.D.SourceDatabase.workspace c.args.db.now in
    let of = container_view c.args.container.now in
    let all : List WrittenValue = map written_view c.args.items.items in
    let after = c.take.new.locations in
    let rest = left_of c.pop.new.self.items in
    let i : WrittenValue = written_view c.in-Some.item in
    let here : left_of c.next.left.items ≡ i ∷ rest = left_popped c.next.left.items c.pop.new.self.items c.in-Some.item c.in-Some.ensures.items in
    given_up w of all c.next.locations (left_of c.next.left.items) (listing_view c.next.found) c.next.count c.next.invariant.way i rest here after
    c.in_err-take.ensures.kept
    (subst (λ (v : Workspace). IsGivenUp (environment after v) of i) c.next.invariant.same (c.in_err-take.ensures.many (search rules)))

pub returns-in_err-take-clause-unknown : goal.returns-in_err-take-clause-unknown
returns-in_err-take-clause-unknown g c = λ h.
    let w = g.D.SourceDatabase.workspace c.args.db.now in
    let of = container_view c.args.container.now in
    let all : List WrittenValue = map written_view c.args.items.items in
    let after = c.take.new.locations in
    let rest = left_of c.pop.new.self.items in
    let i : WrittenValue = written_view c.in-Some.item in
    let here : left_of c.next.left.items ≡ i ∷ rest = left_popped c.next.left.items c.pop.new.self.items c.in-Some.item c.in-Some.ensures.items in
    unknown_source w of all c.next.locations (left_of c.next.left.items) (listing_view c.next.found) c.next.count c.next.invariant.way i rest here after
    c.in_err-take.ensures.kept
    (subst (λ (v : Workspace). LeadsToUnknown (environment after v) of i) c.next.invariant.same (c.in_err-take.ensures.unknown (search rules)))

pub returns-in_err-take-clause-kept : goal.returns-in_err-take-clause-kept
returns-in_err-take-clause-kept g c =
    KeepsTables-trans c.args.locations.now c.next.locations c.take.new.locations c.next.invariant.kept c.in_err-take.ensures.kept

pub returns-in_err-take-clause-others : goal.returns-in_err-take-clause-others
returns-in_err-take-clause-others g c =
    others_later c.args.locations.now c.next.locations c.take.new.locations c.next.invariant.others c.in_err-take.ensures.others

pub returns-then-count-ge-STEP_LIMIT-clause-many : goal.returns-then-count-ge-STEP_LIMIT-clause-many
returns-then-count-ge-STEP_LIMIT-clause-many g c = λ h.
    let w = g.D.SourceDatabase.workspace c.args.db.now in
    let of = container_view c.args.container.now in
    let all : List WrittenValue = map written_view c.args.items.items in
    let rest = left_of c.pop.new.self.items in
    let i : WrittenValue = written_view c.in-Some.item in
    let here : left_of c.next.left.items ≡ i ∷ rest = left_popped c.next.left.items c.pop.new.self.items c.in-Some.item c.in-Some.ensures.items in
    too_long w of all c.next.locations (left_of c.next.left.items) (listing_view c.next.found) c.next.count c.next.invariant.way i rest here c.next.locations
    (KeepsTables-refl c.next.locations)
    c.next.invariant.few c.if-count-ge-STEP_LIMIT.true

pub returns-clause-value : goal.returns-clause-value
returns-clause-value g c =
    let w = g.D.SourceDatabase.workspace c.args.db.now in
    let over : left_of c.next.left.items ≡ [] = ap left_of (let none_left : c.next.left.items ≡ [] = search (rules, c.pop.ensures.items) in none_left) in
    ends w (container_view c.args.container.now) (map written_view c.args.items.items) c.next.locations (left_of c.next.left.items) (listing_view c.next.found)
    c.next.count c.next.invariant.way over
