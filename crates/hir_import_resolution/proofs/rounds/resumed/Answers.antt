-- What read a slot that has changed is queued, and so is what came besides.
use Rattle.std.proofs.Common.{◌∙◌, ap, rules, sym}
use Rattle.hir_nameres.specs.WorldParts.{part_of}
use Rattle.hir_import_resolution.specs.Types.{ImportQueue}
use Rattle.hir_import_resolution.specs.Inner.State.{state_in}
use Rattle.hir_import_resolution.specs.Rounds.{is_apart, is_lasting}
use Rattle.hir_import_resolution.proofs.GlobsLasting.{kept_through}
use Rattle.hir_import_resolution.proofs.Growing.{queued_again}
use Rattle.hir_import_resolution.proofs.Starting.{begun_kept}
use Rattle.hir_import_resolution.proofs.rounds.resumed.Goals as goal

pub returns-clause-begun : goal.returns-clause-begun
returns-clause-begun c =
    let queued =
    queued_again (part_of c.args.world) c.args.queue (state_in c.args.imports) c.args.changed.now c.requires.resumable c.requires.lasts c.wake.new.self
    c.in_ok-wake.ensures.woken c.wake.ensures.apart c.wake.ensures.lasting
    c.append.new.self c.len-count.result c.append.ensures.rest c.in_ok-append.ensures.longer (search (rules, c.len-count.ensures)) c.in_ok-append.ensures.count
    c.requires.there in
    let same_apart = ap is_apart c.append.ensures.rest ∙ c.wake.ensures.apart in
    let same_lasting = ap is_lasting c.append.ensures.rest ∙ c.wake.ensures.lasting in
    let new = c.new-resolver.ensures in
    begun_kept (part_of c.args.world) c.append.new.self c.args.imports c.new-resolver.result new.state new.finished new.queue new.changes queued
    (λ e. c.requires.globs.lasts)
    (λ e. same_apart ∙ c.requires.resumable.up_to_date.watches (sym same_lasting ∙ e)) c.requires.small
    (λ e. c.requires.resumable.apart_now (sym same_apart ∙ e))
    (kept_through (part_of c.args.world) c.args.imports c.new-resolver.result new.state new.finished new.globs c.requires.globs.kept) c.requires.sound.recorded

pub returns-clause-over : goal.returns-clause-over
returns-clause-over c =
    let queued =
    queued_again (part_of c.args.world) c.args.queue (state_in c.args.imports) c.args.changed.now c.requires.resumable c.requires.lasts c.wake.new.self
    c.in_ok-wake.ensures.woken c.wake.ensures.apart c.wake.ensures.lasting
    c.append.new.self c.len-count.result c.append.ensures.rest c.in_ok-append.ensures.longer (search (rules, c.len-count.ensures)) c.in_ok-append.ensures.count
    c.requires.there in
    ap (λ (q : ImportQueue). q.worklist.current) c.new-resolver.ensures.queue ∙ queued.over

pub returns-clause-outside : goal.returns-clause-outside
returns-clause-outside c =
    let queued =
    queued_again (part_of c.args.world) c.args.queue (state_in c.args.imports) c.args.changed.now c.requires.resumable c.requires.lasts c.wake.new.self
    c.in_ok-wake.ensures.woken c.wake.ensures.apart c.wake.ensures.lasting
    c.append.new.self c.len-count.result c.append.ensures.rest c.in_ok-append.ensures.longer (search (rules, c.len-count.ensures)) c.in_ok-append.ensures.count
    c.requires.there in
    ap (λ (q : ImportQueue). q.worklist.end) c.new-resolver.ensures.queue ∙ queued.outside

pub returns-clause-apart : goal.returns-clause-apart
returns-clause-apart c = ap is_apart c.new-resolver.ensures.queue ∙ ap is_apart c.append.ensures.rest ∙ c.wake.ensures.apart
