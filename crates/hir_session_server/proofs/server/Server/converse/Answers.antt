use Rattle.std.proofs.Common.{◌≡◌, ◌<◌, [], ◌++◌, length, take, Err, refl, sym, ap, ◌∙◌, subst, append-nil, arith}
use Rattle.std.specs.Io.KnownBytes.{Consumes, IsAtEnd}
use Rattle.std.proofs.KnownBytes.{Consumes-nil, Appends-nil, Consumes-trans, Consumes-kept}
use Rattle.hir_session_server.specs.Runs.{Ends}
use Rattle.hir_session_server.proofs.RunLemmas.{broken_off, so_far, ends_at, breaks_at, Fed-append}
use Rattle.hir_session_machine.proofs.Headline.{headline}
use Rattle.hir_session_machine.proofs.HirSessionAnswers.LowerLaws.{paths_answer, paths_lead, runs_bind}
use Rattle.hir_session_machine.specs.Headline.{RepliesHoldTheHeadline}
use Rattle.hir_session_server.proofs.server.Server.converse.Goals as goal

holds : RepliesHoldTheHeadline
holds = headline runs_bind paths_answer paths_lead

pub loop-turn-init : goal.loop-turn-init
loop-turn-init g c = λ open_line. ([], Consumes-nil _, record { answers = []; answered = refl; written = Appends-nil _; open_line = open_line })

pub returns-in-Err : goal.returns-in-Err
returns-in-Err g c = record {
  converses = λ open_line first.
      let (input, consumed, fed) = c.loop-turn.invariant open_line in
      (input, Consumes-kept _ _ _ input consumed c.in-Err.ensures.bytes, so_far holds c.args.self.now c.loop-turn.self input _ _ first fed);
}

pub returns : goal.returns
returns g c = record {
  converses = λ open_line first.
      let (input, consumed, fed) = c.loop-turn.invariant open_line in
      (input, consumed, so_far holds c.args.self.now c.loop-turn.self input _ _ first fed);
}

pub loop-turn-preserved : goal.loop-turn-preserved
loop-turn-preserved g c = λ open_line.
    let (input, consumed, fed) = c.loop-turn.invariant open_line in
    let now = c.loop-turn.self in
    let buf = c.read.new.buf in
    let n = c.in-Ok.count in
    let w1 = g.W.Write.contents c.loop-turn.writer in
    let w2 = g.W.Write.contents c.feed.new.writer in
    let more = c.in-Ok-feed.ensures.ok _ fed.open_line in (
      input ++ take n buf,
      Consumes-trans _ _ _ input (take n buf) consumed c.in-Ok.ensures.bytes.0,
      Fed-append c.args.self.now now c.feed.new.self [] input
          (take n buf) _ w1 w2 fed more,
    )

pub returns-in-Err-feed : goal.returns-in-Err-feed
returns-in-Err-feed g c = record {
  converses = λ open_line first.
      let (input, consumed, fed) = c.loop-turn.invariant open_line in
      let now = c.loop-turn.self in
      let buf = c.read.new.buf in
      let n = c.in-Ok.count in
      let w0 = g.W.Write.contents c.args.writer.now in
      let w1 = g.W.Write.contents c.loop-turn.writer in
      let w2 = g.W.Write.contents c.feed.new.writer in
      let failed = c.in-Err-feed.ensures.err _ fed.open_line in
      let at = broken_off holds (breaks_at c.args.self.now now input (take n buf) w0 w1 w2 first fed failed.1) in (
        input ++ take n buf,
        Consumes-trans _ _ _ input (take n buf) consumed c.in-Ok.ensures.bytes.0,
        subst (λ f. Ends (Err f) (input ++ take n buf) (g.R.Read.remaining c.read.new.self) w0 w2) (sym failed.0) at,
      );
}

pub returns-then-count-eq0 : goal.returns-then-count-eq0
returns-then-count-eq0 g c = record {
  converses = λ open_line first.
      let (input, consumed, fed) = c.loop-turn.invariant open_line in
      let now = c.loop-turn.self in
      let buf = c.read.new.buf in
      let n = c.in-Ok.count in
      let r0 = g.R.Read.remaining c.args.reader.now in
      let r2 = g.R.Read.remaining c.read.new.self in
      let none : take n buf ≡ [] = ap (λ k. take k buf) c.if-count-eq0.true in
      let all : Consumes r0 r2 (input ++ take n buf) = Consumes-trans _ _ _ input (take n buf) consumed c.in-Ok.ensures.bytes.0 in
      let room : 0 < length buf = omega arith in
      let end : IsAtEnd r2 = c.in-Ok.ensures.bytes.1 c.if-count-eq0.true room in (
        input,
        subst (Consumes r0 r2) (ap (λ bs. input ++ bs) none ∙ append-nil input) all,
        ends_at holds c.finish.result c.args.self.now now input r2 _ _ _ first end fed (c.finish.ensures.ok _ fed.open_line)
            (c.finish.ensures.err _ fed.open_line),
      );
}
