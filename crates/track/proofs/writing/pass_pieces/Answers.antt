use Rattle.std.proofs.Common.{◌++◌, refl, ap, sym, ◌∙◌}
use Rattle.track.specs.Transfer.{StopsWriting}
use Rattle.track.proofs.Passing.{ends-stopped, err-then, no-parts, onward, part-first, part-more, stopped-writing}
use Rattle.track.proofs.writing.pass_pieces.Goals as goal

pub pieces-preserved : goal.pieces-preserved
pieces-preserved g c =
    let w = c.pieces.invariant in
    let piece = c.made.result.now in
    let left = g.P.Pieces.left in
    record {
      text = w.text ++ piece;
      on = onward piece w.on c.in_ok-pass_on.ensures.moved;
      parts = part-more w.text piece (left c.make_next.new.self) w.parts
          (c.pieces-test.ensures.more refl ∙ ap (λ t. t ++ left c.make_next.new.self) (sym c.made.ensures));
      no_fault = c.in_ok-pass_on.ensures.no_fault ∙ w.no_fault;
    }

pub returns-clause-stops : goal.returns-clause-stops
returns-clause-stops g c =
    let w = c.pieces.invariant in
    ends-stopped c.flush.result (g.K.Sink.faults c.flush.new.sink) c.flush.ensures.stops w.no_fault w.on
    c.flush.ensures.part (no-parts w.text w.parts (c.pieces-test.ensures.none refl))

pub returns-in_err-pass_on-clause-stops : goal.returns-in_err-pass_on-clause-stops
returns-in_err-pass_on-clause-stops g c =
    let w = c.pieces.invariant in
    let piece = c.made.result.now in
    let left = g.P.Pieces.left in
    let total = left c.args.pieces.now in
    let before = g.K.Sink.written c.args.sink.now in
    let now = g.K.Sink.written c.pass_on.new.sink in
    let f = g.K.Sink.faults c.args.sink.now in
    let h = g.K.Sink.faults c.pass_on.new.sink in
    let failed = c.in_err-pass_on.ensures.stops in
    err-then c.from_residual.result (λ stop. StopsWriting stop total before now f h) c.from_residual.ensures.1
    (λ stop is. stopped-writing piece (left c.make_next.new.self) h (is ∙ failed.0, failed.1) w.no_fault w.on
    c.pass_on.ensures.part (part-first w.text piece (left c.make_next.new.self) w.parts
    (c.pieces-test.ensures.more refl ∙ ap (λ t. t ++ left c.make_next.new.self) (sym c.made.ensures))))
