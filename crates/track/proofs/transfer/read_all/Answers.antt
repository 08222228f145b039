use Rattle.std.proofs.lemmas.Grind.{common_steps}
use Rattle.std.proofs.Common.{◌++◌, take, sym, ap, ◌∙◌, arith, length-append, length-take}
use Rattle.outside.specs.Bytes.{prepend_known, prepend_known-append}
use Rattle.track.proofs.transfer.read_all.Goals as goal

pub returns-in_err-feed-in-Got-clause-rest : goal.returns-in_err-feed-in-Got-clause-rest
returns-in_err-feed-in-Got-clause-rest g c =
    let bytes = c.pieces.invariant.bytes in
    let piece = take c.in-Got.more c.fill.new.into in
    record {
      front = bytes ++ piece;
      parts = c.pieces.invariant.parts ∙ ap (prepend_known bytes) c.in-Got.ensures.bytes
          ∙ sym (prepend_known-append bytes piece (g.S.Source.left c.fill.new.self));
    }

pub pieces-preserved : goal.pieces-preserved
pieces-preserved g c =
    let bytes = c.pieces.invariant.bytes in
    let piece = take c.in-Got.more c.fill.new.into in
    record {
      bytes = bytes ++ piece;
      stands = c.in_ok-feed-in-Got.ensures.fed bytes c.pieces.invariant.stands;
      count = omega (
        arith,
        c.pieces.invariant.count,
        c.in-Got.ensures.within,
        length-append bytes piece,
        length-take
            c.in-Got.more c.fill.new.into,
      );
      parts = c.pieces.invariant.parts ∙ ap (prepend_known bytes) c.in-Got.ensures.bytes
          ∙ sym (prepend_known-append bytes piece (g.S.Source.left c.fill.new.self));
      no_fault = c.in-Got.ensures.count ∙ c.pieces.invariant.no_fault;
    }

pub overflow_add-count : goal.overflow_add-count
overflow_add-count c = grind (arith, common_steps)

pub pieces-smaller : goal.pieces-smaller
pieces-smaller c = grind (arith, common_steps)

pub returns-in-End : goal.returns-in-End
returns-in-End c = grind (arith, common_steps)

pub returns-in_err-feed-in-Got-clause-all : goal.returns-in_err-feed-in-Got-clause-all
returns-in_err-feed-in-Got-clause-all c = grind (arith, common_steps)

pub returns-in_err-feed-in-Got-clause-stops : goal.returns-in_err-feed-in-Got-clause-stops
returns-in_err-feed-in-Got-clause-stops c = grind (arith, common_steps)
