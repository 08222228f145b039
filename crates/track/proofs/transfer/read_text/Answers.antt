use Rattle.std.proofs.lemmas.Grind.{common_steps}
use Rattle.std.proofs.Common.{arith, ◌≡◌, ◌++◌, List, ℕ, take, sym, ap, ◌∙◌, rules}
use Rattle.outside.specs.Bytes.{prepend_known, prepend_known-append}
use Rattle.track.proofs.transfer.read_text.Goals as goal

pub returns-in_err-extend_from_slice-in-Got-clause-rest : goal.returns-in_err-extend_from_slice-in-Got-clause-rest
returns-in_err-extend_from_slice-in-Got-clause-rest g c =
    let bytes = c.pieces.text.items in
    let piece = take c.in-Got.more c.fill.new.into in
    record {
      front = bytes ++ piece;
      parts = c.pieces.invariant.parts ∙ ap (prepend_known bytes) c.in-Got.ensures.bytes
          ∙ sym (prepend_known-append bytes piece (g.S.Source.left c.fill.new.self));
    }

pub pieces-preserved : goal.pieces-preserved
pieces-preserved g c =
    let bytes = c.pieces.text.items in
    let piece = take c.in-Got.more c.fill.new.into in
    let left = g.S.Source.left c.fill.new.self in
    let grown : c.extend_from_slice.new.self.items ≡ bytes ++ piece = search rules in
    record {
      parts = c.pieces.invariant.parts ∙ ap (prepend_known bytes) c.in-Got.ensures.bytes
          ∙ sym (prepend_known-append bytes piece left)
          ∙ ap (λ (t : List ℕ). prepend_known t left) (sym grown);
      no_fault = c.in-Got.ensures.count ∙ c.pieces.invariant.no_fault;
    }

pub pieces-smaller : goal.pieces-smaller
pieces-smaller c = grind (arith, common_steps)

pub returns : goal.returns
returns c = grind (arith, common_steps)

pub returns-in_err-extend_from_slice-in-Got-clause-all : goal.returns-in_err-extend_from_slice-in-Got-clause-all
returns-in_err-extend_from_slice-in-Got-clause-all c = grind (arith, common_steps)

pub returns-in_err-extend_from_slice-in-Got-clause-stops : goal.returns-in_err-extend_from_slice-in-Got-clause-stops
returns-in_err-extend_from_slice-in-Got-clause-stops c = grind (arith, common_steps)
