use Rattle.std.proofs.Common.{◌≡◌, ◌++◌, List, ℕ, take, sym, ap, ◌∙◌, append_assoc}
use Rattle.std.proofs.lemmas.List.{take-append-drop}
use Rattle.outside.specs.Bytes.{append_known, append_known-append}
use Rattle.track.proofs.transfer.write_all.Goals as goal

pub pieces-preserved : goal.pieces-preserved
pieces-preserved g c =
    let rest = c.pieces.rest.now in
    let piece = take c.in-Wrote.count rest in
    let parts : rest ≡ piece ++ c.split_at.result.1.now = sym (take-append-drop c.in-Wrote.count rest)
    ∙ ap (λ (t : List ℕ). piece ++ t) (sym c.split_at.ensures.back) in
    record {
      sent = c.pieces.invariant.sent ++ piece;
      parts = c.pieces.invariant.parts ∙ ap (λ (t : List ℕ). c.pieces.invariant.sent ++ t) parts
          ∙ sym (append_assoc c.pieces.invariant.sent piece c.split_at.result.1.now);
      written = c.in-Wrote.ensures.bytes ∙ ap (λ o. append_known o piece) c.pieces.invariant.written
          ∙ sym (append_known-append (g.K.Sink.written c.args.sink.now) c.pieces.invariant.sent piece);
      no_fault = c.in-Wrote.ensures.count ∙ c.pieces.invariant.no_fault;
    }
