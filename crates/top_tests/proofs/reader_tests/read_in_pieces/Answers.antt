use Rattle.std.proofs.Common.{◌≡◌, ◌++◌, List, ℕ, take, sym, ap, ◌∙◌, append_assoc}
use Rattle.std.proofs.lemmas.List.{take-append-drop}
use Rattle.top_tests.proofs.reader_tests.read_in_pieces.Goals as goal

pub pieces-preserved : goal.pieces-preserved
pieces-preserved c =
    let front = c.pieces.invariant.front in
    let rest = c.pieces.rest.now in
    let piece = c.split_at.result.0.now in
    let back = c.split_at.result.1.now in
    let cut : rest ≡ piece ++ back =
    sym (take-append-drop c.min.result rest)
    ∙ ap (λ (t : List ℕ). take c.min.result rest ++ t) (sym c.split_at.ensures.back)
    ∙ ap (λ (t : List ℕ). t ++ back) (sym c.split_at.ensures.front) in
    record {
      front = front ++ piece;
      parts = c.pieces.invariant.parts ∙ ap (λ (t : List ℕ). front ++ t) cut ∙ sym (append_assoc front piece back);
      stands = c.in_ok-feed.ensures.fed front c.pieces.invariant.stands;
    }
