use Rattle.std.proofs.Common.{◌≡◌, ◌∷◌, [], codes, count_by, length, rules}
use Rattle.std.specs.List.{sum_by}
use Rattle.outside.specs.Texts.{field}
use Rattle.report_text.specs.SummaryText.{is_again, is_answer, is_move, weight_moved, weight_travelled}
use Rattle.report_text.proofs.Summing.{regroup}
use Rattle.report_text.proofs.sums.summary.Goals as goal

pub returns : goal.returns
returns c =
    let calls = c.args.outcome.now.calls.items in
    let visits : c.len.result ≡ length c.args.outcome.now.order.items = search rules in
    rw (
      c.in_ok-push.ensures.items,
      c.in_ok-push_field.ensures,
      c.in_ok-push_sums.ensures,
      c.in_ok-text.ensures.items,
      c.sums_of-sums.ensures.moves,
      c.sums_of-sums.ensures.moved,
      c.sums_of-sums.ensures.finds,
      c.sums_of-sums.ensures.again,
      c.sums_of-sums.ensures.travelled,
      c.deref.ensures.value,
      visits,
    ) (regroup (codes "summary") (codes " moves") (field (count_by is_move calls)) (codes " moved")
    (field (sum_by weight_moved calls)) (codes " finds") (field (count_by is_answer calls)) (codes " again")
    (field (count_by is_again calls)) (codes " travelled") (field (sum_by weight_travelled calls)) (codes " visits")
    (field (length c.args.outcome.now.order.items)) (10 ∷ []))
