use Rattle.std.proofs.Common.{◌≡◌, ◌≤◌, ◌*◌, count_by, take}
use Rattle.std.specs.List.{sum_by}
use Rattle.report_text.specs.SummaryText.{is_again, is_answer, is_move, weight_moved, weight_travelled}
use Rattle.report_text.proofs.sums.sums_of.Given as goal

abbrev pub invariant-loop-call : goal.invariant-loop-call
invariant-loop-call l = record {
  moves : l.sums.moves ≡ count_by is_move (take l.call-index l.calls);
  finds : l.sums.finds ≡ count_by is_answer (take l.call-index l.calls);
  again : l.sums.again ≡ count_by is_again (take l.call-index l.calls);
  moved : l.sums.moved ≡ sum_by weight_moved (take l.call-index l.calls);
  travelled : l.sums.travelled ≡ sum_by weight_travelled (take l.call-index l.calls);
  few_moves : l.sums.moves ≤ l.call-index;
  few_finds : l.sums.finds ≤ l.call-index;
  few_again : l.sums.again ≤ l.call-index;
  light_moved : l.sums.moved ≤ l.call-index * 18446744073709551615;
  light_travelled : l.sums.travelled ≤ l.call-index * 18446744073709551615;
}
