use Rattle.std.proofs.lemmas.Grind.{common_steps}
use Rattle.std.proofs.Common.{arith}
use Rattle.cluster_tree.proofs.Joining.{is_written}
use Rattle.cluster_tree.proofs.inside.inside_weights.Goals as goal

pub returns-clause-written : goal.returns-clause-written
returns-clause-written c = grind (arith, is_written)

pub offset_bounds-deref-start : goal.offset_bounds-deref-start
offset_bounds-deref-start c = grind (arith, common_steps)

pub returns-in_err-push_inside : goal.returns-in_err-push_inside
returns-in_err-push_inside c = grind (arith, common_steps)

pub slice_bounds-greatest_weight-count : goal.slice_bounds-greatest_weight-count
slice_bounds-greatest_weight-count c = grind (arith, common_steps)

pub slice_bounds-greatest_weight-start : goal.slice_bounds-greatest_weight-start
slice_bounds-greatest_weight-start c = grind (arith, common_steps)
