use Rattle.std.proofs.Common.{refl}
use Rattle.worked_examples.proofs.grammar.worked_limits.Goals as goal

pub returns-clause-last_call : goal.returns-clause-last_call
returns-clause-last_call c = λ calls count. rw count refl

pub returns-clause-call_past : goal.returns-clause-call_past
returns-clause-call_past c = λ calls count. rw count refl

pub returns-clause-last_call_of_2 : goal.returns-clause-last_call_of_2
returns-clause-last_call_of_2 c = λ calls count. rw count refl

pub returns-clause-call_past_2 : goal.returns-clause-call_past_2
returns-clause-call_past_2 c = λ calls count. rw count refl

pub returns-clause-last_edge : goal.returns-clause-last_edge
returns-clause-last_edge c = λ edges count. rw count refl

pub returns-clause-edge_past : goal.returns-clause-edge_past
returns-clause-edge_past c = λ edges count. rw count refl

pub returns-clause-edge_both : goal.returns-clause-edge_both
returns-clause-edge_both c = λ edges count. refl
