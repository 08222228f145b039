use Rattle.json_form.proofs.Told.{brief-told, full-told, long-untold, order-untold}
use Rattle.json_form.proofs.examples.worked_shapes.Goals as goal

pub returns-clause-full : goal.returns-clause-full
returns-clause-full c = full-told

pub returns-clause-brief : goal.returns-clause-brief
returns-clause-brief c = brief-told

pub returns-clause-order : goal.returns-clause-order
returns-clause-order c = order-untold

pub returns-clause-long : goal.returns-clause-long
returns-clause-long c = long-untold
