use Rattle.std.proofs.Common.{List, ℕ, ◌++◌, drop, ap}
use Rattle.outside.proofs.copy.copy_front.Goals as goal

pub returns : goal.returns
returns c = ap (λ (front : List ℕ). front ++ drop c.args.count c.args.into.now) c.copy_from_slice.ensures.after
