use Rattle.std.proofs.Common.{rules, arith}
use Rattle.std.proofs.lemmas.List.Elements.{All-push}
use Rattle.region_plan.proofs.Shapes.{heads_count, last_within, level_shared}
use Rattle.region_plan.proofs.sharing.Levels.push_shared.Goals as goal

pub overflow_sub-len : goal.overflow_sub-len
overflow_sub-len c = grind (arith, heads_count)

pub invariant_of-self-2 : goal.invariant_of-self-2
invariant_of-self-2 c = search (rules, All-push, last_within)

pub returns : goal.returns
returns c = grind (arith, level_shared)
