use Rattle.stretch_laws.proofs.CostLaws.{ends-early}
use Rattle.stretch_laws.proofs.costs.climb_ends_early.Goals as goal

pub returns : goal.returns
returns c = ends-early c.levels_stay_near.ensures.near c.levels_stay_near.ensures.inside
