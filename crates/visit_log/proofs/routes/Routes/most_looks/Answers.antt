use Rattle.std.proofs.Common.{arith}
use Rattle.visit_log.proofs.Parts.{readers-between}
use Rattle.visit_log.proofs.routes.Routes.most_looks.Goals as goal

pub overflow_sub-readers : goal.overflow_sub-readers
overflow_sub-readers c =
    omega (
      arith,
      readers-between c.args.plan.now c.args.from c.self.view_is c.requires.routes c.requires.node c.index-2.ensures
          c.index.ensures,
    )

pub returns : goal.returns
returns c = grind (arith, readers-between)
