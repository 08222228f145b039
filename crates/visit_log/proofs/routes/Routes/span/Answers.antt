use Rattle.std.proofs.Common.{ℕ, ap, arith}
use Rattle.visit_log.specs.Routes.{rung_at}
use Rattle.visit_log.proofs.Parts.{before-end, end-read, end-within, start-read}
use Rattle.visit_log.proofs.routes.Routes.span.Goals as goal

pub returns-clause-exact : goal.returns-clause-exact
returns-clause-exact c = grind (arith, start-read, end-read)

pub returns-clause-order : goal.returns-clause-order
returns-clause-order c =
    let plan = c.requires.at.0 in
    let at = c.requires.at.1 in
    let both = returns-clause-exact c plan at in
    omega (
      arith,
      ap (λ (p : ℕ × ℕ). p.0) both,
      ap (λ (p : ℕ × ℕ). p.1) both,
      before-end plan c.args.self.now c.args.node at.are at.inside (rung_at c.args.level c.args.index) at.is,
    )

pub returns-clause-within : goal.returns-clause-within
returns-clause-within c = grind (arith, returns-clause-exact, end-within, c.requires.at.0, c.requires.at.1)
