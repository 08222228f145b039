use Rattle.std.proofs.Common.{◌≡◌, [], subst, sym, ◌∙◌}
use Rattle.handset.specs.StepWrites.{due}
use Rattle.region_plan.specs.Settings.{setting_of}
use Rattle.runner.specs.Playing.{next_of}
use Rattle.runner.specs.Roles.{IsRole}
use Rattle.runner.proofs.role.Role.prepare.Goals as goal

pub returns-in-Mover : goal.returns-in-Mover
returns-in-Mover c = record {
  its = λ input setup view spare set role.
      let way = c.prepare.ensures.its input setup view spare set
      (subst (IsRole input setup view spare) c.in-Mover.is role) in (
        way.0,
        subst (λ p. next_of input setup view ≡ due (setting_of p []) c.prepare.new.self.handset) set.plan_is way.1,
        ((λ no. way.1 ∙ c.prepare.ensures.left.0 no), (λ none. c.prepare.ensures.left.1 (sym way.1 ∙ none))),
      );
}
