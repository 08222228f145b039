use Rattle.std.proofs.Common.{arith, length, subst, sym, ap, ◌∙◌}
use Rattle.net_reader.specs.Seen.{seen_input}
use Rattle.runner.specs.Roles.{IsRoleAt}
use Rattle.runner.proofs.Working.{pass-reserved, worker-reserved}
use Rattle.runner.proofs.worker.Worker.new.Goals as goal

pub returns-clause-worker : goal.returns-clause-worker
returns-clause-worker c = λ tracker of.
    worker-reserved c.reserve.new.self c.in-Ok.role c.in-Ok.visits c.reserve.result c.requires.may of
    (subst (λ a. IsRoleAt (seen_input c.args.input.now) c.args.plan.now a c.in-Ok.visits c.in-Ok.role) c.actor.ensures
    c.in-Ok.ensures.role) c.in-Ok.ensures.few
    (sym c.is_err.ensures.value ∙ c.if-is_err.false) c.reserve.ensures.room

pub reserve-requires : goal.reserve-requires
reserve-requires c = record { few = omega (arith, ap length c.requires.may.none, c.in-Ok.ensures.few) }

pub returns-clause-pass : goal.returns-clause-pass
returns-clause-pass c =
    pass-reserved c.args.pass c.reserve.new.self c.in-Ok.visits c.reserve.result
    (sym c.is_err.ensures.value ∙ c.if-is_err.false) c.reserve.ensures.room
