use Rattle.std.proofs.Common.{rules, refl, sym, ◌∙◌, arith}
use Rattle.runner.proofs.Working.{gone-held, gone-made, tries-lost, tries-made}
use Rattle.runner.proofs.worker.Worker.attempt.Goals as goal

pub returns-then-is_err-clause-tried : goal.returns-then-is_err-clause-tried
returns-then-is_err-clause-tried g c = λ input may.
    let its = may.may.worker_is in
    let tried = c.visit.ensures.tries input may.may.set its.role may.prepared may.left in
    let lost = tries-lost input c.args.tracker.now.setup c.args.self.now.pass c.visit.new.pass c.visit.result
    (sym c.is_err.ensures.value ∙ c.if-is_err.true) tried.0 in
    gone-held _ its lost.1 tried.1 refl

pub returns-clause-tried : goal.returns-clause-tried
returns-clause-tried g c = λ input may.
    let its = may.may.worker_is in
    let tried = c.visit.ensures.tries input may.may.set its.role may.prepared may.left in
    gone-made c.lines_grow.ensures.kept _ its (tries-made input c.args.tracker.now.setup c.args.self.now.pass
    c.visit.new.pass c.visit.result (sym c.is_err.ensures.value ∙ c.if-is_err.false) tried.0) tried.1 (omega arith)

pub returns-then-is_err-clause-shut : goal.returns-then-is_err-clause-shut
returns-then-is_err-clause-shut c = search rules

pub returns-clause-shut : goal.returns-clause-shut
returns-clause-shut c = search rules
