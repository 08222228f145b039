use Rattle.std.proofs.Common.{◌≡◌, ℕ, ap, refl, arith}
use Rattle.net_graph.specs.Walks.{everywhere}
use Rattle.net_reader.specs.declared.fault.InputFault.{InputFault}
use Rattle.worked_examples.proofs.Apart.{least_apart, reached, stays}
use Rattle.worked_examples.proofs.grammar.worked_apart.Goals as goal

pub returns-clause-least : goal.returns-clause-least
returns-clause-least c = least_apart

pub returns-clause-other : goal.returns-clause-other
returns-clause-other c = λ first.
    let found = first.first 2 (omega arith) in
    let e = stays everywhere 0 2 found.steps (omega arith) found.walk in omega (arith, e)

pub returns-clause-joined : goal.returns-clause-joined
returns-clause-joined c = λ first.
    let found = reached 1 (omega arith) in first.apart found.steps found.walk

pub returns-clause-input : goal.returns-clause-input
returns-clause-input c = (2, refl, least_apart)

pub returns-clause-other_line : goal.returns-clause-other_line
returns-clause-other_line c = λ says.
    let e : ◌≡◌ {A = ℕ} 6 8 = ap (λ (fault : InputFault). fault.line) says.1 in omega (arith, e)
