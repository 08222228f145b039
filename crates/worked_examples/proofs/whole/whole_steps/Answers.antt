use Rattle.worked_examples.proofs.whole.whole_steps.Goals as goal

pub returns-clause-decided : goal.returns-clause-decided
returns-clause-decided c = λ law. law

pub returns-clause-stands : goal.returns-clause-stands
returns-clause-stands c = λ law. law

pub returns-clause-opening : goal.returns-clause-opening
returns-clause-opening c = λ law. law

pub returns-clause-lines : goal.returns-clause-lines
returns-clause-lines c = λ law. law
