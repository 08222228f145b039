use Rattle.worked_examples.proofs.whole.whole_finds.Goals as goal

pub returns-clause-listed : goal.returns-clause-listed
returns-clause-listed c = λ law. law

pub returns-clause-resting : goal.returns-clause-resting
returns-clause-resting c = λ law. law

pub returns-clause-comings : goal.returns-clause-comings
returns-clause-comings c = λ law. law

pub returns-clause-climbs : goal.returns-clause-climbs
returns-clause-climbs c = λ law. law

pub returns-clause-reading : goal.returns-clause-reading
returns-clause-reading c = λ law. law
