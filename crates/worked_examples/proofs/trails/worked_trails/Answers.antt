use Rattle.std.proofs.Common.{inl, inr, subst}
use Rattle.trail_laws.specs.Trail.{EntryTells, GoesUp}
use Rattle.worked_examples.proofs.trails.worked_trails.Goals as goal

pub returns-clause-one : goal.returns-clause-one
returns-clause-one c = λ law setting sub history few legal other p q u v known below here there.
    law setting sub history few legal 2 other p q u v known below here there

pub returns-clause-begun : goal.returns-clause-begun
returns-clause-begun c = λ law setting sub history few legal early weight renewed last.
    law setting sub history _ few legal early last

pub returns-clause-there : goal.returns-clause-there
returns-clause-there c = λ law setting sub history few legal known number gone there.
    subst (GoesUp 4) there (law setting sub history few legal 3 4 2 known gone)

pub returns-clause-on : goal.returns-clause-on
returns-clause-on c = λ law setting sub history few legal known number gone there.
    subst (GoesUp 4) there (law setting sub history few legal 3 4 2 known gone)

pub returns-clause-cover : goal.returns-clause-cover
returns-clause-cover c = λ law setting sub history few legal committed closed.
    elim (law setting sub history few legal) [
      | inl begun ↦ absurd (committed begun)
      | inr (inl passing) ↦ absurd (closed passing.0 passing.1)
      | inr (inr settled) ↦ settled
    ]

pub returns-clause-stop : goal.returns-clause-stop
returns-clause-stop c = λ law setting sub history few legal high cluster number is.
    (subst (EntryTells setting sub history 1 cluster) is (law setting sub history few legal 1 cluster high)).3

pub returns-clause-marked : goal.returns-clause-marked
returns-clause-marked c = λ law setting sub history few legal high cluster number is.
    (subst (EntryTells setting sub history 1 cluster) is (law setting sub history few legal 1 cluster high)).4
