use Rattle.std.proofs.Common.{refl}
use Rattle.std.specs.Fmt.{digits}
use Rattle.directory.specs.Courses.{highest}
use Rattle.directory.specs.Writes.{writes}
use Rattle.worked_examples.proofs.censuses.worked_censuses.Goals as goal

pub returns-clause-several : goal.returns-clause-several
unfolding digits writes highest
returns-clause-several c = refl

pub returns-clause-last : goal.returns-clause-last
unfolding digits writes highest
returns-clause-last c = refl

pub returns-clause-nobody : goal.returns-clause-nobody
unfolding digits writes highest
returns-clause-nobody c = refl

pub returns-clause-line : goal.returns-clause-line
unfolding digits writes highest
returns-clause-line c = refl

pub returns-clause-on_its_way : goal.returns-clause-on_its_way
unfolding digits writes highest
returns-clause-on_its_way c = refl

pub returns-clause-moved : goal.returns-clause-moved
unfolding digits writes highest
returns-clause-moved c = refl

pub returns-clause-off : goal.returns-clause-off
unfolding digits writes highest
returns-clause-off c = refl
