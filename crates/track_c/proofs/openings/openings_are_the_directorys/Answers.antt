use Rattle.track_c.proofs.OpeningLaws.{opening-put, put-opening}
use Rattle.track_c.proofs.openings.openings_are_the_directorys.Goals as goal

pub returns-clause-puts : goal.returns-clause-puts
returns-clause-puts c = put-opening

pub returns-clause-cells : goal.returns-clause-cells
returns-clause-cells c = opening-put
