use Rattle.std.proofs.Common.{arith}
use Rattle.std.proofs.lemmas.List.{get_or_default}
use Rattle.visit_log.proofs.Apart.{place-below}
use Rattle.visit_log.proofs.places.Places.place.Goals as goal

pub overflow_add-result : goal.overflow_add-result
overflow_add-result c = grind (arith, get_or_default, place-below)
