use Rattle.std.proofs.Common.{◌≡◌, ℕ, refl, sym, arith}
use Rattle.std.proofs.lemmas.Bool.{true≢false}
use Rattle.directory.specs.Courses.{highest}
use Rattle.directory.specs.Writes.{writes}
use Rattle.worked_examples.proofs.trails.worked_counts.Goals as goal

pub returns-clause-listed : goal.returns-clause-listed
returns-clause-listed c = λ law setting sub history few legal known there.
    law setting sub history 2 few known legal there

pub returns-clause-resting : goal.returns-clause-resting
returns-clause-resting c = λ law setting sub history few legal known rest on.
    law setting sub history 2 few known legal rest on

pub returns-clause-elsewhere : goal.returns-clause-elsewhere
returns-clause-elsewhere c = λ on. let e : ◌≡◌ {A = ℕ} 2 3 = on.0 in omega (arith, e)

pub returns-clause-off : goal.returns-clause-off
unfolding writes highest
returns-clause-off c = λ on. true≢false on.1

pub returns-clause-unlisted : goal.returns-clause-unlisted
unfolding writes highest
returns-clause-unlisted c = λ counted. true≢false (sym (counted.1 (refl, refl)))
