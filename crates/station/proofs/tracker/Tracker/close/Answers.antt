use Rattle.std.proofs.lemmas.Grind.{common_steps}
use Rattle.std.proofs.Common.{arith, ◌≡◌, ℕ, List}
use Rattle.std.proofs.lemmas.List.{take_at}
use Rattle.station.specs.Passes.{PassData}
use Rattle.station.specs.Closing.{ArePresent}
use Rattle.station.proofs.tracker.Tracker.close.Goals as goal

-- the actors that the tracker counts are those that its setup has, and the passes that were looked through are its own
present : {counted actors : ℕ} {seen passes : List PassData} → counted ≡ actors → seen ≡ passes
    → ArePresent counted seen → ArePresent actors passes
present {counted} {passes} e f all = grind arith

pub gather-longest-requires-clause-present : goal.gather-longest-requires-clause-present
gather-longest-requires-clause-present c = grind (arith, present)

pub returns-in_default-vec-clause-fault : goal.returns-in_default-vec-clause-fault
returns-in_default-vec-clause-fault c = grind (arith, present)

pub stamp_all-requires-clause-present : goal.stamp_all-requires-clause-present
stamp_all-requires-clause-present c = grind (arith, present)

pub returns-clause-order : goal.returns-clause-order
returns-clause-order c = grind (arith, take_at)

pub returns-clause-present : goal.returns-clause-present
returns-clause-present c = grind (arith, present)

pub returns-in-Some : goal.returns-in-Some
returns-in-Some c = grind (arith, common_steps)
