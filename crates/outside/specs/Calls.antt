-- What one call of a source or of a sink may answer, and what the count of its faults does. The
-- largest count is 2^64-1, where it stands still.
-- Key laws: `Source::read` (`TakesWithin`, `CountsRead`) and `Sink::write` (`GivesWithin`,
-- `CountsWrite`).
use Rattle.std.specs.Prelude.{◌≡◌, ◌⊎◌, ℕ, ◌+◌, ◌<◌, ◌≤◌, min}
use Rattle.outside.specs.declared.source.Took.{Took}
use Rattle.outside.specs.declared.source.Took.TheVariants.{Got, End}
use Rattle.outside.specs.declared.source.Took.TheVariants as took
use Rattle.outside.specs.declared.sink.Gave.{Gave}
use Rattle.outside.specs.declared.sink.Gave.TheVariants.{Wrote}
use Rattle.outside.specs.declared.sink.Gave.TheVariants as gave

-- one more, up to the type's end
abbrev pub one_more : ℕ → ℕ
one_more count = min (count + 1) 18446744073709551615

-- the count of faults rose, or stands at its type's end
abbrev pub HasFaulted : ℕ → ℕ → Type 0
HasFaulted before now = (before < now) ⊎ (now ≡ 18446744073709551615)

-- how many bytes a read took
abbrev pub count_taken : Took → ℕ
count_taken (Got count) = count
count_taken End = 0
count_taken took.Failed = 0

-- a read that takes bytes takes at least one, and no more than there is room for
abbrev pub TakesWithin : Took → ℕ → Type 0
TakesWithin (Got count) room = (1 ≤ count) × (count ≤ room)
TakesWithin End room = Unit {0}
TakesWithin took.Failed room = Unit {0}

-- a read that fails raises the count of faults by one, and any other leaves the count as it was
abbrev pub CountsRead : Took → ℕ → ℕ → Type 0
CountsRead (Got count) before now = now ≡ before
CountsRead End before now = now ≡ before
CountsRead took.Failed before now =
    (before ≤ now) × HasFaulted before now × (now ≡ one_more before)

-- how many bytes a write gave away
abbrev pub count_given : Gave → ℕ
count_given (Wrote count) = count
count_given gave.Failed = 0

-- a write that gives bytes gives at least one, and no more than there are
abbrev pub GivesWithin : Gave → ℕ → Type 0
GivesWithin (Wrote count) length = (1 ≤ count) × (count ≤ length)
GivesWithin gave.Failed length = Unit {0}

-- a write that fails raises the count of faults by one, and any other leaves the count as it was
abbrev pub CountsWrite : Gave → ℕ → ℕ → Type 0
CountsWrite (Wrote count) before now = now ≡ before
CountsWrite gave.Failed before now =
    (before ≤ now) × HasFaulted before now × (now ≡ one_more before)
