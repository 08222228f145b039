-- The own stretches of a setting, as numbers: how many times its distance a find may weigh while
-- its subscriber stays where it is, and how many times that, or the greatest threshold that moves
-- reach, any find may. Both are told by what finds from each node pay up to each level
-- (`cost_up_to` of busy_finds), which may be far less than the stretch of all settings says.
-- Key laws: `own_stretches_are_least` (no lesser numbers bound what is paid); over plans,
-- `plan_finds_keep_own_stretch`.
use Rattle.std.specs.Prelude.{ℕ, zero, suc, ◌+◌, ◌/◌, ◌%◌, ◌≤◌, ◌==◌, if◌then◌else◌, max, min}
use Rattle.directory.specs.Settings.{levels, Setting}
use Rattle.stretch_laws.specs.Tracking.{IsTracking}
use Rattle.busy_finds.specs.Levels.{cost_up_to, IsAnyStretch, IsOwnStretch, level_for}

-- the greatest value at the numbers below a count, and 0 where there are none
abbrev pub greatest_below : (ℕ → ℕ) → ℕ → ℕ
greatest_below value zero = 0
greatest_below value (suc count) = max (greatest_below value count) (value count)

-- how many units reach a weight: one more where a part of a unit is left
abbrev pub units_of : ℕ → ℕ → ℕ
units_of weight unit = weight / unit + min 1 (weight % unit)

-- how many times its distance a find from one node to another may weigh, and 0 for one from there
abbrev pub stretch_between : Setting → ℕ → ℕ → ℕ
stretch_between setting from to =
    if from == to then 0
    else units_of (cost_up_to setting from (level_for setting (setting.distance from to))
    + setting.distance from to)
    (setting.distance from to)

-- from any node to any other
abbrev pub own_stretch_of : Setting → ℕ
own_stretch_of setting =
    greatest_below (λ from. greatest_below (stretch_between setting from) setting.nodes)
    setting.nodes

-- how many times a level's threshold a find from a node may weigh, beside what the moves within
-- weigh, where they renew no level above: it then pays up to the next level, if there is one
abbrev pub stretch_past : Setting → ℕ → ℕ → ℕ
stretch_past setting from level =
    units_of (cost_up_to setting from (min (suc level) setting.top)) (setting.threshold level) + 1

-- from any node, past any level, and with no move within
abbrev pub any_stretch_of : Setting → ℕ
any_stretch_of setting =
    max (own_stretch_of setting)
    (greatest_below (λ from. greatest_below (stretch_past setting from) (levels setting))
    setting.nodes)

-- the least number of which something holds
pub record IsLeast (holds_of : ℕ → Type 0) (number : ℕ) : Type 0 where
  pub holds : holds_of number
  pub least : (other : ℕ) → holds_of other → number ≤ other

-- they are the least numbers that bound what finds pay (`own_stretches_are_least`)
abbrev pub OwnStretchesAreLeast : Type 0
OwnStretchesAreLeast =
    (setting : Setting) (width most_readers : ℕ) → IsTracking setting width most_readers
    → IsLeast (IsOwnStretch setting) (own_stretch_of setting)
    × IsLeast (IsAnyStretch setting) (any_stretch_of setting)
