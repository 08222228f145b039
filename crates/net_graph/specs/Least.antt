-- Numbers that may be missing.
-- Key law: `lower` leaves the lesser of a number that may be missing and another (`lesser_of`).
use Rattle.std.specs.Prelude.{ℕ, ◌≤◌, Option, None, Some, min}

-- there is a number, and it is at most this
abbrev pub IsAtMost : Option ℕ → ℕ → Type 0
IsAtMost None w = ⊥
IsAtMost (Some x) w = x ≤ w

-- the lesser of a number that may be missing and another
abbrev pub lesser_of : Option ℕ → ℕ → Option ℕ
lesser_of None w = Some w
lesser_of (Some x) w = Some (min x w)
