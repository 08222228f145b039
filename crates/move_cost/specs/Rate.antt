-- The rate within which a subscriber writes: the weight of all that it writes by how far it goes,
-- and how many marks it purges by its moves.
-- Key laws: `lines_are_within_rate` (the lines of valid scripts, over every plan that bounds its
-- finds) and `network_lines_are_within_rate` (over the plan of every network); both rest on
-- `written_is_bounded` and `purged_is_bounded`.
use Rattle.std.specs.Prelude.{ℕ, ◌+◌, ◌*◌, ◌≤◌}
use Rattle.move_cost.specs.declared.line.CostLine.{CostLine}

-- how many times its way a subscriber writes at most
abbrev pub writing_rate : ℕ → ℕ → ℕ
writing_rate width count = (16 * width + 4) * count

-- with clusters of this width and so many levels, what is written is at most the rate times the
-- way, and no more is purged than moves are made
pub record IsWithinRate (width count : ℕ) (line : CostLine) : Type 0 where
  pub written : line.written ≤ writing_rate width count * line.moved
  pub purged : line.purged ≤ line.moves
