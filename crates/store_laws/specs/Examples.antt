-- Visits of two subscribers and a caller, over which examples are computed. Key laws:
-- `example_repeats`, `example_told_looks`.
use Rattle.std.specs.Prelude.{ℕ}
use Rattle.entry_word.specs.declared.visit.Key.TheVariants.{Presence}
use Rattle.entry_word.specs.declared.visit.Act.TheVariants.{Put}
use Rattle.entry_word.specs.declared.visit.Visit.{Visit}

-- a subscriber puts a word into its presence at a node
abbrev pub puts_at : ℕ → ℕ → ℕ → Visit
puts_at sub node word = record { actor = sub; act = Put (Presence node sub) word }
