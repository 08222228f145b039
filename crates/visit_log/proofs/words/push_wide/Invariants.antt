use Rattle.std.proofs.Common.{◌≡◌, ◌++◌, map, take}
use Rattle.std.specs.Prelude.{vec_capacity}
use Rattle.visit_log.specs.Words.{word_of_narrow}
use Rattle.visit_log.proofs.words.push_wide.Given as goal

abbrev pub invariant-loop-word : goal.invariant-loop-word
invariant-loop-word l =
    (l.wide.items ≡ l.fn.wide.items ++ map word_of_narrow (take l.word-index l.narrow))
    × (vec_capacity l.wide ≡ vec_capacity l.fn.wide)
