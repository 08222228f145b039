use Rattle.std.proofs.Common.{◌≡◌, ℕ, List, [], ◌∷◌, length, set, arith}
use Rattle.std.proofs.lemmas.List.{append-nil, map-set}
use Rattle.visit_log.specs.Words.{word_of_narrow, words_of}
use Rattle.visit_log.proofs.words.Words.set.Goals as goal

-- a put in 32 bits, where all are in 32 bits
set-narrow : (narrow wide : List ℕ) (i n : ℕ) {word : ℕ} → length wide ≡ 0 → word_of_narrow n ≡ word
    → words_of (set narrow i n) wide ≡ set (words_of narrow wide) i word
set-narrow narrow [] i n {word} none means = grind (arith, append-nil, map-set)
set-narrow narrow (one ∷ wide) i n none means = cc

pub returns-then-is_empty : goal.returns-then-is_empty
returns-then-is_empty c = grind (arith, set-narrow)
