use Rattle.std.proofs.Common.{◌≡◌, ℕ, Bool, true, false, eqb, ◌||◌, inl, inr, ◌⊎◌, refl, arith}
use Rattle.std.proofs.lemmas.Bool.Decides.{nat_tests}
use Rattle.std.specs.Prelude.{codes, bytes_eq, drop}
use Rattle.worked_examples.specs.Grammar.{line_words}
use Rattle.worked_examples.proofs.Named.{first_or, none_left}
use Rattle.worked_examples.proofs.grammar.worked_bytes.Goals as goal

-- one of two numbers
one_of : (first : Bool) (b : ℕ) → eqb b 32 ≡ first → first || eqb b 9 ≡ true
    → (b ≡ 32) ⊎ (b ≡ 9)
one_of true b is e = inl (grind (arith, nat_tests))
one_of false b is e = inr (grind (arith, nat_tests))

pub returns-clause-blanks : goal.returns-clause-blanks
returns-clause-blanks c = λ b e. one_of (eqb b 32) b refl e

pub returns-clause-comments : goal.returns-clause-comments
returns-clause-comments c = λ b rest e. grind (arith, nat_tests)

pub returns-clause-words : goal.returns-clause-words
returns-clause-words c = λ field.
    (first_or field (codes "track") (drop 1 line_words) (bytes_eq field (codes "track")) _ _ refl
    (first_or field (codes "nodes") (drop 2 line_words) (bytes_eq field (codes "nodes")) _ _ refl
    (first_or field (codes "k") (drop 3 line_words) (bytes_eq field (codes "k")) _ _ refl
    (first_or field (codes "edge") (drop 4 line_words) (bytes_eq field (codes "edge")) _ _ refl
    (first_or field (codes "sub") (drop 5 line_words) (bytes_eq field (codes "sub")) _ _ refl
    (first_or field (codes "callers") (drop 6 line_words) (bytes_eq field (codes "callers")) _ _ refl
    (first_or field (codes "move") (drop 7 line_words) (bytes_eq field (codes "move")) _ _ refl
    (first_or field (codes "find") (drop 8 line_words) (bytes_eq field (codes "find")) _ _ refl
    (first_or field (codes "off") (drop 9 line_words) (bytes_eq field (codes "off")) _ _ refl
    (first_or field (codes "on") (drop 10 line_words) (bytes_eq field (codes "on")) _ _ refl
    (first_or field (codes "order") (drop 11 line_words) (bytes_eq field (codes "order")) _ _ refl
    (none_left field))))))))))))
