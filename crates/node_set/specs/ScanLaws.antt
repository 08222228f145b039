-- Laws of the next number of a set, for proofs: the numbers so far, one after another.
-- Key laws: `next_taken` (the next number is the only one more), `none_left` (where there is no
-- next number, all are taken).
use Rattle.std.proofs.Common.{◌≡◌, inl, inr, ℕ, zero, suc, ◌+◌, ◌-◌, ◌<◌, ◌≤◌, Bool, false, List, [], ◌∷◌, ◌++◌, sym, ◌∙◌, ap, arith}
use Rattle.std.proofs.lemmas.Bool.{cases_lt}
use Rattle.node_set.specs.Ascending.{has, IsAscending, sift}
use Rattle.node_set.specs.Scan.{IsNext, IsNoneFrom}
use Rattle.node_set.specs.SetLaws.{has-passing, passing_over, ascending-passing, passing_takes, passing_skips, same_members}

-- no number of a range passes
pub none_between : (test : ℕ → Bool) (from gap : ℕ)
    → ((x : ℕ) → from ≤ x → x < from + gap → test x ≡ false)
    → sift test 0 (from + gap) ≡ sift test 0 from
none_between test from zero none = let same : from + 0 ≡ from = omega arith in ap (sift test 0) same
none_between test from (suc gap) none =
    let next : from + suc gap ≡ from + gap + 1 = omega arith in
    ap (sift test 0) next
    ∙ passing_skips test (from + gap) (none (from + gap) (omega arith) (omega arith))
    ∙ none_between test from gap (λ x low high. none x low (omega arith))

-- the numbers up to the next one, with it
pub next_taken : (members : List ℕ) (from v : ℕ) → IsNext members from v
    → sift (λ x. has x members) 0 (v + 1) ≡ sift (λ x. has x members) 0 from ++ v ∷ []
next_taken members from v next =
    let gap : from + (v - from) ≡ v = omega (arith, next.reached) in
    passing_takes (λ x. has x members) v next.member
    ∙ ap (λ l. l ++ v ∷ []) (ap (sift (λ x. has x members) 0) (sym gap)
    ∙ none_between (λ x. has x members) from (v - from)
    (λ x low high. next.first x low (omega (arith, gap))))

-- and where there is no next one, these are all
pub none_left : (members : List ℕ) (from : ℕ) → IsAscending members → IsNoneFrom members from
    → sift (λ x. has x members) 0 from ≡ members
none_left members from ascending none =
    same_members (sift (λ x. has x members) 0 from) members
    (ascending-passing (λ x. has x members) 0 from) ascending
    (λ x. elim (cases_lt x from) [
      | inl below ↦ has-passing (λ y. has y members) x 0 from (omega arith) (omega arith)
      | inr past ↦ passing_over (λ y. has y members) x 0 from (omega arith) ∙ sym (none x past)
    ])
