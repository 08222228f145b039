-- How many nodes hold a Gone above a number: the measure by which a chase ends.
use Rattle.std.proofs.Common.{◌≡◌, ℕ, zero, suc, ◌+◌, ◌<◌, ◌≤◌, Bool, true, false, length, ap, ◌∙◌, arith}
use Rattle.std.specs.Prelude.{nat_lt}
use Rattle.std.proofs.lemmas.Bool.Decides.{nat_tests}
use Rattle.node_set.specs.Ascending.{sift}
use Rattle.entry_word.specs.declared.mark.PresenceMark.{PresenceMark}
use Rattle.entry_word.specs.declared.mark.PresenceMark.TheVariants.{Gone}
use Rattle.directory.specs.Settings.{Setting}
use Rattle.node_set.specs.SetLaws.{length-passing_all}

-- ---- how many pass a test
pub passing-fewer : (f g : ℕ → Bool) (v k : ℕ) → ((x : ℕ) → f x ≡ true → g x ≡ true)
    → length (sift f v k) ≤ length (sift g v k)
passing-fewer f g v zero h = omega arith
passing-fewer f g v (suc k) h = grind (arith, passing-fewer f g (suc v) k h)

pub passing-less : (f g : ℕ → Bool) (x v k : ℕ) → v ≤ x → x < v + k → ((y : ℕ) → f y ≡ true → g y ≡ true)
    → f x ≡ false → g x ≡ true → length (sift f v k) < length (sift g v k)
passing-less f g x v zero low high h out within = absurd (omega arith)
passing-less f g x v (suc k) low high h out within =
    grind (arith, nat_tests, passing-fewer f g (suc v) k h, passing-less f g x (suc v) k)

pub some-out : (test : ℕ → Bool) (x n : ℕ) → x < n → test x ≡ false → suc (length (sift test 0 n)) ≤ n
some-out test x n low out =
    grind (arith, passing-less test (λ y. true) x 0 n, length-passing_all 0 n)

-- ---- how many nodes hold a Gone above a number
abbrev pub gone_above : ℕ → PresenceMark → Bool
gone_above number (Gone q to) = nat_lt number q
gone_above number mark = false

abbrev pub above : Setting → (ℕ → PresenceMark) → ℕ → ℕ
above setting marks number = length (sift (λ v. gone_above number (marks v)) 0 setting.nodes)

gone_above-less : (p q : ℕ) (mark : PresenceMark) → q ≤ p → gone_above p mark ≡ true → gone_above q mark ≡ true
gone_above-less p q mark h e = grind arith

-- a node with a Gone counts for less than its number
pub above-less : (setting : Setting) (marks : ℕ → PresenceMark) (v p q to : ℕ) → v < setting.nodes
    → marks v ≡ Gone p to → q < p → above setting marks p < above setting marks q
above-less setting marks v p q to low mark less =
    passing-less (λ x. gone_above p (marks x)) (λ x. gone_above q (marks x)) v 0 setting.nodes (omega arith)
    (omega arith)
    (λ x e. gone_above-less p q (marks x) (omega arith) e)
    (ap (gone_above p) mark ∙ (let e : nat_lt p p ≡ false = grind (arith, nat_tests) in e))
    (ap (gone_above q) mark ∙ (let e : nat_lt q p ≡ true = grind (arith, nat_tests, less) in e))
