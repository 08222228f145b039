-- Numbers of few digits, read at once.
use Rattle.std.proofs.Common.{inl, inr, ◌≡◌, ◌≢◌, ℕ, ◌+◌, ◌-◌, ◌*◌, ◌<◌, ◌≤◌, true, false, cond, List, [], ◌∷◌, length, drop, get_or, Some, None, refl, ap, sym, ◌∙◌, arith}
use Rattle.std.proofs.lemmas.Bool.{cases_eq, eq-eqb, ne_eqb}
use Rattle.std.proofs.lemmas.Bool.Decides.{Decides-eqb, nat_tests}
use Rattle.std.specs.Char.{is_ascii_digit}
use Rattle.report_check.specs.Reading.{digits_from, digits_of, most, number_in, word_in}
use Rattle.report_check.proofs.Steps.{digits-more, digits-stop}

-- a digit is at most 9
low-digit : (b : ℕ) → is_ascii_digit b ≡ true → b ≤ 57
low-digit b e = grind (arith, nat_tests, e)

blank-in : (text : List ℕ) → number_in most (32 ∷ text) ≡ digits_of most text
unfolding word_in
blank-in text = refl

-- digits that begin with one that isn't 0
digits-some : (a : ℕ) (text : List ℕ) → is_ascii_digit a ≡ true → a ≢ 48
    → digits_of most (a ∷ text) ≡ digits_from most 0 (a ∷ text)
digits-some a text digit some = rw (ne_eqb a 48 some, digit) refl

-- one digit more that stays below the limit
more : (value : ℕ) (b : ℕ) (text : List ℕ) → value < 1000 → is_ascii_digit b ≡ true
    → digits_from most value (b ∷ text) ≡ digits_from most (10 * value + (b - 48)) text
more value b text low digit =
    digits-more most value (b ∷ text) (omega arith) digit (omega (arith, low, low-digit b digit))

stop : (value : ℕ) (b : ℕ) (text : List ℕ) → is_ascii_digit b ≡ false
    → digits_from most value (b ∷ text) ≡ Some (value, b ∷ text)
stop value b text other = digits-stop most value (b ∷ text) (omega arith) other

-- a single digit
digit-alone : (a b : ℕ) (text : List ℕ) → is_ascii_digit a ≡ true → is_ascii_digit b ≡ false
    → digits_of most (a ∷ b ∷ text) ≡ Some (a - 48, b ∷ text)
digit-alone a b text digit other = elim (cases_eq a 48) [
  | inl zero ↦ rw (eq-eqb a 48 zero, other) (ap (λ (n : ℕ). Some (n - 48, b ∷ text)) (sym zero))
  | inr some ↦
      let first : 10 * 0 + (a - 48) ≡ a - 48 = omega arith in
      rw (ne_eqb a 48 some, digit) (more 0 a (b ∷ text) (omega arith) digit
      ∙ stop (10 * 0 + (a - 48)) b text other ∙ ap (λ (n : ℕ). Some (n, b ∷ text)) first)
]

pub one-digit : (text : List ℕ) {n : ℕ} → 5 ≤ length text → get_or text 0 0 ≡ 32
    → is_ascii_digit (get_or text 1 0) ≡ true → is_ascii_digit (get_or text 2 0) ≡ false → n ≡ get_or text 1 0 - 48
    → number_in most text ≡ Some (n, drop 2 text)
one-digit [] some blank digit other is = absurd (omega (arith, some))
one-digit (x ∷ []) some blank digit other is = absurd (omega (arith, some))
one-digit (x ∷ a ∷ []) some blank digit other is = absurd (omega (arith, some))
one-digit (x ∷ a ∷ b ∷ text) some blank digit other is =
    ap (λ (y : ℕ). number_in most (y ∷ a ∷ b ∷ text)) blank ∙ blank-in (a ∷ b ∷ text)
    ∙ digit-alone a b text digit other ∙ ap (λ (m : ℕ). Some (m, b ∷ text)) (sym is)

pub two-digits : (text : List ℕ) {m n : ℕ} → 5 ≤ length text → get_or text 0 0 ≡ 32
    → is_ascii_digit (get_or text 1 0) ≡ true → is_ascii_digit (get_or text 2 0) ≡ true
    → is_ascii_digit (get_or text 3 0) ≡ false → get_or text 1 0 ≢ 48 → m ≡ get_or text 1 0 - 48
    → n ≡ get_or text 2 0 - 48 → number_in most text ≡ Some (10 * m + n, drop 3 text)
two-digits [] some blank first second other nonzero is next = absurd (omega (arith, some))
two-digits (x ∷ []) some blank first second other nonzero is next = absurd (omega (arith, some))
two-digits (x ∷ a ∷ []) some blank first second other nonzero is next = absurd (omega (arith, some))
two-digits (x ∷ a ∷ b ∷ []) some blank first second other nonzero is next = absurd (omega (arith, some))
two-digits (x ∷ a ∷ b ∷ c ∷ text) {m} some blank first second other nonzero is next =
    let one : 10 * 0 + (a - 48) ≡ m = omega (arith, is) in
    ap (λ (y : ℕ). number_in most (y ∷ a ∷ b ∷ c ∷ text)) blank ∙ blank-in (a ∷ b ∷ c ∷ text)
    ∙ digits-some a (b ∷ c ∷ text) first nonzero ∙ more 0 a (b ∷ c ∷ text) (omega arith) first
    ∙ ap (λ (v : ℕ). digits_from most v (b ∷ c ∷ text)) one
    ∙ more m b (c ∷ text) (omega (arith, is, low-digit a first)) second
    ∙ stop (10 * m + (b - 48)) c text other
    ∙ ap (λ (v : ℕ). Some (10 * m + v, c ∷ text)) (sym next)

pub three-digits : (text : List ℕ) {m n o : ℕ} → 5 ≤ length text → get_or text 0 0 ≡ 32
    → is_ascii_digit (get_or text 1 0) ≡ true → is_ascii_digit (get_or text 2 0) ≡ true
    → is_ascii_digit (get_or text 3 0) ≡ true → is_ascii_digit (get_or text 4 0) ≡ false → get_or text 1 0 ≢ 48
    → m ≡ get_or text 1 0 - 48 → n ≡ get_or text 2 0 - 48 → o ≡ get_or text 3 0 - 48
    → number_in most text ≡ Some (10 * (10 * m + n) + o, drop 4 text)
three-digits [] some blank first second third other nonzero is next last = absurd (omega (arith, some))
three-digits (x ∷ []) some blank first second third other nonzero is next last = absurd (omega (arith, some))
three-digits (x ∷ a ∷ []) some blank first second third other nonzero is next last = absurd (omega (arith, some))
three-digits (x ∷ a ∷ b ∷ []) some blank first second third other nonzero is next last =
    absurd (omega (arith, some))
three-digits (x ∷ a ∷ b ∷ c ∷ []) some blank first second third other nonzero is next last =
    absurd (omega (arith, some))
three-digits (x ∷ a ∷ b ∷ c ∷ d ∷ text) {m} {n} some blank first second third other nonzero is next last =
    let one : 10 * 0 + (a - 48) ≡ m = omega (arith, is) in
    let two : 10 * m + (b - 48) ≡ 10 * m + n = omega (arith, next) in
    ap (λ (y : ℕ). number_in most (y ∷ a ∷ b ∷ c ∷ d ∷ text)) blank ∙ blank-in (a ∷ b ∷ c ∷ d ∷ text)
    ∙ digits-some a (b ∷ c ∷ d ∷ text) first nonzero ∙ more 0 a (b ∷ c ∷ d ∷ text) (omega arith) first
    ∙ ap (λ (v : ℕ). digits_from most v (b ∷ c ∷ d ∷ text)) one
    ∙ more m b (c ∷ d ∷ text) (omega (arith, is, low-digit a first)) second
    ∙ ap (λ (v : ℕ). digits_from most v (c ∷ d ∷ text)) two
    ∙ more (10 * m + n) c (d ∷ text)
    (omega (arith, is, next, low-digit a first, low-digit b second)) third
    ∙ stop (10 * (10 * m + n) + (c - 48)) d text other
    ∙ ap (λ (v : ℕ). Some (10 * (10 * m + n) + v, d ∷ text)) (sym last)

-- ---- the line's end

pub feed-ended : (text : List ℕ) → length text < 1 → word_in (10 ∷ []) text ≡ None
unfolding word_in
feed-ended [] none = refl
feed-ended (b ∷ text) none = absurd (omega (arith, none))

pub feed-differs : (text : List ℕ) → 1 ≤ length text → get_or text 0 0 ≢ 10 → word_in (10 ∷ []) text ≡ None
unfolding word_in
feed-differs [] some other = absurd (omega (arith, some))
feed-differs (b ∷ text) some other = rw (ne_eqb 10 b (λ same. other (sym same))) refl

pub feed-goes : (text : List ℕ) → 1 ≤ length text → get_or text 0 0 ≡ 10
    → word_in (10 ∷ []) text ≡ Some (drop 1 text)
unfolding word_in
feed-goes [] some is = absurd (omega (arith, some))
feed-goes (b ∷ text) some is = ap (λ t. cond t (Some text) None) ((Decides-eqb 10 b).1 (sym is))
