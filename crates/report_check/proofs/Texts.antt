-- What is read is the text that report_text writes of it.
use Rattle.std.proofs.lemmas.Option.{same_Some}
use Rattle.std.proofs.Common.{◌≡◌, ◌≢◌, ℕ, ◌+◌, ◌-◌, ◌*◌, ◌^◌, ◌<◌, ◌≤◌, ◌&&◌, Bool, true, false, cond, eqb, ltb, List, [], ◌∷◌, ◌++◌, Option, Some, None, refl, ap, sym, ◌∙◌, arith, subst, codes}
use Rattle.std.proofs.lemmas.Bool.Decides.{nat_tests}
use Rattle.std.proofs.lemmas.Fmt.{decimal-digits_value, decimal_digit}
use Rattle.std.specs.Char.{is_ascii_digit}
use Rattle.std.specs.Fmt.{decimal}
use Rattle.std.specs.List.{list_all}
use Rattle.outside.specs.Texts.{field}
use Rattle.report_check.proofs.ReadBack.{read_on, reads_numerals}
use Rattle.report_check.specs.Reading.{◌>>=◌, digits_from, digits_in, digits_of, number_in, starts_with_digit, word_in}

pub bind-elim : {A B P : Type 0} (o : Option A) (f : A → Option B) {y : B} → (o >>= f) ≡ Some y
    → ((x : A) → o ≡ Some x → f x ≡ Some y → P) → P
bind-elim None f {y} e go = let bad : None ≡ Some y = e in cc
bind-elim (Some x) f e go = go x refl e

same-byte : (w b : ℕ) (ws : List ℕ) {text rest : List ℕ} (t : Bool) → eqb w b ≡ t
    → cond t (word_in ws text) None ≡ Some rest → (word_in ws text ≡ Some rest → text ≡ ws ++ rest)
    → b ∷ text ≡ (w ∷ ws) ++ rest
same-byte w b ws {text} true is e go =
    let same : b ≡ w = grind (arith, nat_tests) in
    ap (λ c. c ∷ text) same ∙ ap (λ (xs : List ℕ). w ∷ xs) (go e)
same-byte w b ws {rest} false is e go = let bad : None ≡ Some rest = e in cc

-- a word is read where it stands
pub word-text : (ws text : List ℕ) {rest : List ℕ} → word_in ws text ≡ Some rest → text ≡ ws ++ rest
unfolding word_in
word-text [] text {rest} e = let same : Some text ≡ Some rest = e in cc
word-text (w ∷ ws) [] {rest} e = let bad : None ≡ Some rest = e in cc
word-text (w ∷ ws) (b ∷ text) e = same-byte w b ws (eqb w b) refl e (word-text ws text)

-- digits that were read
record IsRun (limit value : ℕ) (text : List ℕ) (n : ℕ) (rest : List ℕ) : Type 0 where
  ds : List ℕ
  parts : text ≡ ds ++ rest
  digits : list_all is_ascii_digit ds ≡ true
  number : n ≡ read_on value ds
  low : value < limit → n < limit
  stop : starts_with_digit rest ≡ false

none-read : (value n : ℕ) (text rest : List ℕ)
    → ◌≡◌ {A = Option (ℕ × List ℕ)} (Some (value, text)) (Some (n, rest)) → (value ≡ n) × (text ≡ rest)
none-read value n text rest e =
    let same : (value, text) ≡ (n, rest) = same_Some (value, text) (n, rest) e in
    (ap (λ (p : ℕ × List ℕ). p.0) same, ap (λ (p : ℕ × List ℕ). p.1) same)

run-step : {limit : ℕ} (value b : ℕ) {n : ℕ} {text rest : List ℕ} (t u : Bool) → is_ascii_digit b ≡ t
    → ltb (10 * value + (b - 48)) limit ≡ u
    → ◌≡◌ {A = Option (ℕ × List ℕ)}
    (cond {A = Option (ℕ × List ℕ)} t (cond u (digits_from limit (10 * value + (b - 48)) text) None)
    (Some (value, b ∷ text))) (Some (n, rest)) → (digits_from limit (10 * value + (b - 48)) text ≡ Some (n, rest)
    → IsRun limit (10 * value + (b - 48)) text n rest) → IsRun limit value (b ∷ text) n rest
run-step {limit} value b true true digit small e go =
    let run = go e in
    let below : 10 * value + (b - 48) < limit = grind (arith, nat_tests) in record {
      ds = b ∷ run.ds;
      parts = ap (λ (xs : List ℕ). b ∷ xs) run.parts;
      digits = ap (λ c. c && list_all is_ascii_digit run.ds) digit ∙ run.digits;
      number = run.number;
      low = λ h. run.low below;
      stop = run.stop;
    }
run-step value b {n} {rest} true false digit small e go = let bad : None ≡ Some (n, rest) = e in cc
run-step {limit} value b {n} {text} {rest} false u digit small e go =
    let both : (value ≡ n) × (b ∷ text ≡ rest) = none-read value n (b ∷ text) rest e in record {
      ds = [];
      parts = both.1;
      digits = refl;
      number = sym both.0;
      low = λ h. rw both.0 at h;
      stop = sym (ap starts_with_digit both.1) ∙ digit;
    }

digits-run : (limit value : ℕ) (text : List ℕ) (n : ℕ) (rest : List ℕ)
    → digits_from limit value text ≡ Some (n, rest) → IsRun limit value text n rest
unfolding digits_from
digits-run limit value [] n rest e =
    let both : (value ≡ n) × ([] ≡ rest) = none-read value n [] rest e in record {
      ds = [];
      parts = both.1;
      digits = refl;
      number = sym both.0;
      low = λ h. rw both.0 at h;
      stop = sym (ap starts_with_digit both.1);
    }
digits-run limit value (b ∷ text) n rest e =
    run-step value b (is_ascii_digit b) (ltb (10 * value + (b - 48)) limit) refl refl e
    (digits-run limit (10 * value + (b - 48)) text n rest)

first-digit : (limit b n : ℕ) (text rest : List ℕ) (u : Bool) → limit ≤ 2 ^ 63 → b ≢ 48 → is_ascii_digit b ≡ true
    → ltb (10 * 0 + (b - 48)) limit ≡ u
    → cond u (digits_from limit (10 * 0 + (b - 48)) text) None ≡ Some (n, rest) → b ∷ text ≡ decimal n ++ rest
first-digit limit b n text rest true high other digit small e =
    let run : IsRun limit (10 * 0 + (b - 48)) text n rest = digits-run limit (10 * 0 + (b - 48)) text n rest e in
    let below : 10 * 0 + (b - 48) < limit = grind (arith, nat_tests) in
    let value : n ≡ read_on 0 (b ∷ run.ds) = run.number in
    let all : list_all is_ascii_digit (b ∷ run.ds) ≡ true =
    ap (λ c. c && list_all is_ascii_digit run.ds) digit ∙ run.digits in
    let low : read_on 0 (b ∷ run.ds) < 2 ^ 64 = omega (arith, run.low below, high, value) in
    let written : decimal (read_on 0 (b ∷ run.ds)) ≡ b ∷ run.ds =
    decimal-digits_value reads_numerals (b ∷ run.ds) all (omega arith) (λ zero. absurd (other zero)) low in
    ap (λ (xs : List ℕ). b ∷ xs) run.parts
    ∙ ap (λ (xs : List ℕ). xs ++ rest) (sym written ∙ ap decimal (sym value))
first-digit limit b n text rest false high other digit small e = let bad : None ≡ Some (n, rest) = e in cc

zero-read : (n : ℕ) (text rest : List ℕ) (t : Bool)
    → ◌≡◌ {A = Option (ℕ × List ℕ)} (cond {A = Option (ℕ × List ℕ)} t None (Some (0, text))) (Some (n, rest))
    → 48 ∷ text ≡ decimal n ++ rest
zero-read n text rest true e = let bad : None ≡ Some (n, rest) = e in cc
zero-read n text rest false e =
    let both : (0 ≡ n) × (text ≡ rest) = none-read 0 n text rest e in
    ap (λ (xs : List ℕ). 48 ∷ xs) both.1
    ∙ ap (λ (xs : List ℕ). xs ++ rest) (sym (decimal_digit 0 (omega arith)) ∙ ap decimal both.0)

digit-cases : (limit b n : ℕ) (text rest : List ℕ) (z t : Bool) → limit ≤ 2 ^ 63 → eqb b 48 ≡ z → is_ascii_digit b ≡ t
    → ◌≡◌ {A = Option (ℕ × List ℕ)}
    (cond {A = Option (ℕ × List ℕ)} z (cond {A = Option (ℕ × List ℕ)} (starts_with_digit text) None (Some (0, text)))
    (cond {A = Option (ℕ × List ℕ)} t
    (cond {A = Option (ℕ × List ℕ)} t
    (cond (ltb (10 * 0 + (b - 48)) limit) (digits_from limit (10 * 0 + (b - 48)) text) None)
    (Some (0, b ∷ text))) None))
    (Some (n, rest))
    → b ∷ text ≡ decimal n ++ rest
digit-cases limit b n text rest true t high zero digit e =
    let same : b ≡ 48 = grind (arith, nat_tests) in
    ap (λ c. c ∷ text) same ∙ zero-read n text rest (starts_with_digit text) e
digit-cases limit b n text rest false true high zero digit e =
    first-digit limit b n text rest (ltb (10 * 0 + (b - 48)) limit) high
    (λ same. let yes : eqb b 48 ≡ true = grind (arith, nat_tests) in cc) digit refl e
digit-cases limit b n text rest false false high zero digit e = let bad : None ≡ Some (n, rest) = e in cc

digits-of : (limit n : ℕ) (text rest : List ℕ) → limit ≤ 2 ^ 63 → digits_of limit text ≡ Some (n, rest)
    → text ≡ decimal n ++ rest
unfolding digits_from
digits-of limit n [] rest high e = let bad : None ≡ Some (n, rest) = e in cc
digits-of limit n (b ∷ text) rest high e =
    digit-cases limit b n text rest (eqb b 48) (is_ascii_digit b) high refl refl e

digits-read : (limit n : ℕ) (text rest : List ℕ) (t : Bool) → limit ≤ 2 ^ 63
    → cond t (digits_of limit text) None ≡ Some (n, rest) → text ≡ decimal n ++ rest
digits-read limit n text rest true high e = digits-of limit n text rest high e
digits-read limit n text rest false high e = let bad : None ≡ Some (n, rest) = e in cc

-- a number is read where it stands behind a blank
pub number-text : (limit n : ℕ) (text rest : List ℕ) → limit ≤ 2 ^ 63 → number_in limit text ≡ Some (n, rest)
    → text ≡ field n ++ rest
number-text limit n text rest high e = bind-elim (word_in (codes " ") text) (digits_in limit) e
    (λ mid em nm. word-text (codes " ") text em
    ∙ ap (λ (xs : List ℕ). 32 ∷ xs) (digits-read limit n mid rest (ltb 0 limit) high nm))

-- a number that is read is below its limit
first-low : (limit b n : ℕ) (text rest : List ℕ) (z t : Bool) → 0 < limit
    → ◌≡◌ {A = Option (ℕ × List ℕ)}
    (cond {A = Option (ℕ × List ℕ)} z (cond {A = Option (ℕ × List ℕ)} (starts_with_digit text) None (Some (0, text)))
    (cond {A = Option (ℕ × List ℕ)} t (digits_from limit 0 (b ∷ text)) None))
    (Some (n, rest))
    → n < limit
first-low limit b n text rest true t some e = at_zero (starts_with_digit text) e
  where
    at_zero : (s : Bool)
        → ◌≡◌ {A = Option (ℕ × List ℕ)} (cond {A = Option (ℕ × List ℕ)} s None (Some (0, text))) (Some (n, rest))
        → n < limit
    at_zero true e = let bad : None ≡ Some (n, rest) = e in cc
    at_zero false e = subst (λ k. k < limit) (none-read 0 n text rest e).0 some
first-low limit b n text rest false true some e = (digits-run limit 0 (b ∷ text) n rest e).low some
first-low limit b n text rest false false some e = let bad : None ≡ Some (n, rest) = e in cc

digits-low : (limit n : ℕ) (text rest : List ℕ) (t : Bool) → ltb 0 limit ≡ t
    → cond t (digits_of limit text) None ≡ Some (n, rest) → n < limit
digits-low limit n [] rest true is e = let bad : None ≡ Some (n, rest) = e in cc
digits-low limit n (b ∷ text) rest true is e =
    first-low limit b n text rest (eqb b 48) (is_ascii_digit b)
    (let some : 0 < limit = grind (arith, nat_tests) in some) e
digits-low limit n text rest false is e = let bad : None ≡ Some (n, rest) = e in cc

pub number-low : (limit n : ℕ) (text rest : List ℕ) → number_in limit text ≡ Some (n, rest) → n < limit
number-low limit n text rest e = bind-elim (word_in (codes " ") text) (digits_in limit) e
    (λ mid em nm. digits-low limit n mid rest (ltb 0 limit) refl nm)

-- no digit stands behind a number that is read
first-stops : (limit b n : ℕ) (text rest : List ℕ) (z t : Bool)
    → ◌≡◌ {A = Option (ℕ × List ℕ)}
    (cond {A = Option (ℕ × List ℕ)} z (cond {A = Option (ℕ × List ℕ)} (starts_with_digit text) None (Some (0, text)))
    (cond {A = Option (ℕ × List ℕ)} t (digits_from limit 0 (b ∷ text)) None))
    (Some (n, rest))
    → starts_with_digit rest ≡ false
first-stops limit b n text rest true t e = at_zero (starts_with_digit text) refl e
  where
    at_zero : (s : Bool) → starts_with_digit text ≡ s
        → ◌≡◌ {A = Option (ℕ × List ℕ)} (cond {A = Option (ℕ × List ℕ)} s None (Some (0, text))) (Some (n, rest))
        → starts_with_digit rest ≡ false
    at_zero true is e = let bad : None ≡ Some (n, rest) = e in cc
    at_zero false is e = sym (ap starts_with_digit (none-read 0 n text rest e).1) ∙ is
first-stops limit b n text rest false true e = (digits-run limit 0 (b ∷ text) n rest e).stop
first-stops limit b n text rest false false e = let bad : None ≡ Some (n, rest) = e in cc

digits-stop : (limit n : ℕ) (text rest : List ℕ) (t : Bool) → cond t (digits_of limit text) None ≡ Some (n, rest)
    → starts_with_digit rest ≡ false
digits-stop limit n [] rest true e = let bad : None ≡ Some (n, rest) = e in cc
digits-stop limit n (b ∷ text) rest true e = first-stops limit b n text rest (eqb b 48) (is_ascii_digit b) e
digits-stop limit n text rest false e = let bad : None ≡ Some (n, rest) = e in cc

pub number-stops : (limit n : ℕ) (text rest : List ℕ) → number_in limit text ≡ Some (n, rest)
    → starts_with_digit rest ≡ false
number-stops limit n text rest e = bind-elim (word_in (codes " ") text) (digits_in limit) e
    (λ mid em nm. digits-stop limit n mid rest (ltb 0 limit) nm)
