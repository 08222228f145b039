-- Which lines cut a text, by what the code tests.
use Rattle.std.proofs.Common.{◌≡◌, ◌≢◌, ℕ, suc, ◌+◌, ◌-◌, ◌<◌, ◌≤◌, Bool, true, false, cond, eqb, List, [], ◌∷◌, ◌++◌, length, take, drop, get_or, Option, Some, None, refl, ap, sym, subst, ◌∙◌, arith, true≢false}
use Rattle.std.specs.Option.{is_some}
use Rattle.std.specs.Prelude.{◌==◌, IfNone, IfSome, codes}
use Rattle.std.specs.Str.{bytes_eq}
use Rattle.std.proofs.lemmas.Bool.Decides.{Decides-eqb, nat_tests}
use Rattle.std.proofs.lemmas.List.{take_all, take_more}
use Rattle.std.proofs.lemmas.Slice.Eq.{bytes_eq-Decides}
use Rattle.net_reader.specs.TextLines.{fields_from, is_blank, without_return}
use Rattle.report_check.specs.Cuts.{behind_blanks, is_cut, is_report_alone}
use Rattle.report_check.specs.Reading.{word_in}
use Rattle.net_reader.specs.LineLaws.{without_return-behind}

-- ---- the only field of a line

pub other-test : (b c : ℕ) → b ≢ c → eqb b c ≡ false
other-test b c other = at (eqb b c) refl
  where
    at : (same : Bool) → eqb b c ≡ same → same ≡ false
    at true s = absurd (other ((Decides-eqb b c).0 s))
    at false s = refl

abbrev pub is_nil : {A : Type 0} → List A → Bool
is_nil [] = true
is_nil (x ∷ xs) = false

-- whether one text begins with another
abbrev begins : List ℕ → List ℕ → Bool
begins [] text = true
begins (b ∷ front) [] = false
begins (b ∷ front) (c ∷ text) = cond (eqb b c) (begins front text) false

begins-itself : (text : List ℕ) → begins text text ≡ true
begins-itself [] = refl
begins-itself (b ∷ text) =
    ap (λ t. cond t (begins text text) false) ((Decides-eqb b b).1 refl) ∙ begins-itself text

more-at : (same : Bool) {one other : Bool} (b c : ℕ) → eqb b c ≡ same → (one ≡ false → other ≡ false)
    → cond (eqb b c) one false ≡ false → cond (eqb b c) other false ≡ false
more-at true {one} {other} b c s later e =
    ap (λ t. cond t other false) s ∙ later (sym (ap (λ t. cond t one false) s) ∙ e)
more-at false {other} b c s later e = ap (λ t. cond t other false) s

-- what isn't begun with isn't so with more bytes
begins-more : (front more text : List ℕ) → begins front text ≡ false → begins (front ++ more) text ≡ false
begins-more [] more text e = cc
begins-more (b ∷ front) more [] e = refl
begins-more (b ∷ front) more (c ∷ text) e =
    more-at (eqb b c) b c refl (λ h. begins-more front more text h) e

-- a word that the text doesn't begin with isn't the text
not-word : (front text : List ℕ) → begins front text ≡ false → bytes_eq front text ≡ false
not-word front text e = at (bytes_eq front text) refl
  where
    at : (same : Bool) → bytes_eq front text ≡ same → same ≡ false
    at true s =
        let is : front ≡ text = (bytes_eq-Decides front text).0 s in
        sym (subst (λ (t : List ℕ). begins front t ≡ true) is (begins-itself front)) ∙ e
    at false s = refl

not-alone : (field : List ℕ) (fields : List (List ℕ)) → bytes_eq field (codes "report") ≡ false
    → is_report_alone (field ∷ fields) ≡ false
not-alone field [] e = e
not-alone field (other ∷ fields) e = refl

-- what holds in both cases of a test
by-test : {A : Type 0} (test : Bool) (P : A → Type 0) {x y : A} → (test ≡ true → P x) → (test ≡ false → P y)
    → P (cond test x y)
by-test true P holds fails = holds refl
by-test false P holds fails = fails refl

-- a first field that `report` doesn't begin with
off-word : (b : ℕ) (field text : List ℕ) → begins (b ∷ field) (codes "report") ≡ false
    → is_report_alone (fields_from (b ∷ field) text) ≡ false
off-word b field [] e = not-word (b ∷ field) (codes "report") e
off-word b field (c ∷ text) e =
    by-test (is_blank c) (λ (fs : List (List ℕ)). is_report_alone fs ≡ false)
    (λ s. not-alone (b ∷ field) (fields_from [] text) (not-word (b ∷ field) (codes "report") e))
    (λ s. off-word b (field ++ c ∷ []) text (begins-more (b ∷ field) (c ∷ []) (codes "report") e))

-- no field but this one, where only blanks are behind it
abbrev pub rest_alone : Option (List ℕ) → Bool
rest_alone None = false
rest_alone (Some rest) = is_nil (behind_blanks rest)

some-field : (b : ℕ) (field text : List ℕ) → is_nil (fields_from (b ∷ field) text) ≡ false
some-field b field [] = refl
some-field b field (c ∷ text) =
    by-test (is_blank c) (λ (fs : List (List ℕ)). is_nil fs ≡ false) (λ s. refl)
    (λ s. some-field b (field ++ c ∷ []) text)

-- the same of two tests that are one
by-same : {A B : Type 0} (test : Bool) (P : A → B → Type 0) {x y : A} {v w : B} → (test ≡ true → P x v)
    → (test ≡ false → P y w) → P (cond test x y) (cond test v w)
by-same true P holds fails = holds refl
by-same false P holds fails = fails refl

no-field : (text : List ℕ) → is_nil (fields_from [] text) ≡ is_nil (behind_blanks text)
unfolding behind_blanks
no-field [] = refl
no-field (c ∷ text) =
    by-same (is_blank c) (λ (fs : List (List ℕ)) (t : List ℕ). is_nil fs ≡ is_nil t) (λ s. no-field text)
    (λ s. some-field c [] text)

-- behind the whole word
whole-alone : (fields : List (List ℕ)) → is_report_alone (codes "report" ∷ fields) ≡ is_nil fields
whole-alone [] = refl
whole-alone (field ∷ fields) = refl

word-whole : (text : List ℕ) → is_report_alone (fields_from (codes "report") text) ≡ rest_alone (Some text)
unfolding behind_blanks
word-whole [] = refl
word-whole (c ∷ text) =
    by-same (is_blank c) (λ (fs : List (List ℕ)) (t : List ℕ). is_report_alone fs ≡ is_nil t)
    (λ s. whole-alone (fields_from [] text) ∙ no-field text)
    (λ s. off-word 114 (101 ∷ 112 ∷ 111 ∷ 114 ∷ 116 ∷ c ∷ []) text refl)

-- a blank isn't a byte of the word
blank-other : (w c : ℕ) (ws text : List ℕ) → is_blank w ≡ false → is_blank c ≡ true
    → rest_alone (cond (eqb w c) (word_in ws text) None) ≡ false
blank-other w c ws text plain blank =
    by-test (eqb w c) (λ (o : Option (List ℕ)). rest_alone o ≡ false) (λ e.
    let is : w ≡ c = (Decides-eqb w c).0 e in
    let wrong : is_blank c ≡ false = rw is at plain in
    absurd (true≢false (sym blank ∙ wrong))) (λ e. refl)

-- a byte of the word more
word-more : (b : ℕ) (field : List ℕ) (w : ℕ) (ws : List ℕ)
    → bytes_eq (b ∷ field) (codes "report") ≡ false
    → ((c : ℕ) → eqb w c ≡ false → begins (b ∷ field ++ c ∷ []) (codes "report") ≡ false)
    → is_blank w ≡ false
    → ((text : List ℕ) → is_report_alone (fields_from (b ∷ field ++ w ∷ []) text) ≡ rest_alone (word_in ws text))
    → (text : List ℕ) → is_report_alone (fields_from (b ∷ field) text) ≡ rest_alone (word_in (w ∷ ws) text)
unfolding word_in
word-more b field w ws short off plain next [] = short
word-more b field w ws short off plain next (c ∷ text) =
    by-test (is_blank c) (λ (fs : List (List ℕ)). is_report_alone fs ≡ rest_alone
    (cond (eqb w c) (word_in ws text) None)) (λ s. not-alone (b ∷ field) (fields_from [] text) short
    ∙ sym (blank-other w c ws text plain s)) (λ s. by-test (eqb w c)
    (λ (o : Option (List ℕ)). is_report_alone (fields_from (b ∷ field ++ c ∷ []) text) ≡ rest_alone o)
    (λ e. rw ((Decides-eqb w c).0 e) at (next text)) (λ e. off-word b (field ++ c ∷ []) text (off c e)))

-- which byte doesn't go on with the word
other-byte : (w c : ℕ) (later : Bool) → eqb w c ≡ false → cond (eqb c w) later false ≡ false
other-byte w c later e =
    by-test (eqb c w) (λ (t : Bool). t ≡ false) (λ s. absurd
    (true≢false (sym ((Decides-eqb w c).1 (sym ((Decides-eqb c w).0 s))) ∙ e))) (λ s. refl)

from-repor : (text : List ℕ) → is_report_alone (fields_from (codes "repor") text)
    ≡ rest_alone (word_in (codes "t") text)
unfolding word_in
from-repor = word-more 114 (101 ∷ 112 ∷ 111 ∷ 114 ∷ []) 116 [] refl (λ c e. other-byte 116 c true e) refl word-whole

from-repo : (text : List ℕ) → is_report_alone (fields_from (codes "repo") text) ≡ rest_alone (word_in (codes "rt") text)
from-repo = word-more 114 (101 ∷ 112 ∷ 111 ∷ []) 114 (codes "t") refl (λ c e. other-byte 114 c true e) refl from-repor

from-rep : (text : List ℕ) → is_report_alone (fields_from (codes "rep") text) ≡ rest_alone (word_in (codes "ort") text)
from-rep = word-more 114 (101 ∷ 112 ∷ []) 111 (codes "rt") refl (λ c e. other-byte 111 c true e) refl from-repo

from-re : (text : List ℕ) → is_report_alone (fields_from (codes "re") text) ≡ rest_alone (word_in (codes "port") text)
from-re = word-more 114 (101 ∷ []) 112 (codes "ort") refl (λ c e. other-byte 112 c true e) refl from-rep

from-r : (text : List ℕ) → is_report_alone (fields_from (codes "r") text) ≡ rest_alone (word_in (codes "eport") text)
from-r = word-more 114 [] 101 (codes "port") refl (λ c e. other-byte 101 c true e) refl from-re

-- the only field is `report` just where the word comes behind the first blanks, and blanks behind it
pub alone-is : (line : List ℕ) → is_report_alone (fields_from [] line)
    ≡ rest_alone (word_in (codes "report") (behind_blanks line))
unfolding behind_blanks word_in
alone-is [] = refl
alone-is (c ∷ text) =
    by-same (is_blank c) (λ (fs : List (List ℕ)) (t : List ℕ). is_report_alone fs ≡ rest_alone
    (word_in (codes "report") t)) (λ s. alone-is text) (λ s. by-test (eqb 114 c)
    (λ (o : Option (List ℕ)). is_report_alone (fields_from (c ∷ []) text) ≡ rest_alone o)
    (λ e. rw ((Decides-eqb 114 c).0 e) at (from-r text)) (λ e. off-word c [] text (other-byte 114 c
    (begins [] (codes "eport")) e)))

-- the code's test
pub cut-tested : (line : List ℕ) {text : List ℕ} {found : Option (List ℕ)} → text ≡ behind_blanks (without_return line)
    → word_in (codes "report") text ≡ found → rest_alone found ≡ is_cut line
cut-tested line is e =
    sym (alone-is (without_return line) ∙ ap (λ t. rest_alone (word_in (codes "report") t)) (sym is) ∙ ap rest_alone e)

nil-test : {A : Type 0} (xs : List A) → is_nil xs ≡ (length xs == 0)
nil-test [] = refl
nil-test (x ∷ xs) = grind (arith, nat_tests)

pub cut-some : (o : Option (Unit {0})) {found empty : Bool} (line : List ℕ) {front : List ℕ} (rest : List ℕ)
    → found ≡ is_some o → found ≡ true → IfSome o (λ done. word_in (codes "report") front ≡ Some rest)
    → front ≡ behind_blanks (without_return line) → empty ≡ (length (behind_blanks rest) == 0) → empty ≡ is_cut line
cut-some None line rest is yes' word same e = absurd (true≢false (sym yes' ∙ is))
cut-some (Some done) line rest is yes' word same e =
    e ∙ sym (nil-test (behind_blanks rest)) ∙ cut-tested line same word

pub cut-none : (o : Option (Unit {0})) {found : Bool} (line : List ℕ) {front : List ℕ} → found ≡ is_some o
    → found ≡ false → IfNone o (word_in (codes "report") front ≡ None) → front ≡ behind_blanks (without_return line)
    → found ≡ is_cut line
cut-none None line is none word same = none ∙ cut-tested line same word
cut-none (Some done) line is none word same = absurd (true≢false (sym is ∙ none))

-- ---- the carriage return

pub return-kept : (line : List ℕ) → get_or line (length line - 1) 0 ≢ 13 → without_return line ≡ line
return-kept [] other = refl
return-kept (b ∷ []) other =
    by-test (eqb b 13) (λ (t : List ℕ). t ≡ b ∷ []) (λ s. absurd (other ((Decides-eqb b 13).0 s))) (λ s. refl)
return-kept (a ∷ b ∷ line) other =
    let index : length (a ∷ b ∷ line) - 1 ≡ suc (length (b ∷ line) - 1) = omega arith in
    ap (λ t. a ∷ t)
    (return-kept (b ∷ line) (λ e. other (ap (λ (i : ℕ). get_or (a ∷ b ∷ line) i 0) index ∙ e)))

-- the same, where the last byte of a line is one
pub return-at-end : (line : List ℕ) → 1 ≤ length line → get_or line (length line - 1) 0 ≡ 13
    → take (length line - 1) line ≡ without_return line
return-at-end line some is =
    let e : line ≡ take (length line - 1) line ++ 13 ∷ [] =
    sym (take_all (length line - 1 + 1) line (omega arith))
    ∙ take_more line (length line - 1) 0 (omega (arith, some))
    ∙ ap (λ b. take (length line - 1) line ++ b ∷ []) is in
    sym (ap without_return e ∙ without_return-behind (take (length line - 1) line))

-- ---- the blanks at the front

pub blanks-none : (text : List ℕ) → length text < 1 → behind_blanks text ≡ text
unfolding behind_blanks
blanks-none [] few = refl
blanks-none (b ∷ text) few = absurd (omega (arith, few))

pub blanks-ended : (text : List ℕ) → 1 ≤ length text → is_blank (get_or text 0 0) ≡ false → behind_blanks text ≡ text
unfolding behind_blanks
blanks-ended [] some plain = absurd (omega (arith, some))
blanks-ended (b ∷ text) some plain = ap (λ t. cond t (behind_blanks text) (b ∷ text)) plain

pub blanks-goes : (text : List ℕ) → 1 ≤ length text → is_blank (get_or text 0 0) ≡ true
    → behind_blanks text ≡ behind_blanks (drop 1 text)
unfolding behind_blanks
blanks-goes [] some blank = absurd (omega (arith, some))
blanks-goes (b ∷ text) some blank = ap (λ t. cond t (behind_blanks text) (b ∷ text)) blank
