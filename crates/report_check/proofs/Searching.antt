-- The search for the line that cuts a text, and one step of it.
use Rattle.std.proofs.Common.{◌≡◌, ◌≢◌, ℕ, ◌+◌, ◌-◌, ◌<◌, ◌≤◌, true, false, cond, List, [], ◌∷◌, ◌++◌, append_assoc, append-nil, length, take, drop, get_or, refl, ap, sym, ◌∙◌, arith}
use Rattle.std.specs.List.{between}
use Rattle.std.proofs.lemmas.List.{drop_all, drop_more, take_all, take_more}
use Rattle.std.proofs.lemmas.List.Edits.{between_more, between_none}
use Rattle.report_check.specs.Cuts.{input_from, is_cut, report_from}
use Rattle.report_check.proofs.Cutting.{other-test}

-- ---- the search for the line

input-plain : (line text : List ℕ) (b : ℕ) → b ≢ 10 → input_from line (b ∷ text) ≡ input_from (line ++ b ∷ []) text
unfolding input_from
input-plain line text b other =
    ap (λ t. cond t (cond (is_cut line) [] (line ++ 10 ∷ input_from [] text)) (input_from (line ++ b ∷ []) text))
    (other-test b 10 other)

report-plain : (line text : List ℕ) (b : ℕ) → b ≢ 10
    → report_from line (b ∷ text) ≡ report_from (line ++ b ∷ []) text
unfolding report_from
report-plain line text b other =
    ap (λ t. cond t (cond (is_cut line) text (report_from [] text)) (report_from (line ++ b ∷ []) text))
    (other-test b 10 other)

-- a byte more on the same line
pub front-plain : (text : List ℕ) (start at : ℕ) → start ≤ at → at < length text
    → take at text ≡ take start text ++ between start at text
    → take (at + 1) text ≡ take start text ++ between start (at + 1) text
front-plain text start at low below front =
    rw (take_more text at 0 below, front, between_more text start at 0 low below)
    (append_assoc (take start text) (between start at text) (get_or text at 0 ∷ []))

pub input-goes : (text : List ℕ) (start at : ℕ) → start ≤ at → at < length text → get_or text at 0 ≢ 10
    → input_from (between start at text) (drop at text)
    ≡ input_from (between start (at + 1) text) (drop (at + 1) text)
input-goes text start at low below other =
    rw (drop_more text at 0 below, between_more text start at 0 low below)
    (input-plain (between start at text) (drop (at + 1) text) (get_or text at 0) other)

pub report-goes : (text : List ℕ) (start at : ℕ) → start ≤ at → at < length text → get_or text at 0 ≢ 10
    → report_from (between start at text) (drop at text)
    ≡ report_from (between start (at + 1) text) (drop (at + 1) text)
report-goes text start at low below other =
    rw (drop_more text at 0 below, between_more text start at 0 low below)
    (report-plain (between start at text) (drop (at + 1) text) (get_or text at 0) other)

-- the end of a line that doesn't cut
pub front-line : (text : List ℕ) (at : ℕ)
    → take (at + 1) text ≡ take (at + 1) text ++ between (at + 1) (at + 1) text
front-line text at = sym (ap (λ t. take (at + 1) text ++ t) (between_none text (at + 1))
    ∙ append-nil (take (at + 1) text))

feed : (text : List ℕ) (at : ℕ) → at < length text → get_or text at 0 ≡ 10 → drop at text ≡ 10 ∷ drop (at + 1) text
feed text at below is = drop_more text at 0 below ∙ ap (λ b. b ∷ drop (at + 1) text) is

input-feed : (line text : List ℕ) → is_cut line ≡ false → input_from line (10 ∷ text) ≡ line ++ 10 ∷ input_from [] text
unfolding input_from
input-feed line text keeps = ap (λ t. cond t [] (line ++ 10 ∷ input_from [] text)) keeps

report-feed : (line text : List ℕ) → is_cut line ≡ false → report_from line (10 ∷ text) ≡ report_from [] text
unfolding report_from
report-feed line text keeps = ap (λ t. cond t text (report_from [] text)) keeps

pub input-line : (text : List ℕ) (start at : ℕ) → at < length text → get_or text at 0 ≡ 10
    → is_cut (between start at text) ≡ false → take at text ≡ take start text ++ between start at text
    → take start text ++ input_from (between start at text) (drop at text)
    ≡ take (at + 1) text ++ input_from (between (at + 1) (at + 1) text) (drop (at + 1) text)
input-line text start at below is keeps front =
    let rest = input_from [] (drop (at + 1) text) in
    ap (λ t. take start text ++ input_from (between start at text) t) (feed text at below is)
    ∙ ap (λ t. take start text ++ t) (input-feed (between start at text) (drop (at + 1) text) keeps)
    ∙ sym (append_assoc (take start text) (between start at text) (10 ∷ rest))
    ∙ ap (λ t. t ++ 10 ∷ rest) (sym front)
    ∙ sym (append_assoc (take at text) (10 ∷ []) rest)
    ∙ ap (λ t. t ++ rest) (sym (take_more text at 0 below ∙ ap (λ b. take at text ++ b ∷ []) is))
    ∙ ap (λ t. take (at + 1) text ++ input_from t (drop (at + 1) text)) (sym (between_none text (at + 1)))

pub report-line : (text : List ℕ) (start at : ℕ) → at < length text → get_or text at 0 ≡ 10
    → is_cut (between start at text) ≡ false
    → report_from (between start at text) (drop at text)
    ≡ report_from (between (at + 1) (at + 1) text) (drop (at + 1) text)
report-line text start at below is keeps =
    rw (feed text at below is, between_none text (at + 1))
    (report-feed (between start at text) (drop (at + 1) text) keeps)

-- the line that cuts
input-cut : (line text : List ℕ) → is_cut line ≡ true → input_from line (10 ∷ text) ≡ []
unfolding input_from
input-cut line text cuts = ap (λ t. cond t [] (line ++ 10 ∷ input_from [] text)) cuts

report-cut : (line text : List ℕ) → is_cut line ≡ true → report_from line (10 ∷ text) ≡ text
unfolding report_from
report-cut line text cuts = ap (λ t. cond t text (report_from [] text)) cuts

pub input-found : (text : List ℕ) (start at : ℕ) → at < length text → get_or text at 0 ≡ 10
    → is_cut (between start at text) ≡ true
    → take start text ++ input_from (between start at text) (drop at text) ≡ take start text
input-found text start at below is cuts =
    rw (feed text at below is, input-cut (between start at text) (drop (at + 1) text) cuts)
    (append-nil (take start text))

pub report-found : (text : List ℕ) (start at : ℕ) → at < length text → get_or text at 0 ≡ 10
    → is_cut (between start at text) ≡ true
    → report_from (between start at text) (drop at text) ≡ drop (at + 1) text
report-found text start at below is cuts =
    rw (feed text at below is) (report-cut (between start at text) (drop (at + 1) text) cuts)

-- the last line, without a line feed
input-last : (line : List ℕ) → input_from line [] ≡ cond (is_cut line) [] line
unfolding input_from
input-last line = refl

report-last : (line : List ℕ) → report_from line [] ≡ []
unfolding report_from
report-last line = refl

pub input-end : (text : List ℕ) (start at : ℕ) → length text ≤ at → is_cut (between start at text) ≡ true
    → take start text ++ input_from (between start at text) (drop at text) ≡ take start text
input-end text start at past cuts =
    rw (drop_all at text past, input-last (between start at text), cuts) (append-nil (take start text))

pub input-whole : (text : List ℕ) (start at : ℕ) → length text ≤ at → is_cut (between start at text) ≡ false
    → take at text ≡ take start text ++ between start at text
    → take start text ++ input_from (between start at text) (drop at text) ≡ text
input-whole text start at past keeps front =
    rw (drop_all at text past, input-last (between start at text), keeps) (sym front ∙ take_all at text past)

pub report-end : (text : List ℕ) (start at : ℕ) → length text ≤ at
    → report_from (between start at text) (drop at text) ≡ []
report-end text start at past =
    rw (drop_all at text past) (report-last (between start at text))

-- a place in the text: where its line begins, and how far the search went
pub record IsPlace (text : List ℕ) (start at : ℕ) : Type 0 where
  pub low : start ≤ at
  pub front : take at text ≡ take start text ++ between start at text
  pub input : input_from [] text ≡ take start text ++ input_from (between start at text) (drop at text)
  pub report : report_from [] text ≡ report_from (between start at text) (drop at text)

pub place-plain : {text : List ℕ} {start at : ℕ} → IsPlace text start at → at < length text → get_or text at 0 ≢ 10
    → IsPlace text start (at + 1)
place-plain {text} {start} {at} is below other = record {
  low = omega (arith, is.low);
  front = front-plain text start at is.low below is.front;
  input = is.input ∙ ap (λ t. take start text ++ t) (input-goes text start at is.low below other);
  report = is.report ∙ report-goes text start at is.low below other;
}

pub place-line : {text : List ℕ} {start at : ℕ} → IsPlace text start at → at < length text → get_or text at 0 ≡ 10
    → is_cut (between start at text) ≡ false → IsPlace text (at + 1) (at + 1)
place-line {text} {start} {at} is below same keeps = record {
  low = omega arith;
  front = front-line text at;
  input = is.input ∙ input-line text start at below same keeps is.front;
  report = is.report ∙ report-line text start at below same keeps;
}

-- the last line, up to the text's end
pub last-line : (text : List ℕ) (start at : ℕ) → length text ≤ at → at ≤ length text
    → between start at text ≡ take (length text - start) (drop start text)
last-line text start at past end =
    let same : at ≡ length text = omega (arith, past, end) in rw same refl
