-- The lines of an order that is written by pieces of its items.
use Rattle.std.proofs.Common.{◌≡◌, ◌⊎◌, inl, inr, ℕ, ◌<◌, ◌≤◌, min, List, [], ◌∷◌, ◌++◌, Some, None, map, length, length-append, take, drop, take-append-drop, append_assoc, append-nil, arith, refl, sym, ap, ◌∙◌}
use Rattle.std.proofs.lemmas.Bool.{cases_lt}
use Rattle.std.proofs.lemmas.List.{take_all}
use Rattle.std.proofs.Math.ListN.{drop_of_length-le}
use Rattle.std.proofs.Math.Seq.{drop-append_seam, take-append_seam}
use Rattle.std.specs.List.{concat}
use Rattle.serde_json.specs.View.{items_view}
use Rattle.serde_json.specs.declared.value.Value.{Value}
use Rattle.text_line.specs.OrderLaws.{pieces-cut}
use Rattle.text_line.specs.OrderLines.{order_line, order_lines}
use Rattle.json_form.specs.Taking.{each_in, number_in}
use Rattle.json_form.proofs.Each.{each-append, each-length}

-- the items before those that are left were read as numbers and written; with as many numbers after
-- them as are left, the lines are those that were written and those of the others
pub record HasWritten (items left : List Value) (start text line : List ℕ) : Type 0 where
  pub done : List Value
  pub ns : List ℕ
  pub parts : items ≡ done ++ left
  pub numbers : each_in number_in (items_view done) ≡ Some ns
  pub lines : (more : List ℕ) → length more ≡ length left
      → start ++ concat (order_lines (ns ++ more)) ≡ text ++ concat (order_lines more)
  pub clear : line ≡ []

-- the first line, where it is full or the last
first-line : (ns : List ℕ) {more : List ℕ} → 0 < length ns → length ns ≤ 64 → (length ns ≡ 64) ⊎ (more ≡ [])
    → order_lines (ns ++ more) ≡ order_line ns ∷ order_lines more
first-line ns {more} some few (inl full) =
    let front : take 64 (ns ++ more) ≡ ns =
    ap (λ (k : ℕ). take k (ns ++ more)) (sym full) ∙ take-append_seam ns more in
    let back : drop 64 (ns ++ more) ≡ more =
    ap (λ (k : ℕ). drop k (ns ++ more)) (sym full) ∙ drop-append_seam ns more in
    ap (λ (ps : List (List ℕ)). map order_line ps)
    (pieces-cut (ns ++ more) (omega (arith, length-append ns more)))
    ∙ ap (λ (l : List ℕ). order_line l ∷ order_lines (drop 64 (ns ++ more))) front
    ∙ ap (λ (l : List ℕ). order_line ns ∷ order_lines l) back
first-line ns some few (inr none) =
    let front : take 64 ns ≡ ns = take_all 64 ns few in
    let back : drop 64 ns ≡ [] = drop_of_length-le ns {i = 64} few in
    ap (λ (l : List ℕ). order_lines (ns ++ l)) none
    ∙ ap (λ (l : List ℕ). order_lines l) (append-nil ns)
    ∙ ap (λ (ps : List (List ℕ)). map order_line ps) (pieces-cut ns some)
    ∙ ap (λ (l : List ℕ). order_line l ∷ order_lines (drop 64 ns)) front
    ∙ ap (λ (l : List ℕ). order_line ns ∷ order_lines l) (back ∙ sym none)

-- nothing is written yet
pub none-written : (items : List Value) (text : List ℕ) {line : List ℕ} → line ≡ []
    → HasWritten items items text text line
none-written items text clear = record {
  done = [];
  ns = [];
  parts = refl;
  numbers = refl;
  lines = λ more count. refl;
  clear = clear;
}

no-more : {xs : List Value} (more : List ℕ) → xs ≡ [] → length more ≡ length xs → more ≡ []
no-more [] none count = refl
no-more (n ∷ more) none count = absurd (omega (arith, count, ap length none))

-- one line more
pub line-written : {items left now later : List Value} {start text line grown cleared : List ℕ} {ns : List ℕ} {m : ℕ}
    → HasWritten items left start text line → 0 < length left → m ≤ 64 → (m ≡ 64) ⊎ (m ≡ length left) → m ≤ length left
    → now ≡ take m left → later ≡ drop m left → each_in number_in (items_view now) ≡ Some ns → length now ≡ m
    → grown ≡ text ++ order_line ns → cleared ≡ [] → HasWritten items later start grown cleared
line-written {left} {now} {later} {start} {text} {ns} {m} h some few full within front back is count written
    clear =
    let cut : left ≡ now ++ later =
    sym (take-append-drop m left) ∙ ap (λ (l : List Value). l ++ drop m left) (sym front)
    ∙ ap (λ (l : List Value). now ++ l) (sym back) in
    let sized : length ns ≡ m = each-length number_in now ns is ∙ count in
    record {
      done = h.done ++ now;
      ns = h.ns ++ ns;
      parts = h.parts ∙ ap (λ (l : List Value). h.done ++ l) cut ∙ sym (append_assoc h.done now later);
      numbers = each-append number_in h.done now ∙ rw (h.numbers, is);
      lines = λ more as_many.
          let first : order_lines (ns ++ more) ≡ order_line ns ∷ order_lines more =
          first-line ns (omega (arith, sized, some, full)) (omega (arith, sized, few))
          (elim full [
            | inl e ↦ inl (sized ∙ e)
            | inr e ↦ inr (no-more more (back ∙ drop_of_length-le left {i = m} (omega (arith, e))) as_many)
          ]) in
          ap (λ (l : List ℕ). start ++ concat (order_lines l)) (append_assoc h.ns ns more)
          ∙ h.lines (ns ++ more) (omega (
            arith,
            length-append ns more,
            sized,
            count,
            as_many,
            ap length cut,
            length-append now later,
          ))
          ∙ ap (λ (ls : List (List ℕ)). text ++ concat ls) first
          ∙ sym (append_assoc text (order_line ns) (concat (order_lines more)))
          ∙ ap (λ (l : List ℕ). l ++ concat (order_lines more)) (sym written);
      clear = clear;
    }

-- all lines
pub all-written : {items left : List Value} {start text line : List ℕ} → HasWritten items left start text line
    → left ≡ [] → (ns : List ℕ) × (each_in number_in (items_view items) ≡ Some ns)
    × (text ≡ start ++ concat (order_lines ns))
all-written {start} {text} h none = (
  h.ns,
  ap (λ l. each_in number_in (items_view l)) (h.parts ∙ ap (λ l. h.done ++ l) none ∙ append-nil h.done) ∙ h.numbers,
  sym (ap (λ (l : List ℕ). start ++ concat (order_lines l)) (sym (append-nil h.ns)) ∙ h.lines [] (sym (ap length none))
      ∙ append-nil text),
)

-- items that aren't all numbers
pub some-stuck : {items left now later : List Value} {start text line : List ℕ} (m : ℕ)
    → HasWritten items left start text line → now ≡ take m left → later ≡ drop m left
    → each_in number_in (items_view now) ≡ None → each_in number_in (items_view items) ≡ None
some-stuck {left} {now} {later} m h front back none =
    let cut : left ≡ now ++ later =
    sym (take-append-drop m left) ∙ ap (λ (l : List Value). l ++ drop m left) (sym front)
    ∙ ap (λ (l : List Value). now ++ l) (sym back) in
    ap (λ l. each_in number_in (items_view l)) (h.parts ∙ ap (λ (l : List Value). h.done ++ l) cut)
    ∙ each-append number_in h.done (now ++ later)
    ∙ rw (h.numbers, each-append number_in now later, none) refl

pub empty-list : (xs : List Value) → length xs ≡ 0 → xs ≡ []
empty-list [] e = refl
empty-list (x ∷ xs) e = absurd (omega (arith, e))

-- the least of a length and 64
pub min-is : (n : ℕ) {m : ℕ} → m ≡ min n 64 → (m ≤ 64) × ((m ≡ 64) ⊎ (m ≡ n)) × (m ≤ n)
min-is n e = elim (cases_lt n 64) [
  | inl less ↦ (omega (arith, e), inr (omega (arith, e)), omega (arith, e))
  | inr more ↦ (omega (arith, e), inl (omega (arith, e)), omega (arith, e))
]
