-- A report that is read is the text of what was read, which has the form of reports.
use Rattle.std.proofs.lemmas.Option.{same_Some}
use Rattle.report_check.proofs.Texts.{bind-elim, number-low, number-text, word-text}
use Rattle.std.proofs.Common.{◌≡◌, ◌⊎◌, inl, inr, ℕ, zero, suc, ◌+◌, ◌%◌, ◌^◌, ◌<◌, ◌≤◌, Bool, true, false, cond, eqb, List, [], ◌∷◌, ◌++◌, length, take, drop, map, Option, Some, None, Result, Ok, Err, refl, ap, sym, ◌∙◌, arith, subst, codes, append_assoc, append-nil, length-append}
use Rattle.std.specs.Prelude.{All}
use Rattle.std.specs.List.{concat}
use Rattle.std.proofs.lemmas.Bool.Decides.{nat_tests}
use Rattle.std.proofs.Math.Seq.{drop-append_seam, take-append_seam}
use Rattle.std.proofs.lemmas.List.{drop_all, take_all}
use Rattle.std.proofs.lemmas.List.Elements.{All-append, All-cons, All-nil}
use Rattle.outside.specs.Texts.{field, fields}
use Rattle.text_line.specs.OrderLaws.{pieces-cut}
use Rattle.text_line.specs.OrderLines.{order_line, pieces}
use Rattle.directory.specs.declared.answers.Done.{Done}
use Rattle.directory.specs.Outcomes.{Outcome}
use Rattle.report_text.specs.ReportText.{call_line, last_line, report_of}
use Rattle.report_check.specs.declared.calls.Bounds.{Bounds}
use Rattle.report_check.specs.declared.slots.Slot.{Slot}
use Rattle.report_check.specs.Forms.{HasForm, IsCallBelow, ReadReportsAreText, slot_told}
use Rattle.report_check.specs.Reading.{◌>>=◌, and_then, call_in, calls_in, end_in, ended, ends_with, in_order, lines_before_end, lines_more, most, nothing_behind, number_in, numbers_in, or_lines, order_in, order_line_count, orders_in, word_in}
use Rattle.report_check.proofs.CallForms.{IsFormed, call-formed, closing-low}
use Rattle.report_check.proofs.CallTexts.{call-text, closing-front}
use Rattle.report_check.proofs.ReportRead.{AreSmall, text-parts}

ok-is : {A : Type 0} (x y : A) → ◌≡◌ {A = Result A ℕ} (Ok x) (Ok y) → x ≡ y
ok-is x y e = cc

-- ---- the calls

-- what was read of the calls
record AreCalls (bounds : Bounds) (before : List Done) (slots : List Slot) (text : List ℕ)
    (found : List Done × List ℕ) : Type 0 where
  calls : List Done
  all : found.0 ≡ before ++ calls
  slots_are : map slot_told calls ≡ slots
  low : All (IsCallBelow bounds) calls
  parts : text ≡ concat (map call_line calls) ++ found.1

calls-read-back : (bounds : Bounds) (before : List Done) (slots : List Slot) (text : List ℕ)
    {found : List Done × List ℕ} → bounds.nodes ≤ 2 ^ 63 → bounds.levels ≤ 2 ^ 63
    → calls_in bounds before slots text ≡ Ok found → AreCalls bounds before slots text found
unfolding calls_in
calls-read-back bounds before [] text {found} few short e =
    let same : (before, text) ≡ found = ok-is (before, text) found e in record {
      calls = [];
      all = sym (ap (λ (p : List Done × List ℕ). p.0) same) ∙ sym (append-nil before);
      slots_are = refl;
      low = All-nil (IsCallBelow bounds);
      parts = ap (λ (p : List Done × List ℕ). p.1) same;
    }
calls-read-back bounds before (slot ∷ slots) text {found} few short e =
    at_call (call_in bounds slot text) refl e
    (λ call rest. calls-read-back bounds (before ++ call ∷ []) slots rest few short)
  where
    at_call : (o : Option (Done × List ℕ)) → call_in bounds slot text ≡ o
        → or_lines (length before) o (λ (line : Done × List ℕ). calls_in bounds (before ++ line.0 ∷ []) slots line.1)
        ≡ Ok found
        → ((call : Done) (rest : List ℕ) → calls_in bounds (before ++ call ∷ []) slots rest ≡ Ok found
        → AreCalls bounds (before ++ call ∷ []) slots rest found)
        → AreCalls bounds before (slot ∷ slots) text found
    at_call None is e deeper = let bad : Err (length before) ≡ Ok found = e in cc
    at_call (Some line) is e deeper =
        let later = deeper line.0 line.1 e in
        let formed : IsFormed bounds slot line.0 = call-formed bounds slot text line.1 line.0 is in record {
          calls = line.0 ∷ later.calls;
          all = later.all ∙ append_assoc before (line.0 ∷ []) later.calls;
          slots_are = ap (λ s. s ∷ map slot_told later.calls) formed.0 ∙ ap (λ ss. slot ∷ ss) later.slots_are;
          low = All-cons (IsCallBelow bounds) line.0 later.calls formed.1 later.low;
          parts = call-text bounds slot text line.1 line.0 few short is
              ∙ ap (λ (xs : List ℕ). call_line line.0 ++ xs) later.parts
              ∙ sym (append_assoc (call_line line.0) (concat (map call_line later.calls)) found.1);
        }

-- ---- the order

-- what was read of a line of the order
record AreNumbers (room : ℕ) (before text : List ℕ) (found : List ℕ × List ℕ) : Type 0 where
  numbers : List ℕ
  all : found.0 ≡ before ++ numbers
  few : length numbers ≤ room
  low : AreSmall numbers
  parts : text ≡ (fields numbers ++ 10 ∷ []) ++ found.1

none-more : (room : ℕ) (before text : List ℕ) {mid : List ℕ} (found : List ℕ × List ℕ)
    → word_in (10 ∷ []) text ≡ Some mid
    → ◌≡◌ {A = Option (List ℕ × List ℕ)} (Some (before, mid)) (Some found) → AreNumbers room before text found
none-more room before text {mid} found is e =
    let same : (before, mid) ≡ found = same_Some (before, mid) found e in record {
      numbers = [];
      all = sym (ap (λ (p : List ℕ × List ℕ). p.0) same) ∙ sym (append-nil before);
      few = omega arith;
      low = All-nil (λ actor. actor < most);
      parts = word-text (10 ∷ []) text is
          ∙ ap (λ (p : List ℕ × List ℕ). (10 ∷ []) ++ p.1) same;
    }

one-more : (room n : ℕ) (before text rest : List ℕ) (found : List ℕ × List ℕ) → number_in most text ≡ Some (n, rest)
    → AreNumbers room (before ++ n ∷ []) rest found → AreNumbers (suc room) before text found
one-more room n before text rest found is later = record {
  numbers = n ∷ later.numbers;
  all = later.all ∙ append_assoc before (n ∷ []) later.numbers;
  few = omega (arith, later.few);
  low = All-cons (λ actor. actor < most) n later.numbers (number-low most n text rest is) later.low;
  parts = number-text most n text rest (omega arith) is
      ∙ ap (λ (xs : List ℕ). field n ++ xs) later.parts
      ∙ sym (append_assoc (field n) (fields later.numbers ++ 10 ∷ []) found.1)
      ∙ ap (λ (xs : List ℕ). xs ++ found.1) (sym (append_assoc (field n) (fields later.numbers) (10 ∷ [])));
}

numbers-read-back : (room : ℕ) (before text : List ℕ) {found : List ℕ × List ℕ}
    → numbers_in room before text ≡ Some found → AreNumbers room before text found
unfolding numbers_in
numbers-read-back zero before text {found} e =
    bind-elim (word_in (10 ∷ []) text) _ e (λ mid em nm. none-more zero before text found em nm)
numbers-read-back (suc room) before text {found} e =
    at_end (word_in (10 ∷ []) text) refl e
    (λ n rest. numbers-read-back room (before ++ n ∷ []) rest)
  where
    at_end : (o : Option (List ℕ)) → word_in (10 ∷ []) text ≡ o
        → ended before o (number_in most text >>= (λ (number : ℕ × List ℕ).
        numbers_in room (before ++ number.0 ∷ []) number.1)) ≡ Some found
        → ((n : ℕ) (rest : List ℕ) → numbers_in room (before ++ n ∷ []) rest ≡ Some found
        → AreNumbers room (before ++ n ∷ []) rest found)
        → AreNumbers (suc room) before text found
    at_end (Some mid) is e deeper = none-more (suc room) before text found is e
    at_end None is e deeper =
        bind-elim (number_in most text) _ e (λ number en nn. one-more room number.0 before text number.1 found en
        (deeper number.0 number.1 nn))

some-numbers : {room : ℕ} (n : ℕ) (before text : List ℕ) {rest : List ℕ} {found : List ℕ × List ℕ}
    (is : number_in most text ≡ Some (n, rest)) (later : AreNumbers room (before ++ n ∷ []) rest found)
    → 0 < length (one-more room n before text rest found is later).numbers
unfolding one-more
some-numbers n before text is later = omega arith

-- the numbers of a line, of which there is one at least
order-read-back : (before text : List ℕ) {found : List ℕ × List ℕ} → order_in before text ≡ Some found
    → (line : AreNumbers 64 before text found) × (0 < length line.numbers)
order-read-back before text {found} e =
    bind-elim (number_in most text) _ e (λ number en nn.
    let later : AreNumbers 63 (before ++ number.0 ∷ []) number.1 found =
    numbers-read-back 63 (before ++ number.0 ∷ []) number.1 nn in (
      one-more 63 number.0 before text number.1 found en later,
      some-numbers number.0 before text en later,
    ))

-- what was read of the order
record AreOrders (before text : List ℕ) (found : List ℕ × List ℕ) : Type 0 where
  numbers : List ℕ
  all : found.0 ≡ before ++ numbers
  low : AreSmall numbers
  parts : text ≡ concat (map order_line (pieces numbers)) ++ found.1
  full : (length before % 64 ≡ 0) ⊎ (numbers ≡ [])

no-orders : (before text : List ℕ) (found : List ℕ × List ℕ)
    → ◌≡◌ {A = Result (List ℕ × List ℕ) ℕ} (Ok (before, text)) (Ok found) → AreOrders before text found
no-orders before text found e =
    let same : (before, text) ≡ found = ok-is (before, text) found e in record {
      numbers = [];
      all = sym (ap (λ (p : List ℕ × List ℕ). p.0) same) ∙ sym (append-nil before);
      low = All-nil (λ actor. actor < most);
      parts = ap (λ (p : List ℕ × List ℕ). p.1) same;
      full = inr refl;
    }

-- a line in front of others is a piece of all numbers
cut-front : (before line : List ℕ) {later : List ℕ} → length before % 64 ≡ 0 → 0 < length line → length line ≤ 64
    → (length (before ++ line) % 64 ≡ 0) ⊎ (later ≡ []) → pieces (line ++ later) ≡ line ∷ pieces later
cut-front before line {later} full some few (inl next) =
    let whole : length line ≡ 64 = omega (arith, full, some, few, next, length-append before line) in
    pieces-cut (line ++ later) (omega (arith, some, length-append line later))
    ∙ ap (λ xs. xs ∷ pieces (drop 64 (line ++ later))) (take-seam line later 64 whole)
    ∙ ap (λ xs. line ∷ pieces xs) (drop-seam line later 64 whole)
  where
    take-seam : (xs ys : List ℕ) (n : ℕ) → length xs ≡ n → take n (xs ++ ys) ≡ xs
    take-seam xs ys n e = ap (λ k. take k (xs ++ ys)) (sym e) ∙ take-append_seam xs ys

    drop-seam : (xs ys : List ℕ) (n : ℕ) → length xs ≡ n → drop n (xs ++ ys) ≡ ys
    drop-seam xs ys n e = ap (λ k. drop k (xs ++ ys)) (sym e) ∙ drop-append_seam xs ys
cut-front before line full some few (inr none) =
    ap (λ (xs : List ℕ). pieces (line ++ xs)) none
    ∙ ap pieces (append-nil line)
    ∙ pieces-cut line some
    ∙ ap (λ xs. xs ∷ pieces (drop 64 line)) (take_all 64 line few)
    ∙ ap (λ (xs : List ℕ). line ∷ pieces xs) (drop_all 64 line few ∙ sym none)

orders-read-back : (fuel : ℕ) (before text : List ℕ) {found : List ℕ × List ℕ} → orders_in fuel before text ≡ Ok found
    → AreOrders before text found
unfolding orders_in
orders-read-back zero before text {found} e = no-orders before text found e
orders-read-back (suc fuel) before text {found} e =
    at_test (eqb (length before % 64) 0) refl e (λ now rest. orders-read-back fuel now rest)
  where
    at_line : (length before % 64 ≡ 0) → (rest : List ℕ) → word_in (codes "order") text ≡ Some rest
        → (o : Option (List ℕ × List ℕ)) → order_in before rest ≡ o
        → or_lines (order_line_count before) o (λ (line : List ℕ × List ℕ). orders_in fuel line.0 line.1) ≡ Ok found
        → ((now rest : List ℕ) → orders_in fuel now rest ≡ Ok found → AreOrders now rest found)
        → AreOrders before text found
    at_line full rest word None is e deeper = let bad : Err (order_line_count before) ≡ Ok found = e in cc
    at_line full rest word (Some line) is e deeper =
        let read = order-read-back before rest is in
        let numbers : List ℕ = read.0.numbers in
        let later : AreOrders line.0 line.1 found = deeper line.0 line.1 e in
        let cut : pieces (numbers ++ later.numbers) ≡ numbers ∷ pieces later.numbers =
        cut-front before numbers full read.1 read.0.few
        (subst (λ (xs : List ℕ). (length xs % 64 ≡ 0) ⊎ (later.numbers ≡ [])) read.0.all later.full) in record {
          numbers = numbers ++ later.numbers;
          all = later.all ∙ ap (λ (xs : List ℕ). xs ++ later.numbers) read.0.all
              ∙ append_assoc before numbers later.numbers;
          low = All-append (λ actor. actor < most) numbers later.numbers read.0.low later.low;
          parts = word-text (codes "order") text word
              ∙ ap (λ (xs : List ℕ). codes "order" ++ xs) (read.0.parts
              ∙ ap (λ (xs : List ℕ). (fields numbers ++ 10 ∷ []) ++ xs) later.parts)
              ∙ sym (append_assoc (order_line numbers) (concat (map order_line (pieces later.numbers))) found.1)
              ∙ ap (λ (ps : List (List ℕ)). concat (map order_line ps) ++ found.1) (sym cut);
          full = inl full;
        }

    at_word : (length before % 64 ≡ 0) → (o : Option (List ℕ)) → word_in (codes "order") text ≡ o
        → in_order before text o (λ rest. or_lines (order_line_count before) (order_in before rest)
        (λ (line : List ℕ × List ℕ). orders_in fuel line.0 line.1)) ≡ Ok found
        → ((now rest : List ℕ) → orders_in fuel now rest ≡ Ok found → AreOrders now rest found)
        → AreOrders before text found
    at_word full None is e deeper = no-orders before text found e
    at_word full (Some rest) is e deeper = at_line full rest is (order_in before rest) refl e deeper

    at_test : (t : Bool) → eqb (length before % 64) 0 ≡ t
        → cond t (in_order before text (word_in (codes "order") text) (λ rest.
        or_lines (order_line_count before) (order_in before rest)
        (λ (line : List ℕ × List ℕ). orders_in fuel line.0 line.1))) (Ok (before, text)) ≡ Ok found
        → ((now rest : List ℕ) → orders_in fuel now rest ≡ Ok found → AreOrders now rest found)
        → AreOrders before text found
    at_test true is e deeper =
        at_word (let full : length before % 64 ≡ 0 = grind (arith, nat_tests) in full) (word_in (codes "order") text)
        refl
        e deeper
    at_test false is e deeper = no-orders before text found e

-- ---- the whole

-- what was read of the last line
record IsEnd (text : List ℕ) (n : ℕ) (rest : List ℕ) : Type 0 where
  low : n < most
  parts : text ≡ last_line n ++ rest

end-parts : (text rest : List ℕ) (n : ℕ) → end_in text ≡ Some (n, rest) → IsEnd text n rest
end-parts text rest n e =
    record {
      low = closing-low (codes "end") text e;
      parts = closing-front (codes "end") text e refl;
    }

-- an outcome whose last line was read
record IsWhole (text : List ℕ) (made outcome : Outcome) : Type 0 where
  is : made ≡ outcome
  low : length made.order < most
  parts : text ≡ last_line (length made.order) ++ []

end-read-back : (lines : ℕ) (text : List ℕ) (made : Outcome) {outcome : Outcome}
    → ends_with lines (end_in text) made ≡ Ok outcome → IsWhole text made outcome
end-read-back lines text made {outcome} e = at_end (end_in text) refl e
  where
    at_rest : (n : ℕ) (rest : List ℕ) → n ≡ length made.order → IsEnd text n rest
        → nothing_behind lines rest made ≡ Ok outcome → IsWhole text made outcome
    at_rest n [] same is e = record {
      is = ok-is made outcome e;
      low = rw same at is.low;
      parts = is.parts ∙ ap (λ k. last_line k ++ []) same;
    }
    at_rest n (b ∷ rest) same is e = let bad : Err (suc lines) ≡ Ok outcome = e in cc

    at_count : (n : ℕ) (rest : List ℕ) (t : Bool) → eqb n (length made.order) ≡ t → IsEnd text n rest
        → cond t (nothing_behind lines rest made) (Err lines) ≡ Ok outcome → IsWhole text made outcome
    at_count n rest true same is e =
        at_rest n rest (let s : n ≡ length made.order = grind (arith, nat_tests) in s) is e
    at_count n rest false same is e = let bad : Err lines ≡ Ok outcome = e in cc

    at_end : (o : Option (ℕ × List ℕ)) → end_in text ≡ o → ends_with lines o made ≡ Ok outcome
        → IsWhole text made outcome
    at_end None is e = let bad : Err lines ≡ Ok outcome = e in cc
    at_end (Some found) is e =
        at_count found.0 found.1 (eqb found.0 (length made.order)) refl (end-parts text found.1 found.0 is) e

abbrev outcome_with : List Done → List ℕ → Outcome
outcome_with calls order = record { calls = calls; order = order }

then-elim : {A B P : Type 0} (r : Result A ℕ) (f : A → Result B ℕ) {y : B} → and_then r f ≡ Ok y
    → ((x : A) → r ≡ Ok x → f x ≡ Ok y → P) → P
then-elim (Ok x) f e go = go x refl e
then-elim (Err lines) f {y} e go = let bad : Err lines ≡ Ok y = e in cc

more-is : {A : Type 0} (lines : ℕ) (r : Result A ℕ) {x : A} → lines_more lines r ≡ Ok x → r ≡ Ok x
more-is lines (Ok found) e = e
more-is lines (Err more) {x} e = let bad : Err (lines + more) ≡ Ok x = e in cc

pub read-back : ReadReportsAreText
read-back bounds slots text outcome few short e =
    then-elim (calls_in bounds [] slots text) _ e (λ calls ec nc. then-elim
    (lines_more (length calls.0) (orders_in (length calls.1) [] calls.1)) _ nc (λ order eo no.
    let first : AreCalls bounds [] slots text calls = calls-read-back bounds [] slots text few short ec in
    let second : AreOrders [] calls.1 order =
    orders-read-back (length calls.1) [] calls.1 (more-is (length calls.0) (orders_in (length calls.1) [] calls.1)
    eo) in
    let made : Outcome = record { calls = calls.0; order = order.0 } in
    let third : IsWhole order.1 made outcome = end-read-back (lines_before_end made) order.1 made no in
    let whole : Outcome = record { calls = first.calls; order = second.numbers } in
    let same : whole ≡ outcome =
    ap (λ (cs : List Done). outcome_with cs second.numbers) (sym first.all)
    ∙ ap (λ (ns : List ℕ). outcome_with calls.0 ns) (sym second.all) ∙ third.is in
    let count : length order.0 ≡ length second.numbers = ap length second.all in
    subst (λ (o : Outcome). HasForm bounds slots o × (text ≡ report_of o)) same (
      record {
        slots_are = first.slots_are;
        calls = first.low;
        order = second.low;
        visits = omega (arith, third.low, count);
      },
      first.parts ∙ ap (λ (xs : List ℕ). concat (map call_line first.calls) ++ xs)
          (second.parts ∙ ap (λ (xs : List ℕ). concat (map order_line (pieces second.numbers)) ++ xs)
          (third.parts ∙ ap (λ k. last_line k ++ []) count)) ∙ sym (text-parts whole),
    )))
