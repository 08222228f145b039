-- The text of a whole outcome of the form of reports is read as the outcome.
use Rattle.std.proofs.Common.{◌≡◌, ◌⊎◌, inl, inr, ℕ, zero, suc, ◌+◌, ◌%◌, ◌^◌, ◌<◌, ◌≤◌, Bool, true, false, cond, eqb, List, [], ◌∷◌, ◌++◌, length, take, drop, map, Option, Some, None, Result, Ok, refl, ap, sym, ◌∙◌, arith, codes, append_assoc, append-nil, length-append}
use Rattle.std.specs.Prelude.{All}
use Rattle.std.specs.List.{concat}
use Rattle.std.proofs.lemmas.List.Folds.{concat-append}
use Rattle.std.proofs.lemmas.Bool.Decides.{nat_tests}
use Rattle.std.proofs.lemmas.Bool.{cases_lt}
use Rattle.std.proofs.lemmas.List.{drop_all, length-drop, length-take, take-append-drop}
use Rattle.std.proofs.lemmas.List.Elements.{All-drop, All-head, All-tail, All-take}
use Rattle.outside.specs.Texts.{field, fields}
use Rattle.text_line.specs.OrderLines.{order_line, pieces_within}
use Rattle.directory.specs.declared.answers.Done.{Done}
use Rattle.directory.specs.Outcomes.{Outcome}
use Rattle.report_text.specs.ReportText.{call_line, last_line, report_of}
use Rattle.report_check.specs.declared.calls.Bounds.{Bounds}
use Rattle.report_check.specs.Forms.{IsCallBelow, ReportsAreRead, slot_told}
use Rattle.report_check.specs.Reading.{◌>>=◌, and_then, call_in, calls_in, ends_with, in_order, lines_before_end, lines_more, most, number_in, numbers_in, or_lines, order_in, order_line_count, orders_in, report_end, report_in, starts_with_digit, word_in}
use Rattle.report_check.proofs.ReadBack.{call-reads, closing-reads, number-reads, word-reads}

-- ---- the calls

calls-read : (bounds : Bounds) (before calls : List Done) (rest : List ℕ) → bounds.nodes ≤ 2 ^ 63
    → bounds.levels ≤ 2 ^ 63 → All (IsCallBelow bounds) calls
    → calls_in bounds before (map slot_told calls) (concat (map call_line calls) ++ rest) ≡ Ok (before ++ calls, rest)
unfolding calls_in
calls-read bounds before [] rest few short low = ap (λ cs. Ok (cs, rest)) (sym (append-nil before))
calls-read bounds before (call ∷ calls) rest few short low =
    ap (λ xs. or_lines (length before) (call_in bounds (slot_told call) xs)
    (λ found. calls_in bounds (before ++ found.0 ∷ []) (map slot_told calls) found.1))
    (append_assoc (call_line call) (concat (map call_line calls)) rest)
    ∙ ap (λ o. or_lines (length before) o
    (λ found. calls_in bounds (before ++ found.0 ∷ []) (map slot_told calls) found.1))
    (call-reads bounds call (concat (map call_line calls) ++ rest) few short
    (All-head (IsCallBelow bounds) call calls low))
    ∙ calls-read bounds (before ++ call ∷ []) calls rest few short (All-tail (IsCallBelow bounds) call calls low)
    ∙ ap (λ cs. Ok (cs, rest)) (append_assoc before (call ∷ []) calls)

-- ---- the order

-- actors that can be written
abbrev pub AreSmall : List ℕ → Type 0
AreSmall ns = All (λ actor. actor < most) ns

-- behind a number of a line no digit comes
no-digit : (ns rest : List ℕ) → starts_with_digit ((fields ns ++ 10 ∷ []) ++ rest) ≡ false
no-digit [] rest = refl
no-digit (n ∷ ns) rest = refl

-- the text behind the first number of a line
line-rest : (n : ℕ) (ns rest : List ℕ)
    → (fields (n ∷ ns) ++ 10 ∷ []) ++ rest ≡ field n ++ ((fields ns ++ 10 ∷ []) ++ rest)
line-rest n ns rest =
    ap (λ (xs : List ℕ). xs ++ rest) (append_assoc (field n) (fields ns) (10 ∷ []))
    ∙ append_assoc (field n) (fields ns ++ 10 ∷ []) rest

number-goes : (n : ℕ) (ns rest : List ℕ) → n < most
    → number_in most ((fields (n ∷ ns) ++ 10 ∷ []) ++ rest) ≡ Some (n, (fields ns ++ 10 ∷ []) ++ rest)
number-goes n ns rest low =
    ap (number_in most) (line-rest n ns rest)
    ∙ number-reads most n ((fields ns ++ 10 ∷ []) ++ rest) low (omega arith) (no-digit ns rest)

numbers-read : (room : ℕ) (before ns rest : List ℕ) → length ns ≤ room → AreSmall ns
    → numbers_in room before ((fields ns ++ 10 ∷ []) ++ rest) ≡ Some (before ++ ns, rest)
unfolding numbers_in word_in
numbers-read zero before [] rest few low = ap (λ xs. Some (xs, rest)) (sym (append-nil before))
numbers-read zero before (n ∷ ns) rest few low = absurd (omega (arith, few))
numbers-read (suc room) before [] rest few low = ap (λ xs. Some (xs, rest)) (sym (append-nil before))
numbers-read (suc room) before (n ∷ ns) rest few low =
    ap (λ o. o >>= (λ (number : ℕ × List ℕ). numbers_in room (before ++ number.0 ∷ []) number.1))
    (number-goes n ns rest (All-head (λ actor. actor < most) n ns low))
    ∙ numbers-read room (before ++ n ∷ []) ns rest (omega (arith, few)) (All-tail (λ actor. actor < most) n ns low)
    ∙ ap (λ xs. Some (xs, rest)) (append_assoc before (n ∷ []) ns)

-- the numbers of one line, of which there is one at least
order-reads : (before : List ℕ) (n : ℕ) (ns rest : List ℕ) → length ns ≤ 63 → AreSmall (n ∷ ns)
    → order_in before ((fields (n ∷ ns) ++ 10 ∷ []) ++ rest) ≡ Some (before ++ n ∷ ns, rest)
order-reads before n ns rest few low =
    ap (λ o. o >>= (λ (number : ℕ × List ℕ). numbers_in 63 (before ++ number.0 ∷ []) number.1))
    (number-goes n ns rest (All-head (λ actor. actor < most) n ns low))
    ∙ numbers-read 63 (before ++ n ∷ []) ns rest few (All-tail (λ actor. actor < most) n ns low)
    ∙ ap (λ xs. Some (xs, rest)) (append_assoc before (n ∷ []) ns)

begins : (before : List ℕ) (some none : Result (List ℕ × List ℕ) ℕ) → length before % 64 ≡ 0
    → cond (eqb (length before % 64) 0) some none ≡ some
begins before some none full = ap (λ k. cond (eqb k 0) some none) full

-- one line of the order
order-goes : (fuel : ℕ) (before : List ℕ) (n : ℕ) (ns rest : List ℕ) → length before % 64 ≡ 0 → length ns ≤ 63
    → AreSmall (n ∷ ns) → orders_in (suc fuel) before (order_line (n ∷ ns) ++ rest)
    ≡ orders_in fuel (before ++ n ∷ ns) rest
unfolding orders_in
order-goes fuel before n ns rest full few low =
    begins before _ _ full
    ∙ ap (λ o. in_order before (order_line (n ∷ ns) ++ rest) o (λ more.
    or_lines (order_line_count before) (order_in before more) (λ found. orders_in fuel found.0 found.1)))
    (word-reads (codes "order") ((fields (n ∷ ns) ++ 10 ∷ []) ++ rest))
    ∙ ap (λ o. or_lines (order_line_count before) o (λ (found : List ℕ × List ℕ). orders_in fuel found.0 found.1))
    (order-reads before n ns rest few low)

either : (t : Bool) (before tail : List ℕ) {o : Option (List ℕ)} (next : List ℕ → Result (List ℕ × List ℕ) ℕ) → o ≡ None
    → cond t (in_order before tail o next) (Ok (before, tail)) ≡ Ok (before, tail)
either true before tail next none = ap (λ p. in_order before tail p next) none
either false before tail next none = refl

-- the order has ended
order-ends : (fuel : ℕ) (before tail : List ℕ) → word_in (codes "order") tail ≡ None
    → orders_in fuel before tail ≡ Ok (before, tail)
unfolding orders_in
order-ends zero before tail stop = refl
order-ends (suc fuel) before tail stop =
    either (eqb (length before % 64) 0) before tail _ stop

-- the lines of numbers, cut into at most so many pieces
abbrev pub lines_for : ℕ → List ℕ → List ℕ
lines_for most_pieces ns = concat (map order_line (pieces_within most_pieces ns))

-- behind a line that is full another may come, and none behind another
abbrev MayGoOn : List ℕ → List ℕ → Type 0
MayGoOn before ns = (length before % 64 ≡ 0) ⊎ (ns ≡ [])

goes-on : (before : List ℕ) (n : ℕ) (ns : List ℕ) → length before % 64 ≡ 0
    → MayGoOn (before ++ n ∷ take 63 ns) (drop 63 ns)
goes-on before n ns full = elim (cases_lt (length ns) 63) [
  | inr long ↦ inl (
      let count : length (before ++ n ∷ take 63 ns) ≡ length before + 64 =
      length-append before (n ∷ take 63 ns) ∙ omega (arith, length-take 63 ns, long) in
      omega (arith, count, full))
  | inl short ↦ inr (drop_all 63 ns (omega (arith, short)))
]

orders-read : (fuel room : ℕ) (before ns tail : List ℕ) → length ns ≤ room
    → length (lines_for room ns ++ tail) ≤ fuel → AreSmall ns → MayGoOn before ns
    → word_in (codes "order") tail ≡ None
    → orders_in fuel before (lines_for room ns ++ tail) ≡ Ok (before ++ ns, tail)
orders-read fuel zero before [] tail few fits low may stop =
    order-ends fuel before tail stop ∙ ap (λ xs. Ok (xs, tail)) (sym (append-nil before))
orders-read fuel (suc room) before [] tail few fits low may stop =
    order-ends fuel before tail stop ∙ ap (λ xs. Ok (xs, tail)) (sym (append-nil before))
orders-read fuel zero before (n ∷ ns) tail few fits low may stop = absurd (omega (arith, few))
orders-read zero (suc room) before (n ∷ ns) tail few fits low may stop = absurd (omega (arith, fits))
orders-read (suc fuel) (suc room) before (n ∷ ns) tail few fits low (inr none) stop =
    let bad : n ∷ ns ≡ [] = none in cc
orders-read (suc fuel) (suc room) before (n ∷ ns) tail few fits low (inl full) stop =
    let rest : List ℕ = lines_for room (drop 63 ns) ++ tail in
    let joined : lines_for (suc room) (n ∷ ns) ++ tail ≡ order_line (n ∷ take 63 ns) ++ rest =
    append_assoc (order_line (n ∷ take 63 ns)) (lines_for room (drop 63 ns)) tail in
    let short : length rest ≤ fuel =
    omega (arith, fits, ap length joined, length-append (order_line (n ∷ take 63 ns)) rest) in
    ap (orders_in (suc fuel) before) joined
    ∙ order-goes fuel before n (take 63 ns) rest full (omega (arith, length-take 63 ns)) (small-take n ns low)
    ∙ orders-read fuel room (before ++ n ∷ take 63 ns) (drop 63 ns) tail
    (omega (arith, few, length-drop 63 ns)) short (small-drop n ns low) (goes-on before n ns full) stop
    ∙ ap (λ xs. Ok (xs, tail)) (append_assoc before (n ∷ take 63 ns) (drop 63 ns)
    ∙ ap (λ (xs : List ℕ). before ++ n ∷ xs) (take-append-drop 63 ns))
  where
    small-take : (n : ℕ) (ns : List ℕ) → AreSmall (n ∷ ns) → AreSmall (n ∷ take 63 ns)
    small-take n ns low = All-take (λ actor. actor < most) 64 (n ∷ ns) low

    small-drop : (n : ℕ) (ns : List ℕ) → AreSmall (n ∷ ns) → AreSmall (drop 63 ns)
    small-drop n ns low = All-drop (λ actor. actor < most) 64 (n ∷ ns) low

-- ---- the whole

same-count : (lines : ℕ) {n : ℕ} (outcome : Outcome) → n ≡ length outcome.order
    → ends_with lines (Some (n, [])) outcome ≡ Ok outcome
same-count lines outcome same = grind (arith, nat_tests)

end-reads : (outcome : Outcome) → length outcome.order < most
    → report_end outcome (last_line (length outcome.order) ++ []) ≡ Ok outcome
end-reads outcome low =
    ap (λ o. ends_with (lines_before_end outcome) o outcome)
    (closing-reads (codes "end") (length outcome.order) [] low)
    ∙ same-count (lines_before_end outcome) outcome refl

pub text-parts : (outcome : Outcome)
    → report_of outcome ≡ concat (map call_line outcome.calls)
    ++ (lines_for (length outcome.order) outcome.order ++ (last_line (length outcome.order) ++ []))
text-parts outcome =
    let lines : List (List ℕ) = map order_line (pieces_within (length outcome.order) outcome.order) in
    let last : List (List ℕ) = last_line (length outcome.order) ∷ [] in
    concat-append (map call_line outcome.calls ++ lines) last
    ∙ ap (λ (xs : List ℕ). xs ++ concat last) (concat-append (map call_line outcome.calls) lines)
    ∙ append_assoc (concat (map call_line outcome.calls)) (concat lines) (concat last)

pub report-reads : ReportsAreRead
unfolding word_in
report-reads bounds slots outcome few short form =
    let tail : List ℕ = last_line (length outcome.order) ++ [] in
    let lines : List ℕ = lines_for (length outcome.order) outcome.order ++ tail in
    ap (λ s. report_in bounds s (report_of outcome)) (sym form.slots_are)
    ∙ ap (report_in bounds (map slot_told outcome.calls)) (text-parts outcome)
    ∙ ap (λ r. and_then r (λ (calls : List Done × List ℕ).
    and_then (lines_more (length calls.0) (orders_in (length calls.1) [] calls.1))
    (λ (order : List ℕ × List ℕ). report_end (record { calls = calls.0; order = order.0 }) order.1)))
    (calls-read bounds [] outcome.calls lines few short form.calls)
    ∙ ap (λ r. and_then (lines_more (length outcome.calls) r)
    (λ (order : List ℕ × List ℕ). report_end (record { calls = outcome.calls; order = order.0 }) order.1))
    (orders-read (length lines) (length outcome.order) [] outcome.order tail (omega arith) (omega arith) form.order
    (inl refl) refl)
    ∙ end-reads outcome form.visits
