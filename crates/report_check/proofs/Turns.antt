-- One step of the loops over the lines of a report.
use Rattle.std.proofs.Common.{◌≡◌, ◌≢◌, ℕ, suc, ◌+◌, ◌-◌, ◌%◌, ◌<◌, ◌≤◌, true, false, cond, eqb, List, [], ◌∷◌, ◌++◌, length, drop, get_or, Option, Some, None, IfSome, IfNone, is_some, Ok, Err, ap, ◌∙◌, arith, codes}
use Rattle.std.proofs.lemmas.Bool.Decides.{nat_tests}
use Rattle.std.proofs.lemmas.List.{drop_more, drop_all}
use Rattle.directory.specs.declared.answers.Done.{Done}
use Rattle.report_check.specs.declared.calls.Bounds.{Bounds}
use Rattle.report_check.specs.declared.slots.Slot.{Slot}
use Rattle.report_check.specs.ReadLines.{IsReadLine}
use Rattle.report_check.specs.Reading.{◌>>=◌, call_in, calls_in, ended, in_order, most, number_in, numbers_in, or_lines, order_in, order_line_count, orders_in, word_in}

pub calls-bad : (bounds : Bounds) (before : List Done) (slots : List Slot) (i : ℕ) (d : Slot) (text : List ℕ)
    → i < length slots → call_in bounds (get_or slots i d) text ≡ None
    → calls_in bounds before (drop i slots) text ≡ Err (length before)
unfolding calls_in
calls-bad bounds before slots i d text low none =
    ap (λ ss. calls_in bounds before ss text) (drop_more slots i d low)
    ∙ ap (λ o. or_lines (length before) o
    (λ found. calls_in bounds (before ++ found.0 ∷ []) (drop (i + 1) slots) found.1)) none

pub calls-more : (bounds : Bounds) (before : List Done) (slots : List Slot) (i : ℕ) (d : Slot) (text rest : List ℕ)
    (call : Done) → i < length slots → call_in bounds (get_or slots i d) text ≡ Some (call, rest)
    → calls_in bounds before (drop i slots) text ≡ calls_in bounds (before ++ call ∷ []) (drop (i + 1) slots) rest
unfolding calls_in
calls-more bounds before slots i d text rest call low found =
    ap (λ ss. calls_in bounds before ss text) (drop_more slots i d low)
    ∙ ap (λ o. or_lines (length before) o
    (λ found. calls_in bounds (before ++ found.0 ∷ []) (drop (i + 1) slots) found.1)) found

pub calls-done : (bounds : Bounds) (before : List Done) (slots : List Slot) (i : ℕ) (text : List ℕ)
    → length slots ≤ i → calls_in bounds before (drop i slots) text ≡ Ok (before, text)
unfolding calls_in
calls-done bounds before slots i text high = ap (λ ss. calls_in bounds before ss text) (drop_all i slots high)

left : (n i : ℕ) → i < n → n - i ≡ suc (n - (i + 1))
left n i low = omega (arith, low)

none-left : (n i : ℕ) → n ≤ i → n - i ≡ 0
none-left n i high = omega (arith, high)

pub numbers-ended : (room i : ℕ) (before text : List ℕ) {rest : List ℕ} → i < room → word_in (10 ∷ []) text ≡ Some rest
    → numbers_in (room - i) before text ≡ Some (before, rest)
unfolding numbers_in
numbers-ended room i before text low e =
    ap (λ n. numbers_in n before text) (left room i low)
    ∙ ap (λ o. ended before o (number_in most text >>= (λ number.
    numbers_in (room - (i + 1)) (before ++ number.0 ∷ []) number.1))) e

pub numbers-missing : (room i : ℕ) (before text : List ℕ) → i < room → word_in (10 ∷ []) text ≡ None
    → number_in most text ≡ None → numbers_in (room - i) before text ≡ None
unfolding numbers_in
numbers-missing room i before text low e none =
    ap (λ n. numbers_in n before text) (left room i low)
    ∙ ap (λ o. ended before o (number_in most text >>= (λ number.
    numbers_in (room - (i + 1)) (before ++ number.0 ∷ []) number.1))) e
    ∙ ap (λ (o : Option (ℕ × List ℕ)). o >>= (λ number.
    numbers_in (room - (i + 1)) (before ++ number.0 ∷ []) number.1)) none

pub numbers-more : (room i : ℕ) (before text rest : List ℕ) (n : ℕ) → i < room → word_in (10 ∷ []) text ≡ None
    → number_in most text ≡ Some (n, rest)
    → numbers_in (room - i) before text ≡ numbers_in (room - (i + 1)) (before ++ n ∷ []) rest
unfolding numbers_in
numbers-more room i before text rest n low e found =
    ap (λ k. numbers_in k before text) (left room i low)
    ∙ ap (λ o. ended before o (number_in most text >>= (λ number.
    numbers_in (room - (i + 1)) (before ++ number.0 ∷ []) number.1))) e
    ∙ ap (λ (o : Option (ℕ × List ℕ)). o >>= (λ number.
    numbers_in (room - (i + 1)) (before ++ number.0 ∷ []) number.1)) found

pub numbers-last : (room i : ℕ) (before text : List ℕ) → room ≤ i
    → numbers_in (room - i) before text ≡ (word_in (10 ∷ []) text >>= (λ rest. Some (before, rest)))
unfolding numbers_in
numbers-last room i before text high = ap (λ n. numbers_in n before text) (none-left room i high)

pub orders-short : (n i : ℕ) (before text : List ℕ) → i < n → length before % 64 ≢ 0
    → orders_in (n - i) before text ≡ Ok (before, text)
unfolding orders_in
orders-short n i before text low short =
    ap (λ k. orders_in k before text) (left n i low) ∙ otherwise (length before % 64) _ _ short
  where
    otherwise : {A : Type 0} (k : ℕ) (x y : A) → k ≢ 0 → cond (eqb k 0) x y ≡ y
    otherwise k x y e = grind (arith, nat_tests)

full : {A : Type 0} {k : ℕ} (x y : A) → k ≡ 0 → cond (eqb k 0) x y ≡ x
full x y e = grind (arith, nat_tests)

pub orders-none : (n i : ℕ) (before text : List ℕ) → i < n → length before % 64 ≡ 0
    → word_in (codes "order") text ≡ None → orders_in (n - i) before text ≡ Ok (before, text)
unfolding orders_in
orders-none n i before text low whole none =
    ap (λ k. orders_in k before text) (left n i low)
    ∙ full _ _ whole
    ∙ ap (λ o. in_order before text o (λ rest. or_lines (order_line_count before) (order_in before rest)
    (λ found. orders_in (n - (i + 1)) found.0 found.1))) none

pub orders-bad : (n i : ℕ) (before text : List ℕ) {rest : List ℕ} → i < n → length before % 64 ≡ 0
    → word_in (codes "order") text ≡ Some rest → order_in before rest ≡ None
    → orders_in (n - i) before text ≡ Err (order_line_count before)
unfolding orders_in
orders-bad n i before text {rest} low whole some none =
    ap (λ k. orders_in k before text) (left n i low)
    ∙ full _ _ whole
    ∙ ap (λ o. in_order before text o (λ rest. or_lines (order_line_count before) (order_in before rest)
    (λ found. orders_in (n - (i + 1)) found.0 found.1))) some
    ∙ ap (λ o. or_lines (order_line_count before) o (λ found. orders_in (n - (i + 1)) found.0 found.1)) none

pub orders-more : (n i : ℕ) (before text : List ℕ) {rest : List ℕ} (now later : List ℕ) → i < n → length before % 64 ≡ 0
    → word_in (codes "order") text ≡ Some rest → order_in before rest ≡ Some (now, later)
    → orders_in (n - i) before text ≡ orders_in (n - (i + 1)) now later
unfolding orders_in
orders-more n i before text {rest} now later low whole some found =
    ap (λ k. orders_in k before text) (left n i low)
    ∙ full _ _ whole
    ∙ ap (λ o. in_order before text o (λ rest. or_lines (order_line_count before) (order_in before rest)
    (λ found. orders_in (n - (i + 1)) found.0 found.1))) some
    ∙ ap (λ o. or_lines (order_line_count before) o (λ found. orders_in (n - (i + 1)) found.0 found.1)) found

pub orders-last : (n i : ℕ) (before text : List ℕ) → n ≤ i → orders_in (n - i) before text ≡ Ok (before, text)
unfolding orders_in
orders-last n i before text high = ap (λ k. orders_in k before text) (none-left n i high)

-- what an answer tells, by whether it is there
pub if-some : {A P : Type 0} (o : Option A) → is_some o ≡ true → IfSome o (λ x. P) → P
if-some None there p = let bad : false ≡ true = there in cc
if-some (Some x) there p = p

pub if-none : {A P : Type 0} (o : Option A) → is_some o ≡ false → IfNone o P → P
if-none None there p = p
if-none (Some x) there p = let bad : true ≡ false = there in cc

pub read-none : (found : Option (List ℕ × List ℕ)) (o : Option (Unit {0})) (numbers rest : List ℕ)
    → is_some o ≡ false → IsReadLine found o numbers rest → found ≡ None
read-none found None numbers rest there is = is
read-none found (Some x) numbers rest there is = let bad : true ≡ false = there in cc

pub read-some : (found : Option (List ℕ × List ℕ)) (o : Option (Unit {0})) (numbers rest : List ℕ)
    → is_some o ≡ true → IsReadLine found o numbers rest → found ≡ Some (numbers, rest)
read-some found None numbers rest there is = let bad : false ≡ true = there in cc
read-some found (Some x) numbers rest there is = is

-- the last byte of a line, read as a line
pub last-read : (room i : ℕ) (before text rest : List ℕ) {whole : Option (List ℕ × List ℕ)} (o : Option (Unit {0}))
    → room ≤ i → whole ≡ numbers_in (room - i) before text → IfSome o (λ done. word_in (10 ∷ []) text ≡ Some rest)
    → IfNone o (word_in (10 ∷ []) text ≡ None) → IsReadLine whole o before rest
last-read room i before text rest None high is some none =
    is ∙ numbers-last room i before text high ∙ ap (λ (t : Option (List ℕ)). t >>= (λ rest. Some (before, rest))) none
last-read room i before text rest (Some x) high is some none =
    is ∙ numbers-last room i before text high ∙ ap (λ (t : Option (List ℕ)). t >>= (λ rest. Some (before, rest))) some

pub full-too : {n m : ℕ} → n ≡ m → m % 64 ≡ 0 → n % 64 ≡ 0
full-too e h = ap (λ k. k % 64) e ∙ h
