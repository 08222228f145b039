-- One step of each reading loop.
use Rattle.std.proofs.lemmas.Bool.{le-ltb, lt-ltb, cases_Bool}
use Rattle.std.proofs.Common.{inl, inr, ◌≡◌, ◌≢◌, ℕ, suc, ◌+◌, ◌-◌, ◌*◌, ◌<◌, ◌≤◌, true, false, cond, eqb, ltb, List, [], ◌∷◌, ◌++◌, append_assoc, append-nil, add-one, length, drop, get_or, Option, Some, None, IfNone, refl, ap, sym, ◌∙◌, arith}
use Rattle.std.proofs.lemmas.Bool.Decides.{nat_tests}
use Rattle.std.proofs.lemmas.List.{drop_more, drop_all}
use Rattle.std.specs.Char.{is_ascii_digit}
use Rattle.net_reader.specs.declared.said.Call.{Call}
use Rattle.net_reader.specs.declared.said.Call.TheVariants as calls
use Rattle.outside.specs.Texts.{field, fields}
use Rattle.directory.specs.declared.answers.Done.{Done}
use Rattle.report_check.specs.Parts.{first_from, is_of_move, meets_from}
use Rattle.report_check.specs.declared.slots.Slot.{Slot}
use Rattle.report_check.specs.Reading.{digits_from, word_in}
use Rattle.report_check.specs.Slots.{number_after, place_after, slot_of, slots_in, slots_from}

pub word-ended : (ws : List ℕ) (i : ℕ) (text : List ℕ) → i < length ws → length text < 1
    → word_in (drop i ws) text ≡ None
unfolding word_in
word-ended ws i [] low none = ap (λ xs. word_in xs []) (drop_more ws i 0 low)
word-ended ws i (b ∷ text) low none = absurd (omega (arith, none))

pick-yes : {A : Type 0} {x y : ℕ} (a b : A) → x ≡ y → cond (eqb x y) a b ≡ a
pick-yes a b e = grind (arith, nat_tests)

pick-no : {A : Type 0} (x y : ℕ) (a b : A) → x ≢ y → cond (eqb x y) a b ≡ b
pick-no x y a b e = grind (arith, nat_tests)

pub word-goes : (ws : List ℕ) (i : ℕ) (text : List ℕ) → i < length ws → 1 ≤ length text
    → get_or text 0 0 ≡ get_or ws i 0 → word_in (drop i ws) text ≡ word_in (drop (i + 1) ws) (drop 1 text)
unfolding word_in
word-goes ws i [] low some same = absurd (omega (arith, some))
word-goes ws i (b ∷ text) low some same =
    ap (λ xs. word_in xs (b ∷ text)) (drop_more ws i 0 low)
    ∙ pick-yes (word_in (drop (i + 1) ws) text) None (sym same)

pub word-differs : (ws : List ℕ) (i : ℕ) (text : List ℕ) → i < length ws → 1 ≤ length text
    → get_or ws i 0 ≢ get_or text 0 0 → word_in (drop i ws) text ≡ None
unfolding word_in
word-differs ws i [] low some other = absurd (omega (arith, some))
word-differs ws i (b ∷ text) low some other =
    ap (λ xs. word_in xs (b ∷ text)) (drop_more ws i 0 low)
    ∙ pick-no (get_or ws i 0) b (word_in (drop (i + 1) ws) text) None other

pub word-done : (ws : List ℕ) (i : ℕ) (text : List ℕ) → length ws ≤ i → word_in (drop i ws) text ≡ Some text
unfolding word_in
word-done ws i text high = ap (λ xs. word_in xs text) (drop_all i ws high)

pub digits-more : (limit value : ℕ) (text : List ℕ) → 1 ≤ length text → is_ascii_digit (get_or text 0 0) ≡ true
    → 10 * value + (get_or text 0 0 - 48) < limit
    → digits_from limit value text ≡ digits_from limit (10 * value + (get_or text 0 0 - 48)) (drop 1 text)
unfolding digits_from
digits-more limit value [] some digit low = absurd (omega (arith, some))
digits-more limit value (b ∷ text) some digit low =
    rw (digit, lt-ltb (10 * value + (b - 48)) limit low) refl

pub digits-over : (limit value : ℕ) (text : List ℕ) → 1 ≤ length text → is_ascii_digit (get_or text 0 0) ≡ true
    → limit ≤ 10 * value + (get_or text 0 0 - 48) → digits_from limit value text ≡ None
unfolding digits_from
digits-over limit value [] some digit high = absurd (omega (arith, some))
digits-over limit value (b ∷ text) some digit high =
    rw (digit, le-ltb (10 * value + (b - 48)) limit high) refl

pub digits-stop : (limit value : ℕ) (text : List ℕ) → 1 ≤ length text → is_ascii_digit (get_or text 0 0) ≡ false
    → digits_from limit value text ≡ Some (value, text)
unfolding digits_from
digits-stop limit value [] some other = absurd (omega (arith, some))
digits-stop limit value (b ∷ text) some other =
    ap (λ t. cond t (cond (ltb (10 * value + (b - 48)) limit) (digits_from limit (10 * value + (b - 48)) text) None)
    (Some (value, b ∷ text))) other

pub digits-end : (limit value : ℕ) (text : List ℕ) → length text < 1 → digits_from limit value text ≡ Some (value, text)
unfolding digits_from
digits-end limit value [] none = refl
digits-end limit value (b ∷ text) none = absurd (omega (arith, none))

pub number-few : (n : ℕ) (call : Call) → number_after n call ≤ n + 1
number-few n (calls.Move to) = omega arith
number-few n (calls.Find from sub) = omega arith
number-few n calls.Off = omega arith
number-few n calls.On = omega arith

pub number-step : (n : ℕ) {m : ℕ} (call : Call) (i : ℕ) → n ≤ i → m ≡ number_after n call → m ≤ i + 1
number-step n call i few is = omega (arith, few, is, number-few n call)

pub slots-step : (before : List Slot) {now whole : List Slot} {slot : Slot} (a p n : ℕ) {q m : ℕ} (script : List Call)
    (i : ℕ) (d : Call) → i < length script → now ≡ before ++ slot ∷ [] → slot ≡ slot_of a p n (get_or script i d)
    → q ≡ place_after p (get_or script i d) → m ≡ number_after n (get_or script i d)
    → before ++ slots_in a p n (drop i script) ≡ whole → now ++ slots_in a q m (drop (i + 1) script) ≡ whole
unfolding slots_in
slots-step before {slot} a p n {q} {m} script i d low grown is place number same =
    let more : slots_in a p n (drop i script)
    ≡ slot_of a p n (get_or script i d)
    ∷ slots_in a (place_after p (get_or script i d)) (number_after n (get_or script i d)) (drop (i + 1) script) =
    ap (slots_in a p n) (drop_more script i d low) in
    ap (λ xs. xs ++ slots_in a q m (drop (i + 1) script)) grown
    ∙ append_assoc before (slot ∷ []) (slots_in a q m (drop (i + 1) script))
    ∙ ap (λ s. before ++ s ∷ slots_in a q m (drop (i + 1) script)) is
    ∙ ap (λ k. before ++ slot_of a p n (get_or script i d) ∷ slots_in a k m (drop (i + 1) script)) place
    ∙ ap (λ k. before ++ slot_of a p n (get_or script i d)
    ∷ slots_in a (place_after p (get_or script i d)) k (drop (i + 1) script)) number
    ∙ ap (λ (ys : List Slot). before ++ ys) (sym more)
    ∙ same

pub slots-done : (before : List Slot) {whole : List Slot} (a p n : ℕ) (script : List Call) (i : ℕ) → length script ≤ i
    → before ++ slots_in a p n (drop i script) ≡ whole → before ≡ whole
unfolding slots_in
slots-done before a p n script i high same =
    sym (append-nil before) ∙ ap (λ (ys : List Slot). before ++ ys) (sym (ap (slots_in a p n) (drop_all i script high)))
    ∙ same

pub scripts-step : (homes : List ℕ) (before : List Slot) {now whole : List Slot} (a : ℕ) (scripts : List (List Call))
    {script : List Call} → a < length scripts → get_or scripts a [] ≡ script
    → now ≡ before ++ slots_in a (get_or homes a 0) 0 script → before ++ slots_from homes a (drop a scripts) ≡ whole
    → now ++ slots_from homes (a + 1) (drop (a + 1) scripts) ≡ whole
unfolding slots_from
scripts-step homes before a scripts {script} low is grown same =
    let more : slots_from homes a (drop a scripts)
    ≡ slots_in a (get_or homes a 0) 0 (get_or scripts a []) ++ slots_from homes (a + 1) (drop (a + 1) scripts) =
    ap (slots_from homes a) (drop_more scripts a [] low)
    ∙ ap (λ k. slots_in a (get_or homes a 0) 0 (get_or scripts a []) ++ slots_from homes k (drop (a + 1) scripts))
    (sym (add-one a)) in
    ap (λ xs. xs ++ slots_from homes (a + 1) (drop (a + 1) scripts)) grown
    ∙ append_assoc before (slots_in a (get_or homes a 0) 0 script) (slots_from homes (a + 1) (drop (a + 1) scripts))
    ∙ ap (λ s. before ++ (slots_in a (get_or homes a 0) 0 s ++ slots_from homes (a + 1) (drop (a + 1) scripts)))
    (sym is)
    ∙ ap (λ (ys : List Slot). before ++ ys) (sym more)
    ∙ same

pub scripts-done : (homes : List ℕ) (before : List Slot) {whole : List Slot} (a : ℕ) (scripts : List (List Call))
    → length scripts ≤ a → before ++ slots_from homes a (drop a scripts) ≡ whole → before ≡ whole
unfolding slots_from
scripts-done homes before a scripts high same =
    sym (append-nil before)
    ∙ ap (λ (ys : List Slot). before ++ ys) (sym (ap (slots_from homes a) (drop_all a scripts high)))
    ∙ same

pub pass-none : {A : Type 0} {P : Type 0} (o : Option A) → P → IfNone o P
pass-none None p = p
pass-none (Some x) p = tt

-- two texts, one behind the other
pub word-then : (xs ys text : List ℕ) {mid : List ℕ} → word_in xs text ≡ Some mid
    → word_in (xs ++ ys) text ≡ word_in ys mid
unfolding word_in
word-then [] ys text {mid} e = let same : text ≡ mid = cc in rw same refl
word-then (x ∷ xs) ys [] e = cc
word-then (x ∷ xs) ys (b ∷ text) {mid} e = elim (cases_Bool (eqb x b)) [
  | inl is ↦ rw is (word-then xs ys text (rw is at e))
  | inr is ↦ let bad : None ≡ Some mid = rw is at e in cc
]

pub word-missing : (xs ys text : List ℕ) → word_in xs text ≡ None → word_in (xs ++ ys) text ≡ None
unfolding word_in
word-missing [] ys text e = let bad : Some text ≡ None = e in cc
word-missing (x ∷ xs) ys [] e = refl
word-missing (x ∷ xs) ys (b ∷ text) e = elim (cases_Bool (eqb x b)) [
  | inl is ↦ rw is (word-missing xs ys text (rw is at e))
  | inr is ↦ rw is refl
]

pub fields-step : (numbers : List ℕ) (i : ℕ) (text : List ℕ) {mid : List ℕ} → i < length numbers
    → word_in (field (get_or numbers i 0)) text ≡ Some mid → word_in (fields (drop i numbers)) text ≡ word_in
    (fields (drop (i + 1) numbers)) mid
fields-step numbers i text low e =
    rw (drop_more numbers i 0 low) (word-then (field (get_or numbers i 0)) (fields (drop (i + 1) numbers)) text e)

pub fields-missing : (numbers : List ℕ) (i : ℕ) (text : List ℕ) → i < length numbers
    → word_in (field (get_or numbers i 0)) text ≡ None → word_in (fields (drop i numbers)) text ≡ None
fields-missing numbers i text low e =
    rw (drop_more numbers i 0 low) (word-missing (field (get_or numbers i 0)) (fields (drop (i + 1) numbers)) text e)

pub first-step : (order : List ℕ) (a t : ℕ) → t < length order → get_or order t 0 ≢ a
    → first_from a t (drop t order) ≡ first_from a (t + 1) (drop (t + 1) order)
unfolding first_from
first-step order a t low other =
    ap (first_from a t) (drop_more order t 0 low)
    ∙ pick-no (get_or order t 0) a (Some t) (first_from a (suc t) (drop (t + 1) order)) other
    ∙ ap (λ k. first_from a k (drop (t + 1) order)) (sym (add-one t))

pub first-found : (order : List ℕ) {a : ℕ} (t : ℕ) → t < length order → get_or order t 0 ≡ a
    → first_from a t (drop t order) ≡ Some t
unfolding first_from
first-found order {a} t low same =
    rw (drop_more order t 0 low) (pick-yes (Some t) (first_from a (suc t) (drop (t + 1) order)) same)

pub first-none : (order : List ℕ) (a t : ℕ) → length order ≤ t → first_from a t (drop t order) ≡ None
unfolding first_from
first-none order a t high = ap (first_from a t) (drop_all t order high)

pub meets-last : (calls : List Done) (order : List ℕ) (sub last t : ℕ) → t < length order → last ≤ t
    → meets_from calls sub last t (drop t order) ≡ false
unfolding meets_from
meets-last calls order sub last t low high =
    rw (drop_more order t 0 low, le-ltb t last high) refl

pub meets-here : (calls : List Done) (order : List ℕ) (sub last t : ℕ) → t < length order → t < last
    → is_of_move calls sub t (get_or order t 0) ≡ true → meets_from calls sub last t (drop t order) ≡ true
unfolding meets_from
meets-here calls order sub last t low early moving =
    rw (drop_more order t 0 low, lt-ltb t last early, moving) refl

pub meets-step : (calls : List Done) (order : List ℕ) (sub last t : ℕ) → t < length order → t < last
    → is_of_move calls sub t (get_or order t 0) ≡ false
    → meets_from calls sub last t (drop t order) ≡ meets_from calls sub last (t + 1) (drop (t + 1) order)
unfolding meets_from
meets-step calls order sub last t low early other =
    rw (drop_more order t 0 low, lt-ltb t last early, other, add-one t) refl

pub meets-none : (calls : List Done) (order : List ℕ) (sub last t : ℕ) → length order ≤ t
    → meets_from calls sub last t (drop t order) ≡ false
unfolding meets_from
meets-none calls order sub last t high = ap (meets_from calls sub last t) (drop_all t order high)
