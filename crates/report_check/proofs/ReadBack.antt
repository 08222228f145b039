-- What report_text writes of an outcome of the form of reports is read as the outcome.
use Rattle.std.proofs.Common.{◌≡◌, ℕ, zero, suc, ◌+◌, ◌-◌, ◌*◌, ◌^◌, ◌<◌, ◌≤◌, Bool, true, false, cond, eqb, ltb, List, [], ◌∷◌, ◌++◌, length, get_or, Option, Some, None, refl, ap, sym, ◌∙◌, arith, codes, rules, append_assoc, append-nil}
use Rattle.std.proofs.lemmas.Bool.{and_parts}
use Rattle.std.proofs.lemmas.Bool.Decides.{nat_tests}
use Rattle.std.proofs.lemmas.Fmt.{digits_decimal, digits_value-decimal, first_decimal, decimal_digit, decimal_nonempty}
use Rattle.std.proofs.lemmas.Str.Parse.{IsNumeralModel, numerals_by_fold}
use Rattle.std.specs.Char.{is_ascii_digit}
use Rattle.std.specs.Fmt.{decimal}
use Rattle.std.specs.List.{list_all}
use Rattle.outside.specs.Texts.{field, fields}
use Rattle.directory.specs.declared.answers.Done.{Done}
use Rattle.directory.specs.declared.answers.Done.TheVariants.{Moved, Switched, Found, Off, Again}
use Rattle.directory.specs.declared.answers.Why.{Why}
use Rattle.directory.specs.declared.answers.Why.TheVariants.{Empty, NoEntry, Chased}
use Rattle.report_text.specs.ReportText.{call_line, level_field, place_fields, switch_field, visit_fields, why_field}
use Rattle.report_check.specs.declared.calls.Bounds.{Bounds}
use Rattle.report_check.specs.Forms.{IsCallBelow, IsLevelBelow, IsWhyBelow, slot_told}
use Rattle.report_check.specs.Reading.{◌>>=◌, again_in, answer, answer_in, call_in, closing_in, digits_from, digits_in, digits_of, given_in, labelled_in, level_in, level_or_dash, most, move_in, number_in, place_in, starts_with_digit, switch_in, visits_in, why_in, word_in}

-- ---- words and numbers

same-byte : (w : ℕ) (some : Option (List ℕ)) → cond (eqb w w) some None ≡ some
same-byte w some = grind (arith, nat_tests)

-- a word that stands there is read
pub word-reads : (ws rest : List ℕ) → word_in ws (ws ++ rest) ≡ Some rest
unfolding word_in
word-reads [] rest = refl
word-reads (w ∷ ws) rest = same-byte w (word_in ws (ws ++ rest)) ∙ word-reads ws rest

-- the number that digits write behind another
abbrev pub read_on : ℕ → List ℕ → ℕ
read_on n [] = n
read_on n (c ∷ cs) = read_on (10 * n + (c - 48)) cs

pub reads_numerals : IsNumeralModel (λ ds. list_all is_ascii_digit ds ≡ true) (read_on 0)
reads_numerals = numerals_by_fold _ (search rules) read_on (search rules)

-- a number isn't below what it goes on from
grows : (n : ℕ) (ds : List ℕ) → n ≤ read_on n ds
grows n [] = omega arith
grows n (c ∷ cs) = omega (arith, grows (10 * n + (c - 48)) cs)

goes : (limit next b : ℕ) (some : Option (ℕ × List ℕ)) (none : Option (ℕ × List ℕ)) → is_ascii_digit b ≡ true
    → next < limit → cond (is_ascii_digit b) (cond (ltb next limit) some None) none ≡ some
goes limit next b some none digit low =
    ap (λ t. cond t (cond (ltb next limit) some None) none) digit ∙ below (ltb next limit) refl
  where
    below : (t : Bool) → ltb next limit ≡ t → cond t some None ≡ some
    below true e = refl
    below false e = absurd (grind (arith, nat_tests, low))

-- digits are read to their end
digits-go : (limit value : ℕ) (ds rest : List ℕ) → list_all is_ascii_digit ds ≡ true
    → read_on value ds < limit → starts_with_digit rest ≡ false
    → digits_from limit value (ds ++ rest) ≡ Some (read_on value ds, rest)
unfolding digits_from
digits-go limit value [] [] all low stop = refl
digits-go limit value [] (b ∷ rest) all low stop =
    ap (λ t. cond t (cond (ltb (10 * value + (b - 48)) limit)
    (digits_from limit (10 * value + (b - 48)) rest) None) (Some (value, b ∷ rest))) stop
digits-go limit value (c ∷ cs) rest all low stop =
    let both = and_parts (is_ascii_digit c) (list_all is_ascii_digit cs) all in
    goes limit (10 * value + (c - 48)) c (digits_from limit (10 * value + (c - 48)) (cs ++ rest))
    (Some (value, c ∷ cs ++ rest)) both.0 (omega (arith, low, grows (10 * value + (c - 48)) cs))
    ∙ digits-go limit (10 * value + (c - 48)) cs rest both.1 low stop

other-byte : (b : ℕ) (x y : Option (ℕ × List ℕ)) → 48 < b → cond (eqb b 48) x y ≡ y
other-byte b x y high = grind (arith, nat_tests)

-- digits without leading zeros are read as their number
some-digits : (limit : ℕ) {n : ℕ} (ds rest : List ℕ) → 0 < length ds → 48 < get_or ds 0 0
    → list_all is_ascii_digit ds ≡ true → read_on 0 ds ≡ n → n < limit → starts_with_digit rest ≡ false
    → digits_of limit (ds ++ rest) ≡ Some (n, rest)
some-digits limit [] rest some high all is low stop = absurd (omega (arith, some))
some-digits limit (b ∷ ds) rest some high all is low stop =
    other-byte b _ _ high
    ∙ ap (λ t. cond t (digits_from limit 0 (b ∷ ds ++ rest)) None)
    (and_parts (is_ascii_digit b) (list_all is_ascii_digit ds) all).0
    ∙ digits-go limit 0 (b ∷ ds) rest all (omega (arith, is, low)) stop
    ∙ ap (λ k. Some (k, rest)) is

zero-reads : (limit : ℕ) (rest : List ℕ) (t : Bool) → t ≡ false
    → ◌≡◌ {A = Option (ℕ × List ℕ)} (cond {A = Option (ℕ × List ℕ)} t None (Some (0, rest))) (Some (0, rest))
zero-reads limit rest true e = let bad : true ≡ false = e in cc
zero-reads limit rest false e = refl

-- what is written of a number is read as the number
decimal-reads : (limit n : ℕ) (rest : List ℕ) → n < limit → limit ≤ 2 ^ 63 → starts_with_digit rest ≡ false
    → digits_of limit (decimal n ++ rest) ≡ Some (n, rest)
decimal-reads limit zero rest low few stop =
    ap (λ ds. digits_of limit (ds ++ rest)) (decimal_digit 0 (omega arith))
    ∙ zero-reads limit rest (starts_with_digit rest) stop
decimal-reads limit (suc m) rest low few stop =
    let small : suc m < 2 ^ 64 = omega (arith, low, few) in
    some-digits limit (decimal (suc m)) rest (decimal_nonempty (suc m) small)
    (first_decimal (suc m) (omega arith) small) (digits_decimal reads_numerals (suc m) small)
    (digits_value-decimal reads_numerals (suc m) small) low stop

some-limit : (limit n : ℕ) (found : Option (ℕ × List ℕ)) → n < limit → cond (ltb 0 limit) found None ≡ found
some-limit limit n found low = let some : 0 < limit = omega (arith, low) in grind (arith, nat_tests)

-- a number behind a blank is read
pub number-reads : (limit n : ℕ) (rest : List ℕ) → n < limit → limit ≤ 2 ^ 63 → starts_with_digit rest ≡ false
    → number_in limit (field n ++ rest) ≡ Some (n, rest)
number-reads limit n rest low few stop =
    ap (λ o. o >>= digits_in limit) (word-reads (codes " ") (decimal n ++ rest))
    ∙ some-limit limit n (digits_of limit (decimal n ++ rest)) low
    ∙ decimal-reads limit n rest low few stop

-- ---- one part after another

-- where a word stands the reading goes on behind it
pub word-then : {B : Type 0} (ws more rest : List ℕ) (f : List ℕ → Option B) {y : Option B} → f (more ++ rest) ≡ y
    → (word_in ws ((ws ++ more) ++ rest) >>= f) ≡ y
word-then ws more rest f h =
    ap (λ xs. word_in ws xs >>= f) (append_assoc ws more rest)
    ∙ ap (λ o. o >>= f) (word-reads ws (more ++ rest)) ∙ h

-- so it does behind a word and numbers
given-then : {B : Type 0} (word numbers more rest : List ℕ) (f : List ℕ → Option B) {y : Option B}
    → f (more ++ rest) ≡ y → (given_in word numbers ((word ++ (fields numbers ++ more)) ++ rest) >>= f) ≡ y
given-then word numbers more rest f h =
    ap (λ o. o >>= f) (word-then word (fields numbers ++ more) rest (word_in (fields numbers))
    (ap (word_in (fields numbers)) (append_assoc (fields numbers) more rest)
    ∙ word-reads (fields numbers) (more ++ rest)))
    ∙ h

-- and behind a word and one number
one-then : {B : Type 0} (word : List ℕ) (n : ℕ) (more rest : List ℕ) (f : List ℕ → Option B) {y : Option B}
    → f (more ++ rest) ≡ y → (given_in word (n ∷ []) ((word ++ (field n ++ more)) ++ rest) >>= f) ≡ y
one-then word n more rest f h =
    ap (λ (xs : List ℕ). given_in word (n ∷ []) ((word ++ (xs ++ more)) ++ rest) >>= f) (sym (append-nil (field n)))
    ∙ given-then word (n ∷ []) more rest f h

-- and behind a label
pub label-then : {B : Type 0} (label : List ℕ) (limit n : ℕ) (more rest : List ℕ) (f : ℕ × List ℕ → Option B)
    {y : Option B} → n < limit → limit ≤ 2 ^ 63 → starts_with_digit (more ++ rest) ≡ false → f (n, more ++ rest) ≡ y
    → (labelled_in label limit ((label ++ (field n ++ more)) ++ rest) >>= f) ≡ y
label-then label limit n more rest f low few stop h =
    ap (λ o. o >>= f) (word-then label (field n ++ more) rest (number_in limit)
    (ap (number_in limit) (append_assoc (field n) more rest) ∙ number-reads limit n (more ++ rest) low few stop))
    ∙ h

-- and behind what was read
bind-to : {A B : Type 0} {o : Option A} {x : A} (f : A → Option B) {y : Option B} → o ≡ Some x → f x ≡ y → (o >>= f) ≡ y
bind-to f e h = ap (λ p. p >>= f) e ∙ h

pub high : most ≤ 2 ^ 63
high = omega arith

-- a label and a number at the end of a line are read
pub closing-reads : (label : List ℕ) (n : ℕ) (rest : List ℕ) → n < most
    → closing_in label ((label ++ (field n ++ 10 ∷ [])) ++ rest) ≡ Some (n, rest)
closing-reads label n rest low =
    label-then label most n (10 ∷ []) rest _ low high refl (word-then (10 ∷ []) [] rest _ refl)

-- ---- lines of calls

move-reads : (actor number from to weight first commit last : ℕ) (rest : List ℕ) → weight < most → first < most
    → commit < most → last < most
    → move_in actor number from to (call_line (Moved actor number from to weight first commit last) ++ rest)
    ≡ Some (Moved actor number from to weight first commit last, rest)
move-reads actor number from to weight first commit last rest w f c l =
    let lasts : List ℕ = codes " last" ++ (field last ++ 10 ∷ []) in
    let commits : List ℕ = codes " commit" ++ (field commit ++ lasts) in
    let firsts : List ℕ = codes " first" ++ (field first ++ commits) in
    let weights : List ℕ = codes " weight" ++ (field weight ++ firsts) in
    given-then (codes "move") (actor ∷ number ∷ from ∷ to ∷ []) weights rest _
    (label-then (codes " weight") most weight firsts rest _ w high refl
    (label-then (codes " first") most first commits rest _ f high refl
    (label-then (codes " commit") most commit lasts rest _ c high refl
    (bind-to _ (closing-reads (codes " last") last rest l) refl))))

switch-reads : (actor : ℕ) (off : Bool) (node number ticket : ℕ) (rest : List ℕ) → ticket < most
    → switch_in actor off node number (call_line (Switched actor off node number ticket) ++ rest)
    ≡ Some (Switched actor off node number ticket, rest)
switch-reads actor off node number ticket rest t =
    let tickets : List ℕ = codes " ticket" ++ (field ticket ++ 10 ∷ []) in
    let numbers : List ℕ = codes " number" ++ (field number ++ tickets) in
    let states : List ℕ = switch_field off ++ (field node ++ numbers) in
    one-then (codes "switch") actor states rest _ (one-then (switch_field off) node numbers rest _
    (one-then (codes " number") number tickets rest _ (bind-to _ (closing-reads (codes " ticket") ticket rest t) refl)))

visits-read : (weight first last : ℕ) (rest : List ℕ) → weight < most → first < most → last < most
    → visits_in (visit_fields weight first last ++ rest)
    ≡ Some (record { weight = weight; first = first; last = last }, rest)
visits-read weight first last rest w f l =
    let lasts : List ℕ = codes " last" ++ (field last ++ 10 ∷ []) in
    let firsts : List ℕ = codes " first" ++ (field first ++ lasts) in
    label-then (codes " weight") most weight firsts rest _ w high refl
    (label-then (codes " first") most first lasts rest _ f high refl
    (bind-to _ (closing-reads (codes " last") last rest l) refl))

no-digits : (t : Bool) → ◌≡◌ {A = Option (ℕ × List ℕ)} (cond {A = Option (ℕ × List ℕ)} t None None) None
no-digits true = refl
no-digits false = refl

level-reads : (levels : ℕ) (level : Option ℕ) (rest : List ℕ) → levels ≤ 2 ^ 63 → IsLevelBelow levels level
    → starts_with_digit rest ≡ false → level_in levels (level_field level ++ rest) ≡ Some (level, rest)
unfolding word_in
level-reads levels None rest few low stop =
    ap (λ o. level_or_dash (codes " -" ++ rest) o) (no-digits (ltb 0 levels))
level-reads levels (Some level) rest few low stop =
    ap (λ o. level_or_dash (field level ++ rest) o) (number-reads levels level rest low few stop)

place-reads : (bounds : Bounds) (node number : ℕ) (level : Option ℕ) (rest : List ℕ) → bounds.nodes ≤ 2 ^ 63
    → bounds.levels ≤ 2 ^ 63 → node < bounds.nodes → number < most → IsLevelBelow bounds.levels level
    → starts_with_digit rest ≡ false
    → place_in bounds (place_fields node number level ++ rest)
    ≡ Some (record { node = node; number = number; level = level }, rest)
place-reads bounds node number level rest few short n q l stop =
    let levels : List ℕ = codes " level" ++ level_field level in
    label-then (codes " at") bounds.nodes node (codes " number" ++ (field number ++ levels)) rest _ n few refl
    (label-then (codes " number") most number levels rest _ q high refl
    (word-then (codes " level") (level_field level) rest _ (ap (λ o. o >>= (λ (found : Option ℕ × List ℕ). Some (
      record { node = node; number = number; level = found.0 },
      found.1,
    ))) (level-reads bounds.levels level rest short l stop))))

why-reads : (bounds : Bounds) (why : Why) (rest : List ℕ) → bounds.nodes ≤ 2 ^ 63 → IsWhyBelow bounds.nodes why
    → starts_with_digit rest ≡ false → why_in bounds (why_field why ++ rest) ≡ Some (why, rest)
unfolding word_in
why-reads bounds (Empty node) rest few low stop =
    ap (λ o. o >>= (λ (found : ℕ × List ℕ). Some (Empty found.0, found.1)))
    (number-reads bounds.nodes node rest low few stop)
why-reads bounds NoEntry rest few low stop = refl
why-reads bounds Chased rest few low stop = refl

-- the parts of a find's line, behind its first word
abbrev told_at : Bool → ℕ → ℕ → ℕ → ℕ → ℕ → Option ℕ → ℕ → ℕ → ℕ → Done
told_at off actor from sub node number level weight first last =
    answer off actor from sub (record { node = node; number = number; level = level })
    (record { weight = weight; first = first; last = last })

answer-reads : (bounds : Bounds) (off : Bool) (actor from sub node number : ℕ) (level : Option ℕ)
    (weight first last : ℕ) (rest : List ℕ) → bounds.nodes ≤ 2 ^ 63 → bounds.levels ≤ 2 ^ 63
    → (node < bounds.nodes) × (number < most) × IsLevelBelow bounds.levels level
    → (weight < most) × (first < most) × (last < most)
    → answer_in bounds off actor from sub
    ((fields (actor ∷ from ∷ sub ∷ []) ++ (place_fields node number level ++ visit_fields weight first last)) ++ rest)
    ≡ Some (told_at off actor from sub node number level weight first last, rest)
answer-reads bounds off actor from sub node number level weight first last rest few short place visits =
    let behind : List ℕ = visit_fields weight first last ++ rest in
    word-then (fields (actor ∷ from ∷ sub ∷ [])) (place_fields node number level ++ visit_fields weight first last) rest
    _ (bind-to _ (ap (place_in bounds) (append_assoc (place_fields node number level) (visit_fields weight first last)
    rest) ∙ place-reads bounds node number level behind few short place.0 place.1 place.2 refl)
    (bind-to _ (visits-read weight first last rest visits.0 visits.1 visits.2) refl))

again-reads : (bounds : Bounds) (actor from sub : ℕ) (why : Why) (weight first last : ℕ) (rest : List ℕ)
    → bounds.nodes ≤ 2 ^ 63 → IsWhyBelow bounds.nodes why → (weight < most) × (first < most) × (last < most)
    → again_in bounds actor from sub
    ((fields (actor ∷ from ∷ sub ∷ []) ++ (why_field why ++ visit_fields weight first last)) ++ rest)
    ≡ Some (Again actor from sub why weight first last, rest)
again-reads bounds actor from sub why weight first last rest few low visits =
    let behind : List ℕ = visit_fields weight first last ++ rest in
    word-then (fields (actor ∷ from ∷ sub ∷ [])) (why_field why ++ visit_fields weight first last) rest _
    (bind-to _ (ap (why_in bounds) (append_assoc (why_field why) (visit_fields weight first last) rest)
    ∙ why-reads bounds why behind few low refl) (bind-to _
    (visits-read weight first last rest visits.0 visits.1 visits.2) refl))

-- the line of a call that can be written is read as the call
pub call-reads : (bounds : Bounds) (call : Done) (rest : List ℕ) → bounds.nodes ≤ 2 ^ 63 → bounds.levels ≤ 2 ^ 63
    → IsCallBelow bounds call → call_in bounds (slot_told call) (call_line call ++ rest) ≡ Some (call, rest)
unfolding word_in
call-reads bounds (Moved actor number from to weight first commit last) rest few short low =
    move-reads actor number from to weight first commit last rest low.0 low.1 low.2 low.3
call-reads bounds (Switched actor off node number ticket) rest few short low =
    switch-reads actor off node number ticket rest low
call-reads bounds (Found actor from sub node number level weight first last) rest few short low =
    answer-reads bounds false actor from sub node number level weight first last rest few short low.0 low.1
call-reads bounds (Off actor from sub node number level weight first last) rest few short low =
    answer-reads bounds true actor from sub node number level weight first last rest few short low.0 low.1
call-reads bounds (Again actor from sub why weight first last) rest few short low =
    again-reads bounds actor from sub why weight first last rest few low.0 low.1
