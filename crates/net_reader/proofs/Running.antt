-- Runs of bytes that don't end a line, and what a line is with them.
use Rattle.std.proofs.Common.{◌≡◌, ℕ, zero, suc, ◌-◌, ◌<◌, ◌≤◌, Bool, true, false, eqb, fold, take, drop, List, [], ◌∷◌, ◌++◌, length, get_or, refl, ap, sym, ◌∙◌, arith, append_assoc, length-append, length-take, subst}
use Rattle.std.proofs.lemmas.Bool.Decides.{nat_tests}
use Rattle.std.proofs.lemmas.List.{take-append-drop, take_all}
use Rattle.std.proofs.lemmas.List.Sums.{fold-append}
use Rattle.std.proofs.lemmas.List.Folds.{list_all-append}
use Rattle.std.specs.List.{list_all}
use Rattle.net_reader.specs.declared.line.Open.{Open}
use Rattle.net_reader.specs.declared.line.Open.TheVariants as opens
use Rattle.net_reader.specs.TextLines.{is_blank}
use Rattle.net_reader.specs.Steps.{IsRun, LineState, close_as, is_inside, is_plain, keep, more, pack, put}
use Rattle.std.proofs.lemmas.Bool.{and_from}

pub all-append : (test : ℕ → Bool) (xs ys : List ℕ) → list_all test xs ≡ true → list_all test ys ≡ true
    → list_all test (xs ++ ys) ≡ true
all-append test xs ys e f = rw (list_all-append test xs ys, e, f)

-- bytes that no blank is among only go on with the field
pub all-inside : (xs : List ℕ) → list_all is_plain xs ≡ true → list_all is_inside xs ≡ true
all-inside [] e = refl
all-inside (x ∷ xs) e = grind (arith, nat_tests, all-inside xs)

pub put-plain : (xs : List ℕ) (line : LineState) → list_all is_plain xs ≡ true
    → record line { open_field = fold more line.open_field xs } ≡ fold put line xs
unfolding put
put-plain [] line e = refl
put-plain (x ∷ xs) line e =
    grind (arith, nat_tests, put-plain xs (record line { open_field = more line.open_field x }))

-- a comment and a field that isn't a number stay what they are
abbrev pub IsSettled : Open → Type 0
IsSettled field = (word : ℕ) (numbers : List ℕ) (b : ℕ)
    → put (record { open_field = field; word = word; numbers = numbers }) b
    ≡ record { open_field = field; word = word; numbers = numbers }

pub comment-settled : IsSettled opens.Comment
unfolding put close_as more
comment-settled word numbers b = grind arith

pub wrong-settled : IsSettled opens.Wrong
unfolding put close_as more
wrong-settled word numbers b = grind arith

pub put-settled : {field : Open} → IsSettled field → (xs : List ℕ) (line : LineState) → line.open_field ≡ field
    → line ≡ fold put line xs
put-settled settled [] line is = refl
put-settled {field} settled (x ∷ xs) line is = grind (arith, put-settled settled xs line is)

-- bytes that each don't end a line
pub inside-front : (hay : List ℕ) (k : ℕ) → k ≤ length hay
    → ((i : ℕ) → i < k → is_inside (get_or hay i 0) ≡ true) → list_all is_inside (take k hay) ≡ true
inside-front hay zero h inside = refl
inside-front [] (suc k) h inside = refl
inside-front (b ∷ hay) (suc k) h inside =
    and_from (is_inside b) (list_all is_inside (take k hay)) (inside 0 (omega arith))
    (inside-front hay k (omega (arith, h)) (λ i below. inside (suc i) (omega (arith, below))))

-- the first byte and those after it
pub first-byte : (xs : List ℕ) → 0 < length xs → xs ≡ get_or xs 0 0 ∷ take (length xs - 1) (drop 1 xs)
first-byte [] h = absurd (omega arith)
first-byte (x ∷ xs) h = grind (arith, take_all)

-- a run of no byte, a byte more, and a run after it
pub run-none : (line : LineState) (piece : List ℕ) → IsRun line line piece piece
run-none line piece = record { front = []; parts = refl; inside = refl; read = refl }

-- one run after another
pub run-join : {first line last : LineState} {piece rest after : List ℕ} → IsRun first line piece rest
    → IsRun line last rest after → IsRun first last piece after
run-join {first} {after} run more = record {
  front = run.front ++ more.front;
  parts = run.parts ∙ ap (λ xs. run.front ++ xs) more.parts ∙ sym (append_assoc run.front more.front after);
  inside = all-append is_inside run.front more.front run.inside more.inside;
  read = more.read ∙ ap (λ l. fold put l more.front) run.read ∙ sym (fold-append put first run.front more.front);
}

run-byte : (line : LineState) {b : ℕ} (rest : List ℕ) → is_inside b ≡ true → IsRun line (put line b) (b ∷ rest) rest
run-byte line {b} rest h =
    record { front = b ∷ []; parts = refl; inside = and_from (is_inside b) true h refl; read = refl }

pub run-more : {first line last : LineState} {piece rest after : List ℕ} {b : ℕ} → IsRun first line piece (b ∷ rest)
    → is_inside b ≡ true → IsRun (put line b) last rest after → IsRun first last piece after
run-more {line = line} {rest = rest} run h more = run-join run (run-join (run-byte line rest h) more)

-- a run from the front of a piece
cut : (piece : List ℕ) {rest : List ℕ} {found : Open × ℕ} (field : Open) (taken : ℕ) → found ≡ (field, taken)
    → rest ≡ drop found.1 piece → piece ≡ take taken piece ++ rest
cut piece field taken e back = grind (arith, take-append-drop taken piece)

pub run-plain : (line : LineState) {start field : Open} {found : Open × ℕ} (taken : ℕ) (piece : List ℕ) {rest : List ℕ}
    → line.open_field ≡ start → found ≡ (field, taken) → rest ≡ drop found.1 piece
    → list_all is_plain (take taken piece) ≡ true → field ≡ fold more start (take taken piece)
    → IsRun line (record line { open_field = found.0 }) piece rest
run-plain line {field} taken piece begins e back plain is = record {
  front = take taken piece;
  parts = cut piece field taken e back;
  inside = all-inside (take taken piece) plain;
  read = grind (arith, put-plain (take taken piece) line plain);
}

pub run-settled : {field : Open} → IsSettled field → (line : LineState) {found : Open × ℕ} (taken : ℕ) (piece : List ℕ)
    {rest : List ℕ} → line.open_field ≡ field → found ≡ (field, taken) → rest ≡ drop found.1 piece
    → list_all is_inside (take taken piece) ≡ true → IsRun line (record line { open_field = found.0 }) piece rest
run-settled {field} settled line taken piece begins e back inside = record {
  front = take taken piece;
  parts = cut piece field taken e back;
  inside = inside;
  read = grind (arith, put-settled settled (take taken piece) line begins);
}

pub run-still : (line : LineState) {field : Open} {found : Open × ℕ} (piece : List ℕ) {rest : List ℕ}
    → line.open_field ≡ field → found ≡ (field, 0) → rest ≡ drop found.1 piece
    → IsRun line (record line { open_field = found.0 }) piece rest
run-still line piece begins e back =
    run-plain line 0 piece begins e back refl refl

-- a number at the front where no field is open, and the blank after it
between-digits : (xs : List ℕ) → 0 < length xs → fold more opens.Between xs ≡ fold more (opens.Number 0 0) xs
unfolding more
between-digits [] h = absurd (omega arith)
between-digits (x ∷ xs) h = refl

pub run-number : (line : LineState) (piece : List ℕ) {rest : List ℕ} (count value taken : ℕ)
    → line.open_field ≡ opens.Between → 0 < taken → taken ≤ length piece → rest ≡ drop taken piece
    → list_all is_plain (take taken piece) ≡ true → opens.Number count value ≡ fold more (opens.Number 0 0)
    (take taken piece)
    → IsRun line (record line { open_field = opens.Number count value }) piece rest
run-number line piece count value taken between some within back plain is =
    let digits : 0 < length (take taken piece) = omega (arith, length-take taken piece, some, within) in
    run-plain line taken piece between refl back plain (is ∙ sym (between-digits (take taken piece) digits))

blank-inside : (b : ℕ) → is_blank b ≡ true → is_inside b ≡ true
blank-inside b e = grind (arith, nat_tests)

closed : (line : LineState) (count value b : ℕ) → line.open_field ≡ opens.Between → is_blank b ≡ true
    → put (record line { open_field = opens.Number count value }) b ≡ record line { numbers = keep line.numbers value }
unfolding put close_as
closed line count value b between blank = grind arith

pub run-number-blank : (line : LineState) (piece : List ℕ) {rest : List ℕ} {b : ℕ} (count value taken : ℕ)
    → line.open_field ≡ opens.Between → 0 < taken → taken ≤ length piece → b ∷ rest ≡ drop taken piece
    → list_all is_plain (take taken piece) ≡ true → opens.Number count value ≡ fold more (opens.Number 0 0)
    (take taken piece) → is_blank b ≡ true
    → IsRun line (record line { numbers = keep line.numbers value }) piece rest
run-number-blank line piece {rest} {b} count value taken between some within back plain is blank =
    let last = put (record line { open_field = opens.Number count value }) b in
    subst (λ l. IsRun line l piece rest) (closed line count value b between blank)
    (run-more (run-number line piece count value taken between some within back plain is) (blank-inside b blank)
    (run-none last rest))

-- the word that begins a line, and the blank after it
begun : (line : LineState) (b : ℕ) → line.open_field ≡ opens.Blank → is_blank b ≡ false → eqb b 35 ≡ false
    → put line b ≡ record line { open_field = opens.Word (pack 1 b) }
unfolding put more
begun line b fresh no_blank no_comment = grind arith

pub run-word : (line : LineState) (piece : List ℕ) {rest : List ℕ} (b packed taken : ℕ) → line.open_field ≡ opens.Blank
    → is_blank b ≡ false → eqb b 35 ≡ false → rest ≡ drop taken piece → list_all is_plain (take taken piece) ≡ true
    → opens.Word packed ≡ fold more (opens.Word (pack 1 b)) (take taken piece)
    → IsRun (put line b) (record line { open_field = opens.Word packed }) piece rest
run-word line piece {rest} b packed taken fresh no_blank no_comment back plain is =
    let first = record line { open_field = opens.Word (pack 1 b) } in
    subst (λ l. IsRun l (record line { open_field = opens.Word packed }) piece rest)
    (sym (begun line b fresh no_blank no_comment))
    (run-plain first taken piece refl refl back plain is)

closed-word : (line : LineState) (packed b : ℕ) → is_blank b ≡ true
    → put (record line { open_field = opens.Word packed }) b ≡ record line { open_field = opens.Between; word = packed }
unfolding put close_as
closed-word line packed b blank = grind arith

pub run-word-blank : (line : LineState) (piece : List ℕ) {rest : List ℕ} (b : ℕ) {blank : ℕ} (packed taken : ℕ)
    → line.open_field ≡ opens.Blank → is_blank b ≡ false → eqb b 35 ≡ false → blank ∷ rest ≡ drop taken piece
    → list_all is_plain (take taken piece) ≡ true → opens.Word packed ≡ fold more (opens.Word (pack 1 b))
    (take taken piece) → is_blank blank ≡ true
    → IsRun (put line b) (record line { open_field = opens.Between; word = packed }) piece rest
run-word-blank line piece {rest} b {blank} packed taken fresh no_blank no_comment back plain is ends =
    let last = put (record line { open_field = opens.Word packed }) blank in
    subst (λ l. IsRun (put line b) l piece rest) (closed-word line packed blank ends)
    (run-more (run-word line piece b packed taken fresh no_blank no_comment back plain is) (blank-inside blank ends)
    (run-none last rest))

pub run-length : {line now : LineState} {piece rest : List ℕ} → IsRun line now piece rest → length rest ≤ length piece
run-length {rest} run = omega (arith, ap length run.parts, length-append run.front rest)
