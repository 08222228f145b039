-- Lines that lie whole in a piece.
use Rattle.std.proofs.Common.{◌≡◌, inl, inr, ℕ, suc, ◌+◌, ◌-◌, ◌*◌, ◌<◌, ◌≤◌, true, false, fold, take, drop, List, [], ◌∷◌, ◌++◌, length, get_or, Option, None, Result, Some, Ok, refl, ap, sym, ◌∙◌, arith, add-one, drop-cons, length-take, length-drop}
use Rattle.std.proofs.lemmas.Bool.Decides.{nat_tests}
use Rattle.std.proofs.lemmas.List.{take_all}
use Rattle.std.specs.Char.{is_ascii_digit}
use Rattle.std.specs.List.{list_all}
use Rattle.net_reader.specs.declared.line.Open.TheVariants as opens
use Rattle.net_reader.specs.declared.word.Word.{Word}
use Rattle.net_reader.specs.declared.fault.InputFault.{InputFault}
use Rattle.net_reader.specs.declared.scan.Scan.{Scan}
use Rattle.net_reader.specs.Said.{Said}
use Rattle.net_reader.specs.Seen.{IsWell, said_or_fault, seen_known, seen_scan}
use Rattle.net_reader.specs.Steps.{IsRun, LineState, ReaderState, after_bytes, close_as, end_line, fault_at, fresh, is_inside, is_plain, keep, more, next, past_line, put, release, word_in}
use Rattle.net_reader.specs.Rows.{judge_word}
use Rattle.net_reader.specs.Whole.{IsComment, IsCommentTo, IsDigits, IsEnd, IsLast, IsLeft, IsNumbers, IsNumberTo, IsUpTo, Opens, Rests, between}
use Rattle.net_reader.proofs.Digits.{below-most, plain-more, read-more, still-small}
use Rattle.net_reader.proofs.Feeding.{fed-faulty, past, ran}
use Rattle.net_reader.proofs.Running.{comment-settled, run-settled, run-join, run-length, run-more, run-none, run-number}

-- these bytes stand in a list from a place on
abbrev pub StandAt : ℕ → List ℕ → List ℕ → Type 0
StandAt i [] piece = Unit {0}
StandAt i (b ∷ front) piece = (get_or piece i 0 ≡ b) × StandAt (suc i) front piece

stand-behind : (i : ℕ) (front : List ℕ) (x : ℕ) (piece : List ℕ) → StandAt (suc i) front (x ∷ piece)
    → StandAt i front piece
stand-behind i [] x piece stand = tt
stand-behind i (b ∷ front) x piece stand = (stand.0, stand-behind (suc i) front x piece stand.1)

front-is : (front piece : List ℕ) → length front ≤ length piece → StandAt 0 front piece
    → piece ≡ front ++ take (length piece - length front) (drop (length front) piece)
front-is [] piece h stand = sym (take_all _ piece (omega arith))
front-is (b ∷ front) [] h stand = absurd (omega arith)
front-is (b ∷ front) (x ∷ piece) h stand =
    grind (arith, front-is front piece (omega arith) (stand-behind 0 front x piece stand.1), stand-behind)

-- a word and a blank
pub opened : (word : Word) (packed : ℕ) (front piece : List ℕ) → 0 < length front → length front ≤ length piece
    → StandAt 0 front piece → word_in packed ≡ Some word → list_all is_inside front ≡ true
    → between packed [] ≡ fold put fresh front
    → Opens word piece (take (length piece - length front) (drop (length front) piece))
opened word packed front piece some h stand named inside read = record {
  packed = packed;
  named = named;
  run = record { front = front; parts = front-is front piece h stand; inside = inside; read = read };
  shorter = grind (arith, length-take, length-drop);
}

-- one digit more
pub digit-behind : {piece : List ℕ} {taken value digit : ℕ} → IsDigits piece taken value → taken < length piece
    → taken < 18 → is_ascii_digit (get_or piece taken 0) ≡ true → digit ≡ get_or piece taken 0 - 48
    → IsDigits piece (taken + 1) (10 * value + digit)
digit-behind {piece} {taken} {value} {digit} before within few is same =
    let small = below-most value taken before.small few in
    let low : digit < 10 = grind (arith, nat_tests, is, same) in
    record {
      plain = plain-more piece taken within is before.plain;
      read = grind (arith, read-more);
      small = still-small value taken digit before.small low;
    }

-- digits, and the byte after them
pub number-before : (piece : List ℕ) (taken value : ℕ) {end b : ℕ} {rest : List ℕ} → 0 < taken → taken ≤ length piece
    → list_all is_plain (take taken piece) ≡ true → opens.Number taken value ≡ fold more (opens.Number 0 0)
    (take taken piece) → end ≡ b → b ∷ rest ≡ drop taken piece → IsNumberTo end value piece rest
number-before piece taken value {rest} some within plain read same back = record {
  count = taken;
  run = λ line is. run-number line piece taken value taken is some within (ap (λ x. x ∷ rest) same ∙ back) plain read;
}

pub number-to : {piece : List ℕ} {taken value : ℕ} {rest : List ℕ} → 0 < taken → taken < length piece
    → IsDigits piece taken value → rest ≡ drop (taken + 1) piece → IsNumberTo (get_or piece taken 0) value piece rest
number-to {piece} {taken} {value} some within digits back = grind (arith, nat_tests, add-one, drop-cons, number-before)

-- a number, a blank, and what follows
pub blank-behind : (word : ℕ) {value : ℕ} (numbers : List ℕ) {piece rest : List ℕ} → IsNumberTo 32 value piece rest
    → IsRun (between word numbers) (between word (keep numbers value)) piece rest
unfolding put close_as
blank-behind word {value} numbers {rest} number =
    run-more (number.run (between word numbers) refl) refl (run-none (between word (keep numbers value)) rest)

-- a number before the end of a line
pub last-read : {end value : ℕ} {piece after rest : List ℕ} → IsNumberTo end value piece after → IsEnd end after rest
    → IsLast value piece rest
last-read number (inl e) = inl (rw (← e.0, e.1) number)
last-read number (inr e) = inr (rw (← e.0, ← e.1) number)

-- a number after others, each with a blank after it
up-to-behind : {value end : ℕ} (numbers : List ℕ) {later piece middle rest : List ℕ}
    → ((word : ℕ) → IsRun (between word []) (between word numbers) piece middle) → IsNumberTo end value middle rest
    → keep numbers value ≡ later → IsUpTo later piece (end ∷ rest)
unfolding close_as
up-to-behind {value} numbers before number kept = record {
  last = λ word. record (between word numbers) { open_field = opens.Number number.count value };
  run = λ word. run-join (before word) (number.run (between word numbers) refl);
  closed = λ word. ap (between word) kept;
}

pub numbers-behind : (value : ℕ) (numbers : List ℕ) {later piece middle : List ℕ} (rest : List ℕ)
    → ((word : ℕ) → IsRun (between word []) (between word numbers) piece middle) → IsLast value middle rest
    → keep numbers value ≡ later → IsNumbers later piece rest
numbers-behind value numbers rest before (inl number) kept = inl (up-to-behind numbers before number kept)
numbers-behind value numbers rest before (inr number) kept = inr (up-to-behind numbers before number kept)

-- two numbers, and three
pub two-read : {a : ℕ} (b : ℕ) {piece middle : List ℕ} (rest : List ℕ) → IsNumberTo 32 a piece middle
    → IsLast b middle rest → IsNumbers (a ∷ b ∷ []) piece rest
two-read {a} b rest first last = numbers-behind b (a ∷ []) rest (λ word. blank-behind word [] first) last refl

pub three-read : {a b : ℕ} (c : ℕ) {piece middle later : List ℕ} (rest : List ℕ) → IsNumberTo 32 a piece middle
    → IsNumberTo 32 b middle later → IsLast c later rest → IsNumbers (a ∷ b ∷ c ∷ []) piece rest
three-read {a} {b} c rest first second last = numbers-behind c (a ∷ b ∷ []) rest
    (λ word. run-join (blank-behind word [] first) (blank-behind word (a ∷ []) second)) last refl

-- a reader before a line
abbrev resting : ℕ → Said → ReaderState
resting m said = record { said = Ok said; lines = m; begun = false; held = false; line = fresh }

-- a line that lies whole at the front, up to its end
up-to-shorter : {word : Word} {numbers piece after left : List ℕ} → Opens word piece after → IsUpTo numbers after left
    → length left < length piece
up-to-shorter opening ends =
    omega (arith, opening.shorter, run-length (ends.run 0))

up-to-read : (m : ℕ) (said : Said) {word : Word} (numbers : List ℕ) {piece after left : List ℕ}
    (opening : Opens word piece after) (ends : IsUpTo numbers after left)
    → after_bytes (record {
      said = Ok said;
      lines = m + 1;
      begun = true;
      held = false;
      line = ends.last opening.packed;
    }) left ≡ after_bytes (resting m said) piece
    × (judge_word said (Some word) (Some numbers) ≡ end_line (ends.last opening.packed) said)
unfolding end_line
up-to-read m said numbers opening ends = (
  ran None false false m said refl refl (run-join opening.run (ends.run opening.packed)) (up-to-shorter opening ends),
  rw (ends.closed opening.packed, opening.named),
)

pub whole-read : (m : ℕ) (said : Said) {word : Word} (numbers : List ℕ) {piece after : List ℕ} (rest : List ℕ)
    → Opens word piece after → IsNumbers numbers after rest
    → after_bytes (past m (judge_word said (Some word) (Some numbers))) rest ≡ after_bytes (resting m said) piece
unfolding after_bytes next past_line release
whole-read m said numbers rest opening (inl ends) =
    let up_to = up-to-read m said numbers opening ends in rw (up_to.1) up_to.0
whole-read m said numbers rest opening (inr ends) =
    let up_to = up-to-read m said numbers opening ends in rw (up_to.1) up_to.0

pub heard-whole : {old new : ReaderState} (m : ℕ) (said : Said) {word : Word} (numbers : List ℕ) {piece after : List ℕ}
    (rest : List ℕ) → old ≡ resting m said
    → new ≡ record old { said = fault_at (m + 1) (judge_word said (Some word) (Some numbers)); lines = m + 1 }
    → Opens word piece after → IsNumbers numbers after rest → after_bytes new rest ≡ after_bytes old piece
heard-whole m said numbers rest is heard opening ends = rw (heard, is) (whole-read m said numbers rest opening ends)

-- and it is shorter after
pub whole-shorter : {word : Word} (numbers : List ℕ) {piece after : List ℕ} (rest : List ℕ) → Opens word piece after
    → IsNumbers numbers after rest → length rest + 1 < length piece
whole-shorter numbers rest opening (inl ends) =
    omega (arith, up-to-shorter opening ends)
whole-shorter numbers rest opening (inr ends) =
    omega (arith, up-to-shorter opening ends)

-- a comment that lies whole at the front
pub comment-to : {piece after left : List ℕ} (taken : ℕ) → piece ≡ 35 ∷ after → left ≡ drop taken after
    → list_all is_inside (take taken after) ≡ true → IsCommentTo piece left
unfolding put more
comment-to {piece} {after} taken begins back inside =
    let comment : LineState = record fresh { open_field = opens.Comment } in
    let first : IsRun fresh fresh piece (35 ∷ after) = rw begins (run-none fresh (35 ∷ after)) in
    let run = run-settled comment-settled comment taken after refl refl back inside in
    record {
      run = run-more first refl run;
      shorter = omega (arith, ap length begins, run-length run);
    }

pub comment-ends : {piece : List ℕ} {end : ℕ} {behind rest : List ℕ} → IsCommentTo piece (end ∷ behind)
    → IsEnd end behind rest → IsComment piece rest
comment-ends comment (inl e) = inl (rw (← e.0, e.1) comment)
comment-ends comment (inr e) = inr (rw (← e.0, ← e.1) comment)

comment-read : (m : ℕ) (said : Said) (piece rest : List ℕ) → IsComment piece rest
    → after_bytes (resting (m + 1) said) rest ≡ after_bytes (resting m said) piece
unfolding after_bytes next past_line release end_line close_as
comment-read m said piece rest (inl comment) =
    ran None false false m said refl refl comment.run comment.shorter
comment-read m said piece rest (inr comment) =
    ran None false false m said refl refl comment.run comment.shorter

pub heard-comment : {old new : ReaderState} (m : ℕ) (said : Said) (piece rest : List ℕ) → old ≡ resting m said
    → new ≡ record old { lines = m + 1 } → IsComment piece rest → after_bytes new rest ≡ after_bytes old piece
heard-comment m said piece rest is counted comment = rw (counted, is) (comment-read m said piece rest comment)

pub comment-shorter : (piece rest : List ℕ) → IsComment piece rest → length rest + 1 < length piece
comment-shorter piece rest (inl comment) = omega (arith, comment.shorter)
comment-shorter piece rest (inr comment) = omega (arith, comment.shorter)

-- a reader that has read one line more without a fault rests again
pub still-rests : {old : Scan} (new : Scan) (said : Result Said InputFault) (m : ℕ) → Rests old
    → seen_scan new ≡ record (seen_scan old) { said = said; lines = m } → new.fault ≡ None → Rests new
still-rests new said m rests same going = record { going = going; seen = grind (arith, same, rests.seen) }

-- what is left after a line says the same as what stands there
left-same : (fault : Option InputFault) (said : Said) (reader : ReaderState) (behind left : List ℕ)
    → reader.said ≡ said_or_fault fault said → IsLeft fault behind left
    → after_bytes reader left ≡ after_bytes reader behind
left-same None said reader behind left same is = ap (after_bytes reader) is
left-same (Some fault) said reader behind left same is =
    fed-faulty (Some fault) said reader left refl same ∙ sym (fed-faulty (Some fault) said reader behind refl same)

pub left-read : (scan : Scan) (behind left : List ℕ) → IsLeft scan.fault behind left
    → after_bytes (seen_scan scan) left ≡ after_bytes (seen_scan scan) behind
left-read scan behind left is = left-same scan.fault (seen_known scan.known) (seen_scan scan) behind left refl is

pub left-shorter : (fault : Option InputFault) (behind left : List ℕ) → IsLeft fault behind left
    → length left ≤ length behind
left-shorter None behind left is = omega (arith, ap length is)
left-shorter (Some fault) behind left is = omega (arith, ap length is)

pub left-going : (fault : Option InputFault) (behind left : List ℕ) → IsLeft fault behind left → 0 < length left
    → fault ≡ None
left-going None behind left is some = refl
left-going (Some fault) behind left is some = absurd (omega (arith, ap length is, some))

-- a line with numbers that was heard whole, and what is left after it
pub line-heard : (old new : Scan) {word : Word} (numbers : List ℕ) {piece after : List ℕ} (rest left : List ℕ)
    → Rests old → Opens word piece after → IsNumbers numbers after rest
    → record {
      read : seen_scan new ≡ record (seen_scan old) {
        said = fault_at (old.lines + 1) (judge_word (seen_known old.known) (Some word) (Some numbers));
        lines = old.lines + 1;
      };
      well : IsWell new.fault new.known;
      lines : new.lines ≡ old.lines + 1;
      left : IsLeft new.fault rest left;
    } → record {
      read : after_bytes (seen_scan new) left ≡ after_bytes (seen_scan old) piece;
      shorter : length left ≤ length piece;
      lines : new.lines + length left ≤ old.lines + length piece;
      well : IsWell new.fault new.known;
      rests : 0 < length left → Rests new;
    }
line-heard old new numbers rest left rests opening ends heard =
    let shorter = whole-shorter numbers rest opening ends in
    let fewer = left-shorter new.fault rest left heard.left in
    record {
      read = left-read new rest left heard.left
          ∙ heard-whole old.lines (seen_known old.known) numbers rest rests.seen heard.read opening ends;
      shorter = omega (arith, shorter, fewer);
      lines = omega (arith, heard.lines, shorter, fewer);
      well = heard.well;
      rests = λ some. still-rests new _ _ rests heard.read (left-going new.fault rest left heard.left some);
    }
