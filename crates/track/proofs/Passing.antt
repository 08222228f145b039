-- A text that is passed on piece by piece: what was written, and what waits.
use Rattle.std.proofs.Common.{◌≡◌, ℕ, List, [], ◌++◌, Option, Some, None, Result, Ok, Err, refl, sym, ap, ◌∙◌, append_assoc, append-nil}
use Rattle.std.specs.Prelude.{IfErr}
use Rattle.std.specs.Result.{IsErrAnd, OnOk}
use Rattle.outside.specs.Bytes.{append_known, append_known-append}
use Rattle.track.specs.declared.stop.WriteStop.{WriteStop}
use Rattle.track.specs.declared.stop.WriteStop.TheVariants.{Failed}
use Rattle.track.specs.Transfer.{HasFaultedOnce, IsOnItsWay, IsWrittenPart, StopsWriting}

-- nothing more was written
pub none-more : (bytes : Option (List ℕ)) → bytes ≡ append_known bytes []
none-more None = refl
none-more (Some bytes) = ap (λ (b : List ℕ). Some b) (sym (append-nil bytes))

-- all that waited was written, and a piece behind it
pub long-moved : {E : Type 0} (result : Result (Unit {0}) E) (before : Option (List ℕ)) {mid : Option (List ℕ)}
    (now : Option (List ℕ)) (old piece : List ℕ) {waiting : List ℕ} → mid ≡ append_known before old → waiting ≡ []
    → OnOk result (now ≡ append_known mid piece) → OnOk result (IsOnItsWay before now (old ++ piece) waiting)
long-moved (Ok done) before now old piece flushed none is = record {
  front = old ++ piece;
  parts = sym (append-nil (old ++ piece)) ∙ ap (λ w. (old ++ piece) ++ w) (sym none);
  written = is ∙ ap (λ o. append_known o piece) flushed ∙ sym (append_known-append before old piece);
}
long-moved (Err fault) before now old piece flushed none is = tt

pub long-part : (before : Option (List ℕ)) {mid now : Option (List ℕ)} (old : List ℕ) {piece : List ℕ}
    → mid ≡ append_known before old → IsWrittenPart piece mid now → IsWrittenPart (old ++ piece) before now
long-part before old flushed part = record {
  front = old ++ part.front;
  back = part.back;
  parts = ap (λ t. old ++ t) part.parts ∙ sym (append_assoc old part.front part.back);
  written = part.written ∙ ap (λ o. append_known o part.front) flushed
      ∙ sym (append_known-append before old part.front);
}

-- one piece more is on its way
pub onward : {before mid now : Option (List ℕ)} {text waiting : List ℕ} (piece : List ℕ) {left : List ℕ}
    → IsOnItsWay before mid text waiting → IsOnItsWay mid now (waiting ++ piece) left
    → IsOnItsWay before now (text ++ piece) left
onward {before} {waiting} piece {left} one two = record {
  front = one.front ++ two.front;
  parts = ap (λ t. t ++ piece) one.parts ∙ append_assoc one.front waiting piece
      ∙ ap (λ t. one.front ++ t) two.parts ∙ sym (append_assoc one.front two.front left);
  written = two.written ∙ ap (λ o. append_known o two.front) one.written
      ∙ sym (append_known-append before one.front two.front);
}

-- what was written begins the whole text
begins : {before mid now : Option (List ℕ)} {total text waiting : List ℕ} (piece rest : List ℕ)
    → IsOnItsWay before mid text waiting → IsWrittenPart (waiting ++ piece) mid now → total ≡ text ++ (piece ++ rest)
    → IsWrittenPart total before now
begins {before} {waiting} piece rest one part whole = record {
  front = one.front ++ part.front;
  back = part.back ++ rest;
  parts = whole ∙ ap (λ t. t ++ (piece ++ rest)) one.parts ∙ append_assoc one.front waiting (piece ++ rest)
      ∙ ap (λ t. one.front ++ t) (sym (append_assoc waiting piece rest) ∙ ap (λ t. t ++ rest) part.parts
      ∙ append_assoc part.front part.back rest)
      ∙ sym (append_assoc one.front part.front (part.back ++ rest));
  written = part.written ∙ ap (λ o. append_known o part.front) one.written
      ∙ sym (append_known-append before one.front part.front);
}

pub stopped-writing : {stop : WriteStop} {before mid now : Option (List ℕ)} {total text waiting : List ℕ}
    (piece rest : List ℕ) {f g : ℕ} (h : ℕ) → (stop ≡ Failed) × HasFaultedOnce g h → g ≡ f
    → IsOnItsWay before mid text waiting → IsWrittenPart (waiting ++ piece) mid now → total ≡ text ++ (piece ++ rest)
    → StopsWriting stop total before now f h
stopped-writing piece rest h failed same one part whole =
    rw failed.0 (rw same at failed.1, begins piece rest one part whole)

pub err-then : (result : Result (Unit {0}) WriteStop) {P : WriteStop → Type 0} (Q : WriteStop → Type 0)
    → IsErrAnd result P → ((stop : WriteStop) → P stop → Q stop) → IfErr result Q
err-then (Ok done) Q h on = tt
err-then (Err stop) Q h on = on stop h

pub ends-stopped : (result : Result (Unit {0}) WriteStop) {before mid now : Option (List ℕ)}
    {total text waiting : List ℕ} {f g : ℕ} (h : ℕ) → IfErr result (λ stop. (stop ≡ Failed) × HasFaultedOnce g h)
    → g ≡ f → IsOnItsWay before mid text waiting → IsWrittenPart waiting mid now → total ≡ text
    → IfErr result (λ stop. StopsWriting stop total before now f h)
ends-stopped (Ok done) h failed same one part whole = tt
ends-stopped (Err stop) {text = text} h failed same one part whole =
    stopped-writing [] [] h failed same one (rw append-nil part) (whole ∙ sym (append-nil text))

-- a part more of what is left
pub part-more : {total : List ℕ} (text part : List ℕ) {left : List ℕ} (rest : List ℕ) → total ≡ text ++ left
    → left ≡ part ++ rest → total ≡ (text ++ part) ++ rest
part-more text part rest whole first =
    whole ∙ ap (λ t. text ++ t) first ∙ sym (append_assoc text part rest)

pub part-first : {total : List ℕ} (text part : List ℕ) {left : List ℕ} (rest : List ℕ) → total ≡ text ++ left
    → left ≡ part ++ rest → total ≡ text ++ (part ++ rest)
part-first text part rest whole first = whole ∙ ap (λ t. text ++ t) first

pub no-parts : {total : List ℕ} (text : List ℕ) {left : List ℕ} → total ≡ text ++ left → left ≡ [] → total ≡ text
no-parts text whole none = whole ∙ ap (λ t. text ++ t) none ∙ append-nil text
