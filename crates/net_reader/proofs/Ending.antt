-- A reader's answer is what the bytes say that it stands for.
use Rattle.std.proofs.Common.{◌≡◌, ℕ, ◌<◌, ◌+◌, ◌^◌, Bool, false, inl, inr, List, ◌++◌, Result, Ok, Err, ap, subst, sym, ◌∙◌, arith}
use Rattle.std.specs.Result.{is_err, OnOk}
use Rattle.net_graph.specs.Network.{Network}
use Rattle.net_reader.specs.declared.fault.InputFault.{InputFault}
use Rattle.net_reader.specs.declared.fault.ReadRefusal.{ReadRefusal}
use Rattle.net_reader.specs.declared.fault.ReadRefusal.TheVariants as refusals
use Rattle.net_reader.specs.declared.input.Input.{Input}
use Rattle.net_reader.specs.declared.known.Known.{Known}
use Rattle.net_reader.specs.declared.scan.Scan.{Scan}
use Rattle.net_reader.specs.Said.{Said}
use Rattle.net_reader.specs.Input.{IsAnswer, read}
use Rattle.net_reader.specs.Seen.{seen_known, seen_scan, seen_input, Answers, Finishes, IsWell}
use Rattle.net_reader.specs.Reading.{HasRoom, IsReadWithGraph, IsSoundReader, ReaderValue, StandsFor}
use Rattle.net_reader.specs.Sound.{IsSound}
use Rattle.net_reader.specs.Steps.{ReaderState, after_bytes, end_result, fresh_reader}
use Rattle.net_reader.proofs.Feeding.{fed-append, lines-read}
use Rattle.net_reader.proofs.Folding.{holds_of_read}
use Rattle.net_reader.proofs.Measured.{IsMeasured, begins-measured, keeps-measured}
use Rattle.net_reader.proofs.TextRead.{text_read}

-- a reader that hasn't failed has read some bytes
pub going : {failed : Bool} (scan : Scan) → IsSoundReader failed scan → failed ≡ false
    → (bytes : List ℕ) × IsWell scan.fault scan.known × (seen_scan scan ≡ after_bytes fresh_reader bytes)
going scan (inl f) e = cc
going scan (inr stands) e = stands

-- the lines still fit their count
pub room : {reader : ReaderValue} (more : ℕ) → HasRoom reader more → reader.failed ≡ false
    → reader.state.lines + more < 2 ^ 32
room more (inl failed) e = cc
room more (inr stands) e =
    omega (arith, lines-read stands.0, ap (λ (r : ReaderState). r.lines) stands.1.read, stands.2)

-- a piece more
pub fed_sound : {E : Type 0} {failed : Bool} (result : Result (Unit {0}) E) (old new : Scan) (piece : List ℕ)
    → failed ≡ is_err result → (bytes : List ℕ) × IsWell old.fault
    old.known × (seen_scan old ≡ after_bytes fresh_reader bytes)
    → OnOk result (seen_scan new ≡ after_bytes (seen_scan old) piece) → OnOk result (IsWell new.fault new.known)
    → IsSoundReader failed new
fed_sound (Ok done) old new piece e stands read well = grind (arith, fed-append fresh_reader stands.0 piece)
fed_sound (Err fault) old new piece e stands read well = inl e

pub fed_stands : {E : Type 0} (reader : ReaderValue) {failed : Bool} (result : Result (Unit {0}) E) (old new : Scan)
    (piece : List ℕ) → failed ≡ is_err result → seen_scan old ≡ reader.state
    → OnOk result (seen_scan new ≡ after_bytes (seen_scan old) piece)
    → OnOk result ((bytes : List ℕ) → StandsFor reader bytes
    → StandsFor (record { failed = failed; state = seen_scan new }) (bytes ++ piece))
fed_stands reader (Ok done) old new piece e same read = grind (arith, going, fed-append)
fed_stands reader (Err fault) old new piece e same read = tt

-- what was said is within the limits
pub sound : (scan : Scan) (known : Known) (lines : ℕ)
    → (bytes : List ℕ) × IsWell scan.fault scan.known × (seen_scan scan ≡ after_bytes fresh_reader bytes)
    → Finishes (Ok (known, lines)) (end_result (seen_scan scan)) → IsSound (seen_known known)
sound scan known lines stands h =
    let is : read stands.0 ≡ Ok (seen_known known, lines) = sym (text_read stands.0) ∙ ap end_result (sym stands.2)
    ∙ h.0 in
    let m = holds_of_read IsMeasured begins-measured keeps-measured stands.0 is in
    record {
      some = m.0.some (omega (arith, m.1));
      few = grind (arith, m.0.few);
      edges = m.0.edges;
    }

-- the answer of a reader in a state that these bytes lead to
pub answered : (bytes : List ℕ) (result : Result (Input × Network) ReadRefusal) {found : Result (Said × ℕ) InputFault}
    → found ≡ read bytes → Answers result found → IsReadWithGraph bytes result
answered bytes (Ok made) e h =
    (subst (λ (r : Result (Said × ℕ) InputFault). IsAnswer r (Ok (seen_input made.0))) e h.0, h.1)
answered bytes (Err (refusals.Fault fault)) e h =
    subst (λ (r : Result (Said × ℕ) InputFault). IsAnswer r (Err fault)) e h
answered bytes (Err refusals.OutOfMemory) e h = tt

pub refused : (bytes : List ℕ) (refusal : ReadRefusal) {found : Result (Said × ℕ) InputFault} → found ≡ read bytes
    → Finishes (Err refusal) found → IsReadWithGraph bytes (Err refusal)
refused bytes (refusals.Fault fault) e h = grind arith
refused bytes refusals.OutOfMemory e h = tt

-- what the state that these bytes lead to says
pub finished_is : {reader : ReaderValue} {state : ReaderState} {bytes : List ℕ} → reader.state ≡ state
    → StandsFor reader bytes → end_result state ≡ read bytes
finished_is {bytes} e stands = ap end_result (sym e ∙ stands.read) ∙ text_read bytes
