use Rattle.std.proofs.Common.{◌≡◌, ◌⊎◌, ◌++◌, ℕ, List, [], Some, refl, ap, ◌∙◌, inl, inr, arith}
use Rattle.outside.specs.Calls.{HasFaulted}
use Rattle.word_line.specs.declared.command.Command.TheVariants.{Census, Check, Cover, FromJson}
use Rattle.track.specs.Ends.{streams}
use Rattle.track.specs.Results.{verdict_status}
use Rattle.track.specs.declared.status.Status.{Status}
use Rattle.track.specs.declared.status.Status.TheVariants.{Done, OutOfMemory, Refused, Unsound}
use Rattle.track.proofs.wrong.told_laws.Goals as goal

-- what was written, where nothing stood before, is the front
front-is : {part front : List ℕ} → Some part ≡ Some front → front ≡ part
front-is is = cc

calm : HasFaulted 0 0 → ⊥
calm faulted = omega (arith, faulted)

-- with memory, the status is the other one
with-memory : {status whole : Status} → (status ≡ whole) ⊎ (status ≡ OutOfMemory) → (status ≡ OutOfMemory → ⊥)
    → status ≡ whole
with-memory (inl is) enough = is
with-memory (inr wants) enough = absurd (enough wants)

pub returns : goal.returns
returns c = record {
  one = λ law bytes one other s t a b. (law Cover bytes s t one other refl a b).1;
  refused = λ law bytes one other a b.
      cc (law Cover bytes Done Refused one other refl a b).0;
  done = λ law bytes contents status left written ends short input enough.
      with-memory (law Census status (streams (Some bytes) 0 (Some []) 0) (streams left 0 written 0) bytes contents ends
      refl short input calm calm) enough;
  checked = λ law bytes contents status left written line flaw ends short input flawed enough.
      with-memory (law Check status (streams (Some bytes) 0 (Some []) 0) (streams left 0 written 0) bytes contents ends
      refl short input calm calm) enough ∙ ap verdict_status flawed;
  json = λ law bytes contents status left written ends short input enough.
      with-memory (law FromJson status (streams (Some bytes) 0 (Some []) 0) (streams left 0 written 0) bytes contents ends
      refl short input calm calm) enough;
  alone = λ law text status left written ends enough.
      with-memory (law text status (streams left 0 (Some []) 0) (streams left 0 written 0) ends calm) enough;
  printed = λ law bytes contents status text input is printed.
      let its = law bytes contents status text input is in printed its.0 its.1 its.2;
  replayed = λ law bytes contents status text input is replayed.
      let its = law bytes contents status text input is in replayed its.0 its.1 its.3;
  written = λ law bytes text now right ends.
      ends.0.written
      ∙ ap (λ (t : List ℕ). Some t) (law Cover bytes Done Done ends.0.text text refl ends.0.right right).1;
  written_refused = λ law bytes text now right ends.
      ends.0.written
      ∙ ap (λ (t : List ℕ). Some t) (law Cover bytes Refused Refused ends.0.text text refl ends.0.right right).1;
  written_check = λ law bytes text now right ends.
      ends.0.written
      ∙ ap (λ (t : List ℕ). Some t) (law Check bytes Unsound Unsound ends.0.text text refl ends.0.right right).1;
  begun = λ law bytes text part s left right ends.
      let part_of = ends.1.part in (
        part_of.back,
        (law Cover bytes s ends.1.status text ends.1.text refl right ends.1.right).1 ∙ part_of.parts
            ∙ ap (λ (front : List ℕ). front ++ part_of.back) (front-is part_of.written),
      );
}
