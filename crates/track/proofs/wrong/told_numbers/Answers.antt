use Rattle.std.proofs.Common.{◌≡◌, ℕ, ap, refl, ◌∙◌, arith}
use Rattle.track.specs.Ends.{Streams, status_number}
use Rattle.track.specs.declared.status.Status.{Status}
use Rattle.track.specs.declared.status.Status.TheVariants.{Done, BadWords}
use Rattle.track.proofs.wrong.told_numbers.Goals as goal

two-only : {number : ℕ} {status : Status} → number ≡ status_number status → status ≡ BadWords → number ≡ 2
two-only is bad = is ∙ ap status_number bad

seven-no : (status : Status) → 7 ≡ status_number status → ⊥
seven-no Done e = omega (arith, e)
seven-no status e = omega (arith, e)

pub returns : goal.returns
returns c = record {
  numbers = refl;
  bad_words = λ threads before now number tells. two-only tells.is tells.ends.0;
  no_form = λ before now tells.
      let e : ◌≡◌ {A = ℕ} 0 2 = two-only tells.is tells.ends.0 in omega (arith, e);
  spoke = λ tells. cc (ap (λ (s : Streams). s.written) tells.ends.1);
  seven = λ threads command before now tells. seven-no tells.status tells.is;
  reads = λ threads status before now ends. ends;
  makes = λ threads load status before now ends. ends;
}
