-- How the parts of reading a network come together.
use Rattle.std.proofs.Common.{◌≡◌, ℕ, ap, refl, sym, subst, ◌∙◌, inl, inr}
use Rattle.std.specs.Prelude.{MatchResult, Result, Ok, Err}
use Rattle.track_c.specs.Faults.{Answer, TellsWithMemory, code_of}
use Rattle.track_c.specs.Held.{Held, IsMade, PlanHeld, into, nothing, seen_network, seen_object}
use Rattle.track_c.specs.Plans.{IsAlmostMade, IsUnmade, Makes, made, no_memory, refused}
use Rattle.track_c.specs.declared.fault.Fault.{Fault}
use Rattle.track_c.specs.declared.object.Network.{Network}
use Rattle.track_c.specs.declared.object.Object.{Object}
use Rattle.track_c.specs.declared.plans.TrackRefusal.{TrackRefusal}
use Rattle.track_c.specs.declared.plans.Unmade.{Unmade}
use Rattle.track_c.specs.declared.plans.Unmade.TheVariants as unmade

-- what a handle that was empty is then, with the code
pub record Fills (object : Result Object Fault) (code : ℕ) (now : Held) : Type 0 where
  pub refused : (fault : Fault) → object ≡ Err fault → (code ≡ code_of fault) × (now ≡ nothing)
  pub filled : (answer : Answer Held) → IsMade answer object
      → TellsWithMemory answer code nothing now

-- a network that was read, or not, is in the handle, or not
makes-read : (IsPlan : PlanHeld → Type 0) (IsRefusal : TrackRefusal → Type 0)
    (read : Result Network Unmade) (object : Result Object Fault) (before after : TrackRefusal)
    (code : ℕ) (now : Held)
    → MatchResult read (λ network. IsPlan (seen_network network)) (IsUnmade IsRefusal)
    → IsAlmostMade read object before after → Fills object code now
    → Makes IsPlan IsRefusal code now before after
makes-read IsPlan IsRefusal (Ok network) (Ok object) before after code now plan almost fills =
    elim (fills.filled (Ok (seen_object object)) (inl refl)) [
      | inl told ↦ made (seen_network network) plan told.0 (told.1 ∙ almost.0) almost.1
      | inr wanting ↦ no_memory wanting.0 wanting.1 almost.1
    ]
makes-read IsPlan IsRefusal (Ok network) (Err fault) before after code now plan almost fills =
    let told = fills.refused fault refl in
    no_memory (told.0 ∙ ap code_of almost.0) told.1 almost.1
makes-read IsPlan IsRefusal (Err unmade.NoMemory) (Ok object) before after code now plan almost
    fills = absurd almost
makes-read IsPlan IsRefusal (Err unmade.NoMemory) (Err fault) before after code now plan almost
    fills =
    let told = fills.refused fault refl in
    no_memory (told.0 ∙ ap code_of almost.0) told.1 almost.1
makes-read IsPlan IsRefusal (Err (unmade.Refused refusal)) (Ok object) before after code now plan
    almost fills = absurd almost
makes-read IsPlan IsRefusal (Err (unmade.Refused refusal)) (Err fault) before after code now plan
    almost fills =
    let told = fills.refused fault refl in
    refused (subst IsRefusal (sym almost.1) plan) (told.0 ∙ ap code_of almost.0) told.1

-- so it is by what the calls tell of a handle that was empty
pub read-into : (IsPlan : PlanHeld → Type 0) (IsRefusal : TrackRefusal → Type 0)
    (read : Result Network Unmade) (object : Result Object Fault) (before after : TrackRefusal)
    (code : ℕ) (old now : Held) → old ≡ nothing
    → MatchResult read (λ network. IsPlan (seen_network network)) (IsUnmade IsRefusal)
    → IsAlmostMade read object before after
    → ((fault : Fault) → object ≡ Err fault → old ≡ nothing
    → (code ≡ code_of fault) × (now ≡ nothing))
    → ((answer : Answer Held) → IsMade answer object
    → TellsWithMemory (into old answer) code old now)
    → Makes IsPlan IsRefusal code now before after
read-into IsPlan IsRefusal read object before after code old now empty plan almost is_refused
    is_filled =
    makes-read IsPlan IsRefusal read object before after code now plan almost
    (record {
      refused = λ fault e. is_refused fault e empty;
      filled = λ answer is.
          subst (λ (h : Held). TellsWithMemory (into h answer) code h now) empty
          (is_filled answer is);
    })
