-- How the parts of a call over a crew come together: what is answered where a handle is empty, and
-- where a crew was made, or not.
use Rattle.std.proofs.Common.{◌≡◌, ◌⊎◌, ◌∙◌, ℕ, Bool, true, false, List, ap, refl, sym, subst, inl, inr}
use Rattle.std.specs.Prelude.{Option, Some, None, Result, Err}
use Rattle.std.specs.Option.{is_some}
use Rattle.directory.specs.Finds.{FindCall}
use Rattle.track_c.specs.Callers.{IsFindOf, caller_in}
use Rattle.track_c.specs.Censuses.{IsCensusBy}
use Rattle.track_c.specs.Crews.{HandsNext, IsCrewAnswer, MakesCrew, crew_in, handing, with_pass_left}
use Rattle.track_c.specs.Faults.{Answer, TellsWithMemory, and_then, code_of}
use Rattle.track_c.specs.Held.{Held, IsMade, PlanHeld, into, nothing, plan_in, seen, seen_made}
use Rattle.track_c.specs.Subscribers.{IsStepOf, subscriber_in}
use Rattle.track_c.specs.declared.fault.Fault.{Fault}
use Rattle.track_c.specs.declared.fault.Fault.TheVariants.{EmptyHandle, NoMemory}
use Rattle.track_c.specs.declared.object.Object.{Object}

-- no crew is made over an empty handle
pub no-plan-crew : (starts : List ℕ) (callers code : ℕ) (plan now : Held) → plan ≡ nothing
    → now ≡ nothing → code ≡ code_of EmptyHandle → MakesCrew (plan_in plan) starts callers code now
no-plan-crew starts callers code plan now is empty told =
    subst (λ (h : Held). MakesCrew (plan_in h) starts callers code now) (sym is)
    (inr (Err EmptyHandle, refl, (told, empty)))

-- what was made, or not, is told where the handle was empty
pub crew-told : (asked : Answer PlanHeld) (starts : List ℕ) (callers code : ℕ)
    (made : Result Object Fault) (old now : Held) → old ≡ nothing
    → ((made ≡ Err NoMemory) ⊎ IsCrewAnswer asked starts callers (seen_made made))
    → ((fault : Fault) → made ≡ Err fault → old ≡ nothing
    → (code ≡ code_of fault) × (now ≡ nothing))
    → ((answer : Answer Held) → IsMade answer made
    → TellsWithMemory (into old answer) code old now)
    → MakesCrew asked starts callers code now
crew-told asked starts callers code made old now empty is is_refused is_filled =
    elim is [
      | inl wanting ↦ inl (is_refused NoMemory wanting empty)
      | inr answers ↦ told answers
          (subst (λ (h : Held). TellsWithMemory (into h (seen_made made)) code h now) empty
          (is_filled (seen_made made) (inl refl)))
    ]
  where
    told : IsCrewAnswer asked starts callers (seen_made made)
        → TellsWithMemory (seen_made made) code nothing now
        → MakesCrew asked starts callers code now
    told answers (inl tells) = inr (seen_made made, answers, tells)
    told answers (inr wanting) = inl wanting

-- an empty handle has no find
pub no-caller-find : (call : FindCall) (before now : Held) → before ≡ nothing → now ≡ nothing
    → IsFindOf (caller_in before) call (Err EmptyHandle) before now
no-caller-find call before now is empty =
    subst (λ (h : Held). IsFindOf (caller_in h) call (Err EmptyHandle) h now) (sym is) (refl, empty)

-- nor a census
pub no-caller-census : (node : ℕ) (before now : Held) → before ≡ nothing → now ≡ nothing
    → IsCensusBy (caller_in before) node (Err EmptyHandle) before now
no-caller-census node before now is empty =
    subst (λ (h : Held). IsCensusBy (caller_in h) node (Err EmptyHandle) h now) (sym is) (refl, empty)

-- an empty handle has no put
pub no-subscriber-step : (before now : Held) → before ≡ nothing → now ≡ nothing
    → IsStepOf (subscriber_in before) (Err EmptyHandle) before now
no-subscriber-step before now is empty =
    subst (λ (h : Held). IsStepOf (subscriber_in h) (Err EmptyHandle) h now) (sym is) (refl, empty)

-- an empty handle has no next member
pub no-crew-next : (crew now member : Held) (actor code : ℕ) → crew ≡ nothing → now ≡ nothing
    → code ≡ code_of EmptyHandle → HandsNext code (handing crew member actor) (handing now member actor)
no-crew-next crew now member actor code is empty told =
    inr (
      EmptyHandle,
      told,
      ap (λ (h : Held). handing h member actor) (empty ∙ sym is),
      inr (ap (λ (h : Held). and_then (crew_in h) with_pass_left) is),
    )

-- a handle that isn't full holds nothing
pub not-full : (full : Bool) (inside : Option Object) → full ≡ is_some inside → full ≡ false
    → seen inside ≡ nothing
not-full full None tied not = refl
not-full full (Some object) tied not = absurd (true-false (sym tied ∙ not))
  where
    true-false : true ≡ false → ⊥
    true-false e = cc
