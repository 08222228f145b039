-- A mover that is made of words, over the plan that a handle holds, or why it isn't.
use Rattle.std.proofs.Common.{◌≡◌, ℕ, List, ap, subst, sym, ◌∙◌}
use Rattle.std.specs.Prelude.{Ok, Err}
use Rattle.handset.specs.Condition.{HandsetData}
use Rattle.handset.specs.States.{IsRefusalOf, state_of}
use Rattle.handset.specs.declared.fault.StateFault.{StateFault}
use Rattle.handset.specs.declared.fault.StateRefusal.{StateRefusal}
use Rattle.handset.specs.declared.fault.StateRefusal.TheVariants as refusals
use Rattle.track_c.specs.Faults.{Answer, and_then}
use Rattle.track_c.specs.Held.{Held, PlanHeld, a_mover, seen_network}
use Rattle.track_c.specs.Saving.{loaded, state_refusal, unless_no_state}
use Rattle.track_c.specs.declared.fault.Fault.{Fault}
use Rattle.track_c.specs.declared.object.Network.{Network}

-- the answer over the plan of a network is that of the words
over-network : (answer : Answer PlanHeld) (words : List ℕ) (read own : Network) → read ≡ own
    → answer ≡ Ok (seen_network own)
    → and_then answer (loaded words) ≡ unless_no_state (seen_network own) (state_of read.plan words)
over-network answer words read own same is =
    ap (λ it. and_then it (loaded words)) is
    ∙ ap (λ network. unless_no_state (seen_network own) (state_of network.plan words)) (sym same)

pub mover-loaded : (answer : Answer PlanHeld) (words : List ℕ) (read own : Network)
    (handset : HandsetData) → read ≡ own → answer ≡ Ok (seen_network own)
    → state_of read.plan words ≡ Ok handset
    → Ok (a_mover (record { plan = own.plan; handset = handset })) ≡ and_then answer (loaded words)
mover-loaded answer words read own handset same is found =
    sym (over-network answer words read own same is ∙ ap (unless_no_state (seen_network own)) found)

pub load-refused : (answer : Answer PlanHeld) (words : List ℕ) (read own : Network)
    (refusal : StateRefusal) (fault : StateFault) (told : Fault) → read ≡ own
    → answer ≡ Ok (seen_network own) → refusal ≡ refusals.Fault fault
    → IsRefusalOf (state_of read.plan words) refusal → told ≡ state_refusal fault
    → (let r : Answer Held = Err told in r) ≡ and_then answer (loaded words)
load-refused answer words read own refusal fault told same is why refused says =
    ap (λ (it : Fault). let r : Answer Held = Err it in r) says
    ∙ sym (over-network answer words read own same is
    ∙ ap (unless_no_state (seen_network own)) (subst (IsRefusalOf (state_of read.plan words)) why refused))
