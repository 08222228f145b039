-- Where subscribers are, and whether they are off, after one call more.
use Rattle.std.proofs.Common.{◌≡◌, ℕ, ◌<◌, ◌≤◌, Bool, true, false, cond, eqb, List, [], ◌∷◌, ◌++◌, length, get_or, set, append-nil, refl, ◌∙◌, arith}
use Rattle.std.proofs.lemmas.List.Elements.{filter-append}
use Rattle.std.proofs.lemmas.List.{map-append, get_or-set_same, get_or-set_other, length-set}
use Rattle.std.proofs.lemmas.Bool.Decides.{nat_tests}
use Rattle.net_reader.specs.declared.said.Call.{Call}
use Rattle.net_reader.specs.declared.said.Call.TheVariants as acts
use Rattle.net_reader.specs.declared.said.Spoken.{Spoken}
use Rattle.net_reader.specs.Said.{script_of, place_after, off_after}
use Rattle.net_reader.specs.Seen.{Stands}

abbrev pub make : ℕ → Call → Spoken
make actor call = record { actor = actor; call = call }

-- one call more in a script
abbrev pub with_call : Bool → List Call → Call → List Call
with_call true script call = script ++ call ∷ []
with_call false script call = script

pub script_of-push : (s : ℕ) (calls : List Spoken) (d : Spoken)
    → script_of s (calls ++ d ∷ []) ≡ with_call (eqb d.actor s) (script_of s calls) d.call
script_of-push s calls d = grind (arith, filter-append, map-append, append-nil)

pub place_after-push : (here : ℕ) (script : List Call) (call : Call)
    → place_after here (script ++ call ∷ []) ≡ place_after (place_after here script) (call ∷ [])
place_after-push here [] call = refl
place_after-push here (acts.Move to ∷ script) call = place_after-push to script call
place_after-push here (other ∷ script) call = place_after-push here script call

pub off_after-push : (off : Bool) (script : List Call) (call : Call)
    → off_after off (script ++ call ∷ []) ≡ off_after (off_after off script) (call ∷ [])
off_after-push off [] call = refl
off_after-push off (acts.Off ∷ script) call = off_after-push true script call
off_after-push off (acts.On ∷ script) call = off_after-push false script call
off_after-push off (other ∷ script) call = off_after-push off script call

-- after one call more, of this actor or of another
pub place-with : (s here : ℕ) (calls : List Spoken) (d : Spoken)
    → place_after here (script_of s (calls ++ d ∷ [])) ≡ cond (eqb d.actor s) (place_after (place_after here (script_of
    s calls)) (d.call ∷ [])) (place_after here (script_of s calls))
place-with s here calls d =
    grind (arith, script_of-push s calls d, place_after-push here (script_of s calls) d.call)

pub off-with : (s : ℕ) (calls : List Spoken) (d : Spoken)
    → off_after false (script_of s (calls ++ d ∷ [])) ≡ cond (eqb d.actor s) (off_after (off_after false (script_of s
    calls)) (d.call ∷ [])) (off_after false (script_of s calls))
off-with s calls d = grind (arith, script_of-push s calls d, off_after-push false (script_of s calls) d.call)

-- after one call more, where subscribers alone move and switch
Stands-call : {homes : List ℕ} {calls : List Spoken} {places later : List ℕ} {off now : List Bool} (a : ℕ) (call : Call)
    → Stands homes calls places off → length later ≡ length places → length now ≡ length off
    → ((s : ℕ) → s < length homes → get_or later s 0
    ≡ cond (eqb a s) (place_after (get_or places s 0) (call ∷ [])) (get_or places s 0))
    → ((s : ℕ) → s < length homes → get_or now s false
    ≡ cond (eqb a s) (off_after (get_or off s false) (call ∷ [])) (get_or off s false))
    → ((s here : ℕ) → length homes ≤ s → eqb a s ≡ true
    → (place_after here (call ∷ []) ≡ here) × (off_after false (call ∷ []) ≡ false))
    → Stands homes (calls ++ make a call ∷ []) later now
Stands-call {homes} {calls} a call h same_places same_off places_are off_are others = record {
  places_count = same_places ∙ h.places_count;
  off_count = same_off ∙ h.off_count;
  place = λ s below.
      rw (place-with s (get_or homes s 0) calls (make a call), ← h.place s below) (places_are s below);
  is_off = λ s below. rw (off-with s calls (make a call), ← h.is_off s below) (off_are s below);
  no_moves = λ s here above.
      grind (arith, place-with s here calls (make a call), h.no_moves s here above, others s here above);
  no_switches = λ s above. grind (arith, off-with s calls (make a call), h.no_switches s above, others s 0 above);
}

-- a subscriber moves
pub Stands-move : {homes : List ℕ} {calls : List Spoken} {places : List ℕ} {off : List Bool} (a to : ℕ)
    → Stands homes calls places off → a < length homes → Stands homes (calls ++ make a (acts.Move to) ∷ [])
    (set places a to) off
Stands-move {places = places} a to h lt = Stands-call a (acts.Move to) h (length-set places a to) refl
    (λ s below. grind (
      arith,
      nat_tests,
      get_or-set_same places a to 0,
      get_or-set_other places a s to 0,
      h.places_count,
    )) (λ s below. grind arith) (λ s here above e. grind (arith, nat_tests))

-- a caller finds
pub Stands-find : {homes : List ℕ} {calls : List Spoken} {places : List ℕ} {off : List Bool} (a from sub : ℕ)
    → Stands homes calls places off → Stands homes (calls ++ make a (acts.Find from sub) ∷ []) places off
Stands-find a from sub h = Stands-call a (acts.Find from sub) h refl refl
    (λ s below. grind arith) (λ s below. grind arith)
    (λ s here above e. (refl, refl))

-- a subscriber switches off or on
abbrev pub switch : Bool → Call
switch off = cond off acts.Off acts.On

switch-place : (off : Bool) (here : ℕ) → place_after here (switch off ∷ []) ≡ here
switch-place true here = refl
switch-place false here = refl

switch-off : (off was : Bool) → off_after was (switch off ∷ []) ≡ off
switch-off true was = refl
switch-off false was = refl

pub Stands-switch : {homes : List ℕ} {calls later : List Spoken} {places : List ℕ} {offs : List Bool} (a : ℕ)
    (off : Bool) {call : Call} → call ≡ switch off → later ≡ calls ++ make a call ∷ [] → Stands homes calls places offs
    → a < length homes → Stands homes later places (set offs a off)
Stands-switch {offs = offs} a off is after h lt = rw (after, is)
    (Stands-call a (switch off) h refl (length-set offs a off)
    (λ s below. grind (arith, switch-place off))
    (λ s below. rw switch-off (grind (
      arith,
      nat_tests,
      get_or-set_same offs a off false,
      get_or-set_other offs a s off false,
      h.off_count,
    ))) (λ s here above e. absurd (grind (arith, nat_tests))))
