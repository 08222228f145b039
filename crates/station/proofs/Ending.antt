-- How the passes of all actors tell the order of all tickets.
use Rattle.std.proofs.Common.{◌≡◌, ◌≢◌, ℕ, zero, suc, ◌+◌, ◌==◌, List, [], ◌∷◌, ◌++◌, length, map, take, drop, refl, arith, Option, Some, append_assoc, length-append}
use Rattle.std.proofs.lemmas.Bool.Decides.{nat_tests}
use Rattle.std.proofs.Math.Seq.{take-append_seam}
use Rattle.std.proofs.lemmas.List.{take-append-drop, take_all}
use Rattle.std.proofs.lemmas.Option.{slice_get_within}
use Rattle.directory.specs.ListLaws.{slice_get-right}
use Rattle.std.specs.Prelude.{option_to_list, slice_get, slice_index, if◌then◌else◌}
use mathlib.Core.Logic.{dite}
use native.Mathlib.Decide.{ℕ_discrete, dec_le}
use Rattle.node_set.specs.Ascending.{has}
use Rattle.entry_word.specs.declared.visit.Visit.{Visit}
use Rattle.directory.specs.Histories.{History, IsFront, own, tickets}
use Rattle.station.specs.Passes.{NoteData, PassData, actor_of}
use Rattle.station.specs.Closing.{HasNoPass}
use Rattle.station.specs.Visits.{HasHeard}
use Rattle.station.specs.TicketLaws.{own-nil}
use Rattle.station.proofs.Joining.{longer_one, longer_other}

-- an actor that isn't missing has a pass
none_more : (x : PassData) (passes : List PassData) (actor : ℕ) → actor_of x ≢ actor → HasNoPass passes actor
    → HasNoPass (x ∷ passes) actor
none_more x passes actor ne missing zero pass e is = grind arith
none_more x passes actor ne missing (suc k) pass e is = missing k pass e is

pub find_pass : (passes : List PassData) (actor : ℕ) → ¬ HasNoPass passes actor
    → (k : ℕ) × (pass : PassData) × (slice_get passes k ≡ Some pass) × (actor_of pass ≡ actor)
find_pass [] actor there = absurd (there (λ k pass e is. omega (arith, slice_get_within [] k pass e)))
find_pass (x ∷ passes) actor there = dite (ℕ_discrete (actor_of x) actor)
    (λ e. (0, x, refl, e))
    (λ ne. let t = find_pass passes actor (λ missing. there (none_more x passes actor ne missing)) in
    (suc t.0, t.1, t.2, t.3))

-- who has a visit has a visit of its own
pub own_there : (history : History) (i : ℕ) {visit : Visit} → slice_get history i ≡ Some visit
    → own visit.actor history ≢ []
own_there [] i {visit} e none-own = omega (arith, slice_get_within [] i visit e)
own_there (x ∷ later) zero {visit} e none-own = grind (arith, own-nil)
own_there (x ∷ later) (suc i) {visit} e none-own = own_there later i e (own-nil visit.actor x later none-own).1

pub order_is : (order : List ℕ) (history : History) → length order ≡ length history
    → ((i : ℕ) (visit : Visit) → slice_get history i ≡ Some visit → slice_index order i ≡ visit.actor)
    → order ≡ map (λ (visit : Visit). visit.actor) history
order_is [] [] count all = refl
order_is [] (x ∷ history) count all = absurd (omega arith)
order_is (o ∷ order) [] count all = absurd (omega arith)
order_is (o ∷ order) (x ∷ history) count all =
    let rest = order_is order history (omega arith) (λ i visit e. all (suc i) visit e) in
    let first : o ≡ x.actor = all 0 x refl in
    λ i. first i ∷ rest i

-- a pass more is stamped
pub stamp_more : (old new : List ℕ) (i : ℕ) (visit : Visit) (actor : ℕ) (history : History)
    → has i (tickets actor history) ≡ (visit.actor == actor)
    → slice_index new i ≡ (if has i (tickets actor history) then actor else slice_index old i)
    → (visit.actor ≢ actor → slice_index old i ≡ visit.actor) → slice_index new i ≡ visit.actor
stamp_more old new i visit actor history told is other = grind (arith, nat_tests)

-- the pass that is taken from the end of those that are left
pub taken : (all : List PassData) {before : List PassData} (left : List PassData) (o : Option PassData)
    {pass : PassData} → before ≡ left ++ option_to_list o → o ≡ Some pass → before ≡ take (length before) all
    → (left ≡ take (length left) all) × (slice_get all (length left) ≡ Some pass) × (length before ≡ length left + 1)
taken all {before} left o {pass} items is rest = grind (
  arith,
  take-append-drop (length before) all,
  append_assoc left (pass ∷ []) (drop (length before) all),
  take-append_seam left (pass ∷ (drop (length before) all)),
  slice_get-right left (pass ∷ (drop (length before) all)) (length left) 0 (omega arith),
  length-append left (pass ∷ []),
)

-- a pass that hears of a history that goes on from its own has seen that
pub heard_whole : {whole : History} {pass new : PassData} {note : NoteData} → HasHeard pass note new
    → note.view.seen ≡ whole → IsFront pass.view.seen whole → new.view.seen ≡ whole
heard_whole {whole} {pass} heard told front = grind (arith, dec_le, longer_one, take_all, longer_other)
