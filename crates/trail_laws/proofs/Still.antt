-- While a find is quiet its subscriber stands still, and what passage is open stays so.
use Rattle.std.proofs.Common.{◌≡◌, ℕ, suc, ◌<◌, ◌≤◌, ◌^◌, Bool, true, false, [], ◌∷◌, ◌++◌, length, refl, sym, ap, ◌∙◌, arith}
use Rattle.std.proofs.lemmas.Option.{slice_get_within}
use Rattle.entry_word.specs.Marks.{mark_in}
use Rattle.entry_word.specs.declared.mark.PresenceMark.TheVariants.{Coming}
use Rattle.entry_word.specs.declared.visit.Key.TheVariants.{Presence}
use Rattle.entry_word.specs.declared.visit.Visit.{Visit}
use Rattle.directory.specs.Settings.{Setting}
use Rattle.directory.specs.Histories.{before, History, is_put_for, through}
use Rattle.directory.specs.Legal.{IsLegal}
use Rattle.directory.specs.Looks.{first_of, last_of, look_by}
use Rattle.directory.specs.Puts.{is_of_move}
use Rattle.directory.specs.Standing.{number, passage, standing}
use Rattle.trail_laws.specs.Trail.{mark_seen}
use Rattle.trail_laws.specs.Phases.{RestIsSettled}
use Rattle.trail_laws.specs.Ways.{IsOpenAtMost, PassagesAreOpen, StandsInside}
use Rattle.trail_laws.specs.Within.{QuietFindsStandStill}
use Rattle.trail_laws.proofs.Alike.{alike-step, switch-rests, switching}
use Rattle.trail_laws.proofs.Passing.{cell-kept, front-legal, while-quiet}
use Rattle.trail_laws.proofs.Sure.{Used}
use Rattle.trail_laws.proofs.Right.{at-last}

-- what is as it was at another history
record IsStill (setting : Setting) (sub : ℕ) (one other : History) : Type 0 where
  stands : standing setting sub other ≡ standing setting sub one
  count : number sub other ≡ number sub one
  open_too : (p u : ℕ) → mark_seen setting sub one (standing setting sub one) ≡ Coming p u → p ≡ number sub one
      → mark_seen setting sub other (standing setting sub one) ≡ Coming p u

still-step : Used → RestIsSettled → {setting : Setting} {sub : ℕ} {one history : History} (visit : Visit)
    → setting.nodes ≤ 2 ^ 16 → IsLegal setting sub history → IsLegal setting sub (history ++ visit ∷ [])
    → is_of_move sub history visit.act ≡ false → IsStill setting sub one history
    → IsStill setting sub one (history ++ visit ∷ [])
still-step used rested {setting} {sub} {one} {history} visit low legal legal_more quiet still =
    let alike = alike-step used.cells used.marks_left used.rests history visit low legal legal_more quiet in
    record {
      stands = alike.stands ∙ still.stands;
      count = alike.count ∙ still.count;
      open_too = λ p u comes same. at_put (is_put_for sub visit.act) refl p u (still.open_too p u comes same)
          (same ∙ sym still.count);
    }
  where
    at_put : (b : Bool) → is_put_for sub visit.act ≡ b → (p u : ℕ)
        → mark_seen setting sub history (standing setting sub one) ≡ Coming p u → p ≡ number sub history
        → mark_seen setting sub (history ++ visit ∷ []) (standing setting sub one) ≡ Coming p u
    at_put false e p u comes same = ap mark_in
        (cell-kept used.cells setting sub history visit (Presence (standing setting sub one) sub) refl e) ∙ comes
    at_put true e p u comes same = grind (arith, switch-rests, switching)

pub stand-still : Used → RestIsSettled → PassagesAreOpen → StandsInside → QuietFindsStandStill
stand-still used rested opens inside setting history actor call found tickets low legal find quiet =
    (still.stands, opened)
  where
    -- the last look is a visit of the history, and no earlier than the first
    late : (first_of tickets ≤ last_of tickets) × (last_of tickets < length history)
    late = at-last setting history actor call (λ t pursuit. (first_of tickets ≤ t) × (t < length history))
        (λ t u pursuit key later is_look wanted h.
        (omega (arith, later, h.0), slice_get_within history u (look_by actor key) is_look)) tickets find
        (λ t key same is_look wanted. (omega (arith, same), slice_get_within history t (look_by actor key) is_look))

    still : IsStill setting call.sub (before (first_of tickets) history) (through (last_of tickets) history)
    still = while-quiet used.fronts history (IsStill setting call.sub (before (first_of tickets) history)) low legal
        (λ seen visit is more calm now. still-step used rested visit low is more calm now) (first_of tickets)
        (suc (last_of tickets)) (omega (arith, late.0)) (omega (arith, late.1))
        (λ x h g. quiet x h (omega (arith, g)))
        (record { stands = refl; count = refl; open_too = λ p u comes same. comes })

    opened : IsOpenAtMost setting call.sub (before (first_of tickets) history)
        (passage setting call.sub (through (last_of tickets) history))
    opened p u comes same = omega (
      arith,
      opens setting call.sub (through (last_of tickets) history) low
          (front-legal used.fronts setting call.sub history (suc (last_of tickets)) low legal)
          (standing setting call.sub (before (first_of tickets) history)) p u
          (inside setting call.sub (before (first_of tickets) history) low
          (front-legal used.fronts setting call.sub history (first_of tickets) low legal))
          (still.open_too p u comes same) (same ∙ sym still.count),
    )
