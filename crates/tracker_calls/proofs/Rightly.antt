-- An answer tells rightly: the laws of the trail, of the stretch and of prices, in what the pass has seen.
use Rattle.std.proofs.Common.{◌≡◌, ℕ, suc, ◌<◌, ◌≤◌, ◌^◌, List, [], ◌∷◌, length, sym, ◌∙◌, arith}
use Rattle.std.specs.Prelude.{flat_map}
use Rattle.busy_finds.specs.Plans.{PlanFindsAreBounded}
use Rattle.directory.specs.Settings.{Setting}
use Rattle.directory.specs.Histories.{History, IsFront, through, words_at}
use Rattle.directory.specs.Finds.{FindCall, ended, find}
use Rattle.directory.specs.Legal.{IsLegal}
use Rattle.directory.specs.Looks.{IsFind, last_of}
use Rattle.directory.specs.Standing.{number}
use Rattle.directory.specs.declared.answers.Found.{Found}
use Rattle.directory.specs.declared.answers.Found.TheVariants.{At, Off, Again}
use Rattle.region_plan.specs.Matched.{IsMatched}
use Rattle.station.specs.Passes.{PassData}
use Rattle.station.specs.Setup.{Setup, nodes_in, setting_in}
use Rattle.stretch_laws.specs.Plans.{PlanFindsAreNear}
use Rattle.trail_laws.specs.Rightness.{AnswersAreRight, HasNumber, IsRight, QuietFindsAnswer}
use Rattle.tracker_calls.specs.RightAnswers.{TellsRightly}
use Rattle.tracker_calls.proofs.Longer.{number-front}
use Rattle.walk.specs.ReaderLaws.{reads-top}

-- a find that has its answer has made a look
pub looked-once : (setting : Setting) (history : History) (call : FindCall) (found : Found) (made : List ℕ)
    → find setting call (flat_map (words_at setting history) made) ≡ ended found → 1 ≤ length made
looked-once setting history call found [] h = cc
looked-once setting history call found (t ∷ made) h = omega arith

-- the number of a right answer
its-number : (setting : Setting) (history : History) (sub last q : ℕ) (found : Found)
    → IsRight setting history sub found last → HasNumber found q → q ≡ number sub (through last history)
its-number setting history sub last q (At node p level weight) right its = sym its ∙ right.1
its-number setting history sub last q (Off node p level weight) right its = sym its ∙ right.1
its-number setting history sub last q (Again why weight) right its = absurd its

pub tells-rightly : AnswersAreRight → QuietFindsAnswer → PlanFindsAreNear → PlanFindsAreBounded
    → (setup : Setup) (old : PassData) {seen : History} {actor : ℕ} {call : FindCall} {found : Found} {made : List ℕ}
    → IsMatched setup.plan → call.from < nodes_in setup → IsLegal (setting_in setup) call.sub seen
    → IsFind (setting_in setup) seen actor call found made → IsFront old.view.seen seen
    → length old.view.seen ≤ last_of made → TellsRightly setup old call found made seen
tells-rightly answers answer near priced setup old {seen} {actor} {call} {found} {made} matched from legal its front late =
    let small : nodes_in setup ≤ 2 ^ 16 = omega (arith, matched.metric.few) in
    let right : IsRight (setting_in setup) seen call.sub found (last_of made) =
    answers (setting_in setup) seen actor call found made small from legal its in
    record {
      right = right;
      quiet = search reads-top;
      near = λ bounds quiet. near setup.plan setup.homes seen actor call found made small bounds from legal its quiet;
      priced = λ bounds ticket from_first to_last. priced setup.plan setup.homes seen actor call found made ticket small
          bounds from legal its from_first to_last;
      newer = λ q is. omega (
        arith,
        its-number (setting_in setup) seen call.sub (last_of made) q found right is,
        number-front call.sub (suc (last_of made)) old.view.seen seen front (omega (arith, late)),
      );
    }
