-- Short laws of the stages of a step, for the proofs of the crates above.
-- Key laws: `rest-means` (a stage at rest is Resting), `stage-rests` (so is that of a handset which
-- has nothing to write), `rests` (such a handset is where the course of its steps ends, and has
-- made all their visits).
use Rattle.std.proofs.Common.{◌≡◌, true, refl, ℕ, List, length, ap, ◌∙◌, subst, sym, arith, suc}
use Rattle.std.specs.Prelude.{None}
use Rattle.handset.specs.Beginning.{is_rest}
use Rattle.handset.specs.declared.stage.Stage.{Stage}
use Rattle.handset.specs.declared.stage.Stage.TheVariants.{Resting, Coming, Renewing, Committing, Confirming, Erasing, Purging, Switching}
use Rattle.std.proofs.lemmas.List.{append-nil, length-drop}
use Rattle.directory.specs.Settings.{Setting}
use Rattle.directory.specs.Amid.{course_of}
use Rattle.directory.specs.Courses.{Step, last_stop}
use Rattle.directory.specs.ListLaws.{option_map-none}
use Rattle.directory.specs.Writes.{visit_of, visits}
use Rattle.handset.specs.Condition.{HandsetData}
use Rattle.handset.specs.StepWrites.{due, due_at, after_write, go_on, erasing_from, purging_from}
use Rattle.handset.specs.Stands.{StandsAt, StandsForSteps}

-- a stage at rest is Resting
pub rest-means : (stage : Stage) → is_rest stage ≡ true → stage ≡ Resting
rest-means Resting rests = refl
rest-means Coming rests = cc
rest-means (Renewing level) rests = cc
rest-means Committing rests = cc
rest-means Confirming rests = cc
rest-means (Erasing level) rests = cc
rest-means (Purging node) rests = cc
rest-means (Switching off) rests = cc

-- a handset that has nothing to write is Resting
pub stage-rests : (setting : Setting) (handset : HandsetData) → due setting handset ≡ None
    → handset.stage ≡ Resting
stage-rests setting handset none =
    at handset.stage
    (option_map-none (visit_of handset.sub) (due_at setting handset handset.stage) none)
  where
    at : (stage : Stage) → due_at setting handset stage ≡ None → stage ≡ Resting
    at Resting h = refl
    at Coming h = cc
    at (Renewing level) h = cc
    at Committing h = cc
    at Confirming h = cc
    at (Erasing level) h = cc
    at (Purging node) h = cc
    at (Switching off) h = cc

-- a handset at rest, after steps whose visits are all made: it is where their course ends
pub record IsRestAfter (setting : Setting) (sub : ℕ) (handset : HandsetData) (steps : List Step)
    (made : ℕ) : Type 0 where
  pub place : handset.place ≡ last_stop (course_of setting sub steps)
  pub number : handset.number ≡ length (course_of setting sub steps).moves
  pub is_off : handset.is_off ≡ (course_of setting sub steps).is_off
  pub all : made ≡ length (visits setting sub steps)

-- a handset that is Resting is so
pub rest-after : (setting : Setting) (handset : HandsetData) (steps : List Step) (made : ℕ)
    → StandsForSteps setting handset steps made → handset.stage ≡ Resting
    → IsRestAfter setting handset.sub handset steps made
rest-after setting handset steps made stands rests =
    let at : StandsAt setting handset Resting steps made =
    subst (λ stage. StandsAt setting handset stage steps made) rests stands in
    let over : at.over ≡ steps = sym (append-nil at.over) ∙ sym at.begun in
    record {
      place = at.place ∙ ap (λ ss. last_stop (course_of setting handset.sub ss)) over;
      number = at.number ∙ ap (λ ss. length (course_of setting handset.sub ss).moves) over;
      is_off = at.is_off ∙ ap (λ ss. (course_of setting handset.sub ss).is_off) over;
      all = omega (
        arith,
        at.few,
        ap length at.left,
        length-drop made (visits setting handset.sub steps),
      );
    }

-- a handset that has nothing to write rests behind its steps
pub rests : (setting : Setting) (handset : HandsetData) (steps : List Step) (made : ℕ)
    → StandsForSteps setting handset steps made → due setting handset ≡ None
    → IsRestAfter setting handset.sub handset steps made
rests setting handset steps made stands none =
    rest-after setting handset steps made stands (stage-rests setting handset none)

-- a handset keeps its subscriber, whatever it writes
go_on-sub : (setting : Setting) (handset : HandsetData) (stage : Stage)
    → (go_on setting handset stage).sub ≡ handset.sub
go_on-sub setting handset Resting = refl
go_on-sub setting handset stage = refl

pub write-sub : (setting : Setting) (handset : HandsetData) (stage : Stage)
    → (after_write setting handset stage).sub ≡ handset.sub
write-sub setting handset Confirming = go_on-sub setting handset (erasing_from setting handset 0)
write-sub setting handset (Erasing level) =
    go_on-sub setting handset (erasing_from setting handset (suc level))
write-sub setting handset (Purging node) =
    go_on-sub setting handset (purging_from setting handset (suc node))
write-sub setting handset Resting = refl
write-sub setting handset stage = refl
