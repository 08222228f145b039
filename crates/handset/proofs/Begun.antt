-- What a handset stands for goes on with each step that it begins.
use Rattle.std.proofs.Common.{◌≡◌, ℕ, ◌+◌, ◌<◌, ◌≤◌, Bool, true, false, List, [], ◌∷◌, ◌++◌, length, map, take, drop, replicate, refl, sym, ap, ◌∙◌, subst, arith, length-append}
use Rattle.std.specs.Prelude.{get_or, nat_le, slice_set, ◌==◌, ◌||◌}
use Rattle.std.proofs.lemmas.List.{append-nil, take-append-le, get_or-replicate, length-replicate, length-set}
use Rattle.node_set.specs.Ascending.{has}
use Rattle.directory.specs.Settings.{Setting, levels, start}
use Rattle.directory.specs.Courses.{Step, move_to, Move, Course, last_stop, gathered_weight, renewal, next_move}
use Rattle.directory.specs.Writes.{visit_of, visits, step_writes, trail, move_writes, writes}
use Rattle.region_plan.specs.Kept.{IsKept}
use Rattle.region_plan.specs.Plan.{PlanData, nodes_of, levels_of}
use Rattle.handset.specs.declared.stage.Stage.TheVariants.{Resting, Coming, Switching}
use Rattle.handset.specs.Condition.{GoesWith, HandsetData}
use Rattle.handset.specs.StepWrites.{left_at}
use Rattle.handset.specs.Beginning.{begin_move, handset_at, journey_to, renewal_in, gathered_then}
use Rattle.directory.specs.Amid.{course_of}
use Rattle.handset.specs.Stands.{switch_to, Shows, StandsAt, StandsForSteps}
use Rattle.handset.proofs.Lists.{drop-spent, highest-same, numbers-from-zero}
use Rattle.handset.proofs.CourseLaws.{course-more}
use Rattle.handset.proofs.Settling.{AddressLaw, GatheredLaw, marked}
use Rattle.handset.proofs.Writing.{coming-left}
use Rattle.directory.specs.StepLaws.{highest-low, visits-more}

-- what a handset at rest stands for
at_rest : (setting : Setting) (handset : HandsetData) (steps : List Step) (made : ℕ) → handset.stage ≡ Resting
    → StandsForSteps setting handset steps made → StandsAt setting handset Resting steps made
at_rest setting handset steps made rests f = subst (λ s. StandsAt setting handset s steps made) rests f

-- a switch
switch-writes : {setting : Setting} {handset : HandsetData} {steps : List Step} {made : ℕ} (off : Bool)
    → StandsAt setting handset Resting steps made → map (visit_of handset.sub)
    (step_writes setting (course_of setting handset.sub steps) (switch_to off)) ≡ map (visit_of handset.sub)
    (left_at setting handset (Switching off))
switch-writes {setting} {handset} {steps} off f = grind (arith, append-nil)

switch-gathered : (setting : Setting) (sub : ℕ) (steps : List Step) (off : Bool) (level : ℕ)
    → gathered_weight (course_of setting sub (steps ++ switch_to off ∷ [])) level
    ≡ gathered_weight (course_of setting sub steps) level
switch-gathered setting sub steps true level = grind (arith, course-more)
switch-gathered setting sub steps false level = grind (arith, course-more)

-- a step that begins changes nothing that is shown
begun-shows : {setting : Setting} {handset : HandsetData} (after : HandsetData) (steps : List Step) (made : ℕ)
    (step : Step) → after.sub ≡ handset.sub → after.place ≡ handset.place → after.number ≡ handset.number
    → after.is_off ≡ handset.is_off → made ≤ length (visits setting handset.sub steps)
    → Shows setting handset (take made (visits setting handset.sub steps))
    → Shows setting after (take made (visits setting handset.sub (steps ++ step ∷ [])))
begun-shows {setting} {handset} after steps made step sub place number off few shows =
    grind (arith, visits-more, take-append-le)

-- its writes are what is left
few-more : (setting : Setting) (sub : ℕ) (steps : List Step) (made : ℕ) (step : Step)
    → made ≤ length (visits setting sub steps) → made ≤ length (visits setting sub (steps ++ step ∷ []))
few-more setting sub steps made step few = simp (visits-more setting sub steps step, length-append) (omega arith)

left-more : (setting : Setting) (sub : ℕ) (steps : List Step) (made : ℕ) (step : Step)
    → made ≤ length (visits setting sub steps) → drop made (visits setting sub steps) ≡ []
    → drop made (visits setting sub (steps ++ step ∷ []))
    ≡ map (visit_of sub) (step_writes setting (course_of setting sub steps) step)
left-more setting sub steps made step few left = grind (arith, visits-more, drop-spent)

pub switch-stands : (setting : Setting) (handset : HandsetData) (steps : List Step) (made : ℕ) (off : Bool)
    → handset.stage ≡ Resting → StandsForSteps setting handset steps made
    → StandsForSteps setting (record handset { stage = Switching off }) (steps ++ switch_to off ∷ []) made
switch-stands setting handset steps made off rests stands =
    let f = at_rest setting handset steps made rests stands in
    let after : HandsetData = record handset { stage = Switching off } in
    let begun = ap (λ (xs : List Step). xs ++ switch_to off ∷ []) (f.begun ∙ append-nil f.over) in
    let gathered = λ (level : ℕ) (h : level < levels setting). f.gathered level h
    ∙ sym (switch-gathered setting handset.sub steps off level) in
    let shows = begun-shows after steps made (switch_to off) refl refl refl refl f.few f.shows in
    let few = few-more setting handset.sub steps made (switch_to off) f.few in
    let left = left-more setting handset.sub steps made (switch_to off) f.few f.left ∙ switch-writes off f in
    search

-- a move
same-renewal : (setting : Setting) (course : Course) (xs : List ℕ) {weight other : ℕ} → weight ≡ other
    → ((level : ℕ) → level < levels setting → get_or xs level 0 ≡ gathered_weight course level)
    → renewal_in setting xs weight ≡ renewal setting course other
same-renewal setting course xs {weight} {other} same kept = grind (arith, highest-same)

pub begin-stands : (setting : Setting) (handset : HandsetData) (steps : List Step) (made to : ℕ)
    → AddressLaw setting → GatheredLaw setting
    → length handset.gathered ≡ levels setting
    → handset.stage ≡ Resting → handset.is_off ≡ false → StandsForSteps setting handset steps made
    → StandsForSteps setting (begin_move setting handset to) (steps ++ move_to to ∷ []) made
begin-stands setting handset steps made to address_law gathered_law count rests is_on stands =
    let f = at_rest setting handset steps made rests stands in
    let before : Course = course_of setting handset.sub f.over in
    let over : steps ≡ f.over = f.begun ∙ append-nil f.over in
    let kept : (level : ℕ) → level < levels setting
    → get_or handset.gathered level 0 ≡ gathered_weight before level = grind arith in
    let far : setting.distance handset.place to ≡ setting.distance (last_stop before) to = grind arith in
    let is_move : move ≡ next_move setting before to = grind (arith, same-renewal) in
    let all : map (visit_of handset.sub) (move_writes setting (course_of setting handset.sub steps)
    (next_move setting (course_of setting handset.sub steps) to)) ≡ map (visit_of handset.sub)
    (left_at setting (begin_move setting handset to) Coming) =
    ap (λ xs. map (visit_of handset.sub) (move_writes setting (course_of setting handset.sub xs)
    (next_move setting (course_of setting handset.sub xs) to))) over
    ∙ (ap (λ m. map (visit_of handset.sub) (move_writes setting before m)) (sym is_move)
    ∙ ap (map (visit_of handset.sub)) (coming-left setting before (begin_move setting handset to) low f.addresses
    (λ node h. f.trail to node h ∙ ap (λ m. has node (trail setting before m)) (sym is_move)))) in
    record {
      over = f.over;
      begun = ap (λ xs. xs ++ move_to to ∷ []) over;
      move = (is_move, sym f.is_off ∙ is_on);
      place = f.place;
      number = f.number;
      is_off = f.is_off;
      addresses = f.addresses;
      gathered = λ level h.
          numbers-from-zero (λ k. gathered_then (get_or handset.gathered k 0) move.renewed move.weight k)
          (length handset.gathered) level (omega (arith, h, count))
          ∙ (ap (λ m. gathered_then (get_or handset.gathered level 0) m.renewed m.weight level) is_move
          ∙ (ap (λ w. gathered_then w (next_move setting before to).renewed (setting.distance
          (last_stop before) to) level) (kept level h)
          ∙ sym (ap (λ xs. gathered_weight (course_of setting handset.sub (xs ++ move_to to ∷ [])) level) over
          ∙ (ap (λ c. gathered_weight c level) (course-more setting handset.sub f.over (move_to to))
          ∙ gathered_law (start setting handset.sub) f.over to level))));
      trail = f.trail;
      shows = begun-shows (begin_move setting handset to) steps made (move_to to) refl refl refl refl f.few f.shows;
      few = few-more setting handset.sub steps made (move_to to) f.few;
      left = left-more setting handset.sub steps made (move_to to) f.few f.left ∙ all;
    }
  where
    move : Move
    move = journey_to setting handset to

    low : move.renewed ≤ setting.top
    low = highest-low (λ level. nat_le (setting.threshold level) (get_or handset.gathered level 0 + move.weight))
        setting.top

-- a handset at rest at its start
pub new-stands : (setting : Setting) (plan : PlanData) (sub : ℕ) {home : ℕ} → setting.nodes ≡ nodes_of plan
    → levels setting ≡ levels_of plan → start setting sub ≡ home → home < nodes_of plan
    → StandsForSteps setting (handset_at plan sub home) [] 0
unfolding writes
new-stands setting plan sub {home} nodes count starts inside = record {
  over = [];
  begun = refl;
  move = tt;
  place = sym starts;
  number = refl;
  is_off = refl;
  addresses = λ level h. get_or-replicate (levels_of plan) level home 0 (omega (arith, h, count)) ∙ sym starts;
  gathered = λ level h. get_or-replicate (levels_of plan) level 0 0 (omega (arith, h, count));
  trail = λ to node h. at_start node (omega (arith, h, nodes));
  shows = record { place = sym starts; number = refl; is_off = refl };
  few = omega arith;
  left = refl;
}
  where
    at_start : (node : ℕ) → node < nodes_of plan → get_or (slice_set (replicate
        (nodes_of plan) false) home true) node false ≡ (node == start setting sub || false)
    at_start node h =
        let count = length-replicate (nodes_of plan) false in
        let told = marked (replicate (nodes_of plan) false) false home node (omega (arith, inside, count))
        (omega (arith, h, count)) in
        let none = get_or-replicate (nodes_of plan) node false false h in
        grind arith

-- it goes with its plan
pub new-goes : {plan : PlanData} (sub home : ℕ) → IsKept plan → home < nodes_of plan
    → GoesWith plan (handset_at plan sub home)
new-goes {plan} sub home kept inside = grind (arith, length-replicate, length-set, get_or-replicate)
