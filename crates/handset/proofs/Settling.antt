-- What a handset stands for when its move is over.
use Rattle.std.proofs.Common.{◌≡◌, ℕ, suc, map, ◌+◌, ◌<◌, ◌≤◌, Bool, true, false, cond, List, [], ◌∷◌, ◌++◌, length, take, drop, replicate, sym, ap, ◌∙◌, arith, length-append}
use Rattle.std.specs.Prelude.{get_or, nat_le, slice_set, ◌==◌, ◌||◌}
use Rattle.std.proofs.lemmas.Bool.Decides.{nat_tests}
use Rattle.std.proofs.lemmas.List.{append-nil, get_or-set_same, get_or-set_other, get_or-replicate, length-replicate}
use Rattle.node_set.specs.Ascending.{has}
use Rattle.directory.specs.Settings.{Setting}
use Rattle.directory.specs.Courses.{Step, move_to, Course, course_at, last_stop, address_node, gathered_weight, next_move, after_step, after_steps}
use Rattle.directory.specs.Writes.{Write, visit_of, visits, trail}
use Rattle.handset.specs.declared.stage.Stage.{Stage}
use Rattle.handset.specs.declared.stage.Stage.TheVariants.{Confirming}
use Rattle.handset.specs.Condition.{HandsetData}
use Rattle.handset.specs.StepWrites.{settle}
use Rattle.directory.specs.Amid.{course_of}
use Rattle.handset.specs.Stands.{IsNextMove, Shows, StandsAt, StandsForSteps}
use Rattle.entry_word.specs.declared.visit.Visit.{Visit}
use Rattle.handset.proofs.Lists.{drop-inside, drop-tail}
use Rattle.handset.proofs.Going.{readdressed}
use Rattle.handset.proofs.CourseLaws.{course-more, trail-after}
use Rattle.handset.proofs.Keeping.{AreAlike, Fits}
use Rattle.directory.specs.StepLaws.{last_stop-moved}

-- the law of the levels
abbrev pub AddressLaw : Setting → Type 0
AddressLaw setting = (first : ℕ) (steps : List Step) (node level : ℕ)
    → address_node (after_step setting (after_steps setting (course_at first) steps) (move_to node)) level
    ≡ cond (nat_le level (next_move setting (after_steps setting (course_at first) steps) node).renewed) node
    (address_node (after_steps setting (course_at first) steps) level)

abbrev pub GatheredLaw : Setting → Type 0
GatheredLaw setting = (first : ℕ) (steps : List Step) (node level : ℕ)
    → gathered_weight (after_step setting (after_steps setting (course_at first) steps) (move_to node)) level
    ≡ cond (nat_le level (next_move setting (after_steps setting (course_at first) steps) node).renewed) 0
    (gathered_weight (after_steps setting (course_at first) steps) level
    + setting.distance (last_stop (after_steps setting (course_at first) steps)) node)

-- where the highest level is the top, the top is renewed
top-renewed : (top renewed : ℕ) → renewed ≤ top → (renewed == top) ≡ nat_le top renewed
top-renewed top renewed h = grind arith

-- the trail that is kept after a move
pub marked : (trail : List Bool) (renews : Bool) (to node : ℕ) → to < length trail → node < length trail
    → get_or (slice_set (cond renews (replicate (length trail) false) trail) to true) node false
    ≡ (cond renews false (get_or trail node false) || node == to)
marked trail renews to node h l = grind (arith, length-replicate, get_or-set_same, get_or-set_other, get_or-replicate)

-- a move that is over
pub settled-stands : {setting : Setting} {handset : HandsetData} {stage : Stage} {steps : List Step} {made : ℕ}
    {visit : Visit} {rest : List Write} → AddressLaw setting → Fits setting handset
    → AreAlike setting handset.last stage Confirming → StandsAt setting handset stage steps made
    → Shows setting handset (take (suc made) (visits setting handset.sub steps))
    → drop made (visits setting handset.sub steps) ≡ visit ∷ map (visit_of handset.sub) rest → rest ≡ []
    → StandsForSteps setting (settle setting handset) steps (suc made)
settled-stands {setting} {handset} {steps = steps} {made} law fits same f shows left none = record {
  over = steps;
  begun = sym (append-nil steps);
  move = tt;
  place = f.place ∙ same.2 before ∙ sym (ap last_stop course_is ∙ last_stop-moved setting before handset.last.to);
  number = grind (arith, length-append, course_is);
  is_off = f.is_off ∙ sym (ap (λ c. c.is_off) course_is);
  addresses = grind (arith, nat_tests, readdressed, course_is);
  gathered = f.gathered;
  trail = λ to node h.
      ap (λ b. get_or (slice_set (cond b (replicate (length handset.trail) false) handset.trail) handset.last.to
      true) node false)
      (top-renewed setting.top handset.last.renewed fits.renewed ∙ ap (λ m. nat_le setting.top m.renewed) next.0)
      ∙ (marked handset.trail (nat_le setting.top (next_move setting before handset.last.to).renewed)
      handset.last.to node (omega (arith, fits.to, fits.trail)) (omega (arith, h, fits.trail))
      ∙ (ap (λ b. cond (nat_le setting.top (next_move setting before handset.last.to).renewed) false b || node ==
      handset.last.to) (f.trail handset.last.to node h)
      ∙ sym (ap (λ c. has node (trail setting c (next_move setting c to))) course_is
      ∙ trail-after setting handset.sub f.over handset.last.to to node)));
  shows = record { place = shows.place; number = shows.number; is_off = shows.is_off };
  few = drop-inside made _ left;
  left = drop-tail made _ left ∙ ap (map (visit_of handset.sub)) none;
}
  where
    before : Course
    before = course_of setting handset.sub f.over

    next : IsNextMove setting before handset.last
    next = same.1 before f.move

    course_is : course_of setting handset.sub steps ≡ after_step setting before (move_to handset.last.to)
    course_is = ap (course_of setting handset.sub) (f.begun ∙ ap (λ under. f.over ++ under) same.0)
        ∙ course-more setting handset.sub f.over
        (move_to handset.last.to)
