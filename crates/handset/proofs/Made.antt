-- What a handset stands for goes on with each of its writes.
use Rattle.std.proofs.Common.{◌≡◌, ℕ, suc, ◌^◌, ◌<◌, Bool, true, false, cond, List, [], ◌∷◌, length, map, take, drop, refl, sym, ap, ◌∙◌, arith}
use Rattle.std.specs.Prelude.{nat_lt, slice_get, IsSome}
use Rattle.std.proofs.lemmas.List.{append-nil}
use Rattle.node_set.specs.Ascending.{has}
use Rattle.entry_word.specs.declared.mark.PresenceMark.TheVariants.{Empty, Gone, Off, Here, Coming as ComingMark}
use Rattle.entry_word.specs.declared.visit.Visit.{Visit}
use Rattle.directory.specs.Settings.{Setting}
use Rattle.directory.specs.Courses.{Step, Move, Course, last_stop, address_node, next_move, after_step}
use Rattle.directory.specs.Writes.{Write, visit_of, visits, trail}
use Rattle.region_plan.specs.Plan.{PlanData, nodes_of}
use Rattle.handset.specs.declared.stage.Stage.{Stage}
use Rattle.handset.specs.declared.stage.Stage.TheVariants.{Resting, Coming, Renewing, Committing, Confirming, Erasing, Purging, Switching}
use Rattle.region_plan.specs.Kept.{IsKept}
use Rattle.region_plan.specs.Settings.{setting_of}
use Rattle.handset.specs.Condition.{HandsetData, GoesWith, begun_at}
use Rattle.handset.specs.StepWrites.{due, left_at, go_on, after_write, erasing_from, purging_from}
use Rattle.directory.specs.Amid.{course_of}
use Rattle.handset.specs.Stands.{switch_to, Shows, StandsAt, StandsForSteps}
use Rattle.handset.proofs.Lists.{drop-head, drop-tail, drop-inside, drop-none}
use Rattle.handset.proofs.Going.{IsLate, erasing-is-late, purging-is-late}
use Rattle.handset.proofs.Showing.{mark-shown, put-shown}
use Rattle.handset.proofs.CourseLaws.{course-more}
use Rattle.handset.proofs.Keeping.{AreAlike, Fits, alike, stands-of}
use Rattle.handset.proofs.Settling.{AddressLaw, settled-stands}
use Rattle.handset.proofs.Writing.{purging-left, erasing-left, renewing-left, renewing-first}
use Rattle.entry_word.specs.Marks.{MarksUnpack}

-- the next visit is the first of those that are left
pub next-stands : (setting : Setting) (handset : HandsetData) (steps : List Step) (made : ℕ)
    → StandsForSteps setting handset steps made
    → due setting handset ≡ slice_get (visits setting handset.sub steps) made
next-stands setting handset steps made stands = grind (arith, drop-none, drop-head)

-- a handset that goes on behind the confirm
gone-on-stands : {setting : Setting} {handset : HandsetData} {stage : Stage} (next : Stage) (nodes : ℕ)
    {steps : List Step} {made : ℕ} {visit : Visit} {rest : List Write} → AddressLaw setting → Fits setting handset
    → AreAlike setting handset.last stage Confirming → StandsAt setting handset stage steps made
    → Shows setting handset (take (suc made) (visits setting handset.sub steps)) → IsLate nodes handset.last next
    → drop made (visits setting handset.sub steps) ≡ visit ∷ map (visit_of handset.sub) rest
    → rest ≡ left_at setting handset next → StandsForSteps setting (go_on setting handset next) steps (suc made)
gone-on-stands Resting nodes law fits same f shows late left on = settled-stands law fits same f shows left on
gone-on-stands (Erasing level) nodes law fits same f shows late left on = grind (arith, stands-of)
gone-on-stands (Purging node) nodes law fits same f shows late left on = stands-of (Purging node) same f shows left on
gone-on-stands stage nodes law fits same f shows late left on = absurd late

-- the stages before the commit are alike
before-commit : (setting : Setting) (move : Move) (level : ℕ) (b : Bool)
    → AreAlike setting move (Renewing level) (cond b (Renewing (suc level)) Committing)
before-commit setting move level true = alike setting move Coming
before-commit setting move level false = alike setting move Coming

-- a switch leaves the course but for whether it is off
switched-is : (setting : Setting) (course : Course) (off : Bool)
    → after_step setting course (switch_to off) ≡ record course { is_off = off }
switched-is setting course true = refl
switched-is setting course false = refl

switched-stands : {setting : Setting} {handset : HandsetData} {off : Bool} {steps : List Step} {made : ℕ}
    → StandsAt setting handset (Switching off) steps made
    → Shows setting (record handset { is_off = off; stage = Resting })
    (take (suc made) (visits setting handset.sub steps))
    → StandsForSteps setting (record handset { is_off = off; stage = Resting }) steps (suc made)
switched-stands {setting} {handset} {off} {steps} {made} f shows = record {
  over = steps;
  begun = sym (append-nil steps);
  move = tt;
  place = f.place ∙ sym (ap last_stop course_is);
  number = f.number ∙ sym (ap (λ c. length c.moves) course_is);
  is_off = sym (ap (λ c. c.is_off) course_is);
  addresses = λ level h. f.addresses level h ∙ sym (ap (λ c. address_node c level) course_is);
  gathered = f.gathered;
  trail = λ to node h.
      f.trail to node h ∙ sym (ap (λ c. has node (trail setting c (next_move setting c to))) course_is);
  shows = shows;
  few = drop-inside made _ f.left;
  left = drop-tail made _ f.left;
}
  where
    before : Course
    before = course_of setting handset.sub f.over

    course_is : course_of setting handset.sub steps ≡ record before { is_off = off }
    course_is = ap (course_of setting handset.sub) f.begun
        ∙ (course-more setting handset.sub f.over (switch_to off) ∙ switched-is setting before off)

-- a handset after the write that came next
after-stands : {setting : Setting} {handset : HandsetData} (stage : Stage) (nodes : ℕ) {steps : List Step} {made : ℕ}
    → MarksUnpack → AddressLaw setting → Fits setting handset
    → ((level : ℕ) → IsLate nodes handset.last (erasing_from setting handset level))
    → ((node : ℕ) → IsLate nodes handset.last (purging_from setting handset node)) → (stage ≡ Resting → ⊥)
    → StandsAt setting handset stage steps made → StandsForSteps setting (after_write setting handset stage) steps
    (suc made)
after-stands Resting nodes unpacks law fits erasing purging going f = absurd (going refl)
after-stands {setting} {handset} Coming nodes {made = made} unpacks law fits erasing purging going f =
    stands-of (Renewing 0) (alike setting handset.last Coming) f
    (mark-shown unpacks handset _ made handset.last.to (ComingMark handset.last.number handset.last.from) f.left
    (omega (arith, fits)) refl refl (omega arith) (f.is_off ∙ f.move.1) f.shows) f.left (renewing-first setting handset)
after-stands {setting} {handset} (Renewing level) nodes {made = made} unpacks law fits erasing purging going f =
    let more : Bool = nat_lt level handset.last.renewed in
    let next : Stage = cond more (Renewing (suc level)) Committing in
    stands-of next (before-commit setting handset.last level more) f
    (put-shown handset _ made Empty f.left refl refl refl (omega arith) (f.is_off ∙ f.move.1) f.shows) f.left
    (renewing-left setting (record handset { stage = next }) level)
after-stands {setting} {handset} Committing nodes {made = made} unpacks law fits erasing purging going f =
    let first : handset.last.number ≡ suc (length (course_of setting handset.sub f.over).moves) =
    ap (λ m. m.number) f.move.0 in
    let shows = mark-shown unpacks (after_write setting handset Committing) _ made handset.last.from
    (Gone handset.last.number handset.last.to) f.left (omega (arith, fits)) refl refl (omega (arith, first, f.number))
    (f.is_off ∙ f.move.1) f.shows in
    let few = drop-inside made _ f.left in
    let left = drop-tail made _ f.left in
    search
after-stands {setting} {handset} Confirming nodes {made = made} unpacks law fits erasing purging going f =
    gone-on-stands (erasing_from setting handset 0) nodes law fits (alike setting handset.last Confirming) f
    (mark-shown unpacks handset _ made handset.last.to (Here handset.last.number) f.left fits.numbered refl refl
    (omega arith) (f.is_off ∙ f.move.1) f.shows) (erasing 0) f.left (erasing-left setting handset 0)
after-stands {setting} {handset} (Erasing level) nodes {made = made} unpacks law fits erasing purging going f =
    gone-on-stands (erasing_from setting handset (suc level)) nodes law fits (alike setting handset.last Confirming) f
    (put-shown handset _ made Empty f.left refl refl refl (omega arith) (f.is_off ∙ f.move.1) f.shows)
    (erasing (suc level)) f.left (erasing-left setting handset (suc level))
after-stands {setting} {handset} (Purging node) nodes {made = made} unpacks law fits erasing purging going f =
    gone-on-stands (purging_from setting handset (suc node)) nodes law fits (alike setting handset.last Confirming) f
    (mark-shown unpacks handset _ made node Empty f.left tt refl refl (omega arith) (f.is_off ∙ f.move.1) f.shows)
    (purging (suc node)) f.left (purging-left setting handset (suc node))
after-stands {handset = handset} (Switching true) nodes {made = made} unpacks law fits erasing purging going f =
    switched-stands f (mark-shown unpacks _ _ made handset.place (Off handset.number) f.left fits.number refl refl
    (omega arith) refl f.shows)
after-stands {handset = handset} (Switching false) nodes {made = made} unpacks law fits erasing purging going f =
    switched-stands f (mark-shown unpacks _ _ made handset.place (Here handset.number) f.left fits.number refl refl
    (omega arith) refl f.shows)

few-commits : (stage : Stage) {last : ℕ} (number : ℕ) → last ≡ begun_at stage number → last < 2 ^ 32 → number < 2 ^ 32
few-commits Resting number same few = omega (arith, same, few)
few-commits stage number same few = omega (arith, same, few)

fits-plan : {plan : PlanData} (starts : List ℕ) {handset : HandsetData} → IsKept plan → GoesWith plan handset
    → Fits (setting_of plan starts) handset
fits-plan starts {handset} kept goes = grind (arith, few-commits)

-- a handset that has a write left isn't at rest
going-on : (plan : PlanData) (handset : HandsetData) → IsSome (due (setting_of plan []) handset)
    → handset.stage ≡ Resting → ⊥
going-on plan handset some rests = grind arith

-- so a write that is left leaves a handset that stands for one visit more
pub made-stands : {plan : PlanData} (starts : List ℕ) {handset : HandsetData} (steps : List Step) (made : ℕ)
    → MarksUnpack → AddressLaw (setting_of plan starts) → IsKept plan → GoesWith plan handset
    → IsSome (due (setting_of plan []) handset) → StandsForSteps (setting_of plan starts) handset steps made
    → StandsForSteps (setting_of plan starts) (after_write (setting_of plan starts) handset handset.stage) steps
    (suc made)
made-stands {plan} starts {handset} steps made unpacks law kept goes some f =
    after-stands handset.stage (nodes_of plan) unpacks law (fits-plan starts kept goes) (erasing-is-late plan handset)
    (purging-is-late plan handset) (going-on plan handset some) f
