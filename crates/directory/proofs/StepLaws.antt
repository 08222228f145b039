-- Steps: more of them add writes at the end, puts show which were begun and how far these are, and a front of legal
-- puts is legal.
use Rattle.std.proofs.lemmas.List.{append-nil, length-map, map-append, take-append-le, take-map, take_all, take_at, length_push, length-take, length-append, take_min, take-append-drop}
use Rattle.std.proofs.Common.{◌≡◌, ℕ, suc, ◌-◌, ◌<◌, ◌≤◌, ◌^◌, false, List, [], ◌∷◌, ◌++◌, Some, None, length, map, take, refl, sym, ap, ◌∙◌, subst, arith, length-append, ◌==◌, append_assoc, inl, inr, drop}
use Rattle.std.specs.Prelude.{slice_get, All}
use Rattle.std.proofs.Math.Seq.{take-nil}
use Rattle.std.proofs.lemmas.Bool.{cases_lt}
use Rattle.std.proofs.lemmas.List.Elements.{All-append, All-head, All-map, All-nil, All-tail, All-take}
use Rattle.directory.proofs.Tests.{both_ways}
use Rattle.entry_word.specs.Marks.{says_off, IsSmallMark, MarksUnpack}
use Rattle.entry_word.specs.declared.mark.PresenceMark.{PresenceMark}
use Rattle.entry_word.specs.declared.mark.PresenceMark.TheVariants.{Empty, Here, Gone, Coming}
use Rattle.entry_word.specs.declared.visit.Visit.{Visit}
use Rattle.directory.specs.Settings.{Setting, start}
use Rattle.directory.specs.Courses.{Step, move_to, switch_off, switch_on, Move, Course, course_at, last_stop, next_move, after_step, after_steps, MayStep, MaySteps}
use Rattle.directory.specs.Writes.{Write, mark_at, entry_at, visit_of, numbers_from, new_address, erasure_writes, purge_writes, step_writes, writes, visits}
use Rattle.directory.specs.Puts.{node_put, mark_put, mark_step, steps_from, steps_in}
use Rattle.directory.specs.Legal.{IsScript, ArePuts}
use Rattle.directory.specs.Statements.{FrontsAreLegal, ScriptsAreLegal, DueIsLegal, BeginningIsLegal, NextIsDecided, LegalIsAmid, StepsBeginAtRest}
use Rattle.directory.specs.StepLaws.{steps-append, take-append, visits-append, visits_in, take-more, may-take, last_stop-moved}
use Rattle.entry_word.specs.MarkLaws.{read-mark}

-- a put that begins no step, when no Off was put before it, and is none itself
abbrev IsPlain : Visit → Type 0
IsPlain visit = (mark_step false (node_put visit.act) (mark_put visit.act) ≡ None)
    × (says_off (mark_put visit.act) ≡ false)

-- plain puts show no step
plain-skipped : (xs ys : List Visit) → All IsPlain xs → steps_from false (xs ++ ys) ≡ steps_from false ys
unfolding steps_from
plain-skipped [] ys all = refl
plain-skipped (x ∷ xs) ys all =
    let one = All-head IsPlain x xs all in
    rw (one.0, one.1) (plain-skipped xs ys (All-tail IsPlain x xs all))

plain-mark : MarksUnpack → (sub node : ℕ) (mark : PresenceMark) → IsSmallMark mark → mark_step false node mark ≡ None
    → says_off mark ≡ false → IsPlain (visit_of sub (mark_at node mark))
plain-mark unpacks sub node mark small none on = grind (arith, read-mark)

-- what a move puts after its Coming
abbrev pub after_coming : Setting → Course → Move → List Write
after_coming setting course move =
    map (new_address setting move) (numbers_from 0 (suc move.renewed))
    ++ (mark_at move.from (Gone move.number move.to)
    ∷ (mark_at move.to (Here move.number)
    ∷ (erasure_writes setting course move ++ purge_writes setting course move)))

-- what holds of each write behind the commit, and of each after the Coming
pub all-ends : (P : Write → Type 0) (setting : Setting) (course : Course) (move : Move)
    → ((level cluster : ℕ) → P (entry_at level cluster None)) → ((node : ℕ) → P (mark_at node Empty))
    → All P (erasure_writes setting course move ++ purge_writes setting course move)
all-ends P setting course move erased purged =
    All-append P (erasure_writes setting course move) (purge_writes setting course move)
    (All-map P _ _ (λ i d h. erased _ _)) (both_ways (All P) (move.renewed == setting.top)
    (All-map P (λ node. mark_at node Empty) _ (λ i d h. purged _)) (All-nil P))

pub all-after : (P : Write → Type 0) (setting : Setting) (course : Course) (move : Move)
    → ((level : ℕ) → P (new_address setting move level)) → P (mark_at move.from (Gone move.number move.to))
    → P (mark_at move.to (Here move.number)) → ((level cluster : ℕ) → P (entry_at level cluster None))
    → ((node : ℕ) → P (mark_at node Empty)) → All P (after_coming setting course move)
all-after P setting course move new gone here erased purged =
    All-append P (map (new_address setting move) (numbers_from 0 (suc move.renewed))) _
    (All-map P (new_address setting move) (numbers_from 0 (suc move.renewed)) (λ i d h. new _))
    (grind (arith, all-ends P setting course move erased purged))

plain-after : MarksUnpack → (setting : Setting) (sub : ℕ) (course : Course) (move : Move) → move.number < 2 ^ 32
    → move.to < 2 ^ 16 → All IsPlain (map (visit_of sub) (after_coming setting course move))
plain-after unpacks setting sub course move few low =
    All-map IsPlain (visit_of sub) (after_coming setting course move)
    (search (all-after, plain-mark))

-- what is known of a course
pub record IsCourse (setting : Setting) (course : Course) : Type 0 where
  pub low : setting.nodes ≤ 2 ^ 16
  pub inside : last_stop course < setting.nodes
  pub few : length course.moves < 2 ^ 32

pub course-after : (setting : Setting) (course : Course) (step : Step) → IsCourse setting course
    → MayStep setting course step → IsCourse setting (after_step setting course step)
course-after setting course (move_to node) sound may = grind (arith, last_stop-moved, length-append)
course-after setting course _ sound may = record { low = sound.low; inside = sound.inside; few = sound.few }

-- the first visits of a step, with others after them when it is done
pub one-begun : MarksUnpack → (setting : Setting) (sub : ℕ) (course : Course) (step : Step) (k : ℕ)
    (later : List Visit) → IsCourse setting course → MayStep setting course step
    → steps_from course.is_off (take (suc k) (map (visit_of sub) (step_writes setting course step)) ++ later)
    ≡ step ∷ steps_from (after_step setting course step).is_off later
unfolding steps_from
one-begun unpacks setting sub course (move_to node) k later sound may =
    let few : suc (length course.moves) < 2 ^ 32 = may.few in
    let from : last_stop course < 2 ^ 16 = omega (arith, sound.low, sound.inside) in
    let low : node < 2 ^ 16 = omega (arith, sound.low, may.inside) in
    let rest : List Visit = map (visit_of sub) (after_coming setting course (next_move setting course node)) in
    rw (read-mark unpacks (Coming (suc (length course.moves)) (last_stop course)) (few, from), may.is_on)
    (ap (λ xs. move_to node ∷ xs) (plain-skipped (take k rest) later
    (All-take IsPlain k rest (plain-after unpacks setting sub course (next_move setting course node) few low))))
one-begun unpacks setting sub course switch_off k later sound may = grind (arith, take-nil, read-mark)
one-begun unpacks setting sub course switch_on k later sound may = grind (arith, take-nil, read-mark)

-- how far the first visits of steps are
pub record AreAmid (setting : Setting) (sub : ℕ) (course : Course) (steps : List Step) (k : ℕ) : Type 0 where
  pub before : List Step
  pub under : List Step
  pub made : ℕ
  pub shown : steps_from course.is_off (take k (visits_in setting sub course steps)) ≡ before ++ under
  pub one : length under ≤ 1
  pub some : length under ≤ made
  pub few : made ≤ length (writes setting (after_steps setting course before) under)
  pub later : List Step
  pub whole : steps ≡ (before ++ under) ++ later
  pub enough : take k (writes setting course (before ++ under)) ≡ take k (writes setting course steps)
  pub front : take k (writes setting course steps) ≡ writes setting course before ++ take made
      (writes setting (after_steps setting course before) under)

pub amid : MarksUnpack → (setting : Setting) (sub : ℕ) (course : Course) (steps : List Step) (k : ℕ)
    → IsCourse setting course → MaySteps setting course steps
    → AreAmid setting sub course steps k
unfolding writes steps_from MaySteps
amid unpacks setting sub course (step ∷ steps) (suc k) sound may = elim (cases_lt (length mine) (suc k)) [
  | inr low ↦ record {
    before = [];
    under = step ∷ [];
    made = suc k;
    shown = grind (arith, shows, visits_in);
    one = omega arith;
    some = omega arith;
    few = omega (arith, length-append mine (writes setting (after_step setting course step) []));
    later = steps;
    whole = refl;
    enough = sym (cut low);
    front = cut low;
  }
  | inl high ↦
      let far = amid unpacks setting sub (after_step setting course step) steps (suc k - length mine)
      (course-after setting course step sound may.0) may.1 in
      record {
        before = step ∷ far.before;
        under = far.under;
        made = far.made;
        shown = shows ∙ ap (λ xs. step ∷ xs) far.shown;
        one = far.one;
        some = far.some;
        few = far.few;
        later = far.later;
        whole = ap (λ xs. step ∷ xs) far.whole;
        enough = rw (take-append (suc k) mine, take-append (suc k) mine rest, far.enough);
        front = rw (take-append (suc k) mine rest, take_all (suc k) mine (omega arith), far.front, append_assoc);
      }
]
  where
    mine : List Write
    mine = step_writes setting course step

    rest : List Write
    rest = writes setting (after_step setting course step) steps

    parted : take (suc k) (visits_in setting sub course (step ∷ steps))
        ≡ take (suc k) (map (visit_of sub) mine) ++ take (suc k - length mine) (map (visit_of sub) rest)
    parted = rw (
      map-append (visit_of sub) mine rest,
      take-append (suc k) (map (visit_of sub) mine) (map (visit_of sub) rest),
      length-map mine (visit_of sub),
    )

    shows : steps_from course.is_off (take (suc k) (visits_in setting sub course (step ∷ steps)))
        ≡ step ∷ steps_from (after_step setting course step).is_off
        (take (suc k - length mine) (visits_in setting sub (after_step setting course step) steps))
    shows = grind (arith, parted, one-begun, mine, rest)

    cut : suc k ≤ length mine → take (suc k) (mine ++ rest) ≡ take (suc k) (mine ++ [])
    cut low = take-append-le (suc k) mine rest low ∙ ap (take (suc k)) (sym (append-nil mine))
amid unpacks setting sub course steps k sound may = record {
  before = [];
  under = [];
  made = 0;
  shown = ap (steps_from course.is_off) (take-nil k);
  one = omega arith;
  some = omega arith;
  few = omega arith;
  later = steps;
  whole = refl;
  enough = refl;
  front = take-nil k;
}

-- so far are the first visits of a script
pub amid-script : MarksUnpack → (setting : Setting) (sub : ℕ) (steps : List Step) (k : ℕ) → setting.nodes ≤ 2 ^ 16
    → IsScript setting sub steps → AreAmid setting sub (course_at (start setting sub)) steps k
amid-script unpacks setting sub steps k low script = grind (arith, amid)

-- the first visits of steps that a subscriber may make are legal
pub script-legal : MarksUnpack → ScriptsAreLegal
script-legal unpacks setting sub steps k low script =
    let far = amid-script unpacks setting sub steps k low script in
    let taken : take (length (far.before ++ far.under)) steps ≡ far.before ++ far.under = grind (arith, take_at) in
    let front = visits setting sub (far.before ++ far.under) in
    let whole : take k front ≡ take (length (take k front)) front = grind (arith, length-take, take_min) in
    grind (arith, far, taken, whole, take-map, may-take)

-- a front of legal puts is legal
pub front-legal : MarksUnpack → FrontsAreLegal
front-legal unpacks setting sub puts k low within legal =
    let whole = visits setting sub (steps_in puts) in
    let same : take k whole ≡ take k puts =
    grind (arith, take-append-drop (length puts) whole, take-append-le k puts (drop (length puts) whole)) in
    rw (← same) (script-legal unpacks setting sub (steps_in puts) k low legal.script)

-- the next of a longer front
next-of-front : (xs ys zs : List Visit) (visit : Visit)
    → xs ++ visit ∷ [] ≡ take (length (xs ++ visit ∷ [])) (ys ++ zs) → length xs < length ys
    → slice_get ys (length xs) ≡ Some visit
next-of-front [] [] zs visit h few = absurd (omega arith)
next-of-front [] (y ∷ ys) zs visit h few = cc
next-of-front (x ∷ xs) [] zs visit h few = absurd (omega arith)
next-of-front (x ∷ xs) (y ∷ ys) zs visit h few = grind (arith, next-of-front xs ys zs visit (cc) (omega arith))

-- while a step isn't done, the puts so far decide on the next one
pub next-decided : NextIsDecided
next-decided setting sub puts visit left legal = grind (arith, steps-append, visits-append, next-of-front)

-- the next put of the step under way keeps puts legal
pub due-legal : MarksUnpack → DueIsLegal
due-legal unpacks setting sub puts visit low legal due =
    subst (ArePuts setting sub) (sym (grind (arith, take-more)))
    (script-legal unpacks setting sub (steps_in puts) (suc (length puts)) low legal.script)

may-append : (setting : Setting) (course : Course) (xs ys : List Step) → MaySteps setting course xs
    → MaySteps setting (after_steps setting course xs) ys → MaySteps setting course (xs ++ ys)
unfolding MaySteps
may-append setting course [] ys f g = g
may-append setting course (x ∷ xs) ys f g = (f.0, may-append setting (after_step setting course x) xs ys f.1 g)

-- the first of more visits behind some
grown : (vs more : List Visit) (visit : Visit) → slice_get more 0 ≡ Some visit
    → vs ++ visit ∷ [] ≡ take (suc (length vs)) (vs ++ more)
grown [] [] visit first = cc
grown [] (v ∷ more) visit first = cc
grown (v ∷ vs) more visit first = ap (λ ws. v ∷ ws) (grown vs more visit first)

-- and so does the first put of a further step, where no step is under way
pub begin-legal : MarksUnpack → BeginningIsLegal
unfolding MaySteps
begin-legal unpacks setting sub puts step visit low legal rest may first = search (same, script-legal, longer)
  where
    longer : IsScript setting sub (steps_in puts ++ step ∷ [])
    longer = grind (arith, may-append)

    all : puts ≡ visits setting sub (steps_in puts)
    all = legal.front ∙ take_all (length puts) (visits setting sub (steps_in puts)) (omega (arith, rest))

    same : puts ++ visit ∷ [] ≡ take (suc (length puts)) (visits setting sub (steps_in puts ++ step ∷ []))
    same = grind (arith, all, grown, visits_in, visits-append)

pub legal-amid : MarksUnpack → LegalIsAmid
legal-amid unpacks setting sub puts low legal =
    let far = amid-script unpacks setting sub (steps_in puts) (length puts) low legal.script in grind (arith, far)

-- a put that begins a step comes where the steps before are done
pub begins-at_rest : MarksUnpack → StepsBeginAtRest
unfolding steps_from
begins-at_rest unpacks setting sub puts visit step low legal legal_more begins = grind (
  arith,
  amid-script unpacks setting sub (steps_in puts) (suc (length puts)) low legal.script,
  cases_lt (length puts) (length (visits setting sub (steps_in puts))),
  length-take (length puts) (visits setting sub (steps_in puts)),
  steps-append false puts (visit ∷ []),
  take-more,
  next-decided,
  length_push (steps_in puts) step,
  length-append,
)
