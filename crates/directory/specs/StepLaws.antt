-- Short laws of lists of steps, writes and puts, one more at the end: what the crates above take
-- for granted. Key laws: `writes-append` (more steps only add writes at the end), `steps-append`
-- (more puts show more steps), `by_fronts` (what holds of no visits and with each that comes next
-- holds of all), `place-after_steps` (a course leads where its steps do).
use Rattle.std.proofs.Common.{◌≡◌, ℕ, zero, suc, ◌-◌, ◌<◌, ◌≤◌, Bool, cond, ◌==◌, List, [], ◌∷◌, ◌++◌, Option, Some, None, length, map, take, fold, refl, sym, ap, ◌∙◌, subst, arith, append_assoc, true, false, inl, inr}
use Rattle.std.specs.Prelude.{slice_get}
use Rattle.std.specs.List.{cons_option}
use Rattle.std.proofs.lemmas.List.{map-append, take_all, append-nil}
use Rattle.std.proofs.lemmas.List.Elements.{filter-append}
use Rattle.entry_word.specs.Marks.{says_off}
use Rattle.entry_word.specs.declared.visit.Visit.{Visit}
use Rattle.directory.specs.Settings.{Setting, start}
use Rattle.directory.specs.Histories.{History, is_put_for, puts_to}
use Rattle.directory.specs.Courses.{Step, Course, Move, after_step, after_steps, highest, move_to, next_move, switch_off, switch_on, course_at, last_stop, MaySteps}
use Rattle.directory.specs.Places.{place_after_step, place_of}
use Rattle.std.proofs.lemmas.List.Sums.{fold-append}
use Rattle.directory.specs.Writes.{visit_of, step_writes, writes, visits, write_key, Write, mark_at, entry_at}
use Rattle.directory.specs.Puts.{node_put, mark_put, mark_step, steps_from}
use Rattle.std.proofs.lemmas.Option.{slice_get_cases}
use Rattle.directory.specs.Statements.{OwnGrow}
use Rattle.directory.specs.Amid.{course_of}
use Rattle.directory.specs.Keys.{key_sub}

-- the part of a list that is left out of a front
pub take-append : {A : Type 0} (k : ℕ) (xs ys : List A)
    → take k (xs ++ ys) ≡ take k xs ++ take (k - length xs) ys
take-append zero xs ys = let e : 0 - length xs ≡ 0 = omega arith in rw e refl
take-append (suc k) [] ys = let e : suc k - 0 ≡ suc k = omega arith in rw e refl
take-append (suc k) (x ∷ xs) ys = let e : suc k - suc (length xs)
    ≡ k - length xs = omega arith in rw e (ap (λ zs. x ∷ zs) (take-append k xs ys))

-- more steps only add writes at the end
pub writes-append : (setting : Setting) (course : Course) (xs ys : List Step)
    → writes setting course (xs ++ ys) ≡ writes setting course xs ++ writes setting
    (after_steps setting course xs) ys
unfolding writes
writes-append setting course [] ys = refl
writes-append setting course (x ∷ xs) ys =
    ap (λ ws. step_writes setting course x ++ ws)
    (writes-append setting (after_step setting course x) xs ys)
    ∙ sym (append_assoc (step_writes setting course x)
    (writes setting (after_step setting course x) xs)
    (writes setting (after_steps setting (after_step setting course x) xs) ys))

-- the visits of steps that come next in a course
abbrev pub visits_in : Setting → ℕ → Course → List Step → List Visit
visits_in setting sub course steps = map (visit_of sub) (writes setting course steps)

-- more steps only add visits at the end
pub visits-append : (setting : Setting) (sub : ℕ) (course : Course) (xs ys : List Step)
    → visits_in setting sub course (xs ++ ys)
    ≡ visits_in setting sub course xs ++ visits_in setting sub
    (after_steps setting course xs) ys
visits-append setting sub course xs ys =
    ap (map (visit_of sub)) (writes-append setting course xs ys)
    ∙ map-append (visit_of sub) (writes setting course xs)
    (writes setting (after_steps setting course xs) ys)

-- more puts show more steps
pub steps-append : (off : Bool) (xs ys : List Visit) → steps_from off (xs ++ ys)
    ≡ steps_from off xs ++ steps_from (fold (λ o (visit : Visit). says_off (mark_put visit.act))
    off xs) ys
unfolding steps_from
steps-append off [] ys = refl
steps-append off (x ∷ xs) ys = at_step (mark_step off (node_put x.act) (mark_put x.act)) _ _ _
    (steps-append (says_off (mark_put x.act)) xs ys)
  where
    at_step : (o : Option Step) (us vs ws : List Step) → us ≡ vs ++ ws
        → cons_option o us ≡ cons_option o vs ++ ws
    at_step None us vs ws h = h
    at_step (Some step) us vs ws h = ap (λ zs. step ∷ zs) h

-- one more visit of a list, at its place
pub take-more : {A : Type 0} (xs : List A) (t : ℕ) (x : A) → slice_get xs t ≡ Some x
    → take (suc t) xs ≡ take t xs ++ x ∷ []
take-more [] t x h = cc
take-more (y ∷ ys) zero x h = let e : y ≡ x = cc in ap (λ z. z ∷ []) e
take-more (y ∷ ys) (suc t) x h = ap (λ zs. y ∷ zs) (take-more ys t x h)

-- there is an entry at each place of a list
pub slice_get-within : {A : Type 0} (xs : List A) (t : ℕ) → t < length xs → (x : A)
    × (slice_get xs t ≡ Some x)
slice_get-within [] t h = absurd (omega arith)
slice_get-within (y ∷ ys) zero h = (y, refl)
slice_get-within (y ∷ ys) (suc t) h = slice_get-within ys t (omega arith)

-- what holds of no visits and with each visit that comes next holds of each front
by_fronts_from : {A : Type 0} (P : List A → Type 0) (xs : List A) → P []
    → ((t : ℕ) (x : A) → slice_get xs t ≡ Some x → P (take t xs) → P (take t xs ++ x ∷ []))
    → (t : ℕ) → t ≤ length xs
    → P (take t xs)
by_fronts_from P xs none more zero within = none
by_fronts_from P xs none more (suc t) within =
    let found = slice_get-within xs t (omega arith) in
    subst P (sym (take-more xs t found.0 found.1)) (more t found.0 found.1
    (by_fronts_from P xs none more t (omega arith)))

-- what holds of no visits and with each visit that comes next holds of all
pub by_fronts : {A : Type 0} (P : List A → Type 0) (xs : List A) → P []
    → ((t : ℕ) (x : A) → slice_get xs t ≡ Some x → P (take t xs) → P (take t xs ++ x ∷ [])) → P xs
by_fronts P xs none more = subst P (take_all (length xs) xs (omega arith))
    (by_fronts_from P xs none more (length xs) (omega arith))

-- one more visit adds to the visits of its own actor
pub own-push : OwnGrow
own-push actor history visit = filter-append (λ (v : Visit). v.actor == actor) history (visit ∷ [])

-- one more visit adds a put to those for a subscriber, where it is one
pub puts-push : (sub : ℕ) (history : History) (visit : Visit)
    → puts_to sub (history ++ visit ∷ []) ≡ puts_to sub history ++ cond (is_put_for sub visit.act)
    (visit ∷ []) []
puts-push sub history visit = filter-append (λ (v : Visit). is_put_for sub v.act) history
    (visit ∷ [])

-- a visit that isn't put for it
pub puts-push_other : (sub : ℕ) (history : History) (visit : Visit)
    → is_put_for sub visit.act ≡ false → puts_to sub (history ++ visit ∷ []) ≡ puts_to sub history
puts-push_other sub history visit other = puts-push sub history visit
    ∙ (ap (λ b. puts_to sub history ++ cond b (visit ∷ []) []) other
    ∙ append-nil (puts_to sub history))

-- and one that is
pub puts-push_own : (sub : ℕ) (history : History) (visit : Visit)
    → is_put_for sub visit.act ≡ true
    → puts_to sub (history ++ visit ∷ []) ≡ puts_to sub history ++ visit ∷ []
puts-push_own sub history visit own = puts-push sub history visit
    ∙ ap (λ b. puts_to sub history ++ cond b (visit ∷ []) []) own

-- one step more adds its writes
pub writes-more : (setting : Setting) (course : Course) (steps : List Step) (step : Step)
    → writes setting course (steps ++ step ∷ []) ≡ writes setting course steps
    ++ step_writes setting (after_steps setting course steps) step
unfolding writes
writes-more setting course steps step =
    writes-append setting course steps (step ∷ [])
    ∙ ap (λ ws. writes setting course steps ++ ws)
    (append-nil (step_writes setting (after_steps setting course steps) step))

-- no step changes where a course starts
pub start-kept : (setting : Setting) (course : Course) (steps : List Step)
    → (after_steps setting course steps).start ≡ course.start
start-kept setting course [] = refl
start-kept setting course (move_to node ∷ steps) =
    start-kept setting (after_step setting course (move_to node)) steps
start-kept setting course (switch_off ∷ steps) =
    start-kept setting (after_step setting course switch_off) steps
start-kept setting course (switch_on ∷ steps) =
    start-kept setting (after_step setting course switch_on) steps

-- the greatest number below a limit that passes a test is below it
pub highest-low : (test : ℕ → Bool) (limit : ℕ) → highest test (suc limit) ≤ limit
unfolding highest
highest-low test zero = at_test (test zero)
  where
    at_test : (b : Bool) → cond b 0 0 ≤ 0
    at_test true = omega arith
    at_test false = omega arith
highest-low test (suc limit) = at_test (test (suc limit)) (highest-low test limit)
  where
    at_test : (b : Bool) → highest test (suc limit) ≤ limit
        → cond b (suc limit) (highest test (suc limit)) ≤ suc limit
    at_test true h = omega arith
    at_test false h = omega (arith, h)

-- where a list has no entry it isn't longer
pub past-end : {A : Type 0} (xs : List A) (i : ℕ) → slice_get xs i ≡ None → length xs ≤ i
past-end xs i none = elim (slice_get_cases xs i).1 [
  | inl (x, below, some, there) ↦ let clash : Some x ≡ None = sym some ∙ none in cc
  | inr past ↦ past.0
]

-- one step more leads its course to the same place
place-after_step : (setting : Setting) (course : Course) (step : Step)
    → place_after_step (place_of course) step ≡ place_of (after_step setting course step)
place-after_step setting course (move_to node) =
    ap (λ n. record { node = n; is_off = course.is_off })
    (sym (fold-append (λ n (m : Move). m.to) course.start course.moves
    (next_move setting course node ∷ [])))
place-after_step setting course switch_off = refl
place-after_step setting course switch_on = refl

-- and so do all steps
pub place-after_steps : (setting : Setting) (course : Course) (steps : List Step)
    → fold place_after_step (place_of course) steps ≡ place_of (after_steps setting course steps)
place-after_steps setting course [] = refl
place-after_steps setting course (step ∷ steps) =
    ap (λ p. fold place_after_step p steps) (place-after_step setting course step)
    ∙ place-after_steps setting (after_step setting course step) steps

-- the visits of one step more
pub visits-more : (setting : Setting) (sub : ℕ) (steps : List Step) (step : Step)
    → visits setting sub (steps ++ step ∷ []) ≡ visits setting sub steps
    ++ map (visit_of sub) (step_writes setting (course_of setting sub steps) step)
visits-more setting sub steps step =
    ap (map (visit_of sub)) (writes-more setting (course_at (start setting sub)) steps step)
    ∙ map-append (visit_of sub) (writes setting (course_at (start setting sub)) steps)
    (step_writes setting (course_of setting sub steps) step)

-- a move leads to its node
pub last_stop-moved : (setting : Setting) (course : Course) (node : ℕ)
    → last_stop (after_step setting course (move_to node)) ≡ node
last_stop-moved setting course node =
    fold-append (λ n (m : Move). m.to) course.start course.moves
    (next_move setting course node ∷ [])

-- the first of steps that may come may come
pub may-take : (setting : Setting) (course : Course) (steps : List Step) (count : ℕ)
    → MaySteps setting course steps → MaySteps setting course (take count steps)
unfolding MaySteps
may-take setting course steps zero may = tt
may-take setting course [] (suc count) may = tt
may-take setting course (step ∷ steps) (suc count) may =
    (may.0, may-take setting (after_step setting course step) steps count may.1)

-- a write's cell is its subscriber's
pub key_sub-of_write : (sub : ℕ) (write : Write) → key_sub (write_key sub write) ≡ sub
key_sub-of_write sub (mark_at node mark) = refl
key_sub-of_write sub (entry_at level cluster address) = refl
