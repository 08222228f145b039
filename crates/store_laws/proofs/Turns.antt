-- Puts that come in turn are legal, and looks that are told are those of a find.
use Rattle.std.proofs.Common.{arith, ◌≡◌, ◌⊎◌, inl, inr, ℕ, zero, suc, ◌<◌, ◌≤◌, ◌^◌, List, [], ◌∷◌, ◌++◌, ◌+◌, false, length, map, take, refl, sym, ap, ◌∙◌, subst, None, Option, Some}
use Rattle.std.specs.Prelude.{slice_get}
use Rattle.std.proofs.lemmas.List.{append-nil, length_push}
use Rattle.std.proofs.lemmas.Bool.{cases_lt}
use Rattle.std.proofs.lemmas.Option.{slice_get_within}
use Rattle.std.specs.List.{cons_option}
use Rattle.entry_word.specs.declared.visit.Visit.{Visit}
use Rattle.directory.specs.Settings.{Setting, start}
use Rattle.directory.specs.Histories.{History, IsFront, puts_to}
use Rattle.directory.specs.Courses.{Course, MayStep, MaySteps, Step, after_step, after_steps, course_at}
use Rattle.directory.specs.ListLaws.{slice_get-right}
use Rattle.directory.specs.Puts.{course_in, ends_off, mark_put, mark_step, node_put, steps_from, steps_in}
use Rattle.directory.specs.StepLaws.{by_fronts, steps-append, take-more, visits-append, visits_in}
use Rattle.directory.specs.Writes.{visits}
use Rattle.directory.specs.Legal.{ArePuts}
use Rattle.directory.specs.Finds.{FindCall, Pursuit, after_word, at_origin}
use Rattle.directory.specs.Looks.{AreLooks}
use Rattle.directory.specs.LookLaws.{pursuit-step, pursuit_after}
use Rattle.directory.specs.Statements.{BeginningIsLegal, DueIsLegal, FrontsAreLegal, NextIsDecided, ScriptsAreLegal}
use Rattle.store_laws.specs.Stepping.{AreToldLooks, IsNextPut, LegalPutsComeInTurn, PutsInTurnAreLegal, SteppedFindsAreFinds, Told, pursuit_told}

no_steps : (setting : Setting) (sub : ℕ) → MaySteps setting (course_at (start setting sub)) []
unfolding MaySteps
no_steps setting sub = tt

module _ (due : DueIsLegal) (begins : BeginningIsLegal) (scripts : ScriptsAreLegal) where
  next-legal : (setting : Setting) (sub : ℕ) (puts : List Visit) (visit : Visit) → setting.nodes ≤ 2 ^ 16
      → ArePuts setting sub puts → IsNextPut setting sub puts visit → ArePuts setting sub (puts ++ visit ∷ [])
  next-legal setting sub puts visit few legal (inl next) = due setting sub puts visit few legal next
  next-legal setting sub puts visit few legal (inr first) =
      begins setting sub puts first.1.0 visit few legal first.0 first.1.1 first.1.2

  pub in_turn-legal : PutsInTurnAreLegal
  in_turn-legal setting sub history few known inside turns =
      let none : ArePuts setting sub []
      = scripts setting sub [] 0 few (record { known = known; begins = inside; allowed = no_steps setting sub }) in
      by_fronts (ArePuts setting sub) (puts_to sub history) none
      (λ place visit h legal. next-legal setting sub (take place (puts_to sub history)) visit few legal (turns place visit h))

-- the last of steps that may come may come after the others
may-last : (setting : Setting) (course : Course) (steps : List Step) (step : Step)
    → MaySteps setting course (steps ++ step ∷ []) → MayStep setting (after_steps setting course steps) step
unfolding MaySteps
may-last setting course [] step may = may.0
may-last setting course (first ∷ later) step may = may-last setting (after_step setting course first) later step may.1

-- a front of a list is no longer, and has the list's own entries
front-short : (xs ys : List Visit) → IsFront xs ys → length xs ≤ length ys
front-short [] ys h = omega arith
front-short (x ∷ xs) [] h = cc
front-short (x ∷ xs) (y ∷ ys) h = let rest : xs ≡ take (length xs) ys = cc in
    let short : length xs ≤ length ys = front-short xs ys rest in omega (arith, short)

front-entry : (xs ys : List Visit) (place : ℕ) (x : Visit) → IsFront xs ys → slice_get xs place ≡ Some x
    → slice_get ys place ≡ Some x
front-entry [] ys place x h e = cc
front-entry (z ∷ xs) [] place x h e = cc
front-entry (z ∷ xs) (y ∷ ys) zero x h e = cc
front-entry (z ∷ xs) (y ∷ ys) (suc place) x h e = let rest : xs ≡ take (length xs) ys = cc in
    front-entry xs ys place x rest e

-- a put that is legal after others at rest begins a step that may come
begins-step : (setting : Setting) (sub : ℕ) (puts : List Visit) (visit : Visit) (o : Option Step)
    → mark_step (ends_off puts) (node_put visit.act) (mark_put visit.act) ≡ o
    → length puts ≡ length (visits setting sub (steps_in puts)) → ArePuts setting sub (puts ++ visit ∷ [])
    → IsNextPut setting sub puts visit
unfolding steps_from
begins-step setting sub puts visit None mark rest legal =
    let steps : steps_in (puts ++ visit ∷ []) ≡ steps_in puts
    = steps-append false puts (visit ∷ []) ∙ ap (λ o. steps_in puts ++ cons_option o []) mark ∙ append-nil (steps_in puts) in
    let short : length (puts ++ visit ∷ []) ≤ length (visits setting sub (steps_in puts))
    = subst (λ ss. length (puts ++ visit ∷ []) ≤ length (visits setting sub ss)) steps
    (front-short (puts ++ visit ∷ []) (visits setting sub (steps_in (puts ++ visit ∷ []))) legal.front) in
    let count : length (puts ++ visit ∷ []) ≡ length puts + 1 = length_push puts visit in
    absurd (omega (arith, short, count, rest))
begins-step setting sub puts visit (Some step) mark rest legal =
    let steps : steps_in (puts ++ visit ∷ []) ≡ steps_in puts ++ step ∷ []
    = steps-append false puts (visit ∷ []) ∙ ap (λ o. steps_in puts ++ cons_option o []) mark in
    let may : MayStep setting (course_in setting sub puts) step
    = may-last setting (course_at (start setting sub)) (steps_in puts) step
    (subst (MaySteps setting (course_at (start setting sub))) steps legal.script.allowed) in
    let whole : visits setting sub (steps_in (puts ++ visit ∷ []))
    ≡ visits setting sub (steps_in puts) ++ visits_in setting sub (course_in setting sub puts) (step ∷ [])
    = ap (visits setting sub) steps ∙ visits-append setting sub (course_at (start setting sub)) (steps_in puts) (step ∷ []) in
    let own : slice_get (puts ++ visit ∷ []) (length puts) ≡ Some visit
    = slice_get-right puts (visit ∷ []) (length puts) 0 (omega arith) in
    let entry : slice_get (visits setting sub (steps_in (puts ++ visit ∷ []))) (length puts) ≡ Some visit
    = front-entry (puts ++ visit ∷ []) (visits setting sub (steps_in (puts ++ visit ∷ []))) (length puts) visit
    legal.front own in
    let place : length puts ≡ length (visits setting sub (steps_in puts)) + 0 = omega (arith, rest) in
    inr (
      rest,
      (
        step,
        may,
        sym (slice_get-right (visits setting sub (steps_in puts))
            (visits_in setting sub (course_in setting sub puts) (step ∷ [])) (length puts) 0 place)
            ∙ sym (ap (λ vs. slice_get vs (length puts)) whole) ∙ entry,
      ),
    )

module _ (fronts : FrontsAreLegal) (decided : NextIsDecided) where
  next-of : (setting : Setting) (sub : ℕ) (puts : List Visit) (visit : Visit) → setting.nodes ≤ 2 ^ 16
      → ArePuts setting sub puts → ArePuts setting sub (puts ++ visit ∷ []) → IsNextPut setting sub puts visit
  next-of setting sub puts visit few legal more =
      at_place (cases_lt (length puts) (length (visits setting sub (steps_in puts))))
    where
      at_place : (length puts < length (visits setting sub (steps_in puts)))
          ⊎ (length (visits setting sub (steps_in puts)) ≤ length puts) → IsNextPut setting sub puts visit
      at_place (inl amid) = inl (decided setting sub puts visit amid more)
      at_place (inr done) =
          let short : length puts ≤ length (visits setting sub (steps_in puts))
          = front-short puts (visits setting sub (steps_in puts)) legal.front in
          begins-step setting sub puts visit
          (mark_step (ends_off puts) (node_put visit.act) (mark_put visit.act)) refl (omega (arith, short, done)) more

  pub legal-in_turn : LegalPutsComeInTurn
  legal-in_turn setting sub history few legal place visit h =
      let puts : List Visit = puts_to sub history in
      let within : place < length puts = slice_get_within puts place visit h in
      next-of setting sub (take place puts) visit few (fronts setting sub puts place few (omega (arith, within)) legal)
      (subst (ArePuts setting sub) (take-more puts place visit h) (fronts setting sub puts (suc place) few (omega (arith, within)) legal))

told-looks : (setting : Setting) (history : History) (actor : ℕ) (call : FindCall) (looks : List Told)
    (earliest : ℕ) (pursuit : Pursuit) → AreToldLooks setting history actor call earliest pursuit looks
    → AreLooks setting history actor call earliest pursuit (map (λ look. look.ticket) looks)
unfolding AreToldLooks AreLooks
told-looks setting history actor call [] earliest pursuit h = tt
told-looks setting history actor call (look ∷ later) earliest pursuit h = (
  h.0,
  (
    h.1.0,
    h.1.1,
    h.1.2,
    subst (λ w. AreLooks setting history actor call (suc look.ticket)
        (after_word setting call pursuit w) (map (λ it. it.ticket) later)) h.1.3
        (told-looks setting history actor call later (suc look.ticket) (after_word setting call pursuit look.word) h.1.4),
  ),
)

told-answer : (setting : Setting) (history : History) (actor : ℕ) (call : FindCall) (looks : List Told)
    (earliest : ℕ) (pursuit : Pursuit) → AreToldLooks setting history actor call earliest pursuit looks
    → pursuit_after setting history call pursuit (map (λ look. look.ticket) looks)
    ≡ pursuit_told setting call pursuit looks
unfolding AreToldLooks pursuit_told
told-answer setting history actor call [] earliest pursuit h = refl
told-answer setting history actor call (look ∷ later) earliest pursuit h =
    pursuit-step setting history actor call pursuit look.ticket h.1.0 (map (λ it. it.ticket) later) h.1.2
    ∙ ap (λ w. pursuit_after setting history call (after_word setting call pursuit w)
    (map (λ it. it.ticket) later)) (sym h.1.3)
    ∙ told-answer setting history actor call later (suc look.ticket) (after_word setting call pursuit look.word) h.1.4

pub stepped-finds : SteppedFindsAreFinds
stepped-finds setting history actor call found looks told answer =
    record {
      looks = told-looks setting history actor call looks 0 at_origin told;
      answer = told-answer setting history actor call looks 0 at_origin told ∙ answer;
    }
