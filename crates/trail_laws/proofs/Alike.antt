-- What isn't a visit of a move changes nothing that leads a find: a switch turns a Here into an Off, or back, where the
-- subscriber rests.
use Rattle.std.proofs.Common.{inl, inr, ◌≡◌, ℕ, zero, suc, ◌≤◌, ◌^◌, true, false, ◌==◌, List, [], ◌∷◌, ◌++◌, Option, Some, None, length, take, fold, refl, sym, ap, ◌∙◌, arith}
use Rattle.std.proofs.lemmas.Bool.{cases_Bool, cond_both, eqb-true, eq-eqb}
use Rattle.std.proofs.Math.Bool.{and-false}
use Rattle.std.specs.Prelude.{slice_get}
use Rattle.std.specs.List.{cons_option}
use Rattle.std.proofs.lemmas.List.{append-nil}
use Rattle.std.proofs.lemmas.List.Sums.{fold-append}
use Rattle.entry_word.specs.Marks.{mark_in}
use Rattle.entry_word.specs.Addresses.{address_in}
use Rattle.entry_word.specs.declared.mark.PresenceMark.{PresenceMark}
use Rattle.entry_word.specs.declared.mark.PresenceMark.TheVariants.{Here, Off}
use Rattle.entry_word.specs.declared.visit.Key.{Key}
use Rattle.entry_word.specs.declared.visit.Key.TheVariants.{Presence, Entry}
use Rattle.entry_word.specs.declared.visit.Act.{Act}
use Rattle.entry_word.specs.declared.visit.Act.TheVariants.{Put}
use Rattle.entry_word.specs.declared.visit.Visit.{Visit}
use Rattle.directory.specs.Settings.{Setting, start}
use Rattle.directory.specs.Histories.{cell, History, is_put_for, puts_to, word_after}
use Rattle.directory.specs.Courses.{Course, last_stop, Step, switch_off, switch_on}
use Rattle.directory.specs.Writes.{visits, writes, step_writes, mark_at}
use Rattle.directory.specs.Puts.{course_in, ends_off, is_of_move, mark_put, mark_step, node_put, steps_from, steps_in}
use Rattle.directory.specs.Legal.{ArePuts, IsLegal}
use Rattle.directory.specs.Standing.{Commit, commit_of, commits, number, standing}
use Rattle.directory.specs.Parts.{known_after, lead}
use Rattle.directory.specs.StepLaws.{steps-append, visits_in, visits-append, puts-push_other, puts-push_own}
use Rattle.directory.specs.Statements.{CellsOfPuts, MarksAreLeft, StepsBeginAtRest}
use Rattle.trail_laws.specs.Trail.{answers, entry_seen, IsLed, mark_seen}
use Rattle.trail_laws.proofs.Passing.{cell-kept}
use Rattle.trail_laws.proofs.ClosedMarks.{there}
use Rattle.trail_laws.proofs.Views.{mark-there}
use Rattle.std.proofs.Math.ListN.{drop_of_length-le}
use Rattle.trail_laws.specs.Phases.{IsAtRest}
use Rattle.directory.specs.HistoryLaws.{commits-append}

-- two marks lead and answer alike
abbrev pub AreAlike : PresenceMark → PresenceMark → Type 0
AreAlike one other = (known : Option ℕ) → (lead known one ≡ lead known other)
    × (answers known one ≡ answers known other) × (known_after known one ≡ known_after known other)

-- two histories lead a find alike
pub record IsAlike (setting : Setting) (sub : ℕ) (one other : History) : Type 0 where
  pub marks : (v : ℕ) → AreAlike (mark_seen setting sub one v) (mark_seen setting sub other v)
  pub entries : (level cluster : ℕ) → entry_seen setting sub other level cluster
      ≡ entry_seen setting sub one level cluster
  pub stands : standing setting sub other ≡ standing setting sub one
  pub count : number sub other ≡ number sub one

-- what isn't put for the subscriber
pub alike-other : CellsOfPuts → (setting : Setting) (sub : ℕ) (history : History) (visit : Visit)
    → is_put_for sub visit.act ≡ false → IsAlike setting sub history (history ++ visit ∷ [])
alike-other cells setting sub history visit other = record {
  marks = λ v. rw (cell-kept cells setting sub history visit (Presence v sub) refl other) (λ known. (refl, refl, refl));
  entries = λ level cluster. ap address_in
      (cell-kept cells setting sub history visit (Entry level cluster sub) refl other);
  stands = rw (puts-push_other sub history visit other);
  count = rw (puts-push_other sub history visit other);
}

-- a mark that answers whatever is known leads nowhere and adds nothing
abbrev pub AnswersAll : PresenceMark → Type 0
AnswersAll mark = (known : Option ℕ) → (lead known mark ≡ None) × (answers known mark ≡ true)
    × (known_after known mark ≡ known)

-- what a switch puts
pub record IsSwitching (sub : ℕ) (history : History) (act : Act) : Type 0 where
  pub node : ℕ
  pub word : ℕ
  pub step : Step
  pub is_put : act ≡ Put (Presence node sub) word
  pub answers_all : AnswersAll (mark_in word)
  pub begins : mark_step (ends_off (puts_to sub history)) (node_put act) (mark_put act) ≡ Some step
  pub is_switch_step : (setting : Setting) (course : Course) → (mark : PresenceMark)
      × (step_writes setting course step ≡ mark_at (last_stop course) mark ∷ [])
  pub no_commit : commit_of (node_put act) (mark_put act) ≡ None

pub switching : (sub : ℕ) (history : History) (act : Act) → is_put_for sub act ≡ true
    → is_of_move sub history act ≡ false → IsSwitching sub history act
switching sub history (Put (Entry level cluster s) word) put quiet = grind (arith, and-false)
switching sub history (Put (Presence node s) word) put quiet = at_mark (mark_in word) refl
  where
    its : Put (Presence node s) word ≡ Put (Presence node sub) word
    its = ap (λ t. Put (Presence node t) word) (eqb-true s sub put)

    at_mark : (mark : PresenceMark) → mark_in word ≡ mark → IsSwitching sub history (Put (Presence node s) word)
    at_mark (Off q) m = record {
      node = node;
      word = word;
      step = switch_off;
      is_put = its;
      answers_all = rw m (λ known. (refl, refl, refl));
      begins = rw m;
      is_switch_step = λ setting course. (Off (length course.moves), refl);
      no_commit = rw m;
    }
    at_mark (Here q) m = record {
      node = node;
      word = word;
      step = switch_on;
      is_put = its;
      answers_all = rw m (λ known. (refl, refl, refl));
      begins = grind arith;
      is_switch_step = λ setting course. (Here (length course.moves), refl);
      no_commit = rw m;
    }
    at_mark mark m = grind (arith, and-false)
switching sub history act put quiet = cc

get-next : (xs ys zs : List Visit) (visit : Visit) → xs ++ visit ∷ [] ≡ take (length (xs ++ visit ∷ [])) (ys ++ zs)
    → length xs ≡ length ys → slice_get zs 0 ≡ Some visit
get-next [] [] [] visit h same = cc
get-next [] [] (z ∷ zs) visit h same = cc
get-next (x ∷ xs) (y ∷ ys) zs visit h same =
    let tails : xs ++ visit ∷ [] ≡ take (length (xs ++ visit ∷ [])) (ys ++ zs) = cc in get-next xs ys zs visit tails
    (omega (arith, same))
get-next xs ys zs visit h same = absurd (omega (arith, same))

-- a switch is put where the subscriber rests
pub switch-rests : StepsBeginAtRest → {setting : Setting} {sub : ℕ} {history : History} (visit : Visit)
    → setting.nodes ≤ 2 ^ 16 → IsLegal setting sub history → IsLegal setting sub (history ++ visit ∷ [])
    → is_put_for sub visit.act ≡ true → IsSwitching sub history visit.act → IsAtRest setting sub history
switch-rests rests {setting} {sub} {history} visit low legal legal_more put switch =
    grind (arith, puts-push_own, drop_of_length-le)

pub alike-switch : MarksAreLeft → StepsBeginAtRest → {setting : Setting} {sub : ℕ} {history : History} (visit : Visit)
    → setting.nodes ≤ 2 ^ 16 → IsLegal setting sub history → IsLegal setting sub (history ++ visit ∷ [])
    → is_put_for sub visit.act ≡ true → IsSwitching sub history visit.act
    → IsAlike setting sub history (history ++ visit ∷ [])
unfolding steps_from writes
alike-switch marks_left rests {setting} {sub} {history} visit low legal legal_more put switch = record {
  marks = λ v. elim (cases_Bool (v == switch.node)) [
    | inl e ↦
        let before_it : mark_seen setting sub history v ≡ there course =
        ap (mark_seen setting sub history) (eqb-true v switch.node e ∙ at_stop) ∙ there_now in
        rw (before_it, after (Presence v sub), e, eq-eqb sub sub refl) (grind (arith, answered))
    | inr e ↦ rw (after (Presence v sub), e) (λ known. (refl, refl, refl))
  ];
  entries = λ level cluster. ap address_in (after (Entry level cluster sub));
  stands = ap (fold (λ n (c : Commit). c.to) (start setting sub)) same_commits;
  count = ap length same_commits;
}
  where
    puts : List Visit
    puts = puts_to sub history

    legal_puts : ArePuts setting sub (puts ++ visit ∷ [])
    legal_puts = rw (puts-push_own sub history visit put) at legal_more

    done : length puts ≡ length (visits setting sub (steps_in puts))
    done = rests setting sub puts visit switch.step low legal legal_puts switch.begins

    course : Course
    course = course_in setting sub puts

    longer : steps_in (puts ++ visit ∷ []) ≡ steps_in puts ++ switch.step ∷ []
    longer = steps-append false puts (visit ∷ []) ∙ ap (λ o. steps_in puts ++ cons_option o []) switch.begins

    due : slice_get (visits_in setting sub course (switch.step ∷ [])) 0 ≡ Some visit
    due = get-next puts (visits setting sub (steps_in puts)) (visits_in setting sub course (switch.step ∷ [])) visit
        (legal_puts.front ∙ ap (take (length (puts ++ visit ∷ [])))
        (grind (arith, longer, visits-append, puts))) done

    at_stop : switch.node ≡ last_stop course
    at_stop =
        let its = switch.is_switch_step setting course in
        grind (arith, course, due)

    there_now : mark_seen setting sub history (last_stop course) ≡ there course
    there_now = mark-there setting sub history (switch-rests rests visit low legal legal_more put switch) marks_left
        low legal

    answered : AnswersAll (there course)
    answered = grind (arith, cond_both)

    after : (key : Key) → cell setting (history ++ visit ∷ []) key
        ≡ word_after key (cell setting history key) (Put (Presence switch.node sub) switch.word)
    after key = grind (arith, fold-append)

    same_commits : commits sub (history ++ visit ∷ []) ≡ commits sub history
    same_commits = grind (arith, commits-append, append-nil)

-- so it is for each visit that is none of a move
pub alike-step : CellsOfPuts → MarksAreLeft → StepsBeginAtRest
    → {setting : Setting} {sub : ℕ} (history : History) (visit : Visit) → setting.nodes ≤ 2 ^ 16
    → IsLegal setting sub history → IsLegal setting sub (history ++ visit ∷ [])
    → is_of_move sub history visit.act ≡ false → IsAlike setting sub history (history ++ visit ∷ [])
alike-step cells marks_left rests {setting} {sub} history visit low legal legal_more quiet =
    elim (cases_Bool (is_put_for sub visit.act)) [
      | inl put ↦
          alike-switch marks_left rests visit low legal legal_more put (switching sub history visit.act put quiet)
      | inr other ↦ alike-other cells setting sub history visit other
    ]

-- what is led alike arrives alike
pub led-alike : (setting : Setting) (marks others : ℕ → PresenceMark) → ((v : ℕ) → AreAlike (marks v) (others v))
    → (known : Option ℕ) (node last hops way : ℕ) → IsLed setting marks known node last hops way
    → IsLed setting others known node last hops way
unfolding IsLed
led-alike setting marks others alike known node last zero way led = (led.0, sym (alike node known).1 ∙ led.1, led.2)
led-alike setting marks others alike known node last (suc hops) way led = grind (
  arith,
  led-alike setting marks others alike (known_after known (marks node)) led.0 last hops led.1 led.4,
  marks,
)
