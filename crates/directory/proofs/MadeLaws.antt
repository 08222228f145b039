-- The lines of an outcome are made by visits: each step's by all its writes, each find's by all its looks.
use Rattle.std.proofs.Common.{◌≡◌, ℕ, zero, suc, ◌+◌, ◌<◌, ◌≤◌, List, [], ◌∷◌, ◌++◌, length, map, arith, append_assoc}
use Rattle.std.specs.Prelude.{flat_map, All}
use Rattle.std.proofs.lemmas.List.{length-drop, length-take-le, get_or-drop, get_or-take}
use Rattle.std.proofs.lemmas.List.Elements.{All-nil, All-append, All-head, All-tail}
use Rattle.directory.specs.Settings.{Setting, subs}
use Rattle.directory.specs.Histories.{History, tickets}
use Rattle.directory.specs.Writes.{numbers_from}
use Rattle.directory.specs.Finds.{FindCall}
use Rattle.directory.specs.Orders.{Scripts, finds_of, Answer, caller_in, IsPlayed}
use Rattle.directory.specs.Outcomes.{sub_lines, found_line, answer_line, caller_lines, IsFindLine, IsMade}
use Rattle.directory.specs.declared.answers.Found.{Found}
use Rattle.directory.specs.declared.answers.Found.TheVariants.{At}
use Rattle.directory.specs.Statements.{LinesAreMade, FindsFollow}
use Rattle.directory.proofs.StepsMade.{sub_made}
use Rattle.directory.proofs.UnderWay.{IsAnswered, seen_of, under_way}

-- the lines of a caller
find_made : (setting : Setting) (scripts : Scripts) (history : History) (actor first last : ℕ) (call : FindCall)
    (found : Found)
    → IsFindLine setting scripts history actor call (found_line actor call found first last)
    → IsMade setting scripts history (found_line actor call found first last)
find_made setting scripts history actor first last call (At node number level weight) h = h
find_made setting scripts history actor first last call _ h = h

answers_made : (setting : Setting) (scripts : Scripts) (history : History) (actor : ℕ) (ticketed : List ℕ)
    (done : List FindCall) (answers : List Answer) (left : List FindCall)
    → finds_of setting scripts actor ≡ done ++ (map (λ (answer : Answer). answer.call) answers ++ left)
    → All (IsAnswered setting history actor ticketed) answers
    → All (IsMade setting scripts history) (map (answer_line actor ticketed) answers)
answers_made setting scripts history actor ticketed done [] left script all = All-nil (IsMade setting scripts history)
answers_made setting scripts history actor ticketed done (answer ∷ answers) left script all =
    grind (
      arith,
      find_made,
      line (All-head (IsAnswered setting history actor ticketed) answer answers all),
      answers_made setting scripts history actor ticketed (done ++ answer.call ∷ []) answers left
          (rw append_assoc script) (All-tail (IsAnswered setting history actor ticketed) answer answers all),
    )
  where
    line : IsAnswered setting history actor ticketed answer
        → IsFindLine setting scripts history actor answer.call (answer_line actor ticketed answer)
    line h = grind (arith, seen_of, get_or-take, get_or-drop, length-drop, length-take-le)

caller_made : (setting : Setting) (scripts : Scripts) (history : History) (actor : ℕ) → subs setting ≤ actor
    → IsPlayed setting scripts history → All (IsMade setting scripts history)
    (caller_lines setting scripts history actor)
caller_made setting scripts history actor high played =
    let far = under_way setting scripts history actor high played in
    answers_made setting scripts history actor (tickets actor history) []
    (caller_in setting scripts history actor).answers
    (caller_in setting scripts history actor).calls far.script far.done

-- what holds of what each number gives holds of all that they give
each_made : {A : Type 0} (P : A → Type 0) (f : ℕ → List A) (first count : ℕ)
    → ((x : ℕ) → first ≤ x → x < first + count → All P (f x)) → All P (flat_map f (numbers_from first count))
each_made P f first zero each = All-nil P
each_made P f first (suc count) each = All-append P (f first) _ (each first (omega arith) (omega arith))
    (each_made P f (suc first) count (λ x h g. each x (omega arith) (omega arith)))

-- so each line of an outcome is made by its visits
pub lines-made : LinesAreMade
lines-made setting scripts history played done =
    All-append (IsMade setting scripts history) _ _
    (each_made (IsMade setting scripts history) (sub_lines setting scripts history) 0 (subs setting)
    (λ sub h g. sub_made setting scripts history sub (omega (arith, g)) played (done sub)))
    (each_made (IsMade setting scripts history) (caller_lines setting scripts history) (subs setting)
    (length scripts.finds) (λ caller h g. caller_made setting scripts history caller h played))

pub finds-follow : FindsFollow
finds-follow setting scripts history actor high played = (under_way setting scripts history actor high played).follow
