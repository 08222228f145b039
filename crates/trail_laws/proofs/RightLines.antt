-- The lines of outcomes are right, since each is made by the looks of a find.
use Rattle.std.proofs.Common.{◌≡◌, ℕ, ◌<◌, ◌≤◌, ◌^◌, List, arith}
use Rattle.std.specs.Prelude.{All, Some, slice_get}
use Rattle.std.proofs.lemmas.Option.{get_or_from_slice_get, slice_get_within}
use Rattle.std.proofs.lemmas.List.Elements.{All-weaker}
use Rattle.directory.specs.Settings.{Setting, subs}
use Rattle.directory.specs.Histories.{History}
use Rattle.directory.specs.Legal.{IsLegal}
use Rattle.directory.specs.Finds.{FindCall}
use Rattle.directory.specs.ScriptLaws.{call_of_valid}
use Rattle.directory.specs.Looks.{first_of, last_of, IsFind}
use Rattle.directory.specs.Orders.{AreValid, IsFindCall, Scripts, history_of}
use Rattle.directory.specs.Outcomes.{IsMade, found_line, outcome_of}
use Rattle.directory.specs.Statements.{LinesAreMade, OrdersAreDone, OrdersArePlayed, PlayedIsLegal}
use Rattle.directory.specs.declared.answers.Done.{Done}
use Rattle.directory.specs.declared.answers.Done.TheVariants.{Found as FoundBy, Off as OffBy, Again as AgainBy}
use Rattle.directory.specs.declared.answers.Found.{Found}
use Rattle.directory.specs.declared.answers.Found.TheVariants.{Again}
use Rattle.trail_laws.specs.Rightness.{AgainHasItsCause, AnswersAreRight, HasNumber, NumbersNeverFall, ReadsTop}
use Rattle.trail_laws.specs.RightOutcomes.{IsRightLine, NumbersRise, OutcomesAreRight, TellsNumber}

-- what is answered to a find is right
right_find : AnswersAreRight → AgainHasItsCause → (setting : Setting) (history : History) (actor : ℕ)
    (call : FindCall) (found : Found) (seen : List ℕ) → setting.nodes ≤ 2 ^ 16 → ReadsTop setting
    → IsFindCall setting call → IsLegal setting call.sub history → IsFind setting history actor call found seen
    → IsRightLine setting history (found_line actor call found (first_of seen) (last_of seen))
right_find right cause setting history actor call (Again why weight) seen low reads is legal find =
    cause setting history actor call why weight seen low reads is.inside legal find
right_find right cause setting history actor call found seen low reads is legal find =
    right setting history actor call found seen low is.inside legal find

-- and each line of an outcome
made_right : AnswersAreRight → AgainHasItsCause → {setting : Setting} {scripts : Scripts} (history : History)
    → setting.nodes ≤ 2 ^ 16 → ReadsTop setting → AreValid setting scripts
    → ((sub : ℕ) → sub < subs setting → IsLegal setting sub history) → (line : Done)
    → IsMade setting scripts history line → IsRightLine setting history line
made_right right cause history low reads valid legal line h = grind (arith, call_of_valid, right_find)

pub outcomes-right : AnswersAreRight → AgainHasItsCause → OrdersArePlayed → OrdersAreDone → PlayedIsLegal
    → LinesAreMade → OutcomesAreRight
outcomes-right right cause played done legal made setting scripts order low reads valid =
    All-weaker (IsMade setting scripts (history_of setting scripts order))
    (IsRightLine setting (history_of setting scripts order)) (made_right right cause (history_of setting scripts order)
    low reads valid (λ sub below. legal setting scripts (history_of setting scripts order) sub low valid below
    (played setting scripts order))) (outcome_of setting scripts order).calls (made setting scripts
    (history_of setting scripts order) (played setting scripts order) (done setting scripts order))

-- a find whose answer has a number
record Numbered (setting : Setting) (history : History) (sub p ticket : ℕ) : Type 0 where
  pub actor : ℕ
  pub from : ℕ
  pub found : Found
  pub seen : List ℕ
  pub is : IsFindCall setting (record { from = from; sub = sub })
  pub find : IsFind setting history actor (record { from = from; sub = sub }) found seen
  pub number : HasNumber found p
  pub last : last_of seen ≡ ticket

-- a line that tells a number is made by such a find
numbered : {setting : Setting} {scripts : Scripts} (history : History) → AreValid setting scripts → (line : Done)
    (s p ticket : ℕ) → IsMade setting scripts history line → TellsNumber line s p ticket
    → Numbered setting history s p ticket
numbered {setting} {scripts} history valid (FoundBy actor from sub node n level weight first last) s p ticket h told =
    grind (arith, call_of_valid)
numbered {setting} {scripts} history valid (OffBy actor from sub node n level weight first last) s p ticket h told =
    grind (arith, call_of_valid)
numbered history valid (AgainBy actor from sub why weight first last) s p ticket h told = absurd told.1
numbered history valid line s p ticket h told = absurd told

at_place : {A : Type 0} (P : A → Type 0) (xs : List A) (i : ℕ) (x : A) → All P xs → slice_get xs i ≡ Some x → P x
at_place P xs i x all e = rw (get_or_from_slice_get xs i x x e) at (all i x (slice_get_within xs i x e))

pub numbers-rise : NumbersNeverFall → OrdersArePlayed → OrdersAreDone → PlayedIsLegal → LinesAreMade → NumbersRise
numbers-rise fall played done legal made setting scripts order low valid i j one other at_one at_other sub p q earlier
    later told_one told_other before =
    let history : History = history_of setting scripts order in
    let all : All (IsMade setting scripts history) (outcome_of setting scripts order).calls =
    made setting scripts history (played setting scripts order) (done setting scripts order) in
    let a : Numbered setting history sub p earlier = numbered history valid one sub p earlier
    (at_place (IsMade setting scripts history) (outcome_of setting scripts order).calls i one all at_one) told_one in
    let b : Numbered setting history sub q later = numbered history valid other sub q later
    (at_place (IsMade setting scripts history) (outcome_of setting scripts order).calls j other all at_other)
    told_other in
    fall setting history a.actor b.actor sub a.from b.from p q a.found b.found a.seen b.seen low a.is.inside b.is.inside
    (legal setting scripts history sub low valid a.is.known (played setting scripts order)) a.find b.find a.number
    b.number (omega (arith, a.last, b.last, before))
