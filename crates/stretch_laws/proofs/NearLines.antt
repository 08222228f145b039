-- The lines of quiet finds are within the limit, since each is made by the looks of a find.
use Rattle.std.proofs.Common.{◌≡◌, ℕ, ◌+◌, ◌*◌, ◌<◌, ◌≤◌, ◌^◌, List, sym, subst}
use Rattle.std.specs.Prelude.{All}
use Rattle.std.proofs.lemmas.List.Elements.{All-weaker}
use Rattle.directory.specs.Settings.{Setting, subs}
use Rattle.directory.specs.Histories.{History, through}
use Rattle.directory.specs.Legal.{IsLegal}
use Rattle.directory.specs.Finds.{FindCall, found_weight}
use Rattle.directory.specs.ScriptLaws.{call_of_valid}
use Rattle.directory.specs.Looks.{first_of, IsFind, IsQuiet, last_of}
use Rattle.directory.specs.Orders.{AreValid, history_of, IsFindCall, Scripts}
use Rattle.directory.specs.Outcomes.{found_line, IsFindLine, IsMade, outcome_of}
use Rattle.directory.specs.Statements.{LinesAreMade, OrdersAreDone, OrdersArePlayed, PlayedIsLegal}
use Rattle.directory.specs.declared.answers.Done.{Done}
use Rattle.directory.specs.declared.answers.Done.TheVariants.{Moved, Switched, Found as FoundBy, Off as OffBy, Again as AgainBy}
use Rattle.directory.specs.declared.answers.Found.{Found}
use Rattle.directory.specs.declared.answers.Found.TheVariants.{At, Off as OffAt, Again}
use Rattle.region_plan.specs.Settings.{setting_of}
use Rattle.trail_laws.specs.Rightness.{IsAnswered}
use Rattle.stretch_laws.specs.NearOutcomes.{IsLimited, IsLineWithin, OutcomesAreNear, PlanOutcomesAreNear}
use Rattle.stretch_laws.specs.Plans.{bound_of, PlanFindsAreNear}
use Rattle.stretch_laws.specs.Tracking.{QuietFindsAreNear, stretch}

-- what is said of the quiet finds of a history
abbrev pub FindsAreWithin : (ℕ → ℕ → ℕ) → Setting → History → Type 0
FindsAreWithin limit setting history =
    (actor : ℕ) (call : FindCall) (found : Found) (seen : List ℕ) → call.from < setting.nodes
    → IsLegal setting call.sub history → IsFind setting history actor call found seen
    → IsQuiet history call.sub (first_of seen) (last_of seen)
    → IsAnswered found
    × IsLimited limit setting call.from call.sub (found_weight found) (through (last_of seen) history)

-- the line of a find is within the limit
near_line : (limit : ℕ → ℕ → ℕ) (setting : Setting) (history : History) → FindsAreWithin limit setting history
    → (actor : ℕ) (call : FindCall) (found : Found) (seen : List ℕ) (line : Done) → IsFindCall setting call
    → IsLegal setting call.sub history → IsFind setting history actor call found seen
    → line ≡ found_line actor call found (first_of seen) (last_of seen) → IsLineWithin limit setting history line
near_line limit setting history within actor call (At node n level weight) seen line is legal find tells =
    subst (IsLineWithin limit setting history) (sym tells)
    (within actor call (At node n level weight) seen is.inside legal find)
near_line limit setting history within actor call (OffAt node n level weight) seen line is legal find tells =
    subst (IsLineWithin limit setting history) (sym tells)
    (within actor call (OffAt node n level weight) seen is.inside legal find)
near_line limit setting history within actor call (Again why weight) seen line is legal find tells =
    subst (IsLineWithin limit setting history) (sym tells)
    (within actor call (Again why weight) seen is.inside legal find)

find_near : (limit : ℕ → ℕ → ℕ) (setting : Setting) (scripts : Scripts) (history : History)
    → FindsAreWithin limit setting history → AreValid setting scripts
    → ((sub : ℕ) → sub < subs setting → IsLegal setting sub history) → (actor : ℕ) (call : FindCall) (line : Done)
    → IsFindLine setting scripts history actor call line → IsLineWithin limit setting history line
find_near limit setting scripts history within valid legal actor call line h =
    let is = call_of_valid setting scripts actor h.before call h.later valid h.script in
    near_line limit setting history within actor call h.found h.seen line is (legal call.sub is.known) h.find h.tells

-- so each line of an outcome is
made_near : (limit : ℕ → ℕ → ℕ) (setting : Setting) (scripts : Scripts) (history : History)
    → FindsAreWithin limit setting history → AreValid setting scripts
    → ((sub : ℕ) → sub < subs setting → IsLegal setting sub history) → (line : Done)
    → IsMade setting scripts history line → IsLineWithin limit setting history line
made_near limit setting scripts history within valid legal (Moved actor n from to weight first commit last) h = tt
made_near limit setting scripts history within valid legal (Switched actor is_off node n ticket) h = tt
made_near limit setting scripts history within valid legal (FoundBy actor from sub node n level weight first last) h =
    find_near limit setting scripts history within valid legal actor _ _ h
made_near limit setting scripts history within valid legal (OffBy actor from sub node n level weight first last) h =
    find_near limit setting scripts history within valid legal actor _ _ h
made_near limit setting scripts history within valid legal (AgainBy actor from sub why weight first last) h =
    find_near limit setting scripts history within valid legal actor _ _ h

-- what is used of the laws of orders
pub record OrderLaws : Type 0 where
  pub played : OrdersArePlayed
  pub done : OrdersAreDone
  pub legal : PlayedIsLegal
  pub made : LinesAreMade

within-outcome : OrderLaws → (limit : ℕ → ℕ → ℕ) (setting : Setting) (scripts : Scripts) (order : List ℕ)
    → setting.nodes ≤ 2 ^ 16 → FindsAreWithin limit setting (history_of setting scripts order)
    → AreValid setting scripts
    → All (IsLineWithin limit setting (history_of setting scripts order)) (outcome_of setting scripts order).calls
within-outcome laws limit setting scripts order low within valid =
    All-weaker (IsMade setting scripts (history_of setting scripts order))
    (IsLineWithin limit setting (history_of setting scripts order))
    (made_near limit setting scripts (history_of setting scripts order) within valid
    (λ sub below. laws.legal setting scripts (history_of setting scripts order) sub low valid below
    (laws.played setting scripts order)))
    (outcome_of setting scripts order).calls
    (laws.made setting scripts (history_of setting scripts order) (laws.played setting scripts order)
    (laws.done setting scripts order))

pub outcomes-near : OrderLaws → QuietFindsAreNear → OutcomesAreNear
outcomes-near laws near setting width readers scripts order low tracking valid =
    within-outcome laws (λ distance passing. stretch width readers * distance + 2 * passing) setting scripts order low
    (λ actor call found seen inside legal find quiet.
    (near setting width readers (history_of setting scripts order) actor call found seen low tracking inside legal find
    quiet).1) valid

pub plan-outcomes-near : OrderLaws → PlanFindsAreNear → PlanOutcomesAreNear
plan-outcomes-near laws near plan starts scripts order low bounds valid =
    within-outcome laws (bound_of plan) (setting_of plan starts) scripts order low
    (λ actor call found seen inside legal find quiet.
    (near plan starts (history_of (setting_of plan starts) scripts order) actor call found seen low bounds inside legal
    find quiet).1) valid
