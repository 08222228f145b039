-- The lines of finds are within their price, since each is made by the looks of a find.
use Rattle.std.proofs.Common.{◌≡◌, ℕ, ◌+◌, ◌<◌, ◌≤◌, List, sym, subst}
use Rattle.std.proofs.lemmas.List.Elements.{All-weaker}
use Rattle.directory.specs.Settings.{Setting, subs}
use Rattle.directory.specs.Histories.{before, History}
use Rattle.directory.specs.Legal.{IsLegal}
use Rattle.directory.specs.Finds.{FindCall, found_weight}
use Rattle.directory.specs.ScriptLaws.{call_of_valid}
use Rattle.directory.specs.Looks.{first_of, IsFind, last_of}
use Rattle.directory.specs.Orders.{AreValid, history_of, IsFindCall, Scripts}
use Rattle.directory.specs.Outcomes.{found_line, IsFindLine, IsMade, outcome_of}
use Rattle.directory.specs.Standing.{passage, standing}
use Rattle.directory.specs.Statements.{LinesAreMade, OrdersAreDone, OrdersArePlayed, PlayedIsLegal}
use Rattle.directory.specs.declared.answers.Done.{Done}
use Rattle.directory.specs.declared.answers.Done.TheVariants.{Moved, Switched, Found as FoundBy, Off as OffBy, Again as AgainBy}
use Rattle.directory.specs.declared.answers.Found.{Found}
use Rattle.directory.specs.declared.answers.Found.TheVariants.{At, Off as OffAt, Again}
use Rattle.region_plan.specs.Settings.{setting_of}
use Rattle.stretch_laws.specs.Plans.{bound_of}
use Rattle.busy_finds.specs.Plans.{PlanFindsAreBounded}
use Rattle.busy_finds.specs.PricedOutcomes.{IsLinePriced, PlanOutcomesArePriced}
use Rattle.busy_finds.specs.Prices.{gathered_within}

-- what is said of the finds of a history
abbrev FindsArePriced : (ℕ → ℕ → ℕ) → Setting → History → Type 0
FindsArePriced limit setting history =
    (actor : ℕ) (call : FindCall) (found : Found) (seen : List ℕ) (ticket : ℕ) → call.from < setting.nodes
    → IsLegal setting call.sub history → IsFind setting history actor call found seen
    → first_of seen ≤ ticket → ticket ≤ last_of seen
    → found_weight found ≤ limit (setting.distance call.from (standing setting call.sub (before ticket history))
    + gathered_within setting call.sub history (first_of seen) (last_of seen))
    (passage setting call.sub (before (first_of seen) history))

-- the line of a find is within its price
find-line : (limit : ℕ → ℕ → ℕ) (setting : Setting) (history : History) → FindsArePriced limit setting history
    → (actor : ℕ) (call : FindCall) (found : Found) (seen : List ℕ) (line : Done) → IsFindCall setting call
    → IsLegal setting call.sub history → IsFind setting history actor call found seen
    → line ≡ found_line actor call found (first_of seen) (last_of seen) → IsLinePriced limit setting history line
find-line limit setting history priced actor call (At node n level weight) seen line is legal find tells =
    subst (IsLinePriced limit setting history) (sym tells)
    (λ ticket from to. priced actor call (At node n level weight) seen ticket is.inside legal find from to)
find-line limit setting history priced actor call (OffAt node n level weight) seen line is legal find tells =
    subst (IsLinePriced limit setting history) (sym tells)
    (λ ticket from to. priced actor call (OffAt node n level weight) seen ticket is.inside legal find from to)
find-line limit setting history priced actor call (Again why weight) seen line is legal find tells =
    subst (IsLinePriced limit setting history) (sym tells)
    (λ ticket from to. priced actor call (Again why weight) seen ticket is.inside legal find from to)

made-find : (limit : ℕ → ℕ → ℕ) (setting : Setting) (scripts : Scripts) (history : History)
    → FindsArePriced limit setting history → AreValid setting scripts
    → ((sub : ℕ) → sub < subs setting → IsLegal setting sub history) → (actor : ℕ) (call : FindCall) (line : Done)
    → IsFindLine setting scripts history actor call line → IsLinePriced limit setting history line
made-find limit setting scripts history priced valid legal actor call line h =
    let is = call_of_valid setting scripts actor h.before call h.later valid h.script in
    find-line limit setting history priced actor call h.found h.seen line is (legal call.sub is.known) h.find h.tells

-- so each line of an outcome is
made-line : (limit : ℕ → ℕ → ℕ) (setting : Setting) (scripts : Scripts) (history : History)
    → FindsArePriced limit setting history → AreValid setting scripts
    → ((sub : ℕ) → sub < subs setting → IsLegal setting sub history) → (line : Done)
    → IsMade setting scripts history line → IsLinePriced limit setting history line
made-line limit setting scripts history priced valid legal (Moved actor n from to weight first commit last) h = tt
made-line limit setting scripts history priced valid legal (Switched actor is_off node n ticket) h = tt
made-line limit setting scripts history priced valid legal (FoundBy actor from sub node n level weight first last) h =
    made-find limit setting scripts history priced valid legal actor _ _ h
made-line limit setting scripts history priced valid legal (OffBy actor from sub node n level weight first last) h =
    made-find limit setting scripts history priced valid legal actor _ _ h
made-line limit setting scripts history priced valid legal (AgainBy actor from sub why weight first last) h =
    made-find limit setting scripts history priced valid legal actor _ _ h

-- what is used of the laws of orders
pub record OrderLaws : Type 0 where
  pub played : OrdersArePlayed
  pub done : OrdersAreDone
  pub legal : PlayedIsLegal
  pub made : LinesAreMade

pub outcomes-priced : OrderLaws → PlanFindsAreBounded → PlanOutcomesArePriced
outcomes-priced laws bounded plan starts scripts order low bounds valid =
    let setting : Setting = setting_of plan starts in
    let history : History = history_of setting scripts order in
    All-weaker (IsMade setting scripts history) (IsLinePriced (bound_of plan) setting history)
    (made-line (bound_of plan) setting scripts history
    (λ actor call found seen ticket inside legal find from to.
    bounded plan starts history actor call found seen ticket low bounds inside legal find from to) valid
    (λ sub below. laws.legal setting scripts history sub low valid below (laws.played setting scripts order)))
    (outcome_of setting scripts order).calls
    (laws.made setting scripts history (laws.played setting scripts order) (laws.done setting scripts order))
