-- Each call of an outcome has its tickets, and none is left over.
use Rattle.std.proofs.Common.{ℕ, ◌+◌, List, [], length, None, refl, arith, subst, append-nil}
use Rattle.std.specs.Prelude.{flat_map}
use Rattle.directory.specs.Settings.{Setting, subs}
use Rattle.directory.specs.Histories.{History, tickets}
use Rattle.directory.specs.Orders.{IsDone, IsPlayed, Scripts, history_of}
use Rattle.directory.specs.Outcomes.{caller_lines, outcome_in, sub_lines}
use Rattle.directory.specs.Statements.{CallersCount, OrdersAreDone, OrdersArePlayed, ScriptsInOrder, TicketsAscend}
use Rattle.directory.specs.Writes.{numbers_from}
use Rattle.directory.specs.declared.answers.Done.{Done}
use Rattle.region_plan.specs.Settings.{setting_of}
use Rattle.scripts.specs.Scripts.{scripts_of}
use Rattle.own_reports.specs.Reports.{HaveTickets, TicketsAreTold}
use Rattle.own_reports.proofs.FindRuns.{caller-runs}
use Rattle.own_reports.proofs.Order.{AreTickets, actors_of, tickets-are}
use Rattle.own_reports.proofs.Runs.{IsFrom, rows-hold}
use Rattle.own_reports.proofs.StepRuns.{sub-runs}
use Rattle.own_reports.proofs.Strangers.{no-strangers}
use Rattle.report_check.specs.Inputs.{plan_for}

-- the calls of a history that is played to its end have their tickets
calls-hold : TicketsAscend → ScriptsInOrder → CallersCount → (setting : Setting) (scripts : Scripts) (history : History)
    → IsPlayed setting scripts history → ((actor : ℕ) → IsDone setting scripts history actor)
    → HaveTickets (actors_of history) None (outcome_in setting scripts history).calls
unfolding HaveTickets
calls-hold ascend in_order count setting scripts history played done =
    let are : (actor : ℕ) → AreTickets (actors_of history) actor (tickets actor history) = tickets-are ascend history in
    let finders = rows-hold (actors_of history) (λ actor. tickets actor history) (caller_lines setting scripts history)
    (subs setting) (length scripts.finds) [] are
    (λ actor low high. caller-runs count setting scripts history actor low played (done actor)) tt tt in
    (rows-hold (actors_of history) (λ actor. tickets actor history) (sub_lines setting scripts history) 0 (subs setting)
    (flat_map (caller_lines setting scripts history) (numbers_from (subs setting) (length scripts.finds))) are
    (λ actor low high. sub-runs in_order setting scripts history actor (omega (arith, high)) played (done actor))
    (from-zero _ (subst (λ calls. IsFrom (subs setting) calls) (append-nil _) finders.1))
    (subst (λ calls. HaveTickets (actors_of history) None calls) (append-nil _) finders.0)).0
  where
    from-zero : (calls : List Done) → IsFrom (subs setting) calls → IsFrom (0 + subs setting) calls
    from-zero calls h = subst (λ k. IsFrom k calls) (omega arith) h

pub tickets-told : TicketsAscend → ScriptsInOrder → CallersCount → OrdersArePlayed → OrdersAreDone → TicketsAreTold
tickets-told ascend in_order count played done contents order valid =
    let setting : Setting = setting_of (plan_for contents) contents.homes in
    let scripts : Scripts = scripts_of contents in (
      calls-hold ascend in_order count setting scripts (history_of setting scripts order)
          (played setting scripts order) (done setting scripts order),
      no-strangers contents setting (history_of setting scripts order) valid refl (played setting scripts order),
    )
