use Rattle.std.specs.Prelude.{IfOk}
use Rattle.std.proofs.Common.{◌≡◌, subst, sym}
use Rattle.report_text.specs.SummaryText.{summary_of}
use Rattle.net_graph.specs.Faults.{IsGraphFault}
use Rattle.net_reader.specs.Input.{Contents}
use Rattle.net_reader.specs.Seen.{seen_input}
use Rattle.net_reader.specs.Valid.{IsValid}
use Rattle.track.specs.Results.{outcome_for}
use Rattle.track.proofs.Answering.{not_apart}
use Rattle.track.proofs.trial.trial.Goals as goal

pub returns-in-Ok : goal.returns-in-Ok
returns-in-Ok c =
    subst (λ (contents : Contents). IfOk c.replay_summary.result
    (λ text. text.items ≡ summary_of (outcome_for contents)))
    c.in_ok-input.ensures c.replay_summary.ensures

pub unreachable-requires : goal.unreachable-requires
unreachable-requires c =
    let valid : IsValid (seen_input c.in_ok-input.input) =
    subst IsValid (sym c.in_ok-input.ensures) (c.loads_are_valid.ensures c.args.load c.requires) in
    not_apart c.deref.ensures.value valid.connected (subst (IsGraphFault c.in_ok-input.input.nodes c.deref.result.now)
    c.in-Err-Apart.field-0-is c.in-Err-Apart.ensures.fault)
