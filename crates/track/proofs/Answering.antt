-- A graph's plan is the plan of the edges that it was made of.
use Rattle.std.proofs.Common.{◌≡◌, ℕ, ◌<◌, ◌≤◌, List, Err, subst}
use Rattle.net_graph.specs.declared.edge.Edge.{Edge}
use Rattle.net_graph.specs.Network.{Network, IsFirstApart, IsGraphOf}
use Rattle.net_graph.specs.Walks.{IsReached, everywhere}
use Rattle.net_reader.specs.Input.{Contents}
use Rattle.net_reader.specs.Reading.{IsReadWithGraph}
use Rattle.net_reader.specs.Valid.{IsValid}
use Rattle.net_reader.specs.declared.fault.ReadRefusal.{ReadRefusal}
use Rattle.net_reader.specs.declared.fault.ReadRefusal.TheVariants as refusals
use Rattle.word_line.specs.declared.command.Command.{Command}
use Rattle.region_plan.specs.Coverings.{trade_off_of}
use Rattle.plan_laws.specs.SameWalks.{CoveredPlansOfSameWalks, PlansOfSameWalks}
use Rattle.region_plan.specs.Meanings.{CoveredPlansMean, PlansMean}
use Rattle.region_plan.specs.Plan.{nodes_of}
use Rattle.region_plan.specs.Regions.{covered_plan, plan_of}
use Rattle.region_plan.specs.declared.covering.Covering.{Covering}
use Rattle.track.specs.Results.{IsInputText, IsJudged, IsRefused}
use Rattle.track.specs.declared.status.Status.{Status}
use Rattle.report_check.specs.InputLaws.{network-valid}
use Rattle.report_check.specs.Inputs.{network_of, plan_for}

-- ---- the plan of the input's network

-- it has as many nodes as the input
pub plan-nodes : PlansMean → {contents : Contents} → IsValid contents → nodes_of (plan_for contents) ≡ contents.nodes
plan-nodes means {contents} valid =
    (means (network_of contents) contents.k (network-valid valid) valid.k_some).distances.nodes

-- the plan of a graph is the plan of the edges that it was made of
pub plan_of_graph : PlansOfSameWalks → {contents : Contents} {network : Network} → IsValid contents
    → IsGraphOf contents.nodes contents.edges network → plan_of network contents.k ≡ plan_for contents
plan_of_graph same {contents} {network} valid graph =
    same network (network_of contents) contents.k graph.sound (network-valid valid) graph.nodes graph.same
    valid.k_some

-- the same of the plan over any covering
pub covered-nodes : CoveredPlansMean → (covering : Covering) {contents : Contents} → IsValid contents
    → 1 ≤ trade_off_of covering → nodes_of (covered_plan covering (network_of contents)) ≡ contents.nodes
covered-nodes means covering {contents} valid low =
    (means covering (network_of contents) (network-valid valid) low).distances.nodes

pub covered_of_graph : CoveredPlansOfSameWalks → (covering : Covering) {contents : Contents} {network : Network}
    → IsValid contents → IsGraphOf contents.nodes contents.edges network → 1 ≤ trade_off_of covering
    → covered_plan covering network ≡ covered_plan covering (network_of contents)
covered_of_graph same covering {contents} {network} valid graph low =
    same covering network (network_of contents) graph.sound (network-valid valid) graph.nodes graph.same low

-- a network that is connected isn't apart
pub not_apart : {n : ℕ} {edges given : List Edge} {node : ℕ} → given ≡ edges
    → ((v : ℕ) → v < n → IsReached edges everywhere 0 v) → IsFirstApart n given node → ⊥
not_apart {n} {edges} {node} same connected apart =
    let is : IsFirstApart n edges node = subst (λ (es : List Edge). IsFirstApart n es node) same apart in
    let reached = connected node is.below in
    is.apart reached.steps reached.walk

-- ---- bytes that are refused

pub refused-text : (command : Command) (bytes : List ℕ) (refusal : ReadRefusal) (status : Status) (text : List ℕ)
    → IsReadWithGraph bytes (Err refusal) → IsRefused refusal status text → IsInputText command bytes status text
refused-text command bytes (refusals.Fault fault) status text says is =
    record { input = Err fault; says = says; answer = is }
refused-text command bytes refusals.OutOfMemory status text says is = elim is [ ]

pub refused-verdict : (part report : List ℕ) (refusal : ReadRefusal) (status : Status) (text : List ℕ)
    → IsReadWithGraph part (Err refusal) → IsRefused refusal status text → IsJudged part report status text
refused-verdict part report (refusals.Fault fault) status text says is =
    record { input = Err fault; says = says; answer = is }
refused-verdict part report refusals.OutOfMemory status text says is = elim is [ ]
