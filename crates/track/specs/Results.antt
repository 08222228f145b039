-- The text that answers bytes, by the command: that of the plan of the input's network, the report
-- of what becomes of its calls under its order, or under one that threads made, the census at their
-- end, what its moves cost, the plan's stretches, the input or its report as JSON, or the line that
-- refuses the input; plan, report and stretches are there over mean covers too. To a text that has an input and a report
-- the verdict on it answers, and to JSON the input that it tells. And the text of a command that
-- reads nothing: a made input, or the summary of its replay. Key laws: `bytes_have_one_text`,
-- `runs_are_replayed` (a replay under the order that a run printed writes the same).
use Rattle.std.specs.Prelude.{◌≡◌, ◌⊎◌, ℕ, ◌+◌, ◌-◌, ◌*◌, ◌++◌, ◌∷◌, [], Bool, true, false, All, List, Option, Some, None, Result, Ok, Err, ◌<◌, codes, length}
use Rattle.net_reader.specs.declared.fault.InputFault.{InputFault}
use Rattle.net_reader.specs.declared.fault.ReadRefusal.{ReadRefusal}
use Rattle.net_reader.specs.declared.fault.ReadRefusal.TheVariants as refusals
use Rattle.net_reader.specs.Input.{Contents, IsInput}
use Rattle.busy_finds.specs.PricedOutcomes.{IsLinePriced}
use Rattle.directory.specs.Census.{census}
use Rattle.directory.specs.Histories.{History}
use Rattle.directory.specs.Orders.{history_of}
use Rattle.directory.specs.Outcomes.{Outcome, outcome_of}
use Rattle.directory.specs.Settings.{Setting}
use Rattle.trail_laws.specs.Censuses.{IsCounted, who_ends_at}
use Rattle.trail_laws.specs.RightOutcomes.{IsRightLine, TellInTurn, TellRisingNumbers}
use Rattle.region_plan.specs.Plan.{PlanData, levels_of}
use Rattle.region_plan.specs.Settings.{setting_of}
use Rattle.stretch_laws.specs.Plans.{bound_of}
use Rattle.stretch_laws.specs.NearOutcomes.{IsLineWithin}
use Rattle.scripts.specs.Scripts.{scripts_of}
use Rattle.region_plan.specs.Matched.{BoundsFinds, HasFewReaders, HasSmallSum}
use Rattle.region_plan.specs.Regions.{mean_plan}
use Rattle.census_text.specs.CensusText.{census_text_of}
use Rattle.make_load.specs.Load.{IsLoad, load_contents, load_text_of}
use Rattle.report_text.specs.SummaryText.{summary_of}
use Rattle.move_cost.specs.Costs.{cost_lines}
use Rattle.move_cost.specs.CostText.{costs_text_of}
use Rattle.move_cost.specs.Rate.{IsWithinRate}
use Rattle.own_stretch.specs.OwnStretch.{any_stretch_of, own_stretch_of}
use Rattle.own_stretch.specs.Plans.{BoundWeights}
use Rattle.own_stretch.specs.StretchText.{stretch_text_of}
use Rattle.own_stretch.specs.declared.stretches.OwnStretches.{OwnStretches}
use Rattle.input_text.specs.Listing.{ListingValue, listing_text}
use Rattle.json_form.specs.TextOfJson.{IsListed, IsNoJson, IsShapeless}
use Rattle.json_form.specs.Inputs.{input_json_of}
use Rattle.json_form.specs.Reports.{report_json_of}
use Rattle.report_text.specs.PlanText.{plan_text_of}
use Rattle.report_text.specs.ReportText.{refused_line_of, report_of}
use Rattle.report_check.specs.declared.verdict.Verdict.{Verdict}
use Rattle.report_check.specs.declared.verdict.Verdict.TheVariants as verdicts
use Rattle.report_check.specs.declared.verdict.Verdict.TheVariants.{Sound}
use Rattle.report_check.specs.Cuts.{input_part, report_part}
use Rattle.report_check.specs.Inputs.{network_of, plan_for}
use Rattle.report_check.specs.Verdicts.{verdict_of}
use Rattle.report_check.specs.VerdictText.{verdict_line_of}
use Rattle.word_line.specs.declared.command.Command.{Command}
use Rattle.word_line.specs.declared.command.Command.TheVariants.{Cover, Replay, Census, Costs, Stretch, Check, Run, Make, Trial, ToJson, FromJson, ReplayJson, MeanCover, MeanReplay, MeanStretch}
use Rattle.track.specs.declared.status.Status.{Status}
use Rattle.track.specs.declared.status.Status.TheVariants.{Done, Refused, Unsound}

-- the plan of an input's network over mean covers, with its k
abbrev pub mean_plan_for : Contents → PlanData
mean_plan_for contents = mean_plan (network_of contents) contents.k

-- the setting of a plan, in which an input's subscribers start at their nodes
abbrev pub plan_setting : PlanData → Contents → Setting
plan_setting plan contents = setting_of plan contents.homes

-- the history of an input's calls under its order, over a plan
abbrev pub history_over : PlanData → Contents → History
history_over plan contents =
    history_of (plan_setting plan contents) (scripts_of contents) contents.order

-- what becomes of an input's calls under its order, over a plan
abbrev pub outcome_over : PlanData → Contents → Outcome
outcome_over plan contents =
    outcome_of (plan_setting plan contents) (scripts_of contents) contents.order

-- the same over the plan of the input's network
abbrev pub setting_for : Contents → Setting
setting_for contents = plan_setting (plan_for contents) contents

-- its history
abbrev pub history_for : Contents → History
history_for contents = history_over (plan_for contents) contents

-- and its outcome
abbrev pub outcome_for : Contents → Outcome
outcome_for contents = outcome_over (plan_for contents) contents

-- the text is the report of what becomes of an input's calls under its order, over this plan
pub record IsReportOver (plan : PlanData) (contents : Contents) (text : List ℕ) : Type 0 where
  pub text_is : text ≡ report_of (outcome_over plan contents)
  -- an answer names where its subscriber stood at the find's last visit, and a find that is to be
  -- made again had a visit of a move of its subscriber within it
  pub right : All (IsRightLine (plan_setting plan contents) (history_over plan contents))
      (outcome_over plan contents).calls
  -- of two answers about one subscriber, the one with the later last visit tells no lower number;
  -- and of a caller's finds, whether they answer or not, a later one begins behind the last visit
  -- of an earlier one, so that along its finds of a subscriber the numbers never fall
  pub rising : TellRisingNumbers (outcome_over plan contents).calls
  pub in_turn : TellInTurn (outcome_over plan contents).calls
  -- a quiet find has its answer, and its weight is within the plan's bound: the stretch times the
  -- distance, and twice an open passage
  pub near : All (IsLineWithin (bound_of plan) (plan_setting plan contents)
      (history_over plan contents)) (outcome_over plan contents).calls
  -- every find, whatever it answers and whatever moves fall within it, weighs at most the plan's
  -- bound on its distance, at any of its visits, with what the moves committed within it had
  -- gathered, and on the passage that was open before it
  pub priced : All (IsLinePriced (bound_of plan) (plan_setting plan contents)
      (history_over plan contents)) (outcome_over plan contents).calls

-- the verdict on a report of an input, over the plan of its network
abbrev pub verdict_for : Contents → List ℕ → Verdict
verdict_for contents report = verdict_of (plan_for contents) contents report

-- the text is the report over the plan of the input's network, and the checker of reports finds no
-- flaw in it
pub record IsReport (contents : Contents) (text : List ℕ) : Type 0 where
  pub over : IsReportOver (plan_for contents) contents text
  pub sound : verdict_for contents text ≡ Sound

-- the text is that of the plan of the input's network: a matched plan that bounds the weight of its
-- finds, in which no node reads more clusters of a level than n and k allow
pub record IsPlanText (contents : Contents) (text : List ℕ) : Type 0 where
  pub text_is : text ≡ plan_text_of (plan_for contents)
  pub bounding : BoundsFinds (plan_for contents)
  pub sparse : HasFewReaders (plan_for contents)

-- the text is that of the plan over mean covers: a matched plan whose clusters are within 2 k + 1
-- radii of their leaders, and whose sizes at a level are small in the sum
pub record IsMeanPlanText (contents : Contents) (text : List ℕ) : Type 0 where
  pub text_is : text ≡ plan_text_of (mean_plan_for contents)
  pub reach_is : (mean_plan_for contents).reach ≡ 2 * contents.k + 1
  pub bounding : BoundsFinds (mean_plan_for contents)
  pub small_sum : HasSmallSum (mean_plan_for contents)

-- the text tells as JSON what becomes of an input's calls under its order, and what a report tells
-- of them holds: its answers are right, and near
pub record IsReportJson (contents : Contents) (text : List ℕ) : Type 0 where
  pub text_is : text ≡ report_json_of (outcome_for contents)
  pub report : IsReport contents (report_of (outcome_for contents))

-- an input with this order in place of its own
abbrev pub in_order : Contents → List ℕ → Contents
in_order contents order = record contents { order = order }

-- the text is the report of what becomes of an input's calls under some order, which it prints
-- whole
pub record IsRunReport (contents : Contents) (text : List ℕ) : Type 0 where
  pub order : List ℕ
  pub report : IsReport (in_order contents order) text
  pub printed : (outcome_for (in_order contents order)).order ≡ order
  -- the checker finds no flaw in it for the input itself, whose own order it doesn't read
  pub sound : verdict_for contents text ≡ Sound

-- the text is the census of an input: at each node it lists whom the directory's census lists at
-- the end of the input's calls under its order
pub record IsCensusText (contents : Contents) (text : List ℕ) : Type 0 where
  pub text_is : text
      ≡ census_text_of (census (setting_for contents) (history_for contents)) contents.nodes
  -- these are the subscribers whose scripts leave them at the node, and on, whatever the order
  pub by_scripts : (node : ℕ) → node < contents.nodes
      → census (setting_for contents) (history_for contents) node
      ≡ who_ends_at contents.homes (scripts_of contents) node
  -- each subscriber is listed just where it stands then, if it is on
  pub right : (sub node : ℕ) → sub < length contents.homes → node < contents.nodes
      → IsCounted (setting_for contents) (history_for contents) sub node

-- the text tells what the moves of each subscriber of an input cost, over the plan of its network
pub record IsCostText (contents : Contents) (text : List ℕ) : Type 0 where
  pub text_is : text ≡ costs_text_of (cost_lines (setting_for contents) (scripts_of contents))
  -- what a subscriber writes weighs at most (16 (2 k - 1) + 4) times the levels times the way that
  -- it goes, and it purges at most as many marks as it makes moves
  pub within : All (IsWithinRate (2 * contents.k - 1) (levels_of (plan_for contents)))
      (cost_lines (setting_for contents) (scripts_of contents))

-- a plan's own stretches, over an input
abbrev pub stretches_over : PlanData → Contents → OwnStretches
stretches_over plan contents = record {
  own = own_stretch_of (plan_setting plan contents);
  any = any_stretch_of (plan_setting plan contents);
}

-- the text tells how many times its distance a find over a plan may weigh: as the plan's text does,
-- and by the plan's own stretches, which bound what finds weigh
pub record IsStretchText (plan : PlanData) (contents : Contents) (text : List ℕ) : Type 0 where
  pub text_is : text ≡ stretch_text_of plan (stretches_over plan contents)
  pub bound : BoundWeights plan contents.homes (stretches_over plan contents).own
      (stretches_over plan contents).any

-- whether a command is served, with threads or without
abbrev pub is_served : Bool → Command → Bool
is_served threads Run = threads
is_served threads command = true

-- whether a command reads an input and nothing else, and makes of it always the same
abbrev pub is_made_alike : Command → Bool
is_made_alike Check = false
is_made_alike FromJson = false
is_made_alike Run = false
is_made_alike (Make load) = false
is_made_alike (Trial load) = false
is_made_alike command = true

-- the load of a command, if it has one, is within the limits
abbrev pub HasLoad : Command → Type 0
HasLoad (Make load) = IsLoad load
HasLoad (Trial load) = IsLoad load
HasLoad command = Unit {0}

-- the text of a command that reads nothing: the made input, or the summary of what becomes of its
-- calls under its order, over the plan of its network
abbrev pub text_alone : Command → Option (List ℕ)
text_alone (Make load) = Some (load_text_of load)
text_alone (Trial load) = Some (summary_of (outcome_for (load_contents load)))
text_alone command = None

-- what a command makes of an input; those that read nothing make nothing of one
abbrev pub IsResult : Command → Contents → List ℕ → Type 0
IsResult Cover contents text = IsPlanText contents text
IsResult Replay contents text = IsReport contents text
IsResult Census contents text = IsCensusText contents text
IsResult Costs contents text = IsCostText contents text
IsResult Stretch contents text = IsStretchText (plan_for contents) contents text
IsResult Check contents text = ⊥
IsResult ToJson contents text = text ≡ input_json_of contents
IsResult FromJson contents text = ⊥
IsResult ReplayJson contents text = IsReportJson contents text
IsResult MeanCover contents text = IsMeanPlanText contents text
IsResult MeanReplay contents text = IsReportOver (mean_plan_for contents) contents text
IsResult MeanStretch contents text = IsStretchText (mean_plan_for contents) contents text
IsResult Run contents text = IsRunReport contents text
IsResult (Make load) contents text = ⊥
IsResult (Trial load) contents text = ⊥

-- the text that answers what bytes say, and the status that goes with it
abbrev pub IsRightAnswer : Command → Result Contents InputFault → Status → List ℕ → Type 0
IsRightAnswer command (Ok contents) status text = (status ≡ Done) × IsResult command contents text
IsRightAnswer command (Err fault) status text =
    (status ≡ Refused) × (text ≡ refused_line_of fault)

-- the text that answers bytes that are refused, and the status that goes with it
abbrev pub IsRefused : ReadRefusal → Status → List ℕ → Type 0
IsRefused (refusals.Fault fault) status text = (status ≡ Refused) × (text ≡ refused_line_of fault)
IsRefused refusals.OutOfMemory status text = ⊥

-- the text of a command to which all bytes are an input, and the status that goes with it
pub record IsInputText (command : Command) (bytes : List ℕ) (status : Status)
    (text : List ℕ) : Type 0 where
  pub input : Result Contents InputFault
  pub says : IsInput bytes input
  pub answer : IsRightAnswer command input status text

-- the status that goes with a verdict
abbrev pub verdict_status : Verdict → Status
verdict_status Sound = Done
verdict_status (verdicts.Unsound line cause) = Unsound

-- the text that answers a report of what an input part says, and the status that goes with it
abbrev pub IsRightVerdict : List ℕ → Result Contents InputFault → Status → List ℕ → Type 0
IsRightVerdict report (Ok contents) status text =
    (status ≡ verdict_status (verdict_for contents report))
    × (text ≡ verdict_line_of (verdict_for contents report))
IsRightVerdict report (Err fault) status text =
    (status ≡ Refused) × (text ≡ refused_line_of fault)

-- the text that answers an input part and a report, and the status that goes with it
pub record IsJudged (part report : List ℕ) (status : Status) (text : List ℕ) : Type 0 where
  pub input : Result Contents InputFault
  pub says : IsInput part input
  pub answer : IsRightVerdict report input status text

-- the text that answers a made text by what it says, and the status that goes with it
abbrev pub IsMade : List ℕ → Result Contents InputFault → Status → List ℕ → Type 0
IsMade made (Ok contents) status text = (status ≡ Done) × (text ≡ made)
IsMade made (Err fault) status text = (status ≡ Refused) × (text ≡ refused_line_of fault)

-- a made text is the answer where it says an input, else the line that refuses it
pub record IsMadeBy (made : List ℕ) (status : Status) (text : List ℕ) : Type 0 where
  pub input : Result Contents InputFault
  pub says : IsInput made input
  pub answer : IsMade made input status text

-- the bytes are the JSON of a listing, whose text answers
pub record IsRemade (bytes : List ℕ) (status : Status) (text : List ℕ) : Type 0 where
  pub listing : ListingValue
  pub listed : IsListed bytes listing
  pub made : IsMadeBy (listing_text listing) status text

-- the line that refuses bytes that are no JSON, or JSON without the shape of an input
abbrev pub no_json_line : List ℕ
no_json_line = codes "refused 0 json" ++ 10 ∷ []

-- the same
abbrev pub no_shape_line : List ℕ
no_shape_line = codes "refused 0 shape" ++ 10 ∷ []

-- the text that answers bytes that should be JSON, and the status that goes with it
abbrev pub IsJsonAnswer : List ℕ → Status → List ℕ → Type 0
IsJsonAnswer bytes status text =
    IsRemade bytes status text
    ⊎ ((IsShapeless bytes × (status ≡ Refused) × (text ≡ no_shape_line))
    ⊎ (IsNoJson bytes × (status ≡ Refused) × (text ≡ no_json_line)))

-- the bytes are the JSON of a listing whose text says this input
pub record SaysByJson (bytes : List ℕ) (contents : Contents) : Type 0 where
  pub listing : ListingValue
  pub listed : IsListed bytes listing
  pub says : IsInput (listing_text listing) (Ok contents)

-- the text of a command over these bytes, and the status that goes with it
abbrev pub IsText : Command → List ℕ → Status → List ℕ → Type 0
IsText Check bytes status text = IsJudged (input_part bytes) (report_part bytes) status text
IsText FromJson bytes status text = IsJsonAnswer bytes status text
IsText command bytes status text = IsInputText command bytes status text

-- the bytes say this input to a command
abbrev pub SaysInput : Command → List ℕ → Contents → Type 0
SaysInput Check bytes contents = IsInput (input_part bytes) (Ok contents)
SaysInput FromJson bytes contents = SaysByJson bytes contents
SaysInput command bytes contents = IsInput bytes (Ok contents)

-- the status that goes with the whole text, where the bytes say an input to a command
abbrev pub whole_status : Command → List ℕ → Contents → Status
whole_status Check bytes contents = verdict_status (verdict_for contents (report_part bytes))
whole_status command bytes contents = Done
