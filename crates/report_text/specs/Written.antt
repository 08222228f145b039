-- What the code keeps of the lines of a report, and of the text of a plan, that are still to be
-- written. Key laws: `Lines::next_line` (its line is the first of those that are left) and
-- `PlanParts::advance`, by its clause `part` (so it is of the parts of a plan's text).
use Rattle.std.specs.Prelude.{◌≡◌, ℕ, ◌+◌, ◌<◌, ◌≤◌, Bool, true, IfSome, vec_capacity, List, [], ◌∷◌, ◌++◌, map, length, drop, if◌then◌else◌, codes}
use Rattle.directory.specs.declared.answers.Done.{Done}
use Rattle.directory.specs.declared.answers.Found.{Found}
use Rattle.directory.specs.declared.answers.Found.TheVariants.{At, Off, Again}
use Rattle.region_plan.specs.Plan.{PlanData, clusters_of, level_at, levels_of, members_of, nodes_of}
use Rattle.report_text.specs.PlanText.{clusters_text, homes_line, levels_text, plan_text_of}
use Rattle.report_text.specs.ReportText.{call_line, last_line}
use Rattle.text_line.specs.OrderLines.{order_lines}
use Rattle.outside.specs.Texts.{◌then◌, fields}
use Rattle.report_text.specs.declared.kept.KeptBody.{KeptBody}
use Rattle.report_text.specs.declared.plan.NextPart.{NextPart}
use Rattle.report_text.specs.declared.plan.NextPart.TheVariants as parts

-- the lines of these calls and of these tickets, and the last one where it isn't written yet
abbrev pub lines_left : List Done → List ℕ → ℕ → Bool → List (List ℕ)
lines_left calls order visits ended =
    map call_line calls ++ order_lines order ++ (if ended then [] else last_line visits ∷ [])

-- the word that begins the line of a find
abbrev pub word_of : Found → List ℕ
word_of (At node number level weight) = codes "find"
word_of (Off node number level weight) = codes "off"
word_of (Again why weight) = codes "again"

-- the lines of a report: the one that was made last, and those that are left
pub record ReportState : Type 0 where
  pub line : List ℕ
  pub left : List (List ℕ)

-- what follows from a level on
abbrev pub levels_left : PlanData → ℕ → List ℕ
levels_left plan i = levels_text i (drop i plan.levels) then codes "end" then 10 ∷ []

-- what follows from a cluster of a level on
abbrev pub clusters_left : PlanData → ℕ → ℕ → List ℕ
clusters_left plan i c =
    clusters_text c (drop c (level_at plan i).clusters)
    then homes_line (level_at plan i) then levels_left plan (i + 1)

-- the text of a plan from a part on
abbrev pub plan_left : PlanData → NextPart → List ℕ
plan_left plan parts.Measures = plan_text_of plan
plan_left plan (parts.Level i) = levels_left plan i
plan_left plan (parts.Cluster i c) = clusters_left plan i c
plan_left plan (parts.Members i c from) =
    fields (drop from (members_of plan i c)) then 10 ∷ [] then clusters_left plan i (c + 1)
plan_left plan (parts.Homes i from) =
    fields (drop from (level_at plan i).homes) then 10 ∷ [] then levels_left plan (i + 1)
plan_left plan parts.Done = []

-- a part is one of the plan
abbrev pub IsInPlan : PlanData → NextPart → Type 0
IsInPlan plan parts.Measures = Unit {0}
IsInPlan plan (parts.Level i) = Unit {0}
IsInPlan plan (parts.Cluster i c) = i < levels_of plan
IsInPlan plan (parts.Members i c from) =
    (i < levels_of plan) × (c < clusters_of plan i) × (from ≤ length (members_of plan i c))
IsInPlan plan (parts.Homes i from) = (i < levels_of plan) × (from ≤ nodes_of plan)
IsInPlan plan parts.Done = Unit {0}

-- the text from a part on, before which the kept body may have to be written
abbrev pub text_left : PlanData → NextPart → KeptBody → List ℕ
text_left plan next kept =
    (if kept.waits then kept.body.items else []) ++ plan_left plan next

-- what is kept of the body of a level: with what stands behind it, it is the text from the body on
pub record KeepsBody (plan : PlanData) (next : NextPart) (kept : KeptBody) : Type 0 where
  pub room : 65536 ≤ vec_capacity kept.body
  pub whole : IfSome kept.level
      (λ i. kept.body.items ++ plan_left plan next ≡ clusters_left plan i 0)
  pub some : kept.waits ≡ true → 0 < length kept.body.items

-- what is written leads from a part to another, and to what is kept then
pub record IsStep (plan : PlanData) (before after : NextPart) (kept : KeptBody) (part : List ℕ)
    : Type 0 where
  pub text : plan_left plan before ≡ part ++ text_left plan after kept
  pub some : 0 < length part
  pub sound : IsInPlan plan after
  pub keeps : KeepsBody plan after kept

-- what is written leads from one part to another
pub record IsPart (plan : PlanData) (before after : NextPart) (part : List ℕ) : Type 0 where
  pub text : plan_left plan before ≡ part ++ plan_left plan after
  pub some : 0 < length part
  pub sound : IsInPlan plan after

-- the text of a plan: the part that was made last, and what is left
pub record PartsState : Type 0 where
  pub part : List ℕ
  pub left : List ℕ
