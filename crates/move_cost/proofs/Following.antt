-- A step that is made write by write: what is left falls, and the line grows by it.
use Rattle.std.proofs.Common.{◌≡◌, ℕ, zero, suc, ◌+◌, ◌*◌, ◌^◌, ◌<◌, ◌≤◌, Bool, true, false, cond, List, [], ◌∷◌, length, map, drop, refl, sym, ap, ◌∙◌, subst, arith}
use Rattle.std.specs.Prelude.{All, None, Some, count_by, slice_get, sum_by}
use Rattle.std.proofs.lemmas.List.{length-map}
use Rattle.std.proofs.lemmas.List.Elements.{All-head, All-tail}
use Rattle.std.proofs.lemmas.List.Sums.{sum_by-cons}
use Rattle.entry_word.specs.Addresses.{EntriesUnpack}
use Rattle.entry_word.specs.Marks.{MarksUnpack}
use Rattle.entry_word.specs.declared.visit.Visit.{Visit}
use Rattle.directory.specs.Courses.{Step}
use Rattle.directory.specs.Writes.{Write, visit_of, visits}
use Rattle.region_plan.specs.Plan.{PlanData, nodes_of}
use Rattle.region_plan.specs.Settings.{setting_of}
use Rattle.handset.specs.Condition.{HandsetData}
use Rattle.handset.specs.StepWrites.{left_at}
use Rattle.handset.specs.Stands.{StandsForSteps}
use Rattle.move_cost.specs.declared.line.CostLine.{CostLine}
use Rattle.move_cost.specs.Costs.{is_purge, write_weight}
use Rattle.move_cost.specs.Counting.{HasRoom, IsFit, IsFitAct, IsLeft, act_purges, act_weight, most_weight, with_writes}
use Rattle.move_cost.proofs.Fitting.{fit-act, purge-act, weight-act}

-- how many writes are left of a handset
abbrev pub count_left : PlanData → HandsetData → ℕ
count_left plan handset = length (left_at (setting_of plan []) handset handset.stage)

pub left-count : {plan : PlanData} {starts : List ℕ} {handset : HandsetData} {steps : List Step} {made : ℕ}
    {later : List Write} → IsLeft plan starts handset steps made later → length later ≡ count_left plan handset
left-count {plan} {starts} {handset} {later} its = grind (arith, length-map)

-- the write that comes next is the first that is left
record IsFirst (sub : ℕ) (visits : List Visit) (made : ℕ) (later : List Write) (visit : Visit) : Type 0 where
  pub write : Write
  pub rest : List Write
  pub are : later ≡ write ∷ rest
  pub same : visit ≡ visit_of sub write
  pub left : drop (suc made) visits ≡ map (visit_of sub) rest

first-is : (sub : ℕ) (visits : List Visit) (made : ℕ) (later : List Write) {visit : Visit}
    → drop made visits ≡ map (visit_of sub) later → slice_get visits made ≡ Some visit
    → IsFirst sub visits made later visit
first-is sub [] made later left here = cc
first-is sub (v ∷ vs) zero [] left here = cc
first-is sub (v ∷ vs) zero (write ∷ rest) {visit} left here =
    let first : v ≡ visit_of sub write = cc in
    let tails : vs ≡ map (visit_of sub) rest = cc in
    let it : v ≡ visit = cc in
    record { write = write; rest = rest; are = refl; same = sym it ∙ first; left = tails }
first-is sub (v ∷ vs) (suc made) later {visit} left here =
    let deep : IsFirst sub vs made later visit = first-is sub vs made later left here in
    record { write = deep.write; rest = deep.rest; are = deep.are; same = deep.same; left = deep.left }

none-left : (sub : ℕ) (visits : List Visit) (made : ℕ) (later : List Write)
    → drop made visits ≡ map (visit_of sub) later → slice_get visits made ≡ None → later ≡ []
none-left sub [] zero [] left none = refl
none-left sub [] (suc made) [] left none = refl
none-left sub [] zero (write ∷ rest) left none = cc
none-left sub [] (suc made) (write ∷ rest) left none = cc
none-left sub (v ∷ vs) zero later left none = cc
none-left sub (v ∷ vs) (suc made) later left none = none-left sub vs made later left none

-- what a handset that makes a write has left
pub record IsStep (plan : PlanData) (starts : List ℕ) (old new : HandsetData) (steps : List Step) (made : ℕ)
    (later : List Write) (visit : Visit) : Type 0 where
  pub write : Write
  pub rest : List Write
  pub are : later ≡ write ∷ rest
  pub same : visit ≡ visit_of old.sub write
  pub fit : IsFit plan write
  pub left : IsLeft plan starts new steps (suc made) rest

pub step-left : {plan : PlanData} {starts : List ℕ} {old : HandsetData} (new : HandsetData) {steps : List Step}
    {made : ℕ} {later : List Write} {visit : Visit} → IsLeft plan starts old steps made later
    → Some visit ≡ slice_get (visits (setting_of plan starts) old.sub steps) made → new.sub ≡ old.sub
    → StandsForSteps (setting_of plan starts) new steps (suc made) → IsStep plan starts old new steps made later visit
step-left {plan} {starts} {old} new {steps} {made} {later} {visit} its next same stands =
    let first : IsFirst old.sub (visits (setting_of plan starts) old.sub steps) made later visit =
    first-is old.sub (visits (setting_of plan starts) old.sub steps) made later its.left (sym next) in
    let fit : All (IsFit plan) (first.write ∷ first.rest) = subst (All (IsFit plan)) first.are its.fit in
    record {
      write = first.write;
      rest = first.rest;
      are = first.are;
      same = first.same;
      fit = All-head (IsFit plan) first.write first.rest fit;
      left = record {
        stands = stands;
        left = grind (arith, same);
        fit = All-tail (IsFit plan) first.write first.rest fit;
      };
    }

-- a line after one more write
abbrev pub with_cost : CostLine → ℕ → ℕ → CostLine
with_cost line weight purges =
    record line { written = line.written + weight; purged = line.purged + purges }

-- what a visit costs
pub record IsCost (plan : PlanData) (node : ℕ) (visit : Visit) (weight purges : ℕ) : Type 0 where
  pub weight_is : weight ≡ act_weight (setting_of plan []) node visit.act
  pub small : weight ≤ most_weight
  pub purges_is : purges ≡ cond (act_purges visit.act) 1 0

-- how far a handset is with the writes that were left of it
pub record IsFollowed (plan : PlanData) (starts : List ℕ) (node : ℕ) (steps : List Step) (made : ℕ)
    (later : List Write) (first : CostLine) (handset : HandsetData) (line : CostLine) : Type 0 where
  pub now : ℕ
  pub rest : List Write
  pub left : IsLeft plan starts handset steps now rest
  pub all : now + length rest ≡ made + length later
  pub told : with_writes (setting_of plan starts) node line rest
      ≡ with_writes (setting_of plan starts) node first later
  pub few : line.written + length rest * most_weight ≤ first.written + length later * most_weight

-- whatever steps it stands for
abbrev pub Follows : PlanData → ℕ → HandsetData → CostLine → HandsetData → CostLine → Type 0
Follows plan node old first handset line =
    (starts : List ℕ) (steps : List Step) (made : ℕ) (later : List Write)
    → IsLeft plan starts old steps made later
    → IsFollowed plan starts node steps made later first handset line

-- what the calls say of the next write
pub record Makes (plan : PlanData) (old new : HandsetData) (visit : Visit) : Type 0 where
  pub next : (starts : List ℕ) (steps : List Step) (made : ℕ)
      → StandsForSteps (setting_of plan starts) old steps made
      → Some visit ≡ slice_get (visits (setting_of plan starts) old.sub steps) made
  pub same : new.sub ≡ old.sub
  pub stands : (starts : List ℕ) (steps : List Step) (made : ℕ)
      → StandsForSteps (setting_of plan starts) old steps made
      → StandsForSteps (setting_of plan starts) new steps (suc made)

module _ (marks : MarksUnpack) (entries : EntriesUnpack) (plan : PlanData) (few : nodes_of plan ≤ 2 ^ 16) where
  -- one write more is told
  told-on : (starts : List ℕ) (node sub : ℕ) (line : CostLine) (visit : Visit) (w p : ℕ) (write : Write)
      (rest : List Write) → IsCost plan node visit w p → visit ≡ visit_of sub write → IsFit plan write
      → with_writes (setting_of plan starts) node (with_cost line w p) rest
      ≡ with_writes (setting_of plan starts) node line (write ∷ rest)
  told-on starts node sub line visit w p write rest cost same fit =
      let weight : act_weight (setting_of plan []) node visit.act ≡ write_weight (setting_of plan starts) node write =
      grind (arith, same, weight-act, few, write, fit) in
      let purge : act_purges visit.act ≡ is_purge write =
      ap (λ (v : Visit). act_purges v.act) same ∙ purge-act marks entries plan few sub write fit in
      let one : ◌≡◌ {A = ℕ} (cond (act_purges visit.act) 1 0) (cond (is_purge write) 1 0) =
      ap {B = ℕ} (λ b. cond b 1 0) purge in
      let written : line.written + w
      + sum_by (write_weight (setting_of plan starts) node) rest
      ≡ line.written + sum_by (write_weight (setting_of plan starts) node) (write ∷ rest) =
      omega (arith, cost.weight_is, weight, sum_by-cons (write_weight (setting_of plan starts) node) write rest) in
      let purged : line.purged + p + count_by is_purge rest
      ≡ line.purged + count_by is_purge (write ∷ rest) =
      omega (
        arith,
        cost.purges_is,
        one,
        sum_by-cons (λ x. cond (is_purge x) 1 0) write rest,
      ) in
      grind (arith, write)

  pub follows-on : (node : ℕ) (old : HandsetData) (first : CostLine) (handset new : HandsetData) (line : CostLine)
      (visit : Visit) (w p : ℕ) → Makes plan handset new visit → IsCost plan node visit w p
      → Follows plan node old first handset line
      → Follows plan node old first new (with_cost line w p)
  follows-on node old first handset new line visit w p makes cost before starts steps made later its =
      let at : IsFollowed plan starts node steps made later first handset line = before starts steps made later its in
      let step : IsStep plan starts handset new steps at.now at.rest visit =
      step-left new at.left (makes.next starts steps at.now at.left.stands) makes.same
      (makes.stands starts steps at.now at.left.stands) in
      let count : length at.rest ≡ suc (length step.rest) = ap length step.are in
      let weights : length at.rest * most_weight ≡ most_weight + length step.rest * most_weight =
      ap (λ n. n * most_weight) count ∙ omega arith in
      record {
        now = suc at.now;
        rest = step.rest;
        left = step.left;
        all = omega (arith, at.all, count);
        told = told-on starts node handset.sub line visit w p step.write step.rest cost step.same step.fit
            ∙ (ap (with_writes (setting_of plan starts) node line) (sym step.are) ∙ at.told);
        few = omega (arith, at.few, weights, cost.small);
      }

  pub room-on : (node : ℕ) (handset new : HandsetData) (line : CostLine) (visit : Visit) (w p : ℕ)
      → Makes plan handset new visit → IsCost plan node visit w p
      → HasRoom plan handset line → HasRoom plan new (with_cost line w p)
  room-on node handset new line visit w p makes cost room =
      let step : IsStep plan room.starts handset new room.steps room.made room.later visit =
      step-left new room.left (makes.next room.starts room.steps room.made room.left.stands) makes.same
      (makes.stands room.starts room.steps room.made room.left.stands) in
      let count : length room.later ≡ suc (length step.rest) = ap length step.are in
      let weights : length room.later * most_weight ≡ most_weight + length step.rest * most_weight =
      ap (λ n. n * most_weight) count ∙ omega arith in
      record {
        starts = room.starts;
        steps = room.steps;
        made = suc room.made;
        later = step.rest;
        left = step.left;
        written = omega (arith, room.written, weights, cost.small);
        purged = omega (arith, room.purged, count, cost.purges_is, one (act_purges visit.act));
      }
    where
      one : (b : Bool) → cond b 1 0 ≤ 1
      one true = omega arith
      one false = omega arith

  -- fewer writes are left then
  pub left-falls : (handset new : HandsetData) (line : CostLine) (visit : Visit) → Makes plan handset new visit
      → HasRoom plan handset line → count_left plan new < count_left plan handset
  left-falls handset new line visit makes room =
      let step : IsStep plan room.starts handset new room.steps room.made room.later visit =
      step-left new room.left (makes.next room.starts room.steps room.made room.left.stands) makes.same
      (makes.stands room.starts room.steps room.made room.left.stands) in
      omega (
        arith,
        ap length step.are,
        left-count room.left,
        left-count step.left,
      )

  -- the write that comes next fits, and there is room for it
  pub next-fits : (node : ℕ) (handset : HandsetData) (line : CostLine) (visit : Visit)
      → ((starts : List ℕ) (steps : List Step) (made : ℕ)
      → StandsForSteps (setting_of plan starts) handset steps made
      → Some visit ≡ slice_get (visits (setting_of plan starts) handset.sub steps) made)
      → HasRoom plan handset line
      → IsFitAct plan visit.act
      × (line.written + most_weight < 2 ^ 64) × (line.purged + 1 < 2 ^ 64)
  next-fits node handset line visit next room =
      let first : IsFirst handset.sub (visits (setting_of plan room.starts) handset.sub room.steps) room.made room.later
      visit =
      grind (arith, first-is, next) in
      let count : length room.later ≡ suc (length first.rest) = ap length first.are in
      let weights : length room.later * most_weight ≡ most_weight + length first.rest * most_weight =
      ap (λ n. n * most_weight) count ∙ omega arith in (
        subst (λ (v : Visit). IsFitAct plan v.act) (sym first.same)
            (fit-act marks entries plan few handset.sub first.write
            (All-head (IsFit plan) first.write first.rest (subst (All (IsFit plan)) first.are room.left.fit))),
        omega (arith, room.written, weights),
        omega (arith, room.purged, count),
      )

-- a step is done where nothing comes next
pub record IsFinished (plan : PlanData) (starts : List ℕ) (node : ℕ) (steps : List Step) (made : ℕ)
    (later : List Write) (first : CostLine) (handset : HandsetData) (line : CostLine) : Type 0 where
  pub stands : StandsForSteps (setting_of plan starts) handset steps (made + length later)
  pub told : line ≡ with_writes (setting_of plan starts) node first later
  pub few : line.written ≤ first.written + length later * most_weight

pub finished : {plan : PlanData} {starts : List ℕ} {node : ℕ} {steps : List Step} {made : ℕ} {later : List Write}
    {old : HandsetData} {first : CostLine} {handset : HandsetData} {line : CostLine}
    → Follows plan node old first handset line → IsLeft plan starts old steps made later
    → ((now : ℕ) → StandsForSteps (setting_of plan starts) handset steps now
    → None ≡ slice_get (visits (setting_of plan starts) handset.sub steps) now)
    → IsFinished plan starts node steps made later first handset line
finished {plan} {starts} {node} {steps} {made} {later} {first} {handset} {line} follows its none =
    let at : IsFollowed plan starts node steps made later first handset line = follows starts steps made later its in
    let over : at.rest ≡ [] =
    grind (arith, none-left) in
    let now : at.now ≡ made + length later = omega (arith, at.all, ap length over) in
    let written : line.written ≡ line.written + 0 = omega arith in
    let purged : line.purged ≡ line.purged + 0 = omega arith in
    record {
      stands = subst (StandsForSteps (setting_of plan starts) handset steps) now at.left.stands;
      told = grind arith;
      few = omega (arith, at.few);
    }
