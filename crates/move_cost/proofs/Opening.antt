-- Where a subscriber's count begins and ends; and the lines of all subscribers.
use Rattle.std.proofs.Common.{◌≡◌, All, ℕ, ◌+◌, ◌*◌, ◌<◌, ◌≤◌, List, [], ◌∷◌, ◌++◌, length, map, get_or, refl, sym, ap, ◌∙◌, subst, arith, true, Vec, Global}
use Rattle.std.proofs.lemmas.List.{get_or-map, length-map, take_all}
use Rattle.std.proofs.lemmas.List.Elements.{All-map}
use Rattle.node_set.specs.SetLaws.{passing_takes}
use Rattle.directory.specs.Settings.{Setting, levels, subs}
use Rattle.directory.specs.Orders.{Scripts, steps_of}
use Rattle.directory.specs.Writes.{numbers_from, writes}
use Rattle.net_reader.specs.Input.{Contents}
use Rattle.net_reader.specs.Seen.{seen_input}
use Rattle.net_reader.specs.Valid.{IsValid}
use Rattle.net_reader.specs.declared.input.Input.{Input}
use Rattle.net_reader.specs.declared.said.Call.{Call}
use Rattle.region_plan.specs.Matched.{PlansBoundFinds}
use Rattle.region_plan.specs.Meanings.{PlansMean}
use Rattle.region_plan.specs.Regions.{plan_of}
use Rattle.region_plan.specs.Plan.{PlanData, levels_of}
use Rattle.region_plan.specs.Settings.{setting_of}
use Rattle.handset.specs.Beginning.{handset_at}
use Rattle.handset.specs.Condition.{GoesWith, HandsetData}
use Rattle.handset.specs.StepWrites.{due}
use Rattle.handset.specs.Stands.{StandsForSteps}
use Rattle.scripts.specs.Scripts.{scripts_of, step_of}
use Rattle.scripts.specs.ScriptLaws.{steps-are}
use Rattle.move_cost.specs.declared.line.CostLine.{CostLine}
use Rattle.move_cost.specs.Costs.{cost_line, cost_lines, moved, weight_of_steps}
use Rattle.move_cost.specs.Counting.{IsCounted}
use Rattle.move_cost.specs.Pace.{PurgedIsBounded, WrittenIsBounded}
use Rattle.move_cost.specs.Plans.{LinesAreWithinRate, NetworkLinesAreWithinRate, PlansArePaced}
use Rattle.move_cost.specs.Rate.{IsWithinRate, writing_rate}
use Rattle.move_cost.proofs.Fitting.{all-sifted}

-- a line of no moves
abbrev pub no_cost : ℕ → CostLine
no_cost sub = record { sub = sub; moves = 0; moved = 0; written = 0; purged = 0 }

pub opened : (input : Contents) {plan : PlanData} (sub home : ℕ) {handset : HandsetData}
    → handset ≡ handset_at plan sub home → GoesWith plan handset → StandsForSteps (setting_of plan input.homes) handset
    [] 0 → IsCounted input plan sub 0 handset (no_cost sub)
unfolding weight_of_steps writes
opened input {plan} sub home is goes stands = record {
  goes = goes;
  its = ap (λ h. h.sub) is;
  rests = ap (λ h. due (setting_of plan []) h) is;
  stands = stands;
  told = refl;
  small = record { moves = omega arith; moved = omega arith; written = omega arith; purged = omega arith };
}

-- a script has as many steps as calls
pub script-length : (input : Input) (sub : ℕ) {held : Vec Call Global} → IsValid (seen_input input)
    → sub < length input.homes.items → held ≡ get_or input.scripts.items sub held
    → length (steps_of (scripts_of (seen_input input)) sub) ≡ length held.items
script-length input sub {held} valid low reads =
    let known : sub < length input.scripts.items =
    omega (arith, low, valid.scripts, length-map input.scripts.items (λ (s : Vec Call Global). s.items)) in
    let script : held.items ≡ get_or (seen_input input).scripts sub [] =
    grind (arith, get_or-map) in
    ap length (steps-are (seen_input input) sub valid low)
    ∙ (length-map (get_or (seen_input input).scripts sub []) step_of ∙ ap length (sym script))

-- at its end a line says what all steps cost
pub closed : {input : Contents} {plan : PlanData} {sub count : ℕ} {handset : HandsetData} {line : CostLine}
    → IsCounted input plan sub count handset line → length (steps_of (scripts_of input) sub) ≤ count
    → line ≡ cost_line (setting_of plan input.homes) sub (steps_of (scripts_of input) sub)
closed {input} {plan} {sub} {count} its all =
    grind (arith, take_all)

-- the lines of the first subscribers
abbrev pub first_lines : Setting → Scripts → ℕ → List CostLine
first_lines setting scripts count = map (λ sub. cost_line setting sub (steps_of scripts sub)) (numbers_from 0 count)

map-push : {A B : Type 0} (f : A → B) (xs : List A) (x : A) → map f (xs ++ x ∷ []) ≡ map f xs ++ f x ∷ []
map-push f [] x = refl
map-push f (y ∷ xs) x = ap (λ zs. f y ∷ zs) (map-push f xs x)

pub line-pushed : (setting : Setting) (scripts : Scripts) (sub : ℕ) {before after : List CostLine} {line : CostLine}
    → before ≡ first_lines setting scripts sub → line ≡ cost_line setting sub (steps_of scripts sub)
    → after ≡ before ++ line ∷ [] → after ≡ first_lines setting scripts (sub + 1)
line-pushed setting scripts sub {line} is told more =
    grind (arith, map-push, passing_takes)

-- all lines are within the rate
pub lines-bounded : PlansArePaced → WrittenIsBounded → PurgedIsBounded → LinesAreWithinRate
lines-bounded paced writing purging plan starts scripts bounds valid =
    let setting : Setting = setting_of plan starts in
    let count : levels setting ≡ levels_of plan = omega (arith, bounds.matched.some) in
    let P : CostLine → Type 0 = IsWithinRate plan.reach (levels_of plan) in
    All-map P (λ sub. cost_line setting sub (steps_of scripts sub)) (numbers_from 0 (subs setting))
    (all-sifted (λ sub. P (cost_line setting sub (steps_of scripts sub))) (λ p. true) 0 (subs setting)
    (λ sub from low. record {
      written = subst (λ n. (cost_line setting sub (steps_of scripts sub)).written
          ≤ writing_rate plan.reach n * moved setting sub (steps_of scripts sub)) count
          (writing setting plan.reach sub (steps_of scripts sub) (paced plan starts bounds)
          (valid.steps sub (omega (arith, low))));
      purged = purging setting sub (steps_of scripts sub);
    }))

pub network-bounded : PlansBoundFinds → PlansMean → LinesAreWithinRate → NetworkLinesAreWithinRate
network-bounded bounding means lines network k starts scripts sound some valid =
    subst (λ width. All (IsWithinRate width (levels_of (plan_of network k)))
    (cost_lines (setting_of (plan_of network k) starts) scripts)) (means network k sound some).reach
    (lines (plan_of network k) starts scripts (bounding network k sound some) valid)
