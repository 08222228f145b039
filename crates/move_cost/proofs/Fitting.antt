-- What fits a plan: it is read back from its word, and its weight is small.
use Rattle.std.proofs.Common.{◌≡◌, ℕ, zero, suc, ◌+◌, ◌*◌, ◌^◌, ◌<◌, ◌≤◌, Bool, true, false, cond, List, [], ◌∷◌, ◌++◌, length, map, refl, sym, ap, subst, arith}
use Rattle.std.specs.Prelude.{◌==◌, ◌&&◌, All, nat_le, not, None, Option, Some, unwrap_or}
use Rattle.std.proofs.Math.Nat.{mul-le-mul_left, mul-le-mul_right, pow-le-pow_right}
use Rattle.std.proofs.lemmas.List.Elements.{All-append, All-cons, All-map, All-nil}
use Rattle.node_set.specs.Ascending.{has, sift}
use Rattle.entry_word.specs.Addresses.{EntriesUnpack, IsSmallAddress, address_in, address_word}
use Rattle.entry_word.specs.MarkLaws.{read-mark}
use Rattle.entry_word.specs.Marks.{IsSmallMark, MarksUnpack}
use Rattle.entry_word.specs.declared.address.Address.{Address}
use Rattle.entry_word.specs.declared.mark.PresenceMark.{PresenceMark}
use Rattle.entry_word.specs.declared.mark.PresenceMark.TheVariants.{Empty, Here, Gone, Coming, Off}
use Rattle.directory.specs.Settings.{Setting}
use Rattle.directory.specs.Courses.{Course, MayStep, Move, Step, address_node, gathered_weight, last_stop, move_to, next_move, switch_off, switch_on}
use Rattle.directory.specs.StepLaws.{highest-low}
use Rattle.directory.specs.Writes.{Write, entry_at, erasure_writes, mark_at, new_address, numbers_from, old_home, purge_writes, step_writes, trail, visit_of}
use Rattle.region_plan.specs.Kept.{IsKept}
use Rattle.region_plan.specs.Matched.{IsMatched, IsWithinReach}
use Rattle.region_plan.specs.Plan.{PlanData, clusters_of, inside, levels_of, members_of, nodes_of}
use Rattle.region_plan.specs.Settings.{setting_of}
use Rattle.move_cost.specs.Costs.{erased_levels, is_purge, says_nothing, write_weight}
use Rattle.move_cost.specs.Counting.{IsFit, IsFitAct, IsFitEntry, IsFitMark, act_purges, act_weight}

-- what fits is small enough for its word
small-mark : (plan : PlanData) (mark : PresenceMark) → nodes_of plan ≤ 2 ^ 16 → IsFitMark plan mark
    → IsSmallMark mark
small-mark plan Empty few fit = tt
small-mark plan (Here number) few fit = fit
small-mark plan (Gone number to) few fit = (fit.0, omega (arith, fit.1, few))
small-mark plan (Coming number from) few fit = (fit.0, omega (arith, fit.1, few))
small-mark plan (Off number) few fit = fit

small-entry : (plan : PlanData) (level cluster : ℕ) (address : Option Address) → nodes_of plan ≤ 2 ^ 16
    → IsFitEntry plan level cluster address → IsSmallAddress address
small-entry plan level cluster None few fit = tt
small-entry plan level cluster (Some address) few fit = (fit.0, omega (arith, fit.1, few))

-- so a write that fits is read back from its put
module _ (marks : MarksUnpack) (entries : EntriesUnpack) (plan : PlanData) (few : nodes_of plan ≤ 2 ^ 16) where
  read-entry : (level cluster : ℕ) (address : Option Address) → IsFitEntry plan level cluster address
      → address_in (address_word address) ≡ address
  read-entry level cluster address fit =
      ap (λ o. unwrap_or o None) (entries address (small-entry plan level cluster address few fit))

  pub fit-act : (sub : ℕ) (write : Write) → IsFit plan write → IsFitAct plan (visit_of sub write).act
  fit-act sub (mark_at place mark) fit =
      (fit.0, subst (IsFitMark plan) (sym (read-mark marks mark (small-mark plan mark few fit.1))) fit.1)
  fit-act sub (entry_at level cluster address) fit = grind (arith, read-entry)

  pub weight-act : (setting : Setting) (node sub : ℕ) (write : Write) → IsFit plan write
      → act_weight setting node (visit_of sub write).act ≡ write_weight setting node write
  weight-act setting node sub (mark_at place mark) fit =
      ap (λ m. write_weight setting node (mark_at place m)) (read-mark marks mark (small-mark plan mark few fit.1))
  weight-act setting node sub (entry_at level cluster address) fit =
      ap (λ a. write_weight setting node (entry_at level cluster a)) (read-entry level cluster address fit.2)

  pub purge-act : (sub : ℕ) (write : Write) → IsFit plan write
      → act_purges (visit_of sub write).act ≡ is_purge write
  purge-act sub (mark_at place mark) fit = ap says_nothing (read-mark marks mark (small-mark plan mark few fit.1))
  purge-act sub (entry_at level cluster address) fit = refl

-- the weights inside clusters are small
pub inside-small : {plan : PlanData} (i c v : ℕ) → IsKept plan → IsWithinReach plan → i < levels_of plan
    → c < clusters_of plan i → has v (members_of plan i c) ≡ true → inside plan i c v ≤ 17 * 2 ^ 30
inside-small {plan} i c v kept reached low cluster member =
    grind (arith, pow-le-pow_right, mul-le-mul_left, mul-le-mul_right)

-- what holds of all numbers of a range holds of those that pass a test
pub all-sifted : (P : ℕ → Type 0) (test : ℕ → Bool) (first k : ℕ)
    → ((i : ℕ) → first ≤ i → i < first + k → P i) → All P (sift test first k)
all-sifted P test first zero each = All-nil P
all-sifted P test first (suc k) each =
    at_test (test first) (all-sifted P test (suc first) k (λ i low high. each i (omega arith) (omega arith)))
  where
    at_test : (b : Bool) → All P (sift test (suc first) k)
        → All P (cond b (first ∷ sift test (suc first) k) (sift test (suc first) k))
    at_test true later =
        All-cons P first (sift test (suc first) k) (each first (omega arith) (omega arith)) later
    at_test false later = later

-- the writes of a step that may come fit the plan
module _ (plan : PlanData) (starts : List ℕ) (course : Course) (matched : IsMatched plan)
    (here : last_stop course < nodes_of plan)
    (placed : (i : ℕ) → i < levels_of plan → address_node course i < nodes_of plan)
    (few : length course.moves < 2 ^ 32) where
  abbrev setting : Setting
  setting = setting_of plan starts

  fit-move : (node : ℕ) → MayStep setting course (move_to node)
      → All (IsFit plan) (step_writes setting course (move_to node))
  fit-move node may =
      let P : Write → Type 0 = IsFit plan in
      let move : Move = next_move setting course node in
      let low : move.renewed < levels_of plan = omega (
        arith,
        highest-low (λ level. nat_le (setting.threshold level)
            (gathered_weight course level + setting.distance (last_stop course) node)) setting.top,
        matched.some,
      ) in
      let new : List Write = map (new_address setting move) (numbers_from 0 (suc move.renewed)) in
      let late : List Write = erasure_writes setting course move ++ purge_writes setting course move in
      let commit : Write = mark_at (last_stop course) (Gone move.number node) in
      let confirm : Write = mark_at node (Here move.number) in
      All-cons P (mark_at node (Coming move.number (last_stop course))) (new ++ commit ∷ confirm ∷ late)
      (may.inside, (may.few, here))
      (All-append P new (commit ∷ confirm ∷ late)
      (All-map P (new_address setting move) (numbers_from 0 (suc move.renewed))
      (all-sifted (λ i. P (new_address setting move i)) (λ p. true) 0 (suc move.renewed) (λ i from to. (
        omega (arith, low),
        matched.homes i node (omega (arith, low)) may.inside,
        (may.few, may.inside, matched.held i node (omega (arith, low)) may.inside),
      ))))
      (All-cons P commit (confirm ∷ late) (here, (may.few, may.inside))
      (All-cons P confirm late (may.inside, may.few)
      (All-append P (erasure_writes setting course move) (purge_writes setting course move)
      (All-map P (λ level. entry_at level (old_home setting course level) None) (erased_levels setting course move)
      (all-sifted (λ i. P (entry_at i (old_home setting course i) None))
      (λ level. not (old_home setting course level == setting.home level node)) 0 (suc move.renewed) (λ i from to. (
        omega (arith, low),
        matched.homes i (address_node course i) (omega (arith, low)) (placed i (omega (arith, low))),
        tt,
      ))))
      (at_test (move.renewed == setting.top) (λ n. has n (trail setting course move) && not (n == node)))))))
    where
      at_test : (b : Bool) (test : ℕ → Bool)
          → All (IsFit plan) (cond b (map (λ n. mark_at n Empty) (sift test 0 setting.nodes)) [])
      at_test true test = All-map (IsFit plan) (λ n. mark_at n Empty) (sift test 0 setting.nodes)
          (all-sifted (λ n. IsFit plan (mark_at n Empty)) test 0 setting.nodes
          (λ n low high. (omega (arith, high), tt)))
      at_test false test = All-nil (IsFit plan)

  pub fit-step : (step : Step) → MayStep setting course step → All (IsFit plan) (step_writes setting course step)
  fit-step (move_to node) may = fit-move node may
  fit-step switch_off may = All-cons (IsFit plan) _ [] (here, few) (All-nil (IsFit plan))
  fit-step switch_on may = All-cons (IsFit plan) _ [] (here, few) (All-nil (IsFit plan))
