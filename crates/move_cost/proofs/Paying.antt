-- Moves are paid by what their levels gather: with all that the levels have still gathered counted at the rate, what
-- is written stays within the rate times the way.
use Rattle.std.proofs.Common.{◌≡◌, ◌⊎◌, inl, inr, ℕ, zero, suc, ◌+◌, ◌-◌, ◌*◌, ◌^◌, ◌<◌, ◌≤◌, Bool, true, false, cond, List, [], ◌∷◌, ◌++◌, refl, sym, ap, ◌∙◌, subst, arith}
use Rattle.std.specs.Prelude.{◌==◌, nat_le, not, sum_by}
use Rattle.std.proofs.Math.Nat.{mul-add, mul_assoc, add-mul, mul-le-mul_left, mul-le-mul_right}
use Rattle.std.proofs.lemmas.Bool.{le-leb, leb-true}
use Rattle.std.proofs.lemmas.Bool.Decides.{nat_tests}
use Rattle.std.proofs.lemmas.List.{append_assoc, append-nil}
use Rattle.std.proofs.lemmas.List.Sums.{fold-append, sum_by_push}
use Rattle.directory.specs.Settings.{Setting, levels, start}
use Rattle.directory.specs.Courses.{Course, MayMove, MayStep, MaySteps, Move, Step, address_node, after_step, after_steps, course_at, gathered_weight, highest, last_stop, move_to, next_move, switch_off, switch_on}
use Rattle.directory.specs.StepLaws.{highest-low, last_stop-moved}
use Rattle.directory.specs.Writes.{old_home}
use Rattle.move_cost.specs.Costs.{step_weight, weight_of_steps}
use Rattle.move_cost.specs.Pace.{IsPaced, MoveWeighs, WrittenIsBounded}
use Rattle.move_cost.specs.Rate.{writing_rate}
use Rattle.move_cost.proofs.Sums.{sum_from, sum-add, sum-le, sum-powers, sum-same, sum-sift, sum-split, sum-times}

-- what the levels of a move gathered pays for what it writes at them
levels-pay : (width weight last : ℕ) (gathered new old : ℕ → ℕ)
    → ((i : ℕ) → i ≤ last → new i ≤ 2 * (width * 2 ^ i))
    → ((i : ℕ) → i ≤ last → old i ≤ 2 * (gathered i + weight + width * 2 ^ i))
    → 2 ^ last ≤ 2 * (gathered last + weight)
    → sum_from new 0 (suc last) + sum_from old 0 (suc last)
    ≤ (16 * width + 2) * sum_from (λ i. gathered i + weight) 0 (suc last)
levels-pay width weight last gathered new old news olds gathers =
    let all : ℕ = sum_from (λ i. gathered i + weight) 0 (suc last) in
    let radii : ℕ = sum_from (λ i. 2 ^ i) 0 (suc last) in
    let zeroth : 0 + suc last ≡ suc last = omega arith in
    let double : 2 ^ suc last ≡ 2 * 2 ^ last = omega arith in
    let single : 2 ^ 0 ≡ 1 = omega arith in
    let top : gathered last + weight ≤ all =
    let start : 0 + last ≡ last = omega arith in
    omega (arith, last-of-sum (λ i. gathered i + weight) 0 last, ap (λ i. gathered i + weight) start) in
    let wide : radii ≤ 4 * all =
    omega (arith, sum-powers 0 (suc last), ap (λ n. 2 ^ n) zeroth, double, single, gathers, top) in
    let new-sum : sum_from new 0 (suc last) ≤ 2 * (width * radii) =
    omega (
      arith,
      sum-le new (λ i. 2 * (width * 2 ^ i)) 0 (suc last) (λ i low high. news i (omega arith)),
      sum-times 2 (λ i. width * 2 ^ i) 0 (suc last),
      ap (λ n. 2 * n) (sum-times width (λ i. 2 ^ i) 0 (suc last)),
    ) in
    let old-sum : sum_from old 0 (suc last) ≤ 2 * (all + width * radii) =
    omega (
      arith,
      sum-le old (λ i. 2 * (gathered i + weight + width * 2 ^ i)) 0 (suc last) (λ i low high. olds i (omega arith)),
      sum-times 2 (λ i. gathered i + weight + width * 2 ^ i) 0 (suc last),
      ap (λ n. 2 * n) (sum-add (λ i. gathered i + weight) (λ i. width * 2 ^ i) 0 (suc last)),
      sum-times width (λ i. 2 ^ i) 0 (suc last),
    ) in
    let paid : width * radii ≤ width * (4 * all) = mul-le-mul_left width wide in
    let four : width * (4 * all) ≡ 4 * (width * all) = omega arith in
    let rate : (16 * width + 2) * all ≡ 16 * (width * all) + 2 * all = omega arith in
    omega (arith, new-sum, old-sum, paid, four, rate)
  where
    last-of-sum : (f : ℕ → ℕ) (first k : ℕ) → f (first + k) ≤ sum_from f first (suc k)
    last-of-sum f first zero = let e : first + 0 ≡ first = omega arith in omega (arith, ap f e)
    last-of-sum f first (suc k) =
        let e : first + suc k ≡ suc first + k = omega arith in
        omega (arith, ap f e, last-of-sum f (suc first) k)

-- what the levels gather: those up to one have nothing after the move, the others this weight more
levels-gather : (weight last rest : ℕ) (before after : ℕ → ℕ)
    → ((i : ℕ) → i ≤ last → after i ≡ 0) → ((i : ℕ) → last < i → after i ≡ before i + weight)
    → sum_from after 0 (suc last + rest) + sum_from (λ i. before i + weight) 0 (suc last)
    ≤ sum_from before 0 (suc last + rest) + (suc last + rest) * weight
levels-gather weight last rest before after none more =
    let zeroth : 0 + suc last ≡ suc last = omega arith in
    let low : sum_from after 0 (suc last) ≤ sum_from (λ i. 0) 0 (suc last) =
    sum-le after (λ i. 0) 0 (suc last) (λ i low high. omega (arith, none i (omega arith))) in
    let high : sum_from after (0 + suc last) rest ≤ sum_from (λ i. before i + weight) (0 + suc last) rest =
    grind (arith, sum-le) in
    grind (
      arith,
      nat_tests,
      sum-same 0 0 (suc last),
      sum-split after 0 (suc last) rest,
      sum-split (λ i. before i + weight) 0 (suc last) rest,
      sum-add before (λ i. weight) 0 (suc last + rest),
      sum-same weight 0 (suc last + rest),
    )

-- the greatest number that passes a test passes it, unless it is 0
highest-passes : (test : ℕ → Bool) (limit : ℕ)
    → (test (highest test limit) ≡ true) ⊎ (highest test limit ≡ 0)
unfolding highest
highest-passes test zero = inr refl
highest-passes test (suc limit) = at_test (test limit) refl (highest-passes test limit)
  where
    at_test : (b : Bool) → test limit ≡ b
        → (test (highest test limit) ≡ true) ⊎ (highest test limit ≡ 0)
        → (test (cond b limit (highest test limit)) ≡ true) ⊎ (cond b limit (highest test limit) ≡ 0)
    at_test true h later = inl h
    at_test false h later = later

-- what all levels have gathered
abbrev pub held : Setting → Course → ℕ
held setting course = sum_from (gathered_weight course) 0 (levels setting)

-- how far a course goes
abbrev pub way : Course → ℕ
way course = sum_by (λ (move : Move). move.weight) course.moves

-- a course has written so much, and is paid: each level's address node is near, and what is written stays within the
-- rate
pub record IsPaid (setting : Setting) (width spent : ℕ) (course : Course) : Type 0 where
  pub inside : last_stop course < setting.nodes
  pub placed : (i : ℕ) → address_node course i < setting.nodes
  pub near : (i : ℕ) → setting.distance (address_node course i) (last_stop course) ≤ gathered_weight course i
  pub paid : spent + (16 * width + 2) * held setting course
      ≤ (2 + (16 * width + 2) * levels setting) * way course

-- what a move does to the levels
pub record Renews (setting : Setting) (course : Course) (node : ℕ) : Type 0 where
  pub gathered : (i : ℕ) → gathered_weight (after_step setting course (move_to node)) i
      ≡ cond (nat_le i (next_move setting course node).renewed) 0
      (gathered_weight course i + setting.distance (last_stop course) node)
  pub address : (i : ℕ) → address_node (after_step setting course (move_to node)) i
      ≡ cond (nat_le i (next_move setting course node).renewed) node (address_node course i)

module _ (setting : Setting) (width spent : ℕ) (course : Course) (node : ℕ)
    (paced : IsPaced setting width) (may : MayMove setting course node)
    (renews : Renews setting course node) (before : IsPaid setting width spent course) where
  abbrev move : Move
  move = next_move setting course node

  abbrev weight : ℕ
  weight = setting.distance (last_stop course) node

  low : move.renewed ≤ setting.top
  low = highest-low (λ level. nat_le (setting.threshold level) (gathered_weight course level + weight)) setting.top

  -- the highest level gathered half of its radius
  gathers : 2 ^ move.renewed ≤ 2 * (gathered_weight course move.renewed + weight)
  gathers = grind (arith, highest-passes, low, leb-true)

  -- an old address is erased at a leader that is near
  old-near : (i : ℕ) → i ≤ move.renewed
      → 2 * setting.distance node (setting.leader i (old_home setting course i))
      ≤ 2 * (gathered_weight course i + weight + width * 2 ^ i)
  old-near i below =
      grind (arith, low)

  step-pays : MoveWeighs → step_weight setting course (move_to node)
      ≤ 2 * weight + (16 * width + 2) * sum_from (λ i. gathered_weight course i + weight) 0 (suc move.renewed)
  step-pays weighs = omega (
    arith,
    weighs setting course node,
    sum-sift (λ level. 2 * setting.inside level (setting.home level node) node) (λ p. true) 0 (suc move.renewed),
    sum-sift (λ level. 2 * setting.distance node (setting.leader level (old_home setting course level)))
        (λ level. not (old_home setting course level == setting.home level node)) 0 (suc move.renewed),
    levels-pay width weight move.renewed (gathered_weight course)
        (λ level. 2 * setting.inside level (setting.home level node) node)
        (λ level. 2 * setting.distance node (setting.leader level (old_home setting course level)))
        (λ i below. omega (arith, paced.wide i node (omega (arith, below, low)) may.inside)) old-near gathers,
  )

  held-after : held setting (after_step setting course (move_to node))
      + sum_from (λ i. gathered_weight course i + weight) 0 (suc move.renewed)
      ≤ held setting course + levels setting * weight
  held-after =
      let all : levels setting ≡ suc move.renewed + (setting.top - move.renewed) = omega (arith, low) in
      subst (λ count. sum_from (gathered_weight (after_step setting course (move_to node))) 0 count
      + sum_from (λ i. gathered_weight course i + weight) 0 (suc move.renewed)
      ≤ sum_from (gathered_weight course) 0 count + count * weight) (sym all)
      (levels-gather weight move.renewed (setting.top - move.renewed) (gathered_weight course)
      (gathered_weight (after_step setting course (move_to node)))
      (λ i below. renews.gathered i ∙ ap (λ b. cond b 0 (gathered_weight course i + weight))
      (le-leb i move.renewed below))
      (λ i above. renews.gathered i ∙ ap (λ b. cond b 0 (gathered_weight course i + weight))
      (not-below i move.renewed above)))
    where
      not-below : (a b : ℕ) → b < a → nat_le a b ≡ false
      not-below a b h = grind (arith, nat_tests)

  way-after : way (after_step setting course (move_to node)) ≡ way course + weight
  way-after = sum_by_push (λ (m : Move). m.weight) course.moves move

  pub move-paid : MoveWeighs
      → IsPaid setting width (spent + step_weight setting course (move_to node))
      (after_step setting course (move_to node))
  move-paid weighs = record {
    inside = subst (λ n. n < setting.nodes) (sym (last_stop-moved setting course node)) may.inside;
    placed = λ i. grind arith;
    near = λ i. grind (arith, last_stop-moved);
    paid = pays (held setting course) (held setting (after_step setting course (move_to node)))
        (sum_from (λ i. gathered_weight course i + weight) 0 (suc move.renewed)) (16 * width + 2) (levels setting)
        (step_weight setting course (move_to node)) (way course)
        (way (after_step setting course (move_to node))) held-after (step-pays weighs) way-after before.paid;
  }
    where
      placed-at : (b : Bool) (i : ℕ) → cond b node (address_node course i) < setting.nodes
      placed-at true i = may.inside
      placed-at false i = before.placed i

      near-at : (b : Bool) (i : ℕ) → setting.distance (cond b node (address_node course i)) node
          ≤ cond b 0 (gathered_weight course i + weight)
      near-at true i = omega (arith, paced.metric.none node may.inside)
      near-at false i = omega (
        arith,
        paced.metric.detour (address_node course i) (last_stop course) node (before.placed i) before.inside may.inside,
        before.near i,
      )

      pays : (old new spending rate count step went goes : ℕ) → new + spending ≤ old + count * weight
          → step ≤ 2 * weight + rate * spending → goes ≡ went + weight
          → spent + rate * old ≤ (2 + rate * count) * went
          → spent + step + rate * new ≤ (2 + rate * count) * goes
      pays old new spending rate count step went goes gathers writes further paid =
          let more : rate * (new + spending) ≤ rate * (old + count * weight) = mul-le-mul_left rate gathers in
          omega (
            arith,
            more,
            mul-add rate new spending,
            mul-add rate old (count * weight),
            writes,
            paid,
            ap (λ n. (2 + rate * count) * n) further,
            mul-add (2 + rate * count) went weight,
            add-mul 2 (rate * count) weight,
            mul_assoc rate count weight,
          )

-- before any step nothing is written and nothing is gathered
none-paid : {setting : Setting} {width : ℕ} (node : ℕ) → IsPaced setting width → node < setting.nodes
    → IsPaid setting width 0 (course_at node)
none-paid {setting} {width} node paced inside = record {
  inside = inside;
  placed = λ i. inside;
  near = λ i. omega (arith, paced.metric.none node inside);
  paid =
      grind (arith, nat_tests, sum-same 0 0 (levels setting));
}

-- a switch changes nothing of it
still-paid : {setting : Setting} {width spent weight : ℕ} {course : Course} (off : Bool) → weight ≡ 0
    → IsPaid setting width spent course
    → IsPaid setting width (spent + weight) (record course { is_off = off })
still-paid off none before = record {
  inside = before.inside;
  placed = before.placed;
  near = before.near;
  paid = omega (arith, none, before.paid);
}

-- what the first levels of a course do at a move
abbrev pub RenewsAfter : Type 0
RenewsAfter = (setting : Setting) (first : ℕ) (steps : List Step) (node : ℕ)
    → Renews setting (after_steps setting (course_at first) steps) node

-- one step more
step-paid : MoveWeighs → RenewsAfter → {setting : Setting} {width : ℕ} (first : ℕ) {spent : ℕ} (done : List Step)
    (step : Step) → IsPaced setting width → MayStep setting (after_steps setting (course_at first) done) step
    → IsPaid setting width spent (after_steps setting (course_at first) done)
    → IsPaid setting width (spent + step_weight setting (after_steps setting (course_at first) done) step)
    (after_step setting (after_steps setting (course_at first) done) step)
step-paid weighs renews {setting} {width} first {spent} done (move_to node) paced may before =
    move-paid setting width spent (after_steps setting (course_at first) done) node paced may
    (renews setting first done node) before weighs
step-paid weighs renews first done switch_off paced may before =
    still-paid true (omega arith) before
step-paid weighs renews first done switch_on paced may before =
    still-paid false (omega arith) before

-- the weight of one step more
pub weights-more : (setting : Setting) (course : Course) (steps : List Step) (step : Step)
    → weight_of_steps setting course (steps ++ step ∷ [])
    ≡ weight_of_steps setting course steps + step_weight setting (after_steps setting course steps) step
unfolding weight_of_steps
weights-more setting course [] step = omega arith
weights-more setting course (x ∷ steps) step =
    omega (arith, weights-more setting (after_step setting course x) steps step)

-- all steps
steps-paid : MoveWeighs → RenewsAfter → {setting : Setting} {width : ℕ} (first : ℕ) (done later : List Step)
    → IsPaced setting width → MaySteps setting (after_steps setting (course_at first) done) later
    → IsPaid setting width (weight_of_steps setting (course_at first) done) (after_steps setting (course_at first) done)
    → IsPaid setting width (weight_of_steps setting (course_at first) (done ++ later))
    (after_steps setting (course_at first) (done ++ later))
unfolding MaySteps
steps-paid weighs renews {setting} {width} first done [] paced may before =
    grind (arith, append-nil)
steps-paid weighs renews {setting} {width} first done (step ∷ later) paced may before =
    let next : after_steps setting (course_at first) (done ++ step ∷ [])
    ≡ after_step setting (after_steps setting (course_at first) done) step =
    fold-append (after_step setting) (course_at first) done (step ∷ []) in
    subst (λ ss. IsPaid setting width (weight_of_steps setting (course_at first) ss)
    (after_steps setting (course_at first) ss)) (append_assoc done (step ∷ []) later)
    (steps-paid weighs renews first (done ++ step ∷ []) later paced
    (subst (λ c. MaySteps setting c later) (sym next) may.1)
    (subst (λ n. IsPaid setting width n (after_steps setting (course_at first) (done ++ step ∷ [])))
    (sym (weights-more setting (course_at first) done step))
    (subst (IsPaid setting width (weight_of_steps setting (course_at first) done + step_weight setting
    (after_steps setting (course_at first) done) step)) (sym next)
    (step-paid weighs renews first done step paced may.0 before))))

-- what is written is within the rate
pub written-bounded : MoveWeighs → RenewsAfter → WrittenIsBounded
unfolding weight_of_steps
written-bounded weighs renews setting width sub steps paced script =
    let first : ℕ = start setting sub in
    let all : IsPaid setting width (weight_of_steps setting (course_at first) steps)
    (after_steps setting (course_at first) steps) =
    steps-paid weighs renews first [] steps paced script.allowed (none-paid first paced script.begins) in
    rounded (levels setting) (way (after_steps setting (course_at first) steps)) (omega arith)
    (omega (arith, all.paid))
  where
    rounded : (count far : ℕ) → 1 ≤ count
        → weight_of_steps setting (course_at (start setting sub)) steps ≤ (2 + (16 * width + 2) * count) * far
        → weight_of_steps setting (course_at (start setting sub)) steps ≤ writing_rate width count * far
    rounded count far some paid =
        let rate : 2 + (16 * width + 2) * count ≤ writing_rate width count =
        omega (arith, add-mul (16 * width + 2) 2 count, some) in
        omega (arith, paid, mul-le-mul_right far rate)
