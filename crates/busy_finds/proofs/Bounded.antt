-- No find weighs more than the stretch times its distance and what the moves within had gathered, and twice the passage.
use Rattle.std.proofs.Common.{◌≡◌, inl, inr, ℕ, zero, suc, ◌+◌, ◌*◌, ◌<◌, ◌≤◌, ◌^◌, max, List, Some, take, sym, ap, ◌∙◌, subst, arith}
use Rattle.std.specs.Prelude.{slice_get, sum_by}
use Rattle.std.proofs.Math.Nat.{mul-le-mul_left}
use Rattle.std.proofs.lemmas.Bool.{cases_lt}
use Rattle.std.proofs.lemmas.Option.{slice_get_within}
use Rattle.directory.specs.Settings.{Setting, start}
use Rattle.directory.specs.Courses.{base, course_at, Move}
use Rattle.directory.specs.Histories.{before, History, puts_to}
use Rattle.directory.specs.Legal.{IsLegal}
use Rattle.directory.specs.Looks.{first_of, last_of}
use Rattle.directory.specs.Puts.{steps_in}
use Rattle.directory.specs.StepLaws.{start-kept}
use Rattle.directory.specs.Standing.{number, standing}
use Rattle.region_plan.specs.Measures.{degree_of}
use Rattle.region_plan.specs.Regions.{threshold_of}
use Rattle.region_plan.specs.Settings.{setting_of}
use Rattle.stretch_laws.specs.Plans.{PlansTrack}
use Rattle.stretch_laws.specs.Tracking.{IsTracking, radius, stretch}
use Rattle.busy_finds.specs.LawsBelow.{PriceLaws}
use Rattle.busy_finds.specs.Plans.{distance_at, PlanFindsAreBounded, PlanFindsBetweenCommits, PlansGatherHalf}
use Rattle.busy_finds.specs.Prices.{EveryFindIsBounded, FindsBetweenCommits, FindsHaveTheirPrice, gathered_by, gathered_within, greatest_threshold, moves_within, weight_of}
use Rattle.busy_finds.specs.Within.{moves_of}
use Rattle.busy_finds.proofs.Fronts.{moves-in-place, number-more}
use Rattle.busy_finds.proofs.Gathered.{AllReach, HasReached, gathered-is-way, greatest-no-more, reach-steps, sum-no-more}
use Rattle.busy_finds.proofs.Moves.{base-within, IsAt, stop-inside, stop_of}
use Rattle.busy_finds.proofs.ByStretch.{in-dropped, in-order, spent-within}
use Rattle.busy_finds.proofs.Sums.{travelled, travelled-more, travelled-step, way-within}
use Rattle.busy_finds.proofs.Tickets.{begun-low, count-begun, in-front, stands-in, stands-there}

pub once-more : (s x : ℕ) → (s + 1) * x ≡ s * x + x
once-more s x = grind arith

-- the moves of a legal history reach what they renew
all-reach : {setting : Setting} {sub : ℕ} (history : History) → IsLegal setting sub history
    → AllReach setting (start setting sub) (moves_of setting sub history)
all-reach {setting} {sub} history legal =
    subst (λ n. AllReach setting n (moves_of setting sub history))
    (start-kept setting (course_at (start setting sub)) (steps_in (puts_to sub history)))
    (reach-steps setting (course_at (start setting sub)) (steps_in (puts_to sub history))
    (record { begins = legal.script.begins; each = λ i move h. cc }) legal.script.allowed (λ i move h. cc))

module _ (laws : PriceLaws) (setting : Setting) (width most_readers : ℕ) (history : History) (sub : ℕ) (first last : ℕ)
    (few : setting.nodes ≤ 2 ^ 16) (tracking : IsTracking setting width most_readers) (legal : IsLegal setting sub history)
    (order : first ≤ last) where
  abbrev its : List Move
  its = moves_of setting sub history

  abbrev within : List Move
  within = moves_within setting sub history first last

  abbrev gathers : Move → ℕ
  gathers = gathered_by its

  -- what each of them gathered
  record Gathers (move : Move) : Type 0 where
    weighs : move.weight ≤ gathers move
    reaches : setting.threshold move.renewed ≤ gathers move

  each-gathers : (i : ℕ) (move : Move) → slice_get within i ≡ Some move → Gathers move
  each-gathers i move h = record {
    weighs = weighs;
    reaches = elim reach.reached [
      | inl passed ↦ omega (arith, passed, way)
      | inr none ↦
          let one : 2 ^ 0 ≡ 1 = omega arith in
          let small : radius 0 ≡ 1 = one in
          let thr : setting.threshold move.renewed ≡ setting.threshold 0 = ap setting.threshold none in
          omega (
            arith,
            small,
            thr,
            tracking.halves 0 (omega arith),
            weighs,
            at.weight,
            tracking.apart (stop_of (start setting sub) its place) move.to
                (stop-inside its (moves-in-place history legal) place (omega (arith, slice_get_within its place move there)))
                at.inside (λ same. reach.goes (sym same)),
          )
    ];
  }
    where
      place : ℕ
      place = number sub (before first history) + i

      there : slice_get its place ≡ Some move
      there = in-front (number sub (before last history)) its place move
          (sym (in-dropped (take (number sub (before last history)) its) (number sub (before first history)) i) ∙ h)

      at : IsAt setting (start setting sub) its place move
      at = (moves-in-place history legal).each place move there

      reach : HasReached setting (start setting sub) its place move
      reach = all-reach history legal place move there

      based : base move.renewed (take place its) ≤ place
      based = base-within move.renewed its (moves-in-place history legal) place
          (omega (arith, slice_get_within its place move there))

      way : travelled its (suc place) ≡ travelled its (base move.renewed (take place its)) + gathers move
      way = gathered-is-way its place move at.its_number (omega (arith, based))

      weighs : move.weight ≤ gathers move
      weighs = omega (
        arith,
        way,
        travelled-step its place move there,
        travelled-more its (base move.renewed (take place its)) place based,
      )

  pub weigh-less : weight_of within ≤ gathered_within setting sub history first last
  weigh-less = sum-no-more (λ m. m.weight) gathers within (λ i move h. (each-gathers i move h).weighs)

  pub reach-less : greatest_threshold setting within ≤ gathered_within setting sub history first last
  reach-less =
      let low : greatest_threshold setting within ≤ 0 + sum_by gathers within =
      greatest-no-more setting gathers within 0 (λ i move h. (each-gathers i move h).reaches) in
      subst (λ n. greatest_threshold setting within ≤ n)
      (let e : 0 + sum_by gathers within ≡ sum_by gathers within = omega arith in e) low

  -- how far the subscriber comes within
  stand-near : (t u : ℕ) → first ≤ t → t ≤ u → u ≤ last
      → setting.distance (standing setting sub (before t history)) (standing setting sub (before u history))
      ≤ weight_of within
  stand-near t u since later by = omega (
    arith,
    subst (λ n. setting.distance (standing setting sub (before t history)) n
        + travelled its (number sub (before t history)) ≤ travelled its (number sub (before u history)))
        (sym (stands-there laws.marks setting sub history few legal u))
        (subst (λ n. setting.distance n (stop_of (start setting sub) its (number sub (before u history)))
        + travelled its (number sub (before t history)) ≤ travelled its (number sub (before u history)))
        (sym (stands-there laws.marks setting sub history few legal t))
        (way-within its (moves-in-place history legal) tracking.metric (number sub (before t history))
        (number sub (before u history)) (number-more sub t u history later) (omega (
          arith,
          count-begun laws.marks setting sub history few legal u,
          begun-low laws.marks setting sub history few legal u,
        )))),
    travelled-more its (number sub (before first history)) (number sub (before t history))
        (number-more sub first t history since),
    travelled-more its (number sub (before u history)) (number sub (before last history))
        (number-more sub u last history by),
    spent-within setting sub history first last order,
  )

  -- so its distance at one ticket tells that at another
  pub stood-near : (t u node : ℕ) → node < setting.nodes → first ≤ t → t ≤ last → first ≤ u → u ≤ last
      → setting.distance node (standing setting sub (before t history))
      ≤ setting.distance node (standing setting sub (before u history)) + weight_of within
  stood-near t u node inside t_since t_by u_since u_by =
      let t_in : standing setting sub (before t history) < setting.nodes =
      stands-in laws.marks setting sub history few legal t in
      let u_in : standing setting sub (before u history) < setting.nodes =
      stands-in laws.marks setting sub history few legal u in
      let way : setting.distance (standing setting sub (before u history)) (standing setting sub (before t history))
      ≤ weight_of within = elim (cases_lt t u) [
        | inl later ↦ omega (
          arith,
          stand-near t u t_since (omega (arith, later)) u_by,
          tracking.metric.both_ways (standing setting sub (before u history)) (standing setting sub (before t history))
              u_in t_in,
        )
        | inr earlier ↦ stand-near u t u_since earlier t_by
      ] in
      omega (
        arith,
        way,
        tracking.metric.detour node (standing setting sub (before u history)) (standing setting sub (before t history))
            inside u_in t_in,
      )

pub every-bounded : PriceLaws → FindsHaveTheirPrice → EveryFindIsBounded
every-bounded laws prices setting width most_readers history actor call found tickets ticket few tracking half inside legal
    find since by =
    let order : first_of tickets ≤ last_of tickets = in-order find in
    let most : ℕ = setting.distance call.from (standing setting call.sub (before ticket history))
    + gathered_within setting call.sub history (first_of tickets) (last_of tickets) in
    let spent : weight_of (moves_within setting call.sub history (first_of tickets) (last_of tickets))
    ≤ gathered_within setting call.sub history (first_of tickets) (last_of tickets) =
    weigh-less laws setting width most_readers history call.sub (first_of tickets) (last_of tickets) few tracking legal order in
    let low : max (setting.distance call.from (standing setting call.sub (before (first_of tickets) history)))
    (greatest_threshold setting (moves_within setting call.sub history (first_of tickets) (last_of tickets))) ≤ most = omega (
      arith,
      spent,
      reach-less laws setting width most_readers history call.sub (first_of tickets) (last_of tickets) few tracking legal
          order,
      stood-near laws setting width most_readers history call.sub (first_of tickets) (last_of tickets) few tracking legal
          order (first_of tickets) ticket call.from inside (omega arith) order since by,
    ) in
    omega (
      arith,
      prices setting width most_readers history actor call found tickets few tracking half inside legal find,
      mul-le-mul_left (stretch width most_readers) low,
      once-more (stretch width most_readers) most,
      spent,
    )

-- ---- over plans
half-of : (i : ℕ) → radius i ≤ 2 * threshold_of i
half-of zero = let e : 2 ^ 0 ≡ 1 = omega arith in let one : radius 0 ≡ 1 = e in omega (arith, one)
half-of (suc i) = let e : 2 ^ suc i ≡ 2 * 2 ^ i = omega arith in
    let twice : radius (suc i) ≡ 2 * 2 ^ i = e in omega (arith, twice)

pub gather-half : PlansGatherHalf
gather-half plan starts bounds level low = omega (
  arith,
  half-of level,
  bounds.thresholds level (omega (arith, low, bounds.matched.some)),
)

pub and-one : (m w x : ℕ) → (stretch w m + 1) * x ≤ (16 * m * w + 12 * w + 12) * x
and-one m w x = grind arith

pub plan-bounded : PlansTrack → EveryFindIsBounded → PlanFindsAreBounded
plan-bounded tracks bounded plan starts history actor call found tickets ticket few bounds inside legal find since by =
    omega (
      arith,
      bounded (setting_of plan starts) plan.reach (degree_of plan) history actor call found tickets ticket few
          (tracks plan starts bounds) (gather-half plan starts bounds) inside legal find since by,
      and-one (degree_of plan) plan.reach (distance_at plan starts call history ticket
          + gathered_within (setting_of plan starts) call.sub history (first_of tickets) (last_of tickets)),
    )

pub plan-between : PlansTrack → FindsBetweenCommits → PlanFindsBetweenCommits
plan-between tracks between plan starts history actor call found tickets few bounds inside legal find same = omega (
  arith,
  between (setting_of plan starts) plan.reach (degree_of plan) history actor call found tickets few
      (tracks plan starts bounds) inside legal find same,
  and-one (degree_of plan) plan.reach (distance_at plan starts call history (first_of tickets)),
  once-more (stretch plan.reach (degree_of plan)) (distance_at plan starts call history (first_of tickets)),
)
