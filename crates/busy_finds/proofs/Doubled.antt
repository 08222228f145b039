-- No find weighs more than the stretch times its distance and what the moves within weigh, doubled for each of them: a level
-- that reaches so far is read in vain only where a move is committed between its first look and its last.
use Rattle.std.proofs.Common.{List, [], ap, arith, inl, inr, length, refl, subst, suc, sym, take, zero, true, ℕ, ◌*◌, ◌+◌, ◌-◌, ◌<◌, ◌^◌, ◌∙◌, ◌≡◌, ◌≤◌}
use Rattle.std.proofs.Math.ListN.{drop_of_length-le}
use Rattle.std.proofs.Math.Nat.{mul-le-mul_left, mul_left_comm}
use Rattle.std.proofs.lemmas.Bool.{cases_lt}
use Rattle.std.proofs.lemmas.List.{append-nil, length-drop, length-take, length-take-le}
use Rattle.node_set.specs.Ascending.{has}
use Rattle.directory.specs.Settings.{levels, Setting}
use Rattle.directory.specs.Courses.{Move}
use Rattle.directory.specs.Finds.{FindCall, found_weight, Reader}
use Rattle.directory.specs.Histories.{before, History}
use Rattle.directory.specs.Looks.{first_of, last_of}
use Rattle.directory.specs.Standing.{number, passage, standing}
use Rattle.region_plan.specs.Measures.{degree_of}
use Rattle.region_plan.specs.Settings.{setting_of}
use Rattle.stretch_laws.specs.Plans.{PlansTrack}
use Rattle.stretch_laws.specs.Tracking.{radius, stretch}
use Rattle.busy_finds.specs.FewMoves.{doubled_by, FindsMeetingFewMoves, PlanFindsMeetingFewMoves}
use Rattle.busy_finds.specs.LawsBelow.{PriceLaws}
use Rattle.busy_finds.specs.Plans.{distance_at}
use Rattle.busy_finds.specs.Prices.{FindsBetweenCommits, moves_within, weight_of}
use Rattle.busy_finds.specs.Within.{moves_of}
use Rattle.busy_finds.proofs.Beyond.{Ground}
use Rattle.busy_finds.proofs.Bounded.{and-one, once-more, stood-near}
use Rattle.busy_finds.proofs.ByStretch.{by-stretch, ClimbsTo, in-order, spent-within}
use Rattle.busy_finds.proofs.Fronts.{number-more}
use Rattle.busy_finds.proofs.Looks.{in-row, IsMetAt, row, row-was, rows, RowWas, WasEmpty, were-order, were-split, WereEmpty}
use Rattle.busy_finds.proofs.Price.{doubled, find-on, home-near, home-read, near_home, radius-up, renewed-within}
use Rattle.busy_finds.proofs.Tickets.{begun-low, count-begun}

four-times : (x r : ℕ) → (4 * x) * r ≡ 4 * (r * x)
four-times x r = grind arith

module _ (laws : PriceLaws) (setting : Setting) (width most_readers : ℕ) (history : History) (call : FindCall)
    (first last : ℕ) (ground : Ground setting width most_readers history call first last) (x : ℕ)
    (near : (t : ℕ) → first ≤ t → t ≤ last → setting.distance call.from (standing setting call.sub (before t history)) ≤ x) where
  abbrev committed : ℕ → ℕ
  committed t = number call.sub (before t history)

  -- four times the distance, doubled for each commit since the first look
  abbrev grown : ℕ → ℕ
  grown t = (4 * x) * radius (committed t - committed first)

  grown-more : (t u : ℕ) → t ≤ u → grown t ≤ grown u
  grown-more t u h = mul-le-mul_left (4 * x) (radius-up (committed t - committed first) (committed u - committed first)
      (omega (arith, number-more call.sub t u history h)))

  grown-some : (t : ℕ) → 4 * x ≤ grown t
  grown-some t =
      let e : 2 ^ 0 ≡ 1 = omega arith in
      let one : radius 0 ≡ 1 = e in
      let some : 1 ≤ radius (committed t - committed first) =
      omega (arith, one, radius-up 0 (committed t - committed first) (omega arith)) in
      omega (arith, mul-le-mul_left (4 * x) some)

  grown-twice : (t u : ℕ) → first ≤ t → committed t < committed u → 2 * grown t ≤ grown u
  grown-twice t u since more =
      let step : 2 * radius (committed t - committed first) ≤ radius (committed u - committed first) = omega (
        arith,
        doubled (committed t - committed first),
        radius-up (suc (committed t - committed first)) (committed u - committed first)
            (omega (arith, more, number-more call.sub first t history since)),
      ) in
      omega (arith, mul-le-mul_left (4 * x) step, mul_left_comm (4 * x) 2 (radius (committed t - committed first)))

  -- a level that reaches so far is read in vain only where a move is committed meanwhile
  commits-meanwhile : (since t level : ℕ) → first ≤ since → since ≤ t → t ≤ last → level ≤ setting.top → 2 * x ≤ radius level
      → ((c : ℕ) → has c (setting.readers level call.from) ≡ true
      → WasEmpty setting history call since t (record { level = level; cluster = c })) → committed since < committed t
  commits-meanwhile since t level low order by high reaches were =
      let here : Ground setting width most_readers history call since t = record {
        few = ground.few;
        tracking = ground.tracking;
        inside = ground.inside;
        legal = ground.legal;
        order = order;
      } in
      let home : ℕ = near_home laws setting width most_readers history call since t here level in
      let reads : has (setting.home level home) (setting.readers level call.from) ≡ true =
      ground.tracking.read level home call.from high
      (home-near laws setting width most_readers history call since t here level high).inside ground.inside
      (home-read laws setting width most_readers history call since t here level high
      (omega (arith, reaches, near since low (omega (arith, order, by))))) in
      let found = renewed-within laws setting width most_readers history call since t here t level (omega arith) high
      (were (setting.home level home) reads) in
      omega (arith, found.2.after, found.2.by)

  -- so the climb gets to the next level only so far
  level-grows : (since t level : ℕ) → first ≤ since → since ≤ t → t ≤ last → level ≤ setting.top
      → WereEmpty setting history call since t (row setting history call since level (setting.readers level call.from))
      → radius level ≤ grown since → radius (suc level) ≤ grown t
  level-grows since t level low order by high were so = elim (cases_lt (radius level) (2 * x)) [
    | inl far ↦ omega (arith, far, doubled level, grown-some t)
    | inr near_by ↦ omega (
      arith,
      so,
      doubled level,
      grown-twice since t low (commits-meanwhile since t level low order by high near_by
          (λ c reads. in-row setting history call since t level c (setting.readers level call.from) reads were)),
    )
  ]

  levels-grow : (count from since t : ℕ) → from + count ≤ levels setting → first ≤ since → t ≤ last
      → WereEmpty setting history call since t (rows setting history call since from count)
      → radius from ≤ grown since → radius (from + count) ≤ grown t
  levels-grow zero from since t high low by were so =
      let e : from + 0 ≡ from = omega arith in
      rw e (omega (arith, so, grown-more since t were))
  levels-grow (suc count) from since t high low by were so =
      let parts : RowWas setting history call since t from (rows setting history call since (suc from) count) =
      row-was setting history call since t from (rows setting history call since (suc from) count) were in
      let e : from + suc count ≡ suc from + count = omega arith in
      rw e (levels-grow count (suc from) parts.mid t (omega (arith, high)) (omega (arith, low, parts.order)) by parts.rest
      (level-grows since parts.mid from low parts.order (omega (arith, parts.by, by)) (omega (arith, high)) parts.its so))

  begins : 1 ≤ setting.distance call.from (standing setting call.sub (before first history)) → radius 0 ≤ grown first
  begins some =
      let e : 2 ^ 0 ≡ 1 = omega arith in
      let one : radius 0 ≡ 1 = e in
      omega (arith, one, some, near first (omega arith) ground.order, grown-some first)

  climbs-so : (m : ℕ) → committed last ≡ committed first + m → ClimbsTo setting history call first last (2 ^ m * x)
  climbs-so m counted = record {
    met = λ t passed r by some met were. meets t passed r by some met were;
    missed = λ t weight by some c. omega (
      arith,
      doubled setting.top,
      levels-grow (levels setting) 0 first t (omega arith) (omega arith) by
          (subst (λ xs. WereEmpty setting history call first t xs) (sym (c.all ∙ append-nil c.passed)) c.empty)
          (begins some),
      (let n : 0 + levels setting ≡ suc setting.top = omega arith in ap radius n),
      at-last t by,
    );
  }
    where
      at-last : (t : ℕ) → t ≤ last → grown t ≤ 4 * (2 ^ m * x)
      at-last t by =
          let e : committed last - committed first ≡ m = omega (arith, counted) in
          omega (arith, grown-more t last by, ap (λ n. (4 * x) * radius n) e, four-times x (2 ^ m))

      meets : (t : ℕ) (passed : List Reader) (r : Reader) → t ≤ last
          → 1 ≤ setting.distance call.from (standing setting call.sub (before first history))
          → IsMetAt setting history call first t 0 (levels setting) passed r → WereEmpty setting history call first t passed
          → radius r.level ≤ 4 * (2 ^ m * x)
      meets t passed r by some met were =
          let full = met.full r.level (omega arith) in
          let parts = were-split setting history call first t (rows setting history call first 0 r.level) full.0
          (subst (λ xs. WereEmpty setting history call first t xs) full.1 were) in
          let low : parts.0 ≤ t = were-order setting history call parts.0 t full.0 parts.2 in
          omega (
            arith,
            levels-grow r.level 0 first parts.0 (omega (arith, met.high)) (omega arith) (omega (arith, low, by)) parts.1
                (begins some),
            (let n : 0 + r.level ≡ r.level = omega arith in ap radius n),
            at-last parts.0 (omega (arith, low, by)),
          )

-- how many moves are committed within
counted-within : (laws : PriceLaws) (setting : Setting) (width most_readers : ℕ) (history : History) (call : FindCall)
    (first last : ℕ) → Ground setting width most_readers history call first last
    → number call.sub (before last history)
    ≡ number call.sub (before first history) + length (moves_within setting call.sub history first last)
counted-within laws setting width most_readers history call first last ground = omega (
  arith,
  length-drop (number call.sub (before first history))
      (take (number call.sub (before last history)) (moves_of setting call.sub history)),
  length-take-le (number call.sub (before last history)) (moves_of setting call.sub history) (omega (
    arith,
    count-begun laws.marks setting call.sub history ground.few ground.legal last,
    begun-low laws.marks setting call.sub history ground.few ground.legal last,
  )),
  number-more call.sub first last history ground.order,
)

pub few-moves : PriceLaws → FindsMeetingFewMoves
few-moves laws setting width most_readers history actor call found tickets ticket few tracking inside legal find since by =
    find-on laws setting width most_readers history call first last (weight_of moves) _
    (by-stretch laws setting width most_readers history call first last ground (doubled_by moves away) (weight_of moves)
    (stretch width most_readers * doubled_by moves away + 2 * passage setting call.sub (before first history))
    (climbs-so laws setting width most_readers history call first last ground (away + weight_of moves) near (length moves)
    (counted-within laws setting width most_readers history call first last ground))
    (omega (arith, near first (omega arith) (in-order find), no-less))
    (spent-within setting call.sub history first last (in-order find))) actor found tickets refl refl find
  where
    first : ℕ
    first = first_of tickets

    last : ℕ
    last = last_of tickets

    moves : List Move
    moves = moves_within setting call.sub history first last

    away : ℕ
    away = setting.distance call.from (standing setting call.sub (before ticket history))

    ground : Ground setting width most_readers history call first last
    ground = record { few = few; tracking = tracking; inside = inside; legal = legal; order = in-order find }

    near : (t : ℕ) → first ≤ t → t ≤ last
        → setting.distance call.from (standing setting call.sub (before t history)) ≤ away + weight_of moves
    near t low high = stood-near laws setting width most_readers history call.sub first last few tracking legal (in-order find)
        t ticket call.from inside low high since by

    no-less : away + weight_of moves ≤ doubled_by moves away
    no-less =
        let e : 2 ^ 0 ≡ 1 = omega arith in
        let one : radius 0 ≡ 1 = e in
        let some : 1 ≤ radius (length moves) = omega (arith, one, radius-up 0 (length moves) (omega arith)) in
        let turned : (away + weight_of moves) * radius (length moves) ≡ doubled_by moves away = grind arith in
        omega (arith, mul-le-mul_left (away + weight_of moves) some, turned)

-- without a commit within
pub between-commits : FindsMeetingFewMoves → FindsBetweenCommits
between-commits few_moves setting width most_readers history actor call found tickets few tracking inside legal find same =
    let none : moves_within setting call.sub history (first_of tickets) (last_of tickets) ≡ [] =
    drop_of_length-le (take (number call.sub (before (last_of tickets) history)) (moves_of setting call.sub history))
    (omega (
      arith,
      same,
      length-take (number call.sub (before (last_of tickets) history)) (moves_of setting call.sub history),
    )) in
    let bounded : found_weight found ≤ stretch width most_readers * doubled_by [] away
    + 2 * passage setting call.sub (before (first_of tickets) history) =
    subst (λ moves. found_weight found ≤ stretch width most_readers * doubled_by moves away
    + 2 * passage setting call.sub (before (first_of tickets) history)) none
    (few_moves setting width most_readers history actor call found tickets (first_of tickets) few tracking inside legal find
    (omega arith) (in-order find)) in
    let once : doubled_by [] away ≡ away = omega arith in
    omega (arith, bounded, ap (λ n. stretch width most_readers * n) once)
  where
    away : ℕ
    away = setting.distance call.from (standing setting call.sub (before (first_of tickets) history))

-- ---- over plans
pub plan-few-moves : PlansTrack → FindsMeetingFewMoves → PlanFindsMeetingFewMoves
plan-few-moves tracks few_moves plan starts history actor call found tickets ticket few bounds inside legal find since by =
    omega (
      arith,
      few_moves (setting_of plan starts) plan.reach (degree_of plan) history actor call found tickets ticket few
          (tracks plan starts bounds) inside legal find since by,
      once-more (stretch plan.reach (degree_of plan)) reached,
      and-one (degree_of plan) plan.reach reached,
    )
  where
    reached : ℕ
    reached = doubled_by
        (moves_within (setting_of plan starts) call.sub history (first_of tickets) (last_of tickets))
        (distance_at plan starts call history ticket)
