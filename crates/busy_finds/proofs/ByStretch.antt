-- No find weighs more than its price by the stretch.
use Rattle.std.proofs.Common.{List, Some, [], ap, arith, drop, fold, inl, inr, max, refl, subst, suc, sym, take, true, zero, ℕ, ◌*◌, ◌+◌, ◌-◌, ◌<◌, ◌^◌, ◌∙◌, ◌∷◌, ◌≡◌, ◌≤◌}
use Rattle.std.specs.Prelude.{slice_get, sum_by}
use Rattle.std.proofs.Math.Nat.{mul-le-mul_left, mul_left_comm}
use Rattle.std.proofs.lemmas.Bool.{cases_eq, cases_lt}
use Rattle.std.proofs.lemmas.List.{append-nil, take-append-drop, take-take}
use Rattle.std.proofs.lemmas.List.Sums.{sum_by-append}
use Rattle.node_set.specs.Ascending.{has}
use Rattle.directory.specs.Settings.{levels, Setting}
use Rattle.directory.specs.Courses.{Move}
use Rattle.directory.specs.Finds.{FindCall, Reader, all_readers, way_in}
use Rattle.directory.specs.Histories.{before, History}
use Rattle.directory.specs.Looks.{first_of, IsFind, last_of}
use Rattle.directory.specs.Parts.{climb_weight}
use Rattle.directory.specs.Standing.{number, passage, standing}
use Rattle.directory.specs.declared.answers.Found.{Found}
use Rattle.stretch_laws.specs.Tracking.{radius, stretch}
use Rattle.busy_finds.specs.LawsBelow.{PriceLaws}
use Rattle.busy_finds.specs.Prices.{FindsHaveTheirPrice, greatest_threshold, moves_within, price, weight_of}
use Rattle.busy_finds.specs.Within.{IsWithin, moves_of}
use Rattle.busy_finds.proofs.Beyond.{Ground}
use Rattle.busy_finds.proofs.Fronts.{moves-in-place, number-more}
use Rattle.busy_finds.proofs.Looks.{Climbed, in-rows, IsMetAt, looks-end, rows, WasEmpty, WereEmpty}
use Rattle.busy_finds.proofs.Sums.{travelled}
use Rattle.busy_finds.proofs.Tickets.{stands-in}
use Rattle.busy_finds.proofs.Price.{doubled, find-on, home-near, home-read, near_home, radius-up, renewed-within, Terms}

-- the sum of what a find pays
spread-out : (m w x : ℕ) → stretch w m * x ≡ 16 * (m * (w * x)) + 12 * (w * x) + 5 * x
spread-out m w x = grind arith

priced : (m w r x : ℕ) → 1 ≤ w → r ≤ 4 * x → 4 * (m * (w * r)) + 2 * (w * r) + r + 5 * x ≤ stretch w m * x
priced m w r x some small =
    let wide : w * r ≤ 4 * (w * x) = omega (arith, mul-le-mul_left w small, mul_left_comm w 4 x) in
    let turned : x * w ≡ w * x = grind arith in
    omega (
      arith,
      spread-out m w x,
      wide,
      mul-le-mul_left m wide,
      mul_left_comm m 4 (w * x),
      small,
      mul-le-mul_left x some,
      turned,
    )

-- how high a climb goes, where it meets an address and where it meets none: no radius is more than four times a reach
pub record ClimbsTo (setting : Setting) (history : History) (call : FindCall) (first last reach : ℕ) : Type 0 where
  pub met : (t : ℕ) (passed : List Reader) (r : Reader) → t ≤ last
      → 1 ≤ setting.distance call.from (standing setting call.sub (before first history))
      → IsMetAt setting history call first t 0 (levels setting) passed r → WereEmpty setting history call first t passed
      → radius r.level ≤ 4 * reach
  pub missed : (t weight : ℕ) → t ≤ last
      → 1 ≤ setting.distance call.from (standing setting call.sub (before first history))
      → Climbed setting history call first t weight [] → radius setting.top ≤ 4 * reach

-- ---- by the levels that the moves within renew
module _ (laws : PriceLaws) (setting : Setting) (width most_readers : ℕ) (history : History) (call : FindCall)
    (first last : ℕ) (ground : Ground setting width most_readers history call first last) (reach : ℕ)
    (far_enough : setting.distance call.from (standing setting call.sub (before first history)) ≤ reach)
    (renews : (move : Move) → IsWithin setting call.sub history first last move → radius move.renewed ≤ 2 * reach) where
  abbrev home_of : ℕ → ℕ
  home_of level = near_home laws setting width most_readers history call first last ground level

  abbrev away : ℕ
  away = setting.distance call.from (standing setting call.sub (before first history))

  reached : (t level : ℕ) → t ≤ last → level ≤ setting.top
      → WasEmpty setting history call first t (record { level = level; cluster = setting.home level (home_of level) })
      → radius level ≤ 2 * reach
  reached t level by low was =
      let within = renewed-within laws setting width most_readers history call first last ground t level by low was in
      omega (arith, radius-up level within.0.renewed within.1, renews within.0 within.2)

  height : (t : ℕ) (passed : List Reader) (r : Reader) → t ≤ last → 1 ≤ away
      → IsMetAt setting history call first t 0 (levels setting) passed r → radius r.level ≤ 4 * reach
  height t passed r by some met = at_level r.level (omega arith) met.high met.below
    where
      at_level : (i : ℕ) → i ≤ r.level → i < 0 + levels setting
          → ((level c : ℕ) → 0 ≤ level → level < i → has c (setting.readers level call.from) ≡ true
          → WasEmpty setting history call first t (record { level = level; cluster = c }))
          → radius i ≤ 4 * reach
      at_level zero under high were = let e : 2 ^ 0 ≡ 1 = omega arith in
          let one : radius 0 ≡ 1 = e in omega (arith, one, some, far_enough)
      at_level (suc i) under high were = elim (cases_lt (radius i) (2 * away)) [
        | inl far ↦ omega (arith, far, doubled i, far_enough)
        | inr near ↦
            let home = home-near laws setting width most_readers history call first last ground i (omega (arith, high)) in
            omega (
              arith,
              doubled i,
              reached t i by (omega (arith, high)) (were i (setting.home i (home_of i)) (omega arith) (omega arith)
                  (ground.tracking.read i (home_of i) call.from (omega (arith, high)) home.inside ground.inside
                  (home-read laws setting width most_readers history call first last ground i (omega (arith, high)) near))),
            )
      ]

  top-height : (t weight : ℕ) → t ≤ last → Climbed setting history call first t weight [] → radius setting.top ≤ 2 * reach
  top-height t weight by c =
      let home = home-near laws setting width most_readers history call first last ground setting.top (omega arith) in
      reached t setting.top by (omega arith) (in-rows setting history call first t 0 (levels setting) setting.top
      (setting.home setting.top (home_of setting.top)) (omega arith) (omega arith)
      (ground.tracking.whole (home_of setting.top) call.from home.inside ground.inside)
      (subst (λ xs. WereEmpty setting history call first t xs) (sym (c.all ∙ append-nil c.passed)) c.empty))

  by-renewals : ClimbsTo setting history call first last reach
  by-renewals = record {
    met = λ t passed r by some met were. height t passed r by some met;
    missed = λ t weight by some c. omega (arith, top-height t weight by c);
  }

-- ---- the price by the stretch
module _ (laws : PriceLaws) (setting : Setting) (width most_readers : ℕ) (history : History) (call : FindCall)
    (first last : ℕ) (ground : Ground setting width most_readers history call first last) (reach spent most : ℕ)
    (climbs : ClimbsTo setting history call first last reach)
    (pays : stretch width most_readers * reach + setting.distance call.from (standing setting call.sub (before first history))
    + 2 * passage setting call.sub (before first history) + spent ≤ most + 5 * reach) where
  abbrev far_away : ℕ
  far_away = setting.distance call.from (standing setting call.sub (before first history))

  -- what the reading up to a level weighs
  reading : (level : ℕ) → level ≤ setting.top → climb_weight setting call (rows setting history call first 0 (suc level))
      ≤ 4 * (most_readers * (width * radius level))
  reading level low = laws.reading setting width most_readers call level ground.tracking ground.inside low

  -- from the leader of a home
  from-leader : (i v : ℕ) → i ≤ setting.top → v < setting.nodes
      → setting.distance (setting.leader i (setting.home i v)) v ≤ width * radius i
  from-leader i v low inside =
      let reads : has (setting.home i v) (setting.readers i v) ≡ true =
      ground.tracking.read i v v low inside inside (omega (arith, ground.tracking.metric.none v inside)) in
      omega (
        arith,
        ground.tracking.far i (setting.home i v) v low inside reads,
        ground.tracking.wide i (setting.home i v) v low inside reads,
      )

  -- clusters have some width, where not all nodes are one
  some-wide : 1 ≤ far_away → 1 ≤ width
  some-wide some = elim (cases_eq width 0) [
    | inl none ↦
        let z : ℕ = standing setting call.sub (before first history) in
        let top : ℕ = setting.home setting.top z in
        let inside : z < setting.nodes = stands-in laws.marks setting call.sub history ground.few ground.legal first in
        let reads : has top (setting.readers setting.top call.from) ≡ true =
        ground.tracking.whole z call.from inside ground.inside in
        let led : setting.leader setting.top top < setting.nodes =
        ground.tracking.led setting.top top call.from (omega arith) ground.inside reads in
        let nothing : width * radius setting.top ≡ 0 =
        ap (λ n. n * radius setting.top) none ∙ (let e : 0 * radius setting.top ≡ 0 = grind arith in e) in
        absurd (omega (
          arith,
          some,
          nothing,
          from-leader setting.top z (omega arith) inside,
          ground.tracking.far setting.top top call.from (omega arith) ground.inside reads,
          ground.tracking.wide setting.top top call.from (omega arith) ground.inside reads,
          ground.tracking.metric.detour call.from (setting.leader setting.top top) z ground.inside led inside,
          ground.tracking.metric.both_ways call.from (setting.leader setting.top top) ground.inside led,
        ))
    | inr wide ↦ omega (arith, wide)
  ]

  stretch-meets : (t : ℕ) (passed : List Reader) (r : Reader) (v : ℕ) → t ≤ last → 1 ≤ far_away
      → IsMetAt setting history call first t 0 (levels setting) passed r → WereEmpty setting history call first t passed
      → v < setting.nodes → r.cluster ≡ setting.home r.level v
      → climb_weight setting call passed + 2 * way_in setting call r + 2 * setting.distance (setting.leader r.level r.cluster) v
      + 2 * setting.threshold r.level + far_away + 2 * passage setting call.sub (before first history) + spent ≤ most + 2
  stretch-meets t passed r v by some met were inside home =
      let level : r.level ≤ setting.top = omega (arith, met.high) in
      omega (
        arith,
        met.weighs r.level (omega arith),
        reading r.level level,
        from-leader r.level v level inside,
        ap (λ n. setting.distance (setting.leader r.level n) v) home,
        ground.tracking.halves r.level level,
        priced most_readers width (radius r.level) reach (some-wide some) (climbs.met t passed r by some met were),
        pays,
      )

  -- a find without an address
  none-paid : (t weight : ℕ) → t ≤ last → 1 ≤ far_away → Climbed setting history call first t weight [] → weight ≤ most
  none-paid t weight by some c = omega (
    arith,
    c.weighs,
    ap (climb_weight setting call) (let all : all_readers setting call.from ≡ c.passed = c.all ∙ append-nil c.passed in all),
    reading setting.top (omega arith),
    priced most_readers width (radius setting.top) reach (some-wide some) (climbs.missed t weight by some c),
    pays,
  )

  pub by-stretch : travelled (moves_of setting call.sub history) (number call.sub (before last history))
      ≡ travelled (moves_of setting call.sub history) (number call.sub (before first history)) + spent
      → Terms setting width most_readers history call first last spent most
  by-stretch spends = record {
    ground = ground;
    spends = spends;
    least = omega (arith, pays, spread-out most_readers width reach);
    meets = λ t passed later r v by some all met were inside home. stretch-meets t passed r v by some met were inside home;
    misses = λ t weight by some c. none-paid t weight by some c;
  }

-- ---- the terms of a find
pub in-dropped : {A : Type 0} (xs : List A) (b i : ℕ) → slice_get (drop b xs) i ≡ slice_get xs (b + i)
in-dropped xs zero i = let e : 0 + i ≡ i = omega arith in rw e refl
in-dropped [] (suc b) i = refl
in-dropped (x ∷ xs) (suc b) i = let e : suc b + i ≡ suc (b + i) = omega arith in rw e (in-dropped xs b i)

in-taken : {A : Type 0} (n : ℕ) (xs : List A) (i : ℕ) → i < n → slice_get (take n xs) i ≡ slice_get xs i
in-taken zero xs i low = absurd (omega (arith, low))
in-taken (suc n) [] i low = refl
in-taken (suc n) (x ∷ xs) zero low = refl
in-taken (suc n) (x ∷ xs) (suc i) low = in-taken n xs i (omega (arith, low))

greatest-grows : (setting : Setting) (xs : List Move) (most : ℕ)
    → most ≤ fold (λ most (move : Move). max most (setting.threshold move.renewed)) most xs
greatest-grows setting [] most = omega arith
greatest-grows setting (x ∷ xs) most =
    omega (arith, greatest-grows setting xs (max most (setting.threshold x.renewed)))

pub greatest-has : (setting : Setting) (xs : List Move) (most i : ℕ) (move : Move) → slice_get xs i ≡ Some move
    → setting.threshold move.renewed ≤ fold (λ most (m : Move). max most (setting.threshold m.renewed)) most xs
greatest-has setting [] most i move h = cc
greatest-has setting (x ∷ xs) most zero move h =
    let e : x ≡ move = cc in
    omega (
      arith,
      greatest-grows setting xs (max most (setting.threshold x.renewed)),
      ap (λ (m : Move). setting.threshold m.renewed) e,
    )
greatest-has setting (x ∷ xs) most (suc i) move h =
    greatest-has setting xs (max most (setting.threshold x.renewed)) i move h

-- a move within is one of the moves within
pub within-listed : (setting : Setting) (sub : ℕ) (history : History) (first last : ℕ) (move : Move)
    → IsWithin setting sub history first last move
    → slice_get (moves_within setting sub history first last) (move.number - 1 - number sub (before first history))
    ≡ Some move
within-listed setting sub history first last move is =
    in-dropped (take (number sub (before last history)) (moves_of setting sub history)) (number sub (before first history))
    (move.number - 1 - number sub (before first history))
    ∙ (ap (slice_get (take (number sub (before last history)) (moves_of setting sub history)))
    (let e : number sub (before first history) + (move.number - 1 - number sub (before first history)) ≡ move.number - 1 =
    omega (arith, is.after) in e)
    ∙ (in-taken (number sub (before last history)) (moves_of setting sub history) (move.number - 1)
    (omega (arith, is.after, is.by)) ∙ is.is))

-- what the moves within weigh
pub spent-within : (setting : Setting) (sub : ℕ) (history : History) (first last : ℕ) → first ≤ last
    → travelled (moves_of setting sub history) (number sub (before last history))
    ≡ travelled (moves_of setting sub history) (number sub (before first history))
    + weight_of (moves_within setting sub history first last)
spent-within setting sub history first last h =
    let n : ℕ = number sub (before first history) in
    let m : ℕ = number sub (before last history) in
    let front : take n (take m (moves_of setting sub history)) ≡ take n (moves_of setting sub history) =
    take-take n m (moves_of setting sub history) (number-more sub first last history h) in
    ap (sum_by (λ (x : Move). x.weight)) (sym (take-append-drop n (take m (moves_of setting sub history))))
    ∙ (sum_by-append (λ (x : Move). x.weight) (take n (take m (moves_of setting sub history)))
    (drop n (take m (moves_of setting sub history)))
    ∙ ap (λ xs. sum_by (λ (x : Move). x.weight) xs + weight_of (moves_within setting sub history first last)) front)

-- the first look of a find isn't after its last
pub in-order : {setting : Setting} {history : History} {actor : ℕ} {call : FindCall} {found : Found} {tickets : List ℕ}
    → IsFind setting history actor call found tickets → first_of tickets ≤ last_of tickets
in-order {setting} {history} {actor} {call} {found} {tickets} find =
    looks-end setting history actor call (last_of tickets) (λ t pursuit. first_of tickets ≤ t)
    (λ t u pursuit key later by is_look wanted now. omega (arith, now, later)) tickets find (omega arith)
    (λ t key at_first by is_look wanted. omega (arith, at_first))

pub have-price : PriceLaws → FindsHaveTheirPrice
have-price laws setting width most_readers history actor call found tickets few tracking half inside legal find =
    find-on laws setting width most_readers history call (first_of tickets) (last_of tickets) (weight_of moves)
    (price setting width most_readers call (before (first_of tickets) history) moves)
    (by-stretch laws setting width most_readers history call (first_of tickets) (last_of tickets) ground reach
    (weight_of moves) _
    (by-renewals laws setting width most_readers history call (first_of tickets) (last_of tickets) ground reach
    (omega arith)
    (λ move is. omega (
      arith,
      greatest-has setting moves 0 _ move
          (within-listed setting call.sub history (first_of tickets) (last_of tickets) move is),
      half move.renewed (((moves-in-place history legal).each (move.number - 1) move is.is).low),
    )))
    (omega arith)
    (spent-within setting call.sub history (first_of tickets) (last_of tickets) (in-order find)))
    actor found tickets refl refl find
  where
    moves : List Move
    moves = moves_within setting call.sub history (first_of tickets) (last_of tickets)

    reach : ℕ
    reach = max (setting.distance call.from (standing setting call.sub (before (first_of tickets) history)))
        (greatest_threshold setting moves)

    ground : Ground setting width most_readers history call (first_of tickets) (last_of tickets)
    ground = record { few = few; tracking = tracking; inside = inside; legal = legal; order = in-order find }
