-- What a find pays where its climb ends at or below a level.
use Rattle.std.proofs.Common.{append_assoc, ◌≡◌, ◌≢◌, ◌⊎◌, inl, inr, ℕ, zero, suc, ◌+◌, ◌-◌, ◌*◌, ◌<◌, ◌≤◌, ◌==◌, max, Bool, true, false, cond, List, [], ◌∷◌, ◌++◌, map, refl, sym, ap, ◌∙◌, subst, arith}
use Rattle.std.proofs.lemmas.Bool.{cases_eq, cases_lt, eq-eqb}
use Rattle.std.proofs.lemmas.List.{append-nil}
use Rattle.std.proofs.lemmas.List.Sums.{sum_by-cons}
use Rattle.node_set.specs.Ascending.{has}
use Rattle.directory.specs.Settings.{levels, Setting}
use Rattle.directory.specs.Finds.{all_readers, FindCall, Reader, way_in}
use Rattle.directory.specs.Histories.{before, History}
use Rattle.directory.specs.Looks.{first_of, last_of}
use Rattle.directory.specs.Parts.{climb_weight}
use Rattle.directory.specs.Standing.{number, passage, standing}
use Rattle.directory.specs.Writes.{numbers_from}
use Rattle.stretch_laws.specs.Costs.{readers_up_to}
use Rattle.stretch_laws.specs.Tracking.{radius}
use Rattle.busy_finds.specs.LawsBelow.{PriceLaws}
use Rattle.busy_finds.specs.Levels.{cost_up_to, dearest, EndsBy, farthest, farthest_of, FindsEndByLevel, inside_of}
use Rattle.busy_finds.specs.Prices.{moves_within, weight_of}
use Rattle.busy_finds.specs.Within.{moves_of}
use Rattle.busy_finds.proofs.Beyond.{Ground}
use Rattle.busy_finds.proofs.Looks.{Climbed, in-rows, WasEmpty, IsMetAt, met-at, rows, WereEmpty, were-order, were-since, were-split}
use Rattle.busy_finds.proofs.ByStretch.{in-order, spent-within}
use Rattle.busy_finds.proofs.Price.{find-on, home-near, IsNearHome, near_home, renewed-within, Terms}
use Rattle.busy_finds.proofs.Sums.{travelled}
use Rattle.busy_finds.proofs.Tickets.{stands-in}

-- no node that is homed there is farther
far-enough : (setting : Setting) (level node from count : ℕ) → from ≤ node → node < from + count
    → setting.distance (setting.leader level (setting.home level node)) node
    ≤ farthest_of setting level (setting.home level node) (numbers_from from count)
far-enough setting level node from zero low high = absurd (omega arith)
far-enough setting level node from (suc count) low high = elim (cases_eq from node) [
  | inl same ↦ rw (same, eq-eqb (setting.home level node) (setting.home level node) refl) (omega arith)
  | inr apart ↦ at_test (setting.home level from == setting.home level node)
      (far-enough setting level node (suc from) count (omega arith) (omega arith))
]
  where
    at_test : (b : Bool) → setting.distance (setting.leader level (setting.home level node)) node
        ≤ farthest_of setting level (setting.home level node) (numbers_from (suc from) count)
        → setting.distance (setting.leader level (setting.home level node)) node
        ≤ cond b (max (setting.distance (setting.leader level (setting.home level node)) from)
        (farthest_of setting level (setting.home level node) (numbers_from (suc from) count)))
        (farthest_of setting level (setting.home level node) (numbers_from (suc from) count))
    at_test true rest = omega (arith, rest)
    at_test false rest = rest

module _ (setting : Setting) (call : FindCall) where
  -- the reading costs no more
  reading-costs : (weight : ℕ) (readers : List Reader)
      → weight + climb_weight setting call readers ≤ dearest setting call.from weight readers
  reading-costs weight [] = omega arith
  reading-costs weight (reader ∷ later) = omega (
    arith,
    sum_by-cons (λ (r : Reader). 2 * way_in setting call r) reader later,
    reading-costs (weight + 2 * inside_of setting call.from reader) later,
  )

  -- and neither does an address behind some of them
  address-costs : (weight : ℕ) (passed later : List Reader) (r : Reader)
      → weight + climb_weight setting call passed + 2 * way_in setting call r + 2 * farthest setting r
      + 2 * setting.threshold r.level ≤ dearest setting call.from weight (passed ++ r ∷ later) + 2
  address-costs weight [] later r = omega arith
  address-costs weight (reader ∷ passed) later r = omega (
    arith,
    sum_by-cons (λ (x : Reader). 2 * way_in setting call x) reader passed,
    address-costs (weight + 2 * inside_of setting call.from reader) passed later r,
  )

  -- a reader of a list that is parted stands in the first part, or behind it
  in-either : (xs ys zs ws : List Reader) (r : Reader) → xs ++ ys ≡ zs ++ r ∷ ws
      → ((left : List Reader) × (xs ≡ zs ++ r ∷ left))
      ⊎ ((more : List Reader) × (zs ≡ xs ++ more) × (ys ≡ more ++ r ∷ ws))
  in-either [] ys zs ws r same = inr (zs, refl, same)
  in-either (x ∷ xs) ys [] ws r same = let e : x ≡ r = cc in inl (xs, ap (λ y. y ∷ xs) e)
  in-either (x ∷ xs) ys (z ∷ zs) ws r same =
      let e : x ≡ z = cc in
      let rest : xs ++ ys ≡ zs ++ r ∷ ws = cc in
      elim (in-either xs ys zs ws r rest) [
        | inl here ↦ inl (here.0, subst (λ y. x ∷ xs ≡ y ∷ (zs ++ r ∷ here.0)) e (ap (λ us. x ∷ us) here.1))
        | inr on ↦ inr (on.0, subst (λ y. y ∷ zs ≡ x ∷ (xs ++ on.0)) e (ap (λ us. x ∷ us) on.1), on.2)
      ]

module _ (laws : PriceLaws) (setting : Setting) (width most_readers : ℕ) (history : History) (call : FindCall)
    (first last : ℕ) (ground : Ground setting width most_readers history call first last) (level : ℕ)
    (low : level ≤ setting.top) (ends : EndsBy setting history call first last level) where
  abbrev far_away : ℕ
  far_away = setting.distance call.from (standing setting call.sub (before first history))

  abbrev home_of : ℕ → ℕ
  home_of i = near_home laws setting width most_readers history call first last ground i

  rows-part : (from m k : ℕ) → rows setting history call first from (m + k)
      ≡ rows setting history call first from m ++ rows setting history call first (m + from) k
  rows-part from zero k =
      let e : 0 + k ≡ k = omega arith in
      let f : 0 + from ≡ from = omega arith in
      ap (rows setting history call first from) e ∙ sym (ap (λ n. rows setting history call first n k) f)
  rows-part from (suc m) k =
      let e : suc m + k ≡ suc (m + k) = omega arith in
      let f : m + suc from ≡ suc m + from = omega arith in
      ap (rows setting history call first from) e
      ∙ (ap (λ xs. map (λ c. record { level = from; cluster = c }) (setting.readers from call.from) ++ xs)
      (rows-part (suc from) m k ∙ ap (λ n. rows setting history call first (suc from) m
      ++ rows setting history call first n k) f)
      ∙ sym (append_assoc (map (λ c. record { level = from; cluster = c }) (setting.readers from call.from))
      (rows setting history call first (suc from) m) (rows setting history call first (suc m + from) k)))

  -- the readers up to the level begin those of all levels
  all-parts : all_readers setting call.from ≡ readers_up_to setting call.from level
      ++ rows setting history call first (suc level) (setting.top - level)
  all-parts =
      let e : suc level + (setting.top - level) ≡ levels setting = omega (arith, low) in
      let f : suc level + 0 ≡ suc level = omega arith in
      sym (ap (rows setting history call first 0) e) ∙ (rows-part 0 (suc level) (setting.top - level)
      ∙ ap (λ n. readers_up_to setting call.from level ++ rows setting history call first n (setting.top - level)) f)

  -- where the level isn't the top one, its home had an address all along
  never-missed : (t : ℕ) → t ≤ last → level ≢ setting.top
      → (((c : ℕ) → has c (setting.readers level call.from) ≡ true
      → WasEmpty setting history call first t (record { level = level; cluster = c }))) → ⊥
  never-missed t by below were = elim ends [
    | inl top ↦ below top
    | inr still ↦
        let home : IsNearHome laws setting width most_readers history call first last ground level =
        home-near laws setting width most_readers history call first last ground level low in
        let way : setting.distance (home_of level) call.from ≤ radius level = omega (
          arith,
          still.0,
          home.near,
          ground.tracking.metric.detour (home_of level) (standing setting call.sub (before first history)) call.from
              home.inside (stands-in laws.marks setting call.sub history ground.few ground.legal first) ground.inside,
          ground.tracking.metric.both_ways call.from (standing setting call.sub (before first history)) ground.inside
              (stands-in laws.marks setting call.sub history ground.few ground.legal first),
        ) in
        let found = renewed-within laws setting width most_readers history call first last ground t level by low
        (were (setting.home level (home_of level))
        (ground.tracking.read level (home_of level) call.from low home.inside ground.inside way)) in
        omega (arith, found.1, still.1 found.0 found.2)
  ]

  -- so the reader that has an address is of this level at most
  met-low : (t : ℕ) (passed : List Reader) (r : Reader) → t ≤ last
      → IsMetAt setting history call first t 0 (levels setting) passed r → r.level ≤ level
  met-low t passed r by met = elim (cases_lt level r.level) [
    | inr under ↦ under
    | inl over ↦ absurd (never-missed t by (λ top. omega (arith, top, over, met.high))
        (λ c reads. met.below level c (omega arith) over reads))
  ]

  part-of : (t : ℕ) (passed later : List Reader) (r : Reader) → r.level ≤ level
      → all_readers setting call.from ≡ passed ++ r ∷ later → WereEmpty setting history call first t passed
      → (left : List Reader) × (readers_up_to setting call.from level ≡ passed ++ r ∷ left)
  part-of t passed later r under all were =
      elim (in-either setting call (readers_up_to setting call.from level)
      (rows setting history call first (suc level) (setting.top - level)) passed later r (sym all-parts ∙ all)) [
        | inl here ↦ here
        | inr on ↦
            let parts = were-split setting history call first t (readers_up_to setting call.from level) on.0
            (subst (λ xs. WereEmpty setting history call first t xs) on.1 were) in
            absurd (omega (
              arith,
              under,
              (met-at setting history call first t (suc level) (setting.top - level) on.0 later r on.2
                  (were-since setting history call first parts.0 t on.0
                  (were-order setting history call first parts.0 (readers_up_to setting call.from level) parts.1)
                  parts.2)).low,
            ))
      ]

  level-terms : (spent : ℕ) → travelled (moves_of setting call.sub history) (number call.sub (before last history))
      ≡ travelled (moves_of setting call.sub history) (number call.sub (before first history)) + spent
      → Terms setting width most_readers history call first last spent
      (cost_up_to setting call.from level + far_away + 2 * passage setting call.sub (before first history) + spent)
  level-terms spent spends = record {
    ground = ground;
    spends = spends;
    least = omega arith;
    meets = λ t passed later r v by some all met were inside home.
        let part = part-of t passed later r (met-low t passed r by met) all were in
        omega (
          arith,
          subst (λ xs. 0 + climb_weight setting call passed + 2 * way_in setting call r + 2 * farthest setting r
              + 2 * setting.threshold r.level ≤ dearest setting call.from 0 xs + 2) (sym part.1)
              (address-costs setting call 0 passed part.0 r),
          subst (λ n. setting.distance (setting.leader r.level n) v
              ≤ farthest_of setting r.level n (numbers_from 0 setting.nodes)) (sym home)
              (far-enough setting r.level v 0 setting.nodes (omega arith) (omega (arith, inside))),
        );
    misses = λ t weight by some c. miss t weight by c;
  }
    where
      miss : (t weight : ℕ) → t ≤ last → Climbed setting history call first t weight []
          → weight ≤ cost_up_to setting call.from level + far_away + 2 * passage setting call.sub (before first history) + spent
      miss t weight by c = elim (cases_eq level setting.top) [
        | inl top ↦
            let all : readers_up_to setting call.from level ≡ c.passed =
            ap (readers_up_to setting call.from) top ∙ (c.all ∙ append-nil c.passed) in
            omega (
              arith,
              c.weighs,
              ap (climb_weight setting call) all,
              reading-costs setting call 0 (readers_up_to setting call.from level),
            )
        | inr below ↦ absurd (never-missed t by below (λ k reads. in-rows setting history call first t 0 (levels setting)
            level k (omega arith) (omega (arith, low)) reads (subst (λ xs. WereEmpty setting history call first t xs)
            (sym (c.all ∙ append-nil c.passed)) c.empty)))
      ]

pub end-by-level : PriceLaws → FindsEndByLevel
end-by-level laws setting width most_readers history actor call found tickets level few tracking inside legal find low ends =
    find-on laws setting width most_readers history call (first_of tickets) (last_of tickets)
    (weight_of (moves_within setting call.sub history (first_of tickets) (last_of tickets))) _
    (level-terms laws setting width most_readers history call (first_of tickets) (last_of tickets)
    (record { few = few; tracking = tracking; inside = inside; legal = legal; order = in-order find }) level low ends _
    (spent-within setting call.sub history (first_of tickets) (last_of tickets) (in-order find)))
    actor found tickets refl refl find
