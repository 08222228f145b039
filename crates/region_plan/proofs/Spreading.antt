-- The exponents of distances, as they are written and read.
use Rattle.std.proofs.Common.{rules, ◌≡◌, inl, inr, ℕ, zero, suc, ◌+◌, ◌*◌, ◌^◌, ◌<◌, ◌≤◌, Bool, true, false, List, get_or, length, map, set, sym, take, ◌∙◌, arith}
use Rattle.std.specs.Prelude.{All, nat_le, slice_index, slice_range}
use Rattle.std.proofs.Math.Nat.{pow-le-pow_right, pow-suc}
use Rattle.std.proofs.lemmas.Bool.{cases_lt, false≢true, le-leb, leb-true, lt-leb}
use Rattle.std.proofs.lemmas.Grind.{get_or_default_zero}
use Rattle.std.proofs.lemmas.List.{take_more_set}
use Rattle.std.proofs.lemmas.Nat.{row_fits}
use Rattle.node_set.specs.Balls.{centres, sets}
use Rattle.node_set.specs.Nodes.{Nodes}
use Rattle.node_set.specs.SetLaws.{passing_same}
use Rattle.node_set.specs.Ascending.{sift}
use Rattle.distances.specs.Table.{DistanceTable, IsMetric, IsRowOf, ball_of, dist}
use Rattle.distances.specs.TableLaws.{part_is_row}
use Rattle.region_plan.specs.Spread.{AreExponents, AreExponentsTo, AreMarked, HasExponent, IsExponent}
use Rattle.region_plan.proofs.Exponents.{two}
use Rattle.region_plan.proofs.Making.{more_balls}

-- ---- the exponent that just reaches a distance

pub exponent_is : (d e : ℕ) → d ≤ 2 ^ e → 2 ^ e < 2 * d → IsExponent d e
exponent_is d e reached just i = elim (cases_lt i e) [
  | inl low ↦
      let high : 2 ^ suc i ≤ 2 ^ e = pow-le-pow_right two (omega arith) in
      lt-leb e i low ∙ sym (lt-leb d (2 ^ i) (omega (arith, high, pow-suc 2 i)))
  | inr over ↦
      let high : 2 ^ e ≤ 2 ^ i = pow-le-pow_right two over in
      le-leb e i over ∙ sym (le-leb d (2 ^ i) (omega arith))
]

marked_exponent : (marks : List Bool) (d e : ℕ) → 0 < d → IsExponent d e → get_or marks e false ≡ true
    → HasExponent marks d
marked_exponent marks d e some is mark = record {
  exponent = e;
  marked = mark;
  reached = leb-true d (2 ^ e) (sym (is e) ∙ le-leb e e (omega arith));
  just = above e is;
}
  where
    above : (e : ℕ) → IsExponent d e → 2 ^ e < 2 * d
    above zero is = omega arith
    above (suc j) is = elim (cases_lt (2 ^ j) d) [
      | inl over ↦ omega (arith, pow-suc 2 j)
      | inr within ↦
          absurd (false≢true (sym (lt-leb (suc j) j (omega arith)) ∙ is j ∙ le-leb d (2 ^ j) within))
    ]

-- ---- the table of exponents

place_below : (n u v : ℕ) → u < n → v < n → u * n + v < n * n
place_below n u v u_below v_below = omega (arith, row_fits u n n n u_below (omega arith))

pub marked_all : {table : DistanceTable} {exponents : List ℕ} (marks : List Bool) → AreExponents table exponents
    → ((x : ℕ) → x < length exponents → get_or marks (slice_index exponents x) false ≡ true) → AreMarked table marks
marked_all {table} {exponents} marks are marked u v u_below v_below some =
    marked_exponent marks (dist table u v) (slice_index exponents (u * table.nodes + v)) some
    (are.each u v u_below v_below)
    (marked (u * table.nodes + v) (omega (arith, are.count, place_below table.nodes u v u_below v_below)))

-- a row's distances are small
pub row_small : {table : DistanceTable} {u : ℕ} {row : List ℕ} → IsMetric table → u < table.nodes → IsRowOf table u row
    → All (λ d. d ≤ 2 ^ 30) row
row_small {u} {row} metric below is v d short = grind (
  arith,
  is.each v (omega (arith, short, is.count)),
  metric.bounded u v below (omega (arith, short, is.count)),
  get_or_default_zero,
)

-- and there is room for each
pub row_short : {table : DistanceTable} {u at : ℕ} {row : List ℕ} (exponents : List ℕ) → u < table.nodes
    → at ≡ u * table.nodes → IsRowOf table u row → length exponents ≡ table.nodes * table.nodes
    → at + length row ≤ length exponents
row_short {table} {u} exponents below begins is count =
    omega (arith, row_fits u table.nodes table.nodes table.nodes below (omega arith), begins, is.count, count)

-- one row more
pub row_written : {table : DistanceTable} {u at : ℕ} {row : List ℕ} (old new : List ℕ) → at ≡ u * table.nodes
    → IsRowOf table u row → AreExponentsTo table old u → ((x : ℕ) → x < at → slice_index new x ≡ slice_index old x)
    → ((v : ℕ) → v < length row → IsExponent (slice_index row v) (slice_index new (at + v)))
    → AreExponentsTo table new (u + 1)
row_written {table} {u} {at} old new begins is before kept here w v w_below v_below = grind (arith, cases_lt, row_fits)

-- the numbers of a row within a radius are the ball's nodes
row_within : {table : DistanceTable} {v : ℕ} (radius : ℕ) {row : List ℕ} → IsRowOf table v row
    → sift (λ x. nat_le (slice_index row x) radius) 0 (length row) ≡ ball_of table v radius
row_within {table} {v} radius {row} is = grind (arith, passing_same)

-- the nodes whose exponents are within a level's are those of the ball
pub ball_within : {table : DistanceTable} {exponents row : List ℕ} (v i : ℕ) → AreExponents table exponents
    → v < table.nodes → row ≡ slice_range exponents (v * table.nodes) ((v + 1) * table.nodes)
    → sift (λ x. nat_le (slice_index row x) i) 0 (length row) ≡ ball_of table v (2 ^ i)
ball_within {table} {exponents} v i are below is = search (rules, row_within, part_is_row, passing_same)

-- one ball more
pub ball_filled : {table : DistanceTable} {exponents row : List ℕ} (v i : ℕ) (balls : List Nodes) (ball : Nodes)
    → AreExponents table exponents → v < table.nodes → length balls ≡ table.nodes
    → row ≡ slice_range exponents (v * table.nodes) ((v + 1) * table.nodes)
    → sets (take v balls) ≡ map (λ u. ball_of table u (2 ^ i)) (centres v)
    → ball.members ≡ sift (λ x. nat_le (slice_index row x) i) 0 (length row)
    → sets (take (v + 1) (set balls v ball)) ≡ map (λ u. ball_of table u (2 ^ i)) (centres (v + 1))
ball_filled {table} v i balls ball are below count is before made =
    more_balls table (2 ^ i) v (take v balls) ball before (made ∙ ball_within v i are below is)
    (take_more_set balls v ball (omega (arith, count)))
