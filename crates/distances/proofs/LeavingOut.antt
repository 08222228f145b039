-- Leaving out all nodes, one after another.
use Rattle.std.proofs.Common.{rules, ◌≡◌, ◌≢◌, ℕ, ◌+◌, ◌*◌, ◌<◌, ◌≤◌, Bool, true, false, cond, min, List, Some, [], ◌∷◌, ◌++◌, length, get_or, set, replicate, refl, sym, ◌∙◌, inl, inr, arith}
use Rattle.std.specs.Prelude.{All, Contains}
use Rattle.std.proofs.lemmas.List.{length-set, get_or-set_same, get_or-set_other, get_or-replicate, length-replicate}
use Rattle.std.proofs.lemmas.List.Elements.{All-nil, All-pop, All-push, All-contains, All-weaker}
use Rattle.std.proofs.lemmas.Nat.{same_from_place, row_fits}
use Rattle.std.proofs.lemmas.List.Edits.{length-between, get_or-between}
use Rattle.std.proofs.lemmas.List.Sums.{sum_by-set}
use Rattle.std.specs.List.{between, sum_by}
use Rattle.net_graph.specs.WalkLaws.{among_below}
use Rattle.net_graph.specs.Walks.{among}
use Rattle.distances.specs.declared.near_nodes.Near.{Near}
use Rattle.distances.specs.declared.elimination.LeftOut.{LeftOut}
use Rattle.distances.specs.declared.weights.TheConstants.{FAR}
use Rattle.distances.specs.Lowering.{Among, AreNearBelow, IsLowered, IsWithin, PairOffer, cell_at}
use Rattle.distances.specs.NodesLeftOut.{AreLengths, AreLeftOut, IsFresh, AreAllLeftOut, KeepsLengths, IsLeftOutWithin, make_near}
use Rattle.distances.specs.NodesLeftOut.AreLeftOut.{none, more}
use Rattle.distances.proofs.OneLess.{kept_without, is_left_out}
use Rattle.distances.proofs.Lowered.{lowered_light}

-- what leaving out nodes keeps
pub record IsLeavingSome (n width : ℕ) (first : List ℕ) (left : List Bool) (left_out : List LeftOut)
    (table : List ℕ) : Type 0 where
  pub left_count : length left ≡ n
  pub count : length table ≡ n * width
  pub light : All (λ w. w ≤ FAR) table
  pub within : All (IsLeftOutWithin n) left_out
  pub left_is_fresh : (x : ℕ) → among left x ≡ true → IsFresh n left_out x
  pub fresh_is_left : (x : ℕ) → IsFresh n left_out x → among left x ≡ true
  pub keeps : (d : ℕ → ℕ → ℕ) → AreLengths n d → KeepsLengths (λ x. x < n) (cell_at width first) d
      → KeepsLengths (IsFresh n left_out) (cell_at width table) d
  pub holds : (d : ℕ → ℕ → ℕ) → AreLengths n d → KeepsLengths (λ x. x < n) (cell_at width first) d → AreLeftOut n d
      left_out

-- one more node is left out
module _ (n width : ℕ) (wide : n ≤ width) (first : List ℕ) (left : List Bool) (left_out : List LeftOut) (old : List ℕ)
    (so_far : IsLeavingSome n width first left left_out old)
    (s : LeftOut) (was_left : among left s.node ≡ true) (row : List ℕ) (row_count : length row ≡ n)
    (is_row : (x : ℕ) → x < n → get_or row x 0 ≡ cell_at width old s.node x)
    (are_near : AreNearBelow (length row) row (λ x. among (set left s.node false) x ≡ true) s.near.items)
    (table : List ℕ) (lowered : IsLowered (Among s.near.items (λ a. Among s.near.items (PairOffer width a))) old table)
  where
    abbrev v : ℕ
    v = s.node

    abbrev was : ℕ → Type 0
    was = IsFresh n left_out

    abbrev now : ℕ → Type 0
    now = IsFresh n (left_out ++ s ∷ [])

    abbrev IsNear : Near → Type 0
    IsNear a = (among (set left v false) a.node ≡ true) × (a.node < length row) × (a.weight ≡ get_or row a.node 0)
        × (a.weight < FAR)

    fewer : (x : ℕ) → now x → was x × (x ≢ v)
    fewer x h =
        let parts = All-pop (λ (t : LeftOut). t.node ≢ x) (left_out ++ s ∷ []) left_out (Some s) refl h.1 in
        ((h.0, parts.0), λ e. parts.1 (sym e))

    rest : (x : ℕ) → was x → x ≢ v → now x
    rest x h other =
        (h.0, All-push (λ (t : LeftOut). t.node ≢ x) left_out s h.1 (λ e. other (sym e)))

    now_left : (x : ℕ) → now x → among (set left v false) x ≡ true
    now_left x h = grind (arith, get_or-set_other, fewer x h)

    left_now : (x : ℕ) → among (set left v false) x ≡ true → now x
    left_now x h =
        let kept : (among left x ≡ true) × (x ≢ v) = grind (
          arith,
          get_or-set_same left v false false (among_below left v was_left),
          get_or-set_other left v x false false,
        ) in
        rest x (so_far.left_is_fresh x kept.0) kept.1

    near_sound : (x w : ℕ) → Contains s.near.items (make_near x w) → now x × (w ≡ cell_at width old v x) × (w < FAR)
    near_sound x w has = search (rules, All-contains, left_now)

    near_whole : (x : ℕ) → now x → cell_at width old v x < FAR
        → Contains s.near.items (make_near x (cell_at width old v x))
    near_whole x x_now light = search (rules, now_left)

    -- what lowering the cells of near nodes comes to
    pairs_lowered : (a b : ℕ) → now a → now b → cell_at width table a b ≡ min (cell_at width old a b)
        (cell_at width old v a + cell_at width old v b)
    pairs_lowered a b a_now b_now =
        let at : ℕ = a * width + b in
        let most : cell_at width old a b ≤ FAR = so_far.light at 0
        (omega (arith, row_fits a width n width a_now.0 (omega arith), wide, b_now.0, so_far.count)) in
        let reached = λ (a_light : cell_at width old v a < FAR) (b_light : cell_at width old v b < FAR).
        lowered.reached at (cell_at width old v a + cell_at width old v b) (
          make_near a (cell_at width old v a),
          near_whole a a_now a_light,
          (make_near b (cell_at width old v b), near_whole b b_now b_light, (refl, refl)),
        ) in
        elim (lowered.cause at) [
          | inl kept ↦ grind (arith, most, lowered.falls at, reached, kept)
          | inr (p, has_p, (q, has_q, (place, sum))) ↦
              let p_is = near_sound p.node p.weight has_p in
              let q_is = near_sound q.node q.weight has_q in
              let same = same_from_place a b p.node q.node width (omega (arith, wide, b_now.0))
              (omega (arith, wide, q_is.0.0)) place in
              grind (arith, most, lowered.falls at, reached, sum, p_is, q_is, same)
        ]

    pub leaving_step : IsLeavingSome n width first (set left v false) (left_out ++ s ∷ []) table
    leaving_step = record {
      left_count = length-set left v false ∙ so_far.left_count;
      count = lowered.count ∙ so_far.count;
      light = lowered_light FAR lowered so_far.light;
      within = All-push (IsLeftOutWithin n) left_out s so_far.within (record {
        node = (so_far.left_is_fresh v was_left).0;
        near = All-weaker IsNear (IsWithin n)
            (λ (a : Near) is. record { below = (left_now a.node is.0).0; light = omega (arith, is.3) }) s.near.items
            are_near.sound;
      });
      left_is_fresh = left_now;
      fresh_is_left = now_left;
      keeps = λ d lengths begun.
          kept_without n d lengths was now v (λ x h. h.0) (so_far.left_is_fresh v was_left) fewer rest
          (cell_at width old) (cell_at width table) (so_far.keeps d lengths begun) pairs_lowered;
      holds = λ d lengths begun. more left_out s (left_out ++ s ∷ []) refl (so_far.holds d lengths begun)
          (is_left_out n d lengths was now v (λ x h. h.0) (so_far.left_is_fresh v was_left) fewer rest
          (cell_at width old) (cell_at width table) (so_far.keeps d lengths begun) s.near.items near_sound near_whole);
    }

-- the beginning, and the end
pub leaving_begins : (n width : ℕ) (first : List ℕ) → length first ≡ n * width → All (λ w. w ≤ FAR) first
    → IsLeavingSome n width first (replicate n true) [] first
leaving_begins n width first count light = record {
  left_count = length-replicate n true;
  count = count;
  light = light;
  within = All-nil (IsLeftOutWithin n);
  left_is_fresh = search (rules, among_below, length-replicate, All-nil);
  fresh_is_left = λ x h. get_or-replicate n x true false h.0;
  keeps = λ d lengths begun. record {
    sound = λ a b a_fresh b_fresh. begun.sound a b a_fresh.0 b_fresh.0;
    turned = λ a b a_fresh b_fresh. begun.turned a b a_fresh.0 b_fresh.0;
    goes_on = λ a b a_fresh b_fresh apart.
        let g = begun.goes_on a b a_fresh.0 b_fresh.0 apart in
        record {
          next = g.next;
          is_left = (g.is_left, All-nil (λ (s : LeftOut). s.node ≢ g.next));
          other = g.other;
          short = g.short;
        };
  };
  holds = λ d lengths begun. none;
}

pub leaving_ends : {n width : ℕ} {first : List ℕ} {left : List Bool} {left_out : List LeftOut} {table : List ℕ}
    → IsLeavingSome n width first left left_out table → ((x : ℕ) → among left x ≡ true → ⊥)
    → AreAllLeftOut n width first left_out
leaving_ends so_far none_left = record {
  within = so_far.within;
  all = λ x fresh. none_left x (so_far.fresh_is_left x fresh);
  holds = so_far.holds;
}

-- the row of a node that is left ends in the table
pub row_ends : {n width : ℕ} → n ≤ width → {first : List ℕ} {left : List Bool} {left_out : List LeftOut}
    {table : List ℕ} → IsLeavingSome n width first left left_out table → (v : ℕ) → among left v ≡ true
    → v * width + n ≤ length table
row_ends {n} {width} wide so_far v v_left = search (rules, row_fits)

-- the step as the code has it
pub leaving_next : {n width : ℕ} → n ≤ width → {first : List ℕ} {left : List Bool} {left_out later : List LeftOut}
    {old table : List ℕ} (s : LeftOut) {near : List Near} → IsLeavingSome n width first left left_out old
    → (s.node < length left) × (among left s.node ≡ true)
    → AreNearBelow (length (between (s.node * width) (s.node * width + n) old))
    (between (s.node * width) (s.node * width + n) old) (λ x. among (set left s.node false) x ≡ true) s.near.items
    → near ≡ s.near.items → IsLowered (Among near (λ a. Among near (PairOffer width a))) old table
    → later ≡ left_out ++ s ∷ [] → IsLeavingSome n width first (set left s.node false) later table
leaving_next {n} {width} wide {first} {left} {left_out} {old = old} {table} s so_far was_left are_near near_is lowered
    later_is =
    let at : ℕ = s.node * width in
    let end_fits : at + n ≤ length old = row_ends wide so_far s.node was_left.1 in
    rw later_is
    (leaving_step n width wide first left left_out old so_far s was_left.1 (between at (at + n) old)
    (length-between old at (at + n) end_fits ∙ omega arith)
    (λ x below. get_or-between old at (at + n) x 0 (omega arith))
    are_near table (rw (← near_is) lowered))

pub none_left_in : (left : List Bool) → ((x : ℕ) → x < length left → among left x ≡ true → ⊥)
    → (x : ℕ) → among left x ≡ true → ⊥
none_left_in left none_there x h = none_there x (among_below left x h) h

-- one node fewer is left
pub fewer_left : (left : List Bool) (v : ℕ) → among left v ≡ true
    → sum_by (λ is_left. cond is_left 1 0) (set left v false) < sum_by (λ is_left. cond is_left 1 0) left
fewer_left left v v_left = search (rules, sum_by-set, among_below)
