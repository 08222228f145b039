-- Taking back the nodes that were left out, the last one first.
use Rattle.std.proofs.Common.{rules, ◌≡◌, ◌≢◌, ℕ, ◌+◌, ◌*◌, ◌<◌, ◌≤◌, List, Some, Ok, Err, Result, [], ◌∷◌, ◌++◌, length, get_or, set, replicate, refl, sym, ◌∙◌, ap, inl, inr, arith}
use Rattle.std.specs.Prelude.{All, Contains, OnOk}
use Rattle.std.specs.declared.alloc.AllocError.{AllocError}
use Rattle.std.proofs.lemmas.List.{get_or-set_same, get_or-set_other, get_or-replicate, length-replicate, same_from_push, length-append, get_or_default}
use Rattle.std.proofs.lemmas.List.Elements.{All-nil, All-pop, All-push, Contains-append_left, Contains-push}
use Rattle.std.proofs.lemmas.Bool.{cases_eq}
use Rattle.distances.specs.declared.near_nodes.Near.{Near}
use Rattle.distances.specs.declared.elimination.LeftOut.{LeftOut}
use Rattle.distances.specs.declared.weights.TheConstants.{FAR}
use Rattle.distances.specs.Lowering.{Among, IsLowered, IsNodeWritten, RowOffer, cell_at}
use Rattle.distances.specs.NodesLeftOut.{AreAllLeftOut, AreLengths, AreLeftOut, IsEliminated, IsFilled, IsFresh, IsLeftOut, IsLeftOutWithin, IsTakenBack, make_near}
use Rattle.distances.specs.NodesLeftOut.AreLeftOut.{none, more}

-- what taking back nodes keeps: the fresh ones are back, and their cells are lengths
pub record IsFilling (n width : ℕ) (all left_out : List LeftOut) (back table : List ℕ) : Type 0 where
  pub count : length table ≡ n * width
  pub light : All (λ w. w ≤ FAR) table
  pub within : All (IsLeftOutWithin n) left_out
  pub holds : (d : ℕ → ℕ → ℕ) → AreLengths n d → AreLeftOut n d all → AreLeftOut n d left_out
  pub fresh_is_back : ((x : ℕ) → IsFresh n all x → ⊥) → (x : ℕ) → IsFresh n left_out x → Contains back x
  pub back_within : All (λ x. x < n) back
  pub lengths : (d : ℕ → ℕ → ℕ) → AreLengths n d → AreLeftOut n d all → ((x : ℕ) → IsFresh n all x → ⊥)
      → (a b : ℕ) → IsFresh n left_out a → IsFresh n left_out b → cell_at width table a b ≡ d a b

-- the last that was left out
last_left_out : {n : ℕ} {d : ℕ → ℕ → ℕ} (earlier : List LeftOut) (s : LeftOut) {left_out : List LeftOut}
    → AreLeftOut n d left_out → left_out ≡ earlier ++ s ∷ [] → AreLeftOut n d earlier × IsLeftOut (IsFresh n left_out) d
    s.node s.near.items
last_left_out earlier s none is = grind (arith, length-append earlier (s ∷ []))
last_left_out {n} {d} earlier s {left_out} (more other t _ same before holds) is =
    let e = same_from_push other earlier t s (sym same ∙ is) in (rw (← e.0) before, rw (← e.1) holds)

-- the row of a node that is taken back
module _ (n width : ℕ) (d : ℕ → ℕ → ℕ) (lengths : AreLengths n d) (fresh : ℕ → Type 0) (v : ℕ) (near : List Near)
    (v_below : v < n)
    (within : (x : ℕ) → fresh x → x < n) (holds : IsLeftOut fresh d v near)
    (table mine : List ℕ) (known : (a b : ℕ) → fresh a → fresh b → cell_at width table a b ≡ d a b)
    (lowered : IsLowered (Among near (RowOffer n width table)) (replicate n FAR) mine) where
  row_known : (b : ℕ) → fresh b → get_or mine b 0 ≡ d v b
  row_known b b_fresh =
      let b_below = within b b_fresh in
      let on = holds.leads_on b b_fresh in
      let by = holds.sound on.node on.weight on.is_near in
      let up = lowered.reached b (on.weight + cell_at width table on.node b)
      (make_near on.node on.weight, on.is_near, (b_below, refl)) in
      let down : d v b ≤ get_or mine b 0 = elim (lowered.cause b) [
        | inl kept ↦ omega (arith, get_or-replicate n b FAR 0 b_below, lengths.light v b v_below b_below)
        | inr (x, has, (below, sum)) ↦
            let is = holds.sound x.node x.weight has in
            let past = lengths.triangle v x.node b v_below (within x.node is.0) b_below in
            omega (arith, sum, known x.node b is.0 b_fresh, is.1, past)
      ] in
      omega (arith, up, known on.node b by.0 b_fresh, on.short)

-- a row in which its own node is at 0
module _ {v : ℕ} (folded : List ℕ) {mine : List ℕ} (zeroed : mine ≡ set folded v 0) where
  at_node : v < length folded → get_or mine v 0 ≡ 0
  at_node inside = ap (λ xs. get_or xs v 0) zeroed ∙ get_or-set_same folded v 0 0 inside

  at_other : (x : ℕ) → x ≢ v → get_or mine x 0 ≡ get_or folded x 0
  at_other x other = ap (λ xs. get_or xs x 0) zeroed ∙ get_or-set_other folded v x 0 0 other

-- no cell rises above FAR
pub written_light : {n width v : ℕ} {back mine old table : List ℕ} → IsNodeWritten n width v back mine old table
    → All (λ w. w ≤ FAR) old → ((x : ℕ) → x < n → get_or mine x 0 ≤ FAR) → All (λ w. w ≤ FAR) table
written_light {table} written light mine_light i d i_below = search (rules, get_or_default, mine_light)

-- one more node is back
module _ (n width : ℕ) (all : List LeftOut) (left_out earlier : List LeftOut) (s : LeftOut)
    (is : left_out ≡ earlier ++ s ∷ []) (back old : List ℕ)
    (so_far : IsFilling n width all left_out back old) where
  parts : All (IsLeftOutWithin n) earlier × IsLeftOutWithin n s
  parts = All-pop (IsLeftOutWithin n) left_out earlier (Some s) is so_far.within

  pub left_out_within : IsLeftOutWithin n s
  left_out_within = parts.1

  still : (x : ℕ) → IsFresh n earlier x → x ≢ s.node → IsFresh n left_out x
  still x fresh other =
      (fresh.0, rw is (All-push (λ (t : LeftOut). t.node ≢ x) earlier s fresh.1 (λ e. other (sym e))))

  module _ (mine table : List ℕ) (taken : IsTakenBack n width s back mine old table) where
    own_zero : get_or mine s.node 0 ≡ 0
    own_zero = at_node taken.folded taken.zeroed
        (omega (arith, taken.lowered.count, length-replicate n FAR, parts.1.node))

    module _ (d : ℕ → ℕ → ℕ) (lengths : AreLengths n d) (begun : AreLeftOut n d all)
        (none_fresh : (x : ℕ) → IsFresh n all x → ⊥) where
      from_node : (b : ℕ) → IsFresh n earlier b → b ≢ s.node → get_or mine b 0 ≡ d s.node b
      from_node b fresh other =
          at_other taken.folded taken.zeroed b other
          ∙ row_known n width d lengths (IsFresh n left_out) s.node s.near.items parts.1.node (λ x h. h.0)
          (last_left_out earlier s (so_far.holds d lengths begun) is).1 old taken.folded
          (so_far.lengths d lengths begun none_fresh) taken.lowered b (still b fresh other)

      next_lengths : (a b : ℕ) → IsFresh n earlier a → IsFresh n earlier b → cell_at width table a b ≡ d a b
      next_lengths a b a_fresh b_fresh = elim (cases_eq a s.node) [
        | inl a_is ↦ rw a_is (taken.written.row b b_fresh.0 ∙ elim (cases_eq b s.node) [
          | inl b_is ↦ rw b_is (own_zero ∙ sym (lengths.zero s.node parts.1.node))
          | inr b_other ↦ from_node b b_fresh b_other
        ])
        | inr a_other ↦ elim (cases_eq b s.node) [
          | inl b_is ↦ rw b_is
              (taken.written.column a (so_far.fresh_is_back none_fresh a (still a a_fresh a_other))
              ∙ from_node a a_fresh a_other ∙ lengths.turned s.node a parts.1.node a_fresh.0)
          | inr b_other ↦ taken.written.other a b a_fresh.0 b_fresh.0 a_other b_other
              ∙ so_far.lengths d lengths begun none_fresh a b (still a a_fresh a_other) (still b b_fresh b_other)
        ]
      ]

    next_back : ((x : ℕ) → IsFresh n all x → ⊥) → (x : ℕ) → IsFresh n earlier x → Contains (back ++ s.node ∷ []) x
    next_back none_fresh x fresh = elim (cases_eq x s.node) [
      | inl same ↦ rw same (Contains-push back s.node)
      | inr other ↦ Contains-append_left back (s.node ∷ []) x (so_far.fresh_is_back none_fresh x (still x fresh other))
    ]

    mine_light : (x : ℕ) → x < n → get_or mine x 0 ≤ FAR
    mine_light x below = elim (cases_eq x s.node) [
      | inl same ↦ rw same (omega (arith, own_zero))
      | inr other ↦
          let kept = at_other taken.folded taken.zeroed x other in
          omega (arith, kept, taken.lowered.falls x, get_or-replicate n x FAR 0 below)
    ]

    pub fill_next : IsFilling n width all earlier (back ++ s.node ∷ []) table
    fill_next = record {
      count = taken.written.count ∙ so_far.count;
      light = written_light taken.written so_far.light mine_light;
      within = parts.0;
      holds = λ d lengths begun. (last_left_out earlier s (so_far.holds d lengths begun) is).0;
      fresh_is_back = next_back;
      back_within = All-push (λ x. x < n) back s.node so_far.back_within parts.1.node;
      lengths = next_lengths;
    }

pub fill_begins : (n width : ℕ) (all : List LeftOut) (table : List ℕ) → length table ≡ n * width → All (λ w. w ≤ FAR)
    table
    → All (IsLeftOutWithin n) all
    → IsFilling n width all all [] table
fill_begins n width all table count light within = record {
  count = count;
  light = light;
  within = within;
  holds = λ d lengths begun. begun;
  fresh_is_back = λ none_fresh x fresh. absurd (none_fresh x fresh);
  back_within = All-nil (λ x. x < n);
  lengths = λ d lengths begun none_fresh a b a_fresh b_fresh. absurd (none_fresh a a_fresh);
}

-- out and back
pub both_ways : {n width : ℕ} {first : List ℕ} (table : List ℕ) {left_out : List LeftOut}
    (r : Result (Unit {0}) AllocError) → AreAllLeftOut n width first left_out → OnOk r (IsFilled n width left_out table)
    → OnOk r (IsEliminated n width first table)
both_ways table (Ok x) all filled = search rules
both_ways table (Err e) all filled = tt
