-- Laws of the starts of parts in one flat row: one count more, and places of different parts.
use Rattle.std.proofs.Common.{◌≡◌, ℕ, zero, suc, ◌+◌, ◌-◌, ◌<◌, ◌≤◌, List, [], ◌∷◌, ◌++◌, length, get_or, take, refl, sym, ◌∙◌, ap, subst, inl, inr, arith, add-zero}
use Rattle.std.proofs.lemmas.Bool.{cases_lt}
use Rattle.std.proofs.lemmas.List.{get_or-take, get_or_append_left, get_or_push, length-take-le, length_push}
use Rattle.net_graph.specs.Starts.{AreStarts, HavePlaces}

-- before any count there is the start of the first
pub no_starts : (starts : List ℕ) → starts ≡ 0 ∷ [] → AreStarts [] starts
no_starts starts is = rw is (record { count = refl; each = λ v below. omega arith })

-- one count more
module _ (counts starts : List ℕ) (i sum : ℕ) (short : i < length counts)
    (before : AreStarts (take i counts) starts) (last : get_or starts i 0 ≡ sum) where
  counted : length (take i counts) ≡ i
  counted = length-take-le i counts (omega arith)

  pub last_start : (next : List ℕ) → next ≡ starts ++ (sum + get_or counts i 0) ∷ []
      → get_or next (i + 1) 0 ≡ sum + get_or counts i 0
  last_start next is =
      ap (λ xs. get_or xs (i + 1) 0) is
      ∙ get_or_push starts (sum + get_or counts i 0) 0 (i + 1)
      (omega (arith, before.count, counted))

  pub one_start : (next : List ℕ) → next ≡ starts ++ (sum + get_or counts i 0) ∷ []
      → AreStarts (take (i + 1) counts) next
  one_start next is = rw is (record {
    count =
        omega (
          arith,
          length_push starts (sum + get_or counts i 0),
          before.count,
          counted,
          length-take-le (i + 1) counts (omega arith),
        );
    each = λ v below.
        let fits : v < i + 1 = omega (arith, below, length-take-le (i + 1) counts (omega arith)) in
        let kept : (k : ℕ) → k ≤ i
        → get_or (starts ++ (sum + get_or counts i 0) ∷ []) k 0 ≡ get_or starts k 0
        = λ k low. get_or_append_left starts ((sum + get_or counts i 0) ∷ []) 0 k
        (omega (arith, before.count, counted))
        in
        let taken : get_or (take (i + 1) counts) v 0 ≡ get_or counts v 0 =
        get_or-take (i + 1) counts v 0 fits in
        elim (cases_lt v i) [
          | inl less ↦
              omega (
                arith,
                kept v (omega arith),
                kept (v + 1) (omega arith),
                before.each v (omega (arith, counted)),
                get_or-take i counts v 0 less,
                taken,
              )
          | inr over ↦
              let same : v ≡ i = omega arith in
              subst (λ k. get_or (starts ++ (sum + get_or counts i 0) ∷ []) (k + 1) 0
              ≡ get_or (starts ++ (sum + get_or counts i 0) ∷ []) k 0
              + get_or (take (i + 1) counts) k 0) (sym same) (omega (
                arith,
                kept i (omega arith),
                last,
                last_start (starts ++ (sum + get_or counts i 0) ∷ []) refl,
                get_or-take (i + 1) counts i 0 (omega arith),
              ))
        ];
  })

-- counts that are the sizes give each part its places
pub places_made : (n : ℕ) (size : ℕ → ℕ) (counts starts : List ℕ) → length counts ≡ n
    → ((v : ℕ) → v < length counts → get_or counts v 0 ≡ size v) → AreStarts counts starts
    → HavePlaces n size starts
places_made n size counts starts whole counted sums = record {
  count = omega (arith, sums.count, whole);
  each = λ v below. let short : v < length counts = omega (arith, below, whole) in
      sums.each v short ∙ ap (λ k. get_or starts v 0 + k) (counted v short);
}

-- places of parts
module _ (n : ℕ) (size : ℕ → ℕ) (starts : List ℕ) (room : HavePlaces n size starts) where
  rise_by : (v k : ℕ) → v + k ≤ n → get_or starts v 0 ≤ get_or starts (v + k) 0
  rise_by v zero short = subst (λ (i : ℕ). get_or starts v 0 ≤ get_or starts i 0)
      (sym (add-zero v)) (omega arith)
  rise_by v (suc k) short =
      let e : v + k + 1 ≡ v + suc k = omega arith in
      subst (λ (i : ℕ). get_or starts v 0 ≤ get_or starts i 0) e
      (omega (arith, rise_by v k (omega arith), room.each (v + k) (omega arith)))

  pub starts_rise : (u v : ℕ) → u ≤ v → v ≤ n → get_or starts u 0 ≤ get_or starts v 0
  starts_rise u v order short =
      let e : u + (v - u) ≡ v = omega arith in
      subst (λ (i : ℕ). get_or starts u 0 ≤ get_or starts i 0) e (rise_by u (v - u) (omega arith))

  -- those of two parts are different
  pub places_apart : (u v i j : ℕ) → u < n → v < n → (u ≡ v → ⊥) → i < size u → j < size v
      → get_or starts u 0 + i ≡ get_or starts v 0 + j → ⊥
  places_apart u v i j u_below v_below other i_short j_short same = elim (cases_lt u v) [
    | inl less ↦
        omega (
          arith,
          same,
          room.each u u_below,
          starts_rise (u + 1) v (omega arith) (omega arith),
          i_short,
        )
    | inr over ↦
        omega (
          arith,
          same,
          room.each v v_below,
          starts_rise (v + 1) u (omega (arith, over, other)) (omega arith),
          j_short,
        )
  ]

  -- and all stand before the end
  pub places_within : (m i : ℕ) → m < n → i < size m → get_or starts m 0 + i < get_or starts n 0
  places_within m i below short =
      omega (arith, room.each m below, starts_rise (m + 1) n (omega arith) (omega arith), short)
