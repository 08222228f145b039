-- Laws of rows in one flat list: while their parts are written, each at the next free place of its
-- row; once all are there; and as a row is read.
use Rattle.std.proofs.Common.{◌≡◌, ℕ, ◌+◌, ◌-◌, ◌<◌, ◌≤◌, List, length, get_or, set, drop, sym, ◌∙◌, ap, inl, inr, arith}
use Rattle.std.specs.Prelude.{slice_range}
use Rattle.std.proofs.lemmas.Bool.{cases_eq}
use Rattle.std.proofs.lemmas.List.{get_or_default, get_or-drop, get_or-set_same, get_or-set_other, get_or-take, get_or_read, length-drop, length-set, length-take, length-take-le, same_lists}
use Rattle.net_graph.specs.Starts.{AreFilled, AreRowsOf, HavePlaces}
use Rattle.net_graph.specs.StartLaws.{places_within, places_apart, starts_rise}

-- before any part is written
pub none_filled : {A : Type 0} (rows : ℕ → List A) (starts taken : List ℕ) (flat : List A)
    → ((v : ℕ) → v < length taken → get_or taken v 0 ≡ 0) → AreFilled rows starts taken flat
none_filled rows starts taken flat none = record {
  within = λ v below. omega (arith, none v below);
  written = λ v place d below short. absurd (omega (arith, short, none v below));
}

module _ {A : Type 0} {n : ℕ} (rows : ℕ → List A) {starts : List ℕ}
    (room : HavePlaces n (λ v. length (rows v)) starts) {taken : List ℕ} {flat : List A}
    (long : length taken ≡ n) (whole : length flat ≡ get_or starts n 0)
    (filled : AreFilled rows starts taken flat) where
  -- the next part of a row
  module _ (m : ℕ) (below : m < n) (next : get_or taken m 0 < length (rows m)) where
    abbrev spot : ℕ
    spot = get_or starts m 0 + get_or taken m 0

    abbrev taken_now : List ℕ
    taken_now = set taken m (get_or taken m 0 + 1)

    pub place_short : get_or starts m 0 + get_or taken m 0 < length flat
    place_short =
        omega (
          arith,
          whole,
          places_within n (λ v. length (rows v)) starts room m (get_or taken m 0) below next,
        )

    taken_here : get_or taken_now m 0 ≡ get_or taken m 0 + 1
    taken_here = get_or-set_same taken m (get_or taken m 0 + 1) 0 (omega (arith, below, long))

    taken_there : (v : ℕ) → (v ≡ m → ⊥) → get_or taken_now v 0 ≡ get_or taken v 0
    taken_there v other = get_or-set_other taken m v (get_or taken m 0 + 1) 0 other

    old : (v : ℕ) → v < length taken_now → v < length taken
    old v short = omega (arith, short, length-set taken m (get_or taken m 0 + 1))

    pub one_filled : (x e : A) → get_or (rows m) (get_or taken m 0) e ≡ x
        → AreFilled rows starts (set taken m (get_or taken m 0 + 1))
        (set flat (get_or starts m 0 + get_or taken m 0) x)
    one_filled x e is = record {
      within = λ v short. elim (cases_eq v m) [
        | inl same ↦ rw (same, taken_here) (omega (arith, next))
        | inr other ↦ rw (taken_there v other) (filled.within v (old v short))
      ];
      written = λ v place d short fits. elim (cases_eq v m) [
        | inl same ↦ rw same (here place d (rw same at fits))
        | inr other ↦
            let before : place < get_or taken v 0 = rw (taken_there v other) at fits in
            get_or-set_other flat spot (get_or starts v 0 + place) x d
            (places_apart n (λ u. length (rows u)) starts room v m place (get_or taken m 0)
            (omega (arith, old v short, long)) below other
            (omega (arith, before, filled.within v (old v short))) next)
            ∙ filled.written v place d (old v short) before
      ];
    }
      where
        here : (place : ℕ) (d : A) → place < get_or taken_now m 0
            → get_or (set flat spot x) (get_or starts m 0 + place) d ≡ get_or (rows m) place d
        here place d fits = elim (cases_eq place (get_or taken m 0)) [
          | inl last ↦ rw (last, get_or-set_same flat spot x d place_short)
              (sym (get_or_default (rows m) (get_or taken m 0) d e next ∙ is))
          | inr older ↦
              get_or-set_other flat spot (get_or starts m 0 + place) x d
              (λ same. omega (arith, same, older))
              ∙ filled.written m place d (omega (arith, below, long))
              (omega (arith, fits, older, taken_here))
        ]

  -- once each row has all its parts
  pub rows_filled : ((v : ℕ) → v < length taken → get_or taken v 0 ≡ length (rows v))
      → AreRowsOf n rows starts flat
  rows_filled all = record {
    count = room.count;
    order = λ v below. omega (arith, room.each v below);
    within = end;
    each = λ v below.
        let wide : length (slice_range flat (get_or starts v 0) (get_or starts (v + 1) 0))
        ≡ get_or starts (v + 1) 0 - get_or starts v 0 =
        length-take-le (get_or starts (v + 1) 0 - get_or starts v 0) (drop (get_or starts v 0) flat)
        (omega (arith, length-drop (get_or starts v 0) flat, end (v + 1) (omega arith))) in
        same_lists (slice_range flat (get_or starts v 0) (get_or starts (v + 1) 0)) (rows v)
        (omega (arith, wide, room.each v below))
        (λ k d short.
        get_or-take (get_or starts (v + 1) 0 - get_or starts v 0) (drop (get_or starts v 0) flat)
        k d (omega (arith, short, wide))
        ∙ get_or-drop (get_or starts v 0) flat k d
        ∙ filled.written v k d (omega (arith, below, long))
        (omega (arith, short, wide, room.each v below, all v (omega (arith, below, long)))));
  }
    where
      end : (v : ℕ) → v ≤ n → get_or starts v 0 ≤ length flat
      end v low =
          omega (
            arith,
            whole,
            starts_rise n (λ u. length (rows u)) starts room v n low (omega arith),
          )

-- a row, as it is read
module _ {A : Type 0} {n : ℕ} {rows : ℕ → List A} {starts : List ℕ} {flat : List A}
    (are : AreRowsOf n rows starts flat) (v : ℕ) (below : v < n) where
  pub starts_long : v + 1 < length starts
  starts_long = omega (arith, are.count, below)

  module _ {first : ℕ} (at_first : first ≡ get_or starts v first) where
    pub starts_at : first ≡ get_or starts v 0
    starts_at = get_or_read starts v first (omega (arith, starts_long)) at_first 0

    module _ {next : ℕ} (at_next : next ≡ get_or starts (v + 1) next) where
      ends_at : next ≡ get_or starts (v + 1) 0
      ends_at = get_or_read starts (v + 1) next starts_long at_next 0

      pub row_order : first ≤ next
      row_order = omega (arith, starts_at, ends_at, are.order v below)

      pub row_end : next ≤ length flat
      row_end = omega (arith, ends_at, are.within (v + 1) (omega (arith, below)))

      pub row_read : {list : List A} → list ≡ flat → slice_range list first next ≡ rows v
      row_read list_is = rw (starts_at, ends_at, list_is) (are.each v below)

    -- a part of it
    abbrev rest : List A
    rest = drop (get_or starts v 0) flat

    part_inside : (place : ℕ) → place < length (rows v)
        → get_or starts v 0 + place < get_or starts (v + 1) 0
    part_inside place short =
        omega (
          arith,
          are.order v below,
          ap length (are.each v below),
          length-take (get_or starts (v + 1) 0 - get_or starts v 0) rest,
          short,
        )

    pub part_short : (place : ℕ) → place < length (rows v) → first + place < length flat
    part_short place short =
        omega (
          arith,
          starts_at,
          part_inside place short,
          are.within (v + 1) (omega (arith, below)),
        )

    pub part_read : (place : ℕ) (d : A) → place < length (rows v)
        → get_or flat (first + place) d ≡ get_or (rows v) place d
    part_read place d short =
        ap (λ i. get_or flat (i + place) d) starts_at
        ∙ sym (get_or-take (get_or starts (v + 1) 0 - get_or starts v 0) rest place d
        (omega (arith, part_inside place short)) ∙ get_or-drop (get_or starts v 0) flat place d)
        ∙ ap (λ xs. get_or xs place d) (are.each v below)
