-- A climb ends at or below a level where a reader has an address, and its reading is bounded by the number of readers.
use Rattle.std.proofs.Common.{◌≡◌, ◌⊎◌, inl, inr, ℕ, zero, suc, ◌+◌, ◌*◌, ◌<◌, ◌≤◌, ◌^◌, true, false, ◌==◌, List, [], ◌∷◌, ◌++◌, Option, Some, None, length, map, refl, sym, ap, ◌∙◌, subst, arith}
use Rattle.std.specs.Prelude.{flat_map}
use Rattle.std.proofs.Math.Nat.{mul-le-mul_left, mul-le-mul_right}
use Rattle.std.proofs.lemmas.Bool.{eqb-true, or_cases, or_right}
use Rattle.node_set.specs.Ascending.{has}
use Rattle.entry_word.specs.declared.address.Address.{Address}
use Rattle.directory.specs.Settings.{Setting}
use Rattle.directory.specs.Histories.{History}
use Rattle.directory.specs.Writes.{numbers_from}
use Rattle.directory.specs.Finds.{FindCall, Reader}
use Rattle.directory.specs.Standing.{number, standing}
use Rattle.trail_laws.specs.Trail.{entry_seen, IsLed, KnowsAtMost, mark_seen}
use Rattle.trail_laws.specs.Within.{Affords, AffordsAddress, EntryAsks, WeighsAtMost}
use Rattle.stretch_laws.proofs.Heights.{scaled-more, scaled_twice}
use Rattle.node_set.specs.SetLaws.{has_head}

-- what these clusters of a level, where they have an address, lead to, over ways of at most this weight
abbrev pub Pays : Setting → ℕ → History → ℕ → ℕ → List ℕ → Type 0
Pays setting sub seen chase level cs =
    (c : ℕ) (address : Address) (known : Option ℕ) → has c cs ≡ true
    → entry_seen setting sub seen level c ≡ Some address → KnowsAtMost (number sub seen) known
    → (hops : ℕ) × (way : ℕ) × (hops ≤ setting.nodes)
    × IsLed setting (mark_seen setting sub seen) known address.node (standing setting sub seen) hops way
    × (setting.distance (setting.leader level c) address.node + way ≤ chase)

-- one of these clusters has an address
abbrev pub HasAddress : Setting → ℕ → History → ℕ → List ℕ → Type 0
HasAddress setting sub seen level cs =
    (c : ℕ) × (address : Address) × (has c cs ≡ true) × (entry_seen setting sub seen level c ≡ Some address)

pub tail-has : (x c : ℕ) (cs : List ℕ) → has x cs ≡ true → has x (c ∷ cs) ≡ true
tail-has x c cs h = or_right (x == c) (has x cs) h

pub one-more : (n r : ℕ) → suc n * r ≡ r + n * r
one-more n r = grind arith

module _ (setting : Setting) (seen : History) (call : FindCall) (most reads chase : ℕ)
    (room : reads + chase ≤ most) where
  -- the readers of a level: one of them has an address, or the climb goes on
  abbrev Goes : ℕ → List Reader → Type 0
  Goes far rest = (w : ℕ) → w ≤ far → Affords setting call.sub seen call (WeighsAtMost most) w rest

  row-affords : (level r : ℕ) (cs : List ℕ) (rest : List Reader) (weight : ℕ)
      → ((c : ℕ) → has c cs ≡ true → setting.inside level c call.from ≤ r)
      → Pays setting call.sub seen chase level cs → weight + 2 * (length cs * r) ≤ reads
      → Goes (weight + 2 * (length cs * r)) rest ⊎ HasAddress setting call.sub seen level cs
      → Affords setting call.sub seen call (WeighsAtMost most) weight
      (map (λ c. record { level = level; cluster = c }) cs ++ rest)
  unfolding Affords
  row-affords level r [] rest weight near pays few (inl on) = on weight (omega arith)
  row-affords level r [] rest weight near pays few (inr found) = let clash : false ≡ true = found.2 in cc
  row-affords level r (c ∷ cs) rest weight near pays few ends = at_entry (entry_seen setting call.sub seen level c) refl
      (λ e. row-affords level r cs rest (weight + 2 * setting.inside level c call.from)
      (λ x h. near x (tail-has x c cs h)) (λ x a k h. pays x a k (tail-has x c cs h))
      (omega (arith, few, one-more (length cs) r, near c (has_head c cs))) (later ends e))
    where
      later : Goes (weight + 2 * (suc (length cs) * r)) rest ⊎ HasAddress setting call.sub seen level (c ∷ cs)
          → entry_seen setting call.sub seen level c ≡ None
          → Goes (weight + 2 * setting.inside level c call.from + 2 * (length cs * r)) rest
          ⊎ HasAddress setting call.sub seen level cs
      later (inl on) e = inl (λ w h. on w (omega (arith, h, one-more (length cs) r, near c (has_head c cs))))
      later (inr found) e = elim (or_cases (found.0 == c) (has found.0 cs) found.2) [
        | inr h ↦ inr (found.0, found.1, h, found.3)
        | inl g ↦
            let clash : None ≡ Some found.1 = sym e
            ∙ (ap (entry_seen setting call.sub seen level) (sym (eqb-true found.0 c g)) ∙ found.3) in cc
      ]

      at_entry : (entry : Option Address) → entry_seen setting call.sub seen level c ≡ entry
          → (entry_seen setting call.sub seen level c ≡ None
          → Affords setting call.sub seen call (WeighsAtMost most) (weight + 2 * setting.inside level c call.from)
          (map (λ x. record { level = level; cluster = x }) cs ++ rest))
          → EntryAsks entry
          (Affords setting call.sub seen call (WeighsAtMost most) (weight + 2 * setting.inside level c call.from)
          (map (λ x. record { level = level; cluster = x }) cs ++ rest))
          (λ address. AffordsAddress setting call.sub seen call (WeighsAtMost most) weight
          (record { level = level; cluster = c }) address)
      at_entry None e on = on e
      at_entry (Some address) e on = λ known knows.
          let there = pays c address known (has_head c cs) e knows in (
            there.0,
            there.1,
            there.2,
            there.3,
            omega (arith, there.4, room, few, one-more (length cs) r, near c (has_head c cs)),
          )

  -- the climb through the levels up to one where a reader has an address
  pub climb-affords : (width readers last : ℕ)
      → ((i : ℕ) → i ≤ last → length (setting.readers i call.from) ≤ readers)
      → ((i c : ℕ) → i ≤ last → has c (setting.readers i call.from) ≡ true
      → setting.inside i c call.from ≤ width * 2 ^ i)
      → ((i : ℕ) → i ≤ last → Pays setting call.sub seen chase i (setting.readers i call.from))
      → HasAddress setting call.sub seen last (setting.readers last call.from)
      → 4 * (readers * (width * 2 ^ last)) ≤ reads
      → (fuel level count weight : ℕ) → fuel + level ≡ last → last < level + count
      → weight + 2 * (readers * (width * 2 ^ 0)) ≤ 2 * (readers * (width * 2 ^ level))
      → Affords setting call.sub seen call (WeighsAtMost most) weight
      (flat_map (λ i. map (λ c. record { level = i; cluster = c }) (setting.readers i call.from))
      (numbers_from level count))
  climb-affords width readers last few near pays found enough fuel level zero weight count within so_far = grind arith
  climb-affords width readers last few near pays found enough zero level (suc more) weight count within so_far =
      row-affords level (width * 2 ^ level) (setting.readers level call.from) _ weight
      (λ c h. near level c (omega (arith, count)) h) (pays level (omega (arith, count)))
      (omega (
        arith,
        so_far,
        enough,
        ap (λ n. readers * (width * 2 ^ n)) is_last,
        mul-le-mul_right (width * 2 ^ level) (few level (omega (arith, count))),
      ))
      (inr (subst (λ n. HasAddress setting call.sub seen n (setting.readers n call.from)) (sym is_last) found))
    where
      is_last : level ≡ last
      is_last = omega (arith, count)
  climb-affords width readers last few near pays found enough (suc fuel) level (suc more) weight count within so_far =
      row-affords level (width * 2 ^ level) (setting.readers level call.from) _ weight
      (λ c h. near level c (omega (arith, count)) h) (pays level (omega (arith, count)))
      (omega (
        arith,
        so_far,
        enough,
        row,
        mul-le-mul_left readers (scaled-more width level last (omega (arith, count))),
      ))
      (inl (λ w h. climb-affords width readers last few near pays found enough fuel (suc level) more w
      (omega (arith, count)) (omega (arith, within))
      (omega (arith, h, so_far, row, scaled_twice readers width level))))
    where
      row : length (setting.readers level call.from) * (width * 2 ^ level) ≤ readers * (width * 2 ^ level)
      row = mul-le-mul_right (width * 2 ^ level) (few level (omega (arith, count)))
