-- Where the marks of a trail lead: the numbers rise from hop to hop, so that no node is met twice.
use Rattle.std.proofs.lemmas.Bool.{cases_Bool, cases_eq}
use Rattle.std.proofs.Common.{◌≡◌, ◌≢◌, ◌⊎◌, inl, inr, ℕ, zero, suc, ◌+◌, ◌*◌, ◌<◌, ◌≤◌, true, List, Option, Some, length, refl, ap, ◌∙◌, arith}
use Rattle.std.proofs.lemmas.Bool.Decides.{nat_tests}
use Rattle.entry_word.specs.declared.mark.PresenceMark.{PresenceMark}
use Rattle.entry_word.specs.declared.mark.PresenceMark.TheVariants.{Empty, Gone, Coming}
use Rattle.directory.specs.Settings.{Setting}
use Rattle.directory.specs.Courses.{Move}
use Rattle.directory.specs.Finds.{known_with}
use Rattle.directory.specs.Parts.{known_after, lead}
use Rattle.trail_laws.specs.Trail.{answers, IsLed, HasMetric, KnowsAtMost}
use Rattle.trail_laws.proofs.Links.{AreLinked}
use Rattle.trail_laws.proofs.ClosedMarks.{trail_mark, there}
use Rattle.trail_laws.proofs.GoneCounts.{above, above-less}
use Rattle.trail_laws.proofs.LinkedStops.{last-left, stop_at, way-short, weight-mono, weight-step, weight_from}

-- ---- arrivals
pub record Arrival (setting : Setting) (marks : ℕ → PresenceMark) (known : Option ℕ)
    (node last most_hops most_way : ℕ) : Type 0 where
  pub hops : ℕ
  pub way : ℕ
  pub led : IsLed setting marks known node last hops way
  pub few : hops ≤ most_hops
  pub short : HasMetric setting → way ≤ most_way

-- what is known stays within the most
pub knows-with : (most p : ℕ) (known : Option ℕ) → KnowsAtMost most known → p ≤ most
    → KnowsAtMost most (known_with p known)
knows-with most p known knows low = grind arith

-- a stop that isn't the last is left by a move
before-end : (from end : ℕ) (moves : List Move) (i v : ℕ) → stop_at from moves (length moves) ≡ end
    → i ≤ length moves → stop_at from moves i ≡ v → v ≢ end → i < length moves
before-end from end moves i v ends low is_stop other = grind (arith, cases_eq, stop_at)

module _ (setting : Setting) (marks : ℕ → PresenceMark) where
  pub arrived : (known : Option ℕ) (node last most_hops most_way : ℕ) → node ≡ last
      → answers known (marks node) ≡ true → Arrival setting marks known node last most_hops most_way
  unfolding IsLed
  arrived known node last most_hops most_way same answered = grind arith

  -- one hop more
  hopped : (known : Option ℕ) (node to last most_hops most_way : ℕ) → lead known (marks node) ≡ Some to
      → Arrival setting marks (known_after known (marks node)) to last most_hops most_way
      → Arrival setting marks known node last (suc most_hops) (setting.distance node to + most_way)
  unfolding IsLed
  hopped known node to last most_hops most_way leads more = record {
    hops = suc more.hops;
    way = setting.distance node to + more.way;
    led = (to, more.way, leads, refl, more.led);
    few = omega (arith, more.few);
    short = λ metric. omega (arith, more.short metric);
  }

  pub longer : (known : Option ℕ) (node last few few_more short short_more : ℕ) → few ≤ few_more
      → (HasMetric setting → short ≤ short_more) → Arrival setting marks known node last few short
      → Arrival setting marks known node last few_more short_more
  longer known node last few few_more short short_more h g a = grind arith

  -- from a stop of a trail the marks lead to the end, in no more hops than nodes hold a later Gone, and so many more
  abbrev pub Arrives : ℕ → ℕ → List Move → ℕ → ℕ → ℕ → ℕ → Option ℕ → Type 0
  Arrives number last moves more_hops more_way i v known =
      Arrival setting marks known v last (more_hops + above setting marks (number + i)) (weight_from moves i + more_way)

  -- where a trail is left: a stop is one of its exits, from where the marks lead to the end, or its mark is that of the
  -- trail
  pub Exits : ℕ → ℕ → ℕ → List Move → ℕ → ℕ → ℕ → Type 0
  Exits from number last moves most more_hops more_way =
      (i v : ℕ) (known : Option ℕ) → i ≤ length moves → v < setting.nodes → stop_at from moves i ≡ v
      → KnowsAtMost most known
      → Arrives number last moves more_hops more_way i v known
      ⊎ ((marks v ≡ trail_mark moves v Empty) × (i < length moves))

  -- along the trail the numbers rise until an exit
  pub leads : (from number last : ℕ) (moves : List Move) (most more_hops more_way : ℕ)
      → AreLinked setting from number moves → number + length moves ≤ most
      → Exits from number last moves most more_hops more_way → (fuel i v : ℕ) (known : Option ℕ)
      → length moves ≤ fuel + i → i ≤ length moves → v < setting.nodes → stop_at from moves i ≡ v
      → KnowsAtMost most known → Arrives number last moves more_hops more_way i v known
  unfolding Exits
  leads from number last moves most more_hops more_way linked all exits zero i v known enough low inside is_stop knows =
      grind (arith, there)
  leads from number last moves most more_hops more_way linked all exits (suc fuel) i v known enough low inside is_stop
      knows = elim (exits i v known low inside is_stop knows) [
        | inl there ↦ there
        | inr goes ↦ elim (last-left setting from number moves v Empty linked) [
          | inl none ↦ absurd (none.1 i goes.1 is_stop)
          | inr left ↦
              let late : i ≤ left.place = left.last i goes.1 is_stop in
              let gone : marks v ≡ Gone left.move.number left.move.to = goes.0 ∙ left.mark_is in
              let rises : above setting marks (number + suc left.place) < above setting marks (number + i) =
              above-less setting marks v (number + suc left.place) (number + i) left.move.to inside
              (grind (arith, gone)) (omega (arith, late)) in
              longer known v last (suc (more_hops + above setting marks (number + suc left.place)))
              (more_hops + above setting marks (number + i))
              (setting.distance v left.move.to + (weight_from moves (suc left.place) + more_way))
              (weight_from moves i + more_way)
              (omega (arith, rises))
              (λ metric. omega (
                arith,
                weight-step moves left.place left.move left.is_move,
                left.link.its_weight,
                weight-mono moves i left.place late,
              )) (hopped known v left.move.to last _ _ (ap (lead known) gone) (rw gone (leads from number last moves
              most more_hops more_way linked all exits fuel (suc left.place) left.move.to
              (known_with left.move.number known) (omega (arith, enough, late)) (omega (arith, left.within))
              left.link.inside left.goes_on
              (knows-with most left.move.number known knows (omega (arith, left.link.its_number, left.within, all))))))
        ]
      ]

  -- at rest: the end of the trail is an exit
  pub rest-exits : (from number last : ℕ) (moves : List Move) (most : ℕ) → stop_at from moves (length moves) ≡ last
      → ((known : Option ℕ) → answers known (marks last) ≡ true)
      → ((v : ℕ) → v < setting.nodes → v ≢ last → marks v ≡ trail_mark moves v Empty)
      → Exits from number last moves most 0 0
  unfolding Exits
  rest-exits from number last moves most ends answered others i v known low inside is_stop knows =
      grind (arith, cases_eq, arrived, before-end)

  -- a Coming that isn't known to be committed leads back
  pub back-leads : (last most p to : ℕ) (known : Option ℕ) → most < p → KnowsAtMost most known
      → marks to ≡ Coming p last
      → ((k : Option ℕ) → answers k (marks last) ≡ true)
      → Arrival setting marks known to last 1 (setting.distance to last + 0)
  back-leads last most p to known above_most knows comes answered = grind (arith, arrived, hopped)

  -- before the commit of a move: the node that is come to leads back to where the subscriber stands, no farther than
  -- the trail does
  pub coming-exits : (from number last : ℕ) (moves : List Move) (most p to : ℕ) → AreLinked setting from number moves
      → from < setting.nodes → stop_at from moves (length moves) ≡ last → most < p → marks to ≡ Coming p last
      → ((known : Option ℕ) → answers known (marks last) ≡ true)
      → ((v : ℕ) → v < setting.nodes → v ≢ last → v ≢ to → marks v ≡ trail_mark moves v Empty)
      → Exits from number last moves most 1 0
  unfolding Exits
  coming-exits from number last moves most p to linked begins ends above_most comes answered others i v known low inside
      is_stop knows = elim (cases_eq v last) [
        | inl same ↦ inl (arrived known v last _ _ same (rw same (answered known)))
        | inr other ↦ elim (cases_eq v to) [
          | inl at_to ↦
              let way : HasMetric setting → setting.distance v last ≤ weight_from moves i =
              λ metric. rw (is_stop, ends) at (way-short from number moves i linked begins metric low) in
              inl (longer known v last 1 (1 + above setting marks (number + i)) (setting.distance v last + 0)
              (weight_from moves i + 0) (omega arith) (λ metric. omega (arith, way metric)) (grind (arith, back-leads)))
          | inr off_to ↦ inr (others v inside other off_to, before-end from last moves i v ends low is_stop other)
        ]
      ]

  -- between commit and confirm: from the node that was left one hop leads on, and a Coming that isn't known leads there
  -- and back
  pub left-leads : (left p to : ℕ) (known : Option ℕ) → marks left ≡ Gone p to → marks to ≡ Coming p left
      → Arrival setting marks known left to 1 (setting.distance left to + 0)
  left-leads left p to known gone comes = grind (arith, arrived, hopped)

  pub passing-leads : (left p to : ℕ) (known : Option ℕ) → marks left ≡ Gone p to → marks to ≡ Coming p left
      → Arrival setting marks known to to 2 (setting.distance to left + (setting.distance left to + 0))
  passing-leads left p to known gone comes =
      grind (arith, nat_tests, setting.distance left to, cases_Bool, arrived, left-leads, hopped)

  pub passing-exits : (from number left : ℕ) (moves : List Move) (most p to : ℕ)
      → stop_at from moves (length moves) ≡ left → number + length moves < p → left < setting.nodes → to < setting.nodes
      → marks left ≡ Gone p to → marks to ≡ Coming p left
      → ((v : ℕ) → v < setting.nodes → v ≢ left → v ≢ to → marks v ≡ trail_mark moves v Empty)
      → Exits from number to moves most 1 (2 * setting.distance left to)
  unfolding Exits
  passing-exits from number left moves most p to ends above_all left_inside to_inside gone comes others i v known low
      inside is_stop knows = elim (cases_eq v to) [
        | inl at_to ↦ inl (rw at_to (longer known to to 2 _ _ _ (omega (arith, counted))
            (λ metric. omega (arith, metric.both_ways to left to_inside left_inside))
            (passing-leads left p to known gone comes)))
        | inr off_to ↦ elim (cases_eq v left) [
          | inl at_left ↦ inl (rw at_left (longer known left to 1 _ _ _ (omega arith) (λ metric. omega arith)
              (left-leads left p to known gone comes)))
          | inr off_left ↦
              inr (others v inside off_left off_to, before-end from left moves i v ends low is_stop off_left)
        ]
      ]
    where
      counted : above setting marks p < above setting marks (number + i)
      counted = above-less setting marks left p (number + i) to left_inside gone (omega (arith, above_all, low))
