-- A chase by places: along it the weight so far and the moves from its place to the last commit never come to more.
use Rattle.std.proofs.Common.{◌≡◌, ◌≢◌, List, inl, inr, ℕ, zero, suc, ◌+◌, ◌-◌, ◌<◌, ◌≤◌, ◌^◌, Bool, true, false, cond, Option, Some, None, length, refl, sym, ap, ◌∙◌, subst, arith}
use Rattle.std.proofs.lemmas.Bool.{cases_eq, cases_lt}
use Rattle.std.proofs.lemmas.Bool.Decides.{nat_tests}
use Rattle.entry_word.specs.declared.mark.PresenceMark.{PresenceMark}
use Rattle.entry_word.specs.declared.mark.PresenceMark.TheVariants.{Empty, Here, Gone, Coming, Off}
use Rattle.directory.specs.Settings.{Setting, start}
use Rattle.directory.specs.Courses.{Move}
use Rattle.directory.specs.StepLaws.{slice_get-within}
use Rattle.directory.specs.Finds.{after_mark, at_origin, Chase, chases, climbs, ended, found_weight, hop, is_known, known_with, Pursuit}
use Rattle.directory.specs.Histories.{before, History}
use Rattle.directory.specs.Legal.{IsLegal}
use Rattle.directory.specs.Standing.{standing}
use Rattle.directory.specs.declared.answers.Found.TheVariants.{At}
use Rattle.trail_laws.specs.Trail.{HasMetric, MarkTells}
use Rattle.busy_finds.specs.LawsBelow.{MarkLaws}
use Rattle.busy_finds.proofs.Fronts.{number-more}
use Rattle.busy_finds.proofs.Moves.{stop-after, stop-inside}
use Rattle.busy_finds.proofs.Sums.{travelled, travelled-more, way-within}
use Rattle.busy_finds.proofs.Tickets.{begun, begun-few, begun-low, begun-more, coming-is, coming-there, count, count-begun, gone-is, gone-later, IsComing, IsGone, its_legal, its_moves, mark_at, none-gone, placed, stands-there, stop_at}

knows-it : (q : ℕ) (known : Option ℕ) → is_known q (known_with q known) ≡ true
knows-it q None = grind (arith, nat_tests)
knows-it q (Some known) = grind (arith, nat_tests)

-- a Coming isn't where it comes from
module _ (laws : MarkLaws) (setting : Setting) (sub : ℕ) (history : History) (few : setting.nodes ≤ 2 ^ 16)
    (legal : IsLegal setting sub history) where
  abbrev begun_by : ℕ → ℕ
  begun_by t = begun laws setting sub history few legal t

  abbrev stop_of_no : ℕ → ℕ
  stop_of_no place = stop_at laws setting sub history few legal place

  abbrev moves_there : List Move
  moves_there = its_moves laws setting sub history few legal

  pub coming-apart : (t node q from : ℕ) → node < setting.nodes
      → mark_at laws setting sub history few legal t node ≡ Coming q from → from ≢ node
  coming-apart t node q from inside is same = elim tells.3 [
    | inl early ↦
        let begins : begun_by t ≡ suc (count laws setting sub history few legal t) = omega (arith, tells.0, early.0) in
        let low : begun_by t ≤ length moves_there = begun-low laws setting sub history few legal t in
        let comes = coming-there laws setting sub history few legal t begins in
        let here : node ≡ stop_of_no (begun_by t) =
        laws.one setting sub (before t history) few (its_legal laws setting sub history few legal t) node
        (stop_of_no (begun_by t)) q comes.0 from comes.1 inside
        (stop-inside moves_there (placed laws setting sub history few legal) (begun_by t) low) is comes.2 in
        let found = slice_get-within moves_there (count laws setting sub history few legal t) (omega (arith, begins, low)) in
        ((placed laws setting sub history few legal).each (count laws setting sub history few legal t) found.0 found.1).apart
        (sym (stop-after (start setting sub) moves_there (count laws setting sub history few legal t) found.0 found.1)
        ∙ (ap (λ n. stop_of_no n) (sym begins)
        ∙ (sym here ∙ (sym same ∙ (early.1 ∙ stands-there laws setting sub history few legal t)))))
    | inr late ↦
        let clash : Coming q from ≡ Gone q node =
        sym is ∙ (ap (λ n. mark_at laws setting sub history few legal t n) (sym same) ∙ late.2) in cc
  ]
    where
      tells : MarkTells setting sub (before t history) node (Coming q from)
      tells = subst (MarkTells setting sub (before t history) node) is
          (laws.marks setting sub (before t history) few (its_legal laws setting sub history few legal t) node inside)

-- a Gone leads to a later stop
pub gone-on : (laws : MarkLaws) (setting : Setting) (sub : ℕ) (history : History) (few : setting.nodes ≤ 2 ^ 16)
    (legal : IsLegal setting sub history) (x place node q to : ℕ) → x ≤ length history
    → place ≤ begun laws setting sub history few legal x → node ≡ stop_at laws setting sub history few legal place
    → node < setting.nodes → mark_at laws setting sub history few legal x node ≡ Gone q to → place < q
gone-on laws setting sub history few legal x place node q to within low there inside gone =
    elim (cases_lt place (count laws setting sub history few legal x)) [
      | inl early ↦ gone-later laws setting sub history few legal x within place q to early
          (ap (λ n. mark_at laws setting sub history few legal x n) (sym there) ∙ gone)
          (subst (λ n. n < setting.nodes) there inside)
      | inr late ↦ elim (cases_eq place (count laws setting sub history few legal x)) [
        | inl same ↦
            let here : standing setting sub (before x history) ≡ node =
            stands-there laws setting sub history few legal x
            ∙ (ap (λ n. stop_at laws setting sub history few legal n) (sym same) ∙ sym there) in
            absurd (none-gone laws setting sub history few legal x q to
            (ap (λ n. mark_at laws setting sub history few legal x n) here ∙ gone))
        | inr apart ↦
            let most_begun : begun laws setting sub history few legal x ≤ suc (count laws setting sub history few legal x) =
            begun-few laws setting sub history few legal x in
            let comes = coming-there laws setting sub history few legal x (omega (arith, late, apart, low, most_begun)) in
            let here : stop_at laws setting sub history few legal (begun laws setting sub history few legal x) ≡ node =
            ap (λ n. stop_at laws setting sub history few legal n)
            (let e : begun laws setting sub history few legal x ≡ place = omega (arith, late, apart, low, most_begun) in e)
            ∙ sym there in
            let clash : Coming comes.0 comes.1 ≡ Gone q to =
            sym comes.2 ∙ (ap (λ n. mark_at laws setting sub history few legal x n) here ∙ gone) in cc
      ]
    ]

module _ (laws : MarkLaws) (setting : Setting) (sub : ℕ) (history : History) (few : setting.nodes ≤ 2 ^ 16)
    (legal : IsLegal setting sub history) (metric : HasMetric setting) (last most : ℕ) where
  -- how far it was from the start to a stop
  abbrev pub so_far : ℕ → ℕ
  so_far place = travelled (its_moves laws setting sub history few legal) place

  abbrev pub stop_no : ℕ → ℕ
  stop_no place = stop_at laws setting sub history few legal place

  abbrev pub begun_at : ℕ → ℕ
  begun_at t = begun laws setting sub history few legal t

  abbrev pub count_at : ℕ → ℕ
  count_at t = count laws setting sub history few legal t

  abbrev pub seen_at : ℕ → ℕ → PresenceMark
  seen_at t node = mark_at laws setting sub history few legal t node

  -- a chase at a stop: the ways left are paid for, and so is the way back from a Coming that it may read there
  pub record IsPaid (t : ℕ) (chase : Chase) (node : ℕ) : Type 0 where
    pub place : ℕ
    pub there : node ≡ stop_no place
    pub known_then : place ≤ begun_at t
    pub enough : chase.weight ≤ most
    pub on : chase.weight + so_far (count_at last) ≤ most + so_far place
    pub back : (x from : ℕ) → t ≤ x → x ≤ last → is_known place chase.known ≡ false
        → seen_at x node ≡ Coming place from
        → chase.weight + setting.distance node from + so_far (count_at last) ≤ most + so_far (place - 1)

  abbrev pub PaysOn : ℕ → Pursuit → Type 0
  PaysOn t at_origin = ⊥
  PaysOn t (climbs known weight reader later) = ⊥
  PaysOn t (chases chase node) = IsPaid t chase node
  PaysOn t (ended found) = found_weight found ≤ most

  module _ (t x : ℕ) (chase : Chase) (node : ℕ) (paid : IsPaid t chase node) (later : t ≤ x) (by : x ≤ last)
      (within : x ≤ length history) where
    place-low : paid.place ≤ begun_at x
    place-low = omega (arith, paid.known_then, begun-more laws setting sub history few legal t x later)

    node-inside : node < setting.nodes
    node-inside = rw paid.there (stop-inside (its_moves laws setting sub history few legal)
        (placed laws setting sub history few legal) paid.place
        (omega (arith, place-low, begun-low laws setting sub history few legal x)))

    tells : MarkTells setting sub (before x history) node (seen_at x node)
    tells = laws.marks setting sub (before x history) few (its_legal laws setting sub history few legal x) node node-inside

    count-low : count_at x ≤ count_at last
    count-low = number-more sub x last history by

    -- one hop, from here to another stop
    hop-paid : (known : Option ℕ) (place to left : ℕ) → to ≡ stop_no place → place ≤ begun_at x → place ≤ count_at x
        → chase.weight + setting.distance node to + so_far (count_at last) ≤ most + so_far place
        → ((y from : ℕ) → x ≤ y → y ≤ last → is_known place known ≡ false → seen_at y to ≡ Coming place from → ⊥)
        → PaysOn x (hop setting known chase.level chase.weight left node to)
    hop-paid known place to zero there low committed pays never = paid.enough
    hop-paid known place to (suc left) there low committed pays never = record {
      place = place;
      there = there;
      known_then = low;
      enough = omega (
        arith,
        pays,
        travelled-more (its_moves laws setting sub history few legal) place (count_at last) (omega (arith, committed, count-low)),
      );
      on = pays;
      back = λ y from h g new comes. absurd (never y from h g new comes);
    }

    gone-after : (q to : ℕ) → seen_at x node ≡ Gone q to → paid.place < q
    gone-after q to gone = gone-on laws setting sub history few legal x paid.place node q to within place-low paid.there
        node-inside gone

    gone-paid : (q to : ℕ) → seen_at x node ≡ Gone q to
        → PaysOn x (hop setting (known_with q chase.known) chase.level chase.weight chase.hops_left node to)
    gone-paid q to gone =
        let is : IsGone laws setting sub history few legal x node q to =
        gone-is laws setting sub history few legal x node q to (subst (MarkTells setting sub (before x history) node) gone tells) in
        let after : paid.place < q = gone-after q to gone in
        hop-paid (known_with q chase.known) q to chase.hops_left is.goes
        (omega (arith, is.by, count-begun laws setting sub history few legal x)) is.by
        (omega (
          arith,
          is.hop,
          paid.on,
          travelled-more (its_moves laws setting sub history few legal) paid.place (q - 1) (omega (arith, after)),
        ))
        (λ y from h g new comes. let clash : true ≡ false = sym (knows-it q chase.known) ∙ new in cc)

    -- a Coming leads back, to a stop that isn't earlier, or is paid for
    coming-paid : (q from : ℕ) → seen_at x node ≡ Coming q from → is_known q chase.known ≡ false
        → PaysOn x (hop setting chase.known chase.level chase.weight chase.hops_left node from)
    coming-paid q from comes new =
        let is : IsComing laws setting sub history few legal x node q from =
        coming-is laws setting sub history few legal x node q from
        (subst (MarkTells setting sub (before x history) node) comes tells) in
        let committed : q - 1 ≤ count_at x = elim is.by [
          | inl early ↦ omega (arith, early)
          | inr late ↦ omega (arith, late.0)
        ] in
        hop-paid chase.known (q - 1) from chase.hops_left is.leads (omega (arith, is.last)) committed
        (elim (cases_eq paid.place q) [
          | inl same ↦
              let pays : chase.weight + setting.distance node from + so_far (count_at last) ≤ most + so_far (paid.place - 1) =
              paid.back x from later by (subst (λ n. is_known n chase.known ≡ false) (sym same) new)
              (comes ∙ ap (λ n. Coming n from) (sym same)) in
              subst (λ n. chase.weight + setting.distance node from + so_far (count_at last) ≤ most + so_far (n - 1)) same pays
          | inr apart ↦
              let way : setting.distance (stop_no paid.place) (stop_no (q - 1)) + so_far paid.place ≤ so_far (q - 1) =
              way-within (its_moves laws setting sub history few legal) (placed laws setting sub history few legal) metric
              paid.place (q - 1) (omega (arith, apart, is.last, place-low))
              (omega (arith, is.last, begun-low laws setting sub history few legal x)) in
              let hops : setting.distance node from ≡ setting.distance (stop_no paid.place) (stop_no (q - 1)) =
              ap (λ n. setting.distance n from) paid.there ∙ ap (setting.distance (stop_no paid.place)) is.leads in
              omega (arith, way, hops, paid.on)
        ])
        (λ y back h g unknown again.
        let then : IsComing laws setting sub history few legal y from (q - 1) back =
        coming-is laws setting sub history few legal y from (q - 1) back
        (subst (MarkTells setting sub (before y history) from) again
        (laws.marks setting sub (before y history) few (its_legal laws setting sub history few legal y) from is.inside)) in
        omega (arith, then.last, is.last, is.some, begun-more laws setting sub history few legal x y h))

    pub mark-paid : (mark : PresenceMark) → seen_at x node ≡ mark → PaysOn x (after_mark setting chase node mark)
    mark-paid Empty is = paid.enough
    mark-paid (Here p) is = paid.enough
    mark-paid (Off p) is = paid.enough
    mark-paid (Gone q to) is = gone-paid q to is
    mark-paid (Coming q from) is = at_test (is_known q chase.known) refl
      where
        at_test : (b : Bool) → is_known q chase.known ≡ b
            → PaysOn x (cond b (ended (At node q chase.level chase.weight))
            (hop setting chase.known chase.level chase.weight chase.hops_left node from))
        at_test true e = paid.enough
        at_test false e = coming-paid q from is e
