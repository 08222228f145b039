-- No find weighs more than its price.
use Rattle.std.proofs.Common.{List, None, Option, Some, [], ap, arith, inl, inr, length, refl, subst, suc, sym, take, zero, ℕ, ◌*◌, ◌++◌, ◌+◌, ◌-◌, ◌<◌, ◌^◌, ◌∙◌, ◌∷◌, ◌≡◌, ◌≤◌, ◌⊎◌}
use Rattle.std.proofs.lemmas.List.{take-append-le}
use Rattle.std.proofs.lemmas.Option.{slice_get_within}
use Rattle.entry_word.specs.declared.address.Address.{Address}
use Rattle.entry_word.specs.declared.mark.PresenceMark.{PresenceMark}
use Rattle.entry_word.specs.declared.mark.PresenceMark.TheVariants.{Empty, Here, Gone, Coming, Off}
use Rattle.entry_word.specs.declared.visit.Key.{Key}
use Rattle.entry_word.specs.declared.visit.Key.TheVariants.{Presence, Entry}
use Rattle.directory.specs.Settings.{levels, Setting, start}
use Rattle.directory.specs.Courses.{base, Move}
use Rattle.directory.specs.Finds.{FindCall, Pursuit, Reader, after_entry, after_origin, after_word, all_readers, at_origin, begin_chase, chases, climb, climbs, ended, found_weight, key_of, way_in}
use Rattle.directory.specs.Histories.{before, cell, History}
use Rattle.directory.specs.Looks.{first_of, IsFind, last_of, look_by}
use Rattle.directory.specs.Parts.{climb_weight}
use Rattle.directory.specs.StepLaws.{slice_get-within}
use Rattle.directory.specs.Standing.{number, passage, standing}
use Rattle.directory.specs.declared.answers.Found.{Found}
use Rattle.trail_laws.specs.Trail.{entry_seen, mark_seen, MarkTells}
use Rattle.stretch_laws.specs.Tracking.{radius}
use Rattle.busy_finds.specs.LawsBelow.{PriceLaws}
use Rattle.busy_finds.specs.Within.{IsWithin, moves_of}
use Rattle.busy_finds.proofs.Beyond.{address-paid, begun_by, below, Ground, told-at}
use Rattle.busy_finds.proofs.Chase.{IsPaid, mark-paid, PaysOn}
use Rattle.busy_finds.proofs.Current.{current}
use Rattle.busy_finds.proofs.Fronts.{gone-renewed, moves-in-place, number-more, within-whole}
use Rattle.busy_finds.proofs.Looks.{Climbed, climbed-more, climbed-none, IsMetAt, looks-end, met-at, WasEmpty, WereEmpty}
use Rattle.busy_finds.proofs.Moves.{AreInPlace, base-within, stop-after, stop-inside, stop_of}
use Rattle.busy_finds.proofs.Sums.{travelled, travelled-more, travelled-step, way-within}
use Rattle.busy_finds.proofs.Tickets.{begun-low, begun-more, coming-is, count-begun, first-moves, IsComing, its_legal, none-empty, none-gone, placed, stands-in, stands-there, stop-then}

-- radii double from level to level
pub doubled : (level : ℕ) → radius (suc level) ≡ 2 * radius level
doubled level = let e : 2 ^ suc level ≡ 2 * 2 ^ level = omega arith in e

radius-more : (low k : ℕ) → radius low ≤ radius (k + low)
radius-more low zero = let e : 0 + low ≡ low = omega arith in rw e (omega arith)
radius-more low (suc k) =
    let e : suc k + low ≡ suc (k + low) = omega arith in
    subst (λ n. radius low ≤ radius n) (sym e) (omega (arith, doubled (k + low), radius-more low k))

pub radius-up : (low high : ℕ) → low ≤ high → radius low ≤ radius high
radius-up low high h =
    subst (λ n. radius low ≤ radius n) (let e : (high - low) + low ≡ high = omega (arith, h) in e)
    (radius-more low (high - low))

module _ (laws : PriceLaws) (setting : Setting) (width most_readers : ℕ) (history : History) (call : FindCall)
    (first last : ℕ) (ground : Ground setting width most_readers history call first last) where
  abbrev moves : List Move
  moves = moves_of setting call.sub history

  abbrev stood_at : ℕ
  stood_at = standing setting call.sub (before first history)

  abbrev apart : ℕ
  apart = setting.distance call.from stood_at

  abbrev pub near_home : ℕ → ℕ
  near_home level = current (start setting call.sub) (moves_of setting call.sub (before first history))
      (number call.sub (before first history)) level

  -- at the first look each level has an address at the home of a node that is near where the subscriber stands
  pub record IsNearHome (level : ℕ) : Type 0 where
    pub inside : near_home level < setting.nodes
    pub near : setting.distance (near_home level) stood_at < setting.threshold level

  pub home-near : (level : ℕ) → level ≤ setting.top → IsNearHome level
  home-near level low = record {
    inside = rw there (stop-inside moves place b (omega (
      arith,
      based,
      counted,
      begun-low laws.marks setting call.sub history
          ground.few ground.legal first,
    )));
    near = rw (there, stands-there laws.marks setting call.sub history ground.few ground.legal first) (omega (
      arith,
      way-within moves place ground.tracking.metric b n based (omega (
        arith,
        counted,
        begun-low laws.marks setting call.sub history ground.few ground.legal first,
      )),
      below laws setting width most_readers history call first last ground n level (omega (
        arith,
        counted,
        begun-low laws.marks setting call.sub history ground.few ground.legal first,
      )) low,
      ap (λ ms. travelled moves (base level ms)) same,
    ));
  }
    where
      n : ℕ
      n = number call.sub (before first history)

      place : AreInPlace setting (start setting call.sub) moves
      place = placed laws.marks setting call.sub history ground.few ground.legal

      counted : n ≤ begun_by laws setting width most_readers history call first last ground first
      counted = count-begun laws.marks setting call.sub history ground.few ground.legal first

      b : ℕ
      b = base level (take n (moves_of setting call.sub (before first history)))

      based : b ≤ n
      based = base-within level (moves_of setting call.sub (before first history))
          (moves-in-place (before first history) (its_legal laws.marks setting call.sub history ground.few ground.legal first))
          n counted

      there : near_home level ≡ stop_of (start setting call.sub) moves b
      there = stop-then laws.marks setting call.sub history ground.few ground.legal first b (omega (arith, based, counted))

      same : take n moves ≡ take n (moves_of setting call.sub (before first history))
      same = let more = first-moves laws.marks setting call.sub history ground.few ground.legal first in
          ap (take n) more.1
          ∙ take-append-le n (moves_of setting call.sub (before first history)) more.0 counted

  -- and where its radius is at least twice the distance, the find reads there
  pub home-read : (level : ℕ) → level ≤ setting.top → 2 * apart ≤ radius level
      → setting.distance (near_home level) call.from ≤ radius level
  home-read level low reaches =
      let home : IsNearHome level = home-near level low in
      omega (
        arith,
        reaches,
        home.near,
        ground.tracking.halves level low,
        ground.tracking.metric.detour (near_home level) stood_at call.from home.inside
            (stands-in laws.marks setting call.sub history ground.few ground.legal first) ground.inside,
        ground.tracking.metric.both_ways call.from stood_at ground.inside
            (stands-in laws.marks setting call.sub history ground.few ground.legal first),
      )

  -- a level whose home was empty was renewed by a move within
  pub renewed-within : (t level : ℕ) → t ≤ last → level ≤ setting.top
      → WasEmpty setting history call first t (record { level = level; cluster = setting.home level (near_home level) })
      → (move : Move) × (level ≤ move.renewed) × IsWithin setting call.sub history first last move
  renewed-within t level by low was =
      within-whole laws.marks.facts history ground.few ground.legal first was.0 last level (omega (arith, was.2, by))
      (gone-renewed laws.marks.facts history ground.few ground.legal first was.0 level was.1 low was.3)

-- the terms on which a find pays: what the moves within it weigh, and what it may weigh at most, wherever it meets an
-- address and where it meets none
pub record Terms (setting : Setting) (width most_readers : ℕ) (history : History) (call : FindCall)
    (first last spent most : ℕ) : Type 0 where
  pub ground : Ground setting width most_readers history call first last
  pub spends : travelled (moves_of setting call.sub history) (number call.sub (before last history))
      ≡ travelled (moves_of setting call.sub history) (number call.sub (before first history)) + spent
  pub least : setting.distance call.from (standing setting call.sub (before first history))
      + 2 * passage setting call.sub (before first history) + spent ≤ most
  pub meets : (t : ℕ) (passed later : List Reader) (r : Reader) (v : ℕ) → t ≤ last
      → 1 ≤ setting.distance call.from (standing setting call.sub (before first history))
      → all_readers setting call.from ≡ passed ++ r ∷ later
      → IsMetAt setting history call first t 0 (levels setting) passed r → WereEmpty setting history call first t passed
      → v < setting.nodes → r.cluster ≡ setting.home r.level v
      → climb_weight setting call passed + 2 * way_in setting call r + 2 * setting.distance (setting.leader r.level r.cluster) v
      + 2 * setting.threshold r.level + setting.distance call.from (standing setting call.sub (before first history))
      + 2 * passage setting call.sub (before first history) + spent ≤ most + 2
  pub misses : (t weight : ℕ) → t ≤ last
      → 1 ≤ setting.distance call.from (standing setting call.sub (before first history))
      → Climbed setting history call first t weight [] → weight ≤ most

module _ (laws : PriceLaws) (setting : Setting) (width most_readers : ℕ) (history : History) (call : FindCall)
    (first last spent most : ℕ) (terms : Terms setting width most_readers history call first last spent most) where
  abbrev ground : Ground setting width most_readers history call first last
  ground = terms.ground

  abbrev all_moves : List Move
  all_moves = moves_of setting call.sub history

  abbrev stands_at : ℕ
  stands_at = standing setting call.sub (before first history)

  abbrev distant : ℕ
  distant = setting.distance call.from stands_at

  -- ---- a find under way
  abbrev GoesOn : ℕ → Pursuit → Type 0
  GoesOn t at_origin = ⊥
  GoesOn t (climbs known weight reader later) =
      Climbed setting history call first t weight (reader ∷ later) × (1 ≤ distant)
  GoesOn t (chases chase node) =
      IsPaid laws.marks setting call.sub history ground.few ground.legal ground.tracking.metric last most t chase node
  GoesOn t (ended found) = found_weight found ≤ most

  climb-on : (t : ℕ) (known : Option ℕ) (weight : ℕ) (left : List Reader) → t ≤ last → 1 ≤ distant
      → Climbed setting history call first t weight left → GoesOn t (climb known weight left)
  climb-on t known weight [] by some c = terms.misses t weight by some c
  climb-on t known weight (reader ∷ left) by some c = (c, some)

  -- it goes on as its chase does
  chase-on : (t : ℕ) (pursuit : Pursuit)
      → PaysOn laws.marks setting call.sub history ground.few ground.legal ground.tracking.metric last most t pursuit
      → GoesOn t pursuit
  chase-on t at_origin pays = pays
  chase-on t (climbs known weight reader later) pays = absurd pays
  chase-on t (chases chase node) pays = pays
  chase-on t (ended found) pays = pays

  entry-on : (t u : ℕ) (known : Option ℕ) (weight : ℕ) (reader : Reader) (left : List Reader) → first ≤ t → t < u → u ≤ last
      → Climbed setting history call first t weight (reader ∷ left) → 1 ≤ distant → (entry : Option Address)
      → entry_seen setting call.sub (before u history) reader.level reader.cluster ≡ entry
      → GoesOn u (after_entry setting call known weight reader left entry)
  entry-on t u known weight reader left low later by c some None e = climb-on u known _ left by some
      (climbed-more setting history call first t u weight reader left (omega (arith, later)) e c)
  entry-on t u known weight reader left low later by c some (Some address) e =
      let met : IsMetAt setting history call first t 0 (levels setting) c.passed reader =
      met-at setting history call first t 0 (levels setting) c.passed left reader c.all c.empty in
      let level : reader.level ≤ setting.top = omega (arith, met.high) in
      let told = told-at laws setting width most_readers history call first last ground u reader.level reader.cluster address
      level e in
      address-paid laws setting width most_readers history call first last ground u reader.level
      reader.cluster address (omega (arith, low, later)) by level met.reads e spent most (climb_weight setting call c.passed)
      terms.spends
      (terms.meets t c.passed left reader address.node (omega (arith, later, by)) some c.all met c.empty told.0 told.1) _
      (omega (arith, c.weighs))

  -- the first look: where the subscriber stands a find doesn't climb
  elsewhere : (mark : PresenceMark) → mark_seen setting call.sub (before first history) call.from ≡ mark
      → ((mark ≡ Empty) ⊎ ((p : ℕ) × (to : ℕ) × (mark ≡ Gone p to))) → 1 ≤ distant
  elsewhere mark is leads = ground.tracking.apart call.from stands_at ground.inside
      (stands-in laws.marks setting call.sub history ground.few ground.legal first) (λ same. elim leads [
        | inl none ↦ none-empty laws.marks setting call.sub history ground.few ground.legal first
            (ap (mark_seen setting call.sub (before first history)) (sym same) ∙ (is ∙ none))
        | inr gone ↦ none-gone laws.marks setting call.sub history ground.few ground.legal first gone.0 gone.1
            (ap (mark_seen setting call.sub (before first history)) (sym same) ∙ (is ∙ gone.2))
      ])

  -- a Coming there
  module _ (q from : ℕ) (comes : mark_seen setting call.sub (before first history) call.from ≡ Coming q from) where
    its_coming : IsComing laws.marks setting call.sub history ground.few ground.legal first call.from q from
    its_coming = coming-is laws.marks setting call.sub history ground.few ground.legal first call.from q from
        (subst (MarkTells setting call.sub (before first history) call.from) comes
        (laws.marks.marks setting call.sub (before first history) ground.few
        (its_legal laws.marks setting call.sub history ground.few ground.legal first) call.from ground.inside))

    stood-no : stands_at ≡ stop_of (start setting call.sub) all_moves (number call.sub (before first history))
    stood-no = stands-there laws.marks setting call.sub history ground.few ground.legal first

    back-on : setting.distance call.from from + travelled all_moves (number call.sub (before last history))
        ≤ most + travelled all_moves (q - 1)
    back-on = elim its_coming.by [
      | inl early ↦
          let e : q - 1 ≡ number call.sub (before first history) = omega (arith, early) in
          omega (
            arith,
            terms.spends,
            terms.least,
            ap (setting.distance call.from) (its_coming.leads ∙ (ap (stop_of (start setting call.sub) all_moves) e ∙ sym stood-no)),
            ap (travelled all_moves) e,
          )
      | inr late ↦
          let e : suc (q - 1) ≡ number call.sub (before first history) = omega (arith, late.0, its_coming.some) in
          let found = slice_get-within all_moves (q - 1) (omega (
            arith,
            e,
            count-begun laws.marks setting call.sub history ground.few ground.legal first,
            begun-low laws.marks setting call.sub history ground.few ground.legal first,
          )) in
          let step : travelled all_moves (suc (q - 1)) ≡ travelled all_moves (q - 1) + found.0.weight =
          travelled-step all_moves (q - 1) found.0 found.1 in
          let weighs : found.0.weight ≡ setting.distance (stop_of (start setting call.sub) all_moves (q - 1)) found.0.to =
          ((placed laws.marks setting call.sub history ground.few ground.legal).each (q - 1) found.0 found.1).weight in
          let goes : found.0.to ≡ call.from =
          sym (stop-after (start setting call.sub) all_moves (q - 1) found.0 found.1)
          ∙ (ap (stop_of (start setting call.sub) all_moves) e ∙ (sym stood-no ∙ sym late.1)) in
          let opened : passage setting call.sub (before first history) ≡ setting.distance from call.from =
          laws.opens setting call.sub (before first history) ground.few
          (its_legal laws.marks setting call.sub history ground.few ground.legal first) call.from q from ground.inside comes
          late.0 in
          omega (
            arith,
            terms.spends,
            terms.least,
            step,
            weighs,
            ap (setting.distance (stop_of (start setting call.sub) all_moves (q - 1))) goes,
            ap (λ n. setting.distance n call.from) its_coming.leads,
            ap (travelled all_moves) e,
            opened,
            ground.tracking.metric.both_ways call.from from ground.inside its_coming.inside,
          )
    ]

    coming-on : GoesOn first (begin_chase setting None None (setting.distance call.from from) from)
    coming-on = record {
      place = q - 1;
      there = its_coming.leads;
      known_then = omega (arith, its_coming.last);
      enough = omega (
        arith,
        back-on,
        travelled-more all_moves (q - 1) (number call.sub (before last history)) (omega (
          arith,
          number-more call.sub first last history ground.order,
          committed its_coming.by,
        )),
      );
      on = back-on;
      back = λ y further later within unknown again. absurd (omega (
        arith,
        (again-is y further again).last,
        its_coming.last,
        its_coming.some,
        begun-more laws.marks setting call.sub history ground.few ground.legal first y later,
      ));
    }
      where
        committed : (q ≡ suc (number call.sub (before first history)))
            ⊎ ((q ≡ number call.sub (before first history)) × (call.from ≡ stands_at))
            → q - 1 ≤ number call.sub (before first history)
        committed (inl early) = omega (arith, early)
        committed (inr late) = omega (arith, late.0)

        again-is : (y further : ℕ) → mark_seen setting call.sub (before y history) from ≡ Coming (q - 1) further
            → IsComing laws.marks setting call.sub history ground.few ground.legal y from (q - 1) further
        again-is y further again = coming-is laws.marks setting call.sub history ground.few ground.legal y from (q - 1) further
            (subst (MarkTells setting call.sub (before y history) from) again
            (laws.marks.marks setting call.sub (before y history) ground.few
            (its_legal laws.marks setting call.sub history ground.few ground.legal y) from its_coming.inside))

  origin-on : (mark : PresenceMark) → mark_seen setting call.sub (before first history) call.from ≡ mark
      → GoesOn first (after_origin setting call mark)
  origin-on Empty is = climb-on first None 0 _ ground.order (elsewhere Empty is (inl refl))
      (climbed-none setting history call first first (omega arith))
  origin-on (Here p) is = omega arith
  origin-on (Off p) is = omega arith
  origin-on (Gone p to) is = climb-on first (Some p) 0 _ ground.order (elsewhere (Gone p to) is (inr (p, to, refl)))
      (climbed-none setting history call first first (omega arith))
  origin-on (Coming q from) is = coming-on q from is

  -- one look
  look-on : (t u : ℕ) (pursuit : Pursuit) (key : Key) → first ≤ t → t < u → u ≤ last → u ≤ length history
      → key_of call pursuit ≡ Some key → GoesOn t pursuit
      → GoesOn u (after_word setting call pursuit (cell setting (before u history) key))
  look-on t u at_origin key low later by within wanted now = absurd now
  look-on t u (climbs known weight reader left) key low later by within wanted now =
      let e : Entry reader.level reader.cluster call.sub ≡ key = cc in
      subst (λ k. GoesOn u (after_word setting call (climbs known weight reader left)
      (cell setting (before u history) k))) e
      (entry-on t u known weight reader left low later by now.0 now.1 _ refl)
  look-on t u (chases chase node) key low later by within wanted now =
      let e : Presence node call.sub ≡ key = cc in
      subst (λ k. GoesOn u (after_word setting call (chases chase node) (cell setting (before u history) k))) e
      (chase-on u _ (mark-paid laws.marks setting call.sub history ground.few ground.legal ground.tracking.metric last most t u
      chase node now (omega (arith, later)) by within (mark_seen setting call.sub (before u history) node) refl))
  look-on t u (ended found) key low later by within wanted now = cc

  -- all of them
  pub find-on : (actor : ℕ) (found : Found) (tickets : List ℕ) → first ≡ first_of tickets → last ≡ last_of tickets
      → IsFind setting history actor call found tickets → found_weight found ≤ most
  find-on actor found tickets is_first is_last find =
      (looks-end setting history actor call last (λ t pursuit. (first ≤ t) × GoesOn t pursuit)
      (λ t u pursuit key later by is_look wanted now. (
        omega (arith, now.0, later),
        look-on t u pursuit key now.0 later by (omega (
          arith,
          slice_get_within history u (look_by actor key) is_look,
        )) wanted now.1,
      ))
      tickets find (omega (arith, is_last)) (λ t key at_first by is_look wanted. (
        omega (arith, is_first, at_first),
        start-on t key (is_first ∙ sym at_first) wanted,
      ))).1
    where
      start-on : (t : ℕ) (key : Key) → first ≡ t → key_of call at_origin ≡ Some key
          → GoesOn t (after_word setting call at_origin (cell setting (before t history) key))
      start-on t key same wanted =
          let e : Presence call.from call.sub ≡ key = cc in
          subst (λ n. GoesOn n (after_word setting call at_origin (cell setting (before n history) key))) same
          (subst (λ k. GoesOn first (after_word setting call at_origin (cell setting (before first history) k))) e
          (origin-on (mark_seen setting call.sub (before first history) call.from) refl))
