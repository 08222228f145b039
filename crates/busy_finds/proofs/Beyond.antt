-- What a find pays beyond its reading, from the address that it met.
use Rattle.std.proofs.Common.{◌≡◌, inl, inr, ℕ, zero, suc, ◌+◌, ◌-◌, ◌*◌, ◌<◌, ◌≤◌, ◌^◌, Bool, true, false, cond, ◌||◌, List, [], ◌∷◌, ◌++◌, Option, Some, None, length, take, refl, sym, ap, ◌∙◌, subst, arith, length-append}
use Rattle.std.specs.List.{last_or, list_any}
use Rattle.std.proofs.lemmas.Bool.{cases_lt}
use Rattle.std.proofs.lemmas.List.{append-nil, take-append-le}
use Rattle.std.proofs.lemmas.List.Folds.{list_any-append}
use Rattle.node_set.specs.Ascending.{has}
use Rattle.entry_word.specs.declared.address.Address.{Address}
use Rattle.entry_word.specs.declared.mark.PresenceMark.TheVariants.{Coming}
use Rattle.directory.specs.Settings.{Setting, start}
use Rattle.directory.specs.Courses.{base, course_at, Move}
use Rattle.directory.specs.Finds.{Chase, FindCall}
use Rattle.directory.specs.Histories.{before, History, puts_to}
use Rattle.directory.specs.Legal.{IsLegal}
use Rattle.directory.specs.Puts.{mark_put, node_put, steps_in}
use Rattle.directory.specs.Standing.{Commit, commits, confirms, number, passage, passage_of, standing}
use Rattle.directory.specs.StepLaws.{slice_get-within, start-kept}
use Rattle.trail_laws.specs.Phases.{moves_begun}
use Rattle.trail_laws.specs.Trail.{entry_seen, EntryTells, mark_seen, MarkTells}
use Rattle.stretch_laws.specs.Tracking.{IsTracking}
use Rattle.busy_finds.specs.LawsBelow.{PriceLaws}
use Rattle.busy_finds.specs.Within.{moves_of}
use Rattle.busy_finds.proofs.Chase.{IsPaid}
use Rattle.busy_finds.proofs.Fronts.{more-commits, more-puts, number-more}
use Rattle.busy_finds.proofs.Moves.{AreInPlace, stop-after, stop-inside, stop_of}
use Rattle.busy_finds.proofs.Older.{none-older}
use Rattle.busy_finds.proofs.Sums.{below-steps, StayBelow, travelled, travelled-more, travelled-step, way-within}
use Rattle.busy_finds.proofs.Tickets.{begun-low, begun-more, coming-is, count-begun, first-moves, IsComing, its_legal, placed, stands-in, stands-there, stop-then}

-- what stands before a find: the setting tracks its subscribers, and the history is legal
pub record Ground (setting : Setting) (width most_readers : ℕ) (history : History) (call : FindCall)
    (first last : ℕ) : Type 0 where
  pub few : setting.nodes ≤ 2 ^ 16
  pub tracking : IsTracking setting width most_readers
  pub inside : call.from < setting.nodes
  pub legal : IsLegal setting call.sub history
  pub order : first ≤ last

-- a passage that is still open was open before
passage-since : (setting : Setting) (xs ys : History) (c : Option Commit)
    → passage_of setting (xs ++ ys) c ≤ passage_of setting xs c
passage-since setting xs ys None = omega arith
passage-since setting xs ys (Some c) =
    rw (list_any-append (λ visit. confirms c (node_put visit.act) (mark_put visit.act)) xs ys)
    (at_test (list_any (λ visit. confirms c (node_put visit.act) (mark_put visit.act)) xs))
  where
    at_test : (b : Bool) → cond (b || list_any (λ visit. confirms c (node_put visit.act) (mark_put visit.act)) ys) 0
        (setting.distance c.from c.to) ≤ cond b 0 (setting.distance c.from c.to)
    at_test true = omega arith
    at_test false = at_other (list_any (λ visit. confirms c (node_put visit.act) (mark_put visit.act)) ys)
      where
        at_other : (b : Bool) → cond b 0 (setting.distance c.from c.to) ≤ setting.distance c.from c.to
        at_other true = omega arith
        at_other false = omega arith

passage-earlier : (setting : Setting) (sub : ℕ) (history : History) (t u : ℕ) → t ≤ u
    → number sub (before t history) ≡ number sub (before u history)
    → passage setting sub (before u history) ≤ passage setting sub (before t history)
passage-earlier setting sub history t u h same =
    let more = more-commits sub t u history h in
    let none : more.0 ≡ [] = nothing-more more.0 (omega (
      arith,
      same,
      ap length more.1,
      length-append (commits sub (before t history)) more.0,
    )) in
    let still : commits sub (before u history) ≡ commits sub (before t history) =
    more.1 ∙ (ap (λ cs. commits sub (before t history) ++ cs) none ∙ append-nil (commits sub (before t history))) in
    let puts = more-puts sub t u history h in
    rw (still, puts.1) (passage-since setting (puts_to sub (before t history)) puts.0
    (last_or None (commits sub (before t history))))
  where
    nothing-more : (xs : List Commit) → length xs ≡ 0 → xs ≡ []
    nothing-more [] e = refl
    nothing-more (x ∷ xs) e = absurd (omega (arith, e))

module _ (laws : PriceLaws) (setting : Setting) (width most_readers : ℕ) (history : History) (call : FindCall)
    (first last : ℕ) (ground : Ground setting width most_readers history call first last) where
  abbrev pub its : List Move
  its = moves_of setting call.sub history

  abbrev pub far_by : ℕ → ℕ
  far_by place = travelled its place

  abbrev pub stop_by : ℕ → ℕ
  stop_by place = stop_of (start setting call.sub) its place

  abbrev pub count_by : ℕ → ℕ
  count_by t = number call.sub (before t history)

  abbrev pub begun_by : ℕ → ℕ
  begun_by t = moves_begun setting call.sub (before t history)

  abbrev pub stood : ℕ
  stood = standing setting call.sub (before first history)

  in-place : AreInPlace setting (start setting call.sub) its
  in-place = placed laws.marks setting call.sub history ground.few ground.legal

  stood-there : stood ≡ stop_by (count_by first)
  stood-there = stands-there laws.marks setting call.sub history ground.few ground.legal first

  stood-in : stood < setting.nodes
  stood-in = stands-in laws.marks setting call.sub history ground.few ground.legal first

  stops-in : (t place : ℕ) → place ≤ begun_by t → stop_by place < setting.nodes
  stops-in t place low = stop-inside its in-place place
      (omega (arith, low, begun-low laws.marks setting call.sub history ground.few ground.legal t))

  -- no level has gathered its threshold
  pub below : StayBelow setting its
  below = below-steps setting (course_at (start setting call.sub)) (steps_in (puts_to call.sub history))
      (record { begins = ground.legal.script.begins; each = λ i move h. cc }) ground.legal.script.allowed
      ground.tracking.gathers (λ k level within low. at_none k level low)
    where
      at_none : (k level : ℕ) → level ≤ setting.top
          → travelled [] k < travelled [] (base level (take k [])) + setting.threshold level
      at_none zero level low = omega (arith, ground.tracking.gathers level low)
      at_none (suc k) level low = omega (arith, ground.tracking.gathers level low)

  -- what an address tells
  pub told-at : (x i c : ℕ) (address : Address) → i ≤ setting.top
      → entry_seen setting call.sub (before x history) i c ≡ Some address
      → EntryTells setting call.sub (before x history) i c (Some address)
  told-at x i c address low held = subst (EntryTells setting call.sub (before x history) i c) held
      (laws.entries setting call.sub (before x history) ground.few
      (its_legal laws.marks setting call.sub history ground.few ground.legal x) i c low)

  -- ---- an address that a reader of the origin has
  module _ (x i c : ℕ) (address : Address) (since : first ≤ x) (by : x ≤ last) (low : i ≤ setting.top)
      (reads : has c (setting.readers i call.from) ≡ true)
      (held : entry_seen setting call.sub (before x history) i c ≡ Some address) (spent most read : ℕ)
      (spends : far_by (count_by last) ≡ far_by (count_by first) + spent)
      (room : read + 2 * setting.inside i c call.from + 2 * setting.distance (setting.leader i c) address.node
      + 2 * setting.threshold i + setting.distance call.from stood + 2 * passage setting call.sub (before first history)
      + spent ≤ most + 2) where
    told : EntryTells setting call.sub (before x history) i c (Some address)
    told = told-at x i c address low held

    address-stop : address.node ≡ stop_by address.number
    address-stop = told.3
        ∙ (ap (λ n. stop_of n (moves_of setting call.sub (before x history)) address.number)
        (start-kept setting (course_at (start setting call.sub)) (steps_in (puts_to call.sub (before x history))))
        ∙ stop-then laws.marks setting call.sub history ground.few ground.legal x address.number told.2)

    leader_in : setting.leader i c < setting.nodes
    leader_in = ground.tracking.led i c call.from low ground.inside reads

    -- over the leader
    over-leader : setting.distance address.node call.from
        ≤ setting.distance (setting.leader i c) address.node + setting.inside i c call.from
    over-leader = omega (
      arith,
      ground.tracking.far i c call.from low ground.inside reads,
      ground.tracking.metric.both_ways address.node (setting.leader i c) told.0 leader_in,
      ground.tracking.metric.detour address.node (setting.leader i c) call.from told.0 leader_in ground.inside,
    )

    -- to where the subscriber stood at the first look
    to-stood : setting.distance address.node stood
        ≤ setting.distance (setting.leader i c) address.node + setting.inside i c call.from
        + setting.distance call.from stood
    to-stood = omega (
      arith,
      over-leader,
      ground.tracking.metric.detour address.node call.from stood told.0 ground.inside stood-in,
    )

    -- a move from one stop to the next
    one-move : (t place : ℕ) → suc place ≤ begun_by t
        → far_by (suc place) ≡ far_by place + setting.distance (stop_by place) (stop_by (suc place))
    one-move t place low =
        let found = slice_get-within its place (omega (
          arith,
          low,
          begun-low laws.marks setting call.sub history ground.few ground.legal t,
        )) in
        omega (
          arith,
          travelled-step its place found.0 found.1,
          (in-place.each place found.0 found.1).weight,
          ap (setting.distance (stop_by place)) (stop-after (start setting call.sub) its place found.0 found.1),
        )

    way : (a b : ℕ) → a ≤ b → b ≤ begun_by x → setting.distance (stop_by a) (stop_by b) + far_by a ≤ far_by b
    way a b h low = way-within its in-place ground.tracking.metric a b h
        (omega (arith, low, begun-low laws.marks setting call.sub history ground.few ground.legal x))

    count-since : count_by first ≤ count_by x
    count-since = number-more call.sub first x history since

    count-within : count_by x ≤ begun_by x
    count-within = count-begun laws.marks setting call.sub history ground.few ground.legal x

    -- the moves from an address that isn't the newest one
    old-way : address.number < begun_by x
        → far_by (begun_by x - 1) < far_by address.number + setting.threshold i
    old-way older =
        let more = first-moves laws.marks setting call.sub history ground.few ground.legal x in
        let oldest : base i (take (begun_by x - 1) (moves_of setting call.sub (before x history))) ≤ address.number =
        none-older laws.marks.facts.writes setting call.sub (before x history) ground.few
        (its_legal laws.marks setting call.sub history ground.few ground.legal x) i c address low held in
        let same : take (begun_by x - 1) its ≡ take (begun_by x - 1) (moves_of setting call.sub (before x history)) =
        ap (take (begun_by x - 1)) more.1
        ∙ take-append-le (begun_by x - 1) (moves_of setting call.sub (before x history)) more.0 (omega arith) in
        omega (
          arith,
          below (begun_by x - 1) i (omega (
            arith,
            begun-low laws.marks setting call.sub history ground.few ground.legal x,
          )) low,
          travelled-more its (base i (take (begun_by x - 1) its)) address.number (omega (arith, oldest, ap (base i) same)),
        )

    some : 1 ≤ setting.threshold i
    some = ground.tracking.gathers i low

    -- where it isn't the newest
    old-on : address.number < begun_by x → (weight : ℕ)
        → weight ≤ read + setting.inside i c call.from + setting.distance (setting.leader i c) address.node
        → weight + far_by (count_by last) ≤ most + far_by address.number
    old-on older weight low_weight = elim (cases_lt (begun_by x - 1) (count_by first)) [
      | inr after ↦ omega (
        arith,
        spends,
        old-way older,
        travelled-more its (count_by first) (begun_by x - 1) after,
        room,
        low_weight,
        some,
      )
      | inl early ↦
          let is_first : begun_by x ≡ count_by first = omega (arith, early, count-since, count-within) in
          let e : suc (begun_by x - 1) ≡ begun_by x = omega (arith, older) in
          let step : far_by (begun_by x) ≡ far_by (begun_by x - 1)
          + setting.distance (stop_by (begun_by x - 1)) (stop_by (begun_by x)) =
          subst (λ n. far_by n ≡ far_by (begun_by x - 1) + setting.distance (stop_by (begun_by x - 1)) (stop_by n)) e
          (one-move x (begun_by x - 1) (omega (arith, older))) in
          let back : setting.distance (stop_by (begun_by x - 1)) stood
          ≤ setting.distance address.node (stop_by (begun_by x - 1)) + setting.distance address.node stood =
          omega (
            arith,
            ground.tracking.metric.detour (stop_by (begun_by x - 1)) address.node stood
                (stops-in x (begun_by x - 1) (omega arith)) told.0 stood-in,
            ground.tracking.metric.both_ways (stop_by (begun_by x - 1)) address.node
                (stops-in x (begun_by x - 1) (omega arith)) told.0,
          ) in
          omega (
            arith,
            spends,
            old-way older,
            step,
            ap far_by is_first,
            back,
            to-stood,
            ap (setting.distance (stop_by (begun_by x - 1))) (ap stop_by is_first ∙ sym stood-there),
            way address.number (begun_by x - 1) (omega (arith, older)) (omega arith),
            ap (λ n. setting.distance n (stop_by (begun_by x - 1))) address-stop,
            room,
            low_weight,
            some,
          )
    ]

    -- the chase from there
    pub address-paid : (chase : Chase)
        → chase.weight ≤ read + setting.inside i c call.from + setting.distance (setting.leader i c) address.node
        → IsPaid laws.marks setting call.sub history ground.few ground.legal ground.tracking.metric last most x chase address.node
    address-paid chase low_weight = record {
      place = address.number;
      there = address-stop;
      known_then = told.2;
      enough = omega (arith, room, low_weight, some);
      on = elim (cases_lt address.number (begun_by x)) [
        | inl older ↦ old-on older chase.weight low_weight
        | inr newest ↦ omega (
          arith,
          spends,
          travelled-more its (count_by first) address.number (omega (arith, newest, count-since, count-within)),
          room,
          low_weight,
          some,
        )
      ];
      back = λ y from later within unknown comes. back-paid y from later within comes;
    }
      where
        back-paid : (y from : ℕ) → x ≤ y → y ≤ last
            → mark_seen setting call.sub (before y history) address.node ≡ Coming address.number from
            → chase.weight + setting.distance address.node from + far_by (count_by last)
            ≤ most + far_by (address.number - 1)
        back-paid y from later within comes = elim (cases_lt (address.number - 1) (count_by first)) [
          | inr after ↦
              let ways : setting.distance address.node from
              ≤ setting.distance address.node stood + setting.distance stood from =
              ground.tracking.metric.detour address.node stood from told.0 stood-in is.inside in
              let on : setting.distance stood from + far_by (count_by first) ≤ far_by (address.number - 1) =
              omega (
                arith,
                way (count_by first) (address.number - 1) after (omega (arith, told.2)),
                ap (λ n. setting.distance n from) stood-there,
                ap (setting.distance (stop_by (count_by first))) is.leads,
              ) in
              omega (arith, spends, ways, on, to-stood, room, low_weight, some)
          | inl early ↦
              let newest : address.number ≡ begun_by x = omega (
                arith,
                is.last,
                begun-more laws.marks setting call.sub history ground.few ground.legal x y later,
                told.2,
              ) in
              let counted : address.number ≡ count_by first =
              omega (arith, early, newest, count-since, count-within, is.some) in
              let still : count_by first ≡ count_by y = omega (
                arith,
                counted,
                is.last,
                count-begun laws.marks setting call.sub history ground.few ground.legal y,
                number-more call.sub first y history (omega (arith, since, later)),
              ) in
              let unclosed : passage setting call.sub (before y history) ≡ setting.distance from address.node =
              laws.opens setting call.sub (before y history) ground.few
              (its_legal laws.marks setting call.sub history ground.few ground.legal y) address.node address.number from told.0
              comes (omega (arith, counted, still)) in
              let e : suc (address.number - 1) ≡ address.number = omega (arith, is.some) in
              let step : far_by address.number ≡ far_by (address.number - 1) + setting.distance from address.node =
              subst (λ n. far_by address.number ≡ far_by (address.number - 1) + setting.distance n address.node)
              (sym is.leads)
              (subst (λ n. far_by address.number ≡ far_by (address.number - 1)
              + setting.distance (stop_by (address.number - 1)) n) (sym address-stop)
              (subst (λ n. far_by n ≡ far_by (address.number - 1) + setting.distance (stop_by (address.number - 1)) (stop_by n))
              e (one-move x (address.number - 1) (omega (arith, newest, is.some))))) in
              omega (
                arith,
                spends,
                step,
                ap far_by counted,
                unclosed,
                passage-earlier setting call.sub history first y (omega (arith, since, later)) still,
                ground.tracking.metric.both_ways from address.node is.inside told.0,
                room,
                low_weight,
                some,
              )
        ]
          where
            is : IsComing laws.marks setting call.sub history ground.few ground.legal y address.node address.number from
            is = coming-is laws.marks setting call.sub history ground.few ground.legal y address.node address.number from
                (subst (MarkTells setting call.sub (before y history) address.node) comes
                (laws.marks.marks setting call.sub (before y history) ground.few
                (its_legal laws.marks setting call.sub history ground.few ground.legal y) address.node told.0))
