-- Where a chase took too many hops, at least three moves were committed since it began.
use Rattle.std.proofs.Common.{◌≡◌, ◌⊎◌, inl, inr, ℕ, zero, suc, ◌+◌, ◌-◌, ◌<◌, ◌≤◌, ◌^◌, Bool, true, false, cond, List, [], ◌∷◌, Option, Some, None, length, refl, sym, subst, arith}
use Rattle.std.specs.Prelude.{slice_get}
use Rattle.std.proofs.lemmas.Option.{slice_get_within}
use Rattle.entry_word.specs.declared.address.Address.{Address}
use Rattle.entry_word.specs.declared.mark.PresenceMark.{PresenceMark}
use Rattle.entry_word.specs.declared.mark.PresenceMark.TheVariants.{Empty, Here, Gone, Coming, Off}
use Rattle.entry_word.specs.declared.visit.Key.{Key}
use Rattle.entry_word.specs.declared.visit.Key.TheVariants.{Entry, Presence}
use Rattle.directory.specs.Settings.{levels, Setting}
use Rattle.directory.specs.Histories.{before, cell, History}
use Rattle.directory.specs.Finds.{after_entry, after_mark, after_origin, after_word, at_origin, Chase, chases, climb, climbs, ended, FindCall, hop, is_known, key_of, known_with, most_hops, Pursuit, Reader}
use Rattle.directory.specs.Legal.{IsLegal}
use Rattle.directory.specs.Looks.{first_of, last_of, look_by}
use Rattle.directory.specs.Standing.{standing}
use Rattle.directory.specs.declared.answers.Found.{Found}
use Rattle.directory.specs.declared.answers.Found.TheVariants.{At, Off as OffAt, Again}
use Rattle.directory.specs.declared.answers.Why.TheVariants.{Empty as EmptyAt, NoEntry, Chased}
use Rattle.trail_laws.specs.Trail.{entry_seen, mark_seen}
use Rattle.busy_finds.specs.Again.{BeginsChase, ChasedMeetsCommits}
use Rattle.busy_finds.specs.LawsBelow.{PriceLaws}
use Rattle.busy_finds.proofs.Ahead.{ahead-few}
use Rattle.busy_finds.proofs.Emptied.{address-so, coming-begins, coming-so, gone-after, gone-so, IsChasing, mark-tells}
use Rattle.busy_finds.proofs.Looks.{Climbed, climbed-more, climbed-none, IsMetAt, looks-end, met-at}
use Rattle.busy_finds.proofs.Tickets.{count, gone-is, IsGone, none-gone, stands-in}
use Rattle.busy_finds.proofs.Hops.{begins-counted, coming-counted, committed, gone-counted, IsCounted, IsSpent}

module _ (laws : PriceLaws) (setting : Setting) (history : History) (actor : ℕ) (call : FindCall) (first : ℕ)
    (few : setting.nodes ≤ 2 ^ 16) (inside : call.from < setting.nodes) (legal : IsLegal setting call.sub history) where
  abbrev pub Chases : ℕ → ℕ → ℕ → ℕ → Type 0
  Chases t since place node = IsChasing laws setting history actor call first few inside legal t since place node

  abbrev pub count_at : ℕ → ℕ
  count_at t = count laws.marks setting call.sub history few legal t

  abbrev pub seen_at : ℕ → ℕ → PresenceMark
  seen_at t node = mark_seen setting call.sub (before t history) node

  abbrev pub HasCounts : ℕ → ℕ → ℕ → ℕ → Option ℕ → ℕ → Type 0
  HasCounts t since place node known hops =
      IsCounted laws setting history actor call first few inside legal t since place node known hops

  abbrev pub Answers : ℕ → Found → Type 0
  Answers t (At node number level weight) = Unit {0}
  Answers t (OffAt node number level weight) = Unit {0}
  Answers t (Again (EmptyAt node) weight) = Unit {0}
  Answers t (Again NoEntry weight) = Unit {0}
  Answers t (Again Chased weight) = (since : ℕ) × (first ≤ since) × BeginsChase setting history actor call first since
      × (since ≤ t) × (count_at since + 3 ≤ count_at t)

  abbrev pub IsUnderWay : ℕ → Chase → ℕ → Type 0
  IsUnderWay t chase node = (since : ℕ) × (place : ℕ) × (hops : ℕ) × Chases t since place node
      × HasCounts t since place node chase.known hops × (hops + chase.hops_left ≡ most_hops setting)

  abbrev pub Counts : ℕ → Pursuit → Type 0
  Counts t at_origin = ⊥
  Counts t (climbs known weight reader later) = Climbed setting history call first t weight (reader ∷ later)
  Counts t (chases chase node) = IsUnderWay t chase node
  Counts t (ended found) = Answers t found

  climb-so : (t : ℕ) (known : Option ℕ) (weight : ℕ) (left : List Reader)
      → Climbed setting history call first t weight left → Counts t (climb known weight left)
  climb-so t known weight [] c = tt
  climb-so t known weight (reader ∷ left) c = c

  pub origin-so : (t : ℕ) → t ≡ first → (mark : PresenceMark) → seen_at t call.from ≡ mark
      → Counts t (after_origin setting call mark)
  origin-so t at Empty is = climb-so t None 0 _ (climbed-none setting history call first t (omega (arith, at)))
  origin-so t at (Here p) is = tt
  origin-so t at (Off p) is = tt
  origin-so t at (Gone p to) is = climb-so t (Some p) 0 _ (climbed-none setting history call first t (omega (arith, at)))
  origin-so t at (Coming p from) is =
      let chasing : Chases t t (p - 1) from =
      coming-begins laws setting history actor call first few inside legal t p from at is in (
        t,
        p - 1,
        0,
        chasing,
        begins-counted laws setting history actor call first few inside legal t (p - 1) from None chasing.known_then,
        omega arith,
      )

  entry-so : (t u : ℕ) (known : Option ℕ) (weight : ℕ) (reader : Reader) (left : List Reader) → first ≤ t → t < u
      → slice_get history u ≡ Some (look_by actor (Entry reader.level reader.cluster call.sub))
      → Climbed setting history call first t weight (reader ∷ left) → (entry : Option Address)
      → entry_seen setting call.sub (before u history) reader.level reader.cluster ≡ entry
      → Counts u (after_entry setting call known weight reader left entry)
  entry-so t u known weight reader left low later is_look c None e = climb-so u known _ left
      (climbed-more setting history call first t u weight reader left (omega (arith, later)) e c)
  entry-so t u known weight reader left low later is_look c (Some address) e =
      let met : IsMetAt setting history call first t 0 (levels setting) c.passed reader =
      met-at setting history call first t 0 (levels setting) c.passed left reader c.all c.empty in
      let chasing : Chases u u address.number address.node =
      address-so laws setting history actor call first few inside legal u reader address (omega (arith, low, later))
      (omega (arith, met.high)) is_look e in (
        u,
        address.number,
        0,
        chasing,
        begins-counted laws setting history actor call first few inside legal u address.number address.node known
            chasing.known_then,
        omega arith,
      )

  -- one more hop, or one too many
  hop-so : (t since place to hops : ℕ) (known level : Option ℕ) (weight left node : ℕ) → Chases t since place to
      → HasCounts t since place to known (suc hops) → hops + left ≡ most_hops setting → place ≤ count_at t
      → Counts t (hop setting known level weight left node to)
  hop-so t since place to hops known level weight zero node chasing counted total low = (
    since,
    chasing.low,
    chasing.begins,
    chasing.by,
    omega (
      arith,
      counted.bound,
      total,
      low,
      ahead-few (λ v. seen_at since v) 0 (standing setting call.sub (before since history)) setting.nodes
          (stands-in laws.marks setting call.sub history few legal since)
          (λ q other gone. none-gone laws.marks setting call.sub history few legal since q other gone),
      at_once counted.once,
    ),
  )
    where
      at_once : (counted.extra ≡ 0) ⊎ ((counted.extra ≡ 1)
          × IsSpent laws setting history actor call first few inside legal since t place known) → counted.extra ≤ 1
      at_once (inl none) = omega (arith, none)
      at_once (inr one) = omega (arith, one.0)
  hop-so t since place to hops known level weight (suc left) node chasing counted total low =
      (since, place, suc hops, chasing, counted, omega (arith, total))

  module _ (t u since place node hops : ℕ) (chase : Chase) (now : Chases t since place node)
      (counted : HasCounts t since place node chase.known hops) (later : t ≤ u) (low : u ≤ length history) where
    mark-so : hops + chase.hops_left ≡ most_hops setting → (mark : PresenceMark) → seen_at u node ≡ mark
        → Counts u (after_mark setting chase node mark)
    mark-so total Empty is = tt
    mark-so total (Here p) is = tt
    mark-so total (Off p) is = tt
    mark-so total (Gone q to) is =
        let gone : IsGone laws.marks setting call.sub history few legal u node q to =
        gone-is laws.marks setting call.sub history few legal u node q to
        (mark-tells laws setting history actor call first few inside legal u node (Gone q to) now.within is) in
        let above : place < q =
        gone-after laws setting history actor call first few inside legal t u since place chase node now later low
        q to is in
        hop-so u since q to hops (known_with q chase.known) chase.level chase.weight chase.hops_left node
        (gone-so laws setting history actor call first few inside legal t u since place chase node now later low
        q to is)
        (gone-counted laws setting history actor call first few inside legal t u since place node hops chase now counted later low
        q to is above gone.goes)
        total gone.by
    mark-so total (Coming q from) is = at_test (is_known q chase.known) refl
      where
        at_test : (b : Bool) → is_known q chase.known ≡ b
            → Counts u (cond b (ended (At node q chase.level chase.weight))
            (hop setting chase.known chase.level chase.weight chase.hops_left node from))
        at_test true unknown = tt
        at_test false unknown =
            hop-so u since (q - 1) from hops chase.known chase.level chase.weight chase.hops_left node
            (coming-so laws setting history actor call first few inside legal t u since place chase node now later low
            q from is)
            (coming-counted laws setting history actor call first few inside legal t u since place node hops chase now counted later low
            q from is unknown)
            total
            (committed laws setting history actor call first few inside legal t u since place node hops chase now counted later low
            q from is unknown)

  pub look-so : (t u : ℕ) (pursuit : Pursuit) (key : Key) → first ≤ t → t < u
      → slice_get history u ≡ Some (look_by actor key) → key_of call pursuit ≡ Some key
      → Counts t pursuit → Counts u (after_word setting call pursuit (cell setting (before u history) key))
  look-so t u at_origin key low later is_look wanted now = absurd now
  look-so t u (climbs known weight reader left) key low later is_look wanted now =
      let e : Entry reader.level reader.cluster call.sub ≡ key = cc in
      subst (λ k. Counts u (after_word setting call (climbs known weight reader left)
      (cell setting (before u history) k))) e
      (entry-so t u known weight reader left low later
      (subst (λ k. slice_get history u ≡ Some (look_by actor k)) (sym e) is_look) now (entry_seen setting call.sub (before u history) reader.level reader.cluster) refl)
  look-so t u (chases chase node) key low later is_look wanted (since, place, hops, now, counted, total) =
      let e : Presence node call.sub ≡ key = cc in
      subst (λ k. Counts u (after_word setting call (chases chase node) (cell setting (before u history) k))) e
      (mark-so t u since place node hops chase now counted (omega (arith, later))
      (omega (arith, slice_get_within history u (look_by actor key) is_look)) total (seen_at u node) refl)
  look-so t u (ended found) key low later is_look wanted now = cc

pub chased-meets : PriceLaws → ChasedMeetsCommits
chased-meets laws setting history actor call weight tickets few inside legal find =
    (ended_so.0, ended_so.1, ended_so.2, ended_so.4)
  where
    first : ℕ
    first = first_of tickets

    last : ℕ
    last = last_of tickets

    origin-at : (t : ℕ) (key : Key) → t ≡ first → key_of call at_origin ≡ Some key
        → Counts laws setting history actor call first few inside legal t
        (after_word setting call at_origin (cell setting (before t history) key))
    origin-at t key is_first wanted =
        let e : Presence call.from call.sub ≡ key = cc in
        subst (λ k. Counts laws setting history actor call first few inside legal t
        (after_word setting call at_origin (cell setting (before t history) k))) e
        (origin-so laws setting history actor call first few inside legal t is_first _ refl)

    told_end : (first ≤ last)
        × Answers laws setting history actor call first few inside legal last (Again Chased weight)
    told_end = looks-end setting history actor call last
        (λ t pursuit. (first ≤ t) × Counts laws setting history actor call first few inside legal t pursuit)
        (λ t u pursuit key later by is_look wanted now. (
          omega (arith, now.0, later),
          look-so laws setting history actor call first few inside legal t u pursuit key now.0 later is_look wanted
              now.1,
        ))
        tickets find (omega arith)
        (λ t key is_first by is_look wanted. (omega (arith, is_first), origin-at t key is_first wanted))

    ended_so : Answers laws setting history actor call first few inside legal last (Again Chased weight)
    ended_so = told_end.1
