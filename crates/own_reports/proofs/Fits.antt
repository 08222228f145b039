-- What a find answers can be written: its node and its level are those of the network and the plan,
-- and its weight is small, since each look adds little and there are few.
use Rattle.std.proofs.Common.{◌≡◌, ℕ, zero, suc, ◌+◌, ◌*◌, ◌^◌, ◌<◌, ◌≤◌, ◌==◌, ◌||◌, Bool, true, false, cond, List, [], ◌∷◌, ◌++◌, map, Option, Some, None, ap, sym, arith, subst}
use Rattle.std.specs.Prelude.{flat_map}
use Rattle.std.proofs.lemmas.Bool.Decides.{nat_tests}
use Rattle.entry_word.specs.Addresses.{address_in}
use Rattle.entry_word.specs.Marks.{mark_in}
use Rattle.entry_word.specs.declared.address.Address.{Address}
use Rattle.entry_word.specs.declared.mark.PresenceMark.{PresenceMark}
use Rattle.entry_word.specs.declared.mark.PresenceMark.TheVariants.{Empty, Gone, Coming}
use Rattle.entry_word.specs.declared.visit.Key.{Key}
use Rattle.entry_word.specs.declared.visit.Key.TheVariants.{Presence, Entry}
use Rattle.node_set.specs.Ascending.{has}
use Rattle.directory.specs.Settings.{Setting, levels}
use Rattle.directory.specs.Finds.{Chase, FindCall, Reader, Pursuit, after_entry, after_mark, after_origin, after_word, all_readers, at_origin, chases, climb, climbs, ended, found_weight, hop, is_known, key_of, known_with, looks_left, way_in}
use Rattle.directory.specs.Histories.{History, before, cell}
use Rattle.directory.specs.Legal.{IsLegal}
use Rattle.directory.specs.LookLaws.{pursuit-step, pursuit_after}
use Rattle.directory.specs.Looks.{AreLooks, IsFind}
use Rattle.directory.specs.Statements.{LooksFall}
use Rattle.directory.specs.Writes.{numbers_from}
use Rattle.directory.specs.declared.answers.Found.{Found}
use Rattle.directory.specs.declared.answers.Found.TheVariants.{At, Off as OffAt, Again}
use Rattle.report_check.specs.Forms.{IsLevelBelow, IsWhyBelow}
use Rattle.trail_laws.specs.Trail.{EntriesTell, EntryTells, MarkTells, MarksTell}
use Rattle.own_reports.proofs.Sizes.{IsSmall, reader_at}
use Rattle.std.proofs.lemmas.Bool.{or_right}

-- the most that a find may weigh
abbrev pub most_weight : ℕ
most_weight = 2 ^ 52

-- an answer can be written
abbrev pub IsFit : Setting → Found → Type 0
IsFit setting (At node number level weight) =
    (node < setting.nodes) × IsLevelBelow (levels setting) level × (weight ≤ most_weight)
IsFit setting (OffAt node number level weight) =
    (node < setting.nodes) × IsLevelBelow (levels setting) level × (weight ≤ most_weight)
IsFit setting (Again why weight) = IsWhyBelow setting.nodes why × (weight ≤ most_weight)

-- the weight of a pursuit
abbrev weight_of : Pursuit → ℕ
weight_of at_origin = 0
weight_of (climbs known weight reader later) = weight
weight_of (chases chase node) = chase.weight
weight_of (ended found) = found_weight found

module _ (setting : Setting) (small : IsSmall setting) (call : FindCall) (from_inside : call.from < setting.nodes) where
  -- a reader is of a level of the plan, and lies near
  abbrev IsReader : Reader → Type 0
  IsReader reader = (reader.level ≤ setting.top) × (way_in setting call reader ≤ 2 ^ 35)

  abbrev AreReaders : List Reader → Type 0
  AreReaders [] = Unit {0}
  AreReaders (reader ∷ later) = IsReader reader × AreReaders later

  readers-join : (xs ys : List Reader) → AreReaders xs → AreReaders ys → AreReaders (xs ++ ys)
  readers-join [] ys one two = two
  readers-join (x ∷ xs) ys one two = (one.0, readers-join xs ys one.1 two)

  level-readers : (level : ℕ) (clusters : List ℕ) → level ≤ setting.top
      → ((c : ℕ) → has c clusters ≡ true → has c (setting.readers level call.from) ≡ true)
      → AreReaders (map (reader_at level) clusters)
  level-readers level [] low inside = tt
  level-readers level (c ∷ clusters) low inside = (
    (low, small.inside level c call.from low from_inside (inside c (self c (has c clusters)))),
    level-readers level clusters low (λ d found. inside d (or_right (d == c) (has d clusters) found)),
  )
    where
      self : (n : ℕ) (b : Bool) → ((n == n) || b) ≡ true
      self n b = let e : (n == n) ≡ true = grind (arith, nat_tests) in ap (λ x. x || b) e

  readers-from : (from count : ℕ) → from + count ≤ levels setting
      → AreReaders (flat_map (λ level. map (reader_at level) (setting.readers level call.from))
      (numbers_from from count))
  readers-from from zero fits = tt
  readers-from from (suc count) fits =
      readers-join (map (reader_at from) (setting.readers from call.from)) _
      (level-readers from (setting.readers from call.from) (omega (arith, fits)) (λ c found. found))
      (readers-from (suc from) count (omega (arith, fits)))

  -- where a pursuit is, and what it may answer
  abbrev IsPlaced : Pursuit → Type 0
  IsPlaced at_origin = Unit {0}
  IsPlaced (climbs known weight reader later) = AreReaders (reader ∷ later)
  IsPlaced (chases chase node) = (node < setting.nodes) × IsLevelBelow (levels setting) chase.level
  IsPlaced (ended (At node number level weight)) = (node < setting.nodes) × IsLevelBelow (levels setting) level
  IsPlaced (ended (OffAt node number level weight)) = (node < setting.nodes) × IsLevelBelow (levels setting) level
  IsPlaced (ended (Again why weight)) = IsWhyBelow setting.nodes why

  -- a mark and an address name nodes of the network
  abbrev IsMarkInside : PresenceMark → Type 0
  IsMarkInside (Gone number to) = to < setting.nodes
  IsMarkInside (Coming number from) = from < setting.nodes
  IsMarkInside _ = Unit {0}

  abbrev IsAddressInside : Option Address → Type 0
  IsAddressInside None = Unit {0}
  IsAddressInside (Some address) = address.node < setting.nodes

  -- one pursuit more: where it is, and that it weighs little more
  abbrev IsNext : Pursuit → Pursuit → Type 0
  IsNext pursuit next = IsPlaced next × (weight_of next ≤ weight_of pursuit + 2 ^ 36)

  climb-next : (known : Option ℕ) (weight most : ℕ) (readers : List Reader) → AreReaders readers → weight ≤ most
      → IsPlaced (climb known weight readers) × (weight_of (climb known weight readers) ≤ most)
  climb-next known weight most [] all low = (tt, low)
  climb-next known weight most (reader ∷ later) all low = (all, low)

  hop-next : (known level : Option ℕ) (weight hops node to : ℕ) → IsLevelBelow (levels setting) level
      → to < setting.nodes
      → IsPlaced (hop setting known level weight hops node to)
      × (weight_of (hop setting known level weight hops node to) ≤ weight + 2 ^ 36)
  hop-next known level weight zero node to low inside = (tt, omega arith)
  hop-next known level weight (suc more) node to low inside = ((inside, low), omega (arith, small.distance node to))

  origin-next : (mark : PresenceMark) → IsMarkInside mark → IsNext at_origin (after_origin setting call mark)
  origin-next Empty inside =
      climb-next None 0 _ (all_readers setting call.from) (readers-from 0 (levels setting) (omega arith)) (omega arith)
  origin-next (Gone number to) inside =
      climb-next (Some number) 0 _ (all_readers setting call.from) (readers-from 0 (levels setting) (omega arith))
      (omega arith)
  origin-next (Coming number from) inside = ((inside, tt), omega (arith, small.distance call.from from))
  origin-next _ inside = ((from_inside, tt), omega arith)

  entry-next : (known : Option ℕ) (weight : ℕ) (reader : Reader) (later : List Reader) (address : Option Address)
      → AreReaders (reader ∷ later) → IsAddressInside address
      → IsNext (climbs known weight reader later) (after_entry setting call known weight reader later address)
  entry-next known weight reader later None all inside =
      climb-next known (weight + 2 * way_in setting call reader) _ later all.1 (omega (arith, all.0.1))
  entry-next known weight reader later (Some address) all inside = (
    (inside, omega (arith, all.0.0)),
    omega (arith, all.0.1, small.distance (setting.leader reader.level reader.cluster) address.node),
  )

  coming-next : (b : Bool) (chase : Chase) (node number from : ℕ) → node < setting.nodes
      → IsLevelBelow (levels setting) chase.level → from < setting.nodes
      → IsNext (chases chase node) (cond b (ended (At node number chase.level chase.weight))
      (hop setting chase.known chase.level chase.weight chase.hops_left node from))
  coming-next true chase node number from here low inside = ((here, low), omega arith)
  coming-next false chase node number from here low inside =
      hop-next chase.known chase.level chase.weight chase.hops_left node from low inside

  mark-next : (chase : Chase) (node : ℕ) (mark : PresenceMark) → node < setting.nodes
      → IsLevelBelow (levels setting) chase.level → IsMarkInside mark
      → IsNext (chases chase node) (after_mark setting chase node mark)
  mark-next chase node Empty here low inside = (here, omega arith)
  mark-next chase node (Gone number to) here low inside =
      hop-next (known_with number chase.known) chase.level chase.weight chase.hops_left node to low inside
  mark-next chase node (Coming number from) here low inside =
      coming-next (is_known number chase.known) chase node number from here low inside
  mark-next chase node _ here low inside = ((here, low), omega arith)

  module _ (history : History) (marks : MarksTell) (entries : EntriesTell)
      (legal : (t : ℕ) → IsLegal setting call.sub (before t history)) where
    few : setting.nodes ≤ 2 ^ 16
    few = omega (arith, small.nodes)

    mark-inside : (h : History) (node : ℕ) (mark : PresenceMark) → MarkTells setting call.sub h node mark
        → IsMarkInside mark
    mark-inside h node (Gone number to) tells = tells.2
    mark-inside h node (Coming number from) tells = tells.1
    mark-inside h node _ tells = tt

    entry-inside : (h : History) (level cluster : ℕ) (entry : Option Address)
        → EntryTells setting call.sub h level cluster entry → IsAddressInside entry
    entry-inside h level cluster None tells = tt
    entry-inside h level cluster (Some address) tells = tells.0

    word-next : (pursuit : Pursuit) (t : ℕ) (key : Key) → IsPlaced pursuit → key_of call pursuit ≡ Some key
        → IsNext pursuit (after_word setting call pursuit (cell setting (before t history) key))
    word-next at_origin t key placed wanted =
        let e : Presence call.from call.sub ≡ key = cc in
        rw (← e)
        (origin-next (mark_in (cell setting (before t history) (Presence call.from call.sub)))
        (mark-inside (before t history) call.from _
        (marks setting call.sub (before t history) few (legal t) call.from from_inside)))
    word-next (climbs known weight reader later) t key placed wanted =
        let e : Entry reader.level reader.cluster call.sub ≡ key = cc in
        rw (← e)
        (entry-next known weight reader later
        (address_in (cell setting (before t history) (Entry reader.level reader.cluster call.sub))) placed
        (entry-inside (before t history) reader.level reader.cluster _
        (entries setting call.sub (before t history) few (legal t) reader.level reader.cluster placed.0.0)))
    word-next (chases chase node) t key placed wanted =
        let e : Presence node call.sub ≡ key = cc in
        rw (← e)
        (mark-next chase node (mark_in (cell setting (before t history) (Presence node call.sub))) placed.0 placed.1
        (mark-inside (before t history) node _
        (marks setting call.sub (before t history) few (legal t) node placed.0)))
    word-next (ended found) t key placed wanted = let bad : None ≡ Some key = wanted in cc

    looks-fit : LooksFall → (actor earliest : ℕ) (pursuit : Pursuit) (seen : List ℕ)
        → AreLooks setting history actor call earliest pursuit seen → IsPlaced pursuit
        → weight_of pursuit + 2 ^ 36 * looks_left setting call pursuit ≤ most_weight
        → IsPlaced (pursuit_after setting history call pursuit seen)
        × (weight_of (pursuit_after setting history call pursuit seen) ≤ most_weight)
    unfolding AreLooks
    looks-fit fall actor earliest pursuit [] looks placed light = (placed, omega (arith, light))
    looks-fit fall actor earliest pursuit (t ∷ seen) (later, (key, wanted, there, looks)) placed light =
        let word : ℕ = cell setting (before t history) key in
        let next : Pursuit = after_word setting call pursuit word in
        let goes : IsNext pursuit next = word-next pursuit t key placed wanted in
        let fewer : looks_left setting call next < looks_left setting call pursuit = fall setting call pursuit word key
        wanted in
        subst (λ s. IsPlaced s × (weight_of s ≤ most_weight))
        (sym (pursuit-step setting history actor call pursuit t key seen there))
        (looks-fit fall actor (suc t) next seen looks goes.0
        (less (weight_of pursuit) (weight_of next) (looks_left setting call pursuit) (looks_left setting call next)
        goes.1 fewer
        light))
      where
        less : (w v l k : ℕ) → v ≤ w + 2 ^ 36 → k < l → w + 2 ^ 36 * l ≤ most_weight → v + 2 ^ 36 * k ≤ most_weight
        less w v l k heavier fewer light = omega (arith, heavier, fewer, light)

    fit-of : (found : Found) → IsPlaced (ended found) → found_weight found ≤ most_weight → IsFit setting found
    fit-of (At node number level weight) placed light = (placed.0, placed.1, light)
    fit-of (OffAt node number level weight) placed light = (placed.0, placed.1, light)
    fit-of (Again why weight) placed light = (placed, light)

    -- what a find answers can be written
    pub find-fits : LooksFall → (actor : ℕ) (found : Found) (seen : List ℕ)
        → IsFind setting history actor call found seen → IsFit setting found
    find-fits fall actor found seen is =
        let fits = looks-fit fall actor 0 at_origin seen is.looks tt (omega (arith, small.looks call.from)) in
        let at_end = subst (λ s. IsPlaced s × (weight_of s ≤ most_weight)) is.answer fits in
        fit-of found at_end.0 at_end.1
