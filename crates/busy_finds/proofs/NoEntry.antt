-- Where a find met no address at all, a move that renews the top level was committed within it.
use Rattle.std.proofs.Common.{◌≡◌, ℕ, zero, suc, ◌<◌, ◌≤◌, ◌-◌, Bool, true, false, cond, List, [], ◌∷◌, Option, Some, None, inl, inr, length, take, ap, refl, sym, ◌∙◌, subst, arith}
use Rattle.std.proofs.lemmas.List.{append-nil}
use Rattle.entry_word.specs.declared.address.Address.{Address}
use Rattle.entry_word.specs.declared.mark.PresenceMark.{PresenceMark}
use Rattle.entry_word.specs.declared.mark.PresenceMark.TheVariants.{Empty, Here, Gone, Coming, Off}
use Rattle.entry_word.specs.declared.visit.Key.{Key}
use Rattle.entry_word.specs.declared.visit.Key.TheVariants.{Entry}
use Rattle.directory.specs.Settings.{levels, Setting, start}
use Rattle.directory.specs.Courses.{base, Move}
use Rattle.directory.specs.ListLaws.{same_some, slice_get-left}
use Rattle.directory.specs.StepLaws.{slice_get-within, take-more}
use Rattle.directory.specs.Writes.{entry_at}
use Rattle.std.specs.Prelude.{nat_le, slice_get}
use Rattle.std.proofs.lemmas.Bool.{cases_lt}
use Rattle.std.proofs.lemmas.Bool.Decides.{nat_tests}
use Rattle.std.proofs.lemmas.Option.{slice_get_within}
use Rattle.directory.specs.Histories.{before, cell, History}
use Rattle.directory.specs.Finds.{after_entry, after_mark, after_origin, after_word, at_origin, Chase, chases, climb, climbs, ended, FindCall, hop, is_known, key_of, Pursuit, Reader}
use Rattle.directory.specs.Looks.{first_of, last_of, look_by}
use Rattle.directory.specs.Standing.{number}
use Rattle.directory.specs.declared.answers.Found.{Found}
use Rattle.directory.specs.declared.answers.Found.TheVariants.{At, Off as OffAt, Again}
use Rattle.directory.specs.declared.answers.Why.{Why}
use Rattle.directory.specs.declared.answers.Why.TheVariants.{Empty as EmptyAt, NoEntry, Chased}
use Rattle.trail_laws.specs.Trail.{entry_seen}
use Rattle.busy_finds.specs.LawsBelow.{MarkLaws}
use Rattle.busy_finds.specs.Within.{moves_of, NoEntryMeetsTop}
use Rattle.busy_finds.proofs.Between.{erased-between, WasErased}
use Rattle.busy_finds.proofs.Cleaning.{erasing, IsCleaning, IsErasing}
use Rattle.busy_finds.proofs.Current.{current, currents-have}
use Rattle.busy_finds.proofs.Fronts.{committed-by, legal-at, moves-in-place, number-more}
use Rattle.busy_finds.proofs.Looks.{Climbed, climbed-more, climbed-none, in-rows, looks-end, WasEmpty, WereEmpty}
use Rattle.busy_finds.proofs.Moves.{AreInPlace, base-more, base-within, stop-after, stop-inside, stop_of}
use Rattle.busy_finds.proofs.Past.{cleaned-past}
use Rattle.busy_finds.proofs.Tickets.{begun-more, first-moves}

module _ (setting : Setting) (history : History) (call : FindCall) (first : ℕ) where
  -- what is known of a find that ended, and of one under way
  abbrev Ended : ℕ → Why → ℕ → Type 0
  Ended t (EmptyAt node) weight = Unit {0}
  Ended t NoEntry weight = Climbed setting history call first t weight []
  Ended t Chased weight = Unit {0}

  abbrev Answers : ℕ → Found → Type 0
  Answers t (At node number level weight) = Unit {0}
  Answers t (OffAt node number level weight) = Unit {0}
  Answers t (Again why weight) = Ended t why weight

  abbrev Climbs : ℕ → Pursuit → Type 0
  Climbs t at_origin = Unit {0}
  Climbs t (climbs known weight reader later) = Climbed setting history call first t weight (reader ∷ later)
  Climbs t (chases chase node) = Unit {0}
  Climbs t (ended found) = Answers t found

  climb-so : (t : ℕ) (known : Option ℕ) (weight : ℕ) (left : List Reader)
      → Climbed setting history call first t weight left → Climbs t (climb known weight left)
  climb-so t known weight [] c = c
  climb-so t known weight (reader ∷ left) c = c

  origin-so : (t : ℕ) → first ≤ t → (mark : PresenceMark) → Climbs t (after_origin setting call mark)
  origin-so t low Empty = climb-so t None 0 _ (climbed-none setting history call first t low)
  origin-so t low (Here p) = tt
  origin-so t low (Off p) = tt
  origin-so t low (Gone p to) = climb-so t (Some p) 0 _ (climbed-none setting history call first t low)
  origin-so t low (Coming p from) = tt

  hop-so : (t : ℕ) (known level : Option ℕ) (weight left node to : ℕ)
      → Climbs t (hop setting known level weight left node to)
  hop-so t known level weight zero node to = tt
  hop-so t known level weight (suc left) node to = tt

  mark-so : (t : ℕ) (chase : Chase) (node : ℕ) (mark : PresenceMark) → Climbs t (after_mark setting chase node mark)
  mark-so t chase node Empty = tt
  mark-so t chase node (Here p) = tt
  mark-so t chase node (Off p) = tt
  mark-so t chase node (Gone p to) = hop-so t _ chase.level chase.weight chase.hops_left node to
  mark-so t chase node (Coming p from) = at_test (is_known p chase.known)
    where
      at_test : (b : Bool) → Climbs t (cond b (ended (At node p chase.level chase.weight))
          (hop setting chase.known chase.level chase.weight chase.hops_left node from))
      at_test true = tt
      at_test false = hop-so t chase.known chase.level chase.weight chase.hops_left node from

  look-so : (t u : ℕ) (pursuit : Pursuit) (key : Key) → first ≤ t → t < u → key_of call pursuit ≡ Some key
      → Climbs t pursuit → Climbs u (after_word setting call pursuit (cell setting (before u history) key))
  look-so t u at_origin key low later wanted now = origin-so u (omega (arith, low, later)) _
  look-so t u (climbs known weight reader left) key low later wanted now =
      let e : Entry reader.level reader.cluster call.sub ≡ key = cc in
      subst (λ k. Climbs u (after_word setting call (climbs known weight reader left)
      (cell setting (before u history) k))) e
      (at_entry (entry_seen setting call.sub (before u history) reader.level reader.cluster) refl)
    where
      at_entry : (entry : Option Address)
          → entry_seen setting call.sub (before u history) reader.level reader.cluster ≡ entry
          → Climbs u (after_entry setting call known weight reader left entry)
      at_entry None e = climb-so u known _ left
          (climbed-more setting history call first t u weight reader left (omega (arith, later)) e now)
      at_entry (Some address) e = tt
  look-so t u (chases chase node) key low later wanted now = mark-so u chase node _
  look-so t u (ended found) key low later wanted now = cc

pub no-entry : MarkLaws → NoEntryMeetsTop
no-entry laws setting history actor call weight tickets few reads inside legal find = (
  its,
  same_top,
  record {
    after = after_first;
    by = omega (
      arith,
      cleaned.done,
      number-more call.sub (suc e) last history (omega (arith, erased.2, was.2)),
    );
    is = cleaned.is;
  },
  (
    e,
    erased.1,
    omega (arith, erased.2, was.2),
    (cluster, erased.3.visit, cleaned.last),
    cleaned-past laws setting call.sub history few legal e (omega (arith, erased.2, was.2, told_end.1)) cleaned
        (erasure.above same_top refl),
  ),
)
  where
    first : ℕ
    first = first_of tickets

    last : ℕ
    last = last_of tickets

    told_end : (first ≤ last) × (last < length history) × Climbed setting history call first last weight []
    told_end = looks-end setting history actor call last
        (λ t pursuit. (first ≤ t) × (t < length history) × Climbs setting history call first t pursuit)
        (λ t u pursuit key later by is_look wanted now. (
          omega (arith, now.0, later),
          slice_get_within history u (look_by actor key) is_look,
          look-so setting history call first t u pursuit key now.0 later wanted now.2,
        ))
        tickets find (omega arith) (λ t key is_first by is_look wanted. (
          omega (arith, is_first),
          slice_get_within history t (look_by actor key) is_look,
          origin-so setting history call first t (omega (arith, is_first)) _,
        ))

    before_moves : List Move
    before_moves = moves_of setting call.sub (before first history)

    committed : ℕ
    committed = number call.sub (before first history)

    home : ℕ
    home = current (start setting call.sub) before_moves committed setting.top

    cluster : ℕ
    cluster = setting.home setting.top home

    placed_before : AreInPlace setting (start setting call.sub) before_moves
    placed_before = moves-in-place (before first history) (legal-at laws.facts history few legal first)

    few_committed : committed ≤ length before_moves
    few_committed = committed-by laws.facts history few legal first

    home-inside : home < setting.nodes
    home-inside = stop-inside before_moves placed_before _ (omega (
      arith,
      few_committed,
      base-within setting.top before_moves placed_before committed few_committed,
    ))

    was : WasEmpty setting history call first last (record { level = setting.top; cluster = cluster })
    was = in-rows setting history call first last 0 (levels setting) setting.top cluster (omega arith) (omega arith)
        (reads home call.from home-inside inside)
        (subst (λ xs. WereEmpty setting history call first last xs)
        (sym (told_end.2.all ∙ append-nil told_end.2.passed)) told_end.2.empty)

    erased : WasErased laws setting call.sub history few legal setting.top cluster first was.0
    erased = erased-between laws setting call.sub history few legal setting.top cluster first was.0 was.1
        (omega (arith, was.2, told_end.1))
        (currents-have laws.facts.writes setting call.sub (before first history) few
        (legal-at laws.facts history few legal first) setting.top (omega arith)) was.3

    e : ℕ
    e = erased.0

    erasure : IsErasing laws setting call.sub history few legal e setting.top cluster
    erasure = erasing laws setting call.sub history few legal e (entry_at setting.top cluster None) erased.3 setting.top cluster refl

    cleaned : IsCleaning laws setting call.sub history few legal e
    cleaned = erasure.cleaning

    its : Move
    its = cleaned.move

    same_top : its.renewed ≡ setting.top
    same_top = omega (arith, erasure.low, ((moves-in-place history legal).each (its.number - 1) its cleaned.is).low)

    after_first : committed < its.number
    after_first = elim (cases_lt committed its.number) [
      | inl later ↦ later
      | inr early ↦ absurd (erasure.apart (ap (setting.home setting.top) (at_home (omega (
        arith,
        early,
        few_committed,
        begun-more laws setting call.sub history few legal first (suc e) (omega (arith, erased.1)),
        cleaned.last,
      )))))
    ]
      where
        at_home : committed ≡ its.number → home ≡ its.to
        at_home same =
            let its_place = (moves-in-place history legal).each (its.number - 1) its cleaned.is in
            let some : suc (its.number - 1) ≡ committed = omega (arith, its_place.its_number, same) in
            let found = slice_get-within before_moves (its.number - 1) (omega (arith, some, few_committed)) in
            let more = first-moves laws setting call.sub history few legal first in
            let is : found.0 ≡ its = same_some (sym (slice_get-left before_moves more.0 (its.number - 1) found.0 found.1)
            ∙ (ap (λ ms. slice_get ms (its.number - 1)) (sym more.1) ∙ cleaned.is)) in
            let based : base setting.top (take committed before_moves) ≡ committed =
            ap (λ n. base setting.top (take n before_moves)) (sym some)
            ∙ (ap (base setting.top) (take-more before_moves (its.number - 1) found.0 found.1)
            ∙ (base-more setting.top (take (its.number - 1) before_moves) found.0
            ∙ (ap (λ (m : Move). cond (nat_le setting.top m.renewed) m.number
            (base setting.top (take (its.number - 1) before_moves))) is
            ∙ (ap (λ b. cond b its.number (base setting.top (take (its.number - 1) before_moves)))
            (let t : nat_le setting.top its.renewed ≡ true = grind (arith, nat_tests, same_top) in t) ∙ sym same)))) in
            ap (stop_of (start setting call.sub) before_moves) (based ∙ sym some)
            ∙ (stop-after (start setting call.sub) before_moves (its.number - 1) found.0 found.1 ∙ ap (λ (m : Move). m.to) is)
