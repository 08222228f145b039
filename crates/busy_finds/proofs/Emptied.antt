-- Where a find read that a node is empty, the chase had got to a stop that isn't earlier than the moves that were past
-- where it began; so what purged the node is a move that wasn't.
use Rattle.std.proofs.Common.{◌≡◌, inl, inr, ℕ, zero, suc, ◌-◌, ◌<◌, ◌≤◌, ◌^◌, Bool, true, false, cond, List, [], ◌∷◌, Option, Some, None, length, refl, sym, ap, ◌∙◌, subst, arith}
use Rattle.std.specs.Prelude.{slice_get}
use Rattle.std.proofs.lemmas.Bool.{cases_lt}
use Rattle.std.proofs.lemmas.Option.{slice_get_within}
use Rattle.entry_word.specs.declared.address.Address.{Address}
use Rattle.entry_word.specs.declared.mark.PresenceMark.{PresenceMark}
use Rattle.entry_word.specs.declared.mark.PresenceMark.TheVariants.{Empty, Here, Gone, Coming, Off}
use Rattle.entry_word.specs.declared.visit.Key.{Key}
use Rattle.entry_word.specs.declared.visit.Key.TheVariants.{Entry, Presence}
use Rattle.directory.specs.Settings.{levels, Setting, start}
use Rattle.directory.specs.Courses.{course_at}
use Rattle.directory.specs.Histories.{before, cell, History, puts_to}
use Rattle.directory.specs.Finds.{after_entry, after_mark, after_origin, after_word, at_origin, Chase, chases, climb, climbs, ended, FindCall, hop, is_known, key_of, Pursuit, Reader}
use Rattle.directory.specs.Legal.{IsLegal}
use Rattle.directory.specs.Looks.{first_of, last_of, look_by}
use Rattle.directory.specs.Puts.{steps_in}
use Rattle.directory.specs.StepLaws.{start-kept}
use Rattle.directory.specs.Writes.{mark_at, visit_of}
use Rattle.directory.specs.declared.answers.Found.{Found}
use Rattle.directory.specs.declared.answers.Found.TheVariants.{At, Off as OffAt, Again}
use Rattle.directory.specs.declared.answers.Why.TheVariants.{Empty as EmptyAt, NoEntry, Chased}
use Rattle.trail_laws.specs.Trail.{entry_seen, EntryTells, mark_seen, MarkTells}
use Rattle.busy_finds.specs.Again.{BeginsChase, EmptyMeetsPurge}
use Rattle.busy_finds.specs.LawsBelow.{PriceLaws}
use Rattle.busy_finds.specs.Within.{moves_of}
use Rattle.busy_finds.proofs.Between.{purged-before, WasPurged}
use Rattle.busy_finds.proofs.Chase.{gone-on}
use Rattle.busy_finds.proofs.Cleaning.{IsPurging, purging}
use Rattle.busy_finds.proofs.Looks.{Climbed, climbed-more, climbed-none, IsMetAt, looks-end, met-at}
use Rattle.busy_finds.proofs.Moves.{stop_of}
use Rattle.busy_finds.proofs.Past.{cleaned-past, Past, past-later}
use Rattle.busy_finds.proofs.Tickets.{begun, begun-more, coming-is, count-begun, gone-is, IsComing, IsGone, its_legal, stop-then, stop_at}

module _ (laws : PriceLaws) (setting : Setting) (history : History) (actor : ℕ) (call : FindCall) (first : ℕ)
    (few : setting.nodes ≤ 2 ^ 16) (inside : call.from < setting.nodes) (legal : IsLegal setting call.sub history) where
  abbrev pub ArePastAt : ℕ → ℕ → Type 0
  ArePastAt latest t = Past laws.marks setting call.sub history few legal latest t

  abbrev pub begun_at : ℕ → ℕ
  begun_at t = begun laws.marks setting call.sub history few legal t

  abbrev pub stop_no : ℕ → ℕ
  stop_no place = stop_at laws.marks setting call.sub history few legal place

  abbrev pub seen_at : ℕ → ℕ → PresenceMark
  seen_at t node = mark_seen setting call.sub (before t history) node

  legally : (t : ℕ) → IsLegal setting call.sub (before t history)
  legally t = its_legal laws.marks setting call.sub history few legal t

  -- a chase at a stop, and where it began
  pub record IsChasing (t since place node : ℕ) : Type 0 where
    pub low : first ≤ since
    pub by : since ≤ t
    pub begins : BeginsChase setting history actor call first since
    pub there : node ≡ stop_no place
    pub within : node < setting.nodes
    pub known_then : place ≤ begun_at t
    pub above : (latest : ℕ) → ArePastAt latest since → latest ≤ place

  abbrev Answers : ℕ → Found → Type 0
  Answers t (At node number level weight) = Unit {0}
  Answers t (OffAt node number level weight) = Unit {0}
  Answers t (Again (EmptyAt node) weight) =
      (since : ℕ) × (place : ℕ) × IsChasing t since place node × (seen_at t node ≡ Empty)
  Answers t (Again NoEntry weight) = Unit {0}
  Answers t (Again Chased weight) = Unit {0}

  abbrev Follows : ℕ → Pursuit → Type 0
  Follows t at_origin = ⊥
  Follows t (climbs known weight reader later) = Climbed setting history call first t weight (reader ∷ later)
  Follows t (chases chase node) = (since : ℕ) × (place : ℕ) × IsChasing t since place node
  Follows t (ended found) = Answers t found

  pub mark-tells : (t node : ℕ) (mark : PresenceMark) → node < setting.nodes → seen_at t node ≡ mark
      → MarkTells setting call.sub (before t history) node mark
  mark-tells t node mark within is = subst (MarkTells setting call.sub (before t history) node) is
      (laws.marks.marks setting call.sub (before t history) few (legally t) node within)

  climb-so : (t : ℕ) (known : Option ℕ) (weight : ℕ) (left : List Reader)
      → Climbed setting history call first t weight left → Follows t (climb known weight left)
  climb-so t known weight [] c = tt
  climb-so t known weight (reader ∷ left) c = c

  -- where the origin says that the subscriber is coming
  pub coming-begins : (t p from : ℕ) → t ≡ first → seen_at t call.from ≡ Coming p from → IsChasing t t (p - 1) from
  coming-begins t p from at is =
      let comes : IsComing laws.marks setting call.sub history few legal t call.from p from =
      coming-is laws.marks setting call.sub history few legal t call.from p from
      (mark-tells t call.from (Coming p from) inside is) in record {
        low = omega (arith, at);
        by = omega arith;
        begins = inl (at, (p, from, is));
        there = comes.leads;
        within = comes.inside;
        known_then = omega (arith, comes.last);
        above = λ latest past. omega (arith, past.comings call.from p from inside is);
      }

  origin-so : (t : ℕ) → t ≡ first → (mark : PresenceMark) → seen_at t call.from ≡ mark
      → Follows t (after_origin setting call mark)
  origin-so t at Empty is = climb-so t None 0 _ (climbed-none setting history call first t (omega (arith, at)))
  origin-so t at (Here p) is = tt
  origin-so t at (Off p) is = tt
  origin-so t at (Gone p to) is = climb-so t (Some p) 0 _ (climbed-none setting history call first t (omega (arith, at)))
  origin-so t at (Coming p from) is = (t, p - 1, coming-begins t p from at is)

  -- where an entry has an address
  pub address-so : (u : ℕ) (reader : Reader) (address : Address) → first ≤ u → reader.level ≤ setting.top
      → slice_get history u ≡ Some (look_by actor (Entry reader.level reader.cluster call.sub))
      → entry_seen setting call.sub (before u history) reader.level reader.cluster ≡ Some address
      → IsChasing u u address.number address.node
  address-so u reader address low level is_look held = record {
    low = low;
    by = omega arith;
    begins = inr (reader.level, reader.cluster, address, is_look, held);
    there = told.3
        ∙ (ap (λ n. stop_of n (moves_of setting call.sub (before u history)) address.number)
        (start-kept setting (course_at (start setting call.sub)) (steps_in (puts_to call.sub (before u history))))
        ∙ stop-then laws.marks setting call.sub history few legal u address.number told.2);
    within = told.0;
    known_then = told.2;
    above = λ latest past. past.addresses reader.level reader.cluster address level held;
  }
    where
      told : EntryTells setting call.sub (before u history) reader.level reader.cluster (Some address)
      told = subst (EntryTells setting call.sub (before u history) reader.level reader.cluster) held
          (laws.entries setting call.sub (before u history) few (legally u) reader.level reader.cluster level)

  entry-so : (t u : ℕ) (known : Option ℕ) (weight : ℕ) (reader : Reader) (left : List Reader) → first ≤ t → t < u
      → slice_get history u ≡ Some (look_by actor (Entry reader.level reader.cluster call.sub))
      → Climbed setting history call first t weight (reader ∷ left) → (entry : Option Address)
      → entry_seen setting call.sub (before u history) reader.level reader.cluster ≡ entry
      → Follows u (after_entry setting call known weight reader left entry)
  entry-so t u known weight reader left low later is_look c None e = climb-so u known _ left
      (climbed-more setting history call first t u weight reader left (omega (arith, later)) e c)
  entry-so t u known weight reader left low later is_look c (Some address) e =
      let met : IsMetAt setting history call first t 0 (levels setting) c.passed reader =
      met-at setting history call first t 0 (levels setting) c.passed left reader c.all c.empty in
      (u, address.number, address-so u reader address (omega (arith, low, later)) (omega (arith, met.high)) is_look e)

  hop-so : (t : ℕ) (known level : Option ℕ) (weight left node to since place : ℕ)
      → IsChasing t since place to → Follows t (hop setting known level weight left node to)
  hop-so t known level weight zero node to since place so = tt
  hop-so t known level weight (suc left) node to since place so = (since, place, so)

  module _ (t u since place : ℕ) (chase : Chase) (node : ℕ) (now : IsChasing t since place node) (later : t ≤ u)
      (low : u ≤ length history) where
    pub known-now : place ≤ begun_at u
    known-now = omega (arith, now.known_then, begun-more laws.marks setting call.sub history few legal t u later)

    -- at another stop
    at-stop : (next to : ℕ) → to ≡ stop_no next → to < setting.nodes → next ≤ begun_at u
        → ((latest : ℕ) → ArePastAt latest since → latest ≤ next) → IsChasing u since next to
    at-stop next to there within known_then above = record {
      low = now.low;
      by = omega (arith, now.by, later);
      begins = now.begins;
      there = there;
      within = within;
      known_then = known_then;
      above = above;
    }

    pub gone-after : (q to : ℕ) → seen_at u node ≡ Gone q to → place < q
    gone-after q to is =
        gone-on laws.marks setting call.sub history few legal u place node q to low known-now now.there now.within is

    pub gone-so : (q to : ℕ) → seen_at u node ≡ Gone q to → IsChasing u since q to
    gone-so q to is =
        let gone : IsGone laws.marks setting call.sub history few legal u node q to =
        gone-is laws.marks setting call.sub history few legal u node q to (mark-tells u node (Gone q to) now.within is) in
        at-stop q to gone.goes gone.inside
        (omega (arith, gone.by, count-begun laws.marks setting call.sub history few legal u))
        (λ latest past. omega (arith, now.above latest past, gone-after q to is))

    pub coming-so : (q from : ℕ) → seen_at u node ≡ Coming q from → IsChasing u since (q - 1) from
    coming-so q from is =
        let comes : IsComing laws.marks setting call.sub history few legal u node q from =
        coming-is laws.marks setting call.sub history few legal u node q from
        (mark-tells u node (Coming q from) now.within is) in
        at-stop (q - 1) from comes.leads comes.inside (omega (arith, comes.last))
        (λ latest past. omega (
          arith,
          (past-later laws.marks setting call.sub history few legal latest since u (omega (arith, now.by, later)) low
              past).comings node q from now.within is,
        ))

    mark-so : (mark : PresenceMark) → seen_at u node ≡ mark → Follows u (after_mark setting chase node mark)
    mark-so Empty is = (since, place, at-stop place node now.there now.within known-now now.above, is)
    mark-so (Here p) is = tt
    mark-so (Off p) is = tt
    mark-so (Gone q to) is = hop-so u _ chase.level chase.weight chase.hops_left node to since q (gone-so q to is)
    mark-so (Coming q from) is = at_test (is_known q chase.known)
      where
        at_test : (b : Bool) → Follows u (cond b (ended (At node q chase.level chase.weight))
            (hop setting chase.known chase.level chase.weight chase.hops_left node from))
        at_test true = tt
        at_test false = hop-so u chase.known chase.level chase.weight chase.hops_left node from since (q - 1)
            (coming-so q from is)

  pub look-so : (t u : ℕ) (pursuit : Pursuit) (key : Key) → first ≤ t → t < u
      → slice_get history u ≡ Some (look_by actor key) → key_of call pursuit ≡ Some key
      → Follows t pursuit → Follows u (after_word setting call pursuit (cell setting (before u history) key))
  look-so t u at_origin key low later is_look wanted now = absurd now
  look-so t u (climbs known weight reader left) key low later is_look wanted now =
      let e : Entry reader.level reader.cluster call.sub ≡ key = cc in
      subst (λ k. Follows u (after_word setting call (climbs known weight reader left)
      (cell setting (before u history) k))) e
      (entry-so t u known weight reader left low later
      (subst (λ k. slice_get history u ≡ Some (look_by actor k)) (sym e) is_look) now (entry_seen setting call.sub (before u history) reader.level reader.cluster) refl)
  look-so t u (chases chase node) key low later is_look wanted now =
      let e : Presence node call.sub ≡ key = cc in
      subst (λ k. Follows u (after_word setting call (chases chase node) (cell setting (before u history) k))) e
      (mark-so t u now.0 now.1 chase node now.2 (omega (arith, later))
      (omega (arith, slice_get_within history u (look_by actor key) is_look)) (seen_at u node) refl)
  look-so t u (ended found) key low later is_look wanted now = cc

  -- what purged a stop was a later move that wasn't past where the chase began
  pub record IsPurgedSince (since place t : ℕ) : Type 0 where
    pub was : WasPurged laws.marks setting call.sub history few legal place t
    pub its : IsPurging laws.marks setting call.sub history few legal was.ticket
    pub past_then : ArePastAt its.cleaning.move.number (suc was.ticket)
    pub not_yet : ArePastAt its.cleaning.move.number since → ⊥

  pub purged-since : (t since place node : ℕ) → t ≤ length history → IsChasing t since place node
      → seen_at t node ≡ Empty → IsPurgedSince since place t
  purged-since t since place node low now empty = record {
    was = purged;
    its = purge;
    past_then = cleaned-past laws.marks setting call.sub history few legal purged.ticket
        (omega (arith, purged.by, low)) purge.cleaning purge.above;
    not_yet = λ past. absurd (omega (
      arith,
      now.above purge.cleaning.move.number past,
      purged.later_move,
      purge.cleaning.last,
    ));
  }
    where
      purged : WasPurged laws.marks setting call.sub history few legal place t
      purged = purged-before laws.marks setting call.sub history few legal place t (omega (arith, low))
          now.known_then (ap (λ n. seen_at t n) (sym now.there) ∙ empty)

      purge : IsPurging laws.marks setting call.sub history few legal purged.ticket
      purge = purging laws.marks setting call.sub history few legal purged.ticket _ purged.writes _ refl

pub empty-meets : PriceLaws → EmptyMeetsPurge
empty-meets laws setting history actor call node weight tickets few inside legal find = (
  is.its.cleaning.move,
  since,
  chasing.low,
  chasing.begins,
  record {
    is = is.its.cleaning.is;
    top = is.its.tops;
    ticket = is.was.ticket;
    after = elim (cases_lt is.was.ticket since) [
      | inl early ↦ absurd (is.not_yet (past-later laws.marks setting call.sub history few legal its_number
          (suc is.was.ticket) since (omega (arith, early)) (omega (arith, chasing.by, told_end.1)) is.past_then))
      | inr late ↦ late
    ];
    by = is.was.by;
    purges = (
      is.was.writes.visit ∙ ap (λ n. Some (visit_of call.sub (mark_at n Empty))) (sym chasing.there),
      is.its.cleaning.last,
    );
    stays = λ later after by. ap (λ n. mark_seen setting call.sub (before later history) n) chasing.there
        ∙ is.was.stays later after by;
    past = past-later laws.marks setting call.sub history few legal its_number (suc is.was.ticket) last
        (omega (arith, is.was.by)) (omega (arith, told_end.1)) is.past_then;
    not_yet = is.not_yet;
  },
)
  where
    first : ℕ
    first = first_of tickets

    last : ℕ
    last = last_of tickets

    told_end : (first ≤ last) × (last < length history)
        × ((since : ℕ) × (place : ℕ)
        × IsChasing laws setting history actor call first few inside legal last since place node
        × (mark_seen setting call.sub (before last history) node ≡ Empty))
    told_end = looks-end setting history actor call last
        (λ t pursuit. (first ≤ t) × (t < length history)
        × Follows laws setting history actor call first few inside legal t pursuit)
        (λ t u pursuit key later by is_look wanted now. (
          omega (arith, now.0, later),
          slice_get_within history u (look_by actor key) is_look,
          look-so laws setting history actor call first few inside legal t u pursuit key now.0 later is_look wanted
              now.2,
        ))
        tickets find (omega arith) (λ t key is_first by is_look wanted. (
          omega (arith, is_first),
          slice_get_within history t (look_by actor key) is_look,
          origin-at t key is_first wanted,
        ))
      where
        origin-at : (t : ℕ) (key : Key) → t ≡ first → key_of call at_origin ≡ Some key
            → Follows laws setting history actor call first few inside legal t
            (after_word setting call at_origin (cell setting (before t history) key))
        origin-at t key is_first wanted =
            let e : Presence call.from call.sub ≡ key = cc in
            subst (λ k. Follows laws setting history actor call first few inside legal t
            (after_word setting call at_origin (cell setting (before t history) k))) e
            (origin-so laws setting history actor call first few inside legal t is_first _ refl)

    since : ℕ
    since = told_end.2.0

    place : ℕ
    place = told_end.2.1

    chasing : IsChasing laws setting history actor call first few inside legal last since place node
    chasing = told_end.2.2

    is : IsPurgedSince laws setting history actor call first few inside legal since place last
    is = purged-since laws setting history actor call first few inside legal last since place node
        (omega (arith, told_end.1)) chasing told_end.2.3

    its_number : ℕ
    its_number = is.its.cleaning.move.number
