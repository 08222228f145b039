-- How the marks of a chase follow one another, by the looks of a find: what a Gone or a Coming tells of the node where
-- it leads holds at every later look.
use Rattle.std.proofs.lemmas.Bool.{cases_Bool}
use Rattle.std.proofs.Common.{◌≡◌, inl, inr, ℕ, zero, suc, ◌<◌, ◌≤◌, ◌^◌, true, false, List, [], ◌∷◌, Option, Some, refl, arith}
use Rattle.std.specs.Prelude.{flat_map}
use Rattle.entry_word.specs.declared.mark.PresenceMark.{PresenceMark}
use Rattle.entry_word.specs.declared.mark.PresenceMark.TheVariants.{Gone, Coming}
use Rattle.entry_word.specs.declared.visit.Key.{Key}
use Rattle.entry_word.specs.declared.visit.Key.TheVariants.{Presence}
use Rattle.directory.specs.Settings.{Setting, start}
use Rattle.directory.specs.Histories.{before, cell, History, words_at}
use Rattle.directory.specs.Legal.{IsLegal}
use Rattle.directory.specs.Finds.{after_mark, after_word, at_origin, Chase, chases, ended, FindCall, hop, is_known, key_of, known_with, Pursuit}
use Rattle.directory.specs.Looks.{AreLooks}
use Rattle.directory.specs.Standing.{commits, number, off}
use Rattle.directory.specs.Statements.{FrontsAreLegal}
use Rattle.directory.specs.declared.answers.Found.{Found}
use Rattle.directory.specs.declared.answers.Found.TheVariants.{At, Again}
use Rattle.directory.specs.declared.answers.Why.TheVariants.{Chased}
use Rattle.trail_laws.specs.Trail.{EntriesTell, GoesUp, mark_seen, MarksTell, MarkTells}
use Rattle.trail_laws.specs.Phases.{moves_begun}
use Rattle.trail_laws.specs.Chased.{ChasesRise, marks_chased}
use Rattle.trail_laws.proofs.Laws.{HistoryView, Laws, view}
use Rattle.trail_laws.proofs.Stops.{off-counts, stop-last, stop-left, stop-listed, view-counts}
use Rattle.trail_laws.proofs.Passing.{front-legal, number-grows}
use Rattle.trail_laws.proofs.Rising.{stop-goes_up}
use Rattle.trail_laws.proofs.Right.{good-safe, gone-known, IsSafe, look-good, safe-later}
use Rattle.trail_laws.proofs.Behind.{after_coming, after_gone, Behind, behind-later, Continues, ended-none, IsBegun, IsBehind, IsTracked, none-rise, nothing, one-more, Rises, tracked-nothing}

-- what is taken from the laws of marks and of fronts
pub record ChaseLaws : Type 0 where
  pub cells : Laws
  pub marks : MarksTell
  pub entries : EntriesTell
  pub fronts : FrontsAreLegal

-- what the counts of a legal history tell
number-few : Laws → {setting : Setting} {sub : ℕ} (history : History) → setting.nodes ≤ 2 ^ 16
    → IsLegal setting sub history → number sub history ≤ moves_begun setting sub history
unfolding HistoryView
number-few laws {setting} {sub} history low legal =
    elim (view-counts (view laws history low legal)) [
      | inl more ↦ omega (arith, more)
      | inr same ↦ omega (arith, same)
    ]

off-rests : Laws → {setting : Setting} {sub : ℕ} (history : History) → setting.nodes ≤ 2 ^ 16
    → IsLegal setting sub history → off sub history ≡ true → moves_begun setting sub history ≡ number sub history
unfolding HistoryView
off-rests laws {setting} {sub} history low legal e =
    off-counts (view laws history low legal) e

-- the mark that a chase reads fits what is behind it
fits-up : ChaseLaws → {setting : Setting} {sub : ℕ} {seen : History} {behind : Behind} {known : Option ℕ} {node : ℕ}
    → setting.nodes ≤ 2 ^ 16 → IsLegal setting sub seen → node < setting.nodes
    → IsBehind setting sub seen behind known node → GoesUp behind.place (mark_seen setting sub seen node)
fits-up laws {setting} {sub} {seen} {behind} {node} low legal inside is =
    grind (arith, laws.marks setting sub seen low legal node inside, stop-goes_up)

fits-begun : ChaseLaws → {setting : Setting} {sub : ℕ} (seen : History) (n node : ℕ) (mark : PresenceMark)
    → setting.nodes ≤ 2 ^ 16 → IsLegal setting sub seen → n ≤ moves_begun setting sub seen
    → MarkTells setting sub seen node mark → IsBegun n mark
fits-begun laws seen n node mark low legal early tells = grind (arith, off-rests laws.cells seen low legal)

-- where a Gone and a Coming lead
gone-leads : ChaseLaws → {setting : Setting} {sub : ℕ} (seen : History) (known : Option ℕ) (node p to : ℕ)
    → setting.nodes ≤ 2 ^ 16 → IsLegal setting sub seen → MarkTells setting sub seen node (Gone p to)
    → IsBehind setting sub seen (after_gone p) (known_with p known) to
gone-leads laws {setting} {sub} seen known node p to low legal tells =
    let few = gone-known setting sub seen node p to tells in
    let more = number-few laws.cells seen low legal in
    grind (arith, stop-listed (start setting sub) (commits sub seen) p)

coming-leads : ChaseLaws → {setting : Setting} {sub : ℕ} {seen : History} {behind : Behind} {known : Option ℕ}
    {node : ℕ} (p from : ℕ) → setting.nodes ≤ 2 ^ 16 → IsLegal setting sub seen
    → MarkTells setting sub seen node (Coming p from) → IsBehind setting sub seen behind known node
    → is_known p known ≡ false → IsBehind setting sub seen (after_coming behind p) known from
unfolding HistoryView
coming-leads laws {setting} {sub} {seen} {node} p from low legal tells is new = record {
  few = omega (arith, tells.3);
  stop = inr (elim tells.3 [
    | inl early ↦ grind (arith, stop-last (start setting sub) (commits sub seen))
    | inr late ↦
        grind (arith, laws.marks setting sub seen low legal from tells.1, stop-left (view laws.cells seen low legal))
  ]);
  early = omega (arith, tells.0);
  rises = is.fresh p new;
  fresh = is.fresh;
}

-- one look of a chase
module _ (laws : ChaseLaws) {setting : Setting} (history : History) (call : FindCall) (t : ℕ) (chase : Chase)
    {node : ℕ} (words : List ℕ) {behind : Behind} (low : setting.nodes ≤ 2 ^ 16)
    (legal : IsLegal setting call.sub (before t history))
    (is : IsBehind setting call.sub (before t history) behind chase.known node) where
  abbrev pub Later : Pursuit → Type 0
  Later pursuit = (b : Behind) → IsTracked setting call.sub (before (suc t) history) b pursuit
      → Rises b (marks_chased setting call pursuit words)

  ended-so : (found : Found) → marks_chased setting call (ended found) words ≡ []
  ended-so found = ended-none setting call (ended found) words (λ word. (refl, refl))

  hop-rises : (known level : Option ℕ) (weight left to : ℕ) (b : Behind)
      → IsBehind setting call.sub (before t history) b known to
      → Later (hop setting known level weight left node to)
      → Rises b (marks_chased setting call (hop setting known level weight left node to) words)
  hop-rises known level weight zero to b its more = rw (ended-so (Again Chased weight)) (none-rise b)
  hop-rises known level weight (suc left) to b its more = more b (behind-later t (suc t) history (omega arith) its)

  continues : (mark : PresenceMark) → MarkTells setting call.sub (before t history) node mark
      → Later (after_mark setting chase node mark)
      → Continues behind mark (marks_chased setting call (after_mark setting chase node mark) words)
  continues (Gone q to) tells more = hop-rises (known_with q chase.known) chase.level chase.weight chase.hops_left to
      (after_gone q) (gone-leads laws (before t history) chase.known node q to low legal tells) more
  continues (Coming q from) tells more = elim (cases_Bool (is_known q chase.known)) [
    | inl e ↦ rw (e, ended-so (At node q chase.level chase.weight)) (none-rise (after_coming behind q))
    | inr e ↦ rw e (hop-rises chase.known chase.level chase.weight chase.hops_left from (after_coming behind q)
        (coming-leads laws q from low legal tells is e) (rw e at more))
  ]
  continues mark tells more = grind (arith, ended-so)

  chase-rises : node < setting.nodes
      → Later (after_mark setting chase node (mark_seen setting call.sub (before t history) node))
      → Rises behind (mark_seen setting call.sub (before t history) node
      ∷ marks_chased setting call (after_mark setting chase node
      (mark_seen setting call.sub (before t history) node)) words)
  chase-rises inside more =
      let tells = laws.marks setting call.sub (before t history) low legal node inside in
      one-more behind _ _ is.rises (fits-up laws low legal inside is)
      (fits-begun laws (before t history) behind.begun node _ low legal is.early tells) (continues _ tells more)

-- one look of a find
look-rises : ChaseLaws → {setting : Setting} (history : History) (call : FindCall) (t : ℕ) (pursuit : Pursuit)
    (key : Key)
    (words : List ℕ) (behind : Behind) → setting.nodes ≤ 2 ^ 16 → IsLegal setting call.sub (before t history)
    → IsSafe setting (number call.sub (before t history)) pursuit
    → IsTracked setting call.sub (before t history) behind pursuit → key_of call pursuit ≡ Some key
    → ((b : Behind) → IsTracked setting call.sub (before (suc t) history) b
    (after_word setting call pursuit (cell setting (before t history) key))
    → Rises b (marks_chased setting call
    (after_word setting call pursuit (cell setting (before t history) key)) words))
    → Rises behind (marks_chased setting call pursuit (cell setting (before t history) key ∷ words))
look-rises laws {setting} history call t (chases chase node) key words behind low legal safe tracked wanted more =
    let e : key ≡ Presence node call.sub = cc in
    rw e (chase-rises laws history call t chase words low legal tracked safe.1 (rw e at more))
look-rises laws history call t (ended found) key words behind low legal safe tracked wanted more = cc
look-rises laws {setting} history call t pursuit key words behind low legal safe tracked wanted more =
    rw tracked (more nothing (tracked-nothing setting call.sub (before (suc t) history) _))

tracked-later : (setting : Setting) (sub t u : ℕ) (history : History) (behind : Behind) (pursuit : Pursuit) → t ≤ u
    → IsTracked setting sub (before t history) behind pursuit → IsTracked setting sub (before u history) behind pursuit
tracked-later setting sub t u history behind (chases chase node) h tracked =
    behind-later t u history h tracked
tracked-later setting sub t u history behind other h tracked = tracked

-- the looks of a find
looks-rise : ChaseLaws → {setting : Setting} (history : History) (actor : ℕ) (call : FindCall)
    → setting.nodes ≤ 2 ^ 16 → call.from < setting.nodes → IsLegal setting call.sub history
    → (tickets : List ℕ) (earliest : ℕ) (pursuit : Pursuit) (behind : Behind)
    → IsSafe setting (number call.sub (before earliest history)) pursuit
    → IsTracked setting call.sub (before earliest history) behind pursuit
    → AreLooks setting history actor call earliest pursuit tickets
    → Rises behind (marks_chased setting call pursuit (flat_map (words_at setting history) tickets))
unfolding AreLooks
looks-rise laws history actor call low inside legal [] earliest pursuit behind safe tracked looks =
    none-rise behind
looks-rise laws {setting} history actor call low inside legal (t ∷ later) earliest pursuit behind safe tracked
    (first, (key, wanted, is_look, rest)) =
    rw is_look (look-rises laws history call t pursuit key
    (flat_map (words_at setting history) later) behind low legal_now safe_now
    (tracked-later setting call.sub earliest t history behind pursuit first tracked) wanted
    (λ b its. looks-rise laws history actor call low inside legal later (suc t) next b safe_next its rest))
  where
    next : Pursuit
    next = after_word setting call pursuit (cell setting (before t history) key)

    legal_now : IsLegal setting call.sub (before t history)
    legal_now = front-legal laws.fronts setting call.sub history t low legal

    safe_now : IsSafe setting (number call.sub (before t history)) pursuit
    safe_now = safe-later setting _ _ pursuit (number-grows call.sub earliest t history first) safe

    safe_next : IsSafe setting (number call.sub (before (suc t) history)) next
    safe_next = safe-later setting _ _ next (number-grows call.sub t (suc t) history (omega arith))
        (grind (arith, good-safe, next, look-good, legal_now, safe_now))

pub chases-rise : ChaseLaws → ChasesRise
chases-rise laws setting history actor call tickets low inside legal looks =
    let all = looks-rise laws history actor call low inside legal tickets 0 at_origin nothing tt refl looks in
    (all.on, all.ascends, all.stays)
