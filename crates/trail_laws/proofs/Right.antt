-- The answers of finds are right: what is known grows with the commits, and the mark that answers says where the
-- subscriber stands.
use Rattle.std.proofs.lemmas.Bool.{cond_both}
use Rattle.std.proofs.Common.{◌≡◌, ℕ, zero, suc, ◌+◌, ◌*◌, ◌<◌, ◌≤◌, ◌^◌, true, false, List, [], ◌∷◌, Option, Some, None, map, fold, refl, sym, ◌∙◌, arith}
use Rattle.std.specs.Prelude.{All, flat_map, slice_get}
use Rattle.std.proofs.lemmas.List.Elements.{All-append, All-map, All-head, All-nil, All-tail}
use Rattle.std.proofs.lemmas.Option.{slice_get_within}
use Rattle.entry_word.specs.declared.address.Address.{Address}
use Rattle.entry_word.specs.declared.mark.PresenceMark.{PresenceMark}
use Rattle.entry_word.specs.declared.mark.PresenceMark.TheVariants.{Empty, Gone, Coming}
use Rattle.entry_word.specs.declared.visit.Key.{Key}
use Rattle.directory.specs.Settings.{levels, Setting}
use Rattle.directory.specs.Histories.{before, cell, History, through, words_at}
use Rattle.directory.specs.Writes.{numbers_from}
use Rattle.directory.specs.Legal.{IsLegal}
use Rattle.directory.specs.Finds.{after_entry, after_mark, after_origin, after_word, all_readers, at_origin, Chase, chases, climb, climbs, ended, find, FindCall, key_of, Reader, Pursuit, way_in}
use Rattle.directory.specs.Looks.{AreLooks, first_of, IsFind, last_of, look_by}
use Rattle.directory.specs.Standing.{number, off, standing}
use Rattle.directory.specs.Statements.{FrontsAreLegal}
use Rattle.directory.specs.declared.answers.Found.{Found}
use Rattle.directory.specs.declared.answers.Found.TheVariants.{At, Off as OffAt, Again}
use Rattle.trail_laws.specs.Trail.{EntryTells, EntriesTell, KnowsAtMost, MarksTell, MarkTells}
use Rattle.trail_laws.specs.Rightness.{AnswersAreRight, HasNumber, IsRight, NumbersNeverFall}
use Rattle.trail_laws.proofs.Passing.{front-legal, number-grows, through-puts}
use Rattle.trail_laws.proofs.Chases.{knows-with}

-- what a find knows at a pursuit is at most the number, and its readers are of levels of the plan
abbrev pub Low : Setting → Reader → Type 0
Low setting reader = reader.level ≤ setting.top

abbrev pub IsSafe : Setting → ℕ → Pursuit → Type 0
IsSafe setting most at_origin = Unit {0}
IsSafe setting most (climbs known weight reader later) = KnowsAtMost most known × All (Low setting) (reader ∷ later)
IsSafe setting most (chases chase node) = KnowsAtMost most chase.known × (node < setting.nodes)
IsSafe setting most (ended found) = Unit {0}

pub safe-later : (setting : Setting) (most more : ℕ) (pursuit : Pursuit) → most ≤ more → IsSafe setting most pursuit
    → IsSafe setting more pursuit
safe-later setting most more other h safe = grind arith

-- what holds of an answer told at a history
abbrev pub RightAt : Setting → ℕ → History → Found → Type 0
RightAt setting sub seen (At node q level weight) = (node ≡ standing setting sub seen) × (q ≡ number sub seen)
    × (off sub seen ≡ false)
RightAt setting sub seen (OffAt node q level weight) = (node ≡ standing setting sub seen) × (q ≡ number sub seen)
    × (off sub seen ≡ true)
RightAt setting sub seen (Again why weight) = Unit {0}

-- a pursuit after a look: safe, and right where it is the end
abbrev pub IsGood : Setting → ℕ → History → Pursuit → Type 0
IsGood setting sub seen at_origin = Unit {0}
IsGood setting sub seen (climbs known weight reader later) = IsSafe setting (number sub seen)
    (climbs known weight reader later)
IsGood setting sub seen (chases chase node) = IsSafe setting (number sub seen) (chases chase node)
IsGood setting sub seen (ended found) = RightAt setting sub seen found

pub good-safe : (setting : Setting) (sub : ℕ) (seen : History) (pursuit : Pursuit) → IsGood setting sub seen pursuit
    → IsSafe setting (number sub seen) pursuit
good-safe setting sub seen other good = grind arith

low-readers : (setting : Setting) (node first count : ℕ) → first + count ≤ levels setting
    → All (Low setting) (flat_map (λ level. map (λ cluster. record { level = level; cluster = cluster })
    (setting.readers level node)) (numbers_from first count))
low-readers setting node first zero h = All-nil (Low setting)
low-readers setting node first (suc count) h =
    All-append (Low setting) _ _ (All-map (Low setting) (λ cluster. record { level = first; cluster = cluster })
    (setting.readers first node) (λ k d low. omega arith)) (low-readers setting node (suc first) count (omega arith))

pub readers-low : (setting : Setting) (node : ℕ) → All (Low setting) (all_readers setting node)
readers-low setting node = low-readers setting node 0 (levels setting) (omega arith)

climb-good : (setting : Setting) (sub : ℕ) (seen : History) (known : Option ℕ) (weight : ℕ) (readers : List Reader)
    → KnowsAtMost (number sub seen) known → All (Low setting) readers
    → IsGood setting sub seen (climb known weight readers)
climb-good setting sub seen known weight [] knows all = tt
climb-good setting sub seen known weight (reader ∷ later) knows all = (knows, all)

-- a Gone is committed
pub gone-known : (setting : Setting) (sub : ℕ) (seen : History) (node p to : ℕ)
    → MarkTells setting sub seen node (Gone p to) → p ≤ number sub seen
gone-known setting sub seen node p to tells = grind (arith, slice_get_within)

origin-good : (setting : Setting) (seen : History) (call : FindCall) (mark : PresenceMark)
    → MarkTells setting call.sub seen call.from mark → IsGood setting call.sub seen (after_origin setting call mark)
origin-good setting seen call Empty tells = climb-good setting call.sub seen None 0 (all_readers setting call.from) tt
    (readers-low setting call.from)
origin-good setting seen call (Gone q to) tells = climb-good setting call.sub seen (Some q) 0
    (all_readers setting call.from) (gone-known setting call.sub seen call.from q to tells)
    (readers-low setting call.from)
origin-good setting seen call mark tells = grind arith

entry-good : (setting : Setting) (seen : History) (call : FindCall) (known : Option ℕ) (weight : ℕ) (reader : Reader)
    (later : List Reader) (entry : Option Address) → KnowsAtMost (number call.sub seen) known
    → All (Low setting) (reader ∷ later)
    → EntryTells setting call.sub seen reader.level reader.cluster entry
    → IsGood setting call.sub seen (after_entry setting call known weight reader later entry)
entry-good setting seen call known weight reader later None knows all tells = climb-good setting call.sub seen known
    (weight + 2 * way_in setting call reader) later knows (All-tail (Low setting) reader later all)
entry-good setting seen call known weight reader later (Some address) knows all tells = (knows, tells.0)

mark-good : (setting : Setting) (sub : ℕ) (seen : History) (chase : Chase) (node : ℕ) (mark : PresenceMark)
    → KnowsAtMost (number sub seen) chase.known → MarkTells setting sub seen node mark
    → IsGood setting sub seen (after_mark setting chase node mark)
mark-good setting sub seen chase node (Gone q to) knows tells =
    grind (arith, knows-with, gone-known setting sub seen node q to tells)
mark-good setting sub seen chase node (Coming q from) knows tells = grind (arith, IsGood, cond_both)
mark-good setting sub seen chase node mark knows tells = grind arith

-- one look
pub look-good : MarksTell → EntriesTell → {setting : Setting} (seen : History) (call : FindCall) (pursuit : Pursuit)
    (key : Key) → setting.nodes ≤ 2 ^ 16 → call.from < setting.nodes → IsLegal setting call.sub seen
    → IsSafe setting (number call.sub seen) pursuit → key_of call pursuit ≡ Some key
    → IsGood setting call.sub seen (after_word setting call pursuit (cell setting seen key))
look-good marks entries {setting} seen call at_origin key low inside legal safe wanted = grind (arith, origin-good)
look-good marks entries {setting} seen call (climbs known weight reader later) key low inside legal safe wanted =
    grind (arith, Low, All-head, entry-good)
look-good marks entries {setting} seen call (chases chase node) key low inside legal safe wanted =
    grind (arith, mark-good)
look-good marks entries seen call (ended found) key low inside legal safe wanted = cc

-- what is right before a look is right through it
right-through : (setting : Setting) (history : History) (sub actor t : ℕ) (key : Key) (found : Found)
    → slice_get history t ≡ Some (look_by actor key) → RightAt setting sub (before t history) found
    → IsRight setting history sub found t
right-through setting history sub actor t key found h right = grind (arith, through-puts)

-- ---- all looks of a find
last-more : (t u : ℕ) (later : List ℕ) → last_of (t ∷ u ∷ later) ≡ last_of (u ∷ later)
last-more t u later = grind arith

read-one : (setting : Setting) (history : History) (actor t : ℕ) (key : Key) (call : FindCall) (pursuit : Pursuit)
    (later : List ℕ) → slice_get history t ≡ Some (look_by actor key)
    → fold (after_word setting call) pursuit (flat_map (words_at setting history) (t ∷ later))
    ≡ fold (after_word setting call) (after_word setting call pursuit (cell setting (before t history) key))
    (flat_map (words_at setting history) later)
read-one setting history actor t key call pursuit later h = grind arith

-- what holds after the first look, and is kept by each that comes next, holds after the last one
module _ (setting : Setting) (history : History) (actor : ℕ) (call : FindCall) (P : ℕ → Pursuit → Type 0)
    (one : (t u : ℕ) (pursuit : Pursuit) (key : Key) → t < u → slice_get history u ≡ Some (look_by actor key)
    → key_of call pursuit ≡ Some key → P t pursuit
    → P u (after_word setting call pursuit (cell setting (before u history) key))) where
  looked : (later : List ℕ) (t : ℕ) (pursuit : Pursuit) → P t pursuit
      → AreLooks setting history actor call (suc t) pursuit later
      → P (last_of (t ∷ later)) (fold (after_word setting call) pursuit (flat_map (words_at setting history) later))
  unfolding AreLooks
  looked [] t pursuit now looks = now
  looked (u ∷ later) t pursuit now (first, (key, wanted, is_look, rest)) =
      rw (last-more t u later, read-one setting history actor u key call pursuit later is_look)
      (looked later u (after_word setting call pursuit (cell setting (before u history) key))
      (one t u pursuit key (omega (arith, first)) is_look wanted now) rest)

  pub at-last : {found : Found} (tickets : List ℕ) → IsFind setting history actor call found tickets
      → ((t : ℕ) (key : Key) → t ≡ first_of tickets → slice_get history t ≡ Some (look_by actor key)
      → key_of call at_origin ≡ Some key
      → P t (after_word setting call at_origin (cell setting (before t history) key)))
      → P (last_of tickets) (ended found)
  unfolding AreLooks
  at-last {found} [] find start = let clash : at_origin ≡ ended found = find.answer in cc
  at-last (t ∷ later) find start =
      let look = find.looks.1 in
      rw (sym (read-one setting history actor t look.0 call at_origin later look.2) ∙ find.answer) at
      (looked later t (after_word setting call at_origin (cell setting (before t history) look.0))
      (start t look.0 refl look.2 look.1) look.3)

-- so a find ends with a right answer
pub answers-right : MarksTell → EntriesTell → FrontsAreLegal → AnswersAreRight
answers-right marks entries fronts setting history actor call found tickets low inside legal find =
    let its = at-last setting history actor call Good (λ t u pursuit key later is_look wanted good. (
      key,
      is_look,
      good-at u pursuit key (safe-later setting _ _ pursuit (number-grows call.sub t u history (omega (arith, later)))
          (good-safe setting call.sub (before t history) pursuit good.2)) wanted,
    ))
    tickets find (λ t key first is_look wanted. (key, is_look, good-at t at_origin key tt wanted)) in
    right-through setting history call.sub actor (last_of tickets) its.0 found its.1 its.2
  where
    Good : ℕ → Pursuit → Type 0
    Good t pursuit = (key : Key) × (slice_get history t ≡ Some (look_by actor key))
        × IsGood setting call.sub (before t history) pursuit

    good-at : (t : ℕ) (pursuit : Pursuit) (key : Key) → IsSafe setting (number call.sub (before t history)) pursuit
        → key_of call pursuit ≡ Some key
        → IsGood setting call.sub (before t history)
        (after_word setting call pursuit (cell setting (before t history) key))
    good-at t pursuit key = look-good marks entries (before t history) call pursuit key low inside
        (front-legal fronts setting call.sub history t low legal)

-- so numbers never fall
number-of : (setting : Setting) (history : History) (sub : ℕ) (found : Found) (last p : ℕ)
    → IsRight setting history sub found last → HasNumber found p → p ≡ number sub (through last history)
number-of setting history sub found last p right has = grind arith

pub never-fall : MarksTell → EntriesTell → FrontsAreLegal → NumbersNeverFall
never-fall marks entries fronts setting history actor other sub from other_from p q found other_found tickets
    other_tickets low inside other_inside legal one two has other_has order =
    omega (
      arith,
      number-of setting history sub found (last_of tickets) p
          (answers-right marks entries fronts setting history actor
          (record { from = from; sub = sub }) found tickets low inside legal one) has,
      number-of setting history sub other_found (last_of other_tickets) q
          (answers-right marks entries fronts setting history other
          (record { from = other_from; sub = sub }) other_found other_tickets low other_inside legal two) other_has,
      number-grows sub (suc (last_of tickets)) (suc (last_of other_tickets)) history (omega arith),
    )
