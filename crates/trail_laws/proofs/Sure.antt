-- What makes a find sure of an answer at each pursuit: a look keeps it, and what is no put of a move.
use Rattle.std.proofs.lemmas.Bool.{cond_both}
use Rattle.std.proofs.Common.{◌≡◌, ℕ, zero, suc, ◌+◌, ◌*◌, ◌<◌, ◌≤◌, ◌^◌, false, List, [], ◌∷◌, Option, Some, length, refl, arith}
use Rattle.entry_word.specs.declared.mark.PresenceMark.{PresenceMark}
use Rattle.entry_word.specs.declared.mark.PresenceMark.TheVariants.{Empty, Gone, Coming}
use Rattle.entry_word.specs.declared.visit.Key.{Key}
use Rattle.entry_word.specs.declared.visit.Key.TheVariants.{Presence}
use Rattle.directory.specs.Settings.{Setting}
use Rattle.directory.specs.Histories.{before, cell, History}
use Rattle.directory.specs.Legal.{IsLegal}
use Rattle.directory.specs.Finds.{after_mark, after_origin, after_word, all_readers, at_origin, Chase, chases, climb, climbs, ended, FindCall, key_of, Reader, Pursuit, way_in, found_weight}
use Rattle.directory.specs.Looks.{moves_at}
use Rattle.directory.specs.Standing.{number, standing}
use Rattle.directory.specs.Statements.{CellsOfPuts, FrontsAreLegal, MarksAreLeft, StepsBeginAtRest}
use Rattle.trail_laws.specs.Trail.{AddressesLead, ComingsLead, IsLed, KnowsAtMost, mark_seen, MarksTell, MarkTells, TopHasEntry}
use Rattle.trail_laws.specs.Rightness.{IsAnswered}
use Rattle.trail_laws.specs.Within.{Affords, Begins}
use Rattle.trail_laws.proofs.Passing.{while-quiet}
use Rattle.trail_laws.proofs.Right.{gone-known}
use Rattle.trail_laws.proofs.Alike.{alike-step, IsAlike, led-alike}

-- what makes a find sure of an answer within what is allowed, at a pursuit after its first look
abbrev pub IsSure : Setting → ℕ → History → FindCall → (ℕ → Type 0) → Pursuit → Type 0
IsSure setting sub seen call Within at_origin = ⊥
IsSure setting sub seen call Within (climbs known weight reader later) =
    KnowsAtMost (number sub seen) known × Affords setting sub seen call Within weight (reader ∷ later)
IsSure setting sub seen call Within (chases chase node) =
    (hops : ℕ) × (way : ℕ) × (hops ≤ chase.hops_left)
    × IsLed setting (mark_seen setting sub seen) chase.known node (standing setting sub seen) hops way
    × Within (chase.weight + way)
IsSure setting sub seen call Within (ended found) = IsAnswered found × Within (found_weight found)

-- ---- it stays
module _ {setting : Setting} {sub : ℕ} {one other : History} (call : FindCall) (Within : ℕ → Type 0)
    (alike : IsAlike setting sub one other) where
  affords-alike : (weight : ℕ) (readers : List Reader)
      → Affords setting sub one call Within weight readers → Affords setting sub other call Within weight readers
  unfolding Affords
  affords-alike weight [] h = h
  affords-alike weight (reader ∷ later) h =
      grind (arith, alike, affords-alike (weight + 2 * way_in setting call reader) later, led-alike)

-- what is used of the laws
pub record Used : Type 0 where
  pub cells : CellsOfPuts
  pub marks_left : MarksAreLeft
  pub rests : StepsBeginAtRest
  pub fronts : FrontsAreLegal
  pub marks : MarksTell
  pub addresses : AddressesLead
  pub comings : ComingsLead
  pub top : TopHasEntry

-- up to a later ticket, while no move is made
pub sure-until : Used → {setting : Setting} {sub : ℕ} (history : History) (call : FindCall) (Within : ℕ → Type 0)
    (t u : ℕ) (pursuit : Pursuit) → setting.nodes ≤ 2 ^ 16 → IsLegal setting sub history → t ≤ u → u ≤ length history
    → ((x : ℕ) → t ≤ x → x < u → moves_at sub history x ≡ false)
    → IsSure setting sub (before t history) call Within pursuit
    → IsSure setting sub (before u history) call Within pursuit
sure-until used {setting} {sub} history call Within t u pursuit low legal =
    while-quiet used.fronts history (λ seen. IsSure setting sub seen call Within pursuit) low legal
    (grind (arith, affords-alike, led-alike, alike-step)) t u

-- ---- one look
module _ (setting : Setting) (seen : History) (call : FindCall) (Within : ℕ → Type 0) where
  abbrev pub IsSureOf : Pursuit → Type 0
  IsSureOf pursuit = IsSure setting call.sub seen call Within pursuit

  climb-sure : (known : Option ℕ) (weight : ℕ) (readers : List Reader) → KnowsAtMost (number call.sub seen) known
      → Affords setting call.sub seen call Within weight readers → IsSureOf (climb known weight readers)
  unfolding Affords
  climb-sure known weight readers knows some = grind arith

  origin-sure : (mark : PresenceMark) → Begins setting seen call Within
      → mark_seen setting call.sub seen call.from ≡ mark → MarkTells setting call.sub seen call.from mark
      → IsSureOf (after_origin setting call mark)
  origin-sure Empty begins same tells = grind (arith, climb-sure)
  origin-sure (Gone q to) begins same tells =
      grind (arith, climb-sure, all_readers setting call.from, gone-known setting call.sub seen call.from q to tells)
  origin-sure (Coming q from) begins same tells = grind (arith, begins.chasing q from same)
  origin-sure mark begins same tells = (tt, begins.here)

  mark-sure : (chase : Chase) (node : ℕ) (mark : PresenceMark) → mark_seen setting call.sub seen node ≡ mark
      → (hops way : ℕ) → hops ≤ chase.hops_left
      → IsLed setting (mark_seen setting call.sub seen) chase.known node (standing setting call.sub seen) hops way
      → Within (chase.weight + way) → IsSureOf (after_mark setting chase node mark)
  unfolding IsLed
  mark-sure chase node mark same zero way few led allowed = grind arith
  mark-sure chase node (Coming q from) same (suc hops) way few led allowed =
      grind (arith, cond_both, setting.distance node led.0)
  mark-sure chase node mark same (suc hops) way few led allowed = grind (arith, setting.distance node led.0)

-- the look at the origin, and one after it
pub first-sure : Used → {setting : Setting} {seen : History} {call : FindCall} {Within : ℕ → Type 0} (key : Key)
    → Begins setting seen call Within → setting.nodes ≤ 2 ^ 16 → call.from < setting.nodes
    → IsLegal setting call.sub seen → key_of call at_origin ≡ Some key
    → IsSure setting call.sub seen call Within (after_word setting call at_origin (cell setting seen key))
unfolding Affords
first-sure used {setting} {seen} {call} {Within} key begins low inside legal wanted =
    grind (arith, used.marks setting call.sub seen low legal call.from inside, origin-sure)

pub look-sure : (setting : Setting) (seen : History) (call : FindCall) (Within : ℕ → Type 0) (pursuit : Pursuit)
    (key : Key) → IsSure setting call.sub seen call Within pursuit → key_of call pursuit ≡ Some key
    → IsSure setting call.sub seen call Within (after_word setting call pursuit (cell setting seen key))
unfolding Affords
look-sure setting seen call Within at_origin key sure wanted = absurd sure
look-sure setting seen call Within (climbs known weight reader later) key sure wanted = grind (arith, climb-sure)
look-sure setting seen call Within (chases chase node) key sure wanted =
    let e : key ≡ Presence node call.sub = cc in
    rw e (mark-sure setting seen call Within chase node (mark_seen setting call.sub seen node) refl sure.0 sure.1
    sure.2 sure.3 sure.4)
look-sure setting seen call Within (ended found) key sure wanted = cc
