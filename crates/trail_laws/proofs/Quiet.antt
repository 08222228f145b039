-- A quiet find has its answer: what it stands on stays while no visit of a move is made.
use Rattle.std.proofs.lemmas.Bool.{cases_Bool, cases_eq, or_cases, eqb-true, cases_lt}
use Rattle.std.proofs.Common.{◌≡◌, ◌⊎◌, inl, inr, ℕ, zero, suc, ◌+◌, ◌-◌, ◌*◌, ◌<◌, ◌≤◌, ◌^◌, true, false, List, [], ◌∷◌, ◌++◌, Option, Some, None, map, refl, ap, arith}
use Rattle.std.specs.Prelude.{All, flat_map, is_some, slice_get}
use Rattle.std.proofs.lemmas.List.Elements.{All-head, All-tail}
use Rattle.std.proofs.lemmas.Option.{slice_get_within}
use Rattle.node_set.specs.Ascending.{has}
use Rattle.entry_word.specs.declared.address.Address.{Address}
use Rattle.entry_word.specs.declared.visit.Key.{Key}
use Rattle.directory.specs.Settings.{levels, Setting}
use Rattle.directory.specs.Histories.{before, cell, History}
use Rattle.directory.specs.Writes.{numbers_from}
use Rattle.directory.specs.Legal.{IsLegal}
use Rattle.directory.specs.Finds.{key_of, after_word, all_readers, find, FindCall, Reader, Pursuit, way_in, found_weight}
use Rattle.directory.specs.Looks.{first_of, IsFind, IsQuiet, last_of, look_by, moves_at}
use Rattle.directory.specs.declared.answers.Found.{Found}
use Rattle.directory.specs.declared.answers.Found.TheVariants.{Again}
use Rattle.trail_laws.specs.Trail.{entry_seen}
use Rattle.trail_laws.specs.Rightness.{AgainHasItsCause, IsAnswered, QuietFindsAnswer, ReadsTop}
use Rattle.trail_laws.specs.Within.{Affords, AffordsAddress, Begins, EntryAsks, QuietFindsStayWithin}
use Rattle.trail_laws.proofs.Passing.{front-legal}
use Rattle.trail_laws.proofs.Right.{at-last, Low, readers-low}
use Rattle.trail_laws.proofs.Sure.{first-sure, IsSure, Used, look-sure, sure-until}

-- a quiet find whose beginning is sure has an answer within what is allowed
pub quiet-within : Used → {setting : Setting} {history : History} {actor : ℕ} {call : FindCall} {Within : ℕ → Type 0}
    {found : Found} {tickets : List ℕ} → setting.nodes ≤ 2 ^ 16 → call.from < setting.nodes
    → IsLegal setting call.sub history → Begins setting (before (first_of tickets) history) call Within
    → IsFind setting history actor call found tickets
    → IsQuiet history call.sub (first_of tickets) (last_of tickets) → IsAnswered found × Within (found_weight found)
quiet-within used {setting} {history} {actor} {call} {Within} {found} {tickets} low inside legal begins find quiet =
    (at-last setting history actor call SureTo next tickets find (λ t key same is_look wanted. (
      omega (arith, same),
      λ calm.
          first-sure used {seen = before t history} {Within = Within} key (rw same begins) low inside
          (front-legal used.fronts setting call.sub history t low legal) wanted,
    ))).1 quiet
  where
    -- while no visit of a move is made it is sure
    SureTo : ℕ → Pursuit → Type 0
    SureTo t pursuit = (first_of tickets ≤ t) × (IsQuiet history call.sub (first_of tickets) t
        → IsSure setting call.sub (before t history) call Within pursuit)

    next : (t u : ℕ) (pursuit : Pursuit) (key : Key) → t < u → slice_get history u ≡ Some (look_by actor key)
        → key_of call pursuit ≡ Some key → SureTo t pursuit
        → SureTo u (after_word setting call pursuit (cell setting (before u history) key))
    next t u pursuit key later is_look wanted sure = (
      omega (arith, later, sure.0),
      λ calm.
          look-sure setting (before u history) call Within pursuit key
          (sure-until used history call Within t u pursuit low legal (omega (arith, later))
          (omega (arith, slice_get_within history u (look_by actor key) is_look))
          (λ x h g. calm x (omega (arith, h, sure.0)) (omega (arith, g)))
          (sure.1 (λ x h g. calm x h (omega (arith, g, later))))) wanted,
    )

-- ---- without a bound: the home at the top level has an address that the origin reads
abbrev pub HasReader : Setting → ℕ → History → List Reader → Type 0
HasReader setting sub seen [] = ⊥
HasReader setting sub seen (reader ∷ later) =
    (is_some (entry_seen setting sub seen reader.level reader.cluster) ≡ true) ⊎ HasReader setting sub seen later

abbrev pub Anything : ℕ → Type 0
Anything weight = Unit {0}

-- the readers of a node have an address: that of the home at the top level
at-level : (setting : Setting) (sub : ℕ) (seen : History) (level cluster : ℕ) (clusters : List ℕ) (rest : List Reader)
    → has cluster clusters ≡ true → is_some (entry_seen setting sub seen level cluster) ≡ true
    → HasReader setting sub seen (map (λ c. record { level = level; cluster = c }) clusters ++ rest)
at-level setting sub seen level cluster [] rest h some = cc
at-level setting sub seen level cluster (c ∷ clusters) rest h some =
    grind (arith, or_cases, eqb-true, at-level setting sub seen level cluster clusters rest)

passed : (setting : Setting) (sub : ℕ) (seen : History) (xs ys : List Reader) → HasReader setting sub seen ys
    → HasReader setting sub seen (xs ++ ys)
passed setting sub seen [] ys h = h
passed setting sub seen (x ∷ xs) ys h = inr (passed setting sub seen xs ys h)

from-level : (setting : Setting) (sub node : ℕ) (seen : History) (cluster first count : ℕ) → first ≤ setting.top
    → setting.top < first + count → has cluster (setting.readers setting.top node) ≡ true
    → is_some (entry_seen setting sub seen setting.top cluster) ≡ true
    → HasReader setting sub seen (flat_map (λ level. map (λ c. record { level = level; cluster = c })
    (setting.readers level node)) (numbers_from first count))
from-level setting sub node seen cluster first zero low high h some = absurd (omega arith)
from-level setting sub node seen cluster first (suc count) low high h some =
    grind (arith, from-level setting sub node seen cluster (suc first) count, cases_eq, at-level, passed)

pub readers-have : Used → {setting : Setting} {sub : ℕ} (node : ℕ) (seen : History) → setting.nodes ≤ 2 ^ 16
    → ReadsTop setting → node < setting.nodes → IsLegal setting sub seen
    → HasReader setting sub seen (all_readers setting node)
readers-have used {setting} {sub} node seen low reads inside legal =
    let there = used.top setting sub seen low legal in
    from-level setting sub node seen (setting.home setting.top there.0) 0 (levels setting) (omega arith) (omega arith)
    (reads there.0 node there.2 inside) (ap is_some there.3)

affords-any : Used → {setting : Setting} (seen : History) (call : FindCall) (weight : ℕ) (readers : List Reader)
    → setting.nodes ≤ 2 ^ 16 → IsLegal setting call.sub seen → All (Low setting) readers
    → HasReader setting call.sub seen readers → Affords setting call.sub seen call Anything weight readers
unfolding Affords
affords-any used seen call weight [] low legal all some = absurd some
affords-any used {setting} seen call weight (reader ∷ later) low legal all some =
    at_entry (entry_seen setting call.sub seen reader.level reader.cluster) refl some (λ h. affords-any used seen call
    (weight + 2 * way_in setting call reader) later low legal (All-tail (Low setting) reader later all) h)
  where
    at_entry : (entry : Option Address) → entry_seen setting call.sub seen reader.level reader.cluster ≡ entry
        → (is_some (entry_seen setting call.sub seen reader.level reader.cluster) ≡ true)
        ⊎ HasReader setting call.sub seen later
        → (HasReader setting call.sub seen later
        → Affords setting call.sub seen call Anything (weight + 2 * way_in setting call reader) later)
        → EntryAsks entry (Affords setting call.sub seen call Anything
        (weight + 2 * way_in setting call reader) later)
        (λ address. AffordsAddress setting call.sub seen call Anything weight reader address)
    at_entry None e h more = grind arith
    at_entry (Some address) e h more = λ known knows. grind (
      arith,
      used.addresses setting call.sub seen low legal reader.level reader.cluster address known,
      All-head (Low setting) reader later all,
    )

pub quiet-answers : Used → QuietFindsAnswer
quiet-answers used setting history actor call found tickets low reads inside legal find quiet =
    (quiet-within used low inside legal begins find quiet).0
  where
    seen : History
    seen = before (first_of tickets) history

    legal_seen : IsLegal setting call.sub (before (first_of tickets) history)
    legal_seen = front-legal used.fronts setting call.sub history (first_of tickets) low legal

    begins : Begins setting (before (first_of tickets) history) call Anything
    begins = record {
      here = tt;
      climbing = grind (arith, affords-any, legal_seen, readers-low, readers-have);
      chasing = λ p from e.
          grind (arith, used.comings setting call.sub seen low legal_seen call.from p from None inside);
    }

-- either all tickets of a range are quiet, or one isn't
either-quiet : (sub : ℕ) (history : History) (first count : ℕ)
    → ((u : ℕ) → first ≤ u → u < first + count → moves_at sub history u ≡ false)
    ⊎ ((ticket : ℕ) × (first ≤ ticket) × (ticket < first + count) × (moves_at sub history ticket ≡ true))
either-quiet sub history first zero = inl (λ u h g. absurd (omega arith))
either-quiet sub history first (suc count) =
    grind (arith, either-quiet sub history first count, cases_Bool (moves_at sub history (first + count)), cases_lt)

pub again-cause : Used → AgainHasItsCause
again-cause used setting history actor call why weight tickets low reads inside legal find =
    elim (either-quiet call.sub history (first_of tickets) (suc (last_of tickets) - first_of tickets)) [
      | inl all ↦ absurd (quiet-answers used setting history actor call
          (Again why weight) tickets low reads inside legal find (λ u h g. all u h (omega arith)))
      | inr found ↦ (found.0, found.1, omega (arith, found.1, found.2), found.3)
    ]

-- a quiet find whose beginning is sure of a bound stays within it
pub quiet-stays : Used → QuietFindsStayWithin
quiet-stays used setting history actor call found tickets most low inside legal begins find quiet =
    quiet-within used low inside legal begins find quiet
