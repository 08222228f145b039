-- How many of finds in turn are to be made again.
use Rattle.std.proofs.Common.{◌≡◌, ℕ, ◌+◌, ◌*◌, ◌<◌, ◌≤◌, ◌^◌, List, [], ◌∷◌, length, ap, subst, arith}
use Rattle.std.specs.Prelude.{sum_by}
use Rattle.std.proofs.lemmas.List.{take_all}
use Rattle.std.proofs.lemmas.List.Sums.{sum_by-cons}
use Rattle.directory.specs.Settings.{Setting}
use Rattle.directory.specs.Histories.{before, History}
use Rattle.directory.specs.Legal.{IsLegal}
use Rattle.directory.specs.Looks.{first_of, IsFind, last_of}
use Rattle.directory.specs.Standing.{number}
use Rattle.directory.specs.declared.answers.Found.{Found}
use Rattle.directory.specs.declared.answers.Found.TheVariants.{At, Off as OffAt, Again}
use Rattle.directory.specs.declared.answers.Why.TheVariants.{Empty as EmptyAt, NoEntry, Chased}
use Rattle.busy_finds.specs.Again.{ChasedMeetsCommits}
use Rattle.busy_finds.specs.Altogether.{again_once, AgainsAreFew, AreInTurn, chased_once, ChasedFindsAreFew, MadeFind, missed_once, MissedFindsAreFew}
use Rattle.busy_finds.proofs.ByStretch.{in-order}
use Rattle.busy_finds.proofs.Fronts.{number-more}

module _ (meets : ChasedMeetsCommits) (setting : Setting) (history : History) (sub : ℕ) (few : setting.nodes ≤ 2 ^ 16)
    (legal : IsLegal setting sub history) where
  -- three commits for a find whose chase took too many hops
  commits-within : (actor from : ℕ) (found : Found) (tickets : List ℕ) → from < setting.nodes
      → IsFind setting history actor (record { from = from; sub = sub }) found tickets
      → number sub (before (first_of tickets) history) + 3 * chased_once found
      ≤ number sub (before (last_of tickets) history)
  commits-within actor from (At node p level weight) tickets inside find =
      omega (arith, number-more sub (first_of tickets) (last_of tickets) history (in-order find))
  commits-within actor from (OffAt node p level weight) tickets inside find =
      omega (arith, number-more sub (first_of tickets) (last_of tickets) history (in-order find))
  commits-within actor from (Again (EmptyAt node) weight) tickets inside find =
      omega (arith, number-more sub (first_of tickets) (last_of tickets) history (in-order find))
  commits-within actor from (Again NoEntry weight) tickets inside find =
      omega (arith, number-more sub (first_of tickets) (last_of tickets) history (in-order find))
  commits-within actor from (Again Chased weight) tickets inside find =
      let met = meets setting history actor (record { from = from; sub = sub }) weight tickets few inside legal find in
      omega (arith, number-more sub (first_of tickets) met.0 history met.1, met.3)

  each-thrice : (earliest : ℕ) (finds : List MadeFind) → AreInTurn setting history sub earliest finds
      → number sub (before earliest history) + 3 * sum_by (λ (find : MadeFind). chased_once find.found) finds
      ≤ number sub history
  each-thrice earliest [] turns = omega (
    arith,
    number-more sub earliest (earliest + length history) history (omega arith),
    ap (number sub) (take_all (earliest + length history) history (omega arith)),
  )
  each-thrice earliest (find ∷ later) (same, inside, is, after, turns) = omega (
    arith,
    each-thrice (last_of find.tickets) later turns,
    sum_by-cons (λ (f : MadeFind). chased_once f.found) find later,
    commits-within find.actor find.call.from find.found find.tickets inside
        (subst (λ s. IsFind setting history find.actor (record { from = find.call.from; sub = s }) find.found
        find.tickets) same is),
    number-more sub earliest (first_of find.tickets) history after,
  )

pub chased-few : ChasedMeetsCommits → ChasedFindsAreFew
chased-few meets setting history sub finds few legal turns =
    omega (arith, each-thrice meets setting history sub few legal 0 finds turns)

-- a find is to be made again where it met no address, or an emptied node, or its chase took too many hops
again-parts : (found : Found) → again_once found ≡ missed_once found + chased_once found
again-parts (At node p level weight) = omega arith
again-parts (OffAt node p level weight) = omega arith
again-parts (Again (EmptyAt node) weight) = omega arith
again-parts (Again NoEntry weight) = omega arith
again-parts (Again Chased weight) = omega arith

sum-parts : (finds : List MadeFind) → sum_by (λ (find : MadeFind). again_once find.found) finds
    ≡ sum_by (λ (find : MadeFind). missed_once find.found) finds
    + sum_by (λ (find : MadeFind). chased_once find.found) finds
sum-parts [] = omega arith
sum-parts (find ∷ later) = omega (
  arith,
  sum_by-cons (λ (f : MadeFind). again_once f.found) find later,
  sum_by-cons (λ (f : MadeFind). missed_once f.found) find later,
  sum_by-cons (λ (f : MadeFind). chased_once f.found) find later,
  again-parts find.found,
  sum-parts later,
)

pub agains-few : MissedFindsAreFew → ChasedMeetsCommits → AgainsAreFew
agains-few missed meets setting history sub finds few reads legal turns =
    omega (
      arith,
      sum-parts finds,
      missed setting history sub finds few reads legal turns,
      chased-few meets setting history sub finds few legal turns,
    )
