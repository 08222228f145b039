-- The laws of marks and addresses after every legal history.
use Rattle.std.proofs.Common.{arith, ◌≡◌, ◌≢◌, ℕ, ◌≤◌, ◌^◌, Option, Some, None, refl, sym, ◌∙◌}
use Rattle.entry_word.specs.declared.mark.PresenceMark.{PresenceMark}
use Rattle.entry_word.specs.declared.mark.PresenceMark.TheVariants.{Empty}
use Rattle.entry_word.specs.declared.address.Address.{Address}
use Rattle.directory.specs.Settings.{Setting}
use Rattle.directory.specs.Histories.{History}
use Rattle.directory.specs.Legal.{IsLegal}
use Rattle.directory.specs.Statements.{CommitsAreTold, EntriesAreLeft, LegalIsAmid, MarksAreLeft, OffIsTold}
use Rattle.trail_laws.specs.Trail.{AddressesLead, ComingsLead, EntriesTell, entry_seen, EntryTells, IsLed, MarksTell, OneComing, TopHasEntry}
use Rattle.trail_laws.proofs.ClosedViews.{View}
use Rattle.trail_laws.proofs.Views.{legal-view, shown}
use Rattle.trail_laws.proofs.Tells.{mark-is}
use Rattle.trail_laws.proofs.PlacedPhases.{IsPlaced, entry-placed}
use Rattle.trail_laws.proofs.Comings.{coming-leads_on, coming-one}
use Rattle.trail_laws.proofs.Nearby.{level-has}
use Rattle.directory.specs.StepLaws.{start-kept}

-- what is taken from the laws of the directory
pub record Laws : Type 0 where
  pub amid : LegalIsAmid
  pub marks : MarksAreLeft
  pub entries : EntriesAreLeft
  pub told : CommitsAreTold
  pub off_told : OffIsTold

unfoldable pub HistoryView : Setting → ℕ → History → Type 0
HistoryView setting sub history = View setting (shown setting sub history)

pub view : Laws → {setting : Setting} {sub : ℕ} (history : History) → setting.nodes ≤ 2 ^ 16
    → IsLegal setting sub history → HistoryView setting sub history
unfolding HistoryView
view laws {setting}
    {sub} history low legal = legal-view laws.amid laws.marks laws.entries laws.told laws.off_told history low legal

pub marks-tell : Laws → MarksTell
unfolding HistoryView
marks-tell laws setting sub history low legal node inside =
    grind (arith, mark-is node inside (view laws history low legal))

pub one-coming : Laws → OneComing
unfolding HistoryView
one-coming laws setting sub history low legal one other p q u v one_in other_in first second =
    let its = view laws history low legal in
    coming-one one p u one_in its first
    ∙ sym (coming-one other q v other_in its second)

pub placed : Laws → {setting : Setting} {sub : ℕ} (history : History) → setting.nodes ≤ 2 ^ 16
    → IsLegal setting sub history → (level cluster : ℕ) (address : Address) → level ≤ setting.top
    → entry_seen setting sub history level cluster ≡ Some address
    → IsPlaced setting (shown setting sub history) level cluster address
unfolding HistoryView
placed laws {setting} {sub} history low legal level cluster address below is_some =
    entry-placed level cluster address below (view laws history low legal) is_some

not_empty : (setting : Setting) (marks : ℕ → PresenceMark) (node last hops way : ℕ)
    → IsLed setting marks None node last hops way → marks node ≢ Empty
unfolding IsLed
not_empty setting marks node last hops way led empty = grind arith

pub addresses-lead : Laws → AddressesLead
addresses-lead laws setting sub history low legal level cluster address known below is_some knows =
    grind (arith, placed laws history low legal level cluster address below is_some)

pub entries-tell : Laws → EntriesTell
entries-tell laws setting sub history low legal level cluster below = told
    (entry_seen setting sub history level cluster) refl
  where
    told : (entry : Option Address) → entry_seen setting sub history level cluster ≡ entry
        → EntryTells setting sub history level cluster entry
    told None e = tt
    told (Some address) e =
        let there = placed laws history low legal level cluster address below e in
        let led = there.leads None tt in grind (arith, start-kept, not_empty)

pub top-has_entry : Laws → TopHasEntry
unfolding HistoryView
top-has_entry laws setting sub history low legal =
    let its = level-has setting.top (omega arith) (view laws history low legal) in (its.0, its.1, its.2, its.3)

pub comings-lead : Laws → ComingsLead
unfolding HistoryView
comings-lead laws setting sub history low legal node p from known inside comes knows =
    grind (arith, coming-leads_on node p from known inside (view laws history low legal) comes)
