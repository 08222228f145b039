-- The passes that a tracker begins with.
use Rattle.std.proofs.Common.{◌≡◌, ℕ, zero, suc, ◌<◌, List, [], ◌∷◌, ◌++◌, length, Some, sym, ap, ◌∙◌, subst, arith}
use Rattle.std.specs.Prelude.{All, slice_get}
use Rattle.std.proofs.lemmas.List.Elements.{All-get_or}
use Rattle.atomic_table.specs.Seated.{TableId}
use Rattle.atomic_table.specs.Table.{Me}
use Rattle.entry_word.specs.declared.visit.Act.{Act}
use Rattle.entry_word.specs.declared.visit.Key.TheVariants.{Presence, Entry}
use Rattle.directory.specs.Settings.{start}
use Rattle.region_plan.specs.Plan.{PlanData, nodes_of}
use Rattle.region_plan.specs.Matched.{IsMatched}
use Rattle.station.specs.Setup.{Setup, CellsLie, setting_in}
use Rattle.station.specs.Passes.{AreFresh, IsFreshPass, PassData, TrackerData, fresh_view}
use Rattle.station.specs.Plays.{first_view, view_of_first}
use Rattle.station.specs.declared.view.View.{View}
use Rattle.directory.specs.ListLaws.{same_some}

-- in a matched plan each cell lies at a node
pub matched_lies : {plan : PlanData} (homes : List ℕ) (actors : ℕ) → IsMatched plan
    → CellsLie (record { plan = plan; homes = homes; actors = actors })
matched_lies homes actors m (Presence node sub) known = known.place
matched_lies {plan} homes actors m (Entry level cluster sub) known = grind arith

pub start_inside : (plan : PlanData) (homes : List ℕ) (actors sub : ℕ) → All (λ home. home < nodes_of plan) homes
    → sub < length homes
    → start (setting_in (record { plan = plan; homes = homes; actors = actors })) sub < nodes_of plan
start_inside plan homes actors sub all known = All-get_or (λ home. home < nodes_of plan) homes sub 0 known all

-- the view of the first seat when the actors below one are dealt
abbrev pub rest_view : Setup → ℕ → View
rest_view setup actor = record (first_view setup) { low = actor }

-- the seat that is dealt from such a view knows what a fresh pass does
pub dealt_fresh : (setup : Setup) (actor : ℕ) {rest dealt : Me Act View} → rest ≡ (rest_view setup actor, [])
    → dealt ≡ (view_of_first rest.0, []) → dealt ≡ (fresh_view setup actor, [])
dealt_fresh setup actor is told = grind arith

-- the view that is left in the end is that of the last actor
pub last_fresh : (setup : Setup) {actor last : ℕ} {rest : Me Act View} → rest ≡ (rest_view setup actor, [])
    → actor ≡ last → setup.actors ≡ suc last → rest ≡ (fresh_view setup last, [])
last_fresh setup {last} is at high = grind (arith, rest_view)

pub fresh_own : (setup : Setup) (actor : ℕ) {me : Me Act View} → me ≡ (fresh_view setup actor, [])
    → me ≡ (fresh_view me.0.setup actor, [])
fresh_own setup actor is = grind arith

-- what holds of each pass, and of one more
pushed : (P : ℕ → PassData → Type 0) (passes : List PassData) {pass : PassData} → P (length passes) pass
    → ((i : ℕ) (found : PassData) → slice_get passes i ≡ Some found → P i found)
    → (i : ℕ) (found : PassData) → slice_get (passes ++ pass ∷ []) i ≡ Some found → P i found
pushed P [] new old zero found e = subst (P 0) (same_some e) new
pushed P [] new old (suc i) found e = old (suc i) found e
pushed P (first ∷ passes) new old zero found e = old 0 found e
pushed P (first ∷ passes) new old (suc i) found e = pushed (λ k. P (suc k)) passes new (λ k. old (suc k)) i found e

-- the pass of the next actor, behind fresh ones
pub fresh_push : {tracker : TrackerData} (passes : List PassData) {made : List PassData} {pass : PassData} {actor : ℕ}
    (seat : ℕ) {table : TableId} {me : Me Act View} → AreFresh tracker passes → length passes ≡ actor
    → table ≡ tracker.table → me ≡ (fresh_view tracker.setup actor, [])
    → pass ≡ record { table = table; seat = seat; view = me.0; spare = 0 } → made ≡ passes ++ pass ∷ []
    → AreFresh tracker made
fresh_push {tracker} passes {pass} {actor} seat {table} fresh count of is e grown i found there =
    pushed (IsFreshPass tracker) passes (grind arith) fresh i found
    (ap (λ (l : List PassData). slice_get l i) (sym grown) ∙ there)
