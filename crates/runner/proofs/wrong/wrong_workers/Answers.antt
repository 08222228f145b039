use Rattle.std.proofs.Common.{◌≡◌, ℕ, [], ◌∷◌, length, refl, sym, ap, ◌∙◌, arith}
use Rattle.std.specs.Prelude.{slice_index_or}
use Rattle.directory.specs.Histories.{History, own}
use Rattle.directory.specs.Orders.{script_visits}
use Rattle.directory.specs.Writes.{writes}
use Rattle.scripts.specs.Scripts.{scripts_of}
use Rattle.station.specs.Passes.{actor_of}
use Rattle.station.specs.Setup.{setting_in}
use Rattle.station.specs.declared.view.View.{View}
use Rattle.runner.specs.Examples.{count_by, idle_input, line_setup, switching_input}
use Rattle.runner.specs.Playing.{IsPlayedBy}
use Rattle.runner.specs.Roles.{IsRole}
use Rattle.runner.specs.declared.role.Role.{Role}
use Rattle.runner.specs.declared.role.Role.TheVariants as roles
use Rattle.runner.proofs.Idle.{idle-next}
use Rattle.runner.proofs.wrong.wrong_workers.Goals as goal

pub returns-clause-inside : goal.returns-clause-inside
returns-clause-inside c = λ input tracker worker its at. cc (sym its.outside ∙ at)

pub returns-clause-unknown : goal.returns-clause-unknown
returns-clause-unknown c = λ tracker worker seen its. omega (arith, its.known, seen.low)

pub returns-clause-unplayed : goal.returns-clause-unplayed
returns-clause-unplayed c = λ tracker worker set seen its.
    let by : IsPlayedBy (setting_in line_setup) (scripts_of idle_input) 1 (count_by 1 ∷ []) =
    rw (set, seen.seen_is, seen.low) at its.played in
    cc (sym idle-next ∙ by 0 (count_by 1) refl refl)

pub returns-clause-uncounted : goal.returns-clause-uncounted
returns-clause-uncounted c = λ input tracker worker seen one its.
    let none : length (own (actor_of worker.pass) worker.pass.view.seen) ≡ 0 =
    ap (λ (h : History). length (own (actor_of worker.pass) h)) seen.seen_is in
    omega (arith, its.made, one, none)

pub returns-clause-room : goal.returns-clause-room
returns-clause-room c = λ input tracker worker many its. omega (arith, its.few, many)

one-left : length (script_visits (setting_in line_setup) (scripts_of switching_input) 0) ≡ 1
unfolding writes
one-left = refl

-- no room for the visit of the switch
full : (view : View) {spare : ℕ} (role : Role) → view.low ≡ 0 → view.seen ≡ [] → spare ≡ 0
    → IsRole switching_input line_setup view spare role → ⊥
full view (roles.Mover mover) low seen zeroth part =
    let one : length (script_visits (setting_in line_setup) (scripts_of switching_input) view.low) ≡ 1 =
    ap (λ (a : ℕ). length (script_visits (setting_in line_setup) (scripts_of switching_input) a)) low ∙ one-left in
    let none : length (own view.low view.seen) ≡ 0 = ap (λ (h : History). length (own view.low h)) seen in
    omega (arith, part.begun.room, one, none, zeroth)
full view (roles.Finder finder) low seen zeroth part = omega (arith, part.high, low)

pub returns-clause-no_room : goal.returns-clause-no_room
returns-clause-no_room c = λ tracker worker set seen zeroth its.
    full worker.pass.view worker.role seen.low seen.seen_is zeroth
    (rw set at its.role)

pub returns-clause-caller : goal.returns-clause-caller
returns-clause-caller c = λ tracker worker mover seen is its.
    let part = rw is at its.role in omega (arith, part.begun.low, seen.low)

pub returns-clause-subscriber : goal.returns-clause-subscriber
returns-clause-subscriber c = λ tracker worker finder seen is its.
    let part = rw is at its.role in omega (arith, part.high, seen.low)

pub returns-clause-script : goal.returns-clause-script
returns-clause-script c = λ tracker worker mover seen is none its.
    let part = rw is at its.role in
    cc (sym none ∙ (part.begun.script ∙ ap (λ (a : ℕ). slice_index_or switching_input.scripts a []) seen.low))
