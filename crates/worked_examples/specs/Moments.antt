-- A step at which the pass of actor 0, at seat 1, brings an event into the log of turns, and a call
-- of one step; and a step of actor 4, at seat 5, that tells a lost turn.
-- Key laws: `told_moments`, `wrong_losses`.
use Rattle.std.specs.Prelude.{◌≡◌, ℕ, zero, suc, ◌^◌, ◌<◌, Bool, true, length, slice_index, slice_set}
use Rattle.atomic_table.specs.Table.{Allows, Me, State}
use Rattle.entry_word.specs.declared.visit.Act.{Act}
use Rattle.station.specs.Rule.{IsViewOf, KeepsRule}
use Rattle.station.specs.Setup.{Setup, nodes_in}
use Rattle.station.specs.Turns.{Logs}
use Rattle.station.specs.declared.view.TurnEvent.{TurnEvent}
use Rattle.station.specs.declared.view.TurnEvent.TheVariants.{Lost}
use Rattle.station.specs.declared.view.View.{View}

-- the rule holds before the step and after it, and the pass's own view alone changes
pub record Brings (setup : Setup) (old new : State Act View) (event : TurnEvent) : Type 0 where
  pub before : View
  pub after : View
  pub kept : KeepsRule setup old
  pub keeps : KeepsRule setup new
  pub was : IsViewOf old.views 1 before
  pub views : new.views ≡ slice_set old.views 1 after
  pub alone : before.high ≡ suc before.low
  pub own : before.low ≡ 0
  pub low : after.low ≡ before.low
  pub high : after.high ≡ before.high
  pub logs : Logs before.turns event after.turns

-- the states of a call of one step
abbrev pub one_step : State Act View → State Act View → ℕ → State Act View
one_step old new zero = old
one_step old new (suc step) = new

-- the rule allows a step at a word of the table which tells, of some numbers found, that actor 4
-- has lost a turn at node 2 to this lock word; and in this state it may be made, and tells so
pub record IsToldLost (setup : Setup) (place : ℕ) (change : ℕ → ℕ) (is_told : ℕ → Bool)
    (word : ℕ) (before : Me Act View) (state : State Act View) : Type 0 where
  pub known : 2 < nodes_in setup
  pub own : before.0.low ≡ 4
  pub alone : before.0.high ≡ suc before.0.low
  pub allowed : Allows (KeepsRule setup) 0 5 before place change (λ found after.
      is_told found ≡ true → (after.0.low ≡ before.0.low) × (after.0.high ≡ before.0.high)
      × Logs before.0.turns (Lost before.0.low 2 word) after.0.turns)
  pub kept : KeepsRule setup state
  pub homes : length state.homes ≡ 0
  pub was : IsViewOf state.views 5 before.0
  pub small : slice_index state.words place < 2 ^ 64
  pub tells : is_told (slice_index state.words place) ≡ true
