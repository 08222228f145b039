-- Moves that are past stay so, and those up to a move are, once it has erased its top level's address or purged a node.
use Rattle.std.proofs.Common.{inl, inr, ℕ, suc, ◌<◌, ◌≤◌, ◌^◌, length, arith}
use Rattle.std.proofs.lemmas.Bool.{cases_lt}
use Rattle.directory.specs.Histories.{before, History}
use Rattle.directory.specs.Legal.{IsLegal}
use Rattle.directory.specs.Settings.{Setting}
use Rattle.busy_finds.specs.LawsBelow.{MarkLaws}
use Rattle.busy_finds.specs.Within.{ArePast}
use Rattle.busy_finds.proofs.Between.{above-later, coming-at, coming-since, comes-later}
use Rattle.busy_finds.proofs.Cleaning.{Above, IsCleaning}
use Rattle.busy_finds.proofs.Fronts.{number-more}
use Rattle.busy_finds.proofs.Tickets.{count-begun}

module _ (laws : MarkLaws) (setting : Setting) (sub : ℕ) (history : History) (few : setting.nodes ≤ 2 ^ 16)
    (legal : IsLegal setting sub history) where
  abbrev pub Past : ℕ → ℕ → Type 0
  Past latest t = ArePast setting sub (before t history) latest

  pub past-none : (t : ℕ) → Past 0 t
  past-none t = record {
    committed = omega arith;
    addresses = λ level cluster address low held. omega arith;
    comings = λ node p from inside is. omega (
      arith,
      (coming-at laws setting sub history few legal t node p from inside is).some,
    );
  }

  pub past-later : (latest t u : ℕ) → t ≤ u → u ≤ length history → Past latest t → Past latest u
  past-later latest t u h low past = record {
    committed = omega (arith, past.committed, number-more sub t u history h);
    addresses = above-later laws setting sub history few legal latest t u h low
        (omega (arith, past.committed, count-begun laws setting sub history few legal t)) past.addresses;
    comings = λ node p from inside is. elim (cases_lt latest p) [
      | inl later ↦ later
      | inr early ↦ absurd (omega (
        arith,
        early,
        past.comings node p from inside
            (coming-since laws setting sub history few legal node p from t u inside h low
            (omega (arith, early, past.committed)) is),
      ))
    ];
  }

  pub past-early : (latest earlier t : ℕ) → earlier ≤ latest → Past latest t → Past earlier t
  past-early latest earlier t h past = record {
    committed = omega (arith, h, past.committed);
    addresses = λ level cluster address low held. omega (arith, h, past.addresses level cluster address low held);
    comings = λ node p from inside is. omega (arith, h, past.comings node p from inside is);
  }

  -- behind a visit that cleans up
  pub cleaned-past : (t : ℕ) → t < length history → (c : IsCleaning laws setting sub history few legal t)
      → Above laws setting sub history few legal c.move.number (suc t) → Past c.move.number (suc t)
  cleaned-past t low c above = record {
    committed = omega (arith, c.done);
    addresses = above;
    comings = λ node p from inside is. comes-later laws setting sub history few legal t (suc t) node p from c
        (omega arith) (omega (arith, low)) inside is;
  }
