use Rattle.std.proofs.Common.{rules, arith, ◌≡◌, ◌≢◌, suc, ℕ, ◌-◌, ◌<◌, refl}
use Rattle.station.specs.Setup.{nodes_in}
use Rattle.station.proofs.Turning.{turns_at}
use Rattle.station.proofs.tracker.Tracker.turn.Goals as goal

up : (k : ℕ) → k ≢ 0 → k ≡ suc (k - 1)
up k ne = omega arith

pub compare_exchange_with-found-requires : goal.compare_exchange_with-found-requires
compare_exchange_with-found-requires c =
    let m = c.args.seat.now.me in
    let setup = c.self.inside.table.shared.key in
    let view = c.self.view_is in
    let known : c.args.node < nodes_in setup = search rules in (
      search rules,
      search rules,
      turns_at c.cell_numbers.ensures.apart setup _ _ m c.args.act.now known
          (omega (arith, c.requires.low, c.requires.high))
          (record { out = c.requires.outside; unwritten = c.requires.unwritten }) c.lock_place-place.ensures.place
          (omega (arith, c.requires.low)),
    )

pub returns-then-found-eq0-clause-turn : goal.returns-then-found-eq0-clause-turn
returns-then-found-eq0-clause-turn c = ((c.compare_exchange_with-found.ensures.2 c.args.node c.args.act.now
    c.lock_place-place.ensures.place refl).0 c.if-found-eq0.true).0

pub returns-then-found-eq0-clause-logs : goal.returns-then-found-eq0-clause-logs
returns-then-found-eq0-clause-logs c =
    rw (← c.requires.low)
    ((c.compare_exchange_with-found.ensures.2 c.args.node c.args.act.now c.lock_place-place.ensures.place refl).0
    c.if-found-eq0.true).1

pub overflow_cast-result : goal.overflow_cast-result
overflow_cast-result c = omega (
  arith,
  ((c.compare_exchange_with-found.ensures.2 c.args.node c.args.act.now
      c.lock_place-place.ensures.place refl).1 c.if-found-eq0.false).2,
)

pub returns-clause-turn : goal.returns-clause-turn
returns-clause-turn c = grind (
  arith,
  c.compare_exchange_with-found.ensures.2 c.args.node c.args.act.now c.lock_place-place.ensures.place refl,
  c.requires.real,
  up,
)

pub returns-clause-logs : goal.returns-clause-logs
returns-clause-logs c =
    let found = c.compare_exchange_with-found.result in
    let t = (c.compare_exchange_with-found.ensures.2 c.args.node c.args.act.now
    c.lock_place-place.ensures.place refl).1 c.if-found-eq0.false in
    let some : found ≡ suc (found - 1) = up found c.if-found-eq0.false in
    rw (← some, ← c.requires.low) t.3
