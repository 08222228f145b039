use Rattle.std.proofs.Common.{rules, arith, subst, sym, ap, ◌∙◌, ◌≡◌}
use Rattle.atomic_table.specs.Table.{Me}
use Rattle.entry_word.specs.declared.visit.Act.{Act}
use Rattle.station.specs.Plays.{Draws}
use Rattle.station.specs.declared.view.View.{View}
use Rattle.station.specs.Visits.{MayDraw}
use Rattle.station.proofs.Drawing.{draws}
use Rattle.station.proofs.tracker.Tracker.draw.Goals as goal

pub fetch_add-requires : goal.fetch_add-requires
fetch_add-requires c =
    let m = c.turn.new.seat.me in
    let told = c.self.view_is in
    let turn = c.in_ok-turn.ensures.turn in
    let e : m.0.setup ≡ c.self.inside.table.shared.key = grind arith in (
      search rules,
      omega (arith, c.self.invariant.words),
      rw (← e) (draws c.same_key_means.ensures _ _ m (subst (λ (v : View). MayDraw v c.args.node c.args.act.now)
          (sym (ap (λ (x : Me Act View). x.0) turn)) (c.requires.may m.0.turns))),
    )

-- what the step at the ticket tells of the act that the turn was taken for
drawn : (c : goal.After-fetch_add) → Draws c.turn.new.seat.me.0 c.args.node c.args.act.now c.fetch_add.result
    c.fetch_add.new.seat.me.0 × (c.fetch_add.new.seat.me.1 ≡ c.turn.new.seat.me.1)
drawn c =
    let turn = c.in_ok-turn.ensures.turn in
    c.fetch_add.ensures.2 c.args.node c.args.act.now (ap (λ (x : Me Act View). x.0.inside) turn)
    (ap (λ (x : Me Act View). x.0.intended) turn)

pub returns-clause-slots : goal.returns-clause-slots
returns-clause-slots c = (drawn c).1 ∙ ap (λ (x : Me Act View). x.1) c.in_ok-turn.ensures.turn

pub returns-clause-drawn : goal.returns-clause-drawn
returns-clause-drawn c = grind (arith, drawn c, drawn)

pub returns-clause-logs : goal.returns-clause-logs
returns-clause-logs c =
    rw (ap (λ (v : View). v.turns) (drawn c).0.view) c.in_ok-turn.ensures.logs
