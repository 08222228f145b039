use Rattle.std.proofs.Common.{sym, ◌∙◌, refl}
use Rattle.net_reader.specs.Seen.{seen_input}
use Rattle.scripts.specs.Scripts.{scripts_of}
use Rattle.machine.specs.Stands.{setting_over}
use Rattle.machine.proofs.Turning.{scripts-inside}
use Rattle.machine.proofs.machine.Machine.new.Goals as goal
use Rattle.directory.specs.HistoryLaws.{none-played}

pub rooms_for-requires-clause-inside : goal.rooms_for-requires-clause-inside
rooms_for-requires-clause-inside c =
    scripts-inside c.args.input.now.scripts.items c.requires.together.valid refl c.requires.together.nodes

pub returns-clause-stands : goal.returns-clause-stands
returns-clause-stands c = record {
  together = c.requires.together;
  homes = c.in_ok-homes.ensures.homes;
  routes = c.in_ok-homes.ensures.routes;
  sees = record {
    played = none-played (setting_over (seen_input c.args.input.now) c.args.plan.now)
        (scripts_of (seen_input c.args.input.now));
    goes = c.in_ok-homes.ensures.goes;
    hold = c.in_ok-homes.ensures.opening;
  };
  order = c.in_ok-order.ensures.empty.0;
  room = sym (c.in_ok-order.ensures.visits c.args.input.now.homes.items);
  subscribers_count = sym c.in_ok-subscribers.subscribers.ok.0 ∙ c.in_ok-subscribers.ensures.count;
  callers_count = sym c.in_ok-callers.callers.ok.0 ∙ c.in_ok-callers.ensures.count;
  subscribers_room = c.in_ok-subscribers.ensures.room;
  callers_room = c.in_ok-callers.ensures.room;
  subscribers = c.in_ok-subscribers.ensures.each;
  callers = c.in_ok-callers.ensures.each;
  calls = c.in_ok-order.ensures.empty.1;
  total = sym c.in_ok-order.ensures.lines;
}
