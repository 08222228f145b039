use Rattle.std.proofs.Common.{rules, ◌≡◌, ◌<◌, ◌^◌, length, arith}
use Rattle.station.specs.Opening.{setup_of}
use Rattle.station.proofs.Forking.{opens}
use Rattle.station.proofs.Fresh.{matched_lies, start_inside}
use Rattle.station.proofs.tracker.open_table.Goals as goal

pub of_words-requires : goal.of_words-requires
of_words-requires c = grind (arith, matched_lies, start_inside, opens)

pub returns : goal.returns
returns c =
    let setup = setup_of c.args.plan.now c.args.homes.now c.args.actors in
    let e : c.new-about.result ≡ setup = search rules in
    let words = c.deref-2.ensures.value in
    let size = (c.in_ok-words.ensures.opening c.args.actors).size in
    let few : length c.in_ok-words.words.items < 2 ^ 64 = search rules in
    record {
      opened = grind arith;
    }
