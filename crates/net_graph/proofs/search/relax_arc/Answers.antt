use Rattle.std.proofs.Common.{rules, arith, ◌≡◌, ◌+◌, ◌≤◌, ◌∷◌, true}
use Rattle.std.proofs.lemmas.Bool.Decides.{nat_tests}
use Rattle.std.specs.BinaryHeap.{heap_items}
use Rattle.std.specs.Prelude.{IsPermutation}
use Rattle.net_graph.specs.Queue.{make_waiting}
use Rattle.net_graph.specs.Search.{IsLighter}
use Rattle.net_graph.specs.Trees.{at_node}
use Rattle.net_graph.specs.Walks.{among}
use Rattle.net_graph.proofs.Relaxing.{relaxed_to}
use Rattle.net_graph.proofs.search.relax_arc.Goals as goal

pub returns-in_ok-push : goal.returns-in_ok-push
returns-in_ok-push c =
    let within : c.args.weight + c.from.result ≤ c.args.radius =
    grind (arith, nat_tests, c.if-through-radius.true) in
    let waits : among c.args.unsettled.now c.args.arc.target ≡ true = search rules in
    let lighter : IsLighter (c.args.weight + c.from.result) (at_node c.args.weights.now c.args.arc.target) =
    search rules in
    let pushed : IsPermutation (make_waiting (c.args.weight + c.from.result) c.args.arc.target
    ∷ heap_items c.args.queue.now.heap) (heap_items c.push.new.self.heap) = search rules in
    rw c.from.ensures (relaxed_to c.args.arc c.args.weight c.args.radius c.args.unsettled.now c.args.weights.now
    (heap_items c.args.queue.now.heap) (heap_items c.push.new.self.heap) (rw c.from.ensures at within) waits
    c.requires.count (rw c.from.ensures at lighter) (rw c.from.ensures at pushed))
