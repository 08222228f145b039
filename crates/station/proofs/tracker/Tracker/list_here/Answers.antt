use Rattle.std.proofs.Common.{arith, ◌∙◌, ◌≡◌, ◌<◌, ◌+◌, Bool, ℕ}
use Rattle.entry_word.specs.Marks.{mark_in, says_here}
use Rattle.entry_word.specs.declared.visit.Key.TheVariants.{Presence}
use Rattle.directory.specs.Histories.{cell}
use Rattle.station.specs.Setup.{setting_in}
use Rattle.station.proofs.Listing.{AreBits, hit_bit, miss_bit}
use Rattle.station.proofs.tracker.Tracker.list_here.Goals as goal
use Rattle.station.proofs.tracker.Tracker.list_here.Goals.{then-says_here, else-says_here}

pub loop-sub-preserved : goal.loop-sub-preserved
loop-sub-preserved c =
    let was = c.loop-sub.invariant in
    let now = c.read_cell.ensures in
    let sub = c.loop-sub.sub in
    let small : sub < 64 = omega (arith, c.loop-sub-test.true, c.self.invariant.few_subs) in
    let f : ℕ → Bool = λ s. says_here (mark_in (cell (setting_in c.args.self.now.setup) c.args.seat.now.me.0.seen
    (Presence c.args.node s))) in
    let told : c.says_here.result ≡ f sub = grind arith in
    let bits : AreBits f c.if-says_here.who (sub + 1) =
    grind (arith, then-says_here, hit_bit, else-says_here, miss_bit) in record {
      table = now.table ∙ was.table;
      id = now.id ∙ was.id;
      same = now.same ∙ was.same;
      bits = bits;
    }
