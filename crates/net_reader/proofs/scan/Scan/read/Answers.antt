use Rattle.std.proofs.Common.{◌≡◌, ◌<◌, ◌-◌, length, get_or, take, drop, arith, length-take, length-drop}
use Rattle.net_reader.specs.Steps.{next}
use Rattle.net_reader.specs.Seen.{seen_scan}
use Rattle.net_reader.proofs.Feeding.{fed-faulty, fed-first, fed-none, lines-step}
use Rattle.net_reader.proofs.scan.Scan.read.Goals as goal

pub bytes-preserved : goal.bytes-preserved
bytes-preserved c =
    let rest = c.in_ok-rest.rest.now in
    let skipped = c.skip.new.self in
    let some : 0 < length rest = omega arith in
    let step : seen_scan c.step.new.self ≡ next (seen_scan skipped) (get_or rest 0 0) = c.in_ok-step.ensures.read in
    let rise = lines-step (seen_scan skipped) (get_or rest 0 0) in
    let fewer : length (take (length rest - 1) (drop 1 rest)) ≡ length rest - 1 =
    omega (arith, length-take (length rest - 1) (drop 1 rest), length-drop 1 rest) in
    record {
      rest = grind (arith, fed-first);
      well = c.in_ok-step.ensures.well;
      lines = grind arith;
    }

pub returns-else-is_none-clause-read : goal.returns-else-is_none-clause-read
returns-else-is_none-clause-read c = grind (arith, fed-faulty)

pub returns-after-bytes-clause-read : goal.returns-after-bytes-clause-read
returns-after-bytes-clause-read c = grind (arith, fed-none)
