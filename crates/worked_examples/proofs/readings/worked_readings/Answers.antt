use Rattle.std.proofs.Common.{◌^◌, arith}
use Rattle.std.specs.Prelude.{map}
use Rattle.report_check.specs.Forms.{slot_told}
use Rattle.worked_examples.proofs.readings.worked_readings.Goals as goal

pub returns-clause-word : goal.returns-clause-word
returns-clause-word c = λ law word text rest read. (law word text rest).0 read

pub returns-clause-number : goal.returns-clause-number
returns-clause-number c = λ law n text rest read.
    let its = (law (2 ^ 63) n text rest (omega arith)).0 read in (its.0, its.2)

pub returns-clause-call : goal.returns-clause-call
returns-clause-call c = λ law text rest call read.
    ((law (record { nodes = 1024; levels = 31 }) (slot_told call) text rest call (omega arith) (omega arith)).0 read).2

pub returns-clause-report : goal.returns-clause-report
returns-clause-report c = λ law text outcome read.
    (law (record { nodes = 1024; levels = 31 }) (map slot_told outcome.calls) text outcome (omega arith) (omega arith) read).1
