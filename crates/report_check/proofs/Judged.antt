-- What a verdict computes with: an example that names `judged` opens all of it.
use Rattle.std.specs.Fmt.{digits}
use Rattle.report_check.specs.Parts.{first_from, meets_from}
use Rattle.report_check.specs.Reading.{calls_in, digits_from, numbers_in, orders_in, word_in}
use Rattle.report_check.specs.Slots.{slots_from, slots_in}
use Rattle.report_check.specs.Verdicts.{verdict_from}

unfoldable pub judged : Unit {0}
unfolding digits first_from meets_from calls_in digits_from numbers_in orders_in word_in slots_from slots_in
    verdict_from
judged = tt
