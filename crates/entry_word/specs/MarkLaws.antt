-- Short laws of marks, for the proofs of the crates above.
-- Key law: `read-mark` (a mark whose parts fit is read back from its word).
use Rattle.std.proofs.Common.{◌≡◌, ap}
use Rattle.std.specs.Prelude.{unwrap_or}
use Rattle.entry_word.specs.Marks.{IsSmallMark, MarksUnpack, mark_in, mark_word}
use Rattle.entry_word.specs.declared.mark.PresenceMark.{PresenceMark}
use Rattle.entry_word.specs.declared.mark.PresenceMark.TheVariants.{Empty}

-- a mark whose parts fit is read back from its word
pub read-mark : MarksUnpack → (mark : PresenceMark) → IsSmallMark mark
    → mark_in (mark_word mark) ≡ mark
read-mark unpack mark small = ap (λ o. unwrap_or o Empty) (unpack mark small)
