use Rattle.std.proofs.Common.{◌≡◌, ◌++◌, length}
use Rattle.std.specs.List.{concat}
use Rattle.input_text.specs.Listing.{listing_text}
use Rattle.input_text.specs.Written.{seen_listing}
use Rattle.input_text.proofs.lines.listing_text.Given as goal

abbrev pub invariant-lines : goal.invariant-lines
invariant-lines l = l.text.items ++ concat l.lines.left ≡ listing_text (seen_listing l.fn.listing)

abbrev pub decreases-lines : goal.decreases-lines
decreases-lines l = length l.lines.left
