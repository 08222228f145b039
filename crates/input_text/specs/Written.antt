-- What a writer of a listing's lines keeps, and which lines it has still to write.
-- Key law: `InputLines::next_line` (its line is the first of those that are left).
use Rattle.std.specs.Prelude.{List, ℕ}
use Rattle.input_text.specs.declared.listing.Listing.{Listing}
use Rattle.input_text.specs.declared.lines.NextLine.{NextLine}
use Rattle.input_text.specs.declared.lines.NextLine.TheVariants as next_lines
use Rattle.input_text.specs.Listing.{ListingValue, call_lines, input_lines, lines_from_k, lines_from_nodes, network_lines}

-- the listing that borrowed parts are
abbrev pub seen_listing : Listing → ListingValue
seen_listing listing = record {
  format = listing.format;
  nodes = listing.nodes;
  k = listing.k;
  edges = listing.edges.now;
  homes = listing.homes.now;
  callers = listing.callers;
  calls = listing.calls.now;
  order = listing.order.now;
}

-- the lines from the next one on, of what is left of the listing
abbrev pub lines_left : NextLine → ListingValue → List (List ℕ)
lines_left next_lines.Format listing = input_lines listing
lines_left next_lines.Nodes listing = lines_from_nodes listing
lines_left next_lines.K listing = lines_from_k listing
lines_left next_lines.Network listing = network_lines listing
lines_left next_lines.Calls listing = call_lines listing

-- the lines of a listing: the one that was made last, and those that are left
pub record ListingState : Type 0 where
  pub line : List ℕ
  pub left : List (List ℕ)
