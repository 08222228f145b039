-- A made workload as its contracts see it: the listing that it is.
-- Key law: `Workload::new` makes the listing of its load.
use Rattle.input_text.specs.Listing.{ListingValue}
use Rattle.make_load.specs.declared.workload.Workload.{Workload}

-- the listing that a workload is
abbrev pub seen_workload : Workload → ListingValue
seen_workload workload = record {
  format = workload.format;
  nodes = workload.nodes;
  k = workload.k;
  edges = workload.edges.items;
  homes = workload.homes.items;
  callers = workload.callers;
  calls = workload.calls.items;
  order = workload.order.items;
}
