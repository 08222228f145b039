-- What one reader more costs is small.
use Rattle.std.proofs.Common.{◌≡◌, ℕ, ◌^◌, ◌<◌, ◌≤◌, List, length, ap, arith, slice_index}
use Rattle.region_plan.specs.Kept.{IsKept}
use Rattle.region_plan.specs.Matched.{IsMatched, IsWithinReach}
use Rattle.region_plan.specs.Plan.{clusters_of, inside, levels_of, nodes_of, PlanData, readers}
use Rattle.region_plan.specs.ReaderLaws.{reader-held, readers-few}
use Rattle.own_stretch.specs.Tables.{AreFarthest}
use Rattle.own_stretch.proofs.Small.{farthest-small, reader-light}

-- a reader of a node at its place
pub record IsLight (plan : PlanData) (level node place : ℕ) (far its : List ℕ) : Type 0 where
  pub few : place < 1024
  pub there : slice_index its place < clusters_of plan level
  pub known : slice_index its place < length far
  pub light : inside plan level (slice_index (readers plan level node) place) node ≤ 2 ^ 35
  pub near : slice_index far (slice_index its place) ≤ 2 ^ 30

pub all-light : {plan : PlanData} {level node place : ℕ} {far its : List ℕ} → IsKept plan → IsMatched plan
    → IsWithinReach plan → level < levels_of plan → node < nodes_of plan → AreFarthest plan level far
    → its ≡ readers plan level node → place < length its → IsLight plan level node place far its
all-light {plan} {level} {node} {place} {far} {its} kept matched reached low high farthest is here =
    let below : place < length (readers plan level node) = omega (arith, here, ap (length {A = ℕ}) is) in
    let there : slice_index its place < clusters_of plan level = omega (
      arith,
      (reader-held plan level node place matched low high below).1,
      ap (λ rs. slice_index rs place) is,
    ) in record {
      few = omega (arith, below, readers-few plan level node matched kept low high);
      there = there;
      known = omega (arith, there, farthest.count);
      light = reader-light plan level node place kept matched reached low high below;
      near = omega (
        arith,
        farthest.each (slice_index its place) there,
        farthest-small plan level (slice_index its place) kept matched low there,
      );
    }
