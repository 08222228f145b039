-- What a find pays beyond the reading, in each phase of a move.
use Rattle.std.proofs.Common.{◌≡◌, ◌⊎◌, inl, inr, ℕ, zero, suc, ◌+◌, ◌*◌, ◌<◌, ◌≤◌, ◌^◌, true, List, [], ◌∷◌, Some, length, map, refl, ap, ◌∙◌, subst, arith}
use Rattle.std.specs.Prelude.{flat_map, sum_by}
use Rattle.std.proofs.Math.Nat.{mul-le-mul_right}
use Rattle.std.proofs.lemmas.List.Sums.{sum_by-append, sum_by-cons}
use Rattle.node_set.specs.Ascending.{has}
use Rattle.entry_word.specs.declared.address.Address.{Address}
use Rattle.directory.specs.Settings.{Setting}
use Rattle.directory.specs.Histories.{History}
use Rattle.directory.specs.Legal.{IsLegal}
use Rattle.directory.specs.Finds.{FindCall, Reader, way_in}
use Rattle.directory.specs.Standing.{number, standing}
use Rattle.directory.specs.Writes.{numbers_from}
use Rattle.trail_laws.specs.Phases.{AddressesLeadByPhase, IsShortByPhase, RestIsSettled}
use Rattle.trail_laws.specs.Trail.{EntriesTell, EntryTells}
use Rattle.trail_laws.specs.Ways.{LevelsStayNear, PassagesAreOpen, StandsInside}
use Rattle.stretch_laws.specs.Costs.{AfterConfirm, AtRest, ClimbsEndEarly, Costs, CurrentAfterConfirm, InPassage, IsMet, NewBeforeCommit, OldBeforeCommit, ReadingIsBounded}
use Rattle.stretch_laws.specs.Tracking.{IsTracking, radius}
use Rattle.stretch_laws.proofs.Climbs.{one-more, tail-has}
use Rattle.stretch_laws.proofs.Heights.{Ends, ends, scaled_twice}
use Rattle.node_set.specs.SetLaws.{has_head}

-- what is used of the laws
pub record CostUsed : Type 0 where
  pub entries : EntriesTell
  pub ways : AddressesLeadByPhase
  pub inside : StandsInside

-- how far an address is from the leader that has it, and from where the subscriber stands
pub record IsReached (setting : Setting) (width : ℕ) (sub : ℕ) (history : History) (from level cluster : ℕ)
    (address : Address) : Type 0 where
  pub from_leader : setting.distance (setting.leader level cluster) address.node ≤ width * radius level
  pub to_standing : setting.distance address.node (standing setting sub history)
      ≤ 2 * (width * radius level) + setting.distance from (standing setting sub history)

pub reached : EntriesTell → StandsInside → {setting : Setting} {width most_readers sub : ℕ} {history : History}
    {from level cluster : ℕ} {address : Address}
    → IsMet setting width most_readers sub history from level cluster address
    → IsReached setting width sub history from level cluster address
reached entries stands {setting} {width} {sub = sub} {history} {from} {level} {cluster} {address} met = record {
  from_leader = omega (arith, far, wide);
  to_standing = grind arith;
}
  where
    tells : EntryTells setting sub history level cluster (Some address)
    tells = subst (EntryTells setting sub history level cluster) met.held
        (entries setting sub history met.few met.legal level cluster met.low)

    its_reads : has cluster (setting.readers level address.node) ≡ true
    its_reads = ap (λ n. has n (setting.readers level address.node)) tells.1
        ∙ met.tracking.read level address.node address.node met.low tells.0 tells.0
        (omega (arith, met.tracking.metric.none address.node tells.0))

    leads : setting.leader level cluster < setting.nodes
    leads = met.tracking.led level cluster from met.low met.inside met.read

    far : setting.distance (setting.leader level cluster) address.node ≤ setting.inside level cluster address.node
    far = met.tracking.far level cluster address.node met.low tells.0 its_reads

    wide : setting.inside level cluster address.node ≤ width * radius level
    wide = met.tracking.wide level cluster address.node met.low tells.0 its_reads

-- where the way is short enough in its phase, the cost is within a bound
costs : CostUsed → {setting : Setting} {width most_readers sub : ℕ} {history : History} {from level cluster : ℕ}
    {address : Address} (most : ℕ) → IsMet setting width most_readers sub history from level cluster address
    → ((way : ℕ) → IsReached setting width sub history from level cluster address
    → IsShortByPhase setting sub history level address way
    → setting.distance (setting.leader level cluster) address.node + way ≤ most)
    → Costs setting sub history level cluster address most
costs used {setting} {sub = sub} {history} {level = level} {cluster} {address} most met short known knows =
    let led = used.ways setting sub history met.few met.tracking.metric met.tracking.gathers met.legal level cluster
    address known met.low met.held knows in
    (led.0, led.1, led.2, led.3, short led.1 (reached used.entries used.inside met) led.4)

pub old-before : CostUsed → OldBeforeCommit
old-before used setting width most_readers sub history from level cluster address met before old =
    grind (arith, costs)

pub new-before : CostUsed → NewBeforeCommit
new-before used setting width most_readers sub history from level cluster address met before new =
    costs used _ met (λ way far is. omega (arith, is.before_new before new, far.from_leader, far.to_standing))

pub in-passage : CostUsed → PassagesAreOpen → InPassage
in-passage used opens setting width most_readers sub history from level cluster address left met passing =
    costs used _ met (λ way far is. omega (
      arith,
      is.passing left passing,
      far.from_leader,
      met.tracking.halves level met.low,
      opens setting sub history met.few met.legal (standing setting sub history) (number sub history) left
          (used.inside setting sub history met.few met.legal) passing refl,
    ))

pub after-confirm : CostUsed → AfterConfirm
after-confirm used setting width most_readers sub history from level cluster address met settled =
    grind (arith, costs)

pub current-after : CostUsed → CurrentAfterConfirm
current-after used setting width most_readers sub history from level cluster address met settled current =
    grind (arith, costs)

pub at-rest : CostUsed → RestIsSettled → AtRest
at-rest used rests setting width most_readers sub history from level cluster address met rest =
    grind (arith, current-after)

-- ---- the climb
-- where it ends a reader has an address
pub met-at : LevelsStayNear → StandsInside → {setting : Setting} {width most_readers : ℕ} (sub : ℕ) (history : History)
    (from : ℕ) → setting.nodes ≤ 2 ^ 16 → IsTracking setting width most_readers → from < setting.nodes
    → IsLegal setting sub history → (end : Ends setting (setting.distance from (standing setting sub history)))
    → (cluster : ℕ) × (address : Address)
    × IsMet setting width most_readers sub history from end.level cluster address
met-at levels stands {setting} sub history from few tracking inside legal end =
    let its = levels setting sub history few tracking.metric tracking.gathers legal end.level end.low in (
      setting.home end.level its.0,
      its.1,
      record {
        few = few;
        tracking = tracking;
        legal = legal;
        inside = inside;
        low = end.low;
        read = at_reach its.0 its.2 its.3 end.reaches;
        held = its.4;
      },
    )
  where
    there : standing setting sub history < setting.nodes
    there = stands setting sub history few legal

    at_reach : (node : ℕ) → node < setting.nodes
        → setting.distance node (standing setting sub history) < setting.threshold end.level
        → (end.level ≡ setting.top)
        ⊎ (setting.distance from (standing setting sub history) + setting.threshold end.level ≤ radius end.level + 1)
        → has (setting.home end.level node) (setting.readers end.level from) ≡ true
    at_reach node at_node near (inl is_top) =
        ap (λ n. has (setting.home n node) (setting.readers n from)) is_top ∙ tracking.whole node from at_node inside
    at_reach node at_node near (inr reaches) = tracking.read end.level node from end.low at_node inside
        (omega (
          arith,
          near,
          reaches,
          tracking.metric.detour node (standing setting sub history) from at_node there inside,
          tracking.metric.both_ways (standing setting sub history) from there inside,
        ))

pub ends-early : LevelsStayNear → StandsInside → ClimbsEndEarly
ends-early levels stands setting width most_readers sub history from few tracking inside legal other =
    let end = ends setting (setting.distance from (standing setting sub history)) tracking.halves
    (tracking.apart from (standing setting sub history) inside (stands setting sub history few legal) other) in
    let met = met-at levels stands sub history from few tracking inside legal end in
    (end.level, met.0, met.1, end.small, met.2)

-- the reading of a level
row-weight : (setting : Setting) (call : FindCall) (level r : ℕ) (cs : List ℕ)
    → ((c : ℕ) → has c cs ≡ true → setting.inside level c call.from ≤ r)
    → sum_by (λ (reader : Reader). 2 * way_in setting call reader)
    (map (λ c. record { level = level; cluster = c }) cs) ≤ 2 * (length cs * r)
row-weight setting call level r [] near = omega arith
row-weight setting call level r (c ∷ cs) near = omega (
  arith,
  sum_by-cons (λ (reader : Reader). 2 * way_in setting call reader) (record { level = level; cluster = c })
      (map (λ x. record { level = level; cluster = x }) cs),
  row-weight setting call level r cs (λ x h. near x (tail-has x c cs h)),
  near c (has_head c cs),
  one-more (length cs) r,
)

rows-weight : (setting : Setting) (width readers : ℕ) (call : FindCall) → IsTracking setting width readers
    → call.from < setting.nodes → (count level : ℕ) → count + level ≤ suc setting.top
    → sum_by (λ (reader : Reader). 2 * way_in setting call reader)
    (flat_map (λ i. map (λ c. record { level = i; cluster = c }) (setting.readers i call.from))
    (numbers_from level count))
    + 2 * (readers * (width * 2 ^ level)) ≤ 2 * (readers * (width * 2 ^ (count + level)))
rows-weight setting width readers call tracking inside zero level high =
    let e : 0 + level ≡ level = omega arith in rw e (omega arith)
rows-weight setting width readers call tracking inside (suc count) level high = omega (
  arith,
  sum_by-append (λ (reader : Reader). 2 * way_in setting call reader)
      (map (λ c. record { level = level; cluster = c }) (setting.readers level call.from))
      (flat_map (λ i. map (λ c. record { level = i; cluster = c }) (setting.readers i call.from))
      (numbers_from (suc level) count)),
  row-weight setting call level (width * 2 ^ level) (setting.readers level call.from)
      (λ c h. tracking.wide level c call.from (omega (arith, high)) inside h),
  mul-le-mul_right (width * 2 ^ level) (tracking.few level call.from (omega (arith, high)) inside),
  rows-weight setting width readers call tracking inside count (suc level) (omega (arith, high)),
  ap (λ n. readers * (width * 2 ^ n)) (let e : count + suc level ≡ suc count + level = omega arith in e),
  scaled_twice readers width level,
)

pub reading-bounded : ReadingIsBounded
reading-bounded setting width readers call last tracking inside low = omega (
  arith,
  rows-weight setting width readers call tracking inside (suc last) 0 (omega (arith, low)),
  ap (λ n. readers * (width * 2 ^ n)) (let e : suc last + 0 ≡ suc last = omega arith in e),
  scaled_twice readers width last,
)
