-- What a node pays, one reader after another, is what the definition of its costs says.
use Rattle.std.proofs.Common.{◌≡◌, ℕ, suc, ◌+◌, ◌-◌, ◌*◌, ◌<◌, ◌≤◌, max, List, [], ◌∷◌, ◌++◌, map, refl, ap, sym, ◌∙◌, subst, append-nil, arith, ap₂, drop, length, ◌^◌, inl, inr}
use Rattle.std.specs.Prelude.{flat_map, slice_index, true}
use Rattle.std.proofs.lemmas.Bool.{cases_eq}
use Rattle.std.proofs.lemmas.List.{at_drop_more, get_or_append_left, length-append}
use Rattle.std.proofs.Math.Seq.{get_or-append_seam}
use Rattle.std.proofs.lemmas.Grind.{flat_map-append}
use Rattle.node_set.specs.SetLaws.{passing_takes}
use Rattle.directory.specs.Finds.{Reader}
use Rattle.directory.specs.Settings.{Setting}
use Rattle.directory.specs.Writes.{numbers_from}
use Rattle.region_plan.specs.Plan.{PlanData}
use Rattle.stretch_laws.specs.Costs.{readers_up_to}
use Rattle.busy_finds.specs.Levels.{cost_up_to, dearest, farthest}
use Rattle.own_stretch.specs.Tables.{AreCosts, bare, pay, pay_all, reader_at, readers_at, readers_under, unread}
use Rattle.own_stretch.specs.declared.costs.Paid.{Paid}

-- the most that is paid, by the readers left and by what was paid
dearest-paid : (setting : Setting) (node : ℕ) (paid : Paid) (readers : List Reader)
    → max paid.most (dearest setting node paid.passed readers)
    ≡ max (pay_all setting node paid readers).passed (pay_all setting node paid readers).most
dearest-paid setting node paid [] = omega arith
dearest-paid setting node paid (reader ∷ later) =
    omega (arith, dearest-paid setting node (pay setting node paid reader) later)

pub pay-append : (setting : Setting) (node : ℕ) (paid : Paid) (one other : List Reader)
    → pay_all setting node paid (one ++ other) ≡ pay_all setting node (pay_all setting node paid one) other
pay-append setting node paid [] other = refl
pay-append setting node paid (reader ∷ later) other = pay-append setting node (pay setting node paid reader) later other

-- one level more is read
pub readers-more : (setting : Setting) (node level : ℕ)
    → readers_under setting node (level + 1) ≡ readers_under setting node level ++ readers_at setting node level
readers-more setting node level =
    ap (flat_map (readers_at setting node)) (passing_takes (λ p. true) level refl)
    ∙ (flat_map-append (readers_at setting node) (numbers_from 0 level) (level ∷ [])
    ∙ ap (λ last. readers_under setting node level ++ last) (append-nil (readers_at setting node level)))

-- what is paid for the levels before and for this one
pub pay-more : (setting : Setting) (node level : ℕ) {before now : Paid}
    → before ≡ pay_all setting node unread (readers_under setting node level)
    → now ≡ pay_all setting node before (readers_at setting node level)
    → now ≡ pay_all setting node unread (readers_under setting node (level + 1))
pay-more setting node level before is =
    is ∙ (ap (λ p. pay_all setting node p (readers_at setting node level)) before
    ∙ (sym (pay-append setting node unread (readers_under setting node level) (readers_at setting node level))
    ∙ ap (pay_all setting node unread) (sym (readers-more setting node level))))

-- the cost up to a level
pub cost-is : (setting : Setting) (node level : ℕ) {now : Paid}
    → now ≡ pay_all setting node unread (readers_under setting node (level + 1))
    → max now.passed now.most ≡ cost_up_to setting node level
cost-is setting node level {now} is =
    let e : level + 1 ≡ suc level = omega arith in
    let there : now ≡ pay_all setting node unread (readers_up_to setting node level) =
    is ∙ ap (λ n. pay_all setting node unread (readers_under setting node n)) e in
    ap (λ (p : Paid). max p.passed p.most) there
    ∙ (sym (dearest-paid setting node unread (readers_up_to setting node level)) ∙ zero_max _)
  where
    zero_max : (n : ℕ) → max 0 n ≡ n
    zero_max n = omega arith

-- one reader more of a level
pub pay-step : (setting : Setting) (node level place : ℕ) (readers : List ℕ) (paid : Paid) {now goal : Paid}
    → place < length readers
    → now ≡ pay setting node paid (reader_at level (slice_index readers place))
    → pay_all setting node paid (map (reader_at level) (drop place readers)) ≡ goal
    → pay_all setting node now (map (reader_at level) (drop (place + 1) readers)) ≡ goal
pay-step setting node level place readers paid low is before =
    ap (λ p. pay_all setting node p (map (reader_at level) (drop (place + 1) readers))) is
    ∙ (sym (at_drop_more (λ left. pay_all setting node paid (map (reader_at level) left)) readers place 0 low) ∙ before)

-- the numbers of what is paid, for one reader more
pub pay-is : (setting : Setting) (node level cluster : ℕ) (paid : Paid) {weight far gap passed met most : ℕ}
    → 1 ≤ setting.threshold level → weight ≡ setting.inside level cluster node
    → far ≡ farthest setting (reader_at level cluster) → gap ≡ 2 * setting.threshold level - 2
    → passed ≡ paid.passed + 2 * weight → met ≡ passed + 2 * far + gap → most ≡ max paid.most met
    → ◌≡◌ {A = Paid} (record { passed = passed; most = most }) (pay setting node paid (reader_at level cluster))
pay-is setting node level cluster paid {weight} {far} {gap} {passed} {met} {most} some weighs away between on meets
    greater =
    ap₂ {A = ℕ} {B = ℕ} {C = Paid} (λ p m. record { passed = p; most = m })
    (omega (arith, on, weighs))
    (omega (arith, greater, meets, on, weighs, away, between, some))

-- the costs up to one level more
pub costs-more : (plan : PlanData) (node level : ℕ) (costs : List ℕ) {cost : ℕ} → AreCosts plan node level costs
    → cost ≡ cost_up_to (bare plan) node level → cost ≤ 2 ^ 52
    → AreCosts plan node (level + 1) (costs ++ cost ∷ [])
costs-more plan node level costs {cost} before is few = record {
  count_is = omega (arith, length-append costs (cost ∷ []), before.count_is);
  each = λ other low. elim (cases_eq other level) [
    | inl last ↦
        subst (λ n. slice_index (costs ++ cost ∷ []) n ≡ cost_up_to (bare plan) node n) (sym last) (at_seam ∙ is)
    | inr apart ↦ front other (omega (arith, low, apart))
        ∙ before.each other (omega (arith, low, apart))
  ];
  small = λ other low. elim (cases_eq other level) [
    | inl last ↦
        subst (λ n. slice_index (costs ++ cost ∷ []) n ≤ 2 ^ 52) (sym last) (omega (arith, at_seam, few))
    | inr apart ↦ omega (
      arith,
      front other (omega (arith, low, apart)),
      before.small other (omega (arith, low, apart)),
    )
  ];
}
  where
    at_seam : slice_index (costs ++ cost ∷ []) level ≡ cost
    at_seam =
        ap (λ n. slice_index (costs ++ cost ∷ []) n) (sym before.count_is) ∙ get_or-append_seam {A = ℕ} costs cost [] 0

    front : (other : ℕ) → other < level → slice_index (costs ++ cost ∷ []) other ≡ slice_index costs other
    front other low = get_or_append_left {A = ℕ} costs (cost ∷ []) 0 other (omega (arith, low, before.count_is))
