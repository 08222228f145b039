use Rattle.std.proofs.Common.{◌≡◌, ◌<◌, ◌≤◌, ◌+◌, ◌-◌, ℕ, List, true, false, not, suc, [], Some, ap, subst, sym, arith, refl, ◌∙◌, get_or, add-one}
use Rattle.std.specs.Prelude.{option_map, slice_index}
use Rattle.std.proofs.lemmas.Bool.{eq-eqb, ne_eqb}
use Rattle.handset.specs.Entries.{EntryWrite, entry_write, erasure_to}
use Rattle.handset.specs.Condition.{GoesWith, HandsetData}
use Rattle.handset.specs.NextEntries.{IsNextEntry, erasures_from}
use Rattle.handset.specs.StepWrites.{first_with, is_old}
use Rattle.handset.specs.declared.entries.Erasures.{Erasures}
use Rattle.handset.specs.declared.entries.EntryStage.TheVariants as entries
use Rattle.region_plan.specs.Plan.{PlanData, home, levels_of, nodes_of}
use Rattle.region_plan.specs.Settings.{setting_of}
use Rattle.visit_log.specs.Homes.{home_place}
use Rattle.machine.specs.Owed.{IsAhead}
use Rattle.machine.proofs.Owing.{at-stage, entry-ahead, first-found, first-passed, ahead-more, ahead-none}
use Rattle.machine.proofs.ahead.push_erasures.Goals as goal
use Rattle.machine.proofs.ahead.push_erasures.Goals.{then-old-new, else-old-new}

-- a level that is looked at is one of the plan's
low-above : {plan : PlanData} {handset : HandsetData} {erasures : Erasures} (above : ℕ) → GoesWith plan handset
    → erasures ≡ erasures_from handset erasures.level → above < erasures.last + 1 → above < levels_of plan
low-above above goes they below = omega (arith, goes.renewed, below, ap (λ (e : Erasures). e.last) they)

-- the node of an address is one of the plan's
node-inside : {plan : PlanData} {handset : HandsetData} {addresses : List ℕ} (above : ℕ) → GoesWith plan handset
    → addresses ≡ handset.addresses → above < levels_of plan → get_or addresses above 0 < nodes_of plan
node-inside {plan} above goes same low =
    subst (λ (xs : List ℕ). slice_index xs above < nodes_of plan) (sym same) (goes.inside above low)

pub bounds-of-above : goal.bounds-of-above
bounds-of-above c =
    let low = low-above c.loop-above.above c.requires.goes c.requires.they c.loop-above-test.true in
    rw (c.of-in-loop-above.ensures.count c.args.plan.now c.requires.homes
    (node-inside c.loop-above.above c.requires.goes c.addresses-addresses.ensures low)) low

pub bounds-new-above : goal.bounds-new-above
bounds-new-above c =
    rw (c.of-new.ensures.count c.args.plan.now c.requires.homes
    (rw (ap (λ (e : Erasures). e.node) c.requires.they) c.requires.goes.to))
    (low-above c.loop-above.above c.requires.goes c.requires.they c.loop-above-test.true)

pub loop-above-init : goal.loop-above-init
loop-above-init c = grind (arith, at-stage, node-inside, add-one, ahead-none)

pub loop-above-preserved : goal.loop-above-preserved
loop-above-preserved c =
    let plan = c.args.plan.now in
    let handset = c.args.handset.now in
    let at : ℕ = c.loop-above.at in
    let above : ℕ = c.loop-above.above in
    let below : above ≤ handset.last.renewed =
    omega (arith, c.loop-above-test.true, ap (λ (e : Erasures). e.last) c.requires.they) in
    let high = low-above above c.requires.goes c.requires.they c.loop-above-test.true in
    let inside = node-inside above c.requires.goes c.addresses-addresses.ensures high in
    let here : get_or c.of-in-loop-above.result.now above 0
    ≡ home_place plan (slice_index handset.addresses above) above =
    c.of-in-loop-above.ensures.places plan c.requires.homes inside above high
    ∙ ap (λ (xs : List ℕ). home_place plan (slice_index xs above) above) c.addresses-addresses.ensures in
    let node : c.args.erasures.node ≡ handset.last.to = ap (λ (e : Erasures). e.node) c.requires.they in
    let there : get_or c.of-new.result.now above 0 ≡ home_place plan handset.last.to above =
    c.of-new.ensures.places plan c.requires.homes
    (subst (λ n. n < nodes_of plan) (sym node) c.requires.goes.to) above high
    ∙ ap (λ n. home_place plan n above) node in
    elim c.if-old-new.branch [
      | then-old-new w ↦
          let old : is_old (setting_of plan []) handset above ≡ true =
          ap not (ne_eqb (home plan above (slice_index handset.addresses above)) (home plan above handset.last.to)
          (λ same. w.if-old-new.true (omega (arith, here, there, same)))) in
          let write : EntryWrite = erasure_to (setting_of plan []) handset at above in
          let is : entry_write (setting_of plan []) handset (entries.Erasing at) ≡ Some write =
          ap (option_map (erasure_to (setting_of plan []) handset at)) (c.loop-above.invariant.next
          ∙ first-found (is_old (setting_of plan []) handset) above handset.last.renewed below old) in
          let its : IsNextEntry plan handset (entries.Erasing at) write =
          c.entry_writes_are_next.ensures plan handset (entries.Erasing at) write c.plan_is_sound.ensures.sound
          c.loop-above.invariant.goes is in
          let low : at < levels_of plan =
          omega (arith, c.loop-above.invariant.low, below, c.requires.goes.renewed) in
          rw (w.at-is, w.ahead-is, w.place-is) (record {
            low = omega arith;
            goes = its.goes;
            place = here;
            next = ap (λ n. first_with (is_old (setting_of plan []) handset) n (suc handset.last.renewed - n))
                (sym (add-one above));
            ahead = λ subs known. ahead-more w.push_reserved.new.self (c.loop-above.invariant.ahead subs known)
                (entry-ahead (slice_index handset.addresses at) c.plan_is_sound.ensures.matched its known low
                (c.requires.goes.inside at low) refl c.loop-above.invariant.place c.pack_address-word.ensures)
                w.push_reserved.ensures.items w.push_reserved.ensures.capacity;
          })
      | else-old-new w ↦
          let young : is_old (setting_of plan []) handset above ≡ false =
          ap not (eq-eqb (home plan above (slice_index handset.addresses above)) (home plan above handset.last.to)
          (omega (arith, here, there, w.if-old-new.false))) in
          rw (w.at-is, w.ahead-is, w.place-is) (record {
            low = omega (arith, c.loop-above.invariant.low);
            goes = c.loop-above.invariant.goes;
            place = c.loop-above.invariant.place;
            next = c.loop-above.invariant.next
                ∙ first-passed (is_old (setting_of plan []) handset) above handset.last.renewed below young;
            ahead = c.loop-above.invariant.ahead;
          })
    ]

pub returns : goal.returns
returns c = λ subs known.
    subst (λ h. IsAhead c.args.plan.now subs c.args.handset.now h c.args.ahead.now c.loop-above.ahead)
    (sym c.go_to.ensures) (c.loop-above.invariant.ahead subs known)
