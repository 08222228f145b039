use Rattle.std.proofs.Common.{◌≡◌, ◌∙◌, [], arith, ap, subst, sym, ℕ, ◌<◌}
use Rattle.handset.specs.Condition.{HandsetData, GoesWith, IsMoveStage}
use Rattle.handset.specs.StepWrites.{due, due_at}
use Rattle.region_plan.specs.Settings.{setting_of}
use Rattle.machine.proofs.Rests.{on-some}
use Rattle.machine.proofs.ahead.next_ahead.Goals as goal
use Rattle.handset.specs.StageLaws.{write-sub}
use Rattle.std.specs.Prelude.{Some, option_map}
use Rattle.entry_word.specs.declared.visit.Act.TheVariants.{Put}
use Rattle.entry_word.specs.declared.visit.Key.{Key}
use Rattle.entry_word.specs.declared.visit.Visit.{Visit}
use Rattle.directory.specs.Keys.{key_sub}
use Rattle.directory.specs.Writes.{Write, visit_of, write_key, write_word}
use Rattle.region_plan.specs.Cells.{IsCell}
use Rattle.visit_log.specs.Cells.{HasHomes}
use Rattle.region_plan.specs.Plan.{PlanData, nodes_of}
use Rattle.handset.specs.declared.stage.Stage.{Stage}
use Rattle.handset.specs.declared.stage.Stage.TheVariants.{Resting}
use Rattle.directory.specs.StepLaws.{key_sub-of_write}

-- the cell of a write that is the next one
cell-of : {plan : PlanData} {subs : ℕ} (sub : ℕ) (write : Write) {visit : Visit} {key : Key} {word : ℕ}
    → Some (visit_of sub write) ≡ Some visit → visit.act ≡ Put key word → IsCell plan subs (write_key sub write)
    → IsCell plan subs key × (key_sub key ≡ sub)
cell-of {plan} {subs} sub write {visit} {key} {word} same act cell =
    let its : visit_of sub write ≡ visit = cc in
    let put : Put (write_key sub write) (write_word write) ≡ Put key word = ap (λ (v : Visit). v.act) its ∙ act in
    let here : write_key sub write ≡ key = cc in
    subst (λ k. IsCell plan subs k × (key_sub k ≡ sub)) here (cell, key_sub-of_write sub write)

cell-at : {plan : PlanData} {handset : HandsetData} (subs : ℕ) {visit : Visit} {key : Key} {word : ℕ}
    → HasHomes plan → GoesWith plan handset → handset.sub < subs → visit.act ≡ Put key word → (stage : Stage)
    → IsMoveStage (nodes_of plan) handset.last stage → option_map (visit_of handset.sub)
    (due_at (setting_of plan []) handset stage) ≡ Some visit → IsCell plan subs key × (key_sub key ≡ handset.sub)
cell-at subs homes goes known act Resting its same = absurd (let e : ⊥ = cc in e)
cell-at subs homes goes known act stage its same = grind (arith, cell-of)

cell-due : {plan : PlanData} {handset : HandsetData} (subs : ℕ) {visit : Visit} {key : Key} {word : ℕ}
    → HasHomes plan → GoesWith plan handset → handset.sub < subs → due (setting_of plan []) handset ≡ Some visit
    → visit.act ≡ Put key word → IsCell plan subs key × (key_sub key ≡ handset.sub)
cell-due {handset} subs homes goes known is act = cell-at subs homes goes known act handset.stage goes.stage is

pub returns-clause-next : goal.returns-clause-next
returns-clause-next c =
    let plan = c.args.plan.now in
    let old = c.args.handset.now in
    let visit = c.in-Some.visit in
    let is : due (setting_of plan []) old ≡ Some visit = sym c.write.ensures.exact ∙ c.in-Some.is in
    let cell = cell-due c.args.cells.now.subs c.plan_is_sound.ensures.matched.homes c.requires.goes c.requires.known is
    c.in-Put.is in
    record {
      visit = visit;
      key = c.in-Put.key;
      act = c.in-Put.is;
      commits = c.commits-commits.ensures.commit plan visit (omega (arith, c.plan_is_sound.ensures.sound.metric.few))
          c.requires.goes is;
      cell = record { cell = cell.0; owner = cell.1; place = c.place.ensures };
      next = λ starts steps made stands. sym (c.write.ensures.visit starts steps made stands) ∙ c.in-Some.is;
      stands = on-some _ c.in-Some.is c.write.ensures.stands;
      goes = c.write.ensures.goes;
      its = ap (λ (h : HandsetData). h.sub) c.write.ensures.after
          ∙ write-sub (setting_of plan []) old old.stage;
    }
