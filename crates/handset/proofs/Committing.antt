-- The write that commits a move is that of the stage Committing.
use Rattle.std.proofs.Common.{◌≡◌, ◌≤◌, ◌^◌, [], arith}
use Rattle.std.specs.Prelude.{Some}
use Rattle.entry_word.specs.Marks.{MarksUnpack}
use Rattle.entry_word.specs.MarkLaws.{read-mark}
use Rattle.entry_word.specs.declared.visit.Visit.{Visit}
use Rattle.directory.specs.ListLaws.{same_some}
use Rattle.region_plan.specs.Plan.{PlanData, nodes_of}
use Rattle.region_plan.specs.Settings.{setting_of}
use Rattle.handset.specs.Beginning.{is_committing}
use Rattle.handset.specs.Condition.{GoesWith, HandsetData}
use Rattle.handset.specs.StepWrites.{due}
use Rattle.handset.specs.Stands.{is_commit}

pub commits-is : MarksUnpack → {plan : PlanData} {handset : HandsetData} {visit : Visit} → GoesWith plan handset
    → nodes_of plan ≤ 2 ^ 16 → due (setting_of plan []) handset ≡ Some visit
    → is_committing handset.stage ≡ is_commit visit.act
commits-is unpack {plan} {handset} {visit} goes small wants = grind (arith, same_some, read-mark)
