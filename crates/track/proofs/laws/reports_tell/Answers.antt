use Rattle.track.proofs.laws.reports_tell.Goals as goal

pub returns : goal.returns
returns c = record {
  right = λ contents text report. report.over.right;
  rising = λ contents text report. report.over.rising;
  in_turn = λ contents text report. report.over.in_turn;
  near = λ contents text report. report.over.near;
  priced = λ contents text report. report.over.priced;
  sound = λ contents text report. report.sound;
}
