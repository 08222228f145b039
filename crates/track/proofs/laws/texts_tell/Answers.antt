use Rattle.track.proofs.laws.texts_tell.Goals as goal

pub returns : goal.returns
returns c = record {
  bounding = λ contents text told. told.bounding;
  sparse = λ contents text told. told.sparse;
  mean_reach = λ contents text told. told.reach_is;
  mean_bounding = λ contents text told. told.bounding;
  mean_small_sum = λ contents text told. told.small_sum;
  census_by_scripts = λ contents text told. told.by_scripts;
  census_right = λ contents text told. told.right;
  costs_within = λ contents text told. told.within;
  json_report = λ contents text told. told.report;
  run_sound = λ contents text told. told.sound;
  run_report = λ contents text told. (told.order, told.report);
  replay = λ contents text told. told;
  mean_replay = λ contents text told. told;
  census = λ contents text told. told;
  costs = λ contents text told. told;
  replay_json = λ contents text told. told;
  cover = λ contents text told. told;
  mean_cover = λ contents text told. told;
  run = λ contents text told. told;
}
