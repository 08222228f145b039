use Rattle.std.proofs.Common.{zero, suc, [], ◌∷◌, refl, arith}
use Rattle.std.proofs.lemmas.Bool.{false≢true}
use Rattle.node_set.specs.Balls.{AreCentred, AreInside, growth, home_of, least, union_of}
use Rattle.node_set.specs.SetLaws.{below-has}
use Rattle.mean_cover.specs.Covering.{is_last, mean_cluster, mean_clusters}
use Rattle.mean_cover.specs.Examples.{line_balls}
use Rattle.mean_cover.proofs.examples.example_cover.Goals as goal

pub returns-clause-clusters : goal.returns-clause-clusters
unfolding mean_clusters mean_cluster is_last least growth union_of
returns-clause-clusters c = refl

pub returns-clause-homes : goal.returns-clause-homes
unfolding mean_clusters mean_cluster is_last least growth union_of home_of
returns-clause-homes c = refl

pub returns-clause-sum : goal.returns-clause-sum
unfolding mean_clusters mean_cluster is_last least growth union_of
returns-clause-sum c = refl

line_centred : AreCentred line_balls
line_centred zero h = refl
line_centred (suc zero) h = refl
line_centred (suc (suc zero)) h = refl
line_centred (suc (suc (suc zero))) h = refl
line_centred (suc (suc (suc (suc v)))) h = absurd (omega arith)

line_inside : AreInside line_balls
line_inside zero x h = below-has 4 x (0 ∷ 1 ∷ []) (omega arith, (omega arith, tt)) h
line_inside (suc zero) x h = below-has 4 x (0 ∷ 1 ∷ 2 ∷ []) (omega arith, (omega arith, (omega arith, tt))) h
line_inside (suc (suc zero)) x h = below-has 4 x (1 ∷ 2 ∷ 3 ∷ []) (omega arith, (omega arith, (omega arith, tt))) h
line_inside (suc (suc (suc zero))) x h = below-has 4 x (2 ∷ 3 ∷ []) (omega arith, (omega arith, tt)) h
line_inside (suc (suc (suc (suc v)))) x h = absurd (false≢true h)

pub returns-clause-centred : goal.returns-clause-centred
returns-clause-centred c = line_centred

pub returns-clause-inside : goal.returns-clause-inside
returns-clause-inside c = line_inside
