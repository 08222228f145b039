use Rattle.std.proofs.Common.{◌≡◌, ◌++◌, ℕ, List, length, take, drop, ap, arith, ◌∙◌, refl}
use Rattle.mean_cover.specs.Covering.{mean_cluster}
use Rattle.mean_cover.specs.MeanCovers.{as_mean_cluster}
use Rattle.mean_cover.proofs.covering.add_cluster.Goals as goal
use Rattle.std.proofs.lemmas.List.{take_at}

as_mean_cluster_is : (balls : List (List ℕ)) (k a n : ℕ) (waiting : List ℕ)
    → as_mean_cluster n (mean_cluster balls k waiting a)
    ≡ record { first = a; members = record { room = n; members = (mean_cluster balls k waiting a).members } }
unfolding as_mean_cluster mean_cluster
as_mean_cluster_is balls k a n waiting = refl

pub returns-clause-added : goal.returns-clause-added
returns-clause-added c =
    let home_count : length c.set_homes.new.home ≡ length c.args.cover.now.home.items =
    c.set_homes.auto.home ∙ ap length c.deref_mut.ensures.value
    in
    let home : take c.args.cover.now.home.len
    (c.set_homes.new.home ++ drop (length c.set_homes.new.home) c.args.cover.now.home.items) ≡ c.set_homes.new.home =
    grind (arith, take_at) in
    let number : c.len-number.result ≡ length c.args.cover.now.clusters.items =
    c.len-number.ensures ∙ c.args.cover.now.clusters.ok.0
    in
    record {
      waiting = rw (c.remove.ensures.members, c.in_ok-members.ensures.touched) refl;
      clusters = grind (arith, as_mean_cluster_is);
      homes = λ v h. grind arith;
      home_count = rw home (home_count ∙ c.requires.home_count);
    }
