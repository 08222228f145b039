use Rattle.std.proofs.Common.{◌≡◌, ◌++◌, length, take, drop, ap, arith, ◌∙◌, refl}
use Rattle.coarse_cover.proofs.Steps.{as_cluster_is, filter_rest}
use Rattle.coarse_cover.proofs.phasing.add_cluster.Goals as goal
use Rattle.std.proofs.lemmas.List.{take_at}

pub returns-clause-added : goal.returns-clause-added
returns-clause-added c =
    let home_count : length c.set_homes.new.home ≡ length c.args.cover.now.home.items =
    c.set_homes.auto.home ∙ ap length c.deref_mut.ensures.value
    in
    let home : take c.args.cover.now.home.len
    (c.set_homes.new.home ++ drop (length c.set_homes.new.home) c.args.cover.now.home.items) ≡ c.set_homes.new.home =
    grind (arith, take_at) in
    let number : c.len-number.result ≡ length c.args.cover.now.clusters.items =
    c.len-number.ensures ∙ c.args.cover.now.clusters.ok.0
    in
    record {
      waiting = rw (c.remove-2.ensures.members, c.in_ok-members.ensures.touched)
          (search filter_rest);
      left = rw (c.remove.ensures.members, c.in_ok-members.ensures.taken) refl;
      clusters = grind (arith, as_cluster_is);
      homes = λ v h. grind arith;
      phases = refl;
      home_count = rw home (home_count ∙ c.requires.home_count);
    }
