use Rattle.std.proofs.Common.{◌∙◌}
use Rattle.std.proofs.lemmas.Result.{IfOk-weaker}
use Rattle.net_reader.specs.Seen.{seen_input}
use Rattle.track.specs.Places.{AreLastPlaces}
use Rattle.track.proofs.Replaying.{census-says, text-of_places}
use Rattle.track.proofs.census.census.Goals as goal

pub returns : goal.returns
returns c =
    let contents = seen_input c.args.input.now in
    let are : AreLastPlaces contents c.deref.result.now =
    rw c.deref.ensures.value c.in_ok-places.ensures in
    IfOk-weaker c.census_of_places.result _ _ (λ text is. census-says c.censuses_are_right.ensures.scripts
    c.censuses_are_right.ensures.ends c.scripts_are_valid.ensures c.plan_means.ensures c.requires.valid
    (is ∙ text-of_places are)) c.census_of_places.ensures
