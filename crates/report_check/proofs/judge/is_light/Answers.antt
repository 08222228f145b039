use Rattle.std.proofs.Common.{◌≡◌, ◌∙◌, ◌+◌, ◌*◌, ◌||◌, leb, ap, map, fold}
use Rattle.region_plan.specs.Measures.{stretch_of}
use Rattle.region_plan.specs.Settings.{setting_of}
use Rattle.report_check.specs.ReadLines.{done_of}
use Rattle.report_check.specs.Parts.{at_start, open_passage, tell, told_before}
use Rattle.report_check.proofs.judge.is_light.Goals as goal

pub returns : goal.returns
returns c = λ plan is.
    let calls = map done_of c.args.lines.now.calls.now in
    let homes = c.args.ground.now.homes.now in
    let weight = c.args.visits.weight in
    let told : c.told_of-told.result ≡ told_before homes calls c.args.sub c.args.visits.last =
    c.told_of-told.ensures
    ∙ ap (λ h. fold (tell c.args.sub c.args.visits.last) (at_start h) calls) c.start_of.ensures in
    let passage : c.open_passage-passage.result
    ≡ open_passage c.args.order.now c.args.sub c.args.visits.last
    (told_before homes calls c.args.sub c.args.visits.last)
    (told_before homes calls c.args.sub c.args.visits.last).commit =
    c.open_passage-passage.ensures
    ∙ ap (λ t. open_passage c.args.order.now c.args.sub c.args.visits.last t t.commit) told in
    let way : c.args.ground.now.stretch * c.distance-way.result
    ≡ stretch_of plan * (setting_of plan homes).distance c.args.from c.args.place.node =
    ap (λ s. s * c.distance-way.result) is.stretch ∙ ap (λ d. stretch_of plan * d)
    (c.distance-way.ensures plan homes is) in
    c.is_within.ensures
    ∙ ap (λ w. leb weight (w + 2 * c.open_passage-passage.result)) way
    ∙ ap (λ p. leb weight (stretch_of plan * (setting_of plan homes).distance c.args.from c.args.place.node + 2 * p))
    passage
    ∙ ap (λ b. b || leb weight (stretch_of plan * (setting_of plan homes).distance c.args.from c.args.place.node
    + 2 * open_passage c.args.order.now c.args.sub c.args.visits.last
    (told_before homes calls c.args.sub c.args.visits.last)
    (told_before homes calls c.args.sub c.args.visits.last).commit)) c.if-meets_move.ensures
