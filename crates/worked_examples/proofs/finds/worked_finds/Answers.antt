use Rattle.std.proofs.Common.{refl}
use Rattle.directory.specs.Courses.{highest}
use Rattle.directory.specs.Writes.{writes}
use Rattle.directory.specs.Puts.{steps_from}
use Rattle.worked_examples.proofs.finds.worked_finds.Goals as goal

pub returns-clause-sixth_hop : goal.returns-clause-sixth_hop
unfolding writes highest steps_from
returns-clause-sixth_hop c = refl

pub returns-clause-too_long : goal.returns-clause-too_long
unfolding writes highest steps_from
returns-clause-too_long c = refl

pub returns-clause-last_look_answers : goal.returns-clause-last_look_answers
unfolding writes highest steps_from
returns-clause-last_look_answers c = refl

pub returns-clause-coming_at_origin : goal.returns-clause-coming_at_origin
unfolding writes highest steps_from
returns-clause-coming_at_origin c = refl

pub returns-clause-lower_known : goal.returns-clause-lower_known
unfolding writes highest steps_from
returns-clause-lower_known c = refl

pub returns-clause-same_known : goal.returns-clause-same_known
unfolding writes highest steps_from
returns-clause-same_known c = refl

pub returns-clause-greatest_known : goal.returns-clause-greatest_known
unfolding writes highest steps_from
returns-clause-greatest_known c = refl

pub returns-clause-greatest_last : goal.returns-clause-greatest_last
unfolding writes highest steps_from
returns-clause-greatest_last c = refl

pub returns-clause-known_at_origin : goal.returns-clause-known_at_origin
unfolding writes highest steps_from
returns-clause-known_at_origin c = refl

pub returns-clause-not_known_at_origin : goal.returns-clause-not_known_at_origin
unfolding writes highest steps_from
returns-clause-not_known_at_origin c = refl

pub returns-clause-kept_in_chase : goal.returns-clause-kept_in_chase
unfolding writes highest steps_from
returns-clause-kept_in_chase c = refl

pub returns-clause-no_entry : goal.returns-clause-no_entry
unfolding writes highest steps_from
returns-clause-no_entry c = refl

pub returns-clause-fourth_entry : goal.returns-clause-fourth_entry
unfolding writes highest steps_from
returns-clause-fourth_entry c = refl

pub returns-clause-empty_met : goal.returns-clause-empty_met
unfolding writes highest steps_from
returns-clause-empty_met c = refl

pub returns-clause-off_met : goal.returns-clause-off_met
unfolding writes highest steps_from
returns-clause-off_met c = refl

pub returns-clause-off_at_origin : goal.returns-clause-off_at_origin
unfolding writes highest steps_from
returns-clause-off_at_origin c = refl
