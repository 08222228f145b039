use Rattle.net_reader.specs.RowLaws.{judge-rows}
use Rattle.net_reader.proofs.laws.rows_are_the_table.Goals as goal

pub returns : goal.returns
returns c = judge-rows
