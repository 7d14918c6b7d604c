-- Each index of the table is computed.
use Rattle.codes.proofs.LengthsOfIds.{the_table}
use Rattle.codes.proofs.fieldnorm_code.the_table_has_the_lengths_of_all_ids.Goals as goal

pub returns : goal.returns
returns c = the_table
