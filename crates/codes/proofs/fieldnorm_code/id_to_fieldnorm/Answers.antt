-- The table has the length.
use Rattle.codes.proofs.LengthsOfIds.{the_table}
use Rattle.codes.proofs.fieldnorm_code.id_to_fieldnorm.Goals as goal

pub returns : goal.returns
returns c = the_table c.args.id (let h = c.ranges.id.fits in h)
