use Rattle.definitions.proofs.LengthIds.{greatest_id_fits, greatest_id_greatest, greatest_id_within}
use Rattle.definitions.proofs.word_laws.a_length_id_is_the_greatest.Goals as goal

pub returns-clause-one_byte : goal.returns-clause-one_byte
returns-clause-one_byte c n = greatest_id_within 255 n

pub returns-clause-not_above : goal.returns-clause-not_above
returns-clause-not_above c n = greatest_id_fits 255 n

pub returns-clause-greatest : goal.returns-clause-greatest
returns-clause-greatest c n i within fits = greatest_id_greatest 255 n i within fits
