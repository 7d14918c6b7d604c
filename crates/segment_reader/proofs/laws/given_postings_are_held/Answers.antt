use Rattle.segment_reader.proofs.GivenPostings.{given_held}
use Rattle.segment_reader.proofs.laws.given_postings_are_held.Goals as goal

pub returns : goal.returns
returns c = given_held
