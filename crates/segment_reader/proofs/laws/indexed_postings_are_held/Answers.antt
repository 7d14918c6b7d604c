use Rattle.definitions.specs.Postings.{postings}
use Rattle.segment_reader.proofs.GivenPostings.{given_held}
use Rattle.segment_reader.proofs.laws.indexed_postings_are_held.Goals as goal

pub returns : goal.returns
returns c = λ schema analyze docs fields t are. given_held (λ u. postings schema analyze u docs) schema fields t are
