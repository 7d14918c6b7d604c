use Rattle.segment_postings.proofs.OneTerm.{one_term}
use Rattle.segment_postings.proofs.term_laws.terms_have_one_reading.Goals as goal

pub returns : goal.returns
returns c = λ option num_docs ids postings positions ps qs bytes short short_positions long t u. one_term option num_docs ids postings positions ps qs bytes short short_positions long t u
