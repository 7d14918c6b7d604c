-- What bytes have that are the postings of a term.
use Rattle.std.specs.Prelude.{◌<◌, ◌≡◌, List, length, sum, ℕ}
use Rattle.std.specs.List.{AllByRecursion}
use Rattle.definitions.specs.Schema.{IndexRecordOption}
use Rattle.layouts.specs.TermPostings.{AreTermPostings}

-- the bytes are the postings of `doc_freq` documents of a segment, whose counts have this sum
pub record HasTerm (option : IndexRecordOption) (ids : List ℕ) (num_docs doc_freq : ℕ) (bytes : List ℕ) (total : ℕ) : Type 0 where
  pub docs : List ℕ
  pub counts : List ℕ
  pub many : length docs ≡ doc_freq
  pub within : AllByRecursion (λ doc. doc < num_docs) docs
  pub postings : AreTermPostings option ids docs counts bytes
  pub total_is : total ≡ sum counts
