use Rattle.std.proofs.Common.{Bool, List, arith, false, length, refl, true, ◌%◌, ◌/◌, ◌≡◌, ℕ}
use Rattle.definitions.specs.NumberCodes.{AreBytes}
use Rattle.definitions.specs.Schema.{IndexRecordOption, has_freq, has_positions}
use Rattle.layouts.specs.TermPostings.{ArePosted, all_blocks, skip_entries}
use Rattle.segment_postings.proofs.EntriesStand.{entries_stand, many_entries}
use Rattle.segment_postings.proofs.ReadBack.{AllBack, all_back, posted_from}
use Rattle.postings.proofs.posting_laws.postings_are_read_back.Goals as goal

whole : (option : IndexRecordOption) (ids docs counts : List ℕ) (reads sums : Bool) → ArePosted option docs counts → AreBytes (all_blocks option (length docs / 128) 0 docs counts) → (reads ≡ true → has_freq option ≡ true) → (sums ≡ true → (has_positions option ≡ true) × (reads ≡ true)) → AllBack option reads sums 0 (length docs % 128) (skip_entries option ids (length docs / 128) 0 docs counts) docs counts (all_blocks option (length docs / 128) 0 docs counts)
whole option ids docs counts reads sums posted bytes recorded told =
    all_back option ids reads sums (length docs / 128) 0 0 (length docs % 128) docs counts (posted_from option docs counts posted) (omega arith) (omega arith) refl recorded told bytes

pub returns-clause-readable : goal.returns-clause-readable
returns-clause-readable c = λ option ids docs counts reads sums posted bytes recorded told. (whole option ids docs counts reads sums posted bytes recorded told).readable

pub returns-clause-docs : goal.returns-clause-docs
returns-clause-docs c = λ option ids docs counts posted bytes. (whole option ids docs counts false false posted bytes (λ no_counts. absurd cc) (λ no_sums. absurd cc)).docs_back

pub returns-clause-counts : goal.returns-clause-counts
returns-clause-counts c = λ option ids docs counts reads posted bytes recorded. (whole option ids docs counts reads false posted bytes recorded (λ no_sums. absurd cc)).counts_back

pub returns-clause-skips : goal.returns-clause-skips
returns-clause-skips c = λ option ids docs counts posted. record {
  many = many_entries option ids (length docs / 128) 0 docs counts;
  bytes_are = refl;
  sound = entries_stand option ids (length docs / 128) 0 (length docs % 128) docs counts (posted_from option docs counts posted) (omega arith) posted.alone posted.sums_fit;
}
