-- A term of a merge, as it was written.
use Rattle.std.specs.Prelude.{[], ◌+◌, ◌^◌, ◌∷◌, ◌≡◌, ◌≤◌, ◌⊎◌, List, ℕ}
use Rattle.definitions.specs.Postings.{Posting}
use Rattle.definitions.specs.Schema.{IndexRecordOption}
use Rattle.definitions.specs.declared.fault.Fault.{Fault}
use Rattle.definitions.specs.declared.fault.Fault.TheVariants as faults
use Rattle.merging.specs.MergedTerms.{tokens_of}
use Rattle.codes.specs.UnpackedBlocks.{listed}
use Rattle.postings_writer.specs.FieldWriting.{FieldWriting, IsSameField}
use Rattle.postings_writer.specs.Limits.{TermPasses}
use Rattle.postings_writer.specs.Serializing.{IsWrittenTerm}

-- nothing stands behind the terms before
pub record IsPassed (was now : FieldWriting) : Type 0 where
  pub postings : now.postings ≡ was.postings
  pub positions : now.positions ≡ (was.positions.0, [])
  pub terms : now.terms ≡ was.terms
  pub same : IsSameField was now

-- a term with postings stands there, and one without isn't written
abbrev pub IsMergedTerm : FieldWriting → FieldWriting → List ℕ → IndexRecordOption → List Posting → Type 0
IsMergedTerm was now key option [] = IsPassed was now
IsMergedTerm was now key option (p ∷ ps) = IsWrittenTerm was now key option (p ∷ ps)

-- memory was wanting, or a term that has postings passes a limit, or would be one too many, or has too many tokens
abbrev pub IsTermRefusal : Fault → FieldWriting → IndexRecordOption → List Posting → Type 0
IsTermRefusal fault was option [] = fault ≡ faults.OutOfMemory
IsTermRefusal fault was option (p ∷ ps) = (fault ≡ faults.OutOfMemory) ⊎ ((fault ≡ faults.Limit) × (TermPasses option (listed was.writing.norms) (p ∷ ps) ⊎ (was.terms.num_terms ≡ 4294967295) ⊎ (2 ^ 64 ≤ was.num_tokens + tokens_of (p ∷ ps))))
