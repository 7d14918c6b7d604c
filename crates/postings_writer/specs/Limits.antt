-- The limits of what is written of terms and fields, and what passes them.
use Rattle.std.specs.Prelude.{◌/◌, ◌<◌, ◌^◌, ◌≡◌, ◌≤◌, ◌⊎◌, List, length, map, sum_by, true, ℕ}
use Rattle.std.specs.List.{AllByRecursion}
use Rattle.definitions.specs.Blocks.{block_len}
use Rattle.definitions.specs.Postings.{Posting}
use Rattle.definitions.specs.Schema.{IndexRecordOption, Schema, field_has, has_positions, is_indexed}
use Rattle.definitions.specs.declared.fault.Fault.{Fault}
use Rattle.definitions.specs.declared.fault.Fault.TheVariants as faults
use Rattle.layouts.specs.InvertedIndexes.{HasPositions, IndexedField, IndexedTerm, field_ids, option_of_term, term_of_key}
use Rattle.layouts.specs.Positions.{position_numbers}
use Rattle.layouts.specs.TermPostings.{SumsFit, postings_bytes}
use Rattle.layouts.specs.TermSections.{TermsAscend}
use Rattle.postings_writer.specs.TermWriting.{recorded_count}

-- ---- a term

-- a count of these postings passes 32 bits
abbrev pub CountsPass : List Posting → Type 0
CountsPass ps = AllByRecursion (λ (p : Posting). p.count < 2 ^ 32) ps → ⊥

-- the sum of the counts of a block does
abbrev pub SumsPass : IndexRecordOption → List Posting → Type 0
SumsPass option ps = SumsFit (length ps / block_len) (map (λ (p : Posting). recorded_count option p.count) ps) → ⊥

-- the postings take 2^32 bytes or more
abbrev pub PostingsPass : IndexRecordOption → List ℕ → List Posting → Type 0
PostingsPass option ids ps = 2 ^ 32 ≤ length (postings_bytes option ids (map (λ (p : Posting). p.doc) ps) (map (λ (p : Posting). recorded_count option p.count) ps))

-- their positions do
abbrev pub PositionsPass : IndexRecordOption → List Posting → Type 0
PositionsPass option ps = (bytes : List ℕ) × HasPositions (has_positions option) (position_numbers (map (λ (p : Posting). p.positions) ps)) bytes × (2 ^ 32 ≤ length bytes)

-- a term with these postings passes a limit
abbrev pub TermPasses : IndexRecordOption → List ℕ → List Posting → Type 0
TermPasses option ids ps = CountsPass ps ⊎ SumsPass option ps ⊎ PostingsPass option ids ps ⊎ PositionsPass option ps

-- the sums of the counts of blocks don't pass 32 bits, and the bytes of postings and positions are fewer than that
pub record IsTermWithin (option : IndexRecordOption) (t : IndexedTerm) : Type 0 where
  pub sums : SumsFit (length t.postings / block_len) (map (λ (p : Posting). recorded_count option p.count) t.postings)
  pub postings : length t.postings_bytes < 2 ^ 32
  pub positions : length t.positions_bytes < 2 ^ 32

-- ---- a field

-- its terms are at most 4294967295, and each is within its limits
pub record IsFieldWithin (schema : Schema) (f : IndexedField) : Type 0 where
  pub terms_fit : length f.terms ≤ 4294967295
  pub each_term : AllByRecursion (λ (t : IndexedTerm). IsTermWithin (option_of_term schema (term_of_key schema f.field t.key)) t) f.terms

-- terms by their value bytes, each with a posting, are more than 4294967295, or their tokens pass 64 bits
pub record TooMany (given : List ℕ → List Posting) : Type 0 where
  pub keys : List (List ℕ)
  pub ascend : TermsAscend keys
  pub each_key : AllByRecursion (λ key. 0 < length (given key)) keys
  pub many : (4294967295 < length keys) ⊎ (2 ^ 64 ≤ sum_by (λ key. sum_by (λ (p : Posting). p.count) (given key)) keys)

-- a field passes a limit, whose terms by their value bytes have these postings
abbrev pub FieldPasses : (List ℕ → IndexRecordOption) → List ℕ → (List ℕ → List Posting) → Type 0
FieldPasses option ids given = ((key : List ℕ) × TermPasses (option key) ids (given key)) ⊎ TooMany given

-- memory was wanting, or the field passes a limit
abbrev pub IsFieldRefusal : Fault → (List ℕ → IndexRecordOption) → List ℕ → (List ℕ → List Posting) → Type 0
IsFieldRefusal fault option ids given = (fault ≡ faults.OutOfMemory) ⊎ ((fault ≡ faults.Limit) × FieldPasses option ids given)

-- ---- all fields

-- an indexed field passes a limit, where each term has the given postings
pub record AnyPasses (schema : Schema) (norms : List (ℕ × List ℕ)) (given : List ℕ → List Posting) : Type 0 where
  pub field : ℕ
  pub indexed : field_has is_indexed schema field ≡ true
  pub passes : FieldPasses (λ key. option_of_term schema (term_of_key schema field key)) (field_ids norms field) (λ key. given (term_of_key schema field key))

-- memory was wanting, or a limit is passed
abbrev pub IsSerializeRefusal : Fault → Schema → List (ℕ × List ℕ) → (List ℕ → List Posting) → Type 0
IsSerializeRefusal fault schema norms given = (fault ≡ faults.OutOfMemory) ⊎ ((fault ≡ faults.Limit) × AnyPasses schema norms given)
