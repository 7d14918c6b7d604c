-- The terms of a field of a merge, as they were written.
use Rattle.std.specs.Prelude.{[], ◌++◌, ◌+◌, ◌<◌, ◌^◌, ◌∷◌, ◌≡◌, ◌≤◌, ◌⊎◌, IsSomeAnd, List, flat_map, length, map, slice_get, sum_by, ℕ}
use Rattle.std.specs.List.{AllByRecursion}
use Rattle.definitions.specs.Postings.{Posting}
use Rattle.definitions.specs.Schema.{Kind}
use Rattle.definitions.specs.declared.fault.Fault.{Fault}
use Rattle.definitions.specs.declared.fault.Fault.TheVariants as faults
use Rattle.layouts.specs.InvertedIndexes.{IndexedField, IndexedTerm}
use Rattle.merging.specs.Members.{merged_in}
use Rattle.merging.specs.declared.member.Member.{Member}
use Rattle.codes.specs.UnpackedBlocks.{listed}
use Rattle.postings_writer.specs.FieldWriting.{FieldWriting, with_terms}
use Rattle.postings_writer.specs.Limits.{TermPasses}
use Rattle.postings_writer.specs.Sections.{IsSpelled, option_in}

-- terms by their value bytes, each with its postings
abbrev pub Told : Type 0
Told = List (List ℕ × List Posting)

-- a term before others, where it has a posting
abbrev pub with_term : List ℕ → List Posting → Told → Told
with_term key [] told = told
with_term key (p ∷ ps) told = (key, p ∷ ps) ∷ told

-- the sum of the counts of postings
abbrev pub tokens_of : List Posting → ℕ
tokens_of ps = sum_by (λ (p : Posting). p.count) ps

-- of all terms
abbrev pub tokens_in : Told → ℕ
tokens_in told = sum_by (λ t. tokens_of t.1) told

-- each of these keys that a living document has, with its postings in all members
abbrev pub told_in : ℕ → List (List ℕ) → List Member → List (List IndexedField) → Told
told_in field [] members all = []
told_in field (key ∷ keys) members all = with_term key (merged_in field key members all) (told_in field keys members all)

-- these terms were written behind those before
pub record AreAdded (kind : Kind) (was now : FieldWriting) (told : Told) (ts : List IndexedTerm) : Type 0 where
  pub told_are : map {B = List ℕ × List Posting} (λ (t : IndexedTerm). (t.key, t.postings)) ts ≡ told
  pub each_spelled : AllByRecursion (λ (t : IndexedTerm). IsSpelled (option_in kind was.writing.mode t.key) (listed was.writing.norms) t) ts
  pub terms : now.terms ≡ with_terms ts was.terms
  pub postings : now.postings ≡ was.postings ++ flat_map (λ (t : IndexedTerm). t.postings_bytes) ts
  pub positions : now.positions ≡ (was.positions.0 ++ flat_map (λ (t : IndexedTerm). t.positions_bytes) ts, [])
  pub terms_fit : 0 < length ts → was.terms.num_terms + length ts ≤ 4294967295
  pub tokens : now.num_tokens ≡ was.num_tokens + tokens_in told
  pub tokens_fit : was.num_tokens < 2 ^ 64 → now.num_tokens < 2 ^ 64
  pub same : (now.field ≡ was.field) × (now.writing.mode ≡ was.writing.mode) × (now.writing.norms ≡ was.writing.norms)

-- one of these terms passes a limit, or with those before they are too many, or have too many tokens
abbrev pub AnyTermPasses : Kind → FieldWriting → Told → Type 0
AnyTermPasses kind was told = ((i : ℕ) × IsSomeAnd (slice_get told i) (λ t. TermPasses (option_in kind was.writing.mode t.0) (listed was.writing.norms) t.1)) ⊎ (4294967295 < was.terms.num_terms + length told) ⊎ (2 ^ 64 ≤ was.num_tokens + tokens_in told)

-- memory was wanting, or a limit is passed
abbrev pub IsTermsRefusal : Fault → Kind → FieldWriting → Told → Type 0
IsTermsRefusal fault kind was told = (fault ≡ faults.OutOfMemory) ⊎ ((fault ≡ faults.Limit) × AnyTermPasses kind was told)
