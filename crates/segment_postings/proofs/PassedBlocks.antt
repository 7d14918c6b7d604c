-- Blocks that are checked one after another: what is left decides.
use Rattle.std.proofs.Common.{[], List, arith, drop, length, refl, subst, sym, ◌+◌, ◌≡◌, ◌≤◌, ◌∷◌, ◌^◌, ℕ}
use Rattle.segment_postings.proofs.BlockSteps.{blocks_first, blocks_more}
use Rattle.segment_postings.specs.Blocks.{BeginsWithBlock, HasBlocks, IsFirst}
use Rattle.definitions.specs.Schema.{IndexRecordOption}
use Rattle.layouts.specs.Deltas.{next_of}
use Rattle.layouts.specs.SkipEntries.{SkipEntry}
use Rattle.segment_postings.proofs.ReadBack.{ascends_far}
use Rattle.codes.specs.SkipBlocks.{block_size}
use Rattle.codes.proofs.StrictDeltaSums.{next_of_some}

-- blocks, whatever the sum of their counts
abbrev pub HasSome : IndexRecordOption → List ℕ → ℕ → ℕ → List SkipEntry → ℕ → List ℕ → Type 0
HasSome option ids num_docs next es n bytes = (total : ℕ) × HasBlocks option ids num_docs next es n bytes total

-- the blocks up to one are checked: the document before it, the entries and bytes from it on, and the sum so far
pub record Passed (option : IndexRecordOption) (ids : List ℕ) (num_docs : ℕ) (all : List SkipEntry) (n : ℕ) (bytes : List ℕ) (before : ℕ) (left : List SkipEntry) (rest : List ℕ) (total : ℕ) : Type 0 where
  pub sound : (t : ℕ) → HasBlocks option ids num_docs (next_of before) left n rest t → HasBlocks option ids num_docs 0 all n bytes (total + t)
  pub complete : (t : ℕ) → HasBlocks option ids num_docs 0 all n bytes t → HasSome option ids num_docs (next_of before) left n rest

some_last : (option : IndexRecordOption) (ids : List ℕ) (num_docs next : ℕ) (e : SkipEntry) (bytes : List ℕ) (total : ℕ) → BeginsWithBlock option ids num_docs next e bytes total → next_of e.last_doc ≡ e.last_doc + 1
some_last option ids num_docs next e bytes total b =
    let count = b.docs_are.count in
    let far = ascends_far 127 next b.docs b.docs_are.docs_are.ascending (omega (arith, count)) in
    let last = b.docs_are.last in
    next_of_some e.last_doc (omega (arith, far, last))

-- one block more
pub block_passed : (option : IndexRecordOption) (ids : List ℕ) (num_docs : ℕ) (all : List SkipEntry) (n : ℕ) (bytes : List ℕ) (before : ℕ) (left : List SkipEntry) (rest : List ℕ) (total first : ℕ) (e : SkipEntry) → num_docs ≤ 2 ^ 32 → Passed option ids num_docs all n bytes before left rest total → IsFirst e left → BeginsWithBlock option ids num_docs (next_of before) e rest first → Passed option ids num_docs all n bytes e.last_doc (drop 1 left) (drop (block_size e) rest) (total + first)
block_passed option ids num_docs all n bytes before [] rest total first e few passed is b = absurd is
block_passed option ids num_docs all n bytes before (f ∷ es) rest total first e few passed is b =
    let next = some_last option ids num_docs (next_of before) e rest first b in
    let H : ℕ → Type 0 = λ k. HasBlocks option ids num_docs 0 all n bytes k in
    let L : SkipEntry → ℕ → Type 0 = λ x t. HasBlocks option ids num_docs (next_of before) (x ∷ es) n rest t in
    record {
      sound = λ t h.
          (let at_next : HasBlocks option ids num_docs (e.last_doc + 1) es n (drop (block_size e) rest) t = subst (λ k. HasBlocks option ids num_docs k es n (drop (block_size e) rest) t) next h in
          let joined = blocks_more option ids num_docs (next_of before) e es n rest first t b at_next in
          let same : total + (first + t) ≡ total + first + t = omega arith in
          subst H same (passed.sound (first + t) (subst (λ x. L x (first + t)) (sym is) joined)));
      complete = λ t h.
          (let here = passed.complete t h in
          let split = blocks_first option ids num_docs (next_of before) e es n rest here.0 few (subst (λ x. L x here.0) is here.1) in
          (split.other_total, subst (λ k. HasBlocks option ids num_docs k es n (drop (block_size e) rest) split.other_total) (sym next) split.rest));
    }

-- bytes that go on with no such block
pub block_refused : (option : IndexRecordOption) (ids : List ℕ) (num_docs : ℕ) (all : List SkipEntry) (n : ℕ) (bytes : List ℕ) (before : ℕ) (left : List SkipEntry) (rest : List ℕ) (total : ℕ) (e : SkipEntry) → num_docs ≤ 2 ^ 32 → Passed option ids num_docs all n bytes before left rest total → IsFirst e left → ((t : ℕ) → BeginsWithBlock option ids num_docs (next_of before) e rest t → ⊥) → (t : ℕ) → HasBlocks option ids num_docs 0 all n bytes t → ⊥
block_refused option ids num_docs all n bytes before [] rest total e few passed is none t h = absurd is
block_refused option ids num_docs all n bytes before (f ∷ es) rest total e few passed is none t h =
    let here = passed.complete t h in
    let split = blocks_first option ids num_docs (next_of before) e es n rest here.0 few (subst (λ x. HasBlocks option ids num_docs (next_of before) (x ∷ es) n rest here.0) is here.1) in
    none split.first_total split.first

no_entries : (es : List SkipEntry) → length es ≡ 0 → es ≡ []
no_entries [] none = refl
no_entries (e ∷ es) none = absurd (omega (arith, none))

pub rest_refused : (option : IndexRecordOption) (ids : List ℕ) (num_docs : ℕ) (all : List SkipEntry) (n : ℕ) (bytes : List ℕ) (before : ℕ) (left : List SkipEntry) (rest : List ℕ) (total : ℕ) → Passed option ids num_docs all n bytes before left rest total → length left ≡ 0 → ((t : ℕ) → HasBlocks option ids num_docs (next_of before) [] n rest t → ⊥) → (t : ℕ) → HasBlocks option ids num_docs 0 all n bytes t → ⊥
rest_refused option ids num_docs all n bytes before left rest total passed empty none t h =
    let here = passed.complete t h in
    none here.0 (subst (λ es. HasBlocks option ids num_docs (next_of before) es n rest here.0) (no_entries left empty) here.1)
