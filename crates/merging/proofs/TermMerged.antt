-- A term of a merge that was begun, written and closed, or not.
use Rattle.std.proofs.Common.{[], Bool, List, ap₂, false, if◌then◌else◌, inl, inr, refl, subst, sym, true, true≢false, ◌/◌, ◌≡◌, ◌∙◌, ◌∷◌, ℕ}
use Rattle.std.proofs.lemmas.List.{length-map}
use Rattle.definitions.specs.Blocks.{block_len}
use Rattle.definitions.specs.Postings.{Posting}
use Rattle.definitions.specs.Schema.{IndexRecordOption, has_positions}
use Rattle.definitions.specs.declared.fault.Fault.{Fault}
use Rattle.layouts.specs.TermPostings.{SumsFit}
use Rattle.merging.specs.MergedTerm.{IsMergedTerm, IsTermRefusal}
use Rattle.merging.specs.Living.{has_some}
use Rattle.merging.specs.Written.{AreWritten, counts_in}
use Rattle.postings_writer.specs.FieldWriting.{AreKept, FieldWriting, IsOpen}
use Rattle.postings_writer.specs.TermWriting.{recorded_count, IsSumRefusal}
use Rattle.postings_writer.proofs.WrittenTerms as terms
use Rattle.postings_writer.proofs.WrittenTerms.{kept_both, write_passes}
use Rattle.postings_writer.specs.Serializing.{IsWrittenTerm}

-- why its documents weren't written
pub write_refused : (fault : Fault) (was begun : FieldWriting) (option : IndexRecordOption) (ps : List Posting) → begun.writing.option ≡ option → IsSumRefusal fault (counts_in begun ps) → IsTermRefusal fault was option ps
write_refused fault was begun option [] is (inl memory) = memory
write_refused fault was begun option [] is (inr (limit, pass)) = absurd (pass tt)
write_refused fault was begun option (p ∷ ps) is (inl memory) = inl memory
write_refused fault was begun option (p ∷ ps) is (inr (limit, pass)) = write_passes fault was begun option (p ∷ ps) is (inr (limit, inr (λ fit. pass (subst (λ n. SumsFit (n / block_len) (counts_in begun (p ∷ ps))) (sym (length-map (p ∷ ps) (λ (q : Posting). recorded_count begun.writing.option q.count))) fit))))

-- why a term with postings wasn't closed
pub close_refused : (fault : Fault) (was : FieldWriting) (option : IndexRecordOption) (ps : List Posting) → true ≡ has_some ps → terms.IsTermRefusal fault was option ps → IsTermRefusal fault was option ps
close_refused fault was option [] some refused = absurd (true≢false some)
close_refused fault was option (p ∷ ps) some refused = refused

-- a term with postings
pub merged_written : (was now : FieldWriting) (key : List ℕ) (option : IndexRecordOption) (ps : List Posting) → true ≡ has_some ps → IsWrittenTerm was now key option ps → IsMergedTerm was now key option ps
merged_written was now key option [] some written = absurd (true≢false some)
merged_written was now key option (p ∷ ps) some written = written

-- a term without any
pub merged_passed : (was begun now : FieldWriting) (key : List ℕ) (option : IndexRecordOption) (ps : List Posting) → false ≡ has_some ps → IsOpen begun [] [] []
    → AreKept was begun
    → AreWritten begun now ps → IsMergedTerm was now key option ps
merged_passed was begun now key option (p ∷ ps) none opened first written = absurd (true≢false (sym none))
merged_passed was begun now key option [] none opened first written = (let all = kept_both was begun now first written.same.kept in record {
  postings = all.postings;
  positions = ap₂ (λ xs ys. (xs, ys)) all.positions ((written.open_is [] [] [] opened).numbers_are ∙ either (has_positions now.writing.option));
  terms = all.terms;
  same = all.same;
})
  where
    either : (b : Bool) → ◌≡◌ {A = List ℕ} (if b then [] else []) []
    either true = refl
    either false = refl
