-- What is read of terms in a segment, where it stands for documents.
use Rattle.std.proofs.Common.{[], IfNone, IfSome, List, None, Option, Some, ap, get_or, length, map, subst, sym, take, ◌++◌, ◌+◌, ◌<◌, ◌≡◌, ◌∙◌, ◌∷◌, ℕ}
use Rattle.std.proofs.lemmas.List.{map-append, take_more}
use Rattle.std.specs.List.{AllByRecursion}
use Rattle.definitions.specs.Query.{Terms}
use Rattle.docsets.specs.Entries.{from}
use Rattle.definitions.specs.Analyzers.{Analyzer}
use Rattle.definitions.specs.Postings.{Posting, postings}
use Rattle.definitions.specs.Schema.{Schema, with_freqs_and_positions}
use Rattle.definitions.specs.Values.{Document}
use Rattle.segment_reader.specs.OpenedTerms.{entry_as}
use Rattle.segment_reader.specs.Readers.{Contents, Reader, postings_held}
use Rattle.leaf_weights.specs.ReadTerms.{placed_entries, placed_left, with_positions}
use Rattle.segment_postings.specs.Cursors.{entries_left}
use Rattle.segment_postings.specs.declared.segment_postings.SegmentPostings.{SegmentPostings}
use Rattle.segment_reader.specs.SegmentReaders.{StandsFor, index_of, max_doc_of}
use Rattle.segment_reader.specs.declared.segment_reader.SegmentReader.{SegmentReader}
use Rattle.leaf_weights.proofs.TermsFound.{contents_of, held}
use Rattle.segment_reader.proofs.FieldLengths.{all_within}

pub found_within : (r : SegmentReader) (index : Reader) (n : ℕ) (o : Option SegmentPostings) → index ≡ index_of r → n ≡ max_doc_of r → ((contents : Contents index) → IfSome o (λ p. from contents.num_docs (entries_left p) ≡ [])) → IfSome o (λ p. from (max_doc_of r) (entries_left p) ≡ [])
found_within r index n None lent many within = tt
found_within r index n (Some p) lent many within = subst (λ k. from k (entries_left p) ≡ []) many (all_within r index n (entries_left p) lent many within)

module _ (schema : Schema) (analyze : Analyzer) (docs : List Document) (r : SegmentReader) (stands : StandsFor schema analyze docs r) where
  pub term_found : (t : List ℕ) (index : Reader) (o : Option SegmentPostings) → index ≡ index_of r → ((contents : Contents index) → IfSome o (λ p. entries_left p ≡ map (entry_as with_freqs_and_positions) (postings_held contents.schema contents.fields t))) → IfSome o (λ p. entries_left p ≡ with_positions (postings schema analyze t docs))
  term_found t index None lent is = tt
  term_found t index (Some p) lent is = subst (λ i. ((contents : Contents i) → entries_left p ≡ map (entry_as with_freqs_and_positions) (postings_held contents.schema contents.fields t))) lent is (contents_of schema analyze docs r stands) ∙ ap with_positions (held schema analyze docs r stands t)

  pub term_missing : (t : List ℕ) (index : Reader) (o : Option SegmentPostings) → index ≡ index_of r → ((contents : Contents index) → IfNone o (postings_held contents.schema contents.fields t ≡ [])) → IfNone o (postings schema analyze t docs ≡ [])
  term_missing t index (Some p) lent is = tt
  term_missing t index None lent is = sym (held schema analyze docs r stands t) ∙ subst (λ i. ((contents : Contents i) → postings_held contents.schema contents.fields t ≡ [])) lent is (contents_of schema analyze docs r stands)

-- ---- one term more

pub taken : {X : Type 0} (xs : List X) (i : ℕ) (x : X) → i < length xs → x ≡ get_or xs i x → take (i + 1) xs ≡ take i xs ++ x ∷ []
taken xs i x l is = take_more xs i x l ∙ ap (λ y. take i xs ++ y ∷ []) (sym is)

pub placed_more : (entries : List ℕ → List Posting) (read more : List (ℕ × SegmentPostings)) (p : SegmentPostings) (terms further : Terms) (t : ℕ × List ℕ) → more ≡ read ++ (t.0, p) ∷ [] → further ≡ terms ++ t ∷ [] → placed_left read ≡ placed_entries entries terms → entries_left p ≡ with_positions (entries t.1) → placed_left more ≡ placed_entries entries further
placed_more entries read more p terms further t is are so_far here =
    ap placed_left is
    ∙ map-append (λ (u : ℕ × SegmentPostings). (u.0, entries_left u.1)) read ((t.0, p) ∷ [])
    ∙ ap (λ es. es ++ (t.0, entries_left p) ∷ []) so_far
    ∙ ap (λ es. placed_entries entries terms ++ (t.0, es) ∷ []) here
    ∙ sym (ap (placed_entries entries) are ∙ map-append (λ (u : ℕ × List ℕ). (u.0, with_positions (entries u.1))) terms (t ∷ []))

pub offsets_more : (read more : List (ℕ × SegmentPostings)) (p : SegmentPostings) (terms further : Terms) (t : ℕ × List ℕ) → more ≡ read ++ (t.0, p) ∷ [] → further ≡ terms ++ t ∷ [] → map (λ (u : ℕ × SegmentPostings). u.0) read ≡ map (λ (u : ℕ × List ℕ). u.0) terms → map (λ (u : ℕ × SegmentPostings). u.0) more ≡ map (λ (u : ℕ × List ℕ). u.0) further
offsets_more read more p terms further t is are so_far =
    ap (map (λ (u : ℕ × SegmentPostings). u.0)) is
    ∙ map-append (λ (u : ℕ × SegmentPostings). u.0) read ((t.0, p) ∷ [])
    ∙ ap (λ ns. ns ++ t.0 ∷ []) so_far
    ∙ sym (ap (map (λ (u : ℕ × List ℕ). u.0)) are ∙ map-append (λ (u : ℕ × List ℕ). u.0) terms (t ∷ []))

abbrev AreWithin : ℕ → List (ℕ × SegmentPostings) → Type 0
AreWithin n read = AllByRecursion (λ (u : ℕ × SegmentPostings). from n (entries_left u.1) ≡ []) read

pub within_more : (n : ℕ) (read more : List (ℕ × SegmentPostings)) (o : ℕ) (p : SegmentPostings) → more ≡ read ++ (o, p) ∷ [] → AreWithin n read → from n (entries_left p) ≡ [] → AreWithin n more
within_more n read more o p is all here = subst (AreWithin n) (sym is) (go read all)
  where
    go : (us : List (ℕ × SegmentPostings)) → AreWithin n us → AreWithin n (us ++ (o, p) ∷ [])
    go [] all = (here, tt)
    go (u ∷ us) all = (all.0, go us all.1)
