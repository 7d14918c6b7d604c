-- What is read of a term in a segment, where it stands for documents.
use Rattle.std.proofs.Common.{[], IfNone, List, None, Option, Some, ap, length, map, refl, subst, suc, sym, zero, ◌≡◌, ◌∙◌, ◌∷◌, ℕ}
use Rattle.std.specs.Option.{option_map_or}
use Rattle.docsets.specs.Entries.{Entry, from}
use Rattle.definitions.specs.Analyzers.{Analyzer}
use Rattle.definitions.specs.Answers.{answers}
use Rattle.definitions.specs.KeptLengths.{norms_of}
use Rattle.definitions.specs.Postings.{postings}
use Rattle.definitions.specs.Query.{term}
use Rattle.definitions.specs.Schema.{IndexRecordOption, Schema}
use Rattle.definitions.specs.Scoring.{Similarity, length_id}
use Rattle.definitions.specs.Terms.{field_of}
use Rattle.definitions.specs.Values.{Document}
use Rattle.segment_reader.proofs.GivenPostings.{given_held}
use Rattle.segment_reader.specs.OpenedTerms.{entry_as}
use Rattle.segment_reader.specs.Readers.{Contents, Reader, postings_held}
use Rattle.docsets.specs.ScoredEntries.{pairs_of}
use Rattle.docsets.proofs.ScoredEntryLaws.{from-rescored}
use Rattle.segment_reader.specs.SegmentReaders.{StandsFor, index_of}
use Rattle.segment_reader.specs.declared.segment_reader.SegmentReader.{SegmentReader}
use Rattle.term_scorer.specs.TermScores.{TermSimilarity, entry_score, term_scored}
use Rattle.leaf_weights.proofs.TermAnswers.{by_term, term_answers}
use Rattle.segment_reader.specs.LengthIds.{AreIds}

-- ---- no document is past the end of the segment

-- scores leave the documents as they are
pub scored_within : (n : ℕ) (sim : TermSimilarity) (ids : List ℕ) (es : List Entry) → from n es ≡ [] → from n (term_scored sim ids es) ≡ []
scored_within n sim ids es within = from-rescored (entry_score sim ids) n es ∙ ap (term_scored sim ids) within

pub length-scored : (sim : TermSimilarity) (ids : List ℕ) (es : List Entry) → length (term_scored sim ids es) ≡ length es
length-scored sim ids [] = refl
length-scored sim ids (e ∷ es) = ap suc (length-scored sim ids es)

-- ---- what is weighed

abbrev weighing : ℕ → ℕ → List ℕ → TermSimilarity
weighing weight boost norms = record { weight = weight; boost = boost; norms = norms }

pub weighed : (v w b d : ℕ) (ns ms : List ℕ) → v ≡ w → b ≡ d → ns ≡ ms → weighing v b ns ≡ weighing w d ms
weighed v w b d ns ms weights boosts norms = ap (λ x. weighing x b ns) weights ∙ ap (λ x. weighing w x ns) boosts ∙ ap (λ x. weighing w d x) norms

-- ---- of documents

own_ids : (id : Document → ℕ) (docs : List Document) → AreIds id docs (map id docs)
own_ids id [] zero doc is = absurd (let no : ⊥ = cc in no)
own_ids id [] (suc place) doc is = absurd (let no : ⊥ = cc in no)
own_ids id (d ∷ docs) zero doc is = ap id (ap (λ (o : Option Document). option_map_or (λ x. x) o d) is)
own_ids id (d ∷ docs) (suc place) doc is = own_ids id docs place doc is

-- where there is no result, what holds anyway holds
pub if_none : {A : Type 0} {P : Type 0} (o : Option A) → P → IfNone o P
if_none None p = p
if_none (Some x) p = tt

module _ (schema : Schema) (analyze : Analyzer) (docs : List Document) (r : SegmentReader) (stands : StandsFor schema analyze docs r) where
  abbrev pub contents_of : Contents (index_of r)
  contents_of = record { schema = schema; num_docs = length docs; norms = norms_of schema analyze docs; fields = stands.fields; is_reader = stands.reads }

  pub held : (t : List ℕ) → postings_held schema stands.fields t ≡ postings schema analyze t docs
  held t = given_held (λ u. postings schema analyze u docs) schema stands.fields t stands.indexed

  -- the scored postings that the index holds are the answers
  pub scored_found : (sim : Similarity) (b : ℕ) (t : List ℕ) (option : IndexRecordOption) (index : Reader) (by : TermSimilarity) (ids : List ℕ) (es : List Entry)
      → index ≡ index_of r
      → by ≡ by_term schema analyze sim b t option
      → AreIds (length_id schema analyze (field_of t)) docs ids
      → ((contents : Contents index) → es ≡ map (entry_as option) (postings_held contents.schema contents.fields t))
      → pairs_of (term_scored by ids es) ≡ answers schema analyze sim b (term t option) docs
  scored_found sim b t option index by ids es lent weighs are is =
      let here = subst (λ i. ((contents : Contents i) → es ≡ map (entry_as option) (postings_held contents.schema contents.fields t))) lent is contents_of in
      ap (λ s. pairs_of (term_scored s ids es)) weighs
      ∙ ap (λ xs. pairs_of (term_scored (by_term schema analyze sim b t option) ids xs)) (here ∙ ap (map (entry_as option)) (held t))
      ∙ term_answers schema analyze sim b t option docs ids are

  -- and there are none where it holds none
  pub none_found : (sim : Similarity) (b : ℕ) (t : List ℕ) (option : IndexRecordOption) (index : Reader)
      → index ≡ index_of r
      → ((contents : Contents index) → postings_held contents.schema contents.fields t ≡ [])
      → answers schema analyze sim b (term t option) docs ≡ []
  none_found sim b t option index lent none =
      let here = subst (λ i. ((contents : Contents i) → postings_held contents.schema contents.fields t ≡ [])) lent none contents_of in
      sym (term_answers schema analyze sim b t option docs (map (length_id schema analyze (field_of t)) docs) (own_ids (length_id schema analyze (field_of t)) docs))
      ∙ ap (λ ps. pairs_of (term_scored (by_term schema analyze sim b t option) (map (length_id schema analyze (field_of t)) docs) (map (entry_as option) ps))) (sym (held t) ∙ here)
