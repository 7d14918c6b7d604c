-- The rows that readers of segments have.
use Rattle.std.proofs.Common.{[], ◌++◌, ◌<◌, ◌∙◌, ◌∷◌, ◌≡◌, Bool, List, Option, Some, ap, ap₂, arith, get_or, length, map, refl, replicate, subst, suc, sym, take, true, zero, ℕ}
use Rattle.std.proofs.Math.Seq.{take-suc}
use Rattle.std.proofs.lemmas.List.{map-append}
use Rattle.std.specs.List.{AllZip}
use Rattle.std.specs.Option.{option_map_or}
use Rattle.definitions.specs.Analyzers.{Analyzer}
use Rattle.definitions.specs.Merging.{documents_in, flags_of}
use Rattle.definitions.specs.Schema.{Schema}
use Rattle.definitions.specs.Values.{Document}
use Rattle.scorer_answers.specs.Rows.{HasRows, flags_in}
use Rattle.segment.proofs.Opening.{one_segment}
use Rattle.segment.specs.Opened.{StandsFor, num_docs_of}
use Rattle.segment.specs.declared.segment.Segment as code
use Rattle.segment_definitions.specs.Rows.{flagged}
use Rattle.segment_reader.specs.SegmentReaders as readers
use Rattle.segment_reader.specs.declared.segment_reader.SegmentReader.{SegmentReader}
use Rattle.segment_search.specs.Flags.{AreFlagged, flagged_each}

-- a segment has as many documents as it says
pub docs_counted : (schema : Schema) (analyze : Analyzer) (docs : List Document) (s : code.Segment) → StandsFor schema analyze docs s → length docs ≡ num_docs_of s
docs_counted schema analyze docs s stands =
    let o = stands.opened in
    sym (one_segment s.num_docs (length docs) o.sections stands.bytes_are.sections s.bytes o.written stands.bytes_are.written).0

-- documents with as many flags are the documents of their rows
pub documents_flagged : (docs : List Document) (flags : List Bool) → length flags ≡ length docs → documents_in (flagged docs flags) ≡ docs
documents_flagged [] flags e = refl
documents_flagged (doc ∷ docs) [] e = absurd (omega (arith, e))
documents_flagged (doc ∷ docs) (flag ∷ flags) e = ap (λ ds. doc ∷ ds) (documents_flagged docs flags (omega (arith, e)))

-- and the flags are their flags
pub flags_flagged : (docs : List Document) (flags : List Bool) → length flags ≡ length docs → flags_of (flagged docs flags) ≡ flags
flags_flagged [] [] e = refl
flags_flagged [] (flag ∷ flags) e = absurd (omega (arith, e))
flags_flagged (doc ∷ docs) [] e = absurd (omega (arith, e))
flags_flagged (doc ∷ docs) (flag ∷ flags) e = ap (λ fs. flag ∷ fs) (flags_flagged docs flags (omega (arith, e)))

-- a reader of a segment with its flags has its rows
pub row_read : (schema : Schema) (analyze : Analyzer) (docs : List Document) (flags : List Bool) (r : SegmentReader) → length flags ≡ length docs → readers.StandsFor schema analyze docs r → readers.alive_in r ≡ Some flags → HasRows schema analyze (flagged docs flags) r
row_read schema analyze docs flags r long stands alive = record {
  stands = subst (λ ds. readers.StandsFor schema analyze ds r) (sym (documents_flagged docs flags long)) stands;
  flags_are = flags_flagged docs flags long ∙ sym (ap (λ (set : Option (List Bool)). option_map_or (λ fs. fs) set (replicate (readers.max_doc_of r) true)) alive);
}

-- one reader more has the rows of one segment more
pub rows_read : (schema : Schema) (analyze : Analyzer) (docs : List (List Document)) (segments : List code.Segment) (sets : List (List Bool)) (rs : List SegmentReader) (i : ℕ) (s : code.Segment) (set : List Bool) (r : SegmentReader)
    → AllZip (StandsFor schema analyze) docs segments → AreFlagged segments sets → i < length sets → s ≡ get_or segments i s → set ≡ get_or sets i set
    → ((ds : List Document) → StandsFor schema analyze ds s → readers.StandsFor schema analyze ds r) → readers.alive_in r ≡ Some set
    → AllZip (HasRows schema analyze) (flagged_each docs (take i sets)) rs → AllZip (HasRows schema analyze) (flagged_each docs (take (suc i) sets)) (rs ++ r ∷ [])
rows_read schema analyze docs segments [] rs i s set r h f l a b reads alive g = absurd (omega (arith, l))
rows_read schema analyze docs [] (flags ∷ sets) rs i s set r h f l a b reads alive g = absurd f
rows_read schema analyze [] (x ∷ segments) (flags ∷ sets) rs i s set r h f l a b reads alive g = absurd h
rows_read schema analyze (ds ∷ docs) (x ∷ segments) (flags ∷ sets) [] zero s set r h f l a b reads alive g =
    let long = f.0 ∙ sym (docs_counted schema analyze ds x h.0) in
    (row_read schema analyze ds flags r long (reads ds (subst (StandsFor schema analyze ds) (sym a) h.0)) (alive ∙ ap Some b), tt)
rows_read schema analyze (ds ∷ docs) (x ∷ segments) (flags ∷ sets) (y ∷ rs) zero s set r h f l a b reads alive g = absurd g
rows_read schema analyze (ds ∷ docs) (x ∷ segments) (flags ∷ sets) [] (suc i) s set r h f l a b reads alive g = absurd g
rows_read schema analyze (ds ∷ docs) (x ∷ segments) (flags ∷ sets) (y ∷ rs) (suc i) s set r h f l a b reads alive g =
    (g.0, rows_read schema analyze docs segments sets rs i s set r h.1 f.1 (omega (arith, l)) a b reads alive g.1)

-- the flags of the readers so far, and of one more
pub flags_read : (sets : List (List Bool)) (rs : List SegmentReader) (i : ℕ) (set : List Bool) (r : SegmentReader) → i < length sets → set ≡ get_or sets i set → readers.alive_in r ≡ Some set → map flags_in rs ≡ take i sets → map flags_in (rs ++ r ∷ []) ≡ take (suc i) sets
flags_read sets rs i set r l is alive so_far =
    map-append flags_in rs (r ∷ [])
    ∙ ap₂ (λ before (own : Option (List Bool)). before ++ option_map_or (λ fs. fs) own (replicate (readers.max_doc_of r) true) ∷ []) so_far alive
    ∙ ap (λ one. take i sets ++ one ∷ []) is
    ∙ sym (take-suc sets i set l)

-- one element more is taken
pub take_next : {X : Type 0} (xs : List X) (i : ℕ) → i < length xs → length (take (suc i) xs) ≡ suc (length (take i xs))
take_next [] i l = absurd (omega (arith, l))
take_next (y ∷ xs) zero l = refl
take_next (y ∷ xs) (suc i) l = ap suc (take_next xs i (omega (arith, l)))
