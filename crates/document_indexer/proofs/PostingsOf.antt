-- The positions of a term in documents give its postings there.
use Rattle.std.proofs.Common.{[], ◌&&◌, ◌++◌, ◌+◌, ◌<◌, ◌≡◌, ◌∙◌, ◌∷◌, ◌||◌, Bool, List, None, Option, Some, ap, ap₂, bytes_eq, cond, false, filter, filter_map, flat_map, if◌then◌else◌, length, map, refl, slice_get, subst, sym, true, ℕ}
use Rattle.std.specs.List.{cons_option, enumerate_from, list_any}
use Rattle.std.specs.Option.{option_map_or}
use Rattle.definitions.proofs.Ranking.{All_weaker as all_weaker}
use Rattle.definitions.specs.Analyzers.{Analyzer}
use Rattle.definitions.specs.Indexing.{Placed, terms_of}
use Rattle.definitions.specs.Postings.{Posting, posting_of, postings}
use Rattle.definitions.specs.Recorded.{ascending, holds, is_recorded, occurrences}
use Rattle.definitions.specs.Schema.{Entry, IndexRecordOption, Schema, basic, has_freq, has_positions}
use Rattle.definitions.specs.Terms.{field_of, is_text_term}
use Rattle.definitions.specs.Values.{Document}
use Rattle.layouts.specs.InvertedIndexes.{AreGiven, HasPostingsOf, IndexedField, IndexedTerm, option_of_term, term_of_key}
use Rattle.postings_writer.specs.Occurrences.{by_document, posting_in}
use Rattle.document_indexer.specs.Indexed.{doc_positions, positions_in}
use Rattle.document_indexer.proofs.Grouping.{all_grouped, groups_from, has_some, positions_from}

-- what is recorded, by the option
pub recorded : (test : IndexRecordOption → Bool) (schema : Schema) (t : List ℕ) → test basic ≡ false → test (option_of_term schema t) ≡ is_recorded test schema t
recorded test schema t none = go (is_text_term t) (slice_get schema (field_of t))
  where
    go : (b : Bool) (o : Option Entry) → test (if b then option_map_or (λ (e : Entry). e.record_option) o basic else basic) ≡ (b && option_map_or (λ (e : Entry). test e.record_option) o false)
    go true None = none
    go true (Some e) = refl
    go false o = none

-- an element passes where the filter leaves some
some_left : (test : Placed → Bool) (n : ℕ) (ps : List Placed) → list_any test ps ≡ has_some (n, map (λ p. p.1) (filter test ps))
some_left test n [] = refl
some_left test n (p ∷ ps) = go (test p) (some_left test n ps)
  where
    go : (b : Bool) → list_any test ps ≡ has_some (n, map (λ p. p.1) (filter test ps)) → (b || list_any test ps) ≡ has_some (n, map (λ (p : Placed). p.1) (cond b (p ∷ filter test ps) (filter test ps)))
    go true ih = refl
    go false ih = ih

module _ (schema : Schema) (analyze : Analyzer) (t : List ℕ) where
  -- where each document has the term
  abbrev pub positions : List Document → List (List ℕ)
  positions docs = map (occurrences schema analyze t) docs

  pub positions_are : (k : ℕ) (docs : List Document) → flat_map (doc_positions schema analyze t) (enumerate_from k docs) ≡ positions_from k (positions docs)
  positions_are k [] = refl
  positions_are k (doc ∷ docs) = ap (λ ps. doc_positions schema analyze t (k, doc) ++ ps) (positions_are (k + 1) docs)

  abbrev option : IndexRecordOption
  option = option_of_term schema t

  -- the postings of these groups
  groups_are : (k : ℕ) (docs : List Document) → map (posting_in option) (groups_from k (positions docs)) ≡ filter_map (posting_of schema analyze t) (enumerate_from k docs)
  groups_are k [] = refl
  groups_are k (doc ∷ docs) = go (occurrences schema analyze t doc) refl (groups_are (k + 1) docs)
    where
      rest : List (ℕ × List ℕ)
      rest = groups_from (k + 1) (positions docs)

      later : List Posting
      later = filter_map (posting_of schema analyze t) (enumerate_from (k + 1) docs)

      here : List ℕ → Posting
      here xs = record { doc = k; count = if is_recorded has_freq schema t then length xs else 1; positions = if is_recorded has_positions schema t then ascending xs else [] }

      same : (xs : List ℕ) → posting_in option (k, xs) ≡ here xs
      same xs = ap₂ (λ a b. record { doc = k; count = if a then length xs else 1; positions = if b then ascending xs else [] }) (recorded has_freq schema t refl) (recorded has_positions schema t refl)

      go : (xs : List ℕ) → occurrences schema analyze t doc ≡ xs → map (posting_in option) rest ≡ later
          → map (posting_in option) (cond (has_some (k, occurrences schema analyze t doc)) ((k, occurrences schema analyze t doc) ∷ rest) rest) ≡ cons_option (posting_of schema analyze t (k, doc)) later
      go xs is ih = whole (holds schema analyze t doc) (has_some (k, occurrences schema analyze t doc)) (some_left (λ p. bytes_eq p.0 t) k (terms_of schema analyze doc))
        where
          whole : (a b : Bool) → a ≡ b → map (posting_in option) (cond b ((k, occurrences schema analyze t doc) ∷ rest) rest) ≡ cons_option (if a then Some (here (occurrences schema analyze t doc)) else None) later
          whole true true e = ap₂ (λ p ps. p ∷ ps) (same (occurrences schema analyze t doc)) ih
          whole false false e = ih
          whole true false e = cc
          whole false true e = cc

  -- the positions give the postings
  pub postings_are : (docs : List Document) → map (posting_in option) (by_document (positions_in schema analyze t docs)) ≡ postings schema analyze t docs
  postings_are docs = ap (λ ps. map (posting_in option) (by_document ps)) (positions_are 0 docs) ∙ ap (map (posting_in option)) (all_grouped 0 (positions docs)) ∙ groups_are 0 docs

-- the fields of equal postings
pub given_are : (schema : Schema) (given others : List ℕ → List Posting) (fields : List IndexedField) → ((t : List ℕ) → given t ≡ others t) → AreGiven given schema fields → AreGiven others schema fields
given_are schema given others fields same are = record {
  each_field = all_weaker (HasPostingsOf given schema) (HasPostingsOf others schema) (λ f. all_weaker (λ (t : IndexedTerm). t.postings ≡ given (term_of_key schema f.field t.key)) (λ (t : IndexedTerm). t.postings ≡ others (term_of_key schema f.field t.key)) (λ t is. is ∙ same (term_of_key schema f.field t.key)) f.terms) fields are.each_field;
  all = λ t some. are.all t (subst (λ ps. 0 < length ps) (sym (same t)) some);
}
