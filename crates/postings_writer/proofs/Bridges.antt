-- Recorders of occurrences as postings, and what is recorded of a term by its value bytes.
use Rattle.std.proofs.Common.{[], ◌<◌, ◌^◌, ◌≡◌, ◌∙◌, ◌∷◌, List, Some, ap, cond, length, map, refl, slice_get, ℕ}
use Rattle.std.specs.Option.{option_map_or}
use Rattle.definitions.specs.Schema.{Entry, IndexRecordOption, Schema, basic, with_freqs, with_freqs_and_positions}
use Rattle.definitions.specs.Terms.{field_of, term_bytes}
use Rattle.layouts.specs.InvertedIndexes.{option_of_term}
use Rattle.postings_writer.specs.Fields.{option_of_key}
use Rattle.postings_writer.specs.Occurrences.{by_document, posting_in, postings_at}
use Rattle.postings_writer.specs.Recorders.{recorded_as}
use Rattle.postings_writer.specs.Serializing.{of_count, of_doc, postings_from}
use Rattle.terms.proofs.TermParts.{field_of-term, text_terms}
use Rattle.terms.specs.TextKeys.{is_text_key}

-- the recorder of occurrences stands for their postings
pub recorded_postings : (option : IndexRecordOption) (ps : List (ℕ × ℕ)) → postings_from (recorded_as option ps) 0 ≡ postings_at option ps
recorded_postings basic ps = go (by_document ps)
  where
    go : (gs : List (ℕ × List ℕ)) → map of_doc (map (λ g. g.0) gs) ≡ map (posting_in basic) gs
    go [] = refl
    go (g ∷ gs) = ap (λ qs. of_doc g.0 ∷ qs) (go gs)
recorded_postings with_freqs ps = go (by_document ps)
  where
    go : (gs : List (ℕ × List ℕ)) → map of_count (map (λ g. (g.0, length g.1)) gs) ≡ map (posting_in with_freqs) gs
    go [] = refl
    go (g ∷ gs) = ap (λ qs. of_count (g.0, length g.1) ∷ qs) (go gs)
recorded_postings with_freqs_and_positions ps = refl

-- what is recorded of a term
pub same_option : (schema : Schema) (f : ℕ) (e : Entry) (key : List ℕ) → f < 2 ^ 32 → slice_get schema f ≡ Some e → option_of_term schema (term_bytes f e.kind key) ≡ option_of_key e key
same_option schema f e key fits at =
    ap (λ b. cond b (option_map_or (λ (x : Entry). x.record_option) (slice_get schema (field_of (term_bytes f e.kind key))) basic) basic) (text_terms f e.kind key)
    ∙ ap (λ o. cond (is_text_key e.kind key) (option_map_or (λ (x : Entry). x.record_option) o basic) basic) (ap (slice_get schema) (field_of-term f e.kind key fits) ∙ at)
