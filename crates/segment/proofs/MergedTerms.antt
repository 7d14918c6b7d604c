-- The fields of a merge are the sections of the merged segment.
use Rattle.std.proofs.Common.{[], List, Some, ap, flat_map, length, map, slice_get, subst, sym, true, ◌++◌, ◌≡◌, ◌≤◌, ◌∙◌, ◌∷◌, ℕ}
use Rattle.std.specs.List.{AllByRecursion}
use Rattle.definitions.proofs.DocumentBounds.{all-map as all_then}
use Rattle.definitions.specs.Postings.{Posting}
use Rattle.definitions.specs.Schema.{Entry, Schema, has_positions, max_fields}
use Rattle.layouts.specs.InvertedIndexes.{AreSections, HasPositions, IndexedField, IndexedTerm, IsField, IsTerm, field_ids, field_terms, option_of_term, term_of_key, Sections}
use Rattle.layouts.specs.Positions.{position_numbers}
use Rattle.layouts.specs.TermPostings.{AreTermPostings}
use Rattle.layouts.specs.TermSections.{block_size, field_terms_bytes}
use Rattle.merging.specs.Members.{AreMembers, merged_in}
use Rattle.merging.specs.MergedFields.{IsTermGiven}
use Rattle.merging.specs.ToldFields.{AreMerged, IsMergedField}
use Rattle.merging.specs.declared.member.Member.{Member}
use Rattle.postings_writer.specs.TermWriting.{recorded_count}
use Rattle.postings_writer.proofs.Bridges.{same_option}
use Rattle.postings_writer.specs.Fields.{option_of_key}
use Rattle.segment.proofs.GivenTerms.{small_number}
use Rattle.segment.proofs.HeldPostings.{IsHeld, all_postings, counts_recorded, merged_held}
use Rattle.segment_reader.proofs.TermsHeld.{term_there as whole_term}

module _ (schema : Schema) (num_docs : ℕ) (norms : List (ℕ × List ℕ)) (ms : List Member) (all : List (List IndexedField)) (few : length schema ≤ max_fields) (are : AreMembers schema 0 num_docs ms all) where
  -- what is recorded of a term
  pub option_is : (field : ℕ) (e : Entry) (key : List ℕ) → slice_get schema field ≡ Some e → option_of_term schema (term_of_key schema field key) ≡ option_of_key e key
  option_is field e key at = ap (option_of_term schema) (whole_term schema field e key at) ∙ same_option schema field e key (small_number schema field e few at) at

  term_stands : (field : ℕ) (e : Entry) (t : IndexedTerm) → slice_get schema field ≡ Some e → IsTermGiven e (field_ids norms field) (λ key. merged_in field key ms all) t → IsTerm (option_of_term schema (term_of_key schema field t.key)) num_docs (field_ids norms field) t
  term_stands field e t at is =
      let option = option_of_term schema (term_of_key schema field t.key) in
      let ids = field_ids norms field in
      let held : AllByRecursion (IsHeld option num_docs) t.postings = subst (AllByRecursion (IsHeld option num_docs)) (sym is.postings_are) (merged_held schema 0 num_docs ms all field t.key are) in
      let spelled : AreTermPostings option ids (map (λ (p : Posting). p.doc) t.postings) (map (λ (p : Posting). recorded_count option p.count) t.postings) t.postings_bytes =
      subst (λ o. AreTermPostings o ids (map (λ (p : Posting). p.doc) t.postings) (map (λ (p : Posting). recorded_count o p.count) t.postings) t.postings_bytes) (sym (option_is field e t.key at)) is.spelled.postings_are in
      record {
        has_postings = is.has_postings;
        each_posting = all_postings option num_docs t.postings held;
        postings_are = subst (λ ns. AreTermPostings option ids (map (λ (p : Posting). p.doc) t.postings) ns t.postings_bytes) (counts_recorded option num_docs t.postings held) spelled;
        positions_are = subst (λ o. HasPositions (has_positions o) (position_numbers (map (λ (p : Posting). p.positions) t.postings)) t.positions_bytes) (sym (option_is field e t.key at)) is.spelled.positions_are;
      }

  field_stands : (f : IndexedField) → IsMergedField schema norms ms all f → IsField schema num_docs norms f
  field_stands f is = record {
    ascend = is.is_given.ascend;
    terms_fit = is.is_given.terms_fit;
    tokens_fit = is.is_given.tokens_fit;
    each_term = all_then (IsTermGiven is.entry (field_ids norms f.field) (λ key. merged_in f.field key ms all)) (λ (t : IndexedTerm). IsTerm (option_of_term schema (term_of_key schema f.field t.key)) num_docs (field_ids norms f.field) t) f.terms (λ t term. term_stands f.field is.entry t is.at term) is.is_given.each_term;
  }

  pub sections_stand : (was now : Sections) (terms postings positions : List ℕ) (merged : AreMerged schema norms ms all was now) → was ≡ record { terms = 1 ∷ []; postings = []; positions = [] } → terms ≡ now.terms → postings ≡ now.postings → positions ≡ now.positions → AreSections schema num_docs norms merged.fields terms postings positions
  sections_stand was now terms postings positions merged new terms_are postings_are positions_are = record {
    names = merged.names;
    each_field = all_then (IsMergedField schema norms ms all) (IsField schema num_docs norms) merged.fields field_stands merged.each_field;
    terms_are = (true, terms_are ∙ merged.added.terms ∙ ap (λ (s : Sections). s.terms ++ flat_map (field_terms_bytes (block_size true)) (map field_terms merged.fields)) new);
    postings_are = postings_are ∙ merged.added.postings ∙ ap (λ (s : Sections). s.postings ++ flat_map (λ (f : IndexedField). flat_map (λ (t : IndexedTerm). t.postings_bytes) f.terms) merged.fields) new;
    positions_are = positions_are ∙ merged.added.positions ∙ ap (λ (s : Sections). s.positions ++ flat_map (λ (f : IndexedField). flat_map (λ (t : IndexedTerm). t.positions_bytes) f.terms) merged.fields) new;
  }
