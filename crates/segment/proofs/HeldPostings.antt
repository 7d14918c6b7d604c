-- The postings of a merged term are postings in the merged segment.
use Rattle.std.proofs.Common.{[], Bool, List, Some, ap, arith, bytes_eq, false, filter, find, if◌then◌else◌, length, map, refl, subst, sym, true, ◌+◌, ◌==◌, ◌≡◌, ◌≤◌, ◌∙◌, ◌∷◌, ℕ}
use Rattle.std.proofs.lemmas.Bool.Decides.{nat_tests}
use Rattle.std.proofs.lemmas.Slice.Eq.{bytes_eq-Decides}
use Rattle.std.specs.List.{AllByRecursion, slice_index_or}
use Rattle.std.specs.Option.{option_map_or}
use Rattle.definitions.proofs.Lists.{all_append as both_held}
use Rattle.definitions.specs.Merging.{at_document, num_living, rank, renumbered}
use Rattle.definitions.specs.Postings.{Posting}
use Rattle.definitions.specs.Schema.{IndexRecordOption, Schema, has_freq, has_positions}
use Rattle.segment_reader.specs.FieldDictionaries.{terms_in}
use Rattle.segment_reader.specs.Readers.{postings_in}
use Rattle.layouts.specs.InvertedIndexes.{IndexedField, IndexedTerm, IsField, IsPosting, IsTerm, field_ids, option_of_term, term_of_key}
use Rattle.merging.proofs.MembersWritten.{ends_rise}
use Rattle.merging.specs.Members.{AreMembers, merged_in}
use Rattle.merging.specs.declared.member.Member.{Member}
use Rattle.merging.proofs.Numbers.{number_within}
use Rattle.merging.specs.Mappings.{end_of}
use Rattle.postings_writer.specs.TermWriting.{recorded_count}

-- a posting in a segment of `num_docs` documents, whose count is 1 where none is recorded
pub record IsHeld (option : IndexRecordOption) (num_docs : ℕ) (p : Posting) : Type 0 where
  pub posting : IsPosting (has_positions option) num_docs p
  pub alone : has_freq option ≡ false → p.count ≡ 1

-- ---- of a member's term

term_held : (option : IndexRecordOption) (n : ℕ) (ids : List ℕ) (t : IndexedTerm) → IsTerm option n ids t → AllByRecursion (IsHeld option n) t.postings
term_held option n ids t is = go t.postings is.each_posting is.postings_are.posted.alone
  where
    go : (ps : List Posting) → AllByRecursion (IsPosting (has_positions option) n) ps → (has_freq option ≡ false → AllByRecursion (λ k. k ≡ 1) (map (λ (p : Posting). p.count) ps)) → AllByRecursion (IsHeld option n) ps
    go [] each alone = tt
    go (p ∷ ps) each alone = (record { posting = each.0; alone = λ none. (alone none).0 }, go ps each.1 (λ none. (alone none).1))

module _ (schema : Schema) (n : ℕ) (norms : List (ℕ × List ℕ)) (field : ℕ) where
  -- a term of the field, as the layout has it
  abbrev IsOwn : IndexedTerm → Type 0
  IsOwn t = IsTerm (option_of_term schema (term_of_key schema field t.key)) n (field_ids norms field) t

  own_terms : (fields : List IndexedField) → AllByRecursion (IsField schema n norms) fields → AllByRecursion IsOwn (terms_in field fields)
  own_terms [] each = tt
  own_terms (f ∷ fields) each = go (f.field == field) refl (own_terms fields each.1)
    where
      go : (b : Bool) → (f.field == field) ≡ b → AllByRecursion IsOwn (terms_in field fields) → AllByRecursion IsOwn (if b then f.terms else terms_in field fields)
      go true is rest = (
          let same : f.field ≡ field = grind (arith, nat_tests, is) in
          subst (λ k. AllByRecursion (λ (t : IndexedTerm). IsTerm (option_of_term schema (term_of_key schema k t.key)) n (field_ids norms k) t) f.terms) same each.0.each_term)
      go false is rest = rest

  found_held : (key : List ℕ) (ts : List IndexedTerm) → AllByRecursion IsOwn ts → AllByRecursion (IsHeld (option_of_term schema (term_of_key schema field key)) n) (option_map_or (λ (x : IndexedTerm). x.postings) (find (λ (x : IndexedTerm). bytes_eq x.key key) ts) [])
  found_held key [] each = tt
  found_held key (t ∷ ts) each = go (bytes_eq t.key key) refl (found_held key ts each.1)
    where
      option : IndexRecordOption
      option = option_of_term schema (term_of_key schema field key)

      go : (b : Bool) → bytes_eq t.key key ≡ b → AllByRecursion (IsHeld option n) (option_map_or (λ (x : IndexedTerm). x.postings) (find (λ (x : IndexedTerm). bytes_eq x.key key) ts) []) → AllByRecursion (IsHeld option n) (option_map_or (λ (x : IndexedTerm). x.postings) (if b then Some t else find (λ (x : IndexedTerm). bytes_eq x.key key) ts) [])
      go true is rest = (
          let same : t.key ≡ key = (bytes_eq-Decides t.key key).0 is in
          subst (λ k. AllByRecursion (IsHeld (option_of_term schema (term_of_key schema field k)) n) t.postings) same (term_held (option_of_term schema (term_of_key schema field t.key)) n (field_ids norms field) t each.0))
      go false is rest = rest

  pub postings_held : (key : List ℕ) (fields : List IndexedField) → AllByRecursion (IsField schema n norms) fields → AllByRecursion (IsHeld (option_of_term schema (term_of_key schema field key)) n) (postings_in fields field key)
  postings_held key fields each = found_held key (terms_in field fields) (own_terms fields each)

-- ---- under their new numbers

living_held : (option : IndexRecordOption) (base n : ℕ) (flags : List Bool) (ps : List Posting) → base + num_living flags ≤ n → AllByRecursion (IsHeld option (length flags)) ps → AllByRecursion (IsHeld option n) (renumbered base flags ps)
living_held option base n flags [] few each = tt
living_held option base n flags (p ∷ ps) few each = go (slice_index_or flags p.doc false) refl (living_held option base n flags ps few each.1)
  where
    go : (b : Bool) → slice_index_or flags p.doc false ≡ b → AllByRecursion (IsHeld option n) (renumbered base flags ps) → AllByRecursion (IsHeld option n) (map (λ (q : Posting). at_document (base + rank flags q.doc) q) (if b then p ∷ filter (λ (q : Posting). slice_index_or flags q.doc false) ps else filter (λ (q : Posting). slice_index_or flags q.doc false) ps))
    go true living rest = (
        let before = number_within flags p.doc living in (
          record {
            posting = record { within = omega (arith, few, before); counted = each.0.posting.counted; placed = each.0.posting.placed; placed_fit = each.0.posting.placed_fit };
            alone = each.0.alone;
          },
          rest,
        ))
    go false dead rest = rest

pub merged_held : (schema : Schema) (next end : ℕ) (ms : List Member) (all : List (List IndexedField)) (field : ℕ) (key : List ℕ) → AreMembers schema next end ms all → AllByRecursion (IsHeld (option_of_term schema (term_of_key schema field key)) end) (merged_in field key ms all)
merged_held schema next end [] all field key are = tt
merged_held schema next end (m ∷ ms) [] field key are = tt
merged_held schema next end (m ∷ ms) (fields ∷ all) field key are =
    let option = option_of_term schema (term_of_key schema field key) in
    let own = postings_held schema (length m.doc_ids.flags) are.0.norms field key fields are.0.is_reader.sections.each_field in
    both_held (IsHeld option end) (renumbered m.doc_ids.base m.doc_ids.flags (postings_in fields field key)) (merged_in field key ms all)
    (living_held option m.doc_ids.base end m.doc_ids.flags (postings_in fields field key) (ends_rise schema (end_of m.doc_ids) end ms all are.2) own)
    (merged_held schema (end_of m.doc_ids) end ms all field key are.2)

-- ---- what is written of them

pub counts_recorded : (option : IndexRecordOption) (n : ℕ) (ps : List Posting) → AllByRecursion (IsHeld option n) ps → map (λ (p : Posting). recorded_count option p.count) ps ≡ map (λ (p : Posting). p.count) ps
counts_recorded option n [] each = refl
counts_recorded option n (p ∷ ps) each = go (has_freq option) refl (counts_recorded option n ps each.1)
  where
    go : (b : Bool) → has_freq option ≡ b → map (λ (q : Posting). recorded_count option q.count) ps ≡ map (λ (q : Posting). q.count) ps → (recorded_count option p.count ∷ map (λ (q : Posting). recorded_count option q.count) ps) ≡ p.count ∷ map (λ (q : Posting). q.count) ps
    go true is rest = ap (λ b. (if b then p.count else 1) ∷ map (λ (q : Posting). recorded_count option q.count) ps) is ∙ ap (λ ns. p.count ∷ ns) rest
    go false is rest = ap (λ b. (if b then p.count else 1) ∷ map (λ (q : Posting). recorded_count option q.count) ps) is ∙ (ap (λ n. n ∷ map (λ (q : Posting). recorded_count option q.count) ps) (sym (each.0.alone is)) ∙ ap (λ ns. p.count ∷ ns) rest)

pub all_postings : (option : IndexRecordOption) (n : ℕ) (ps : List Posting) → AllByRecursion (IsHeld option n) ps → AllByRecursion (IsPosting (has_positions option) n) ps
all_postings option n [] each = tt
all_postings option n (p ∷ ps) each = (each.0.posting, all_postings option n ps each.1)
