use Rattle.std.proofs.Common.{Bool, List, ap, false, if◌then◌else◌, length, nat_eq, replicate, subst, sym, ◌∙◌, ◌≡◌, ℕ}
use Rattle.definitions.specs.Lengths.{fieldnorm_to_id}
use Rattle.segment_postings.specs.Reading.{HasPostings}
use Rattle.scorer_cases.proofs.scored_terms.told.Goals as goal

-- bytes are the postings of documents that were written with these lengths
abbrev Written : Bool → ℕ → List ℕ → List ℕ → Type 0
Written recorded n bytes lengths = (ds counts : List ℕ) × (known : HasPostings recorded false n bytes ds counts) × (known.ids ≡ lengths)

-- the lengths of a field with these ids
abbrev lengths_in : ℕ → List ℕ → List ℕ
lengths_in num_docs ids = if nat_eq (length ids) 0 then replicate num_docs (fieldnorm_to_id 1) else ids

pub scorer-requires-clause-written : goal.scorer-requires-clause-written
scorer-requires-clause-written c =
    let recorded = c.in_ok-recorded.recorded in
    let lengths = c.in_ok-lengths_of.field-0 in
    let many = c.deref-2.ensures.len ∙ sym c.len.ensures in
    let ids = ap (lengths_in c.args.num_docs) (c.deref-3.ensures.value ∙ sym c.deref-5.ensures.value) in
    let same = c.in_ok-lengths_of.ensures ∙ (ids ∙ sym c.in_ok-lengths.ensures) in
    let docs = subst (λ n. Written recorded n c.in_ok-bytes.bytes.items lengths) many c.in_ok-bytes.ensures in
    let bytes = subst (λ xs. Written recorded c.len.result xs lengths) (sym c.deref-6.ensures.value) docs in
    subst (λ xs. Written recorded c.len.result c.deref-6.result.now xs) same bytes
