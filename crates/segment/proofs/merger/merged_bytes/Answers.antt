use Rattle.std.proofs.Common.{List, arith, drop, inl, inr, length, subst, sym, ◌≡◌, ◌∙◌, ℕ, map}
use Rattle.std.proofs.Math.Logic.{∥∥₁_elim, ∥∥₁_map}
use Rattle.std.proofs.Props.{props}
use Rattle.std.proofs.lemmas.Result.{err_from_is_err_and}
use Rattle.std.specs.List.{AllByRecursion, AllByRecursion-prop}
use Rattle.definitions.specs.Alive.{live}
use Rattle.definitions.specs.KeptLengths.{length_fields, norms_of}
use Rattle.definitions.specs.Postings.{postings}
use Rattle.definitions.specs.Schema.{Schema}
use Rattle.document_indexer.proofs.KeptLengths.{fields_ascend}
use Rattle.layouts.specs.Deltas.{IsAscendingFrom}
use Rattle.layouts.specs.FieldNorms.{IsNorms}
use Rattle.layouts.specs.InvertedIndexes.{AreSections}
use Rattle.postings_writer.specs.Limits.{IsSerializeRefusal}
use Rattle.segment.proofs.Opening.{norms_over}
use Rattle.segment_definitions.specs.Segments.{AreWritten, IsSegment, Sections}
use Rattle.segment.proofs.BehindPrefixes.{front_stands, written_behind}
use Rattle.segment.proofs.MergedSegments.{living_is, none_damaged, segment_is, segment_of}
use Rattle.segment.proofs.LongSlots.{long_slot}
use Rattle.segment.proofs.MergedStores.{slots_of, standing_held}
use Rattle.segment.specs.Members.{living_count, member_of}
use Rattle.segment.proofs.merger.merged_bytes.Goals as goal

-- the section of lengths, by other names of its fields, of its bytes and of how many documents there are
lent : (schema : Schema) (n many : ℕ) (fields bytes others : List ℕ) (norms : List (ℕ × List ℕ)) → n ≡ many → fields ≡ length_fields schema → others ≡ bytes → IsNorms (length_fields schema) many bytes norms → IsNorms fields n others norms
lent schema n many fields bytes others norms counted named same is = norms_over schema n fields bytes others norms named same (subst (λ k. IsNorms (length_fields schema) k bytes norms) (sym counted) is)

pub merge_lengths-requires : goal.merge_lengths-requires
merge_lengths-requires c = ∥∥₁_map c.requires.opened (λ opened. (c.args.schema.now, opened))

pub new-readers-requires-clause-ascend : goal.new-readers-requires-clause-ascend
new-readers-requires-clause-ascend c = subst (IsAscendingFrom 0) (sym (c.deref-3.ensures.value ∙ c.in_ok-fields.ensures)) (fields_ascend c.args.schema.now)

pub new-readers-requires-clause-known : goal.new-readers-requires-clause-known
new-readers-requires-clause-known c =
    let schema = c.args.schema.now in
    ∥∥₁_map c.requires.opened (λ opened.
    (let found = c.in_ok-norms.ensures.opened schema (c.deref.ensures.value ∙ c.in_ok-fields.ensures) opened in
    (found.0, lent schema c.args.num_docs (living_count (map member_of c.args.members.now)) c.deref-3.result.now c.in_ok-norms.norms.items c.deref-2.result.now found.0 c.requires.living (c.deref-3.ensures.value ∙ c.in_ok-fields.ensures) c.deref-2.ensures.value found.1)))

pub merge_terms-requires-clause-lengths : goal.merge_terms-requires-clause-lengths
merge_terms-requires-clause-lengths c =
    let schema = c.args.schema.now in
    let many = living_count (map member_of c.args.members.now) in
    ∥∥₁_elim c.requires.opened (AllByRecursion-prop (λ (p : ℕ × List ℕ). length p.1 ≡ many) (λ p. hlevel props) c.new-readers.result) (λ opened.
    (let found = c.in_ok-norms.ensures.opened schema (c.deref.ensures.value ∙ c.in_ok-fields.ensures) opened in
    let readers = c.new-readers.ensures found.0 (lent schema c.args.num_docs many c.deref-3.result.now c.in_ok-norms.norms.items c.deref-2.result.now found.0 c.requires.living (c.deref-3.ensures.value ∙ c.in_ok-fields.ensures) c.deref-2.ensures.value found.1) in
    subst (AllByRecursion (λ (p : ℕ × List ℕ). length p.1 ≡ many)) (sym readers) found.1.counts))

pub merge_slots-requires : goal.merge_slots-requires
merge_slots-requires c = ∥∥₁_map c.requires.opened (λ opened. (c.args.schema.now, opened))

pub returns-in_err-terms-clause-limit : goal.returns-in_err-terms-clause-limit
returns-in_err-terms-clause-limit c analyze segments stand =
    let schema = c.args.schema.now in
    let fault = c.in_err-terms.field-0.0 in
    let documents = c.in_ok-norms.ensures.stands schema analyze segments (c.deref.ensures.value ∙ c.in_ok-fields.ensures) stand in
    let readers = c.new-readers.ensures (norms_of schema analyze (live segments)) (lent schema c.args.num_docs (living_count (map member_of c.args.members.now)) c.deref-3.result.now c.in_ok-norms.norms.items c.deref-2.result.now (norms_of schema analyze (live segments)) c.requires.living (c.deref-3.ensures.value ∙ c.in_ok-fields.ensures) c.deref-2.ensures.value documents) in
    let refused = subst (λ ns. IsSerializeRefusal fault schema ns (λ t. postings schema analyze t (live segments))) readers (c.in_err-terms.ensures.limit analyze segments stand) in
    let p = err_from_is_err_and c.from_residual-in_err-terms.result c.from_residual-in_err-terms.ensures.1 in
    rw (p.1, p.2) (λ other. elim refused [ inl memory ↦ absurd (other memory) | inr limit ↦ (limit.0, inr (inl limit.1)) ])

pub returns-in_err-merge_slots-clause-err : goal.returns-in_err-merge_slots-clause-err
returns-in_err-merge_slots-clause-err c =
    let p = err_from_is_err_and c.from_residual-in_err-merge_slots.result c.from_residual-in_err-merge_slots.ensures.1 in
    rw (p.1, p.2) (λ other no_limit. elim c.in_err-merge_slots.ensures.err [
      | inl memory ↦ absurd (other memory)
      | inr r ↦ elim r [ inl limit ↦ absurd (no_limit limit.0) | inr damaged ↦ (damaged.0, λ all held. none_damaged (map member_of c.args.members.now) all damaged.1 held) ]
    ])

pub returns-in_err-merge_slots-clause-limit : goal.returns-in_err-merge_slots-clause-limit
returns-in_err-merge_slots-clause-limit c analyze segments stand =
    let schema = c.args.schema.now in
    let ms = map member_of c.args.members.now in
    let many = living_is schema analyze ms segments stand in
    let p = err_from_is_err_and c.from_residual-in_err-merge_slots.result c.from_residual-in_err-merge_slots.ensures.1 in
    rw (p.1, p.2) (λ other. elim c.in_err-merge_slots.ensures.err [
      | inl memory ↦ absurd (other memory)
      | inr r ↦ elim r [
        | inl limit ↦ (limit.0, elim limit.1 [ inl past ↦ inl (omega (arith, past, many)) | inr long ↦ inr (inr (long_slot schema analyze c.args.block_size ms segments stand long)) ])
        | inr damaged ↦ absurd (none_damaged ms (slots_of schema segments) damaged.1 (standing_held schema analyze ms segments stand))
      ]
    ])

pub returns-clause-front : goal.returns-clause-front
returns-clause-front c = front_stands c.args.prefix.items _ c.in_ok-put_behind.field-0.items c.in_ok-put_behind.ensures.whole

pub returns-clause-written : goal.returns-clause-written
returns-clause-written c =
    let sections : Sections = record { terms = c.in_ok-terms.terms.items; postings = c.in_ok-terms.postings.items; positions = c.in_ok-terms.positions.items; norms = c.in_ok-norms.norms.items; store = c.in_ok-merge_slots.field-0.items } in
    (sections, written_behind c.args.num_docs sections c.args.prefix.items c.in_ok-put_behind.field-0.items c.requires.some c.requires.few c.in_ok-put_behind.ensures.short c.in_ok-put_behind.ensures.whole)

pub returns-clause-known : goal.returns-clause-known
returns-clause-known c =
    let schema = c.args.schema.now in
    let ms = map member_of c.args.members.now in
    let many = living_count ms in
    let bytes = drop (length c.args.prefix.items) c.in_ok-put_behind.field-0.items in
    let sections : Sections = record { terms = c.in_ok-terms.terms.items; postings = c.in_ok-terms.postings.items; positions = c.in_ok-terms.positions.items; norms = c.in_ok-norms.norms.items; store = c.in_ok-merge_slots.field-0.items } in
    let written : AreWritten c.args.num_docs sections bytes = written_behind c.args.num_docs sections c.args.prefix.items c.in_ok-put_behind.field-0.items c.requires.some c.requires.few c.in_ok-put_behind.ensures.short c.in_ok-put_behind.ensures.whole in
    let blocks = c.in_ok-merge_slots.ensures.blocks in
    ∥∥₁_map c.requires.opened (λ opened.
    (let found = c.in_ok-norms.ensures.opened schema (c.deref.ensures.value ∙ c.in_ok-fields.ensures) opened in
    let readers = c.new-readers.ensures found.0 (lent schema c.args.num_docs many c.deref-3.result.now c.in_ok-norms.norms.items c.deref-2.result.now found.0 c.requires.living (c.deref-3.ensures.value ∙ c.in_ok-fields.ensures) c.deref-2.ensures.value found.1) in
    let terms = c.in_ok-terms.ensures.sections opened in
    let own = subst (λ ns. AreSections schema many ns terms.0 sections.terms sections.postings sections.positions) readers terms.1 in
    subst (λ n. IsSegment schema n bytes) (sym c.requires.living) (segment_is schema many sections bytes terms.0 found.0 blocks.0 (subst (λ n. AreWritten n sections bytes) c.requires.living written) own terms.2 found.1 blocks.1 blocks.2 blocks.3)))

pub returns-clause-stands : goal.returns-clause-stands
returns-clause-stands c analyze segments stand =
    let schema = c.args.schema.now in
    let ms = map member_of c.args.members.now in
    let bytes = drop (length c.args.prefix.items) c.in_ok-put_behind.field-0.items in
    let sections : Sections = record { terms = c.in_ok-terms.terms.items; postings = c.in_ok-terms.postings.items; positions = c.in_ok-terms.positions.items; norms = c.in_ok-norms.norms.items; store = c.in_ok-merge_slots.field-0.items } in
    let written : AreWritten c.args.num_docs sections bytes = written_behind c.args.num_docs sections c.args.prefix.items c.in_ok-put_behind.field-0.items c.requires.some c.requires.few c.in_ok-put_behind.ensures.short c.in_ok-put_behind.ensures.whole in
    let norms = norms_of schema analyze (live segments) in
    let documents = c.in_ok-norms.ensures.stands schema analyze segments (c.deref.ensures.value ∙ c.in_ok-fields.ensures) stand in
    let readers = c.new-readers.ensures norms (lent schema c.args.num_docs (living_count ms) c.deref-3.result.now c.in_ok-norms.norms.items c.deref-2.result.now norms c.requires.living (c.deref-3.ensures.value ∙ c.in_ok-fields.ensures) c.deref-2.ensures.value documents) in
    let terms = c.in_ok-terms.ensures.stands analyze segments stand in
    let own = subst (λ ns. AreSections schema (living_count ms) ns terms.0 sections.terms sections.postings sections.positions) readers terms.1 in
    segment_of schema analyze ms segments sections bytes terms.0 stand (subst (λ n. AreWritten n sections bytes) c.requires.living written) own terms.2 terms.3 documents (c.in_ok-merge_slots.ensures.ok (slots_of schema segments) (standing_held schema analyze ms segments stand))
