use Rattle.std.proofs.Common.{[], ◌∷◌, List, ap, arith, inl, inr, length, map, ◌∙◌, ◌≤◌, ◌≡◌, ℕ}
use Rattle.std.proofs.Math.Logic.{∥∥₁_elim, ∥∥₁_map}
use Rattle.std.proofs.Props.{props}
use Rattle.std.proofs.lemmas.Result.{err_from_is_err_and}
use Rattle.std.specs.List.{AllByRecursion}
use Rattle.merging.specs.declared.member.Member.{Member}
use Rattle.segment.proofs.IndexedTerms.{limit_passed, terms_indexed}
use Rattle.segment.proofs.KeyedMerges.{merged_keyed}
use Rattle.segment.proofs.MergedNorms.{standing_opened}
use Rattle.segment.proofs.MergedTerms.{sections_stand}
use Rattle.segment.proofs.NumberedMembers.{few_fields, members_from_zero, opened_keyed, opened_read, standing_read}
use Rattle.segment.specs.Members.{living_count, member_of}
use Rattle.segment.proofs.merged_terms.merge_terms.Goals as goal

-- no fewer lengths than documents
enough : (n : ℕ) (norms : List (ℕ × List ℕ)) → AllByRecursion (λ (p : ℕ × List ℕ). length p.1 ≡ n) norms → AllByRecursion (λ (p : ℕ × List ℕ). n ≤ length p.1) norms
enough n [] all = tt
enough n (p ∷ norms) all = ((let long = all.0 in omega (arith, long)), enough n norms all.1)

pub merge_fields-requires : goal.merge_fields-requires
merge_fields-requires c =
    let ms = map member_of c.args.members.now in
    let same = ap (map (λ (m : Member). (m.inverted_index.now, m.doc_ids))) c.deref.ensures.value ∙ c.in_ok-numbered.ensures in
    ∥∥₁_map c.requires.opened (λ opened.
    (let read = opened_read c.args.schema.now ms opened in
    (living_count ms, read.0, members_from_zero c.args.schema.now c.deref.result.now ms read.0 same read.1, c.requires.few, enough (living_count ms) c.args.fieldnorm_readers.now c.requires.lengths)))

pub returns-in_err-serializer-2-clause-err : goal.returns-in_err-serializer-2-clause-err
returns-in_err-serializer-2-clause-err c =
    let ms = map member_of c.args.members.now in
    let same = ap (map (λ (m : Member). (m.inverted_index.now, m.doc_ids))) c.deref.ensures.value ∙ c.in_ok-numbered.ensures in
    let p = err_from_is_err_and c.from_residual-in_err-serializer-2.result c.from_residual-in_err-serializer-2.ensures.1 in
    rw (p.1, p.2) (λ other. ∥∥₁_elim c.requires.opened (hlevel props) (λ opened.
    (let read = opened_read c.args.schema.now ms opened in
    let members = members_from_zero c.args.schema.now c.deref.result.now ms read.0 same read.1 in
    elim (c.in_err-serializer-2.ensures.err (living_count ms) read.0 members) [ inl memory ↦ absurd (other memory) | inr limit ↦ limit.0 ])))

pub returns-in_err-serializer-2-clause-limit : goal.returns-in_err-serializer-2-clause-limit
returns-in_err-serializer-2-clause-limit c analyze segments stand =
    let ms = map member_of c.args.members.now in
    let schema = c.args.schema.now in
    let xs = c.deref.result.now in
    let same = ap (map (λ (m : Member). (m.inverted_index.now, m.doc_ids))) c.deref.ensures.value ∙ c.in_ok-numbered.ensures in
    let have = standing_read schema analyze 0 xs ms segments same stand in
    let members = members_from_zero schema xs ms have.all same have.read in
    let p = err_from_is_err_and c.from_residual-in_err-serializer-2.result c.from_residual-in_err-serializer-2.ensures.1 in
    rw (p.1, p.2) (limit_passed schema analyze (living_count ms) c.args.fieldnorm_readers.now xs have.all segments (few_fields schema ms (standing_opened schema analyze ms segments stand) c.requires.some) members have.of c.in_err-serializer-2.field-0.0 (c.in_err-serializer-2.ensures.err (living_count ms) have.all members))

pub returns-clause-sections : goal.returns-clause-sections
returns-clause-sections c opened =
    let ms = map member_of c.args.members.now in
    let schema = c.args.schema.now in
    let xs = c.deref.result.now in
    let same = ap (map (λ (m : Member). (m.inverted_index.now, m.doc_ids))) c.deref.ensures.value ∙ c.in_ok-numbered.ensures in
    let read = opened_read schema ms opened in
    let members = members_from_zero schema xs ms read.0 same read.1 in
    let merged = c.in_ok-serializer-2.ensures.ok (living_count ms) read.0 members in
    (merged.fields, sections_stand schema (living_count ms) c.args.fieldnorm_readers.now xs read.0 (few_fields schema ms opened c.requires.some) members c.in_ok-serializer.serializer c.in_ok-serializer-2.serializer c.close.result.0.items c.close.result.1.items c.close.result.2.items merged c.in_ok-serializer.ensures c.close.ensures.terms c.close.ensures.postings c.close.ensures.positions, merged_keyed schema c.args.fieldnorm_readers.now xs read.0 (opened_keyed schema ms opened) merged.fields merged.each_field)

pub returns-clause-stands : goal.returns-clause-stands
returns-clause-stands c analyze segments stand =
    let ms = map member_of c.args.members.now in
    let schema = c.args.schema.now in
    let xs = c.deref.result.now in
    let readers = c.args.fieldnorm_readers.now in
    let few = few_fields schema ms (standing_opened schema analyze ms segments stand) c.requires.some in
    let same = ap (map (λ (m : Member). (m.inverted_index.now, m.doc_ids))) c.deref.ensures.value ∙ c.in_ok-numbered.ensures in
    let have = standing_read schema analyze 0 xs ms segments same stand in
    let members = members_from_zero schema xs ms have.all same have.read in
    let merged = c.in_ok-serializer-2.ensures.ok (living_count ms) have.all members in (
      merged.fields,
      sections_stand schema (living_count ms) readers xs have.all few members c.in_ok-serializer.serializer c.in_ok-serializer-2.serializer c.close.result.0.items c.close.result.1.items c.close.result.2.items merged c.in_ok-serializer.ensures c.close.ensures.terms c.close.ensures.postings c.close.ensures.positions,
      terms_indexed schema analyze (living_count ms) readers xs have.all segments few members have.of merged.fields merged.names merged.each_field,
      merged_keyed schema readers xs have.all have.keyed merged.fields merged.each_field,
    )
