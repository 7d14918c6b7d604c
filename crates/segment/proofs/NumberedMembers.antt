-- The members of a merge of terms, by the segments that are its members.
use Rattle.std.proofs.Common.{[], List, ap, ap₂, arith, drop, get_or, length, map, refl, subst, suc, sym, take, zero, zero-add, ◌++◌, ◌+◌, ◌<◌, ◌≡◌, ◌≤◌, ◌∙◌, ◌∷◌, ℕ}
use Rattle.std.specs.List.{AllByRecursion, slice_index_or}
use Rattle.std.specs.Prelude.{⊤}
use Rattle.definitions.specs.Alive.{Segment}
use Rattle.definitions.specs.Analyzers.{Analyzer}
use Rattle.definitions.specs.Merging.{documents_in, num_living}
use Rattle.definitions.specs.Schema.{Schema, max_fields}
use Rattle.segment_reader.specs.Readers.{IsReader, Reader}
use Rattle.layouts.specs.InvertedIndexes.{IndexedField}
use Rattle.merging.specs.Members.{AreMembers}
use Rattle.merging.specs.declared.member.Member as merged
use Rattle.merging.specs.Mappings.{Mapping, end_of}
use Rattle.segment_definitions.specs.Keys.{AreKeyed}
use Rattle.segment.proofs.Reading.{documents_read}
use Rattle.segment.specs.Opened.{index_of}
use Rattle.segment.proofs.IndexedTerms.{AreOfDocuments}
use Rattle.segment.proofs.MergedNorms.{standing_opened}
use Rattle.segment.specs.Members.{AreOpened, Member, StandFor, living_count, numbered}

abbrev pub view : merged.Member → Reader × Mapping
view m = (m.inverted_index.now, m.doc_ids)

abbrev pub at_base : ℕ → Member → Reader × Mapping
at_base base m = (index_of m.0, record { base = base; flags = m.1 })

-- ---- one member more

number_suc : (base k : ℕ) (ms : List Member) (d : Member) → k < length ms → numbered base (take (suc k) ms) ≡ numbered base (take k ms) ++ at_base (base + living_count (take k ms)) (slice_index_or ms k d) ∷ []
number_suc base k [] d within = absurd (omega (arith, within))
number_suc base zero (m ∷ ms) d within = ap (λ n. at_base n m ∷ []) (let e : base ≡ base + 0 = omega arith in e)
number_suc base (suc k) (m ∷ ms) d within =
    ap (λ xs. at_base base m ∷ xs) (number_suc (base + num_living m.1) k ms d (omega (arith, within)))
    ∙ ap (λ n. at_base base m ∷ (numbered (base + num_living m.1) (take k ms) ++ at_base n (slice_index_or ms k d) ∷ [])) (let e : base + num_living m.1 + living_count (take k ms) ≡ base + (num_living m.1 + living_count (take k ms)) = omega arith in e)

pub number_more : (k base : ℕ) (ms : List Member) (m : Member) → m ≡ slice_index_or ms k m → k < length ms → base ≡ living_count (take k ms) → numbered 0 (take k ms) ++ at_base base m ∷ [] ≡ numbered 0 (take (k + 1) ms)
number_more k base ms m is within base_is =
    ap₂ (λ n x. numbered 0 (take k ms) ++ at_base n x ∷ []) (base_is ∙ (let e : living_count (take k ms) ≡ 0 + living_count (take k ms) = omega arith in e)) is
    ∙ sym (number_suc 0 k ms m within)
    ∙ ap (λ n. numbered 0 (take n ms)) (let e : suc k ≡ k + 1 = omega arith in e)

-- ---- what they hold

-- each has the terms of these fields
abbrev pub AreRead : Schema → List Member → List (List IndexedField) → Type 0
AreRead schema [] [] = ⊤
AreRead schema [] (fields ∷ all) = ⊥
AreRead schema (m ∷ ms) [] = ⊥
AreRead schema (m ∷ ms) (fields ∷ all) = ((norms : List (ℕ × List ℕ)) × IsReader schema (length m.1) norms fields (index_of m.0)) × AreRead schema ms all

pub opened_read : (schema : Schema) (ms : List Member) → AreOpened schema ms → (all : List (List IndexedField)) × AreRead schema ms all
opened_read schema [] opened = ([], tt)
opened_read schema (m ∷ ms) opened =
    let o = opened.0.0 in
    let rest = opened_read schema ms opened.1 in
    (o.fields ∷ rest.0, ((o.norms, subst (λ n. IsReader schema n o.norms o.fields (index_of m.0)) (sym opened.0.1) (o.reads o.fields o.terms_are)), rest.1))

-- these terms have the bytes of values of their fields
pub opened_keyed : (schema : Schema) (ms : List Member) (opened : AreOpened schema ms) → AllByRecursion (AreKeyed schema) (opened_read schema ms opened).0
unfolding opened_read
opened_keyed schema [] opened = tt
opened_keyed schema (m ∷ ms) opened = (opened.0.0.keyed, opened_keyed schema ms opened.1)

abbrev AreSame : ℕ → List merged.Member → List Member → Type 0
AreSame base xs ms = map view xs ≡ numbered base ms

first_same : (base : ℕ) (x : merged.Member) (xs : List merged.Member) (m : Member) (ms : List Member) → AreSame base (x ∷ xs) (m ∷ ms) → view x ≡ at_base base m
first_same base x xs m ms same = ap (λ vs. get_or vs 0 (at_base base m)) same

pub members_are : (schema : Schema) (base : ℕ) (xs : List merged.Member) (ms : List Member) (all : List (List IndexedField)) → AreSame base xs ms → AreRead schema ms all → AreMembers schema base (base + living_count ms) xs all
members_are schema base [] [] [] same read = omega arith
members_are schema base [] [] (fields ∷ all) same read = absurd read
members_are schema base [] (m ∷ ms) all same read = absurd (let long = ap length same in omega (arith, long))
members_are schema base (x ∷ xs) [] all same read = absurd (let long = ap length same in omega (arith, long))
members_are schema base (x ∷ xs) (m ∷ ms) [] same read = absurd read
members_are schema base (x ∷ xs) (m ∷ ms) (fields ∷ all) same read =
    let one = first_same base x xs m ms same in
    let later = members_are schema (base + num_living m.1) xs ms all (ap (drop 1) same) read.1 in
    let end : base + num_living m.1 + living_count ms ≡ base + (num_living m.1 + living_count ms) = omega arith in (
      record { norms = read.0.0; is_reader = subst (λ v. IsReader schema (length v.1.flags) read.0.0 fields v.0) (sym one) read.0.1 },
      ap (λ v. v.1.base) one,
      subst (λ n. AreMembers schema n (base + (num_living m.1 + living_count ms)) xs all) (sym (ap (λ v. end_of v.1) one)) (subst (λ n. AreMembers schema (base + num_living m.1) n xs all) end later),
    )

-- numbered from 0 on
pub members_from_zero : (schema : Schema) (xs : List merged.Member) (ms : List Member) (all : List (List IndexedField)) → AreSame 0 xs ms → AreRead schema ms all → AreMembers schema 0 (living_count ms) xs all
members_from_zero schema xs ms all same read = subst (λ n. AreMembers schema 0 n xs all) (zero-add (living_count ms)) (members_are schema 0 xs ms all same read)

-- a schema has few fields, where a member has been opened under it
pub few_fields : (schema : Schema) (ms : List Member) → AreOpened schema ms → 0 < living_count ms → length schema ≤ max_fields
few_fields schema [] opened some = absurd (omega (arith, some))
few_fields schema (m ∷ ms) opened some = (opened.0.0.reads opened.0.0.fields opened.0.0.terms_are).schema_fits

-- ---- of documents

-- members with the terms of documents
pub record HaveDocuments (schema : Schema) (analyze : Analyzer) (xs : List merged.Member) (ms : List Member) (segments : List Segment) : Type 0 where
  pub all : List (List IndexedField)
  pub read : AreRead schema ms all
  pub keyed : AllByRecursion (AreKeyed schema) all
  pub of : AreOfDocuments schema analyze xs all segments

pub standing_read : (schema : Schema) (analyze : Analyzer) (base : ℕ) (xs : List merged.Member) (ms : List Member) (segments : List Segment) → AreSame base xs ms → StandFor schema analyze ms segments → HaveDocuments schema analyze xs ms segments
standing_read schema analyze base [] [] [] same stand = record { all = []; read = tt; keyed = tt; of = refl }
standing_read schema analyze base [] [] (rows ∷ segments) same stand = absurd stand
standing_read schema analyze base [] (m ∷ ms) segments same stand = absurd (let long = ap length same in omega (arith, long))
standing_read schema analyze base (x ∷ xs) [] segments same stand = absurd (let long = ap length same in omega (arith, long))
standing_read schema analyze base (x ∷ xs) (m ∷ ms) [] same stand = absurd stand
standing_read schema analyze base (x ∷ xs) (m ∷ ms) (rows ∷ segments) same stand =
    let one = first_same base x xs m ms same in
    let rest = standing_read schema analyze (base + num_living m.1) xs ms segments (ap (drop 1) same) stand.2 in
    let flagged = (standing_opened schema analyze (m ∷ ms) (rows ∷ segments) stand).0.1 in
    let own = stand.0 in
    record {
      all = own.bytes_are.fields ∷ rest.all;
      read = ((own.opened.norms, subst (λ n. IsReader schema n own.opened.norms own.bytes_are.fields (index_of m.0)) (sym flagged) (documents_read schema analyze (documents_in rows) m.0 own)), rest.read);
      keyed = (own.bytes_are.keyed, rest.keyed);
      of = (ap (λ v. v.1.flags) one ∙ stand.1, own.bytes_are.indexed, rest.of);
    }
