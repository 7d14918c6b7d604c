-- The least commit, of one document without a value in a schema without a field: its record fits into a file.
use Rattle.std.proofs.Common.{[], ap, ap₂, arith, false, length, length-append, map, refl, subst, suc, sym, true, zero, ◌++◌, ◌+◌, ◌-◌, ◌*◌, ◌/◌, ◌<◌, ◌^◌, ◌∙◌, ◌∷◌, ◌≡◌, Bool, List, flat_map, ℕ}
use Rattle.std.proofs.lemmas.List.{append-nil, nil_from_length, take_all}
use Rattle.std.proofs.lemmas.Nat.{div-mul-add}
use Rattle.std.specs.List.{All, AllByRecursion, AllZip}
use Rattle.definitions.specs.Analyzers.{Analyzer}
use Rattle.definitions.specs.NumberCodes.{vint_bytes}
use Rattle.definitions.specs.State.{added, groups_of, pieces}
use Rattle.index_file.specs.Frames.{frame_bytes}
use Rattle.index_state.specs.Records.{IsCommitBody}
use Rattle.layouts.specs.InvertedIndexes.{IndexedField, field_terms}
use Rattle.layouts.specs.Stores.{Block, Hold, block_bytes, store_bytes}
use Rattle.layouts.specs.TermSections.{kind_byte, terms_bytes}
use Rattle.segment_definitions.proofs.SegmentParts.{one_u32}
use Rattle.segment_definitions.specs.ListBodies.{IsMember, Makes, Member, fresh, segments_body}
use Rattle.segment_definitions.specs.SegmentExamples.{block_of}
use Rattle.segment_definitions.specs.Segments.{IsSegment, IsSegmentOf, segment_bytes}

-- ---- lists of one

none_of : {X Y : Type 0} (f : X → Y) (xs : List X) → map f xs ≡ [] → xs ≡ []
none_of f [] e = refl
none_of f (x ∷ xs) e = absurd (let n = ap length e in omega (arith, n))

one_piece : {X : Type 0} (n : ℕ) (x : X) → 0 < n → pieces n (x ∷ []) ≡ (x ∷ []) ∷ []
one_piece n x some =
    let e : length (x ∷ []) + n - 1 ≡ 1 * n + 0 = omega arith in
    let count : (length (x ∷ []) + n - 1) / n ≡ 1 = ap (λ m. m / n) e ∙ div-mul-add 1 n 0 some in
    ap (λ k. groups_of k n (x ∷ [])) count ∙ ap (λ xs. xs ∷ []) (take_all n (x ∷ []) (omega (arith, some)))

-- ---- its segment

-- no block holds nothing
none_hold : (blocks : List Block) → All (λ (b : Block). 0 < b.count) blocks → Hold blocks [] → blocks ≡ []
none_hold [] some h = refl
none_hold (b ∷ bs) some (docs, rest, split, count, is, more) =
    let long = ap length split in
    let both = length-append docs rest in
    let first : 0 < b.count = some zero b (omega arith) in
    absurd (omega (arith, long, both, count, first))

-- one document stands in one block
one_block : (blocks : List Block) (one : List ℕ) → All (λ (b : Block). 0 < b.count) blocks → Hold blocks (one ∷ []) → blocks ≡ block_of (one ∷ []) ∷ []
one_block [] one some h = absurd (let n = ap length h in omega (arith, n))
one_block (b ∷ bs) one some (docs, rest, split, count, is, more) =
    let long = ap length split in
    let both = length-append docs rest in
    let first : 0 < b.count = some zero b (omega arith) in
    let none : rest ≡ [] = nil_from_length rest (omega (arith, long, both, count, first)) in
    let same : docs ≡ one ∷ [] = sym (split ∙ ap (λ ds. docs ++ ds) none ∙ append-nil docs) in
    let make : ℕ → List ℕ → Block = λ count bytes. record { count = count; bytes = bytes } in
    let block : b ≡ block_of (one ∷ []) = ap₂ make (sym count ∙ ap length same) (is.bytes_are ∙ ap block_bytes same) in
    let later : bs ≡ [] = none_hold bs (λ k d l. some (suc k) d (omega (arith, l))) (subst (Hold bs) none more) in
    ap₂ (λ x xs. x ∷ xs) block later

-- the segment of a document without a value, whose terms are of a kind
abbrev bare_in : Bool → List ℕ
bare_in kind = segment_bytes 1 (record { terms = kind_byte kind ∷ []; postings = []; positions = []; norms = []; store = store_bytes (block_of ((0x80 ∷ []) ∷ []) ∷ []) })

-- it has one form of each kind
least_segment : (analyze : Analyzer) (bytes : List ℕ) → IsSegmentOf [] analyze ([] ∷ []) bytes → (kind : Bool) × (bytes ≡ bare_in kind)
unfolding vint_bytes
least_segment analyze bytes s =
    let fields : s.fields ≡ [] = none_of (λ (f : IndexedField). f.field) s.fields s.terms_are.names in
    let kind = s.terms_are.terms_are.0 in
    let k = kind_byte kind in
    let terms : s.sections.terms ≡ k ∷ [] = s.terms_are.terms_are.1 ∙ ap (λ fs. terms_bytes kind (map field_terms fs)) fields in
    let postings : s.sections.postings ≡ [] = s.terms_are.postings_are ∙ ap (λ fs. flat_map (λ (f : IndexedField). flat_map (λ t. t.postings_bytes) f.terms) fs) fields in
    let positions : s.sections.positions ≡ [] = s.terms_are.positions_are ∙ ap (λ fs. flat_map (λ (f : IndexedField). flat_map (λ t. t.positions_bytes) f.terms) fs) fields in
    let norms : s.sections.norms ≡ [] = s.norms_are.spelled in
    let store : s.sections.store ≡ store_bytes (block_of ((0x80 ∷ []) ∷ []) ∷ []) = s.store_is.3 ∙ ap store_bytes (one_block s.store_is.0 (0x80 ∷ []) s.store_is.1.nonempty s.store_is.2) in
    let make : List ℕ → List ℕ → List ℕ → List ℕ → List ℕ → List ℕ = λ t p o l d. segment_bytes 1 (record { terms = t; postings = p; positions = o; norms = l; store = d }) in (
      kind,
      s.written.bytes_are
          ∙ ap (λ t. make t s.sections.postings s.sections.positions s.sections.norms s.sections.store) terms
          ∙ ap (λ p. make (k ∷ []) p s.sections.positions s.sections.norms s.sections.store) postings
          ∙ ap (λ o. make (k ∷ []) [] o s.sections.norms s.sections.store) positions
          ∙ ap (λ l. make (k ∷ []) [] [] l s.sections.store) norms
          ∙ ap (λ d. make (k ∷ []) [] [] [] d) store,
    )

-- ---- its body

new_is : (analyze : Analyzer) (news : List (List ℕ)) → AllZip (IsSegmentOf [] analyze) (([] ∷ []) ∷ []) news → (kind : Bool) × (news ≡ bare_in kind ∷ [])
new_is analyze [] h = absurd h
new_is analyze (b ∷ []) h = (let least = least_segment analyze b h.0 in (least.0, ap (λ bytes. bytes ∷ []) least.1))
new_is analyze (b ∷ c ∷ news) h = absurd h.1

one_flag : (flags : List Bool) → length flags ≡ 1 → (flag : Bool) × (flags ∷ [] ≡ (flag ∷ []) ∷ [])
one_flag [] e = absurd (omega (arith, e))
one_flag (flag ∷ []) e = (flag, refl)
one_flag (flag ∷ other ∷ flags) e = absurd (omega (arith, e))

-- the segment is of one document
one_document : (kind : Bool) (num_docs : ℕ) → num_docs < 2 ^ 32 → IsSegment [] num_docs (bare_in kind) → num_docs ≡ 1
one_document kind num_docs few s = sym (one_u32 1 num_docs _ _ (omega arith) few s.written.bytes_are).0

flags_are : (kind : Bool) (after : List Member) → map (λ (m : Member). m.0) after ≡ bare_in kind ∷ [] → AllByRecursion (IsMember (IsSegment [])) after → (flag : Bool) × (map (λ (m : Member). m.1) after ≡ (flag ∷ []) ∷ [])
flags_are kind [] e all = absurd (let n = ap length e in omega (arith, n))
flags_are kind ((bytes, flags) ∷ []) e all =
    let same : bytes ≡ bare_in kind = cc in
    one_flag flags (one_document kind (length flags) all.0.1 (subst (IsSegment [] (length flags)) same all.0.0))
flags_are kind (m ∷ k ∷ after) e all = absurd (let n = ap length e in omega (arith, n))

least_body : (analyze : Analyzer) (n : ℕ) (after : List Member) (body : List ℕ) → 0 < n → Makes (IsSegment []) [] after body → IsCommitBody [] analyze n (added [] ∷ []) [] after body
    → (kind : Bool) × (flag : Bool) × (body ≡ segments_body (fresh (bare_in kind) ∷ []) ((flag ∷ []) ∷ []))
least_body analyze n after body some makes is =
    let news = new_is analyze is.news (subst (λ ds. AllZip (IsSegmentOf [] analyze) ds is.news) (one_piece n [] some) is.new) in
    let flag = flags_are news.0 after (is.segments ∙ news.1) makes.members in
    (news.0, flag.0, is.body_is ∙ ap₂ (λ bs fs. segments_body (map fresh bs) fs) news.1 flag.1)

-- ---- its record

short_record : (kind flag : Bool) → length (frame_bytes (segments_body (fresh (bare_in kind) ∷ []) ((flag ∷ []) ∷ []))) < 1000
unfolding segments_body vint_bytes
short_record true true = omega arith
short_record true false = omega arith
short_record false true = omega arith
short_record false false = omega arith

pub least_fits : (analyze : Analyzer) (n gate : ℕ) (after : List Member) (body : List ℕ) → 0 < n → gate < 2 ^ 62 → Makes (IsSegment []) [] after body → IsCommitBody [] analyze n (added [] ∷ []) [] after body → 2 ^ 63 < gate + 1 + length (frame_bytes body) → ⊥
least_fits analyze n gate after body some small makes is long =
    let least = least_body analyze n after body some makes is in
    let short = subst (λ bytes. length (frame_bytes bytes) < 1000) (sym least.2) (short_record least.0 least.1) in
    omega (arith, short, small, long)
