-- That sections are in their layout holds in one way alone: it is a proposition.
use Rattle.std.proofs.Common.{[], Bool, List, None, Option, Some, ap, arith, drop, false, flat_map, length, length-append, map, slice_index, subst, suc, sym, true, zero, ◌*◌, ◌++◌, ◌/◌, ◌<◌, ◌∙◌, ◌∷◌, ◌≡◌, ◌^◌, ℕ}
use Rattle.std.proofs.Props.{props}
use Rattle.std.specs.List.{AllByRecursion, AllByRecursion-prop}
use Rattle.common.proofs.TakenBack.{bytes_back}
use Rattle.docsets.proofs.EntryLaws.{DontFall-prop}
use Rattle.definitions.specs.Blocks.{block_len}
use Rattle.definitions.specs.NumberCodes.{sized_bytes, take_bytes, vint_bytes}
use Rattle.definitions.specs.Postings.{Posting}
use Rattle.definitions.specs.Schema.{IndexRecordOption, Schema, has_positions}
use Rattle.definitions.specs.Scoring.{DontFall}
use Rattle.document.proofs.SameDocuments.{first_of as first_byte}
use Rattle.layouts.proofs.Lists.{IsAscendingFrom-prop}
use Rattle.layouts.specs.Deltas.{IsAscendingFrom}
use Rattle.layouts.specs.InvertedIndexes.{AreSections, HasPositions, IndexedField, IndexedTerm, IsField, IsPosting, IsTerm, field_ids, field_terms, option_of_term, term_of_key}
use Rattle.layouts.specs.Positions.{AreBlocks, ArePositions, position_numbers}
use Rattle.layouts.specs.TermPostings.{ArePosted, AreTermPostings, SumsFit}
use Rattle.layouts.specs.TermSections.{AreSpelled, FieldTerms, TermsAscend, terms_bytes}
use Rattle.segment_reader.proofs.FieldsLoop.{kinds_same}
use Rattle.segment_reader.proofs.Found.{TermsAscend-prop}
use Rattle.segment_reader.proofs.TermBytes.{positions_of}

-- pairs are, whose second parts are, and whose first parts are one
pub pairs_prop : {A : Type 0} (P : A → Type 0) → ((x : A) → IsProp (P x)) → ((x y : A) → P x → P y → x ≡ y) → IsProp ((x : A) × P x)
pairs_prop P each one s t = subst (λ y. (q : P y) → ◌≡◌ {A = (x : _) × P x} s (y, q)) (one s.0 t.0 s.1 t.1) (λ q. ap (λ r. (s.0, r)) (each s.0 s.1 q)) t.1

-- what is one where it holds, is
pub held_prop : {P : Type 0} → (P → IsProp P) → IsProp P
held_prop of a b = of a a b

-- ---- numbers

SumsFit-prop : (n : ℕ) (counts : List ℕ) → IsProp (SumsFit n counts)
SumsFit-prop zero counts = hlevel props
SumsFit-prop (suc n) counts = (let rest : IsProp (SumsFit n (drop 128 counts)) = SumsFit-prop n (drop 128 counts) in hlevel (props, rest))

-- ---- positions

AreBlocks-prop : (ws numbers bytes : List ℕ) → IsProp (AreBlocks ws numbers bytes)
AreBlocks-prop [] numbers bytes = hlevel props
AreBlocks-prop (w ∷ ws) numbers bytes = (let rest : IsProp (AreBlocks ws (drop 128 numbers) (drop (16 * w) bytes)) = AreBlocks-prop ws (drop 128 numbers) (drop (16 * w) bytes) in hlevel (props, rest))

-- widths and what they pack
abbrev Packed : List ℕ → List ℕ → List ℕ × List ℕ → Type 0
Packed numbers bytes p = (bytes ≡ sized_bytes p.0 ++ p.1) × AreBlocks p.0 numbers p.1 × ((i : ℕ) → slice_index numbers i < 2 ^ 31)

Packed-prop : (numbers bytes : List ℕ) (p : List ℕ × List ℕ) → IsProp (Packed numbers bytes p)
Packed-prop numbers bytes p = (let blocks : IsProp (AreBlocks p.0 numbers p.1) = AreBlocks-prop p.0 numbers p.1 in hlevel (props, blocks))

widths_within : (ws packed bytes : List ℕ) → bytes ≡ sized_bytes ws ++ packed → length bytes < 2 ^ 64 → length ws < 2 ^ 64
widths_within ws packed bytes is short =
    let whole = ap length is in
    let first = length-append (sized_bytes ws) packed in
    let second = length-append (vint_bytes (length ws)) ws in
    omega (arith, whole, first, second, short)

abbrev pair_of : List ℕ × List ℕ → Option (List ℕ × List ℕ) → List ℕ × List ℕ
pair_of other None = other
pair_of other (Some p) = p

one_packed : (bytes : List ℕ) (p q : List ℕ × List ℕ) → length bytes < 2 ^ 64 → bytes ≡ sized_bytes p.0 ++ p.1 → bytes ≡ sized_bytes q.0 ++ q.1 → p ≡ q
one_packed bytes p q short first second = ap (pair_of p) (sym (bytes_back p.0 p.1 (widths_within p.0 p.1 bytes first short)) ∙ ap take_bytes (sym first ∙ second) ∙ bytes_back q.0 q.1 (widths_within q.0 q.1 bytes second short))

ArePositions-prop : (numbers bytes : List ℕ) → length bytes < 2 ^ 64 → IsProp (ArePositions numbers bytes)
ArePositions-prop numbers bytes short a b =
    ap (λ (t : (p : List ℕ × List ℕ) × Packed numbers bytes p). record { widths = t.0.0; packed = t.0.1; bytes_are = t.1.0; blocks = t.1.1; small = t.1.2 })
    (pairs_prop (Packed numbers bytes) (Packed-prop numbers bytes) (λ p q x y. one_packed bytes p q short x.0 y.0) ((a.widths, a.packed), (a.bytes_are, a.blocks, a.small)) ((b.widths, b.packed), (b.bytes_are, b.blocks, b.small)))

HasPositions-prop : (recorded : Bool) (numbers bytes : List ℕ) → length bytes < 2 ^ 64 → IsProp (HasPositions recorded numbers bytes)
HasPositions-prop true numbers bytes short = ArePositions-prop numbers bytes short
HasPositions-prop false numbers bytes short = hlevel props

-- ---- terms

IsPosting-prop : (recorded : Bool) (num_docs : ℕ) (p : Posting) → IsProp (IsPosting recorded num_docs p)
IsPosting-prop recorded num_docs p = (let dont_fall : IsProp (DontFall p.positions) = DontFall-prop p.positions in hlevel (props, dont_fall))

AreTermPostings-prop : (option : IndexRecordOption) (ids docs counts bytes : List ℕ) → IsProp (AreTermPostings option ids docs counts bytes)
AreTermPostings-prop option ids docs counts bytes =
    let ascending : IsProp (IsAscendingFrom 0 docs) = IsAscendingFrom-prop 0 docs in
    let sums : IsProp (SumsFit (length docs / block_len) counts) = SumsFit-prop (length docs / block_len) counts in
    let posted : IsProp (ArePosted option docs counts) = hlevel (props, ascending, sums) in
    hlevel (props, posted)

IsTerm-prop : (option : IndexRecordOption) (num_docs : ℕ) (ids : List ℕ) (t : IndexedTerm) → length t.positions_bytes < 2 ^ 64 → IsProp (IsTerm option num_docs ids t)
IsTerm-prop option num_docs ids t short =
    let each : IsProp (AllByRecursion (IsPosting (has_positions option) num_docs) t.postings) = AllByRecursion-prop (IsPosting (has_positions option) num_docs) (IsPosting-prop (has_positions option) num_docs) t.postings in
    let postings : IsProp (AreTermPostings option ids (map (λ (p : Posting). p.doc) t.postings) (map (λ (p : Posting). p.count) t.postings) t.postings_bytes) = AreTermPostings-prop option ids (map (λ (p : Posting). p.doc) t.postings) (map (λ (p : Posting). p.count) t.postings) t.postings_bytes in
    let positions : IsProp (HasPositions (has_positions option) (position_numbers (map (λ (p : Posting). p.positions) t.postings)) t.positions_bytes) = HasPositions-prop (has_positions option) (position_numbers (map (λ (p : Posting). p.positions) t.postings)) t.positions_bytes short in
    hlevel (props, each, postings, positions)

terms_prop : (option : List ℕ → IndexRecordOption) (num_docs : ℕ) (ids : List ℕ) (ts : List IndexedTerm) → length (positions_of ts) < 2 ^ 64 → IsProp (AllByRecursion (λ (t : IndexedTerm). IsTerm (option t.key) num_docs ids t) ts)
terms_prop option num_docs ids [] short = hlevel props
terms_prop option num_docs ids (t ∷ ts) short =
    let whole = length-append t.positions_bytes (positions_of ts) in
    let first : IsProp (IsTerm (option t.key) num_docs ids t) = IsTerm-prop (option t.key) num_docs ids t (omega (arith, short, whole)) in
    let rest : IsProp (AllByRecursion (λ (u : IndexedTerm). IsTerm (option u.key) num_docs ids u) ts) = terms_prop option num_docs ids ts (omega (arith, short, whole)) in
    hlevel (props, first, rest)

-- ---- fields

IsField-prop : (schema : Schema) (num_docs : ℕ) (norms : List (ℕ × List ℕ)) (f : IndexedField) → length (positions_of f.terms) < 2 ^ 64 → IsProp (IsField schema num_docs norms f)
IsField-prop schema num_docs norms f short =
    let ascend : IsProp (TermsAscend (map (λ (t : IndexedTerm). t.key) f.terms)) = TermsAscend-prop (map (λ (t : IndexedTerm). t.key) f.terms) in
    let each : IsProp (AllByRecursion (λ (t : IndexedTerm). IsTerm (option_of_term schema (term_of_key schema f.field t.key)) num_docs (field_ids norms f.field) t) f.terms) = terms_prop (λ key. option_of_term schema (term_of_key schema f.field key)) num_docs (field_ids norms f.field) f.terms short in
    hlevel (props, ascend, each)

abbrev all_positions : List IndexedField → List ℕ
all_positions fields = flat_map (λ (f : IndexedField). flat_map (λ (t : IndexedTerm). t.positions_bytes) f.terms) fields

fields_prop : (schema : Schema) (num_docs : ℕ) (norms : List (ℕ × List ℕ)) (fields : List IndexedField) → length (all_positions fields) < 2 ^ 64 → IsProp (AllByRecursion (IsField schema num_docs norms) fields)
fields_prop schema num_docs norms [] short = hlevel props
fields_prop schema num_docs norms (f ∷ fields) short =
    let whole = length-append (positions_of f.terms) (all_positions fields) in
    let first : IsProp (IsField schema num_docs norms f) = IsField-prop schema num_docs norms f (omega (arith, short, whole)) in
    let rest : IsProp (AllByRecursion (IsField schema num_docs norms) fields) = fields_prop schema num_docs norms fields (omega (arith, short, whole)) in
    hlevel (props, first, rest)

-- ---- kinds

-- the first byte is that of one kind
AreSpelled-prop : (fields : List FieldTerms) (bytes : List ℕ) → IsProp (AreSpelled fields bytes)
AreSpelled-prop fields bytes = pairs_prop (λ (kind : Bool). bytes ≡ terms_bytes kind fields) (λ kind. hlevel props) (λ x y one other. kinds_same x y (ap first_byte (sym one ∙ other)))

pub AreSections-prop : (schema : Schema) (num_docs : ℕ) (norms : List (ℕ × List ℕ)) (fields : List IndexedField) (terms postings positions : List ℕ) → length positions < 2 ^ 64 → IsProp (AreSections schema num_docs norms fields terms postings positions)
AreSections-prop schema num_docs norms fields terms postings positions short = held_prop (λ are.
    (let whole = ap length are.positions_are in
    let each : IsProp (AllByRecursion (IsField schema num_docs norms) fields) = fields_prop schema num_docs norms fields (omega (arith, short, whole)) in
    let spelled : IsProp (AreSpelled (map field_terms fields) terms) = AreSpelled-prop (map field_terms fields) terms in
    hlevel (props, each, spelled)))
