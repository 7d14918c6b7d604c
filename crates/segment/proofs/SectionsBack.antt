-- Sections that were written are taken back, and those that are taken were written.
use Rattle.std.proofs.Common.{[], ◌++◌, ◌<◌, ◌∷◌, ◌≡◌, ◌≢◌, ◌≤◌, ◌∙◌, ◌^◌, List, None, Option, Some, ap, ap₂, append-nil, append_assoc, arith, drop, flat_map, length, length-append, refl, subst, suc, sym, ℕ}
use Rattle.std.specs.List.{AllByRecursion}
use Rattle.common.proofs.AliveSetBytes.{u32_back, u64_back}
use Rattle.common.proofs.Many.{IsBack, IsPut, many_back, many_put, parts_are}
use Rattle.common.proofs.TakenBack.{count_back, count_put, u32_put, u64_put}
use Rattle.common.proofs.WordBytes.{back_bytes as bytes_after}
use Rattle.definitions.proofs.Lists.{bind_some}
use Rattle.definitions.specs.Json.{◌>>=◌}
use Rattle.definitions.specs.NumberCodes.{AreBytes, take_u32, take_u64, u32_bytes, u64_bytes}
use Rattle.layouts.specs.DocumentReading.{take_many, taken_map}
use Rattle.layouts.specs.Stores.{max_docs}
use Rattle.segment_definitions.specs.Segments.{AreWritten, Sections, section_bytes, segment_bytes}
use Rattle.segment.specs.Sections.{counted_bytes, take_section}

-- ---- one section

abbrev pub IsShort : List ℕ → Type 0
IsShort section = length section < 2 ^ 64

section_back : IsBack take_section IsShort section_bytes
section_back section rest short =
    ap (λ bs. take_u64 bs >>= counted_bytes) (append_assoc (u64_bytes (length section)) section rest)
    ∙ ap (λ o. o >>= counted_bytes) (u64_back (length section) (section ++ rest) short)
    ∙ count_back section rest

section_put : IsPut take_section IsShort section_bytes
section_put bs rest section are e =
    let number = bind_some (take_u64 bs) counted_bytes (section, rest) e in
    let put = u64_put bs number.0.0 number.0.1 are number.1 in
    let has = count_put number.0.0 number.0.1 section rest number.2 in (
      subst (λ n. n < 2 ^ 64) (sym has.0) put.0,
      put.1 ∙ ap₂ (λ n r. u64_bytes n ++ r) (sym has.0) has.1 ∙ sym (append_assoc (u64_bytes (length section)) section rest),
    )

-- ---- five of them

abbrev pub five : List ℕ → Option (List (List ℕ) × List ℕ)
five bs = take_many take_section 5 bs

-- the first of some is none, or the others are
pub none_first : (n : ℕ) (bs : List ℕ) → take_section bs ≡ None → take_many take_section (suc n) bs ≡ None
none_first n bs e = ap (λ o. o >>= (λ p. taken_map (λ ys. p.0 ∷ ys) (take_many take_section n p.1))) e

pub none_behind : (n : ℕ) (bs rest : List ℕ) (section : List ℕ) → take_section bs ≡ Some (section, rest) → take_many take_section n rest ≡ None → take_many take_section (suc n) bs ≡ None
none_behind n bs rest section e none =
    ap (λ o. o >>= (λ p. taken_map (λ ys. p.0 ∷ ys) (take_many take_section n p.1))) e
    ∙ ap (taken_map (λ ys. section ∷ ys)) none

pub one_more : (n : ℕ) (bs rest after : List ℕ) (section : List ℕ) (others : List (List ℕ)) → take_section bs ≡ Some (section, rest) → take_many take_section n rest ≡ Some (others, after) → take_many take_section (suc n) bs ≡ Some (section ∷ others, after)
one_more n bs rest after section others e more =
    ap (λ o. o >>= (λ p. taken_map (λ ys. p.0 ∷ ys) (take_many take_section n p.1))) e
    ∙ ap (taken_map (λ ys. section ∷ ys)) more

-- ---- a segment

-- its sections, one after another
abbrev pub listed : Sections → List (List ℕ)
listed s = s.terms ∷ s.postings ∷ s.positions ∷ s.norms ∷ s.store ∷ []

all_behind : (a b c d e f : List ℕ) → a ++ b ++ c ++ d ++ e ++ f ≡ a ++ (b ++ (c ++ (d ++ (e ++ (f ++ [])))))
all_behind a b c d e f =
    append_assoc (((a ++ b) ++ c) ++ d) e f
    ∙ append_assoc ((a ++ b) ++ c) d (e ++ f)
    ∙ append_assoc (a ++ b) c (d ++ (e ++ f))
    ∙ append_assoc a b (c ++ (d ++ (e ++ f)))
    ∙ ap (λ l. a ++ (b ++ (c ++ (d ++ (e ++ l))))) (sym (append-nil f))

pub bytes_listed : (n : ℕ) (s : Sections) → segment_bytes n s ≡ u32_bytes n ++ flat_map section_bytes (listed s)
bytes_listed n s = all_behind (u32_bytes n) (section_bytes s.terms) (section_bytes s.postings) (section_bytes s.positions) (section_bytes s.norms) (section_bytes s.store)

pub all_short : (xs : List (List ℕ)) → length (flat_map section_bytes xs) < 2 ^ 64 → AllByRecursion IsShort xs
all_short [] short = tt
all_short (x ∷ xs) short =
    let whole = length-append (section_bytes x) (flat_map section_bytes xs) in
    let one = length-append (u64_bytes (length x)) x in
    (omega (arith, short, whole, one), all_short xs (omega (arith, short, whole)))

-- what the reading of a segment finds
pub number_found : (n : ℕ) (s : Sections) (bytes : List ℕ) → AreWritten n s bytes → take_u32 bytes ≡ Some (n, flat_map section_bytes (listed s))
number_found n s bytes are =
    let few = are.num_docs_fit in
    ap take_u32 (are.bytes_are ∙ bytes_listed n s) ∙ u32_back n (flat_map section_bytes (listed s)) (omega (arith, few))

pub sections_short : (n : ℕ) (s : Sections) (bytes : List ℕ) → AreWritten n s bytes → length (flat_map section_bytes (listed s)) < 2 ^ 64
sections_short n s bytes are =
    let short = are.short in
    let whole = ap length (are.bytes_are ∙ bytes_listed n s) in
    let parts = length-append (u32_bytes n) (flat_map section_bytes (listed s)) in
    omega (arith, short, whole, parts)

pub sections_found : (n : ℕ) (s : Sections) (bytes : List ℕ) → AreWritten n s bytes → five (flat_map section_bytes (listed s)) ≡ Some (listed s, [])
sections_found n s bytes are =
    ap five (sym (append-nil (flat_map section_bytes (listed s))))
    ∙ many_back take_section IsShort section_bytes section_back (listed s) [] (all_short (listed s) (sections_short n s bytes are))

-- ---- where the reading finds nothing

pub no_number : (bytes : List ℕ) → ((n : ℕ) (rest : List ℕ) → take_u32 bytes ≡ Some (n, rest) → 0 < n → ¬ (n ≤ max_docs)) → (n : ℕ) (s : Sections) → ¬ AreWritten n s bytes
no_number bytes none n s are = none n (flat_map section_bytes (listed s)) (number_found n s bytes are) are.has_documents are.num_docs_fit

none_is_some : {A : Type 0} (x : A) → None ≡ Some x → ⊥
none_is_some x e = cc

pub no_sections : (bytes rest : List ℕ) (m : ℕ) → take_u32 bytes ≡ Some (m, rest) → five rest ≡ None → (n : ℕ) (s : Sections) → ¬ AreWritten n s bytes
no_sections bytes rest m number none n s are =
    let same = parts_are (m, rest) n (flat_map section_bytes (listed s)) (sym number ∙ number_found n s bytes are) in
    none_is_some (listed s, []) (sym none ∙ ap five same.1 ∙ sections_found n s bytes are)

pub no_end : (bytes rest more : List ℕ) (m : ℕ) (sections : List (List ℕ)) → take_u32 bytes ≡ Some (m, rest) → five rest ≡ Some (sections, more) → more ≢ [] → (n : ℕ) (s : Sections) → ¬ AreWritten n s bytes
no_end bytes rest more m sections number found some n s are =
    let same = parts_are (m, rest) n (flat_map section_bytes (listed s)) (sym number ∙ number_found n s bytes are) in
    some (parts_are (sections, more) (listed s) [] (sym found ∙ ap five same.1 ∙ sections_found n s bytes are)).1

-- ---- what the reading finds is the segment

pub behind_number : (bytes rest : List ℕ) (n : ℕ) → AreBytes bytes → take_u32 bytes ≡ Some (n, rest) → drop 4 bytes ≡ rest
behind_number bytes rest n are number = ap (λ (l : List ℕ). drop 4 l) (u32_put bytes n rest are number).1

pub written_so : (bytes rest : List ℕ) (n : ℕ) (s : Sections) → AreBytes bytes → length bytes < 2 ^ 64 → take_u32 bytes ≡ Some (n, rest) → 0 < n → n ≤ max_docs → five rest ≡ Some (listed s, []) → AreWritten n s bytes
written_so bytes rest n s are short number some few found =
    let put = u32_put bytes n rest are number in
    let behind : AreBytes rest = bytes_after (u32_bytes n) rest (subst AreBytes put.1 are) in
    let many = many_put take_section IsShort section_bytes section_put 5 rest [] (listed s) behind found in
    record {
      has_documents = some;
      num_docs_fit = few;
      short = short;
      bytes_are = put.1 ∙ ap (λ bs. u32_bytes n ++ bs) (many.2 ∙ append-nil (flat_map section_bytes (listed s))) ∙ sym (bytes_listed n s);
    }

-- ---- the steps of the reading

pub begun : (bytes slice rest advanced : List ℕ) (n : ℕ) → slice ≡ bytes → AreBytes slice → take_u32 slice ≡ Some (n, rest) → advanced ≡ drop 4 bytes → take_u32 bytes ≡ Some (n, advanced)
begun bytes slice rest advanced n same are number behind =
    let whole : take_u32 bytes ≡ Some (n, rest) = subst (λ bs. take_u32 bs ≡ Some (n, rest)) same number in
    whole ∙ ap (λ r. Some (n, r)) (sym (behind ∙ behind_number bytes rest n (subst AreBytes same are) whole))

-- five sections, and what is behind them
pub all_five : (r0 r1 r2 r3 r4 r5 terms postings positions norms store : List ℕ) → take_section r0 ≡ Some (terms, r1) → take_section r1 ≡ Some (postings, r2) → take_section r2 ≡ Some (positions, r3) → take_section r3 ≡ Some (norms, r4) → take_section r4 ≡ Some (store, r5) → five r0 ≡ Some (terms ∷ postings ∷ positions ∷ norms ∷ store ∷ [], r5)
all_five r0 r1 r2 r3 r4 r5 terms postings positions norms store e0 e1 e2 e3 e4 =
    one_more 4 r0 r1 r5 terms _ e0 (one_more 3 r1 r2 r5 postings _ e1 (one_more 2 r2 r3 r5 positions _ e2 (one_more 1 r3 r4 r5 norms _ e3 (one_more 0 r4 r5 r5 store [] e4 refl))))
