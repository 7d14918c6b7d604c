-- The section of a segment that lists the terms of its fields, and where their postings and positions stand.
use Rattle.std.specs.Prelude.{[], ⊤, ◌%◌, ◌++◌, ◌+◌, ◌∷◌, ◌≡◌, Bool, List, None, Option, Some, drop, flat_map, if◌then◌else◌, length, map, nat_eq, suc, sum_by, take, ℕ}
use Rattle.std.specs.Cmp.Lexicographic.{slice_cmp}
use Rattle.std.specs.Ordering.{nat_cmp}
use Rattle.std.specs.declared.cmp.Ordering.TheVariants.{Less}
use Rattle.definitions.specs.NumberCodes.{sized_bytes, u32_bytes, u64_bytes, vint_bytes}

-- how many documents have a term, and how many bytes its postings and its positions take
pub record TermLengths : Type 0 where
  pub doc_freq : ℕ
  pub postings_len : ℕ
  pub positions_len : ℕ

-- a term by its value bytes, and its lengths
abbrev pub Told : Type 0
Told = List ℕ × TermLengths

-- a field: how many tokens it has, and its terms by their value bytes
pub record FieldTerms : Type 0 where
  pub field : ℕ
  pub num_tokens : ℕ
  pub terms : List (List ℕ × TermLengths)

-- ---- terms in blocks of one size: the first of a block stands whole, each other behind what it shares with the last

-- with how many bytes two keys begin alike
abbrev pub shared : List ℕ → List ℕ → ℕ
shared [] key = 0
shared (a ∷ before) [] = 0
shared (a ∷ before) (b ∷ key) = if nat_eq a b then suc (shared before key) else 0

-- a key behind the one before: how much it shares with it, and the rest
abbrev pub next_key : List ℕ → List ℕ → List ℕ
next_key before key = vint_bytes (shared before key) ++ sized_bytes (drop (shared before key) key)

-- a key: whole where none stands before it in its block
abbrev pub key_bytes : Option (List ℕ) → List ℕ → List ℕ
key_bytes None key = sized_bytes key
key_bytes (Some before) key = next_key before key

-- a term's lengths
abbrev pub lengths_bytes : TermLengths → List ℕ
lengths_bytes l = vint_bytes l.doc_freq ++ vint_bytes l.postings_len ++ vint_bytes l.positions_len

-- how many terms a block has: sixteen where the section is front-coded (kind 1), and else one, which stands whole (kind 0)
abbrev pub block_size : Bool → ℕ
block_size front_coded = if front_coded then 16 else 1

-- the key before the term of that number, if it stands in the same block
abbrev pub before_in_block : ℕ → ℕ → List ℕ → Option (List ℕ)
before_in_block size number before = if nat_eq (number % size) 0 then None else Some before

-- a term by its value bytes, and its lengths
abbrev pub coded_entry : Option (List ℕ) → Told → List ℕ
coded_entry before t = key_bytes before t.0 ++ lengths_bytes t.1

-- terms from that number on, behind a key
abbrev pub coded_from : ℕ → ℕ → List ℕ → List Told → List ℕ
coded_from size number before [] = []
coded_from size number before (t ∷ ts) = coded_entry (before_in_block size number before) t ++ coded_from size (number + 1) t.0 ts

-- all terms of a field
abbrev pub coded_terms : ℕ → List Told → List ℕ
coded_terms size ts = coded_from size 0 [] ts

-- ---- fields

-- a field, its number of tokens and of terms, and its terms
abbrev pub field_terms_bytes : ℕ → FieldTerms → List ℕ
field_terms_bytes size f = u32_bytes f.field ++ u64_bytes f.num_tokens ++ vint_bytes (length f.terms) ++ coded_terms size f.terms

-- the byte of a kind of section
abbrev pub kind_byte : Bool → ℕ
kind_byte front_coded = if front_coded then 1 else 0

-- the section of a kind: its byte, and the fields one after another
abbrev pub terms_bytes : Bool → List FieldTerms → List ℕ
terms_bytes front_coded fields = kind_byte front_coded ∷ flat_map (field_terms_bytes (block_size front_coded)) fields

-- the section spells these fields, in one of the kinds that there are
abbrev pub AreSpelled : List FieldTerms → List ℕ → Type 0
AreSpelled fields bytes = (front_coded : Bool) × (bytes ≡ terms_bytes front_coded fields)

-- ---- the order of terms, and where theirs stand

-- each is below the one after it in the order of bytes
abbrev pub TermsAscend : List (List ℕ) → Type 0
TermsAscend [] = ⊤
TermsAscend (t ∷ []) = ⊤
TermsAscend (s ∷ t ∷ ts) = (slice_cmp nat_cmp s t ≡ Less) × TermsAscend (t ∷ ts)

-- the lengths of all terms of all fields, in order
abbrev pub all_lengths : List FieldTerms → List TermLengths
all_lengths fields = flat_map (λ (f : FieldTerms). map (λ t. t.1) f.terms) fields

-- where the postings and the positions of a term begin: they follow one another from 0
abbrev pub postings_start : ℕ → List FieldTerms → ℕ
postings_start index fields = sum_by (λ (t : TermLengths). t.postings_len) (take index (all_lengths fields))

-- where the positions of a term begin
abbrev pub positions_start : ℕ → List FieldTerms → ℕ
positions_start index fields = sum_by (λ (t : TermLengths). t.positions_len) (take index (all_lengths fields))
