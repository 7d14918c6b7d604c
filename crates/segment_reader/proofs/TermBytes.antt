-- The bytes of terms and of fields, one after another, and where they end.
use Rattle.std.proofs.Common.{[], List, ap, append_assoc, arith, drop, flat_map, length, length-append, length-drop, map, refl, sym, ◌++◌, ◌+◌, ◌<◌, ◌≡◌, ◌≤◌, ◌∙◌, ◌∷◌, ◌^◌, ℕ}
use Rattle.std.proofs.Math.Seq.{drop-append_seam}
use Rattle.std.proofs.lemmas.List.{drop-drop}
use Rattle.std.specs.List.{AllByRecursion}
use Rattle.front_coding.proofs.BlockLoop.{positions_grow, postings_grow}
use Rattle.front_coding.specs.BlockPlaces.{positions_end, postings_end}
use Rattle.layouts.specs.InvertedIndexes.{IndexedField, IndexedTerm, field_terms, lengths_of}
use Rattle.layouts.specs.TermSections.{FieldTerms, TermsAscend, Told, coded_terms, field_terms_bytes}
use Rattle.segment_reader.specs.TermPlaces.{AreFields, IsReadField, TermFits, end_of, field_end, fields_end, first_in, header_of}
use Rattle.front_coding.specs.declared.term_starts.TermStart.{TermStart}

-- ---- words

-- what the section of terms tells of terms
abbrev pub told_of : List IndexedTerm → List Told
told_of xs = map lengths_of xs

-- the bytes of their postings and of their positions
abbrev pub postings_of : List IndexedTerm → List ℕ
postings_of xs = flat_map (λ (x : IndexedTerm). x.postings_bytes) xs

abbrev pub positions_of : List IndexedTerm → List ℕ
positions_of xs = flat_map (λ (x : IndexedTerm). x.positions_bytes) xs

-- likewise of fields
abbrev pub all_postings : List IndexedField → List ℕ
all_postings fields = flat_map (λ (f : IndexedField). flat_map (λ (x : IndexedTerm). x.postings_bytes) f.terms) fields

abbrev pub all_positions : List IndexedField → List ℕ
all_positions fields = flat_map (λ (f : IndexedField). flat_map (λ (x : IndexedTerm). x.positions_bytes) f.terms) fields

-- starts are equal where their parts are
pub same_start : (a b : TermStart) → a.entry ≡ b.entry → a.postings ≡ b.postings → a.positions ≡ b.positions → a ≡ b
same_start a b entry postings positions =
    ap (λ n. record { entry = n; postings = a.postings; positions = a.positions }) entry
    ∙ ap (λ n. record { entry = b.entry; postings = n; positions = a.positions }) postings
    ∙ ap (λ n. record { entry = b.entry; postings = b.postings; positions = n }) positions

-- what follows a piece
pub rest_there : (n : ℕ) (xs a b : List ℕ) → drop n xs ≡ a ++ b → drop (n + length a) xs ≡ b
rest_there n xs a b is = sym (drop-drop (length a) n xs) ∙ ap (drop (length a)) is ∙ drop-append_seam a b

-- ---- where terms end

pub ends_grow : (size : ℕ) (at : TermStart) (ts : List Told) → (at.postings ≤ (end_of size at ts).postings) × (at.positions ≤ (end_of size at ts).positions)
ends_grow size at ts = (postings_grow at.postings ts, positions_grow at.positions ts)

postings_from : (p : ℕ) (xs : List IndexedTerm) → postings_end p (told_of xs) ≡ p + length (postings_of xs)
postings_from p [] = omega arith
postings_from p (x ∷ xs) = (let later = postings_from (p + length x.postings_bytes) xs in let l = length-append x.postings_bytes (postings_of xs) in omega (arith, later, l))

positions_from : (q : ℕ) (xs : List IndexedTerm) → positions_end q (told_of xs) ≡ q + length (positions_of xs)
positions_from q [] = omega arith
positions_from q (x ∷ xs) = (let later = positions_from (q + length x.positions_bytes) xs in let l = length-append x.positions_bytes (positions_of xs) in omega (arith, later, l))

pub end_postings : (size : ℕ) (at : TermStart) (xs : List IndexedTerm) → (end_of size at (told_of xs)).postings ≡ at.postings + length (postings_of xs)
end_postings size at xs = postings_from at.postings xs

pub end_positions : (size : ℕ) (at : TermStart) (xs : List IndexedTerm) → (end_of size at (told_of xs)).positions ≡ at.positions + length (positions_of xs)
end_positions size at xs = positions_from at.positions xs

-- ---- where fields end

pub field_entry : (size : ℕ) (at : TermStart) (f : FieldTerms) → (field_end size at f).entry ≡ at.entry + length (field_terms_bytes size f)
field_entry size at f = (let l = length-append (header_of f) (coded_terms size f.terms) in omega (arith, l))

pub fields_entry : (size : ℕ) (at : TermStart) (fs : List FieldTerms) → (fields_end size at fs).entry ≡ at.entry + length (flat_map (field_terms_bytes size) fs)
fields_entry size at [] = omega arith
fields_entry size at (f ∷ fs) = (let later = fields_entry size (field_end size at f) fs in omega (arith, later, field_entry size at f, length-append (field_terms_bytes size f) (flat_map (field_terms_bytes size) fs)))

pub fields_postings : (size : ℕ) (at : TermStart) (fields : List IndexedField) → (fields_end size at (map field_terms fields)).postings ≡ at.postings + length (all_postings fields)
fields_postings size at [] = omega arith
fields_postings size at (f ∷ fields) = (let later = fields_postings size (field_end size at (field_terms f)) fields in omega (arith, later, end_postings size (first_in at (field_terms f)) f.terms, length-append (postings_of f.terms) (all_postings fields)))

pub fields_positions : (size : ℕ) (at : TermStart) (fields : List IndexedField) → (fields_end size at (map field_terms fields)).positions ≡ at.positions + length (all_positions fields)
fields_positions size at [] = omega arith
fields_positions size at (f ∷ fields) = (let later = fields_positions size (field_end size at (field_terms f)) fields in omega (arith, later, end_positions size (first_in at (field_terms f)) f.terms, length-append (positions_of f.terms) (all_positions fields)))

pub fields_grow : (size : ℕ) (at : TermStart) (fs : List FieldTerms) → (at.postings ≤ (fields_end size at fs).postings) × (at.positions ≤ (fields_end size at fs).positions)
fields_grow size at [] = (omega arith, omega arith)
fields_grow size at (f ∷ fs) =
    let here = ends_grow size (first_in at f) f.terms in
    let later = fields_grow size (field_end size at f) fs in
    (omega (arith, here.0, later.0), omega (arith, here.1, later.1))

-- ---- fields as they stand

-- ascending terms, no more than a u32 can count, whose numbers fit
pub record FieldFits (f : FieldTerms) : Type 0 where
  pub ascend : TermsAscend (map (λ (t : Told). t.0) f.terms)
  pub few : length f.terms ≤ 4294967295
  pub tokens_fit : f.num_tokens < 2 ^ 64
  pub fit : AllByRecursion (λ (t : Told). TermFits t.1) f.terms

pub field_stands : (size : ℕ) (section : List ℕ) (at : TermStart) (p q : ℕ) (f : FieldTerms) (rest : List ℕ) → length section < 2 ^ 63 → at.entry ≤ length section → FieldFits f → drop at.entry section ≡ field_terms_bytes size f ++ rest → (field_end size at f).postings ≤ p → (field_end size at f).positions ≤ q → IsReadField size section at p q f (field_end size at f)
field_stands size section at p q f rest short within fits is first second =
    let h = header_of f in
    let ts = coded_terms size f.terms in
    let parts : drop at.entry section ≡ h ++ (ts ++ rest) = is ∙ append_assoc h ts rest in
    let terms : drop (first_in at f).entry section ≡ ts ++ rest = rest_there at.entry section h (ts ++ rest) parts in
    let last : drop (field_end size at f).entry section ≡ rest = rest_there (first_in at f).entry section ts rest terms in
    let long : length section ≡ at.entry + length h + length ts + length rest = (let l = ap length parts in omega (arith, within, l, length-drop at.entry section, length-append h (ts ++ rest), length-append ts rest)) in
    record {
      header = record {
        spelled = parts ∙ ap (λ xs. h ++ xs) (sym terms);
        tokens_fit = fits.tokens_fit;
        terms_fit = fits.few;
        end_is = refl;
        within = omega (arith, long);
      };
      read = record {
        terms = record { spelled = terms ∙ ap (λ xs. ts ++ xs) (sym last); ascend = fits.ascend; fit = fits.fit; postings_end = first; positions_end = second };
        end_is = refl;
        within = omega (arith, long);
      };
    }

pub fields_stand : (size : ℕ) (section : List ℕ) (at : TermStart) (p q : ℕ) (fs : List FieldTerms) (rest : List ℕ) → length section < 2 ^ 63 → at.entry ≤ length section → AllByRecursion FieldFits fs → drop at.entry section ≡ flat_map (field_terms_bytes size) fs ++ rest → (fields_end size at fs).postings ≤ p → (fields_end size at fs).positions ≤ q → AreFields size section at p q fs
fields_stand size section at p q [] rest short within fits is first second = tt
fields_stand size section at p q (f ∷ fs) rest short within fits is first second =
    let after = flat_map (field_terms_bytes size) fs ++ rest in
    let here : drop at.entry section ≡ field_terms_bytes size f ++ after = is ∙ append_assoc (field_terms_bytes size f) (flat_map (field_terms_bytes size) fs) rest in
    let grow = fields_grow size (field_end size at f) fs in
    let field = field_stands size section at p q f after short within fits.0 here (omega (arith, grow.0, first)) (omega (arith, grow.1, second)) in
    let last : drop (field_end size at f).entry section ≡ after = ap (λ k. drop k section) (field_entry size at f) ∙ rest_there at.entry section (field_terms_bytes size f) after here in
    (field, fields_stand size section (field_end size at f) p q fs rest short field.read.within fits.1 last first second)
