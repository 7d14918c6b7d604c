-- Headers of fields are taken as they are put.
use Rattle.std.proofs.Common.{[], Bool, List, None, Option, Some, ap, append_assoc, arith, drop, length, length-append, length-drop, refl, subst, suc, sym, zero, ◌++◌, ◌+◌, ◌-◌, ◌<◌, ◌≡◌, ◌≤◌, ◌∙◌, ◌∷◌, ◌^◌, ℕ}
use Rattle.std.proofs.Math.Seq.{drop-append_seam}
use Rattle.std.proofs.lemmas.List.{drop-drop}
use Rattle.common.proofs.AliveSetBytes.{u32_back, u64_back}
use Rattle.common.proofs.TakenBack.{u32_put, u64_put, vint_back, vint_put}
use Rattle.common.proofs.WordBytes.{back_bytes as bytes_behind}
use Rattle.definitions.specs.NumberCodes.{AreBytes, take_u32, take_u64, take_vint, u32_bytes, u64_bytes, vint_bytes}
use Rattle.front_coding.specs.declared.term_starts.TermStart.{TermStart}
use Rattle.layouts.specs.TermSections.{FieldTerms, Told, block_size}
use Rattle.segment_reader.specs.TermPlaces.{AreRead, AreTerms, IsField, IsHeader, IsReadField, first_in, header_bytes, header_of, starts_of}
use Rattle.segment_reader.specs.ToldFields.{HasShape}
use Rattle.segment_reader.specs.declared.field_index.TermsShape.{TermsShape}

abbrev pub number_in : {X : Type 0} → ℕ → Option (ℕ × X) → ℕ
number_in other None = other
number_in other (Some p) = p.0

abbrev pub rest_in : List ℕ → Option (ℕ × List ℕ) → List ℕ
rest_in other None = other
rest_in other (Some p) = p.1

parts_of : (field tokens terms : ℕ) (rest : List ℕ) → header_bytes field tokens terms ++ rest ≡ u32_bytes field ++ (u64_bytes tokens ++ (vint_bytes terms ++ rest))
parts_of field tokens terms rest = append_assoc (u32_bytes field ++ u64_bytes tokens) (vint_bytes terms) rest ∙ append_assoc (u32_bytes field) (u64_bytes tokens) (vint_bytes terms ++ rest)

-- ---- what is there is taken

pub number_there : (bs : List ℕ) (field tokens terms : ℕ) (rest : List ℕ) → field < 2 ^ 32 → bs ≡ header_bytes field tokens terms ++ rest → take_u32 bs ≡ Some (field, u64_bytes tokens ++ (vint_bytes terms ++ rest))
number_there bs field tokens terms rest small is = ap take_u32 (is ∙ parts_of field tokens terms rest) ∙ u32_back field (u64_bytes tokens ++ (vint_bytes terms ++ rest)) small

pub tokens_there : (bs : List ℕ) (field number : ℕ) (after : List ℕ) → field < 2 ^ 32 → take_u32 bs ≡ Some (number, after) → (tokens terms : ℕ) (rest : List ℕ) → tokens < 2 ^ 64 → bs ≡ header_bytes field tokens terms ++ rest → take_u64 after ≡ Some (tokens, vint_bytes terms ++ rest)
tokens_there bs field number after small taken tokens terms rest few is =
    let here : after ≡ u64_bytes tokens ++ (vint_bytes terms ++ rest) = ap (rest_in after) (sym taken ∙ number_there bs field tokens terms rest small is) in
    ap take_u64 here ∙ u64_back tokens (vint_bytes terms ++ rest) few

pub terms_there : (bs : List ℕ) (field number n : ℕ) (after later : List ℕ) → field < 2 ^ 32 → take_u32 bs ≡ Some (number, after) → take_u64 after ≡ Some (n, later) → (tokens terms : ℕ) (rest : List ℕ) → tokens < 2 ^ 64 → terms < 2 ^ 64 → bs ≡ header_bytes field tokens terms ++ rest → take_vint later ≡ Some (terms, rest)
terms_there bs field number n after later small taken second tokens terms rest few_tokens few_terms is =
    let here : later ≡ vint_bytes terms ++ rest = ap (rest_in later) (sym second ∙ tokens_there bs field number after small taken tokens terms rest few_tokens is) in
    ap take_vint here ∙ vint_back terms rest few_terms

pub no_terms : (bs : List ℕ) (field number n : ℕ) (after later : List ℕ) → field < 2 ^ 32 → take_u32 bs ≡ Some (number, after) → take_u64 after ≡ Some (n, later) → take_vint later ≡ None → (tokens terms : ℕ) (rest : List ℕ) → tokens < 2 ^ 64 → terms < 2 ^ 64 → bs ≡ header_bytes field tokens terms ++ rest → ⊥
no_terms bs field number n after later small taken second none tokens terms rest few_tokens few_terms is =
    let apart : ◌≡◌ {A = Option (ℕ × List ℕ)} None (Some (terms, rest)) = sym none ∙ terms_there bs field number n after later small taken second tokens terms rest few_tokens few_terms is in
    absurd cc

pub many_terms : (bs : List ℕ) (field number n own : ℕ) (after later behind : List ℕ) → field < 2 ^ 32 → take_u32 bs ≡ Some (number, after) → take_u64 after ≡ Some (n, later) → take_vint later ≡ Some (own, behind) → 4294967295 < own → (tokens terms : ℕ) (rest : List ℕ) → tokens < 2 ^ 64 → terms ≤ 4294967295 → bs ≡ header_bytes field tokens terms ++ rest → ⊥
many_terms bs field number n own after later behind small taken second third many tokens terms rest few_tokens few_terms is =
    let there = terms_there bs field number n after later small taken second tokens terms rest few_tokens (omega (arith, few_terms)) is in
    let same = ap (number_in 0) (sym third ∙ there) in
    absurd (omega (arith, same, many, few_terms))

-- ---- what is taken is there

pub spelled_as : (bs : List ℕ) (field tokens terms : ℕ) (after later rest : List ℕ) → AreBytes bs → take_u32 bs ≡ Some (field, after) → take_u64 after ≡ Some (tokens, later) → take_vint later ≡ Some (terms, rest) → (tokens < 2 ^ 64) × (terms < 2 ^ 64) × (bs ≡ header_bytes field tokens terms ++ rest)
spelled_as bs field tokens terms after later rest bytes a b c =
    let first = u32_put bs field after bytes a in
    let bytes_1 : AreBytes after = bytes_behind (u32_bytes field) after (subst AreBytes first.1 bytes) in
    let second = u64_put after tokens later bytes_1 b in
    let bytes_2 : AreBytes later = bytes_behind (u64_bytes tokens) later (subst AreBytes second.1 bytes_1) in
    let third = vint_put later terms rest bytes_2 c in
    (second.0, third.0, first.1 ∙ ap (λ xs. u32_bytes field ++ xs) (second.1 ∙ ap (λ xs. u64_bytes tokens ++ xs) third.1) ∙ sym (parts_of field tokens terms rest))

pub rest_long : (section : List ℕ) (at field tokens terms : ℕ) (rest : List ℕ) → at ≤ length section → drop at section ≡ header_bytes field tokens terms ++ rest → at + length (header_bytes field tokens terms) + length rest ≡ length section
rest_long section at field tokens terms rest within is =
    let long = ap length is in
    omega (arith, within, long, length-append (header_bytes field tokens terms) rest, length-drop at section)

pub header_read : (section : List ℕ) (at field tokens terms : ℕ) (rest : List ℕ) → at ≤ length section → tokens < 2 ^ 64 → terms ≤ 4294967295 → drop at section ≡ header_bytes field tokens terms ++ rest → IsHeader section at field tokens terms (length section - length rest)
header_read section at field tokens terms rest within few_tokens few_terms is =
    let long = rest_long section at field tokens terms rest within is in
    let n = length (header_bytes field tokens terms) in
    let end : length section - length rest ≡ at + n = omega (arith, long) in
    let behind : drop (length section - length rest) section ≡ rest = ap (λ k. drop k section) end ∙ sym (drop-drop n at section) ∙ ap (drop n) is ∙ drop-append_seam (header_bytes field tokens terms) rest in
    record {
      spelled = is ∙ ap (λ xs. header_bytes field tokens terms ++ xs) (sym behind);
      tokens_fit = few_tokens;
      terms_fit = few_terms;
      end_is = end;
      within = omega (arith, long);
    }

-- ---- one header

pub same_header : (bs : List ℕ) (field tokens terms tokens2 terms2 : ℕ) (rest rest2 : List ℕ) → field < 2 ^ 32 → tokens < 2 ^ 64 → terms < 2 ^ 64 → tokens2 < 2 ^ 64 → terms2 < 2 ^ 64 → bs ≡ header_bytes field tokens terms ++ rest → bs ≡ header_bytes field tokens2 terms2 ++ rest2 → (tokens ≡ tokens2) × (terms ≡ terms2)
same_header bs field tokens terms tokens2 terms2 rest rest2 small a b c d is is2 =
    let after = u64_bytes tokens ++ (vint_bytes terms ++ rest) in
    let first = number_there bs field tokens terms rest small is in
    let second = tokens_there bs field field after small first tokens2 terms2 rest2 c is2 in
    let own = u64_back tokens (vint_bytes terms ++ rest) a in
    let third = terms_there bs field field tokens after (vint_bytes terms ++ rest) small first own tokens2 terms2 rest2 c d is2 in
    (ap (number_in 0) (sym own ∙ second), ap (number_in 0) (sym (vint_back terms rest b) ∙ third))

-- the terms of a field begin behind the header that was read
pub same_first : (kind : Bool) (section : List ℕ) (at : TermStart) (p q field tokens terms first : ℕ) (f : FieldTerms) (rest : List ℕ) → field < 2 ^ 32 → IsHeader section at.entry field tokens terms first → f.field ≡ field → IsField (block_size kind) section at p q f rest → (length f.terms ≡ terms) × (first_in at f ≡ record { entry = first; postings = at.postings; positions = at.positions })
same_first kind section at p q field tokens terms first f rest small header same there =
    let spelled = there.header.spelled ∙ ap (λ k. header_bytes k f.num_tokens (length f.terms) ++ drop (first_in at f).entry section) same in
    let few = there.header.terms_fit in
    let few_2 = header.terms_fit in
    let one = same_header (drop at.entry section) field f.num_tokens (length f.terms) tokens terms (drop (first_in at f).entry section) (drop first section) small there.header.tokens_fit (omega (arith, few)) header.tokens_fit (omega (arith, few_2)) spelled header.spelled in
    let long : length (header_of f) ≡ length (header_bytes field tokens terms) = ap (λ k. length (header_bytes k f.num_tokens (length f.terms))) same ∙ ap (λ k. length (header_bytes field k (length f.terms))) one.0 ∙ ap (λ k. length (header_bytes field tokens k)) one.1 in
    let entry : at.entry + length (header_of f) ≡ first = ap (λ k. at.entry + k) long ∙ sym header.end_is in
    (one.1, ap (λ k. record { entry = k; postings = at.postings; positions = at.positions }) entry)

pub not_there : (kind : Bool) (section : List ℕ) (at : TermStart) (p q field tokens terms first : ℕ) → field < 2 ^ 32 → IsHeader section at.entry field tokens terms first → ((ts : List Told) (rest : List ℕ) → length ts ≡ terms → AreTerms (block_size kind) section (record { entry = first; postings = at.postings; positions = at.positions }) p q ts rest → ⊥) → (f : FieldTerms) (rest : List ℕ) → f.field ≡ field → IsField (block_size kind) section at p q f rest → ⊥
not_there kind section at p q field tokens terms first small header none f rest same there =
    let one = same_first kind section at p q field tokens terms first f rest small header same there in
    none f.terms rest one.0 (subst (λ s. AreTerms (block_size kind) section s p q f.terms rest) one.1 there.terms)

pub no_header : (kind : Bool) (section : List ℕ) (at : TermStart) (p q field : ℕ) → ((tokens terms : ℕ) (rest : List ℕ) → tokens < 2 ^ 64 → terms ≤ 4294967295 → drop at.entry section ≡ header_bytes field tokens terms ++ rest → ⊥) → (f : FieldTerms) (rest : List ℕ) → f.field ≡ field → IsField (block_size kind) section at p q f rest → ⊥
no_header kind section at p q field none f rest same there = none f.num_tokens (length f.terms) (drop (first_in at f).entry section) there.header.tokens_fit there.header.terms_fit (there.header.spelled ∙ ap (λ k. header_bytes k f.num_tokens (length f.terms) ++ drop (first_in at f).entry section) same)

-- a field that was read
pub record FieldThere (kind : Bool) (section : List ℕ) (at : TermStart) (p q field tokens : ℕ) (shape : TermsShape) (starts : List TermStart) (end : TermStart) : Type 0 where
  pub told : FieldTerms
  pub field_is : told.field ≡ field
  pub tokens_are : told.num_tokens ≡ tokens
  pub read : IsReadField (block_size kind) section at p q told end
  pub shape_is : HasShape kind (first_in at told) told.terms shape
  pub starts_are : starts ≡ starts_of (block_size kind) (first_in at told) told.terms

pub field_there : (kind : Bool) (section : List ℕ) (at : TermStart) (p q field tokens terms first : ℕ) (shape : TermsShape) (starts : List TermStart) (end : TermStart) (ts : List Told) → IsHeader section at.entry field tokens terms first → length ts ≡ terms → AreRead (block_size kind) section (record { entry = first; postings = at.postings; positions = at.positions }) p q ts end → HasShape kind (record { entry = first; postings = at.postings; positions = at.positions }) ts shape → starts ≡ starts_of (block_size kind) (record { entry = first; postings = at.postings; positions = at.positions }) ts → FieldThere kind section at p q field tokens shape starts end
field_there kind section at p q field tokens terms first shape starts end ts header count read shaped are =
    let f : FieldTerms = record { field = field; num_tokens = tokens; terms = ts } in
    let entry : first ≡ at.entry + length (header_bytes field tokens (length ts)) = header.end_is ∙ ap (λ k. at.entry + length (header_bytes field tokens k)) (sym count) in
    let here : record { entry = first; postings = at.postings; positions = at.positions } ≡ first_in at f = ap (λ k. record { entry = k; postings = at.postings; positions = at.positions }) entry in
    record {
      told = f;
      field_is = refl;
      tokens_are = refl;
      read = record {
        header = subst (λ k. IsHeader section at.entry field tokens (length ts) k) entry (subst (λ k. IsHeader section at.entry field tokens k first) (sym count) header);
        read = subst (λ s. AreRead (block_size kind) section s p q ts end) here read;
      };
      shape_is = subst (λ s. HasShape kind s ts shape) here shaped;
      starts_are = are ∙ ap (λ s. starts_of (block_size kind) s ts) here;
    }

pub bytes_drop : (n : ℕ) (xs : List ℕ) → AreBytes xs → AreBytes (drop n xs)
bytes_drop zero xs bytes = bytes
bytes_drop (suc n) [] bytes = bytes
bytes_drop (suc n) (x ∷ xs) bytes = bytes_drop n xs (λ i. bytes (suc i))
