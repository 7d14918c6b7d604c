-- Pairs of a field and a leaf that can be held.
use Rattle.std.proofs.Common.{FitsSigned, [], ◌++◌, ◌<◌, ◌^◌, ◌∷◌, ◌≡◌, ◌∙◌, Bool, IsUtf8, List, ap, append_assoc, arith, length, refl, suc, true, ℕ, ℤ}
use Rattle.std.specs.Int.{w64}
use Rattle.std.specs.List.{AllByRecursion}
use Rattle.definitions.specs.Facets.{encoded}
use Rattle.definitions.specs.NumberCodes.{AreBytes, sized_bytes, u32_bytes}
use Rattle.definitions.specs.Values.{IsFacet, Token, bool, bytes, date, facet, i64, ip_addr, pre_tok_str, str, u64}
use Rattle.document_values.specs.Docs.{IsGoodPair}
use Rattle.document_values.specs.Held.{IsHeldValue}
use Rattle.layouts.specs.DocumentReading.{deepest}

pub str_pair : (f : ℕ) (s : List ℕ) → f < 2 ^ 32 → IsUtf8 s → length s < 2 ^ 64 → IsGoodPair true deepest (f, str s)
str_pair f s field text short = record { field = field; value = record { value = text; sized = short; shallow = omega arith; kept = λ e. refl } }

pub tokens_pair : (f : ℕ) (s : List ℕ) (ts : List Token) → f < 2 ^ 32 → IsHeldValue (pre_tok_str s ts) → IsGoodPair true deepest (f, pre_tok_str s ts)
tokens_pair f s ts field held = record { field = field; value = record { value = held.0; sized = held.1; shallow = omega arith; kept = λ e. cc } }

pub facet_pair : (f : ℕ) (steps : List (List ℕ)) → f < 2 ^ 32 → IsFacet steps → length (encoded steps) < 2 ^ 64 → IsGoodPair true deepest (f, facet steps)
facet_pair f steps field is short = record { field = field; value = record { value = is; sized = short; shallow = omega arith; kept = λ e. refl } }

all_bytes : (xs : List ℕ) → AreBytes xs → AllByRecursion (λ b. b < 2 ^ 8) xs
all_bytes [] h = tt
all_bytes (x ∷ xs) h = (h 0, all_bytes xs (λ i. h (suc i)))

pub bytes_pair : (f : ℕ) (bs : List ℕ) → f < 2 ^ 32 → AreBytes bs → length bs < 2 ^ 64 → IsGoodPair true deepest (f, bytes bs)
bytes_pair f bs field are short = record { field = field; value = record { value = all_bytes bs are; sized = short; shallow = omega arith; kept = λ e. refl } }

pub u64_pair : (f n : ℕ) → f < 2 ^ 32 → n < 2 ^ 64 → IsGoodPair true deepest (f, u64 n)
u64_pair f n field fits = record { field = field; value = record { value = fits; sized = tt; shallow = omega arith; kept = λ e. refl } }

pub i64_pair : (f : ℕ) (z : ℤ) → f < 2 ^ 32 → FitsSigned w64 z → IsGoodPair true deepest (f, i64 z)
i64_pair f z field fits = record { field = field; value = record { value = fits; sized = tt; shallow = omega arith; kept = λ e. refl } }

pub date_pair : (f : ℕ) (z : ℤ) → f < 2 ^ 32 → FitsSigned w64 z → IsGoodPair true deepest (f, date z)
date_pair f z field fits = record { field = field; value = record { value = fits; sized = tt; shallow = omega arith; kept = λ e. refl } }

pub bool_pair : (f : ℕ) (b : Bool) → f < 2 ^ 32 → IsGoodPair true deepest (f, bool b)
bool_pair f b field = record { field = field; value = record { value = tt; sized = tt; shallow = omega arith; kept = λ e. refl } }

pub address_pair : (f n : ℕ) → f < 2 ^ 32 → n < 2 ^ 128 → IsGoodPair true deepest (f, ip_addr n)
address_pair f n field fits = record { field = field; value = record { value = fits; sized = tt; shallow = omega arith; kept = λ e. refl } }

-- a field and a code, and behind these a byte string
pub sized_parts : (field code : ℕ) (head s : List ℕ) → head ≡ u32_bytes field ++ (code ∷ []) → head ++ sized_bytes s ≡ u32_bytes field ++ (code ∷ sized_bytes s)
sized_parts field code head s is = ap (λ h. h ++ sized_bytes s) is ∙ append_assoc (u32_bytes field) (code ∷ []) (sized_bytes s)
