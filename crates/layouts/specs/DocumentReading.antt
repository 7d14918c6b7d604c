-- Documents read from bytes: in the binary form, and as they are held in memory, where texts may have tokens.
use Rattle.std.specs.Prelude.{[], ◌*◌, ◌+◌, ◌^◌, ◌∷◌, Bool, List, None, Option, Some, eqb, false, if◌then◌else◌, nat_le, nat_lt, option_map, suc, true, zero, ℕ}
use Rattle.std.specs.Int.{cast_signed, w64}
use Rattle.std.specs.List.{slice_split}
use Rattle.definitions.specs.Json.{only_if, ◌>>=◌}
use Rattle.definitions.specs.NumberCodes.{take_bytes, take_text, take_u32, take_u64, take_vint}
use Rattle.definitions.specs.Values.{Document, Members, Token, Value, Values, array, bool, bytes, date, facet, i64, ip_addr, member, no_members, no_values, null, object, pre_tok_str, str, u64, value}

-- what was taken, changed
abbrev pub taken_map : {A B : Type 0} → (A → B) → Option (A × List ℕ) → Option (B × List ℕ)
taken_map f o = option_map (λ p. (f p.0, p.1)) o

-- a number of items, one after another
abbrev pub take_many : {A : Type 0} → (List ℕ → Option (A × List ℕ)) → ℕ → List ℕ → Option (List A × List ℕ)
take_many item zero bs = Some ([], bs)
take_many item (suc n) bs = do
  p ← item bs
  taken_map (λ xs. p.0 ∷ xs) (take_many item n p.1)

-- ---- tokens

-- a token that doesn't stand before that position
abbrev pub take_token : ℕ → List ℕ → Option (Token × List ℕ)
take_token least bs = do
  p ← take_vint bs
  l ← take_vint p.1
  t ← take_text l.1
  only_if (nat_le least p.0) (Some (record { position = p.0; position_length = l.0; text = t.0 }, t.1))

-- a number of tokens that don't stand before a position
abbrev pub take_tokens_from : ℕ → ℕ → List ℕ → Option (List Token × List ℕ)
take_tokens_from least zero bs = Some ([], bs)
take_tokens_from least (suc n) bs = do
  p ← take_token least bs
  taken_map (λ ts. p.0 ∷ ts) (take_tokens_from p.0.position n p.1)

-- how many tokens there are, and these
abbrev pub take_tokens : List ℕ → Option (List Token × List ℕ)
take_tokens bs = do
  p ← take_vint bs
  take_tokens_from 0 p.0 p.1

-- ---- heads of values

-- a value that holds no others, or how many stand behind
pub data Head : Type 0 where
  leaf : Value → Head
  array_head : ℕ → Head
  object_head : ℕ → Head

-- the steps that a text parts by its zeros
abbrev pub steps_in : List ℕ → List (List ℕ)
steps_in text = slice_split (λ b. eqb b 0) text

-- a text, made a value
abbrev pub take_text_leaf : (List ℕ → Value) → List ℕ → Option (Head × List ℕ)
take_text_leaf f bs = taken_map (λ s. leaf (f s)) (take_text bs)

-- eight bytes, made a value
abbrev pub take_u64_leaf : (ℕ → Value) → List ℕ → Option (Head × List ℕ)
take_u64_leaf f bs = taken_map (λ n. leaf (f n)) (take_u64 bs)

-- a byte string
abbrev pub take_bytes_leaf : List ℕ → Option (Head × List ℕ)
take_bytes_leaf bs = taken_map (λ b. leaf (bytes b)) (take_bytes bs)

-- a byte that is 0 or 1
abbrev pub take_bool_leaf : List ℕ → Option (Head × List ℕ)
take_bool_leaf [] = None
take_bool_leaf (b ∷ bs) = only_if (nat_lt b 2) (Some (leaf (bool (eqb b 1)), bs))

-- sixteen bytes, the lowest first
abbrev pub take_address_leaf : List ℕ → Option (Head × List ℕ)
take_address_leaf bs = do
  l ← take_u64 bs
  taken_map (λ h. leaf (ip_addr (l.0 + 2 ^ 64 * h))) (take_u64 l.1)

-- a text and its tokens
abbrev pub take_pre_tokenized_leaf : List ℕ → Option (Head × List ℕ)
take_pre_tokenized_leaf bs = do
  s ← take_text bs
  taken_map (λ ts. leaf (pre_tok_str s.0 ts)) (take_tokens s.1)

-- what follows a code; only where tokens may stand is there one for texts with tokens
abbrev pub take_coded : Bool → ℕ → List ℕ → Option (Head × List ℕ)
take_coded tokens c bs =
    if eqb c 0 then take_text_leaf str bs else
    (if eqb c 1 then take_u64_leaf u64 bs else
    (if eqb c 2 then take_u64_leaf (λ n. i64 (cast_signed w64 n)) bs else
    (if eqb c 3 then take_text_leaf (λ s. facet (steps_in s)) bs else
    (if eqb c 4 then take_bytes_leaf bs else
    (if eqb c 5 then take_u64_leaf (λ n. date (cast_signed w64 n)) bs else
    (if eqb c 8 then only_if tokens (take_pre_tokenized_leaf bs) else
    (if eqb c 9 then take_bool_leaf bs else
    (if eqb c 10 then take_address_leaf bs else
    (if eqb c 11 then Some (leaf null, bs) else
    (if eqb c 12 then taken_map array_head (take_vint bs) else
    (if eqb c 13 then taken_map object_head (take_vint bs) else None)))))))))))

-- a code, and what follows it
abbrev pub take_head : Bool → List ℕ → Option (Head × List ℕ)
take_head tokens [] = None
take_head tokens (c ∷ bs) = take_coded tokens c bs

-- ---- values

-- values in a list, as an array holds them
abbrev pub to_values : List Value → Values
to_values [] = no_values
to_values (v ∷ vs) = value v (to_values vs)

-- members in a list, as an object holds them
abbrev pub to_members : List (List ℕ × Value) → Members
to_members [] = no_members
to_members ((k, v) ∷ ms) = member k v (to_members ms)

-- a text and a value
abbrev pub take_member : (List ℕ → Option (Value × List ℕ)) → List ℕ → Option ((List ℕ × Value) × List ℕ)
take_member item bs = do
  k ← take_text bs
  taken_map (λ v. (k.0, v)) (item k.1)

-- the rest of the value with that head, where others may stand in it
abbrev pub take_inside : (List ℕ → Option (Value × List ℕ)) → Head × List ℕ → Option (Value × List ℕ)
take_inside item (leaf v, bs) = Some (v, bs)
take_inside item (array_head n, bs) = taken_map (λ vs. array (to_values vs)) (take_many item n bs)
take_inside item (object_head n, bs) = taken_map (λ ms. object (to_members ms)) (take_many (take_member item) n bs)

-- a value of a head, where no arrays and objects may stand
abbrev pub take_alone : Head × List ℕ → Option (Value × List ℕ)
take_alone (leaf v, bs) = Some (v, bs)
take_alone _ = None

-- a value that nests at most so deep
abbrev pub take_held : Bool → ℕ → List ℕ → Option (Value × List ℕ)
take_held tokens zero bs = take_head tokens bs >>= take_alone
take_held tokens (suc depth) bs = take_head tokens bs >>= take_inside (take_held tokens depth)

-- a field's number and one of its values
abbrev pub take_pair : (List ℕ → Option (Value × List ℕ)) → List ℕ → Option ((ℕ × Value) × List ℕ)
take_pair item bs = do
  f ← take_u32 bs
  taken_map (λ v. (f.0, v)) (item f.1)

-- deeper than any value in memory
abbrev pub deepest : ℕ
deepest = 18446744073709551615

-- a value as a document holds it
unfoldable pub take_any : List ℕ → Option (Value × List ℕ)
take_any bs = take_held true deepest bs

-- a value of the binary form: without tokens, and at most 128 deep
abbrev pub take_value : List ℕ → Option (Value × List ℕ)
take_value bs = take_held false 128 bs

-- the document of the binary form that the bytes are, without more behind it
abbrev pub read_document : List ℕ → Option Document
read_document bs = do
  n ← take_vint bs
  p ← take_many (take_pair take_value) n.0 n.1
  elim p.1 [ [] ↦ Some p.0 | _ ∷ _ ↦ None ]

-- ---- what is lent, read step by step

-- the items that can be taken one after another, at most a number of them
abbrev pub items_at : {A : Type 0} → (List ℕ → Option (A × List ℕ)) → ℕ → List ℕ → List A
items_at item zero bs = []
items_at item (suc n) bs = elim (item bs) [ None ↦ [] | Some p ↦ p.0 ∷ items_at item n p.1 ]

-- what is left behind a number of items
abbrev pub skip_many : {A : Type 0} → (List ℕ → Option (A × List ℕ)) → ℕ → List ℕ → Option (List ℕ)
skip_many item zero bs = Some bs
skip_many item (suc n) bs = item bs >>= (λ p. skip_many item n p.1)

-- behind a number of tokens whose positions never fall
abbrev pub skip_tokens_from : ℕ → ℕ → List ℕ → Option (List ℕ)
skip_tokens_from least zero bs = Some bs
skip_tokens_from least (suc n) bs = take_token least bs >>= (λ p. skip_tokens_from p.0.position n p.1)

-- what stands behind how many tokens there are, and these
abbrev pub skip_tokens : List ℕ → Option (List ℕ)
skip_tokens bs = take_vint bs >>= (λ p. skip_tokens_from 0 p.0 p.1)

-- the tokens that bytes begin with, and none where they begin with none
abbrev pub tokens_at : List ℕ → List Token
tokens_at bs = elim (take_tokens bs) [ None ↦ [] | Some p ↦ p.0 ]
