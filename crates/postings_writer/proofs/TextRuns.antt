-- Tokens as they are recorded, one after another.
use Rattle.std.proofs.Common.{[], ◌++◌, ◌+◌, ◌<◌, ◌^◌, ◌≡◌, ◌≤◌, ◌∙◌, ◌∷◌, ◌⊎◌, Bool, List, Some, ap, append_assoc, arith, cond, drop, inl, inr, length, length-append, max, min, nat_le, nat_lt, refl, slice_get, subst, sym, true, false, ℕ}
use Rattle.std.proofs.lemmas.Bool.Decides.{nat_tests}
use Rattle.std.proofs.lemmas.List.{map-append}
use Rattle.std.proofs.lemmas.List.Elements.{filter-append}
use Rattle.std.proofs.lemmas.Slice.Eq.{bytes_eq-Decides}
use Rattle.definitions.specs.Analyzers.{kept, max_token_len}
use Rattle.definitions.specs.Places.{ends, greatest_from, next_start}
use Rattle.definitions.specs.Schema.{Schema}
use Rattle.definitions.specs.Values.{Token}
use Rattle.definitions.specs.declared.fault.Fault.{Fault}
use Rattle.postings_writer.specs.Occurrences.{Occurrence, PassesCount, places_of}
use Rattle.postings_writer.specs.Recorders.{IsCountRefusal}
use Rattle.postings_writer.specs.Texts.{AreWithin, CountPasses, EndsPast, IsTextRefusal, occurrence_of, text_occurrences}
use Rattle.postings_writer.specs.Writers.{Stands, Writer}
use Rattle.postings_writer.proofs.Groups.{ends_push}
use Rattle.postings_writer.proofs.Standing.{places_of-push}

-- ---- where tokens end

least_within : (start : ℕ) (ns : List ℕ) → start ≤ greatest_from start ns
least_within start [] = omega arith
least_within start (n ∷ ns) = omega (arith, least_within start ns)

greatest_from-append : (start : ℕ) (xs ys : List ℕ) → greatest_from start (xs ++ ys) ≡ max (greatest_from start xs) (greatest_from start ys)
greatest_from-append start [] ys = omega (arith, least_within start ys)
greatest_from-append start (x ∷ xs) ys = (let later = greatest_from-append start xs ys in omega arith)

pub ends_append : (start : ℕ) (xs ys : List Token) → greatest_from start (ends start (xs ++ ys)) ≡ max (greatest_from start (ends start xs)) (greatest_from start (ends start ys))
ends_append start xs ys = ap (greatest_from start) (map-append (λ (t : Token). start + t.position + t.position_length) xs ys) ∙ greatest_from-append start (ends start xs) (ends start ys)

pub within_append : (gap start : ℕ) (xs ys : List Token) → AreWithin gap start xs → AreWithin gap start ys → AreWithin gap start (xs ++ ys)
within_append gap start [] ys first second = second
within_append gap start (x ∷ xs) ys first second = (first.0, within_append gap start xs ys first.1 second)

within_part : (gap start : ℕ) (xs ys zs : List Token) → AreWithin gap start (xs ++ (ys ++ zs)) → AreWithin gap start ys
within_part gap start [] [] zs all = tt
within_part gap start [] (y ∷ ys) zs all = (all.0, within_part gap start [] ys zs all.1)
within_part gap start (x ∷ xs) ys zs all = within_part gap start xs ys zs all.1

-- ---- one token

pub kept_more : (t : Token) (ts : List Token) → kept (t ∷ ts) ≡ kept (t ∷ []) ++ kept ts
kept_more t ts = filter-append (λ (x : Token). nat_le (length x.text) max_token_len) (t ∷ []) ts

-- a token that isn't longer than any that is kept
pub kept_one : (t : Token) → length t.text ≤ max_token_len → kept (t ∷ []) ≡ t ∷ []
kept_one t short = (let test : nat_le (length t.text) max_token_len ≡ true = grind (arith, nat_tests) in ap (λ b. cond b (t ∷ []) []) test)

-- a token whose count is refused
pub one_refused : (fault : Fault) (os : List Occurrence) (doc : ℕ) (prefix : List ℕ) (gap start : ℕ) (t : Token) (position : ℕ) → position ≡ start + t.position → IsCountRefusal fault (places_of (prefix ++ t.text) os ++ (doc, position) ∷ []) → IsTextRefusal fault os doc prefix gap start (t ∷ [])
one_refused fault os doc prefix gap start t position at (inl memory) = inl memory
one_refused fault os doc prefix gap start t position at (inr limit) = inr (
  limit.0,
  inr (record {
    before = t ∷ [];
    after = [];
    term = prefix ++ t.text;
    split = refl;
    past = subst (PassesCount doc) (sym here) (ends_push (places_of (prefix ++ t.text) os) doc position, limit.1);
  }),
)
  where
    here : places_of (prefix ++ t.text) (os ++ text_occurrences doc prefix start (t ∷ [])) ≡ places_of (prefix ++ t.text) os ++ (doc, position) ∷ []
    here =
        places_of-push (prefix ++ t.text) os (occurrence_of doc prefix start t)
        ∙ ap (λ b. places_of (prefix ++ t.text) os ++ cond b ((doc, start + t.position) ∷ []) []) ((bytes_eq-Decides (prefix ++ t.text) (prefix ++ t.text)).1 refl)
        ∙ ap (λ n. places_of (prefix ++ t.text) os ++ (doc, n) ∷ []) (sym at)

-- ---- all tokens

-- these tokens were recorded, of all that are kept
pub record Indexed (schema : Schema) (was now : Writer) (doc : ℕ) (prefix : List ℕ) (gap start end num_tokens : ℕ) (all rest : List Token) : Type 0 where
  pub seen : List Token
  pub split : kept all ≡ seen ++ kept rest
  pub stands : (os : List Occurrence) → Stands schema was os → Stands schema now (os ++ text_occurrences doc prefix start seen)
  pub end_is : end ≡ greatest_from start (ends start seen)
  pub counted : num_tokens ≡ min 4294967295 (length seen)
  pub within : AreWithin gap start seen

joined : (doc : ℕ) (prefix : List ℕ) (start : ℕ) (os : List Occurrence) (xs ys : List Token) → (os ++ text_occurrences doc prefix start xs) ++ text_occurrences doc prefix start ys ≡ os ++ text_occurrences doc prefix start (xs ++ ys)
joined doc prefix start os xs ys = append_assoc os (text_occurrences doc prefix start xs) (text_occurrences doc prefix start ys) ∙ ap (λ more. os ++ more) (sym (map-append (occurrence_of doc prefix start) xs ys))

split_more : (all seen rest after : List Token) (t : Token) → kept all ≡ seen ++ kept rest → rest ≡ t ∷ after → kept all ≡ (seen ++ kept (t ∷ [])) ++ kept after
split_more all seen rest after t split is = split ∙ ap (λ ts. seen ++ kept ts) is ∙ ap (λ ts. seen ++ ts) (kept_more t after) ∙ sym (append_assoc seen (kept (t ∷ [])) (kept after))

-- one token more
pub indexed_more : (schema : Schema) (was now new : Writer) (doc : ℕ) (prefix : List ℕ) (gap start end token_end greatest num_tokens count total : ℕ) (all rest after : List Token) (t : Token) → Indexed schema was now doc prefix gap start end num_tokens all rest → rest ≡ t ∷ after
    → ((os : List Occurrence) → Stands schema now os → Stands schema new (os ++ text_occurrences doc prefix start (kept (t ∷ []))))
    → token_end ≡ greatest_from start (ends start (kept (t ∷ []))) → AreWithin gap start (kept (t ∷ [])) → greatest ≡ max end token_end
    → count ≡ length (kept (t ∷ [])) → total ≡ min 4294967295 (num_tokens + count)
    → Indexed schema was new doc prefix gap start greatest total all after
indexed_more schema was now new doc prefix gap start end token_end greatest num_tokens count total all rest after t before is more token_is token_within greatest_is count_is total_is = record {
  seen = before.seen ++ kept (t ∷ []);
  split = split_more all before.seen rest after t before.split is;
  stands = λ os stands. subst (Stands schema new) (joined doc prefix start os before.seen (kept (t ∷ []))) (more (os ++ text_occurrences doc prefix start before.seen) (before.stands os stands));
  end_is = greatest_is ∙ ap (λ n. max n token_end) before.end_is ∙ ap (max (greatest_from start (ends start before.seen))) token_is ∙ sym (ends_append start before.seen (kept (t ∷ [])));
  counted = (let so_far = before.counted in let long = length-append before.seen (kept (t ∷ [])) in omega arith);
  within = within_append gap start before.seen (kept (t ∷ [])) before.within token_within;
}

-- the token that is reached stands first
pub token_first : (rest after : List Token) (t : Token) → slice_get rest 0 ≡ Some t → after ≡ drop 1 rest → rest ≡ t ∷ after
token_first [] after t first is = cc
token_first (x ∷ xs) after t first is = (let same : x ≡ t = cc in ap (λ y. y ∷ xs) same ∙ ap (λ ys. t ∷ ys) (sym is))

-- a token that is refused
pub indexed_refused : (fault : Fault) (schema : Schema) (was now : Writer) (os : List Occurrence) (doc : ℕ) (prefix : List ℕ) (gap start end num_tokens : ℕ) (all rest after : List Token) (t : Token) (before : Indexed schema was now doc prefix gap start end num_tokens all rest) → rest ≡ t ∷ after → IsTextRefusal fault (os ++ text_occurrences doc prefix start before.seen) doc prefix gap start (kept (t ∷ [])) → IsTextRefusal fault os doc prefix gap start (kept all)
indexed_refused fault schema was now os doc prefix gap start end num_tokens all rest after t before is (inl memory) = inl memory
indexed_refused fault schema was now os doc prefix gap start end num_tokens all rest after t before is (inr limit) = inr (limit.0, go limit.1)
  where
    whole : kept all ≡ before.seen ++ (kept (t ∷ []) ++ kept after)
    whole = split_more all before.seen rest after t before.split is ∙ append_assoc before.seen (kept (t ∷ [])) (kept after)

    go : EndsPast gap start (kept (t ∷ [])) ⊎ CountPasses (os ++ text_occurrences doc prefix start before.seen) doc prefix start (kept (t ∷ [])) → EndsPast gap start (kept all) ⊎ CountPasses os doc prefix start (kept all)
    go (inl past) = inl (λ within. past (within_part gap start before.seen (kept (t ∷ [])) (kept after) (subst (AreWithin gap start) whole within)))
    go (inr count) = inr (record {
      before = before.seen ++ count.before;
      after = count.after ++ kept after;
      term = count.term;
      split = whole ∙ ap (λ ts. before.seen ++ (ts ++ kept after)) count.split ∙ ap (λ ts. before.seen ++ ts) (append_assoc count.before count.after (kept after)) ∙ sym (append_assoc before.seen count.before (count.after ++ kept after));
      past = subst (λ xs. PassesCount doc (places_of count.term xs)) (joined doc prefix start os before.seen count.before) count.past;
    })

-- ---- a start that was cut

abbrev none : List Token
none = []

-- it is the real one, or no token is within
pub cut : (gap start real : ℕ) (ts : List Token) → start ≡ min (2 ^ 31) real → AreWithin gap start ts → (start ≡ real) ⊎ ((ts ≡ []) × (start ≡ 2 ^ 31) × (2 ^ 31 ≤ real))
cut gap start real [] is within = go (nat_lt real (2 ^ 31)) refl
  where
    go : (b : Bool) → nat_lt real (2 ^ 31) ≡ b → (start ≡ real) ⊎ ((none ≡ none) × (start ≡ 2 ^ 31) × (2 ^ 31 ≤ real))
    go true e = inl (let below : real < 2 ^ 31 = grind (arith, nat_tests) in omega arith)
    go false e = inr (refl, (let above : 2 ^ 31 ≤ real = grind (arith, nat_tests) in omega arith), grind (arith, nat_tests))
cut gap start real (t ∷ ts) is within = inl (let w = within.0 in omega arith)

pub cut_stands : (schema : Schema) (w : Writer) (os : List Occurrence) (doc : ℕ) (prefix : List ℕ) (gap start real : ℕ) (ts : List Token) → start ≡ min (2 ^ 31) real → AreWithin gap start ts → Stands schema w (os ++ text_occurrences doc prefix start ts) → Stands schema w (os ++ text_occurrences doc prefix real ts)
cut_stands schema w os doc prefix gap start real ts is within stands = go (cut gap start real ts is within)
  where
    go : (start ≡ real) ⊎ ((ts ≡ []) × (start ≡ 2 ^ 31) × (2 ^ 31 ≤ real)) → Stands schema w (os ++ text_occurrences doc prefix real ts)
    go (inl same) = subst (λ n. Stands schema w (os ++ text_occurrences doc prefix n ts)) same stands
    go (inr (empty, _, _)) = subst (λ xs. Stands schema w (os ++ text_occurrences doc prefix real xs)) (sym empty) (subst (λ xs. Stands schema w (os ++ text_occurrences doc prefix start xs)) empty stands)

pub cut_within : (gap start real : ℕ) (ts : List Token) → start ≡ min (2 ^ 31) real → AreWithin gap start ts → AreWithin gap real ts
cut_within gap start real [] is within = tt
cut_within gap start real (t ∷ ts) is within = (let w = within.0 in (omega arith, cut_within gap start real ts is within.1))

pub cut_next : (gap start real end next : ℕ) (ts : List Token) → start ≡ min (2 ^ 31) real → AreWithin gap start ts → end ≡ greatest_from start (ends start ts) → next ≡ min (2 ^ 31) (min end (2 ^ 31) + gap) → next ≡ min (2 ^ 31) (next_start gap real ts)
cut_next gap start real end next ts is within end_is next_is = go (cut gap start real ts is within)
  where
    go : (start ≡ real) ⊎ ((ts ≡ []) × (start ≡ 2 ^ 31) × (2 ^ 31 ≤ real)) → next ≡ min (2 ^ 31) (next_start gap real ts)
    go (inl same) = (let e : end ≡ greatest_from real (ends real ts) = end_is ∙ ap (λ n. greatest_from n (ends n ts)) same in omega arith)
    go (inr (empty, top, past)) = (let e : end ≡ start = end_is ∙ ap (λ xs. greatest_from start (ends start xs)) empty in let r : next_start gap real ts ≡ real + gap = ap (next_start gap real) empty in omega arith)

pub cut_refused : (fault : Fault) (os : List Occurrence) (doc : ℕ) (prefix : List ℕ) (gap start real : ℕ) (ts : List Token) → start ≡ min (2 ^ 31) real → IsTextRefusal fault os doc prefix gap start ts → IsTextRefusal fault os doc prefix gap real ts
cut_refused fault os doc prefix gap start real ts is (inl memory) = inl memory
cut_refused fault os doc prefix gap start real [] is (inr (limit, inl past)) = inr (limit, inl past)
cut_refused fault os doc prefix gap start real [] is (inr (limit, inr count)) = inr (limit, inr (record { before = []; after = []; term = count.term; split = refl; past = subst (λ ts. PassesCount doc (places_of count.term (os ++ text_occurrences doc prefix start ts))) (empty count.before count.after count.split) count.past }))
  where
    empty : (xs ys : List Token) → none ≡ xs ++ ys → xs ≡ none
    empty [] ys e = refl
    empty (x ∷ xs) ys e = cc
cut_refused fault os doc prefix gap start real (t ∷ ts) is (inr (limit, why)) = go (nat_lt real (2 ^ 31)) refl
  where
    go : (b : Bool) → nat_lt real (2 ^ 31) ≡ b → IsTextRefusal fault os doc prefix gap real (t ∷ ts)
    go true e = (let same : start ≡ real = (let below : real < 2 ^ 31 = grind (arith, nat_tests) in omega arith) in subst (λ n. IsTextRefusal fault os doc prefix gap n (t ∷ ts)) same (inr (limit, why)))
    go false e = inr (limit, inl (λ within. (let w = within.0 in let above : 2 ^ 31 ≤ real = grind (arith, nat_tests) in absurd (omega arith))))
