-- Pairs as a document holds them: what was put is taken back, and what is taken was put.
use Rattle.std.proofs.Common.{[], ◌++◌, ◌+◌, ◌≤◌, ◌∷◌, ◌≡◌, ◌≢◌, ◌∙◌, ◌==◌, Bool, List, None, Option, Some, ap, ap₂, append-nil, append_assoc, arith, false, length, length-append, refl, subst, suc, sym, true, zero, ℕ}
use Rattle.std.proofs.lemmas.Bool.Decides.{nat_tests}
use Rattle.std.proofs.lemmas.Grind.{flat_map-append}
use Rattle.std.specs.List.{AllByRecursion}
use Rattle.common.proofs.AliveSetBytes.{u32_back as u32_taken}
use Rattle.common.proofs.TakenBack.{u32_put, vint_put}
use Rattle.definitions.specs.Json.{◌>>=◌}
use Rattle.definitions.specs.NumberCodes.{AreBytes, take_u32, take_vint, u32_bytes, vint_bytes}
use Rattle.definitions.specs.Values.{Document, Value}
use Rattle.document_values.specs.Docs.{HoldsPairs, IsGood, IsGoodPair, IsHeap, pairs_at}
use Rattle.document_values.specs.Held.{held_bytes, held_pair, held_pairs}
use Rattle.layouts.specs.DocumentReading.{deepest, items_at, read_document, skip_many, take_any, take_held, take_many, take_pair, take_value, taken_map}
use Rattle.document.proofs.HeldValues.{held_back, held_put}
use Rattle.common.proofs.Many.{IsBack, IsPut, many_back, many_put, map_some}
use Rattle.common.proofs.WordBytes.{back_bytes as bytes_after}
use Rattle.definitions.proofs.Lists.{bind_some}
use Rattle.document_values.proofs.Skips.{many_of_skip, none_of_skip}
use Rattle.schema.proofs.FieldNames.{all-push as all_append}

pub pair_put : (t : Bool) (d : ℕ) → IsPut (take_pair (take_held t d)) (IsGoodPair t d) held_pair
pair_put t d bs rest p are e =
    let f = bind_some (take_u32 bs) (λ f. taken_map (λ v. (f.0, v)) (take_held t d f.1)) (p, rest) e in
    let v = map_some (λ v. (f.0.0, v)) (take_held t d f.0.1) p rest f.2 in
    let field = u32_put bs f.0.0 f.0.1 are f.1 in
    let of_value = held_put t d f.0.1 rest v.0 (bytes_after (u32_bytes f.0.0) f.0.1 (subst AreBytes field.1 are)) v.1 in
    subst (λ p. IsGoodPair t d p × (bs ≡ held_pair p ++ rest)) v.2 (
      record { field = field.0; value = of_value.0 },
      field.1 ∙ ap (λ ys. u32_bytes f.0.0 ++ ys) of_value.1 ∙ sym (append_assoc (u32_bytes f.0.0) (held_bytes v.0) rest),
    )

pub pair_back : (t : Bool) (d : ℕ) (item : List ℕ → Option (Value × List ℕ)) → IsBack item (IsGood t d) held_bytes → IsBack (take_pair item) (IsGoodPair t d) held_pair
pair_back t d item back p rest good =
    ap (take_pair item) (append_assoc (u32_bytes p.0) (held_bytes p.1) rest)
    ∙ ap (λ o. o >>= with_value) (u32_taken p.0 (held_bytes p.1 ++ rest) good.field)
    ∙ ap (taken_map (λ v. (p.0, v))) (back p.1 rest good.value)
  where
    with_value : ℕ × List ℕ → Option ((ℕ × Value) × List ℕ)
    with_value f = taken_map (λ v. (f.0, v)) (item f.1)

any_back : IsBack take_any (IsGood true deepest) held_bytes
unfolding take_any
any_back = held_back true deepest

-- ---- what is held is read

items_of_take : {A : Type 0} (item : List ℕ → Option (A × List ℕ)) (n : ℕ) (bs rest : List ℕ) (xs : List A) → take_many item n bs ≡ Some (xs, rest) → items_at item n bs ≡ xs
items_of_take item zero bs rest xs e = ap (λ o. elim o [ None ↦ [] | Some p ↦ p.0 ]) e
items_of_take {A} item (suc n) bs rest xs e = go (item bs) refl e (λ p ys. items_of_take item n p.1 rest ys)
  where
    go : (o : Option (A × List ℕ)) → item bs ≡ o → (o >>= (λ p. taken_map (λ xs. p.0 ∷ xs) (take_many item n p.1))) ≡ Some (xs, rest) → ((p : A × List ℕ) (ys : List A) → take_many item n p.1 ≡ Some (ys, rest) → items_at item n p.1 ≡ ys) → items_at item (suc n) bs ≡ xs
    go None is e more = cc
    go (Some p) is e more =
        let ys = map_some (λ xs. p.0 ∷ xs) (take_many item n p.1) xs rest e in
        ap (λ o. elim o [ None ↦ [] | Some p ↦ p.0 ∷ items_at item n p.1 ]) is ∙ ap (λ zs. p.0 ∷ zs) (more p ys.0 ys.1) ∙ ys.2

pub pairs_held : (bs : List ℕ) (n : ℕ) (doc : Document) → HoldsPairs bs n doc → pairs_at n bs ≡ doc
pairs_held bs n doc holds =
    let item = take_pair take_any in
    items_of_take item n bs [] doc (
    ap₂ (take_many item) holds.count (holds.spelled ∙ sym (append-nil (held_pairs doc)))
    ∙ many_back item (IsGoodPair true deepest) held_pair (pair_back true deepest take_any any_back) doc [] holds.pairs)

-- one pair more
pub one_more : (bs new : List ℕ) (n : ℕ) (doc : Document) (p : ℕ × Value) → HoldsPairs bs n doc → IsGoodPair true deepest p → new ≡ bs ++ held_pair p → HoldsPairs new (n + 1) (doc ++ (p ∷ []))
one_more bs new n doc p holds good put =
    let c = holds.count in
    let longer : length (doc ++ (p ∷ [])) ≡ length doc + 1 = length-append doc (p ∷ []) in
    record {
      pairs = all_append (IsGoodPair true deepest) doc p holds.pairs good;
      count = omega (arith, c, longer);
      spelled = put ∙ ap (λ ys. ys ++ held_pair p) holds.spelled ∙ ap (λ ys. held_pairs doc ++ ys) (sym (append-nil (held_pair p))) ∙ sym (flat_map-append held_pair doc (p ∷ []));
    }

pub heap_more : (bs new : List ℕ) (n : ℕ) (p : ℕ × Value) → IsHeap bs n → IsGoodPair true deepest p → new ≡ bs ++ held_pair p → IsHeap new (n + 1)
heap_more bs new n p heap good put = (heap.0 ++ (p ∷ []), one_more bs new n heap.0 p heap.1 good put)

pub view_more : (bs new : List ℕ) (n : ℕ) (p : ℕ × Value) → IsHeap bs n → IsGoodPair true deepest p → new ≡ bs ++ held_pair p → pairs_at (n + 1) new ≡ pairs_at n bs ++ (p ∷ [])
view_more bs new n p heap good put =
    pairs_held new (n + 1) (heap.0 ++ (p ∷ [])) (one_more bs new n heap.0 p heap.1 good put)
    ∙ ap (λ doc. doc ++ (p ∷ [])) (sym (pairs_held bs n heap.0 heap.1))

-- a document of n pairs takes more than n bytes, but for the empty one
pairs_long : (doc : Document) → length doc ≤ length (held_pairs doc)
pairs_long [] = omega arith
pairs_long (p ∷ doc) =
    let one : length (held_pair p) ≡ 4 + length (held_bytes p.1) = length-append (u32_bytes p.0) (held_bytes p.1) in
    let all : length (held_pairs (p ∷ doc)) ≡ length (held_pair p) + length (held_pairs doc) = length-append (held_pair p) (held_pairs doc) in
    omega (arith, pairs_long doc, one, all)

pub heap_long : (bs : List ℕ) (n : ℕ) → IsHeap bs n → n ≤ length bs
heap_long bs n heap =
    let long : length heap.0 ≤ length (held_pairs heap.0) = pairs_long heap.0 in
    let same : length bs ≡ length (held_pairs heap.0) = ap length heap.1.spelled in
    let count = heap.1.count in
    omega (arith, long, same, count)

pub heap_count : (bs : List ℕ) (n : ℕ) → IsHeap bs n → n ≡ length (pairs_at n bs)
heap_count bs n heap = heap.1.count ∙ ap length (sym (pairs_held bs n heap.0 heap.1))

-- ---- documents of the binary form

abbrev pub whole : Document × List ℕ → Option Document
whole p = elim p.1 [ [] ↦ Some p.0 | _ ∷ _ ↦ None ]

abbrev counted : ℕ × List ℕ → Option Document
counted n = take_many (take_pair take_value) n.0 n.1 >>= whole

pub read_whole : (bs pairs : List ℕ) (n : ℕ) → take_vint bs ≡ Some (n, pairs) → skip_many (take_pair take_value) n pairs ≡ Some [] → read_document bs ≡ Some (items_at (take_pair take_value) n pairs)
read_whole bs pairs n number skipped = ap (λ o. o >>= counted) number ∙ ap (λ o. o >>= whole) (many_of_skip (take_pair take_value) n pairs [] skipped)

pub read_more : (bs pairs rest : List ℕ) (n : ℕ) → take_vint bs ≡ Some (n, pairs) → skip_many (take_pair take_value) n pairs ≡ Some rest → rest ≢ [] → read_document bs ≡ None
read_more bs pairs rest n number skipped more = ap (λ o. o >>= counted) number ∙ ap (λ o. o >>= whole) (many_of_skip (take_pair take_value) n pairs rest skipped) ∙ go rest more
  where
    go : (rest : List ℕ) → rest ≢ [] → whole (items_at (take_pair take_value) n pairs, rest) ≡ None
    go [] h = absurd (h refl)
    go (b ∷ bs) h = refl

pub read_none : (bs pairs : List ℕ) (n : ℕ) → take_vint bs ≡ Some (n, pairs) → skip_many (take_pair take_value) n pairs ≡ None → read_document bs ≡ None
read_none bs pairs n number skipped = ap (λ o. o >>= counted) number ∙ ap (λ o. o >>= whole) (none_of_skip (take_pair take_value) n pairs skipped)

pub good_anywhere : (doc : Document) → AllByRecursion (IsGoodPair false 128) doc → AllByRecursion (IsGoodPair true deepest) doc
good_anywhere [] good = tt
good_anywhere (p ∷ doc) good =
    let s = good.0.value.shallow in
    (record { field = good.0.field; value = record { value = good.0.value.value; sized = good.0.value.sized; shallow = omega (arith, s); kept = λ e. cc } }, good_anywhere doc good.1)

pub read_holds : (pairs : List ℕ) (n : ℕ) → AreBytes pairs → skip_many (take_pair take_value) n pairs ≡ Some [] → HoldsPairs pairs n (items_at (take_pair take_value) n pairs)
read_holds pairs n are skipped =
    let many = many_put (take_pair take_value) (IsGoodPair false 128) held_pair (pair_put false 128) n pairs [] (items_at (take_pair take_value) n pairs) are (many_of_skip (take_pair take_value) n pairs [] skipped) in
    record { pairs = good_anywhere (items_at (take_pair take_value) n pairs) many.0; count = sym many.1; spelled = many.2 ∙ append-nil (held_pairs (items_at (take_pair take_value) n pairs)) }

pub not_empty : (r : List ℕ) → false ≡ (length r == 0) → r ≢ []
not_empty [] e h = cc
not_empty (b ∷ r) e h = cc

no_length : (n : ℕ) → true ≡ (suc n == 0) → ⊥
no_length n e = (let none : suc n ≡ 0 = grind (arith, nat_tests) in omega (arith, none))

pub empty : (r : List ℕ) → true ≡ (length r == 0) → r ≡ []
empty [] e = refl
empty (b ∷ r) e = absurd (no_length (length r) e)

-- the document that is read is held by the bytes behind its count
pub read_held : (bs pairs heap : List ℕ) (n : ℕ) → AreBytes bs → take_vint bs ≡ Some (n, pairs) → skip_many (take_pair take_value) n pairs ≡ Some [] → heap ≡ pairs → HoldsPairs heap n (items_at (take_pair take_value) n pairs)
read_held bs pairs heap n are number skipped same = subst (λ ys. HoldsPairs ys n (items_at (take_pair take_value) n pairs)) (sym same) (read_holds pairs n (bytes_after (vint_bytes n) pairs (subst AreBytes (vint_put bs n pairs are number).1 are)) skipped)
