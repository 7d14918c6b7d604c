-- Fields and their ids side by side, as lengths are recorded and padded.
use Rattle.std.proofs.Common.{[], List, ap, append-nil, ap₂, arith, cond, false, get_or, length, map, nat_eq, refl, replicate, set, suc, sym, true, zero, zip, ◌+◌, ◌++◌, ◌-◌, ◌<◌, ◌≡◌, ◌≢◌, ◌≤◌, ◌∙◌, ◌∷◌, ℕ, length-append, add-one, take, Result, Ok, Err, OnErr}
use Rattle.std.proofs.lemmas.Bool.Decides.{nat_tests}
use Rattle.std.proofs.lemmas.List.{flat_map_more, get_or-map, length-map, length-replicate, map-append, map-set, replicate_more}
use Rattle.std.proofs.Math.Seq.{map-set_same}
use Rattle.codes.specs.FieldNorms.{all_padded, padded, with_length}
use Rattle.definitions.specs.Lengths.{fieldnorm_to_id}
use Rattle.layouts.specs.Deltas.{IsAscendingFrom}
use Rattle.layouts.specs.FieldNorms.{field_norms_bytes, norms_bytes}
use Rattle.codes.proofs.AscendingNumbers.{ascends_least}

-- ---- recording

-- a document's length is kept in one field alone
abbrev one : ℕ → ℕ → ℕ → ℕ × List ℕ → ℕ × List ℕ
one doc field fieldnorm p = cond (nat_eq p.0 field) (p.0, padded doc p.1 ++ fieldnorm_to_id fieldnorm ∷ []) p

one_other : (doc field fieldnorm f : ℕ) (ids : List ℕ) → f ≢ field → one doc field fieldnorm (f, ids) ≡ (f, ids)
one_other doc field fieldnorm f ids other = (let e : nat_eq f field ≡ false = grind (arith, nat_tests) in ap (λ t. cond t (f, padded doc ids ++ fieldnorm_to_id fieldnorm ∷ []) (f, ids)) e)

one_same : (doc field fieldnorm f : ℕ) (ids : List ℕ) → f ≡ field → one doc field fieldnorm (f, ids) ≡ (f, padded doc ids ++ fieldnorm_to_id fieldnorm ∷ [])
one_same doc field fieldnorm f ids same = (let e : nat_eq f field ≡ true = grind (arith, nat_tests) in ap (λ t. cond t (f, padded doc ids ++ fieldnorm_to_id fieldnorm ∷ []) (f, ids)) e)

-- nothing is recorded for a field that isn't there
pub nowhere : (doc field fieldnorm : ℕ) (fs : List ℕ) (ids : List (List ℕ)) → ((i : ℕ) → i < length fs → get_or fs i 0 ≢ field) → with_length doc field fieldnorm (zip fs ids) ≡ zip fs ids
nowhere doc field fieldnorm [] ids absent = refl
nowhere doc field fieldnorm (f ∷ fs) [] absent = refl
nowhere doc field fieldnorm (f ∷ fs) (v ∷ ids) absent = ap₂ (λ p ps. p ∷ ps) (one_other doc field fieldnorm f v (absent 0 (omega arith))) (nowhere doc field fieldnorm fs ids (λ i inside. absent (suc i) (omega arith)))

-- a length is recorded at its field's index
pub recorded : (doc field fieldnorm next : ℕ) (fs : List ℕ) (ids : List (List ℕ)) (i : ℕ) → IsAscendingFrom next fs → i < length fs → length ids ≡ length fs → get_or fs i 0 ≡ field → zip fs (set ids i (padded doc (get_or ids i []) ++ fieldnorm_to_id fieldnorm ∷ [])) ≡ with_length doc field fieldnorm (zip fs ids)
recorded doc field fieldnorm next [] ids i ascends inside long is = absurd (omega arith)
recorded doc field fieldnorm next (f ∷ fs) [] i ascends inside long is = absurd (omega arith)
recorded doc field fieldnorm next (f ∷ fs) (v ∷ ids) zero ascends inside long is =
    ap₂ (λ p ps. p ∷ ps) (sym (one_same doc field fieldnorm f v is)) (sym (nowhere doc field fieldnorm fs ids (λ k within. (let above : f + 1 ≤ get_or fs k 0 = ascends_least (f + 1) fs k ascends.1 within in λ same. absurd (omega arith)))))
recorded doc field fieldnorm next (f ∷ fs) (v ∷ ids) (suc i) ascends inside long is =
    let above : f + 1 ≤ get_or fs i 0 = ascends_least (f + 1) fs i ascends.1 (omega arith) in
    let other : f ≢ field = omega arith in
    ap₂ (λ p ps. p ∷ ps) (sym (one_other doc field fieldnorm f v other)) (recorded doc field fieldnorm (f + 1) fs ids i ascends.1 (omega arith) (omega arith) is)

-- ---- padding

-- the first `n` are padded
abbrev pub part_padded : ℕ → ℕ → List (List ℕ) → List (List ℕ)
part_padded n zero xs = xs
part_padded n (suc i) [] = []
part_padded n (suc i) (x ∷ xs) = padded n x ∷ part_padded n i xs

-- one more is padded
pub padded_more : (n i : ℕ) (xs : List (List ℕ)) → i < length xs → set (part_padded n i xs) i (padded n (get_or (part_padded n i xs) i [])) ≡ part_padded n (suc i) xs
padded_more n zero [] inside = absurd (omega arith)
padded_more n zero (x ∷ xs) inside = refl
padded_more n (suc i) [] inside = absurd (omega arith)
padded_more n (suc i) (x ∷ xs) inside = ap (λ ys. padded n x ∷ ys) (padded_more n i xs (omega arith))

-- all are padded
pub padded_all : (n : ℕ) (xs : List (List ℕ)) → part_padded n (length xs) xs ≡ map (padded n) xs
padded_all n [] = refl
padded_all n (x ∷ xs) = ap (λ ys. padded n x ∷ ys) (padded_all n xs)

-- what is padded stays as it is
padded_again : (n : ℕ) (x : List ℕ) → padded n (padded n x) ≡ padded n x
padded_again n x =
    let long : length (padded n x) ≡ length x + (n - length x) = simp (length-append, length-replicate) in
    let none : n - length (padded n x) ≡ 0 = omega (arith, long) in
    ap (λ k. padded n x ++ replicate k 0) none ∙ append-nil (padded n x)

-- padding the rest pads all
pub padded_still : (n i : ℕ) (xs : List (List ℕ)) → map (padded n) (part_padded n i xs) ≡ map (padded n) xs
padded_still n zero xs = refl
padded_still n (suc i) [] = refl
padded_still n (suc i) (x ∷ xs) = ap₂ (λ y ys. y ∷ ys) (padded_again n x) (padded_still n i xs)

pub length-part_padded : (n i : ℕ) (xs : List (List ℕ)) → length (part_padded n i xs) ≡ length xs
length-part_padded n zero xs = refl
length-part_padded n (suc i) [] = refl
length-part_padded n (suc i) (x ∷ xs) = ap suc (length-part_padded n i xs)

-- each field's ids are padded
pub zip_padded : (n : ℕ) (fs : List ℕ) (ids : List (List ℕ)) → all_padded n (zip fs ids) ≡ zip fs (map (padded n) ids)
zip_padded n [] ids = refl
zip_padded n (f ∷ fs) [] = refl
zip_padded n (f ∷ fs) (v ∷ ids) = ap (λ ps. (f, padded n v) ∷ ps) (zip_padded n fs ids)

-- no document has an id
abbrev pub no_ids : List ℕ
no_ids = []

-- fields without documents
pub zip_empty : (fs : List ℕ) → zip fs (replicate (length fs) no_ids) ≡ map (λ f. (f, no_ids)) fs
zip_empty [] = refl
zip_empty (f ∷ fs) = ap (λ ps. (f, no_ids) ∷ ps) (zip_empty fs)

pub on_err : {A E : Type 0} (r : Result A E) {P Q : Type 0} → (P → Q) → OnErr r P → OnErr r Q
on_err (Ok x) f p = tt
on_err (Err e) f p = f p

-- one more field without documents
pub fresh_more : {V : Type 0} (f : V → List ℕ) (vs : List V) (v : V) (i : ℕ) → map f vs ≡ replicate i no_ids → f v ≡ no_ids → map f (vs ++ v ∷ []) ≡ replicate (i + 1) no_ids
fresh_more f vs v i fresh is = map-append f vs (v ∷ []) ∙ ap₂ (λ xs x. xs ++ x ∷ []) fresh is ∙ replicate_more i no_ids

-- a length is recorded at its field's index
pub recorded_in : {V : Type 0} (f : V → List ℕ) (doc field fieldnorm : ℕ) (fs : List ℕ) (vs : List V) (i : ℕ) (w v : V) → IsAscendingFrom 0 fs → i < length fs → length vs ≡ length fs → get_or fs i 0 ≡ field → v ≡ get_or vs i v → f w ≡ padded doc (f v) ++ fieldnorm_to_id fieldnorm ∷ [] → zip fs (map f (set vs i w)) ≡ with_length doc field fieldnorm (zip fs (map f vs))
recorded_in f doc field fieldnorm fs vs i w v ascends inside long is item put =
    let here : get_or (map f vs) i [] ≡ f v = get_or-map f vs i v [] (omega arith) ∙ ap f (sym item) in
    let many : length (map f vs) ≡ length fs = length-map vs f ∙ long in
    ap (zip fs) (map-set f vs i w ∙ ap (set (map f vs) i) (put ∙ ap (λ x. padded doc x ++ fieldnorm_to_id fieldnorm ∷ []) (sym here)))
    ∙ recorded doc field fieldnorm 0 fs (map f vs) i ascends inside many is

-- nothing changes where the same ids stand again
pub kept_in : {V : Type 0} (f : V → List ℕ) (fs : List ℕ) (vs : List V) (i : ℕ) (w v : V) → v ≡ get_or vs i v → f w ≡ f v → zip fs (map f (set vs i w)) ≡ zip fs (map f vs)
kept_in f fs vs i w v item same = ap (zip fs) (map-set_same f vs i w v (same ∙ ap f item))

-- one more field is padded
pub padded_in : {V : Type 0} (f : V → List ℕ) (n i : ℕ) (first vs : List V) (w v : V) → map f vs ≡ part_padded n i (map f first) → i < length vs → f w ≡ padded n (f (get_or vs i v)) → map f (set vs i w) ≡ part_padded n (i + 1) (map f first)
padded_in f n i first vs w v part inside put =
    let here : get_or (map f vs) i [] ≡ f (get_or vs i v) = get_or-map f vs i v [] inside in
    let many : length vs ≡ length (map f first) = sym (length-map vs f) ∙ ap length part ∙ length-part_padded n i (map f first) in
    map-set f vs i w
    ∙ ap (set (map f vs) i) (put ∙ ap (padded n) (sym here))
    ∙ ap (λ xs. set xs i (padded n (get_or xs i []))) part
    ∙ padded_more n i (map f first) (omega arith)
    ∙ ap (λ k. part_padded n k (map f first)) (sym (add-one i))

-- where some fields are padded, padding the rest pads all
pub padded_rest : {V : Type 0} (f : V → List ℕ) (n i : ℕ) (first vs : List V) (w v : V) (fs : List ℕ) → map f vs ≡ part_padded n i (map f first) → f w ≡ f (get_or vs i v) → all_padded n (zip fs (map f (set vs i w))) ≡ all_padded n (zip fs (map f first))
padded_rest f n i first vs w v fs part same =
    ap (all_padded n) (ap (zip fs) (map-set_same f vs i w v same ∙ part))
    ∙ zip_padded n fs (part_padded n i (map f first))
    ∙ ap (zip fs) (padded_still n i (map f first))
    ∙ sym (zip_padded n fs (map f first))

-- what holds anyway holds where a call fails
pub anyway : {A E : Type 0} (r : Result A E) {P : Type 0} → P → OnErr r P
anyway (Ok x) p = tt
anyway (Err e) p = p

-- all fields are padded
pub padded_whole : {V : Type 0} (f : V → List ℕ) (n i : ℕ) (first vs : List V) (fs : List ℕ) → map f vs ≡ part_padded n i (map f first) → i ≡ length first → zip fs (map f vs) ≡ all_padded n (zip fs (map f first))
padded_whole f n i first vs fs part all =
    ap (zip fs) (part ∙ ap (λ k. part_padded n k (map f first)) (all ∙ sym (length-map first f)) ∙ padded_all n (map f first))
    ∙ sym (zip_padded n fs (map f first))

-- ---- putting

-- the fields up to an index and the one there
take_zip_more : (i : ℕ) (fs : List ℕ) (xs : List (List ℕ)) → i < length fs → length xs ≡ length fs → take (suc i) (zip fs xs) ≡ take i (zip fs xs) ++ (get_or fs i 0, get_or xs i []) ∷ []
take_zip_more i [] xs inside long = absurd (omega arith)
take_zip_more i (f ∷ fs) [] inside long = absurd (omega arith)
take_zip_more zero (f ∷ fs) (x ∷ xs) inside long = refl
take_zip_more (suc i) (f ∷ fs) (x ∷ xs) inside long = ap (λ ps. (f, x) ∷ ps) (take_zip_more i fs xs (omega arith) (omega arith))

-- one more field is put
pub put_more : {V : Type 0} (f : V → List ℕ) (start out new : List ℕ) (i : ℕ) (fs : List ℕ) (vs : List V) (v : V) → out ≡ start ++ norms_bytes (take i (zip fs (map f vs))) → i < length fs → length vs ≡ length fs → v ≡ get_or vs i v → new ≡ out ++ field_norms_bytes (get_or fs i 0, f v) → new ≡ start ++ norms_bytes (take (i + 1) (zip fs (map f vs)))
put_more f start out new i fs vs v so_far inside long item put =
    let here : get_or (map f vs) i [] ≡ f v = get_or-map f vs i v [] (omega arith) ∙ ap f (sym item) in
    let many : length (map f vs) ≡ length fs = length-map vs f ∙ long in
    put
    ∙ ap₂ (λ xs ids. xs ++ field_norms_bytes (get_or fs i 0, ids)) so_far (sym here)
    ∙ flat_map_more field_norms_bytes start (take i (zip fs (map f vs))) (get_or fs i 0, get_or (map f vs) i [])
    ∙ ap (λ ps. start ++ norms_bytes ps) (sym (take_zip_more i fs (map f vs) inside many) ∙ ap (λ k. take k (zip fs (map f vs))) (sym (add-one i)))

take_zip_all : (fs : List ℕ) (xs : List (List ℕ)) → take (length fs) (zip fs xs) ≡ zip fs xs
take_zip_all [] xs = refl
take_zip_all (f ∷ fs) [] = refl
take_zip_all (f ∷ fs) (x ∷ xs) = ap (λ ps. (f, x) ∷ ps) (take_zip_all fs xs)

-- all fields are put
pub put_all : (start out : List ℕ) (i : ℕ) (fs : List ℕ) (xs : List (List ℕ)) → out ≡ start ++ norms_bytes (take i (zip fs xs)) → i ≡ length fs → out ≡ start ++ norms_bytes (zip fs xs)
put_all start out i fs xs so_far all = so_far ∙ ap (λ ps. start ++ norms_bytes ps) (ap (λ k. take k (zip fs xs)) all ∙ take_zip_all fs xs)
