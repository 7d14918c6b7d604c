-- Deltas that are added up to documents.
use Rattle.std.proofs.Common.{[], Bool, List, add-one, ap, ap₂, append_assoc, arith, drop, drop-cons, false, get_or, length, refl, set, suc, sym, take, true, ◌&&◌, ◌+◌, ◌++◌, ◌-◌, ◌<◌, ◌≡◌, ◌≤◌, ◌∙◌, ◌∷◌, ◌^◌, ℕ}
use Rattle.std.proofs.lemmas.Bool.Decides.{nat_tests}
use Rattle.std.proofs.lemmas.List.{drop-set-lt}
use Rattle.std.proofs.lemmas.List.Folds.{list_all-append}
use Rattle.std.proofs.Math.Seq.{take-suc-set}
use Rattle.std.specs.List.{list_all}
use Rattle.layouts.specs.Deltas.{documents}
use Rattle.layouts.specs.VintBlocks.{is_u32}

-- the deltas up to an index are documents below 2^32
pub record Sums (next count : ℕ) (old : List ℕ) (i least : ℕ) (out : List ℕ) : Type 0 where
  pub whole : documents next (take count old) ≡ take i out ++ documents least (take (count - i) (drop i out))
  pub rest : drop count out ≡ drop count old
  pub fits : list_all is_u32 (take i out) ≡ true
  pub few : least ≤ 2 ^ 32

-- the delta at an index and those behind it
deltas_left : (count i : ℕ) (out : List ℕ) → i < count → i < length out → take (count - i) (drop i out) ≡ get_or out i 0 ∷ take (count - (i + 1)) (drop (i + 1) out)
deltas_left count i out more inside =
    let left : count - i ≡ suc (count - (i + 1)) = omega arith in
    ap₂ take left (drop-cons out i 0 inside)
    ∙ ap (λ k. get_or out i 0 ∷ take (count - (i + 1)) (drop k out)) (sym (add-one i))

-- one more document
pub sum_more : (next count : ℕ) (old : List ℕ) (i least d : ℕ) (out : List ℕ) → Sums next count old i least out → i < count → i < length out → d ≡ least + get_or out i 0 → d < 2 ^ 32 → Sums next count old (i + 1) (d + 1) (set out i d)
sum_more next count old i least d out sums more inside is small =
    let taken : take (i + 1) (set out i d) ≡ take i out ++ d ∷ [] = ap (λ k. take k (set out i d)) (add-one i) ∙ take-suc-set out i d inside in
    let fits : is_u32 d ≡ true = grind (arith, nat_tests) in
    record {
      whole =
          sums.whole
          ∙ ap (λ xs. take i out ++ documents least xs) (deltas_left count i out more inside)
          ∙ ap (λ e. take i out ++ (e ∷ documents (e + 1) (take (count - (i + 1)) (drop (i + 1) out)))) (sym is)
          ∙ sym (append_assoc (take i out) (d ∷ []) (documents (d + 1) (take (count - (i + 1)) (drop (i + 1) out))))
          ∙ ap₂ (λ xs ys. xs ++ documents (d + 1) (take (count - (i + 1)) ys)) (sym taken) (sym (drop-set-lt (i + 1) out i d (omega arith)));
      rest = drop-set-lt count out i d more ∙ sums.rest;
      fits = ap (list_all is_u32) taken ∙ list_all-append is_u32 (take i out) (d ∷ []) ∙ ap₂ (λ a b. a && (b && true)) sums.fits fits;
      few = omega arith;
    }

-- a document that is too great
pub sum_past : (next count : ℕ) (old : List ℕ) (i least d : ℕ) (out : List ℕ) → Sums next count old i least out → i < count → i < length out → d ≡ least + get_or out i 0 → 2 ^ 32 ≤ d → list_all is_u32 (documents next (take count old)) ≡ false
sum_past next count old i least d out sums more inside is great =
    let past : is_u32 d ≡ false = grind (arith, nat_tests) in
    ap (list_all is_u32) (sums.whole ∙ ap (λ xs. take i out ++ documents least xs) (deltas_left count i out more inside) ∙ ap (λ e. take i out ++ (e ∷ documents (e + 1) (take (count - (i + 1)) (drop (i + 1) out)))) (sym is))
    ∙ list_all-append is_u32 (take i out) (d ∷ documents (d + 1) (take (count - (i + 1)) (drop (i + 1) out)))
    ∙ ap₂ (λ a b. a && (b && list_all is_u32 (documents (d + 1) (take (count - (i + 1)) (drop (i + 1) out))))) sums.fits past

-- where all documents are below 2^32, so is the next
pub next_sum : (next count : ℕ) (old : List ℕ) (i least d : ℕ) (out : List ℕ) → Sums next count old i least out → list_all is_u32 (documents next (take count old)) ≡ true → i < count → i < length out → d ≡ least + get_or out i 0 → d < 2 ^ 32
next_sum next count old i least d out sums all more inside is = go (is_u32 d) refl
  where
    go : (t : Bool) → is_u32 d ≡ t → d < 2 ^ 32
    go true e = grind (arith, nat_tests)
    go false e =
        let great : 2 ^ 32 ≤ d = grind (arith, nat_tests) in
        let past = sum_past next count old i least d out sums more inside is great in
        absurd (apart (sym all ∙ past))
      where
        apart : true ≡ false → ⊥
        apart e = cc
