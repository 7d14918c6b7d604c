-- A store of documents has one reading.
use Rattle.std.proofs.Common.{[], List, ap, ap₂, arith, false, length, nat_lt, refl, sym, take, slice_range, suc, true, ◌*◌, ◌++◌, ◌+◌, ◌<◌, ◌^◌, ◌∙◌, ◌∷◌, ◌≡◌, ◌≤◌, ℕ}
use Rattle.std.proofs.lemmas.Bool.Decides.{nat_tests}
use Rattle.std.proofs.lemmas.List.{ext_get_or, take_all}
use Rattle.std.specs.List.{concat}
use Rattle.layouts.specs.Stores.{Block, Hold, IsBlock, IsStore}
use Rattle.store.proofs.Blocks.{places_of}
use Rattle.store.proofs.Opened.{holds_same}
use Rattle.store.specs.Reading.{number_at}

pub below_or_end : (j n : ℕ) (P : Type 0) → (j < n → P) → (n ≤ j → P) → P
below_or_end j n P below end = (elim (nat_lt j n) as (λ b. nat_lt j n ≡ b → P) [
  | true ↦ (λ e. below (grind (arith, nat_tests, e)))
  | false ↦ (λ e. end (grind (arith, nat_tests, e)))
]) refl

block_once : (docs others : List (List ℕ)) (bytes : List ℕ) → length docs ≡ length others → IsBlock docs bytes → IsBlock others bytes → docs ≡ others
block_once docs others bytes many a b =
    let p = places_of docs bytes a in
    let q = places_of others bytes b in
    let whole : length (concat docs) ≡ length (concat others) = (let l = p.long in let m = q.long in omega (arith, l, m, many)) in
    let ends : (j : ℕ) → j ≤ length docs → length (concat (take j docs)) ≡ length (concat (take j others)) = λ j l. below_or_end j (length docs) (length (concat (take j docs)) ≡ length (concat (take j others)))
    (λ o. sym (p.starts_at j o) ∙ ((ap (λ n. number_at bytes (n + 4 * j)) whole) ∙ q.starts_at j (omega (arith, o, many))))
    (λ u. ap (λ xs. length (concat xs)) (take_all j docs u) ∙ (whole ∙ sym (ap (λ xs. length (concat xs)) (take_all j others (omega (arith, u, many)))))) in
    ext_get_or [] docs others many (λ j l. sym (p.within j l) ∙ (ap₂ (λ m n. slice_range bytes m n) (ends j (omega (arith, l))) (ends (suc j) (omega (arith, l))) ∙ q.within j (omega (arith, l, many))))

hold_once : (bs : List Block) (xs ys : List (List ℕ)) → Hold bs xs → Hold bs ys → xs ≡ ys
hold_once [] xs ys a b = a ∙ sym b
hold_once (c ∷ bs) xs ys (docs, rest, is, many, block, held) (others, left, are, as_many, other, kept) =
    let first = block_once docs others c.bytes (many ∙ sym as_many) block other in
    is ∙ (ap₂ (λ d r. d ++ r) first (hold_once bs rest left held kept) ∙ sym are)

pub store_once : (xs ys : List (List ℕ)) (file : List ℕ) → length file < 2 ^ 64 → IsStore xs file → IsStore ys file → xs ≡ ys
store_once xs ys file few a b = hold_once b.0 xs ys (holds_same file b.0 xs b.1 b.3 few a) b.2
