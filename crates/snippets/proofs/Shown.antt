-- The passage that is found is a snippet of the text.
use Rattle.std.proofs.Common.{List, ap, arith, drop, le_trans, length, length-drop, map, slice_range, subst, sym, take, ◌+◌, ◌-◌, ◌∙◌, ◌≡◌, ◌≤◌, ℕ}
use Rattle.std.proofs.lemmas.List.{drop-map, length-map, take_rest}
use Rattle.definitions.specs.Values.{Token}
use Rattle.snippets.proofs.Windows.{most_of_any, window_fits}
use Rattle.snippets.specs.Passages.{Piece, max_passage_len, most, reach, shown, size, window}
use Rattle.snippets.specs.Snippets.{IsSnippet, Word, marked_pieces}
use Rattle.snippets.specs.Views.{piece_of}
use Rattle.snippets.specs.declared.passages.Piece as code

-- a passage that is the longest from where it begins, and shows the most
found : (analyze : List ℕ → List Token) (words : List Word) (text : List ℕ) (items : List code.Piece) (n s r : ℕ) → n ≡ length words → map piece_of items ≡ marked_pieces analyze words text → s ≤ length items → most n (map piece_of items) ≤ shown n (window (map piece_of (drop s items))) → r ≡ reach max_passage_len (map piece_of (drop s items)) → r ≤ length (drop s items) → IsSnippet analyze words text (map piece_of items) s (s + r)
found analyze words text items n s r count whole within best reached few =
    let ps : List Piece = map piece_of items in
    let long : length ps ≡ length items = length-map items piece_of in
    let left : length (drop s items) ≡ length items - s = length-drop s items in
    let is : slice_range ps s (s + r) ≡ window (map piece_of (drop s items)) =
    ap (λ k. take k (drop s ps)) (let k : s + r - s ≡ r = omega arith in k) ∙ ap (take r) (drop-map piece_of s items) ∙ ap (λ k. take k (map piece_of (drop s items))) reached in
    record {
      pieces_are = whole;
      within = (omega arith, omega (arith, long, left, few, within));
      short = subst (λ qs. size qs ≤ max_passage_len) (sym is) (window_fits (map piece_of (drop s items)));
      best = λ i j rise inside fits. subst (λ k. shown k (slice_range ps i j) ≤ shown k (slice_range ps s (s + r))) count (subst (λ qs. shown n (slice_range ps i j) ≤ shown n qs) (sym is) (le_trans (most_of_any n i (j - i) ps fits) best));
    }

-- likewise of the pieces as they are lent
pub lent : (analyze : List ℕ → List Token) (words : List Word) (text : List ℕ) (items xs ys : List code.Piece) (n s r : ℕ) → xs ≡ items → ys ≡ items → n ≡ length words → map piece_of items ≡ marked_pieces analyze words text → s ≤ length xs → most n (map piece_of xs) ≤ shown n (window (map piece_of (drop s xs))) → r ≡ reach max_passage_len (map piece_of (take (length ys - s) (drop s ys))) → r ≤ length (take (length ys - s) (drop s ys)) → IsSnippet analyze words text (map piece_of items) s (s + r)
lent analyze words text items xs ys n s r ex ey count whole within best reached few =
    let rest : take (length ys - s) (drop s ys) ≡ drop s items = take_rest ys s ∙ ap (drop s) ey in
    found analyze words text items n s r count whole
    (subst (λ zs. s ≤ length zs) ex within)
    (subst (λ zs. most n (map piece_of zs) ≤ shown n (window (map piece_of (drop s zs)))) ex best)
    (subst (λ zs. r ≡ reach max_passage_len (map piece_of zs)) rest reached)
    (subst (λ zs. r ≤ length zs) rest few)
