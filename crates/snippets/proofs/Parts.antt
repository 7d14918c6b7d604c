-- The parts of a text, joined, are the text, and their words are its words, however an analyzer cuts them.
use Rattle.std.proofs.Common.{[], ◌++◌, ◌∙◌, ◌∷◌, ◌≡◌, All, Bool, List, None, Option, Some, ap, ap₂, append-nil, arith, bytes_eq, drop, false, if◌then◌else◌, le_refl, length, length-take, map, nat_eq, not, position, refl, slice_index_or, sym, take, take-append-drop, true, ℕ}
use Rattle.std.specs.List.{concat, flat_map}
use Rattle.std.specs.Option.{option_map_or}
use Rattle.std.proofs.lemmas.Bool.Decides.{nat_tests}
use Rattle.std.proofs.lemmas.List.{drop_all, drop_min}
use Rattle.std.proofs.lemmas.List.Elements.{All-cons, All-map, All-nil}
use Rattle.std.proofs.lemmas.Slice.Eq.{bytes_eq-Decides}
use Rattle.definitions.specs.Analyzers.{default_tokens, is_word_byte}
use Rattle.definitions.specs.Values.{Token}
use Rattle.snippets.proofs.Cuts.{joined, same_words}
use Rattle.snippets.specs.Cutting.{cut, word_of}
use Rattle.snippets.specs.Snippets.{Part, are_tokens_of, behind, parts_of, with_words}

-- the texts of tokens
abbrev texts : List Token → List (List ℕ)
texts ts = map (λ t. t.text) ts

-- ---- the text

-- the pieces beside their words
firsts : (ps : List (List ℕ)) → map (λ (p : Part). p.0) (with_words ps) ≡ ps
firsts [] = refl
firsts (p ∷ ps) = ap (λ qs. p ∷ qs) (firsts ps)

-- the parts of a text are the text
pub parts_joined : (analyze : List ℕ → List Token) (s : List ℕ) → concat (map (λ (p : Part). p.0) (parts_of analyze s)) ≡ s
parts_joined analyze s = go (are_tokens_of analyze (cut s) (analyze s))
  where
    go : (b : Bool) → concat (map (λ (p : Part). p.0) (if b then with_words (cut s) else (s, s) ∷ [])) ≡ s
    go true = ap concat (firsts (cut s)) ∙ joined s
    go false = append-nil s

-- ---- the word of a piece

-- what a word begins with is itself
itself : (s : List ℕ) → s ≡ s ++ drop (length s) s
itself s = sym (ap (λ rest. s ++ rest) (drop_all (length s) s (le_refl (length s))) ∙ append-nil s)

-- a piece begins with its word
begun_with_word : (p : List ℕ) → p ≡ word_of p ++ drop (length (word_of p)) p
begun_with_word p = go (position (λ b. not (is_word_byte b)) p)
  where
    go : (o : Option ℕ) → p ≡ option_map_or (λ end. take end p) o p ++ drop (length (option_map_or (λ end. take end p) o p)) p
    go None = itself p
    go (Some end) = sym (ap (λ rest. take end p ++ rest) (ap (λ k. drop k p) (length-take end p) ∙ drop_min end p) ∙ take-append-drop end p)

-- each part of a text begins with its word
pub parts_begin : (analyze : List ℕ → List Token) (s : List ℕ) → All (λ (p : Part). p.0 ≡ p.1 ++ drop (length p.1) p.0) (parts_of analyze s)
parts_begin analyze s = go (are_tokens_of analyze (cut s) (analyze s))
  where
    go : (b : Bool) → All (λ (p : Part). p.0 ≡ p.1 ++ drop (length p.1) p.0) (if b then with_words (cut s) else (s, s) ∷ [])
    go true = All-map (λ (p : Part). p.0 ≡ p.1 ++ drop (length p.1) p.0) (λ p. (p, word_of p)) (cut s) (λ k d h. begun_with_word (slice_index_or (cut s) k d))
    go false = All-cons (λ (p : Part). p.0 ≡ p.1 ++ drop (length p.1) p.0) (s, s) [] (itself s) (All-nil (λ (p : Part). p.0 ≡ p.1 ++ drop (length p.1) p.0))

-- ---- its words

-- tokens begin with those behind which something is left
behind_texts : (ts us rest : List Token) → behind ts us ≡ Some rest → texts ts ≡ texts us ++ texts rest
behind_texts ts [] rest h = ap texts (the_same ts rest h)
  where
    the_same : (xs ys : List Token) → Some xs ≡ Some ys → xs ≡ ys
    the_same xs ys e = cc
behind_texts [] (u ∷ us) rest h = absurd (cc)
behind_texts (t ∷ ts) (u ∷ us) rest h = go (bytes_eq t.text u.text) refl h (behind_texts ts us rest)
  where
    go : (b : Bool) → bytes_eq t.text u.text ≡ b → (if b then behind ts us else None) ≡ Some rest → (behind ts us ≡ Some rest → texts ts ≡ texts us ++ texts rest) → texts (t ∷ ts) ≡ texts (u ∷ us) ++ texts rest
    go true e h more = ap₂ (λ x xs. x ∷ xs) ((bytes_eq-Decides t.text u.text).0 e) (more h)
    go false e h more = absurd (cc)

none : (n : ℕ) → nat_eq n 0 ≡ true → n ≡ 0
none n h = grind (arith, nat_tests, h)

-- tokens that are those of pieces have their texts
same_texts : (analyze : List ℕ → List Token) (ps : List (List ℕ)) (ts : List Token) → are_tokens_of analyze ps ts ≡ true → flat_map (λ p. texts (analyze p)) ps ≡ texts ts
same_texts analyze [] [] h = refl
same_texts analyze [] (t ∷ ts) h = absurd (omega (arith, none (length (t ∷ ts)) h))
same_texts analyze (p ∷ ps) ts h = go (behind ts (analyze p)) refl h (same_texts analyze ps)
  where
    go : (o : Option (List Token)) → behind ts (analyze p) ≡ o → elim o [ None ↦ false | Some rest ↦ are_tokens_of analyze ps rest ] ≡ true → ((rest : List Token) → are_tokens_of analyze ps rest ≡ true → flat_map (λ q. texts (analyze q)) ps ≡ texts rest) → texts (analyze p) ++ flat_map (λ q. texts (analyze q)) ps ≡ texts ts
    go None e h more = absurd (cc)
    go (Some rest) e h more = ap (λ xs. texts (analyze p) ++ xs) (more rest h) ∙ sym (behind_texts ts (analyze p) rest e)

-- the words of pieces, each with its word beside it
beside : (analyze : List ℕ → List Token) (ps : List (List ℕ)) → flat_map (λ (p : Part). texts (analyze p.0)) (with_words ps) ≡ flat_map (λ p. texts (analyze p)) ps
beside analyze [] = refl
beside analyze (p ∷ ps) = ap (λ xs. texts (analyze p) ++ xs) (beside analyze ps)

-- the words of the parts are those of the text
pub same_words_in : (analyze : List ℕ → List Token) (s : List ℕ) → flat_map (λ (p : Part). texts (analyze p.0)) (parts_of analyze s) ≡ texts (analyze s)
same_words_in analyze s = go (are_tokens_of analyze (cut s) (analyze s)) refl
  where
    go : (b : Bool) → are_tokens_of analyze (cut s) (analyze s) ≡ b → flat_map (λ (p : Part). texts (analyze p.0)) (if b then with_words (cut s) else (s, s) ∷ []) ≡ texts (analyze s)
    go true e = beside analyze (cut s) ∙ same_texts analyze (cut s) (analyze s) e
    go false e = append-nil (texts (analyze s))

-- ---- texts that are cut

-- what is left behind tokens that others begin with, and its texts
left : (ts us : List Token) (xs : List (List ℕ)) → texts ts ≡ texts us ++ xs → (rest : List Token) × (behind ts us ≡ Some rest) × (texts rest ≡ xs)
left ts [] xs h = (ts, refl, h)
left [] (u ∷ us) xs h = absurd (cc)
left (t ∷ ts) (u ∷ us) xs h =
    let same : t.text ≡ u.text = cc in
    let others : texts ts ≡ texts us ++ xs = cc in
    let more = left ts us xs others in
    (more.0, ap (λ (b : Bool). if b then behind ts us else None) ((bytes_eq-Decides t.text u.text).1 same) ∙ more.1, more.2)

-- tokens with the texts of pieces are theirs
told_by_texts : (analyze : List ℕ → List Token) (ps : List (List ℕ)) (ts : List Token) → texts ts ≡ flat_map (λ p. texts (analyze p)) ps → are_tokens_of analyze ps ts ≡ true
told_by_texts analyze [] [] h = refl
told_by_texts analyze [] (t ∷ ts) h = absurd (cc)
told_by_texts analyze (p ∷ ps) ts h =
    let more = left ts (analyze p) (flat_map (λ q. texts (analyze q)) ps) h in
    ap (λ (o : Option (List Token)). elim o [ None ↦ false | Some rest ↦ are_tokens_of analyze ps rest ]) more.1 ∙ told_by_texts analyze ps more.0 more.2

-- the analyzer `default` has texts cut
pub default_cut : (s : List ℕ) → parts_of default_tokens s ≡ with_words (cut s)
default_cut s = ap (λ (b : Bool). if b then with_words (cut s) else (s, s) ∷ []) (told_by_texts default_tokens (cut s) (default_tokens s) (sym (same_words s)))
