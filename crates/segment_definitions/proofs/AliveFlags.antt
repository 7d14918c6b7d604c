-- The bytes of alive sets tell their flags.
use Rattle.std.proofs.Common.{[], Bool, List, ap, ap₂, append_assoc, arith, drop, false, flat_map, length, length-drop, length-take, map, refl, suc, sym, take, true, zero, ◌++◌, ◌*◌, ◌+◌, ◌-◌, ◌/◌, ◌<◌, ◌^◌, ◌∙◌, ◌∷◌, ◌≡◌, ◌≤◌, ℕ}
use Rattle.std.specs.List.{AllByRecursion}
use Rattle.std.proofs.lemmas.List.{nil_from_length, take-append-drop}
use Rattle.std.proofs.Math.Pow.{pow_mono}
use Rattle.definitions.specs.NumberCodes.{u64_bytes}
use Rattle.definitions.specs.State.{groups_of}
use Rattle.layouts.proofs.Lists.{word_below as below}
use Rattle.layouts.specs.AliveSets.{alive_bytes, alive_words, word_of}
use Rattle.segment_definitions.proofs.SegmentParts.{one_u32, one_u64}

-- ---- a word

small : (flags : List Bool) → length flags ≤ 64 → word_of flags < 2 ^ 64
small flags few = (let most : 2 ^ length flags ≤ 2 ^ 64 = pow_mono few in omega (arith, below flags))

one_word : (f g : List Bool) → length f ≡ length g → word_of f ≡ word_of g → f ≡ g
one_word [] [] long same = refl
one_word [] (b ∷ g) long same = absurd (omega (arith, long))
one_word (a ∷ f) [] long same = absurd (omega (arith, long))
one_word (true ∷ f) (true ∷ g) long same = ap (λ l. true ∷ l) (one_word f g (omega (arith, long)) (omega (arith, same)))
one_word (false ∷ f) (false ∷ g) long same = ap (λ l. false ∷ l) (one_word f g (omega (arith, long)) (omega (arith, same)))
one_word (true ∷ f) (false ∷ g) long same = absurd (omega (arith, same))
one_word (false ∷ f) (true ∷ g) long same = absurd (omega (arith, same))

-- ---- all words

words_bytes : ℕ → List Bool → List ℕ
words_bytes k flags = flat_map u64_bytes (map word_of (groups_of k 64 flags))

all_words : (k : ℕ) (f g : List Bool) (r s : List ℕ) → length f ≡ length g → length f ≤ k * 64 → words_bytes k f ++ r ≡ words_bytes k g ++ s → (f ≡ g) × (r ≡ s)
unfolding words_bytes
all_words zero f g r s long few same = (nil_from_length f (omega (arith, few)) ∙ sym (nil_from_length g (omega (arith, few, long))), same)
all_words (suc k) f g r s long few same =
    let few_f : length (take 64 f) ≤ 64 = rw (length-take 64 f) (omega arith) in
    let few_g : length (take 64 g) ≤ 64 = rw (length-take 64 g) (omega arith) in
    let word = one_u64 (word_of (take 64 f)) (word_of (take 64 g)) (words_bytes k (drop 64 f) ++ r) (words_bytes k (drop 64 g) ++ s) (small (take 64 f) few_f) (small (take 64 g) few_g)
    (sym (append_assoc (u64_bytes (word_of (take 64 f))) (words_bytes k (drop 64 f)) r) ∙ same ∙ append_assoc (u64_bytes (word_of (take 64 g))) (words_bytes k (drop 64 g)) s) in
    let first : take 64 f ≡ take 64 g = one_word (take 64 f) (take 64 g) (rw (length-take 64 f) (rw (length-take 64 g) (rw long refl))) word.0 in
    let rest = all_words k (drop 64 f) (drop 64 g) r s (rw (length-drop 64 f) (rw (length-drop 64 g) (rw long refl))) (rw (length-drop 64 f) (omega (arith, few))) word.1 in
    (sym (take-append-drop 64 f) ∙ ap₂ (λ a b. a ++ b) first rest.0 ∙ take-append-drop 64 g, rest.1)

-- ---- sets

one_set : (f g : List Bool) (r s : List ℕ) → length f < 2 ^ 32 → length g < 2 ^ 32 → alive_bytes f ++ r ≡ alive_bytes g ++ s → (f ≡ g) × (r ≡ s)
unfolding words_bytes
one_set f g r s few_f few_g same =
    let e = one_u32 (length f) (length g) (flat_map u64_bytes (alive_words f) ++ r) (flat_map u64_bytes (alive_words g) ++ s) few_f few_g same in
    let k = (length f + 64 - 1) / 64 in
    all_words k f g r s e.0 (omega arith) (e.1 ∙ ap (λ n. words_bytes ((n + 64 - 1) / 64) g ++ s) (sym e.0))

pub all_sets : (fs gs : List (List Bool)) → AllByRecursion (λ f. length f < 2 ^ 32) fs → AllByRecursion (λ g. length g < 2 ^ 32) gs → length fs ≡ length gs → flat_map alive_bytes fs ≡ flat_map alive_bytes gs → fs ≡ gs
all_sets [] [] few_f few_g long same = refl
all_sets [] (g ∷ gs) few_f few_g long same = absurd (omega (arith, long))
all_sets (f ∷ fs) [] few_f few_g long same = absurd (omega (arith, long))
all_sets (f ∷ fs) (g ∷ gs) few_f few_g long same =
    let e = one_set f g (flat_map alive_bytes fs) (flat_map alive_bytes gs) few_f.0 few_g.0 same in
    ap₂ (λ x xs. x ∷ xs) e.0 (all_sets fs gs few_f.1 few_g.1 (omega (arith, long)) e.1)
