-- Terms that begin with a text's are a text's, and have their positions where their field records them.
use Rattle.std.proofs.Common.{[], Bool, List, ap, arith, bytes_eq, drop, false, filter, if◌then◌else◌, length, map, nat_eq, not, refl, subst, suc, sym, take, true, true≢false, ◌&&◌, ◌++◌, ◌+◌, ◌<◌, ◌==◌, ◌^◌, ◌≡◌, ◌∙◌, ◌∷◌, ℕ}
use Rattle.std.proofs.lemmas.Slice.Eq.{bytes_eq-Decides}
use Rattle.std.specs.List.{after_first, prefix_len, starts_with}
use Rattle.std.specs.Prelude.{codes}
use Rattle.definitions.proofs.Lists.{both_true as both}
use Rattle.definitions.specs.Analyzers.{Analyzer}
use Rattle.definitions.specs.Recorded.{is_recorded}
use Rattle.definitions.specs.Schema.{Kind, Schema, bool_kind, bytes_kind, date_kind, facet_kind, field_has, has_positions, i64_kind, ip_addr_kind, json_kind, text_kind, u64_kind}
use Rattle.definitions.specs.Terms.{field_of, is_text_term, payload_of, term_bytes}
use Rattle.segment_reader.specs.Dictionaries.{Placed}
use Rattle.layouts.specs.InvertedIndexes.{term_of_key}
use Rattle.leaf_weights.proofs.PrefixHeld.{what_follows}
use Rattle.leaf_weights.proofs.PrefixMatches.{AreRecorded}
use Rattle.terms.proofs.TermParts.{field_of-term, text_terms}
use Rattle.terms.specs.TextKeys.{is_text_key}

one_more : (xs rest : List ℕ) → 0 < length (take 1 xs) → take 1 (xs ++ rest) ≡ take 1 xs
one_more [] rest some = absurd (omega (arith, some))
one_more (x ∷ xs) rest some = refl

-- what follows the first element that passes is the same with more behind it
after_more : (p : ℕ → Bool) (xs rest : List ℕ) → 0 < length (take 1 (after_first p xs)) → take 1 (after_first p (xs ++ rest)) ≡ take 1 (after_first p xs)
after_more p [] rest some = absurd (omega (arith, some))
after_more p (x ∷ xs) rest some = go (p x) some (after_more p xs rest)
  where
    go : (b : Bool)
        → 0 < length (take 1 (drop ((if not b then 1 + prefix_len (λ y. not (p y)) xs else 0) + 1) (x ∷ xs)))
        → (0 < length (take 1 (after_first p xs)) → take 1 (after_first p (xs ++ rest)) ≡ take 1 (after_first p xs))
        → take 1 (drop ((if not b then 1 + prefix_len (λ y. not (p y)) (xs ++ rest) else 0) + 1) (x ∷ (xs ++ rest))) ≡ take 1 (drop ((if not b then 1 + prefix_len (λ y. not (p y)) xs else 0) + 1) (x ∷ xs))
    go true some later = one_more xs rest some
    go false some later =
        let first : 1 + prefix_len (λ y. not (p y)) xs + 1 ≡ suc (prefix_len (λ y. not (p y)) xs + 1) = omega arith in
        let second : 1 + prefix_len (λ y. not (p y)) (xs ++ rest) + 1 ≡ suc (prefix_len (λ y. not (p y)) (xs ++ rest) + 1) = omega arith in
        ap (λ n. take 1 (drop n (x ∷ (xs ++ rest)))) second
        ∙ later (subst (λ n. 0 < length (take 1 (drop n (x ∷ xs)))) first some)
        ∙ sym (ap (λ n. take 1 (drop n (x ∷ xs))) first)

text_more : (kind : Kind) (key rest : List ℕ) → is_text_key kind key ≡ true → is_text_key kind (key ++ rest) ≡ true
text_more text_kind key rest is = refl
text_more json_kind key rest is =
    let code : take 1 (after_first (◌==◌ 0) key) ≡ codes "s" = (bytes_eq-Decides (take 1 (after_first (◌==◌ 0) key)) (codes "s")).0 is in
    let some : 0 < length (take 1 (after_first (◌==◌ 0) key)) = (let long = ap length code in omega (arith, long)) in
    ap (λ xs. bytes_eq xs (codes "s")) (after_more (◌==◌ 0) key rest some) ∙ is
text_more u64_kind key rest is = absurd (true≢false (sym is))
text_more i64_kind key rest is = absurd (true≢false (sym is))
text_more bool_kind key rest is = absurd (true≢false (sym is))
text_more date_kind key rest is = absurd (true≢false (sym is))
text_more facet_kind key rest is = absurd (true≢false (sym is))
text_more bytes_kind key rest is = absurd (true≢false (sym is))
text_more ip_addr_kind key rest is = absurd (true≢false (sym is))

module _ (schema : Schema) (analyze : Analyzer) (t : List ℕ) (kind : Kind) (whole : t ≡ term_bytes (field_of t) kind (payload_of t)) (small : field_of t < 2 ^ 32) (own : (key : List ℕ) → term_of_key schema (field_of t) key ≡ term_bytes (field_of t) kind key) (recorded : is_recorded has_positions schema t ≡ true) where
  one_recorded : (key : List ℕ) → starts_with nat_eq key (payload_of t) ≡ true → is_recorded has_positions schema (term_of_key schema (field_of t) key) ≡ true
  one_recorded key begins =
      let parts = both (is_text_term t) (field_has (λ e. has_positions e.record_option) schema (field_of t)) recorded in
      let text : is_text_key kind (payload_of t) ≡ true = sym (text_terms (field_of t) kind (payload_of t)) ∙ ap is_text_term (sym whole) ∙ parts.0 in
      let more : is_text_key kind key ≡ true = ap (is_text_key kind) (what_follows key (payload_of t) begins) ∙ text_more kind (payload_of t) (drop (length (payload_of t)) key) text in
      ap (is_recorded has_positions schema) (own key)
      ∙ ap (λ b. b && field_has (λ e. has_positions e.record_option) schema (field_of (term_bytes (field_of t) kind key))) (text_terms (field_of t) kind key ∙ more)
      ∙ ap (λ f. field_has (λ e. has_positions e.record_option) schema f) (field_of-term (field_of t) kind key small)
      ∙ parts.1

  pub all_recorded : (places : List Placed) → AreRecorded schema analyze (map (λ (d : Placed). term_of_key schema (field_of t) d.0) (filter (λ (d : Placed). starts_with nat_eq d.0 (payload_of t)) places))
  all_recorded [] = tt
  all_recorded (d ∷ ds) = go (starts_with nat_eq d.0 (payload_of t)) refl (all_recorded ds)
    where
      go : (b : Bool) → starts_with nat_eq d.0 (payload_of t) ≡ b → AreRecorded schema analyze (map (λ (e : Placed). term_of_key schema (field_of t) e.0) (filter (λ (e : Placed). starts_with nat_eq e.0 (payload_of t)) ds)) → AreRecorded schema analyze (map (λ (e : Placed). term_of_key schema (field_of t) e.0) (if b then d ∷ filter (λ (e : Placed). starts_with nat_eq e.0 (payload_of t)) ds else filter (λ (e : Placed). starts_with nat_eq e.0 (payload_of t)) ds))
      go true begins rest = (one_recorded d.0 begins, rest)
      go false begins rest = rest
