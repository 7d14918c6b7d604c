-- A phrase prefix over the whole terms that stand before it.
use Rattle.std.proofs.Common.{[], List, None, Option, Some, ap, arith, false, filter_map, get_or, if◌then◌else◌, length, map, nat_le, refl, slice_get, subst, suc, sym, take, true, ◌*◌, ◌++◌, ◌+◌, ◌-◌, ◌≡◌, ◌≤◌, ◌∙◌, ◌∷◌, ℕ}
use Rattle.std.proofs.lemmas.Bool.Decides.{nat_tests}
use Rattle.std.specs.List.{AllByRecursion, cons_option, enumerate_from, list_any}
use Rattle.std.specs.Option.{option_map_or}
use Rattle.definitions.proofs.Lists.{no_numbers as none_left}
use Rattle.docsets.specs.Entries.{Entry, from}
use Rattle.definitions.specs.Analyzers.{Analyzer}
use Rattle.definitions.specs.Answers.{answer_at, answers}
use Rattle.definitions.specs.Indexing.{terms_of}
use Rattle.definitions.specs.Phrases.{by_offset, insert_by_offset, last_and_rest, last_offset, phrase_count, phrase_places, prefix_stands, whole_terms}
use Rattle.definitions.specs.Query.{Terms, phrase_prefix}
use Rattle.definitions.specs.Recorded.{positions_of}
use Rattle.definitions.specs.Schema.{Schema}
use Rattle.definitions.specs.Scoring.{Similarity, prefix_score}
use Rattle.definitions.specs.Values.{Document}
use Rattle.docsets.specs.ScoredEntries.{pairs_of}
use Rattle.leaf_weights.proofs.PrefixAnswers.{answer_is, moved, prefix_answers}
use Rattle.leaf_weights.proofs.PrefixMatches.{AreRecorded, AreSuffixes}
use Rattle.leaf_weights.proofs.TermsTogether.{read_from}
use Rattle.leaf_weights.proofs.WholeTerms.{no_whole_places}
use Rattle.leaf_weights.specs.PlacedAnswers.{placed_entry, stands_whole, whole_answers}
use Rattle.phrases.proofs.PhrasePlaces.{last-of, sorted-ordered, Ordered}
use Rattle.phrases.specs.PrefixEntries.{prefixed}
use Rattle.phrases.proofs.PrefixEntryLaws.{from-prefixed}

-- ---- the whole terms are in the order of their offsets too

ordered_before : (low : ℕ) (ts : Terms) (last : ℕ × List ℕ) → Ordered low (ts ++ last ∷ []) → Ordered low ts
ordered_before low [] last o = tt
ordered_before low (t ∷ ts) last o = (o.0, ordered_before t.0 ts last o.1)

insert_first : (t : ℕ × List ℕ) (ts : Terms) → Ordered t.0 ts → insert_by_offset t ts ≡ t ∷ ts
insert_first t [] o = refl
insert_first t (u ∷ us) o = (let first : nat_le t.0 u.0 ≡ true = (let le = o.0 in grind (arith, nat_tests, le)) in ap (λ b. if b then t ∷ u ∷ us else u ∷ insert_by_offset t us) first)

ordered_sorted : (low : ℕ) (ts : Terms) → Ordered low ts → by_offset ts ≡ ts
ordered_sorted low [] o = refl
ordered_sorted low (t ∷ ts) o = ap (insert_by_offset t) (ordered_sorted t.0 ts o.1) ∙ insert_first t ts o.1

pub whole_sorted : (whole : Terms) (last : ℕ × List ℕ) → by_offset (whole ++ last ∷ []) ≡ whole ++ last ∷ [] → by_offset whole ≡ whole
whole_sorted whole last sorted = ordered_sorted 0 whole (ordered_before 0 whole last (subst (Ordered 0) sorted (sorted-ordered (whole ++ last ∷ []))))

-- ---- the list of terms, by its last

pub last_apart : (terms : Terms) (d : ℕ × List ℕ) → 1 ≤ length terms → terms ≡ take (length terms - 1) terms ++ get_or terms (length terms - 1) d ∷ []
last_apart [] d some = absurd (omega (arith, some))
last_apart (t ∷ []) d some = refl
last_apart (t ∷ u ∷ us) d some = (let rest = last_apart (u ∷ us) d (omega arith) in let size : length (t ∷ u ∷ us) - 1 ≡ suc (length (u ∷ us) - 1) = omega arith in ap (λ ts. t ∷ ts) rest ∙ ap (λ n. take n (t ∷ u ∷ us) ++ get_or (t ∷ u ∷ us) n d ∷ []) (sym size))

pub whole_are : (whole : Terms) (last : ℕ × List ℕ) → by_offset (whole ++ last ∷ []) ≡ whole ++ last ∷ [] → whole_terms (whole ++ last ∷ []) ≡ whole
whole_are whole last sorted = ap (λ ts. option_map_or (λ (p : (ℕ × List ℕ) × Terms). p.1) (last_and_rest ts) []) sorted ∙ ap (λ (o : Option ((ℕ × List ℕ) × Terms)). option_map_or (λ p. p.1) o []) (last-of whole last)

-- ---- what is answered

module _ (schema : Schema) (analyze : Analyzer) (sim : Similarity) (b : ℕ) (whole : Terms) (offset : ℕ) (prefix : List ℕ) (limit : ℕ) (sorted : by_offset (whole ++ (offset, prefix) ∷ []) ≡ whole ++ (offset, prefix) ∷ []) where
  -- where whole terms aren't shown they have no places
  hidden : (doc : Document) → stands_whole schema analyze whole doc ≡ false → phrase_places (λ t. positions_of schema analyze t doc) whole 0 ≡ []
  hidden doc hides = none_left _ (no_whole_places schema analyze whole doc hides)

  pub whole_prefix_answers : (docs : List Document) (suffixes : List (List ℕ)) → ((n : ℕ) (doc : Document) → slice_get docs n ≡ Some doc → AreSuffixes schema analyze prefix suffixes doc) → AreRecorded schema analyze suffixes → pairs_of (prefixed (offset - last_offset whole) (map (read_from schema analyze 0 docs) suffixes) (whole_answers schema analyze sim b whole docs)) ≡ answers schema analyze sim b (phrase_prefix (whole ++ (offset, prefix) ∷ []) limit) docs
  whole_prefix_answers docs suffixes begin recorded =
      prefix_answers schema analyze sim b whole offset prefix limit sorted docs (stands_whole schema analyze whole) (λ n doc. placed_entry schema analyze whole 0 n doc (b * prefix_score schema analyze sim doc whole)) (λ n doc. refl) (λ n doc. refl) hidden (λ n doc is. refl) suffixes begin recorded

  none_from : (n : ℕ) (docs : List Document) → AllByRecursion (λ doc. phrase_count schema analyze whole 0 doc ≡ 0) docs → filter_map (answer_at schema analyze sim b (phrase_prefix (whole ++ (offset, prefix) ∷ []) limit)) (enumerate_from n docs) ≡ []
  none_from n [] none = refl
  none_from n (doc ∷ docs) none =
      ap (λ o. cons_option o (filter_map (answer_at schema analyze sim b (phrase_prefix (whole ++ (offset, prefix) ∷ []) limit)) (enumerate_from (n + 1) docs))) (answer_is schema analyze sim b whole offset prefix limit sorted n doc ∙ ap (λ ps. if list_any (λ place. prefix_stands (terms_of schema analyze doc) prefix (place + (offset - last_offset whole))) ps then Some (n, b * prefix_score schema analyze sim doc whole) else None) (none_left _ none.0))
      ∙ none_from (n + 1) docs none.1

  pub none_prefix_answers : (docs : List Document) → AllByRecursion (λ doc. phrase_count schema analyze whole 0 doc ≡ 0) docs → answers schema analyze sim b (phrase_prefix (whole ++ (offset, prefix) ∷ []) limit) docs ≡ []
  none_prefix_answers docs none = none_from 0 docs none

-- ---- bounds

pub prefixed-within : (moved n : ℕ) (ess : List (List Entry)) (es : List Entry) → from n es ≡ [] → from n (prefixed moved ess es) ≡ []
prefixed-within moved n ess es none = from-prefixed moved ess n es ∙ ap (prefixed moved ess) none
