-- Whole terms before a prefix: one term, or several.
use Rattle.std.proofs.Common.{[], Bool, List, None, Option, Some, ap, arith, false, filter_map, if◌then◌else◌, length, map, max, nat_lt, refl, subst, sym, true, true≢false, ◌&&◌, ◌*◌, ◌+◌, ◌-◌, ◌==◌, ◌≡◌, ◌≤◌, ◌∙◌, ◌∷◌, get_or, ℕ}
use Rattle.std.proofs.lemmas.Bool.Decides.{nat_tests}
use Rattle.std.specs.List.{AllByRecursion, cons_option, enumerate_from, list_all}
use Rattle.docsets.specs.Entries.{AreSingle, Entry, from, most_positions, single}
use Rattle.definitions.specs.Analyzers.{Analyzer}
use Rattle.definitions.specs.Answers.{answer_at, answers}
use Rattle.definitions.specs.Phrases.{phrase_count, phrase_places}
use Rattle.definitions.specs.Postings.{posting_of, postings}
use Rattle.definitions.specs.Query.{Terms, phrase}
use Rattle.definitions.specs.Recorded.{count_of, holds, positions_of}
use Rattle.definitions.specs.Schema.{Schema}
use Rattle.definitions.specs.Scoring.{Similarity, phrase_score, score}
use Rattle.definitions.specs.Values.{Document}
use Rattle.docsets.specs.ScoredEntries.{greatest_score}
use Rattle.leaf_weights.proofs.PhraseAnswers.{none_held}
use Rattle.leaf_weights.proofs.TermsTogether.{read_entry, read_from}
use Rattle.leaf_weights.specs.PlacedAnswers.{placed_answers, placed_entry, stands_whole, whole_answers, whole_at}
use Rattle.phrases.proofs.PhrasePlaces.{phrase-places}
use Rattle.phrases.specs.MergeLaws.{ascends-from}
use Rattle.phrases.proofs.OneTermLaws.{from-one_term}
use Rattle.phrases.proofs.PlaceCounts.{places-few}
use Rattle.phrases.specs.Places.{places_of}
use Rattle.phrases.specs.PrefixEntries.{one_term}

-- ---- several

module _ (schema : Schema) (analyze : Analyzer) (sim : Similarity) (b : ℕ) (docs : List Document) (whole : Terms) where
  -- what they would be by whether there is one alone
  abbrev by_number : Bool → ℕ × Document → Option Entry
  by_number one (place, doc) = if (if one then list_all (λ t. holds schema analyze t.1 doc) whole else nat_lt 0 (phrase_count schema analyze whole 0 doc)) then Some (placed_entry schema analyze whole 0 place doc (b * (if one then 1 else phrase_score schema analyze sim doc whole 0))) else None

  pub several-whole : (length whole == 1) ≡ false → placed_answers schema analyze sim b whole 0 docs ≡ whole_answers schema analyze sim b whole docs
  several-whole several = ap (λ one. filter_map (by_number one) (enumerate_from 0 docs)) (sym several)

-- ---- one

same_positions : (o : ℕ) (ps : List ℕ) → map (λ p. p + (max o 0 - o)) ps ≡ ps
same_positions o [] = refl
same_positions o (p ∷ ps) = (let here : p + (max o 0 - o) ≡ p = omega arith in ap (λ q. q ∷ map (λ r. r + (max o 0 - o)) ps) here ∙ ap (λ qs. p ∷ qs) (same_positions o ps))

one_places : (positions : List ℕ → List ℕ) (o : ℕ) (t : List ℕ) → places_of 0 (positions t ∷ []) ≡ phrase_places positions ((o, t) ∷ []) 0
one_places positions o t = ap (λ ps. places_of 0 (ps ∷ [])) (sym (same_positions o (positions t))) ∙ phrase-places positions ((o, t) ∷ []) 0

module _ (schema : Schema) (analyze : Analyzer) (sim : Similarity) (b o : ℕ) (t : List ℕ) where
  one_from : (n : ℕ) (docs : List Document) → one_term b (read_from schema analyze n docs t) ≡ filter_map (whole_at schema analyze sim b ((o, t) ∷ [])) (enumerate_from n docs)
  one_from n [] = refl
  one_from n (doc ∷ docs) = go (holds schema analyze t doc) (one_from (n + 1) docs)
    where
      positions_in : List ℕ → List ℕ
      positions_in u = positions_of schema analyze u doc

      one_is : b ≡ b * 1
      one_is = omega arith

      go : (h : Bool) → one_term b (read_from schema analyze (n + 1) docs t) ≡ filter_map (whole_at schema analyze sim b ((o, t) ∷ [])) (enumerate_from (n + 1) docs)
          → one_term b (map read_entry (cons_option (if h then Some (record { doc = n; count = count_of schema analyze t doc; positions = positions_of schema analyze t doc }) else None) (filter_map (posting_of schema analyze t) (enumerate_from (n + 1) docs)))) ≡ cons_option (if (h && true) then Some (placed_entry schema analyze ((o, t) ∷ []) 0 n doc (b * 1)) else None) (filter_map (whole_at schema analyze sim b ((o, t) ∷ [])) (enumerate_from (n + 1) docs))
      go true rest =
          ap (λ ps. record { doc = n; score = b; count = length ps; positions = ps ∷ [] } ∷ one_term b (read_from schema analyze (n + 1) docs t)) (one_places (λ u. positions_of schema analyze u doc) o t)
          ∙ ap (λ s. placed_entry schema analyze ((o, t) ∷ []) 0 n doc s ∷ one_term b (read_from schema analyze (n + 1) docs t)) one_is
          ∙ ap (λ es. placed_entry schema analyze ((o, t) ∷ []) 0 n doc (b * 1) ∷ es) rest
      go false rest = rest

  no_places : (doc : Document) → holds schema analyze t doc ≡ false → phrase_count schema analyze ((o, t) ∷ []) 0 doc ≡ 0
  no_places doc none = ap length (sym (one_places (λ u. positions_of schema analyze u doc) o t) ∙ ap (λ ps. places_of 0 (ps ∷ [])) (none_held schema analyze t doc none))

  one_none_from : (n : ℕ) (docs : List Document) → filter_map (posting_of schema analyze t) (enumerate_from n docs) ≡ [] → AllByRecursion (λ doc. phrase_count schema analyze ((o, t) ∷ []) 0 doc ≡ 0) docs
  one_none_from n [] none = tt
  one_none_from n (doc ∷ docs) none = go (holds schema analyze t doc) refl none (one_none_from (n + 1) docs)
    where
      go : (h : Bool) → holds schema analyze t doc ≡ h → cons_option (if h then Some (record { doc = n; count = count_of schema analyze t doc; positions = positions_of schema analyze t doc }) else None) (filter_map (posting_of schema analyze t) (enumerate_from (n + 1) docs)) ≡ [] → (filter_map (posting_of schema analyze t) (enumerate_from (n + 1) docs) ≡ [] → AllByRecursion (λ d. phrase_count schema analyze ((o, t) ∷ []) 0 d ≡ 0) docs) → AllByRecursion (λ d. phrase_count schema analyze ((o, t) ∷ []) 0 d ≡ 0) (doc ∷ docs)
      go true is none rest = absurd (let no : ⊥ = cc in no)
      go false is none rest = (no_places doc is, rest none)

-- the only term of several that are one
only : (whole : Terms) (d : ℕ × List ℕ) → (length whole == 1) ≡ true → whole ≡ get_or whole 0 d ∷ []
only [] d one = absurd (true≢false (sym one))
only (t ∷ []) d one = refl
only (t ∷ u ∷ us) d one = (let long : length (t ∷ u ∷ us) ≡ 1 = grind (arith, nat_tests, one) in absurd (omega (arith, long)))

module _ (schema : Schema) (analyze : Analyzer) (docs : List Document) (whole : Terms) (d : ℕ × List ℕ) (one : (length whole == 1) ≡ true) where
  pub one-whole : (sim : Similarity) (b : ℕ) → one_term b (read_from schema analyze 0 docs (get_or whole 0 d).1) ≡ whole_answers schema analyze sim b whole docs
  one-whole sim b = one_from schema analyze sim b (get_or whole 0 d).0 (get_or whole 0 d).1 0 docs ∙ ap (λ ts. whole_answers schema analyze sim b ts docs) (sym (only whole d one))

  pub one-none : (sim : Similarity) → postings schema analyze (get_or whole 0 d).1 docs ≡ [] → AllByRecursion (λ doc. phrase_count schema analyze whole 0 doc ≡ 0) docs
  one-none sim none = subst (λ ts. AllByRecursion (λ doc. phrase_count schema analyze ts 0 doc ≡ 0) docs) (sym (only whole d one)) (one_none_from schema analyze sim 0 (get_or whole 0 d).0 (get_or whole 0 d).1 0 docs none)

-- ---- none

module _ (schema : Schema) (analyze : Analyzer) (sim : Similarity) (b : ℕ) (whole : Terms) where
  several_none_from : (n : ℕ) (docs : List Document) → filter_map (answer_at schema analyze sim b (phrase whole 0)) (enumerate_from n docs) ≡ [] → AllByRecursion (λ doc. phrase_count schema analyze whole 0 doc ≡ 0) docs
  several_none_from n [] none = tt
  several_none_from n (doc ∷ docs) none = go (nat_lt 0 (phrase_count schema analyze whole 0 doc)) refl none (several_none_from (n + 1) docs)
    where
      go : (h : Bool) → nat_lt 0 (phrase_count schema analyze whole 0 doc) ≡ h → cons_option (if h then Some (n, score schema analyze sim doc b (phrase whole 0)) else None) (filter_map (answer_at schema analyze sim b (phrase whole 0)) (enumerate_from (n + 1) docs)) ≡ [] → (filter_map (answer_at schema analyze sim b (phrase whole 0)) (enumerate_from (n + 1) docs) ≡ [] → AllByRecursion (λ d. phrase_count schema analyze whole 0 d ≡ 0) docs) → AllByRecursion (λ d. phrase_count schema analyze whole 0 d ≡ 0) (doc ∷ docs)
      go true is none rest = absurd (let no : ⊥ = cc in no)
      go false is none rest = (grind (arith, nat_tests, is), rest none)

  pub several-none : (docs : List Document) → answers schema analyze sim b (phrase whole 0) docs ≡ [] → AllByRecursion (λ doc. phrase_count schema analyze whole 0 doc ≡ 0) docs
  several-none docs none = several_none_from 0 docs none

-- ---- the entries of one term

pub one-within : (b n : ℕ) (es : List Entry) → from n es ≡ [] → from n (one_term b es) ≡ []
one-within b n es none = from-one_term b n es ∙ ap (one_term b) none

pub one-bounded : (b : ℕ) (es : List Entry) → greatest_score (one_term b es) ≤ b
one-bounded b [] = omega arith
one-bounded b (e ∷ es) = (let rest = one-bounded b es in omega (arith, rest))

pub one-few : (b : ℕ) (es : List Entry) → AreSingle es → most_positions (one_term b es) ≤ 4294967295
one-few b [] s = omega arith
one-few b (e ∷ es) s =
    let rest = one-few b es s.3 in
    let few = places-few 0 (single e.positions ∷ []) (ascends-from (single e.positions) s.1, (let high = s.2 in omega (arith, high)), tt) in
    omega (arith, rest, few)

-- ---- documents that aren't shown

list_count : (n : ℕ) → nat_lt 0 n ≡ false → n ≡ 0
list_count n none = grind (arith, nat_tests, none)

one_hidden : (schema : Schema) (analyze : Analyzer) (o : ℕ) (t : List ℕ) (doc : Document) → holds schema analyze t doc ≡ false → phrase_count schema analyze ((o, t) ∷ []) 0 doc ≡ 0
one_hidden schema analyze o t doc none = ap length (sym (one_places (λ u. positions_of schema analyze u doc) o t) ∙ ap (λ ps. places_of 0 (ps ∷ [])) (none_held schema analyze t doc none))

-- where whole terms aren't shown they have no places
pub no_whole_places : (schema : Schema) (analyze : Analyzer) (whole : Terms) (doc : Document) → stands_whole schema analyze whole doc ≡ false → phrase_count schema analyze whole 0 doc ≡ 0
no_whole_places schema analyze [] doc hides = list_count (phrase_count schema analyze [] 0 doc) hides
no_whole_places schema analyze (t ∷ []) doc hides = one_hidden schema analyze t.0 t.1 doc (go (holds schema analyze t.1 doc) hides)
  where
    go : (h : Bool) → (h && true) ≡ false → h ≡ false
    go true is = is
    go false is = refl
no_whole_places schema analyze (t ∷ u ∷ us) doc hides =
    let several : (length (t ∷ u ∷ us) == 1) ≡ false = grind (arith, nat_tests) in
    list_count (phrase_count schema analyze (t ∷ u ∷ us) 0 doc) (sym (ap (λ one. if one then list_all (λ x. holds schema analyze x.1 doc) (t ∷ u ∷ us) else nat_lt 0 (phrase_count schema analyze (t ∷ u ∷ us) 0 doc)) several) ∙ hides)
