-- The scorer of a phrase prefix answers its query.
use Rattle.std.proofs.Common.{[], Bool, IfSome, List, None, Option, Some, ap, arith, drop, false, get_or, if◌then◌else◌, length, map, max, nat_lt, refl, slice_get, subst, suc, sym, take, true, true≢false, zero, ◌++◌, ◌-◌, ◌<◌, ◌^◌, ◌≡◌, ◌≤◌, ◌∙◌, ◌∷◌, ℕ}
use Rattle.std.proofs.lemmas.Slice.Eq.{bytes_eq-Decides}
use Rattle.std.specs.Int.{to_be_bytes, w32}
use Rattle.std.specs.List.{AllByRecursion}
use Rattle.std.specs.Option.{option_map_or}
use Rattle.definitions.proofs.TermsReadBack.{kind_there as kind_in-term}
use Rattle.docsets.specs.Entries.{Entry, single}
use Rattle.definitions.specs.Analyzers.{Analyzer}
use Rattle.definitions.specs.Answers.{answers}
use Rattle.definitions.specs.Phrases.{by_offset, last_and_rest, last_offset, phrase_count, whole_terms}
use Rattle.definitions.specs.Query.{Terms, phrase_prefix}
use Rattle.definitions.specs.Schema as schemas
use Rattle.definitions.specs.Schema.{Kind, Schema}
use Rattle.definitions.specs.Scoring.{Similarity, greatest_of}
use Rattle.definitions.specs.Terms.{field_of, has_kind, kind_in, payload_of, term_bytes, type_code}
use Rattle.definitions.specs.Values.{Document}
use Rattle.segment_reader.specs.Readers.{dictionary_in}
use Rattle.layouts.specs.InvertedIndexes.{term_of_key}
use Rattle.docsets.specs.ScoredEntries.{greatest_score, pairs_of}
use Rattle.docsets.specs.Members.{entries_at}
use Rattle.leaf_weights.proofs.PrefixHeld.{prefix_suffixes, suffixes}
use Rattle.leaf_weights.proofs.PrefixRecorded.{all_recorded}
use Rattle.leaf_weights.proofs.PrefixWhole.{last_apart, none_prefix_answers, whole_are, whole_prefix_answers, whole_sorted}
use Rattle.leaf_weights.proofs.SuffixesRead.{suffixes_read}
use Rattle.leaf_weights.proofs.TermsTogether.{read_from}
use Rattle.leaf_weights.specs.PlacedAnswers.{whole_answers}
use Rattle.leaf_weights.specs.Suffixes.{IsSearched, read_places, suffix_places}
use Rattle.phrases.proofs.PhrasePlaces.{last-of}
use Rattle.phrases.specs.PrefixEntries.{continued_by, prefixed}
use Rattle.segment_reader.specs.SegmentReaders.{StandsFor, index_of}
use Rattle.segment_reader.specs.declared.segment_reader.SegmentReader.{SegmentReader}
use Rattle.terms.proofs.TermParts.{code_of_kind}

-- ---- lists

get_same : {X : Type 0} (xs : List X) (i : ℕ) (d e : X) → i < length xs → get_or xs i d ≡ get_or xs i e
get_same [] i d e l = absurd (omega (arith, l))
get_same (x ∷ xs) zero d e l = refl
get_same (x ∷ xs) (suc i) d e l = get_same xs i d e (omega (arith, l))

get_taken : {X : Type 0} (xs : List X) (n i : ℕ) (d : X) → i < n → get_or (take n xs) i d ≡ get_or xs i d
get_taken xs zero i d l = absurd (omega (arith, l))
get_taken [] (suc n) i d l = refl
get_taken (x ∷ xs) (suc n) zero d l = refl
get_taken (x ∷ xs) (suc n) (suc i) d l = get_taken xs n i d (omega (arith, l))

pub long_taken : {X : Type 0} (xs : List X) (n : ℕ) → n ≤ length xs → length (take n xs) ≡ n
long_taken xs zero l = refl
long_taken [] (suc n) l = absurd (omega (arith, l))
long_taken (x ∷ xs) (suc n) l = (let rest = long_taken xs n (omega (arith, l)) in omega (arith, rest))

pub greatest_taken : (n : ℕ) (ts : Terms) → greatest_of (map (λ t. t.0) (take n ts)) ≤ greatest_of (map (λ t. t.0) ts)
greatest_taken zero ts = omega arith
greatest_taken (suc n) [] = omega arith
greatest_taken (suc n) (t ∷ ts) = (let rest = greatest_taken n ts in omega (arith, rest))

pub greatest_get : (ts : Terms) (i : ℕ) (d : ℕ × List ℕ) → i < length ts → (get_or ts i d).0 ≤ greatest_of (map (λ t. t.0) ts)
greatest_get [] i d l = absurd (omega (arith, l))
greatest_get (t ∷ ts) zero d l = omega arith
greatest_get (t ∷ ts) (suc i) d l = (let rest = greatest_get ts i d (omega (arith, l)) in omega (arith, rest))

-- ---- the kind of the prefix is its field's

own_kind : (schema : Schema) (t : List ℕ) (kind : Kind) → t ≡ term_bytes (field_of t) kind (payload_of t) → schemas.field_has (λ e. has_kind e.kind t) schema (field_of t) ≡ true → (key : List ℕ) → term_of_key schema (field_of t) key ≡ term_bytes (field_of t) kind key
own_kind schema t kind whole is key = go (slice_get schema (field_of t)) is
  where
    code : take 1 (drop 4 t) ≡ type_code kind
    code = code_of_kind t kind (ap kind_in whole ∙ kind_in-term (field_of t) kind (payload_of t))

    go : (o : Option schemas.Entry) → option_map_or (λ (e : schemas.Entry). has_kind e.kind t) o false ≡ true → option_map_or (λ (e : schemas.Entry). term_bytes (field_of t) e.kind key) o [] ≡ term_bytes (field_of t) kind key
    go None is = absurd (true≢false (sym is))
    go (Some e) is = ap (λ c. to_be_bytes w32 (field_of t) ++ (c ++ key)) (sym ((bytes_eq-Decides (take 1 (drop 4 t)) (type_code e.kind)).0 is) ∙ code)

-- ---- terms with a prefix behind them

module _ (T : Terms) (several : 2 ≤ length T) (sorted : by_offset T ≡ T) where
  abbrev n : ℕ
  n = length T - 1

  abbrev whole : Terms
  whole = take n T

  apart : (d : ℕ × List ℕ) → T ≡ whole ++ get_or T n d ∷ []
  apart d = last_apart T d (omega (arith, several))

  sorted_apart : (d : ℕ × List ℕ) → by_offset (whole ++ get_or T n d ∷ []) ≡ whole ++ get_or T n d ∷ []
  sorted_apart d = subst (λ ts. by_offset ts ≡ ts) (apart d) sorted

  pub sorted_whole : by_offset whole ≡ whole
  sorted_whole = whole_sorted whole (get_or T n (0, [])) (sorted_apart (0, []))

  pub whole_is : whole_terms T ≡ whole
  whole_is = ap whole_terms (apart (0, [])) ∙ whole_are whole (get_or T n (0, [])) (sorted_apart (0, []))

  -- the greatest offset of the whole terms is that of their last
  last_is : (z : ℕ × List ℕ) → last_offset whole ≡ (get_or T (n - 1) z).0
  last_is z =
      let long = long_taken T n (omega arith) in
      let inside : n - 1 < n = omega (arith, several) in
      let least : 1 ≤ length whole = omega (arith, long, several) in
      let split = last_apart whole z least in
      ap (λ ts. option_map_or (λ (p : (ℕ × List ℕ) × Terms). p.0.0) (last_and_rest ts) 0) (sorted_whole ∙ split)
      ∙ ap (λ (o : Option ((ℕ × List ℕ) × Terms)). option_map_or (λ p. p.0.0) o 0) (last-of (take (length whole - 1) whole) (get_or whole (length whole - 1) z))
      ∙ ap (λ k. (get_or whole (k - 1) z).0) long
      ∙ ap (λ (t : ℕ × List ℕ). t.0) (get_taken T n (n - 1) z inside)

  inside : n < length T
  inside = omega (arith, several)

  moved_is : (x y z : ℕ × List ℕ) (moved : ℕ) → moved ≡ (get_or T n y).0 - (get_or T (n - 1) z).0 → moved ≡ (get_or T n x).0 - last_offset whole
  moved_is x y z moved is = is ∙ ap (λ (t : ℕ × List ℕ). t.0 - (get_or T (n - 1) z).0) (get_same T n y x inside) ∙ ap (λ k. (get_or T n x).0 - k) (sym (last_is z))

  pub prefix_same : (x : ℕ × List ℕ) → (get_or T n (0, [])).1 ≡ (get_or T n x).1
  prefix_same x = ap (λ (t : ℕ × List ℕ). t.1) (get_same T n (0, []) x inside)

  module _ (schema : Schema) (analyze : Analyzer) (sim : Similarity) (b limit : ℕ) (docs : List Document) where
    pub prefix_none : AllByRecursion (λ doc. phrase_count schema analyze whole 0 doc ≡ 0) docs → answers schema analyze sim b (phrase_prefix T limit) docs ≡ []
    prefix_none none =
        ap (λ ts. answers schema analyze sim b (phrase_prefix ts limit) docs) (apart (0, []))
        ∙ none_prefix_answers schema analyze sim b whole (get_or T n (0, [])).0 (get_or T n (0, [])).1 limit (sorted_apart (0, [])) docs none

    pub prefix_some : (r : SegmentReader) (stands : StandsFor schema analyze docs r) (x y z : ℕ × List ℕ) (kind : Kind) (moved : ℕ) (ess : List (List Entry)) (phrase scorer : List Entry)
        → (get_or T n x).1 ≡ term_bytes (field_of (get_or T n x).1) kind (payload_of (get_or T n x).1)
        → field_of (get_or T n x).1 < 2 ^ 32
        → IsSearched schema (get_or T n (0, [])).1
        → length (suffix_places (index_of r) (get_or T n (0, [])).1) ≤ limit
        → ess ≡ read_places stands.fields (field_of (get_or T n x).1) (take limit (suffix_places (index_of r) (get_or T n x).1))
        → moved ≡ (get_or T n y).0 - (get_or T (n - 1) z).0
        → phrase ≡ whole_answers schema analyze sim b whole docs
        → scorer ≡ prefixed moved ess phrase
        → pairs_of scorer ≡ answers schema analyze sim b (phrase_prefix T limit) docs
    prefix_some r stands x y z kind moved ess phrase scorer parts small searched few read is_moved stand is =
        let t : List ℕ = (get_or T n x).1 in
        let there : IsSearched schema t = subst (IsSearched schema) (prefix_same x) searched in
        let own = own_kind schema t kind parts there.kind_is in
        let all = suffixes_read schema analyze docs r stands t limit ess (subst (λ u. length (suffix_places (index_of r) u) ≤ limit) (prefix_same x) few) read in
        ap pairs_of is
        ∙ ap (λ k. pairs_of (prefixed k ess phrase)) (moved_is x y z moved is_moved)
        ∙ ap (λ es. pairs_of (prefixed ((get_or T n x).0 - last_offset whole) es phrase)) all
        ∙ ap (λ es. pairs_of (prefixed ((get_or T n x).0 - last_offset whole) (map (read_from schema analyze 0 docs) (suffixes schema analyze docs r stands t kind parts small own)) es)) stand
        ∙ whole_prefix_answers schema analyze sim b whole (get_or T n x).0 t limit (sorted_apart x) docs (suffixes schema analyze docs r stands t kind parts small own) (prefix_suffixes schema analyze docs r stands t kind parts small own) (all_recorded schema analyze t kind parts small own there.recorded (dictionary_in (index_of r) (field_of t)))
        ∙ sym (ap (λ ts. answers schema analyze sim b (phrase_prefix ts limit) docs) (apart x))

-- ---- bounds

pub prefixed-bounded : (moved : ℕ) (ess : List (List Entry)) (es : List Entry) → greatest_score (prefixed moved ess es) ≤ greatest_score es
prefixed-bounded moved ess [] = omega arith
prefixed-bounded moved ess (e ∷ es) = go (nat_lt 0 (continued_by moved (single e.positions) (entries_at e.doc ess))) (prefixed-bounded moved ess es)
  where
    count : ℕ
    count = continued_by moved (single e.positions) (entries_at e.doc ess)

    go : (h : Bool) → greatest_score (prefixed moved ess es) ≤ greatest_score es → greatest_score (if h then record e { count = continued_by moved (single e.positions) (entries_at e.doc ess) } ∷ prefixed moved ess es else prefixed moved ess es) ≤ max e.score (greatest_score es)
    go true rest = omega (arith, rest)
    go false rest = omega (arith, rest)

-- what is said of what is there
pub some_is : {A : Type 0} (P : A → Type 0) (o : Option A) (x : A) → o ≡ Some x → IfSome o P → P x
some_is P o x is p = subst (λ q. IfSome q P) is p

-- no more than the phrase earns
pub bounded-on : (scorer phrase : List Entry) (moved : ℕ) (ess : List (List Entry)) (most asked : ℕ) → scorer ≡ prefixed moved ess phrase → greatest_score phrase ≤ most → most ≡ asked → greatest_score scorer ≤ asked
bounded-on scorer phrase moved ess most asked is small same = (let less = prefixed-bounded moved ess phrase in let equal = ap greatest_score is in omega (arith, less, equal, small, same))
