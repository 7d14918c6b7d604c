-- The terms of a segment that begin with a prefix are those of its documents.
use Rattle.std.proofs.Common.{[], Bool, List, None, Option, Some, ap, arith, bytes_eq, drop, false, filter_map, find, if◌then◌else◌, length, map, nat_eq, option_map, refl, slice_get, suc, sym, true, true≢false, zero, ◌&&◌, ◌++◌, ◌+◌, ◌<◌, ◌||◌, ◌^◌, ◌≡◌, ◌∙◌, ◌∷◌, ℕ}
use Rattle.std.proofs.lemmas.Bool.Decides.{nat_tests}
use Rattle.std.proofs.lemmas.Slice.Eq.{bytes_eq-Decides}
use Rattle.std.specs.Int.{to_be_bytes, w32}
use Rattle.std.specs.List.{AllByRecursion, cons_option, enumerate_from, list_any, starts_with}
use Rattle.std.specs.Option.{option_map_or}
use Rattle.definitions.specs.Analyzers.{Analyzer}
use Rattle.definitions.specs.Indexing.{Placed, terms_of}
use Rattle.definitions.specs.Postings.{posting_of}
use Rattle.definitions.specs.Recorded.{count_of, holds, positions_of}
use Rattle.definitions.specs.Schema.{Kind, Schema}
use Rattle.definitions.specs.Terms.{field_of, payload_of, term_bytes, type_code}
use Rattle.definitions.specs.Values.{Document}
use Rattle.segment_reader.proofs.ReaderCalls.{info_of_held}
use Rattle.segment_reader.proofs.TermsHeld.{none_held}
use Rattle.segment_reader.specs.Dictionaries as dictionaries
use Rattle.segment_reader.specs.FieldDictionaries.{IsFound}
use Rattle.segment_reader.specs.Readers.{Contents, dictionary_in, info_in, term_held}
use Rattle.segment_reader.specs.declared.term_info.TermInfo.{TermInfo}
use Rattle.definitions.specs.KeptLengths.{norms_of}
use Rattle.layouts.specs.InvertedIndexes.{IndexedTerm, term_of_key}
use Rattle.leaf_weights.proofs.AnyLaws.{any_and, any_filter}
use Rattle.definitions.proofs.Lists.{any_same, both_true as and_parts}
use Rattle.definitions.proofs.TermsReadBack.{term-append as more_term, key_there as payload_of-term}
use Rattle.leaf_weights.proofs.PrefixMatches.{AreSuffixes}
use Rattle.leaf_weights.specs.Suffixes.{suffix_places}
use Rattle.segment_reader.specs.SegmentReaders.{StandsFor, index_of}
use Rattle.segment_reader.specs.declared.segment_reader.SegmentReader.{SegmentReader}
use Rattle.leaf_weights.proofs.TermsFound.{contents_of, held}
use Rattle.terms.proofs.TermParts.{field_of-term}

-- ---- bytes that begin with others

pub what_follows : (p t : List ℕ) → starts_with nat_eq p t ≡ true → p ≡ t ++ drop (length t) p
what_follows p [] is = refl
what_follows [] (b ∷ bs) is = absurd (true≢false (sym is))
what_follows (c ∷ cs) (b ∷ bs) is =
    let parts = and_parts (nat_eq b c) (starts_with nat_eq cs bs) is in
    let same : c ≡ b = (let test = parts.0 in grind (arith, nat_tests, test)) in
    ap (λ n. n ∷ cs) same ∙ ap (λ xs. b ∷ xs) (what_follows cs bs parts.1)

starts_behind : (h x p : List ℕ) → starts_with nat_eq (h ++ x) (h ++ p) ≡ starts_with nat_eq x p
starts_behind [] x p = refl
starts_behind (b ∷ h) x p = (let same : nat_eq b b ≡ true = grind (arith, nat_tests) in ap (λ t. t && starts_with nat_eq (h ++ x) (h ++ p)) same ∙ starts_behind h x p)

pub starts_term : (f : ℕ) (kind : Kind) (x p : List ℕ) → starts_with nat_eq (term_bytes f kind x) (term_bytes f kind p) ≡ starts_with nat_eq x p
starts_term f kind x p = starts_behind (to_be_bytes w32 f) (type_code kind ++ x) (type_code kind ++ p) ∙ starts_behind (type_code kind) x p

-- ---- what is found

none_there : (key : List ℕ) (terms : List dictionaries.Placed) → list_any (λ (d : dictionaries.Placed). bytes_eq d.0 key) terms ≡ false → info_in key terms ≡ None
none_there key [] none = refl
none_there key (t ∷ ts) none = go (bytes_eq t.0 key) none (none_there key ts)
  where
    go : (b : Bool) → (b || list_any (λ (d : dictionaries.Placed). bytes_eq d.0 key) ts) ≡ false → (list_any (λ (d : dictionaries.Placed). bytes_eq d.0 key) ts ≡ false → info_in key ts ≡ None) → option_map (λ (d : dictionaries.Placed). d.1) (if b then Some t else find (λ (d : dictionaries.Placed). bytes_eq d.0 key) ts) ≡ None
    go true none rest = absurd (true≢false none)
    go false none rest = rest none

-- a document that holds a term is among its postings
some_posting : (schema : Schema) (analyze : Analyzer) (t : List ℕ) (k n : ℕ) (docs : List Document) (doc : Document) → slice_get docs n ≡ Some doc → holds schema analyze t doc ≡ true → 0 < length (filter_map (posting_of schema analyze t) (enumerate_from k docs))
some_posting schema analyze t k zero [] doc is held = absurd (let no : ⊥ = cc in no)
some_posting schema analyze t k (suc n) [] doc is held = absurd (let no : ⊥ = cc in no)
some_posting schema analyze t k zero (first ∷ docs) doc is held =
    let same : first ≡ doc = ap (λ (o : Option Document). option_map_or (λ x. x) o first) is in
    let yes_held : holds schema analyze t first ≡ true = ap (holds schema analyze t) same ∙ held in
    let more = ap (λ h. length (cons_option (if h then Some (record { doc = k; count = count_of schema analyze t first; positions = positions_of schema analyze t first }) else None) (filter_map (posting_of schema analyze t) (enumerate_from (k + 1) docs)))) yes_held in
    omega (arith, more)
some_posting schema analyze t k (suc n) (first ∷ docs) doc is held =
    let rest = some_posting schema analyze t (k + 1) n docs doc is held in
    go (holds schema analyze t first) rest
  where
    go : (h : Bool) → 0 < length (filter_map (posting_of schema analyze t) (enumerate_from (k + 1) docs)) → 0 < length (cons_option (if h then Some (record { doc = k; count = count_of schema analyze t first; positions = positions_of schema analyze t first }) else None) (filter_map (posting_of schema analyze t) (enumerate_from (k + 1) docs)))
    go true rest = omega (arith, rest)
    go false rest = rest

-- each term of a document is held by it
each_held : (ps : List Placed) → AllByRecursion (λ (p : Placed). list_any (λ (q : Placed). bytes_eq q.0 p.0) ps ≡ true) ps
each_held [] = tt
each_held (x ∷ xs) = (ap (λ b. b || list_any (λ (q : Placed). bytes_eq q.0 x.0) xs) ((bytes_eq-Decides x.0 x.0).1 refl), further xs (each_held xs))
  where
    further : (ys : List Placed) → AllByRecursion (λ (p : Placed). list_any (λ (q : Placed). bytes_eq q.0 p.0) xs ≡ true) ys → AllByRecursion (λ (p : Placed). list_any (λ (q : Placed). bytes_eq q.0 p.0) (x ∷ xs) ≡ true) ys
    further [] all = tt
    further (y ∷ ys) all = (go (bytes_eq x.0 y.0) all.0, further ys all.1)
      where
        go : (b : Bool) → list_any (λ (q : Placed). bytes_eq q.0 y.0) xs ≡ true → (b || list_any (λ (q : Placed). bytes_eq q.0 y.0) xs) ≡ true
        go true is = refl
        go false is = is

-- ---- suffixes

module _ (schema : Schema) (analyze : Analyzer) (docs : List Document) (r : SegmentReader) (stands : StandsFor schema analyze docs r) (t : List ℕ) (kind : Kind) (whole : t ≡ term_bytes (field_of t) kind (payload_of t)) (small : field_of t < 2 ^ 32) (own : (key : List ℕ) → term_of_key schema (field_of t) key ≡ term_bytes (field_of t) kind key) where
  abbrev field : ℕ
  field = field_of t

  abbrev terms_there : List dictionaries.Placed
  terms_there = dictionary_in (index_of r) field

  -- a term of a document that begins with the prefix is in the dictionary
  is_there : (n : ℕ) (doc : Document) (p : List ℕ) → slice_get docs n ≡ Some doc → holds schema analyze p doc ≡ true → starts_with nat_eq p t ≡ true → list_any (λ (d : dictionaries.Placed). bytes_eq d.0 (payload_of p)) terms_there ≡ true
  is_there n doc p is holds_it begins = go (list_any (λ (d : dictionaries.Placed). bytes_eq d.0 (payload_of p)) terms_there) refl
    where
      rest : List ℕ
      rest = drop (length t) p

      bytes : p ≡ term_bytes field kind (payload_of t ++ rest)
      bytes = what_follows p t begins ∙ ap (λ xs. xs ++ rest) whole ∙ more_term field kind (payload_of t) rest

      field_same : field_of p ≡ field
      field_same = ap field_of bytes ∙ field_of-term field kind (payload_of t ++ rest) small

      own_whole : p ≡ term_bytes (field_of p) kind (payload_of p)
      own_whole = bytes ∙ ap (λ f. term_bytes f kind (payload_of t ++ rest)) (sym field_same) ∙ ap (term_bytes (field_of p) kind) (sym (ap payload_of bytes ∙ payload_of-term field kind (payload_of t ++ rest)))

      own_small : field_of p < 2 ^ 32
      own_small = omega (arith, field_same, small)

      contents : Contents (index_of r)
      contents = contents_of schema analyze docs r stands

      none_posted : term_held schema stands.fields p ≡ None → ⊥
      none_posted none =
          let some = some_posting schema analyze p 0 n docs doc is holds_it in
          let empty = ap length (sym (held schema analyze docs r stands p) ∙ ap (λ (o : Option IndexedTerm). option_map_or (λ x. x.postings) o []) none) in
          omega (arith, some, empty)

      found_some : (o : Option TermInfo) (x : Option IndexedTerm) → IsFound (index_of r).sections o x → o ≡ None → (x ≡ None → ⊥) → ⊥
      found_some None None found none some = some refl
      found_some None (Some x) found none some = found
      found_some (Some info) x found none some = (let no : ⊥ = cc in no)

      no_info : list_any (λ (d : dictionaries.Placed). bytes_eq d.0 (payload_of p)) terms_there ≡ false → info_in (payload_of p) (dictionary_in (index_of r) (field_of p)) ≡ None
      no_info none = ap (λ f. info_in (payload_of p) (dictionary_in (index_of r) f)) field_same ∙ none_there (payload_of p) terms_there none

      go : (b : Bool) → list_any (λ (d : dictionaries.Placed). bytes_eq d.0 (payload_of p)) terms_there ≡ b → b ≡ true
      go true e = refl
      go false e = absurd (none_posted (none_held schema (length docs) (norms_of schema analyze docs) stands.fields (index_of r) p kind stands.reads own_whole own_small
          (λ has. found_some (info_in (payload_of p) (dictionary_in (index_of r) (field_of p))) (term_held schema stands.fields p) (info_of_held (index_of r) p kind contents (info_in (payload_of p) (dictionary_in (index_of r) (field_of p))) own_whole own_small has refl) (no_info e) none_posted)))

  -- the terms of the reader that begin with the prefix
  abbrev pub suffixes : List (List ℕ)
  suffixes = map (λ (d : dictionaries.Placed). term_of_key schema field d.0) (suffix_places (index_of r) t)

  same_bytes : (p : List ℕ) (d : dictionaries.Placed) → (starts_with nat_eq d.0 (payload_of t) && bytes_eq p (term_of_key schema field d.0)) ≡ (bytes_eq p (term_of_key schema field d.0) && starts_with nat_eq p t)
  same_bytes p d = go (bytes_eq p (term_of_key schema field d.0)) refl
    where
      swap : (a : Bool) → (a && true) ≡ a
      swap true = refl
      swap false = refl

      never : (a : Bool) → (a && false) ≡ false
      never true = refl
      never false = refl

      go : (b : Bool) → bytes_eq p (term_of_key schema field d.0) ≡ b → (starts_with nat_eq d.0 (payload_of t) && b) ≡ (b && starts_with nat_eq p t)
      go true is =
          let same : p ≡ term_bytes field kind d.0 = (bytes_eq-Decides p (term_of_key schema field d.0)).0 is ∙ own d.0 in
          swap (starts_with nat_eq d.0 (payload_of t)) ∙ sym (ap (λ x. starts_with nat_eq x t) same ∙ ap (starts_with nat_eq (term_bytes field kind d.0)) whole ∙ starts_term field kind d.0 (payload_of t))
      go false is = never (starts_with nat_eq d.0 (payload_of t))

  pub prefix_suffixes : (n : ℕ) (doc : Document) → slice_get docs n ≡ Some doc → AreSuffixes schema analyze t suffixes doc
  prefix_suffixes n doc is = all (terms_of schema analyze doc) (each_held (terms_of schema analyze doc))
    where
      present : (p : List ℕ) → holds schema analyze p doc ≡ true → starts_with nat_eq p t ≡ true → list_any (λ (d : dictionaries.Placed). bytes_eq p (term_of_key schema field d.0)) terms_there ≡ true
      present p holds_it begins =
          let bytes = what_follows p t begins ∙ ap (λ xs. xs ++ drop (length t) p) whole ∙ more_term field kind (payload_of t) (drop (length t) p) in
          let key = sym (ap payload_of bytes ∙ payload_of-term field kind (payload_of t ++ drop (length t) p)) in
          let whole_p : term_bytes field kind (payload_of p) ≡ p = sym (bytes ∙ ap (term_bytes field kind) key) in
          any_same (λ (d : dictionaries.Placed). bytes_eq p (term_of_key schema field d.0)) (λ (d : dictionaries.Placed). bytes_eq d.0 (payload_of p)) (λ d. same_key d (bytes_eq p (term_of_key schema field d.0)) (bytes_eq d.0 (payload_of p)) refl refl whole_p) terms_there
          ∙ is_there n doc p is holds_it begins
        where
          same_key : (d : dictionaries.Placed) (a b : Bool) → bytes_eq p (term_of_key schema field d.0) ≡ a → bytes_eq d.0 (payload_of p) ≡ b → term_bytes field kind (payload_of p) ≡ p → a ≡ b
          same_key d true true x y w = refl
          same_key d false false x y w = refl
          same_key d true false x y w =
              let equal = ap payload_of ((bytes_eq-Decides p (term_of_key schema field d.0)).0 x ∙ own d.0) ∙ payload_of-term field kind d.0 in
              absurd (true≢false (sym ((bytes_eq-Decides d.0 (payload_of p)).1 (sym equal)) ∙ y))
          same_key d false true x y w =
              let equal = sym w ∙ ap (term_bytes field kind) (sym ((bytes_eq-Decides d.0 (payload_of p)).0 y)) ∙ sym (own d.0) in
              absurd (true≢false (sym ((bytes_eq-Decides p (term_of_key schema field d.0)).1 equal) ∙ x))

      one : (p : List ℕ) → holds schema analyze p doc ≡ true → list_any (bytes_eq p) suffixes ≡ starts_with nat_eq p t
      one p holds_it =
          any_filter (bytes_eq p) (λ (d : dictionaries.Placed). term_of_key schema field d.0) (λ (d : dictionaries.Placed). starts_with nat_eq d.0 (payload_of t)) terms_there
          ∙ any_same (λ (d : dictionaries.Placed). starts_with nat_eq d.0 (payload_of t) && bytes_eq p (term_of_key schema field d.0)) (λ (d : dictionaries.Placed). bytes_eq p (term_of_key schema field d.0) && starts_with nat_eq p t) (same_bytes p) terms_there
          ∙ any_and (λ (d : dictionaries.Placed). bytes_eq p (term_of_key schema field d.0)) (starts_with nat_eq p t) terms_there
          ∙ go (starts_with nat_eq p t) (present p holds_it)
        where
          go : (s : Bool) → (s ≡ true → list_any (λ (d : dictionaries.Placed). bytes_eq p (term_of_key schema field d.0)) terms_there ≡ true) → (list_any (λ (d : dictionaries.Placed). bytes_eq p (term_of_key schema field d.0)) terms_there && s) ≡ s
          go true there = ap (λ b. b && true) (there refl)
          go false there = never (list_any (λ (d : dictionaries.Placed). bytes_eq p (term_of_key schema field d.0)) terms_there)
            where
              never : (a : Bool) → (a && false) ≡ false
              never true = refl
              never false = refl

      all : (ps : List Placed) → AllByRecursion (λ (p : Placed). holds schema analyze p.0 doc ≡ true) ps → AllByRecursion (λ (p : Placed). list_any (bytes_eq p.0) suffixes ≡ starts_with nat_eq p.0 t) ps
      all [] holds_each = tt
      all (p ∷ ps) holds_each = (one p.0 holds_each.0, all ps holds_each.1)
