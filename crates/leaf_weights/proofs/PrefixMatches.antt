-- Whether terms that begin with a prefix follow a phrase in a document, by the postings of these terms.
use Rattle.std.proofs.Common.{[], Bool, List, None, Option, Some, ap, arith, bytes_eq, false, filter_map, if◌then◌else◌, map, nat_eq, nat_le, nat_lt, refl, slice_get, suc, sym, true, zero, ◌&&◌, ◌+◌, ◌<◌, ◌==◌, ◌||◌, ◌≡◌, ◌∙◌, ◌∷◌, ℕ}
use Rattle.std.proofs.lemmas.Bool.Decides.{nat_tests}
use Rattle.std.proofs.lemmas.List.Sums.{sum_by-append}
use Rattle.std.specs.List.{AllByRecursion, cons_option, enumerate_from, list_any, starts_with}
use Rattle.std.specs.Option.{option_map_or}
use Rattle.docsets.specs.Entries.{Entry, single}
use Rattle.definitions.specs.Analyzers.{Analyzer}
use Rattle.definitions.specs.Indexing.{Placed, terms_of}
use Rattle.definitions.specs.Phrases.{prefix_stands}
use Rattle.definitions.specs.Postings.{posting_of}
use Rattle.definitions.specs.Recorded.{ascending, count_of, holds, insert_ascending, is_recorded, occurrences, positions_of}
use Rattle.definitions.specs.Schema.{Schema, has_positions}
use Rattle.definitions.specs.Values.{Document}
use Rattle.docsets.specs.Members.{entries_at, entries_of}
use Rattle.leaf_weights.proofs.AnyLaws.{any_and, any_each, any_filter, positive_sum, some_filtered}
use Rattle.definitions.proofs.Lists.{any_same}
use Rattle.definitions.proofs.Walks.{any_swap}
use Rattle.leaf_weights.proofs.PhraseAnswers.{none_held}
use Rattle.leaf_weights.proofs.TermsTogether.{read_entry, read_from}
use Rattle.phrases.specs.Places.{has}
use Rattle.phrases.specs.PrefixEntries.{continued, continued_by}

-- ---- positions

any_insert : (f : ℕ → Bool) (n : ℕ) (ms : List ℕ) → list_any f (insert_ascending n ms) ≡ (f n || list_any f ms)
any_insert f n [] = refl
any_insert f n (m ∷ ms) = go (nat_le n m) (any_insert f n ms)
  where
    swap : (a b c : Bool) → (a || (b || c)) ≡ (b || (a || c))
    swap true true c = refl
    swap true false c = refl
    swap false b c = refl

    go : (b : Bool) → list_any f (insert_ascending n ms) ≡ (f n || list_any f ms) → list_any f (if b then n ∷ m ∷ ms else m ∷ insert_ascending n ms) ≡ (f n || (f m || list_any f ms))
    go true rest = refl
    go false rest = ap (λ b. f m || b) rest ∙ swap (f m) (f n) (list_any f ms)

any_ascending : (f : ℕ → Bool) (ns : List ℕ) → list_any f (ascending ns) ≡ list_any f ns
any_ascending f [] = refl
any_ascending f (n ∷ ns) = any_insert f n (ascending ns) ∙ ap (λ b. f n || b) (any_ascending f ns)

module _ (schema : Schema) (analyze : Analyzer) where
  -- a term stands at a position, where positions are recorded
  stands_at : (t : List ℕ) (doc : Document) (q : ℕ) → is_recorded has_positions schema t ≡ true → has (positions_of schema analyze t doc) q ≡ list_any (λ (p : Placed). bytes_eq p.0 t && (p.1 == q)) (terms_of schema analyze doc)
  stands_at t doc q recorded =
      ap (λ b. has (if b then ascending (occurrences schema analyze t doc) else []) q) recorded
      ∙ any_ascending (λ p. p == q) (occurrences schema analyze t doc)
      ∙ any_filter (λ n. n == q) (λ (p : Placed). p.1) (λ (p : Placed). bytes_eq p.0 t) (terms_of schema analyze doc)

  -- the terms are those of a document that begin with the prefix, as far as the document has them
  abbrev pub AreSuffixes : List ℕ → List (List ℕ) → Document → Type 0
  AreSuffixes prefix suffixes doc = AllByRecursion (λ (p : Placed). list_any (bytes_eq p.0) suffixes ≡ starts_with nat_eq p.0 prefix) (terms_of schema analyze doc)

  -- each has its positions
  abbrev pub AreRecorded : List (List ℕ) → Type 0
  AreRecorded suffixes = AllByRecursion (λ t. is_recorded has_positions schema t ≡ true) suffixes

  some_stand : (prefix : List ℕ) (suffixes : List (List ℕ)) (doc : Document) (q : ℕ) → AreSuffixes prefix suffixes doc → AreRecorded suffixes → list_any (λ t. has (positions_of schema analyze t doc) q) suffixes ≡ prefix_stands (terms_of schema analyze doc) prefix q
  some_stand prefix suffixes doc q are recorded =
      any_each (λ t. has (positions_of schema analyze t doc) q) (λ t. list_any (λ (p : Placed). bytes_eq p.0 t && (p.1 == q)) (terms_of schema analyze doc)) suffixes (each suffixes recorded)
      ∙ any_swap (λ t (p : Placed). bytes_eq p.0 t && (p.1 == q)) suffixes (terms_of schema analyze doc)
      ∙ any_each (λ (p : Placed). list_any (λ t. bytes_eq p.0 t && (p.1 == q)) suffixes) (λ (p : Placed). starts_with nat_eq p.0 prefix && (p.1 == q)) (terms_of schema analyze doc) (those (terms_of schema analyze doc) are)
    where
      each : (ts : List (List ℕ)) → AreRecorded ts → AllByRecursion (λ t. has (positions_of schema analyze t doc) q ≡ list_any (λ (p : Placed). bytes_eq p.0 t && (p.1 == q)) (terms_of schema analyze doc)) ts
      each [] all = tt
      each (t ∷ ts) all = (stands_at t doc q all.0, each ts all.1)

      those : (ps : List Placed) → AllByRecursion (λ (p : Placed). list_any (bytes_eq p.0) suffixes ≡ starts_with nat_eq p.0 prefix) ps → AllByRecursion (λ (p : Placed). list_any (λ t. bytes_eq p.0 t && (p.1 == q)) suffixes ≡ (starts_with nat_eq p.0 prefix && (p.1 == q))) ps
      those [] all = tt
      those (p ∷ ps) all = (any_and (bytes_eq p.0) (p.1 == q) suffixes ∙ ap (λ b. b && (p.1 == q)) all.0, those ps all.1)

  -- ---- entries

  abbrev entry_of : ℕ → Document → List ℕ → Entry
  entry_of n doc t = record { doc = n; score = 0; count = count_of schema analyze t doc; positions = positions_of schema analyze t doc ∷ [] }

  abbrev next_by : Bool → ℕ → Document → List Document → List ℕ → List Entry
  next_by h n doc docs t = map read_entry (cons_option (if h then Some (record { doc = n; count = count_of schema analyze t doc; positions = positions_of schema analyze t doc }) else None) (filter_map (posting_of schema analyze t) (enumerate_from (n + 1) docs)))

  none_yet : (d n : ℕ) (docs : List Document) (t : List ℕ) → d < n → entries_of d (read_from schema analyze n docs t) ≡ []
  none_yet d n [] t l = refl
  none_yet d n (doc ∷ docs) t l = go (holds schema analyze t doc) (none_yet d (n + 1) docs t (omega (arith, l)))
    where
      go : (h : Bool) → entries_of d (read_from schema analyze (n + 1) docs t) ≡ [] → entries_of d (next_by h n doc docs t) ≡ []
      go true rest = (let apart : (d == n) ≡ false = grind (arith, nat_tests, l) in ap (λ b. if b then entry_of n doc t ∷ entries_of d (read_from schema analyze (n + 1) docs t) else entries_of d (read_from schema analyze (n + 1) docs t)) apart ∙ rest)
      go false rest = rest

  entries_there : (n place : ℕ) (docs : List Document) (doc : Document) (t : List ℕ) → slice_get docs place ≡ Some doc → entries_of (n + place) (read_from schema analyze n docs t) ≡ (if holds schema analyze t doc then entry_of (n + place) doc t ∷ [] else [])
  entries_there n zero [] doc t is = absurd (let no : ⊥ = cc in no)
  entries_there n (suc place) [] doc t is = absurd (let no : ⊥ = cc in no)
  entries_there n zero (first ∷ docs) doc t is =
      let same : first ≡ doc = ap (λ (o : Option Document). option_map_or (λ x. x) o first) is in
      let at : n + 0 ≡ n = omega arith in
      ap (λ d. entries_of d (read_from schema analyze n (first ∷ docs) t)) at
      ∙ go (holds schema analyze t first) (none_yet n (n + 1) docs t (omega arith))
      ∙ ap (λ x. if holds schema analyze t x then entry_of n x t ∷ [] else []) same
      ∙ ap (λ d. if holds schema analyze t doc then entry_of d doc t ∷ [] else []) (sym at)
    where
      go : (h : Bool) → entries_of n (read_from schema analyze (n + 1) docs t) ≡ [] → entries_of n (next_by h n first docs t) ≡ (if h then entry_of n first t ∷ [] else [])
      go true rest = (let same : (n == n) ≡ true = grind (arith, nat_tests) in ap (λ b. if b then entry_of n first t ∷ entries_of n (read_from schema analyze (n + 1) docs t) else entries_of n (read_from schema analyze (n + 1) docs t)) same ∙ ap (λ es. entry_of n first t ∷ es) rest)
      go false rest = rest
  entries_there n (suc place) (first ∷ docs) doc t is =
      let at : n + suc place ≡ n + 1 + place = omega arith in
      ap (λ d. entries_of d (read_from schema analyze n (first ∷ docs) t)) at
      ∙ go (holds schema analyze t first)
      ∙ entries_there (n + 1) place docs doc t is
      ∙ ap (λ d. if holds schema analyze t doc then entry_of d doc t ∷ [] else []) (sym at)
    where
      go : (h : Bool) → entries_of (n + 1 + place) (next_by h n first docs t) ≡ entries_of (n + 1 + place) (read_from schema analyze (n + 1) docs t)
      go true = (let apart : (n + 1 + place == n) ≡ false = grind (arith, nat_tests) in ap (λ b. if b then entry_of n first t ∷ entries_of (n + 1 + place) (read_from schema analyze (n + 1) docs t) else entries_of (n + 1 + place) (read_from schema analyze (n + 1) docs t)) apart)
      go false = refl

  -- some term follows exactly where one of them stands
  some_continue : (moved : ℕ) (places : List ℕ) (place : ℕ) (docs : List Document) (doc : Document) (suffixes : List (List ℕ)) → slice_get docs place ≡ Some doc → nat_lt 0 (continued_by moved places (entries_at (0 + place) (map (read_from schema analyze 0 docs) suffixes))) ≡ list_any (λ t. list_any (λ at. has (positions_of schema analyze t doc) (at + moved)) places) suffixes
  some_continue moved places place docs doc [] is = refl
  some_continue moved places place docs doc (t ∷ ts) is =
      ap (nat_lt 0) (sum_by-append (λ (s : Entry). continued moved places (single s.positions)) (entries_of (0 + place) (read_from schema analyze 0 docs t)) (entries_at (0 + place) (map (read_from schema analyze 0 docs) ts)))
      ∙ positive_sum (continued_by moved places (entries_of (0 + place) (read_from schema analyze 0 docs t))) (continued_by moved places (entries_at (0 + place) (map (read_from schema analyze 0 docs) ts)))
      ∙ ap (λ b. b || nat_lt 0 (continued_by moved places (entries_at (0 + place) (map (read_from schema analyze 0 docs) ts)))) (ap (λ es. nat_lt 0 (continued_by moved places es)) (entries_there 0 place docs doc t is) ∙ go (holds schema analyze t doc) refl)
      ∙ ap (λ b. list_any (λ at. has (positions_of schema analyze t doc) (at + moved)) places || b) (some_continue moved places place docs doc ts is)
    where
      one : continued_by moved places (entry_of (0 + place) doc t ∷ []) ≡ continued moved places (positions_of schema analyze t doc)
      one = omega arith

      go : (h : Bool) → holds schema analyze t doc ≡ h → nat_lt 0 (continued_by moved places (if h then entry_of (0 + place) doc t ∷ [] else [])) ≡ list_any (λ at. has (positions_of schema analyze t doc) (at + moved)) places
      go true held = ap (nat_lt 0) one ∙ some_filtered (λ at. has (positions_of schema analyze t doc) (at + moved)) places
      go false none = sym (ap (λ ps. list_any (λ at. has ps (at + moved)) places) (none_held schema analyze t doc none) ∙ nowhere places)
        where
          nowhere : (ps : List ℕ) → list_any (λ at. false) ps ≡ false
          nowhere [] = refl
          nowhere (p ∷ ps) = nowhere ps

  -- and one of them stands exactly where a term does that begins with the prefix
  pub prefix_continues : (moved : ℕ) (places : List ℕ) (place : ℕ) (docs : List Document) (doc : Document) (prefix : List ℕ) (suffixes : List (List ℕ)) → slice_get docs place ≡ Some doc → AreSuffixes prefix suffixes doc → AreRecorded suffixes → nat_lt 0 (continued_by moved places (entries_at (0 + place) (map (read_from schema analyze 0 docs) suffixes))) ≡ list_any (λ at. prefix_stands (terms_of schema analyze doc) prefix (at + moved)) places
  prefix_continues moved places place docs doc prefix suffixes is are recorded =
      some_continue moved places place docs doc suffixes is
      ∙ any_swap (λ t at. has (positions_of schema analyze t doc) (at + moved)) suffixes places
      ∙ any_same (λ at. list_any (λ t. has (positions_of schema analyze t doc) (at + moved)) suffixes) (λ at. prefix_stands (terms_of schema analyze doc) prefix (at + moved)) (λ at. some_stand prefix suffixes doc (at + moved) are recorded) places
