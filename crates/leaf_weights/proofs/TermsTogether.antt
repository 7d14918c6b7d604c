-- The entries that the terms of a phrase have in the documents of a segment.
use Rattle.std.proofs.Common.{[], Bool, List, ap, arith, false, filter_map, flat_map, if◌then◌else◌, length, map, refl, suc, sym, true, true≢false, ◌&&◌, ◌++◌, ◌+◌, ◌-◌, ◌<◌, ◌==◌, ◌≡◌, ◌≤◌, ◌∙◌, ◌∷◌, None, Some, ℕ}
use Rattle.std.proofs.lemmas.Bool.Decides.{nat_tests}
use Rattle.std.specs.List.{cons_option, enumerate_from, list_all}
use Rattle.docsets.specs.Entries.{Entry}
use Rattle.definitions.specs.Analyzers.{Analyzer}
use Rattle.definitions.specs.Phrases.{adjusted}
use Rattle.definitions.specs.Postings.{Posting, posting_of}
use Rattle.definitions.specs.Query.{Terms}
use Rattle.definitions.specs.Recorded.{count_of, holds, positions_of}
use Rattle.definitions.specs.Schema.{Schema}
use Rattle.definitions.specs.Values.{Document}
use Rattle.docsets.specs.Members.{entries_at, entries_of}
use Rattle.phrases.specs.PhraseEntries.{placed}

-- a posting whose count and positions are read
abbrev pub read_entry : Posting → Entry
read_entry p = record { doc = p.doc; score = 0; count = p.count; positions = p.positions ∷ [] }

module _ (schema : Schema) (analyze : Analyzer) where
  -- what is read of a term in documents that are counted from a number
  abbrev pub read_from : ℕ → List Document → List ℕ → List Entry
  read_from n docs t = map read_entry (filter_map (posting_of schema analyze t) (enumerate_from n docs))

  -- likewise of the terms of a phrase, moved by the greatest offset less their own
  abbrev pub lists_from : ℕ → ℕ → List Document → Terms → List (List Entry)
  lists_from greatest n docs ts = map (λ t. placed (greatest - t.0) (read_from n docs t.1)) ts

  -- the entry of a term in a document that holds it
  abbrev pub entry_in : ℕ → ℕ → Document → ℕ × List ℕ → Entry
  entry_in greatest n doc t = record { doc = n; score = 0; count = count_of schema analyze t.1 doc; positions = adjusted (λ u. positions_of schema analyze u doc) greatest t ∷ [] }

  -- the posting of the document that is counted first
  abbrev first_posting : ℕ → Document → List ℕ → Posting
  first_posting n doc t = record { doc = n; count = count_of schema analyze t doc; positions = positions_of schema analyze t doc }

  abbrev read_by : Bool → ℕ → Document → List Document → List ℕ → List Entry
  read_by h n doc docs t = map read_entry (cons_option (if h then Some (first_posting n doc t) else None) (filter_map (posting_of schema analyze t) (enumerate_from (n + 1) docs)))

  -- ---- of one term

  none_before : (o d n : ℕ) (docs : List Document) (t : List ℕ) → d < n → entries_of d (placed o (read_from n docs t)) ≡ []
  none_before o d n [] t l = refl
  none_before o d n (doc ∷ docs) t l = go (holds schema analyze t doc) (none_before o d (n + 1) docs t (omega (arith, l)))
    where
      go : (h : Bool) → entries_of d (placed o (read_from (n + 1) docs t)) ≡ [] → entries_of d (placed o (read_by h n doc docs t)) ≡ []
      go true rest = (let apart : (d == n) ≡ false = grind (arith, nat_tests, l) in ap (λ b. if b then record { doc = n; score = 0; count = count_of schema analyze t doc; positions = map (λ p. p + o) (positions_of schema analyze t doc) ∷ [] } ∷ entries_of d (placed o (read_from (n + 1) docs t)) else entries_of d (placed o (read_from (n + 1) docs t))) apart ∙ rest)
      go false rest = rest

  first_of : (g n : ℕ) (doc : Document) (docs : List Document) (t : ℕ × List ℕ) → entries_of n (placed (g - t.0) (read_from n (doc ∷ docs) t.1)) ≡ (if holds schema analyze t.1 doc then entry_in g n doc t ∷ [] else [])
  first_of g n doc docs t = go (holds schema analyze t.1 doc) (none_before (g - t.0) n (n + 1) docs t.1 (omega arith))
    where
      go : (h : Bool) → entries_of n (placed (g - t.0) (read_from (n + 1) docs t.1)) ≡ [] → entries_of n (placed (g - t.0) (read_by h n doc docs t.1)) ≡ (if h then entry_in g n doc t ∷ [] else [])
      go true rest = (let same : (n == n) ≡ true = grind (arith, nat_tests) in ap (λ b. if b then entry_in g n doc t ∷ entries_of n (placed (g - t.0) (read_from (n + 1) docs t.1)) else entries_of n (placed (g - t.0) (read_from (n + 1) docs t.1))) same ∙ ap (λ es. entry_in g n doc t ∷ es) rest)
      go false rest = rest

  later_of : (o d n : ℕ) (doc : Document) (docs : List Document) (t : List ℕ) → n < d → entries_of d (placed o (read_from n (doc ∷ docs) t)) ≡ entries_of d (placed o (read_from (n + 1) docs t))
  later_of o d n doc docs t l = go (holds schema analyze t doc)
    where
      go : (h : Bool) → entries_of d (placed o (read_by h n doc docs t)) ≡ entries_of d (placed o (read_from (n + 1) docs t))
      go true = (let apart : (d == n) ≡ false = grind (arith, nat_tests, l) in ap (λ b. if b then record { doc = n; score = 0; count = count_of schema analyze t doc; positions = map (λ p. p + o) (positions_of schema analyze t doc) ∷ [] } ∷ entries_of d (placed o (read_from (n + 1) docs t)) else entries_of d (placed o (read_from (n + 1) docs t))) apart)
      go false = refl

  -- ---- of several terms

  -- the entries of those that the document holds
  abbrev pub entries_here : ℕ → ℕ → Document → Terms → List Entry
  entries_here greatest n doc [] = []
  entries_here greatest n doc (t ∷ ts) = (if holds schema analyze t.1 doc then entry_in greatest n doc t ∷ [] else []) ++ entries_here greatest n doc ts

  -- whether it holds all of them
  abbrev pub holds_all : Document → Terms → Bool
  holds_all doc ts = list_all (λ t. holds schema analyze t.1 doc) ts

  pub at_first : (g n : ℕ) (doc : Document) (docs : List Document) (ts : Terms) → entries_at n (lists_from g n (doc ∷ docs) ts) ≡ entries_here g n doc ts
  at_first g n doc docs [] = refl
  at_first g n doc docs (t ∷ ts) =
      ap (λ es. es ++ entries_at n (lists_from g n (doc ∷ docs) ts)) (first_of g n doc docs t)
      ∙ ap (λ es. (if holds schema analyze t.1 doc then entry_in g n doc t ∷ [] else []) ++ es) (at_first g n doc docs ts)

  pub at_later : (g d n : ℕ) (doc : Document) (docs : List Document) (ts : Terms) → n < d → entries_at d (lists_from g n (doc ∷ docs) ts) ≡ entries_at d (lists_from g (n + 1) docs ts)
  at_later g d n doc docs [] l = refl
  at_later g d n doc docs (t ∷ ts) l =
      ap (λ es. es ++ entries_at d (lists_from g n (doc ∷ docs) ts)) (later_of (g - t.0) d n doc docs t.1 l)
      ∙ ap (λ es. entries_of d (placed (g - t.0) (read_from (n + 1) docs t.1)) ++ es) (at_later g d n doc docs ts l)

  pub at_none : (g d n : ℕ) (ts : Terms) → entries_at d (lists_from g n [] ts) ≡ []
  at_none g d n [] = refl
  at_none g d n (t ∷ ts) = at_none g d n ts

  pub all_here : (g n : ℕ) (doc : Document) (ts : Terms) → holds_all doc ts ≡ true → entries_here g n doc ts ≡ map (entry_in g n doc) ts
  all_here g n doc [] all = refl
  all_here g n doc (t ∷ ts) all = go (holds schema analyze t.1 doc) all (all_here g n doc ts)
    where
      go : (h : Bool) → (h && holds_all doc ts) ≡ true → (holds_all doc ts ≡ true → entries_here g n doc ts ≡ map (entry_in g n doc) ts) → (if h then entry_in g n doc t ∷ [] else []) ++ entries_here g n doc ts ≡ entry_in g n doc t ∷ map (entry_in g n doc) ts
      go true all rest = ap (λ es. entry_in g n doc t ∷ es) (rest all)
      go false all rest = absurd (true≢false (sym all))

  most_here : (g n : ℕ) (doc : Document) (ts : Terms) → length (entries_here g n doc ts) ≤ length ts
  most_here g n doc [] = omega arith
  most_here g n doc (t ∷ ts) = go (holds schema analyze t.1 doc) (most_here g n doc ts)
    where
      go : (h : Bool) → length (entries_here g n doc ts) ≤ length ts → length ((if h then entry_in g n doc t ∷ [] else []) ++ entries_here g n doc ts) ≤ suc (length ts)
      go true rest = omega (arith, rest)
      go false rest = omega (arith, rest)

  pub few_here : (g n : ℕ) (doc : Document) (ts : Terms) → holds_all doc ts ≡ false → length (entries_here g n doc ts) < length ts
  few_here g n doc [] few = absurd (true≢false few)
  few_here g n doc (t ∷ ts) few = go (holds schema analyze t.1 doc) few (few_here g n doc ts) (most_here g n doc ts)
    where
      go : (h : Bool) → (h && holds_all doc ts) ≡ false → (holds_all doc ts ≡ false → length (entries_here g n doc ts) < length ts) → length (entries_here g n doc ts) ≤ length ts → length ((if h then entry_in g n doc t ∷ [] else []) ++ entries_here g n doc ts) < suc (length ts)
      go true few rest most = (let less = rest few in omega (arith, less))
      go false few rest most = omega (arith, most)

  -- their positions, each its column
  pub columns_here : (g n : ℕ) (doc : Document) (ts : Terms) → flat_map (λ (e : Entry). e.positions) (map (entry_in g n doc) ts) ≡ map (adjusted (λ u. positions_of schema analyze u doc) g) ts
  columns_here g n doc [] = refl
  columns_here g n doc (t ∷ ts) = ap (λ cs. adjusted (λ u. positions_of schema analyze u doc) g t ∷ cs) (columns_here g n doc ts)
