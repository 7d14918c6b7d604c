-- The documents where terms that begin with a prefix follow a phrase are what its query answers.
use Rattle.std.proofs.Common.{[], Bool, List, None, Option, Some, ap, arith, false, filter_map, if◌then◌else◌, map, nat_lt, refl, slice_get, suc, sym, true, ◌*◌, ◌++◌, ◌+◌, ◌-◌, ◌≡◌, ◌∙◌, ◌∷◌, ℕ}
use Rattle.std.specs.List.{cons_option, enumerate_from, list_any}
use Rattle.std.specs.Option.{option_map_or}
use Rattle.docsets.specs.Entries.{Entry, single}
use Rattle.definitions.specs.Analyzers.{Analyzer}
use Rattle.definitions.specs.Answers.{answer_at, answers}
use Rattle.definitions.specs.Indexing.{terms_of}
use Rattle.definitions.specs.Phrases.{by_offset, last_and_rest, last_offset, phrase_places, prefix_follows, prefix_stands}
use Rattle.definitions.specs.Query.{Terms, phrase_prefix}
use Rattle.definitions.specs.Recorded.{positions_of}
use Rattle.definitions.specs.Schema.{Schema}
use Rattle.definitions.specs.Scoring.{Similarity, prefix_score}
use Rattle.definitions.specs.Values.{Document}
use Rattle.docsets.specs.ScoredEntries.{pairs_of}
use Rattle.docsets.specs.Members.{entries_at}
use Rattle.leaf_weights.proofs.PrefixMatches.{AreRecorded, AreSuffixes, prefix_continues}
use Rattle.leaf_weights.proofs.TermsTogether.{read_from}
use Rattle.phrases.proofs.PhrasePlaces.{last-of}
use Rattle.phrases.specs.PrefixEntries.{continued_by, prefixed}

-- ---- one document more

-- an entry by how often suffixes follow it
abbrev followed_entry : Entry → ℕ → Entry
followed_entry e n = record e { count = n }

prefixed_next : (moved : ℕ) (ess : List (List Entry)) (e : Entry) (es : List Entry) → pairs_of (prefixed moved ess (e ∷ es)) ≡ cons_option (if nat_lt 0 (continued_by moved (single e.positions) (entries_at e.doc ess)) then Some (e.doc, e.score) else None) (pairs_of (prefixed moved ess es))
prefixed_next moved ess e es = go (nat_lt 0 (continued_by moved (single e.positions) (entries_at e.doc ess)))
  where
    go : (b : Bool) → pairs_of (if b then followed_entry e (continued_by moved (single e.positions) (entries_at e.doc ess)) ∷ prefixed moved ess es else prefixed moved ess es) ≡ cons_option (if b then Some (e.doc, e.score) else None) (pairs_of (prefixed moved ess es))
    go true = refl
    go false = refl

module _ (schema : Schema) (analyze : Analyzer) (sim : Similarity) (b : ℕ) (whole : Terms) (offset : ℕ) (prefix : List ℕ) (limit : ℕ) (sorted : by_offset (whole ++ (offset, prefix) ∷ []) ≡ whole ++ (offset, prefix) ∷ []) where
  abbrev terms : Terms
  terms = whole ++ (offset, prefix) ∷ []

  -- how far the suffix stands behind the whole terms
  abbrev pub moved : ℕ
  moved = offset - last_offset whole

  -- the places of the whole terms
  abbrev pub whole_places : Document → List ℕ
  whole_places doc = phrase_places (λ t. positions_of schema analyze t doc) whole 0

  parts : last_and_rest (by_offset terms) ≡ Some ((offset, prefix), whole)
  parts = ap last_and_rest sorted ∙ last-of whole (offset, prefix)

  pub answer_is : (n : ℕ) (doc : Document) → answer_at schema analyze sim b (phrase_prefix terms limit) (n, doc) ≡ (if prefix_follows schema analyze doc whole (offset, prefix) then Some (n, b * prefix_score schema analyze sim doc whole) else None)
  answer_is n doc = ap (λ (o : Option ((ℕ × List ℕ) × Terms)). if elim o [ None ↦ false | Some p ↦ prefix_follows schema analyze doc p.1 p.0 ] then Some (n, b * prefix_score schema analyze sim doc (option_map_or (λ p. p.1) o [])) else None) parts

  -- what stands before the prefix: the documents that are shown, each with its places and its score, and no others have places
  module _ (docs : List Document) (shown : Document → Bool) (entry : ℕ → Document → Entry)
      (at : (n : ℕ) (doc : Document) → (entry n doc).doc ≡ n)
      (placed : (n : ℕ) (doc : Document) → single (entry n doc).positions ≡ whole_places doc)
      (hidden : (doc : Document) → shown doc ≡ false → whole_places doc ≡ [])
      (scored : (n : ℕ) (doc : Document) → slice_get docs n ≡ Some doc → (entry n doc).score ≡ b * prefix_score schema analyze sim doc whole)
      (suffixes : List (List ℕ))
      (begin : (n : ℕ) (doc : Document) → slice_get docs n ≡ Some doc → AreSuffixes schema analyze prefix suffixes doc)
      (recorded : AreRecorded schema analyze suffixes) where
    abbrev pub shown_at : ℕ × Document → Option Entry
    shown_at (n, doc) = if shown doc then Some (entry n doc) else None

    abbrev pub suffix_entries : List (List Entry)
    suffix_entries = map (read_from schema analyze 0 docs) suffixes

    -- the suffixes follow exactly where a term does that begins with the prefix
    follows_here : (n : ℕ) (doc : Document) → slice_get docs n ≡ Some doc → nat_lt 0 (continued_by moved (single (entry n doc).positions) (entries_at (entry n doc).doc suffix_entries)) ≡ prefix_follows schema analyze doc whole (offset, prefix)
    follows_here n doc is =
        let same : n ≡ 0 + n = omega arith in
        ap (λ ps. nat_lt 0 (continued_by moved ps (entries_at (entry n doc).doc suffix_entries))) (placed n doc)
        ∙ ap (λ d. nat_lt 0 (continued_by moved (whole_places doc) (entries_at d suffix_entries))) (at n doc ∙ same)
        ∙ prefix_continues schema analyze moved (whole_places doc) n docs doc prefix suffixes is (begin n doc is) recorded

    answers_from : (n : ℕ) (ds : List Document) → ((place : ℕ) (doc : Document) → slice_get ds place ≡ Some doc → slice_get docs (n + place) ≡ Some doc) → pairs_of (prefixed moved suffix_entries (filter_map shown_at (enumerate_from n ds))) ≡ filter_map (answer_at schema analyze sim b (phrase_prefix terms limit)) (enumerate_from n ds)
    answers_from n [] there = refl
    answers_from n (doc ∷ ds) there =
        let zeroth : n + 0 ≡ n = omega arith in
        let is : slice_get docs n ≡ Some doc = ap (slice_get docs) (sym zeroth) ∙ there 0 doc refl in
        go (shown doc) refl is (answers_from (n + 1) ds (λ place d found. (let next : n + 1 + place ≡ n + suc place = omega arith in ap (slice_get docs) next ∙ there (suc place) d found)))
        ∙ ap (λ o. cons_option o (filter_map (answer_at schema analyze sim b (phrase_prefix terms limit)) (enumerate_from (n + 1) ds))) (sym (answer_is n doc))
      where
        rest_of : List (ℕ × ℕ)
        rest_of = filter_map (answer_at schema analyze sim b (phrase_prefix terms limit)) (enumerate_from (n + 1) ds)

        go : (h : Bool) → shown doc ≡ h → slice_get docs n ≡ Some doc
            → pairs_of (prefixed moved suffix_entries (filter_map shown_at (enumerate_from (n + 1) ds))) ≡ rest_of
            → pairs_of (prefixed moved suffix_entries (cons_option (if h then Some (entry n doc) else None) (filter_map shown_at (enumerate_from (n + 1) ds)))) ≡ cons_option (if prefix_follows schema analyze doc whole (offset, prefix) then Some (n, b * prefix_score schema analyze sim doc whole) else None) rest_of
        go true shows is rest =
            prefixed_next moved suffix_entries (entry n doc) (filter_map shown_at (enumerate_from (n + 1) ds))
            ∙ ap (λ t. cons_option (if t then Some ((entry n doc).doc, (entry n doc).score) else None) (pairs_of (prefixed moved suffix_entries (filter_map shown_at (enumerate_from (n + 1) ds))))) (follows_here n doc is)
            ∙ ap (λ d. cons_option (if prefix_follows schema analyze doc whole (offset, prefix) then Some (d, (entry n doc).score) else None) (pairs_of (prefixed moved suffix_entries (filter_map shown_at (enumerate_from (n + 1) ds))))) (at n doc)
            ∙ ap (λ k. cons_option (if prefix_follows schema analyze doc whole (offset, prefix) then Some (n, k) else None) (pairs_of (prefixed moved suffix_entries (filter_map shown_at (enumerate_from (n + 1) ds))))) (scored n doc is)
            ∙ ap (cons_option (if prefix_follows schema analyze doc whole (offset, prefix) then Some (n, b * prefix_score schema analyze sim doc whole) else None)) rest
        go false hides is rest = rest ∙ sym (ap (λ ps. cons_option (if list_any (λ place. prefix_stands (terms_of schema analyze doc) prefix (place + moved)) ps then Some (n, b * prefix_score schema analyze sim doc whole) else None) rest_of) (hidden doc hides))

    pub prefix_answers : pairs_of (prefixed moved suffix_entries (filter_map shown_at (enumerate_from 0 docs))) ≡ answers schema analyze sim b (phrase_prefix terms limit) docs
    prefix_answers = answers_from 0 docs (λ place doc found. (let same : 0 + place ≡ place = omega arith in ap (slice_get docs) same ∙ found))
