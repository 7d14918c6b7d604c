-- The terms of a JSON field, as its steps give them.
use Rattle.std.proofs.Common.{[], ◌++◌, ◌+◌, ◌≡◌, ◌≢◌, ◌∙◌, ◌∷◌, Bool, List, None, Option, Some, ap, append-nil, ap₂, bytes_eq, codes, cond, false, filter, filter_map, flat_map, if◌then◌else◌, is_some, map, nat_lt, not, option_and_then, option_map, pos, refl, sym, take, true, true≢false, ◌^◌, ◌||◌, ℕ}
use Rattle.std.specs.List.{cons_option, list_any}
use Rattle.std.specs.Option.{option_map_or}
use Rattle.std.proofs.lemmas.List.{map-append}
use Rattle.std.proofs.lemmas.Slice.Eq.{bytes_eq-Decides}
use Rattle.definitions.specs.Analyzers.{Analyzer, kept}
use Rattle.definitions.specs.Indexing.{Placed, leaf_term, leaves_terms, path_terms}
use Rattle.definitions.specs.JsonLeaves.{has_zero, is_text_leaf, leaf_text, once, text_paths, texts_at}
use Rattle.definitions.specs.Places.{next_start, places, places_from}
use Rattle.definitions.specs.Schema.{Entry, Kind, i64_kind, text_kind, u64_kind}
use Rattle.definitions.specs.Terms.{json_term, leaf_bytes, payload_of, type_code, value_bytes}
use Rattle.definitions.specs.Values.{Token, Value, array, bool, bytes, date, facet, i64, ip_addr, null, object, pre_tok_str, str, u64}
use Rattle.document_indexer.specs.Runs.{Starts, next_starts, run_terms}
use Rattle.document_indexer.specs.Steps.{Step, leaves_steps, path_step, term_steps}
use Rattle.document_indexer.proofs.CleanPaths.{HaveCleanPaths, before_clean, leaf_in, leaf_is, path_in, path_is}
use Rattle.document_indexer.proofs.KindRuns.{tokens_shifted}
use Rattle.document_indexer.proofs.PathTerms.{leaf-append}
use Rattle.document_indexer.proofs.TermPositions.{at, at-append, itself, none_map, unequal}

-- ---- what stands once

-- a path's share, where it is that one
abbrev share : List ℕ → List ℕ → List ℕ → List ℕ
share q ns p = cond (bytes_eq q p) ns []

none_left : (q ns : List ℕ) (ys : List (List ℕ)) → flat_map (share q ns) (filter (λ y. not (bytes_eq q y)) ys) ≡ []
none_left q ns [] = refl
none_left q ns (y ∷ ys) = go (bytes_eq q y) refl (none_left q ns ys)
  where
    rest : List (List ℕ)
    rest = filter (λ z. not (bytes_eq q z)) ys

    go : (b : Bool) → bytes_eq q y ≡ b → flat_map (share q ns) rest ≡ [] → flat_map (share q ns) (cond (not b) (y ∷ rest) rest) ≡ []
    go true same ih = ih
    go false other ih = ap (λ b. cond b ns [] ++ flat_map (share q ns) rest) other ∙ ih

others_left : (q x ns : List ℕ) (ys : List (List ℕ)) → bytes_eq q x ≡ false → flat_map (share q ns) (filter (λ y. not (bytes_eq x y)) ys) ≡ flat_map (share q ns) ys
others_left q x ns [] differ = refl
others_left q x ns (y ∷ ys) differ = go (bytes_eq x y) refl (others_left q x ns ys differ)
  where
    rest : List (List ℕ)
    rest = filter (λ z. not (bytes_eq x z)) ys

    go : (b : Bool) → bytes_eq x y ≡ b → flat_map (share q ns) rest ≡ flat_map (share q ns) ys → flat_map (share q ns) (cond (not b) (y ∷ rest) rest) ≡ share q ns y ++ flat_map (share q ns) ys
    go true same ih = ih ∙ ap (λ b. cond b ns [] ++ flat_map (share q ns) ys) (sym (ap (bytes_eq q) (sym ((bytes_eq-Decides x y).0 same)) ∙ differ))
    go false other ih = ap (λ ms. share q ns y ++ ms) ih

-- a path has its share once, if it stands there
once_share : (q ns : List ℕ) (xs : List (List ℕ)) → flat_map (share q ns) (once bytes_eq xs) ≡ cond (list_any (bytes_eq q) xs) ns []
once_share q ns [] = refl
once_share q ns (x ∷ xs) = go (bytes_eq q x) refl (once_share q ns xs)
  where
    rest : List (List ℕ)
    rest = filter (λ y. not (bytes_eq x y)) (once bytes_eq xs)

    go : (b : Bool) → bytes_eq q x ≡ b → flat_map (share q ns) (once bytes_eq xs) ≡ cond (list_any (bytes_eq q) xs) ns [] → cond b ns [] ++ flat_map (share q ns) rest ≡ cond (b || list_any (bytes_eq q) xs) ns []
    go true same ih = ap (λ p. ns ++ flat_map (share q ns) (filter (λ y. not (bytes_eq p y)) (once bytes_eq xs))) (sym ((bytes_eq-Decides q x).0 same)) ∙ ap (λ ms. ns ++ ms) (none_left q ns (once bytes_eq xs)) ∙ append-nil ns
    go false other ih = others_left q x ns (once bytes_eq xs) other ∙ ih

-- ---- the texts on a path

-- one leaf more
texts_cons : (q path : List ℕ) (v : Value) (ls : List (List ℕ × Value)) → texts_at q ((path, v) ∷ ls) ≡ cond (bytes_eq path q) (cons_option (leaf_text v) (texts_at q ls)) (texts_at q ls)
texts_cons q path v ls = go (bytes_eq path q)
  where
    rest : List (List ℕ × Value)
    rest = filter (λ l. bytes_eq l.0 q) ls

    go : (b : Bool) → filter_map (λ l. leaf_text l.1) (cond b ((path, v) ∷ rest) rest) ≡ cond b (cons_option (leaf_text v) (texts_at q ls)) (texts_at q ls)
    go true = refl
    go false = refl

-- there are none on a path with a zero
no_texts : (q : List ℕ) (ls : List (List ℕ × Value)) → HaveCleanPaths ls → has_zero q ≡ true → texts_at q ls ≡ []
no_texts q [] clean zero = refl
no_texts q ((path, v) ∷ ls) clean zero =
    texts_cons q path v ls
    ∙ ap (λ b. cond b (cons_option (leaf_text v) (texts_at q ls)) (texts_at q ls)) (unequal path q (λ same. true≢false (sym zero ∙ ap has_zero (sym same) ∙ clean.0)))
    ∙ no_texts q ls clean.1 zero

-- nor on a path where no text stands
absent_texts : (q : List ℕ) (ls : List (List ℕ × Value)) → list_any (bytes_eq q) (map (λ l. l.0) (filter (λ l. is_text_leaf l.1) ls)) ≡ false → texts_at q ls ≡ []
absent_texts q [] absent = refl
absent_texts q ((path, v) ∷ ls) absent = texts_cons q path v ls ∙ go (leaf_text v) (bytes_eq path q) refl absent (absent_texts q ls)
  where
    rest : List (List ℕ)
    rest = map (λ l. l.0) (filter (λ l. is_text_leaf l.1) ls)

    second : (a b : Bool) → (a || b) ≡ false → b ≡ false
    second false b h = h
    second true b h = cc

    first : (a b : Bool) → (a || b) ≡ false → a ≡ false
    first false b h = refl
    first true b h = cc

    go : (o : Option (List ℕ)) (b : Bool) → bytes_eq path q ≡ b → list_any (bytes_eq q) (map (λ (l : List ℕ × Value). l.0) (cond (is_some o) ((path, v) ∷ filter (λ l. is_text_leaf l.1) ls) (filter (λ l. is_text_leaf l.1) ls))) ≡ false → (list_any (bytes_eq q) rest ≡ false → texts_at q ls ≡ []) → cond b (cons_option o (texts_at q ls)) (texts_at q ls) ≡ []
    go None true same gone ih = ih gone
    go None false other gone ih = ih gone
    go (Some s) true same gone ih = absurd (true≢false (sym (itself q) ∙ ap (bytes_eq q) (sym ((bytes_eq-Decides path q).0 same)) ∙ first (bytes_eq q path) (list_any (bytes_eq q) rest) gone))
    go (Some s) false other gone ih = ih (second (bytes_eq q path) (list_any (bytes_eq q) rest) gone)

-- ---- leaves that are no texts

-- whether bytes begin with the code of texts
abbrev begins : Option (List ℕ) → Bool
begins o = option_map_or (λ leaf. bytes_eq (take 1 leaf) (codes "s")) o false

-- theirs don't
not_begins : (v : Value) → leaf_text v ≡ None → begins (leaf_bytes v) ≡ false
not_begins (str s) none = cc
not_begins (u64 n) none = go (nat_lt n (2 ^ 63))
  where
    go : (b : Bool) → begins (option_and_then (λ (p : Kind × Value). option_map (λ payload. type_code p.0 ++ payload) (value_bytes p.0 p.1)) (Some (if b then (i64_kind, i64 (pos n)) else (u64_kind, u64 n)))) ≡ false
    go true = refl
    go false = refl
not_begins null none = refl
not_begins (pre_tok_str s ts) none = refl
not_begins (i64 z) none = refl
not_begins (bool b) none = refl
not_begins (date z) none = refl
not_begins (facet steps) none = refl
not_begins (bytes bs) none = refl
not_begins (ip_addr n) none = refl
not_begins (array vs) none = refl
not_begins (object ms) none = refl

not_text : (v : Value) (leaf : List ℕ) → leaf_text v ≡ None → leaf_bytes v ≡ Some leaf → bytes_eq (take 1 leaf) (codes "s") ≡ false
not_text v leaf none is = sym (ap begins is) ∙ not_begins v none

-- ---- the positions of a term

module _ (analyze : Analyzer) (field : ℕ) (e : Entry) (t : List ℕ) where
  -- the term's path
  abbrev q : List ℕ
  q = path_in t

  abbrev tokens : List ℕ → List Token
  tokens s = kept (analyze e.tokenizer s)

  -- the first bytes of the texts on a path
  abbrev prefix : List ℕ → List ℕ
  prefix path = json_term field path (type_code text_kind)

  -- a token's term on the path
  abbrev made : List ℕ → List ℕ × ℕ → Placed
  made path p = (json_term field path (type_code text_kind ++ p.0), p.1)

  -- the steps of a leaf, from its text and its bytes
  abbrev leaf_by : Option (List ℕ) → Option (List ℕ) → List ℕ → List Step
  leaf_by o leaf path = option_map_or (λ s. path_step field path (tokens s) ∷ []) o (term_steps (option_map (λ (p : Placed). p.0) (if is_some o then None else option_map (λ l. (json_term field path l, 0)) leaf)))

  -- its term, from the same
  abbrev term_by : Option (List ℕ) → Option (List ℕ) → List ℕ → Option Placed
  term_by o leaf path = if is_some o then None else option_map (λ l. (json_term field path l, 0)) leaf

  abbrev steps : List (List ℕ × Value) → List Step
  steps ls = leaves_steps analyze field e.tokenizer ls

  -- the positions that texts on the term's path give
  abbrev text_positions : ℕ → List (List ℕ) → List ℕ
  text_positions n texts = at t (map (made q) (places_from 1 n (map tokens texts)))

  other_paths : (path text : List ℕ) → has_zero path ≡ false → bytes_eq path q ≡ false → prefix path ++ text ≢ t
  other_paths path text clean other is = true≢false (sym (itself q) ∙ ap (λ p. bytes_eq p q) (sym (path_is field path (type_code text_kind ++ text) t clean (sym (leaf-append field path (type_code text_kind) text) ∙ is))) ∙ other)

  other_prefix : (path : List ℕ) → has_zero path ≡ false → bytes_eq path q ≡ false → bytes_eq (prefix path) (prefix q) ≡ false
  other_prefix path clean other = unequal (prefix path) (prefix q) (λ is. true≢false (sym (itself q) ∙ ap (λ p. bytes_eq p q) (path_is field q (type_code text_kind) (prefix q) (before_clean (payload_of t)) refl ∙ sym (path_is field path (type_code text_kind) (prefix q) clean is)) ∙ other))

  tokens_at : (path : List ℕ) (start : ℕ) (ts : List Token) → map {B = Placed} (λ (k : Token). (prefix path ++ k.text, start + k.position)) ts ≡ map {B = Placed} (made path) (map {B = List ℕ × ℕ} (λ (k : Token). (k.text, start + k.position)) ts)
  tokens_at path start ts = tokens_shifted (λ text. json_term field path (type_code text_kind ++ text)) (prefix path) (leaf-append field path (type_code text_kind)) start ts

  -- a text's term is this one only where the term is a text's
  abbrev IsText : Type 0
  IsText = bytes_eq (take 1 (leaf_in t)) (codes "s") ≡ true

  text_shaped : (path text : List ℕ) → has_zero path ≡ false → json_term field path (type_code text_kind ++ text) ≡ t → IsText
  text_shaped path text clean is = ap (λ bs. bytes_eq (take 1 bs) (codes "s")) (sym (leaf_is field path (type_code text_kind ++ text) t clean is))

  -- where the term is a text's
  module _ (is_text : IsText) where
    other_leaf : (path leaf : List ℕ) → has_zero path ≡ false → bytes_eq (take 1 leaf) (codes "s") ≡ false → bytes_eq (json_term field path leaf) t ≡ false
    other_leaf path leaf clean plain = unequal (json_term field path leaf) t (λ is. true≢false (sym is_text ∙ ap (λ bs. bytes_eq (take 1 bs) (codes "s")) (sym (leaf_is field path leaf t clean is)) ∙ plain))

    alone_other : (u : List ℕ) (ps : List Placed) → bytes_eq u t ≡ false → at t ((u, 0) ∷ ps) ≡ at t ps
    alone_other u ps other = ap (λ b. map (λ (p : Placed). p.1) (cond b ((u, 0) ∷ filter (λ p. bytes_eq p.0 t) ps) (filter (λ p. bytes_eq p.0 t) ps))) other

    texts_run_at : (starts : Starts) (ls : List (List ℕ × Value)) → HaveCleanPaths ls → at t (run_terms starts (steps ls)) ≡ text_positions (starts (prefix q)) (texts_at q ls)
    texts_run_at starts [] clean = refl
    texts_run_at starts ((path, v) ∷ ls) clean = go (λ st. texts_run_at st ls clean.1) (bytes_eq path q) refl (leaf_text v) refl (leaf_bytes v) refl ∙ ap (text_positions (starts (prefix q))) (sym (texts_cons q path v ls))
      where
        rest : List (List ℕ)
        rest = texts_at q ls

        go : ((st : Starts) → at t (run_terms st (steps ls)) ≡ text_positions (st (prefix q)) rest) → (b : Bool) → bytes_eq path q ≡ b → (o : Option (List ℕ)) → leaf_text v ≡ o → (leaf : Option (List ℕ)) → leaf_bytes v ≡ leaf → at t (run_terms starts (leaf_by o leaf path ++ steps ls)) ≡ text_positions (starts (prefix q)) (cond b (cons_option o rest) rest)
        go ih true same (Some s) is leaf bytes_are =
            let onto : path ≡ q = (bytes_eq-Decides path q).0 same in
            let n = starts (prefix q) in
            let next = next_starts starts (path_step field path (tokens s)) in
            let here : List Placed = map (λ (k : Token). (prefix path ++ k.text, starts (prefix path) + k.position)) (tokens s) in
            let first : here ≡ map (made q) (map (λ (k : Token). (k.text, n + k.position)) (tokens s)) = ap (λ p. map {B = Placed} (λ (k : Token). (prefix p ++ k.text, starts (prefix p) + k.position)) (tokens s)) onto ∙ tokens_at q n (tokens s) in
            let after : next (prefix q) ≡ next_start 1 n (tokens s) = ap (λ p. cond (bytes_eq (prefix p) (prefix q)) (next_start 1 n (tokens s)) n) onto ∙ ap (λ b. cond b (next_start 1 n (tokens s)) n) (itself (prefix q)) in
            at-append t here (run_terms next (steps ls))
            ∙ ap₂ (λ ms ns. ms ++ ns) (ap (at t) first) (ih next ∙ ap (λ m. text_positions m rest) after)
            ∙ sym (at-append t (map (made q) (map (λ (k : Token). (k.text, n + k.position)) (tokens s))) (map (made q) (places_from 1 (next_start 1 n (tokens s)) (map tokens rest))))
            ∙ ap (at t) (sym (map-append (made q) (map (λ (k : Token). (k.text, n + k.position)) (tokens s)) (places_from 1 (next_start 1 n (tokens s)) (map tokens rest))))
        go ih false other (Some s) is leaf bytes_are =
            let next = next_starts starts (path_step field path (tokens s)) in
            let here : List Placed = map (λ (k : Token). (prefix path ++ k.text, starts (prefix path) + k.position)) (tokens s) in
            at-append t here (run_terms next (steps ls))
            ∙ ap (λ ms. ms ++ at t (run_terms next (steps ls))) (none_map t (λ (k : Token). (prefix path ++ k.text, starts (prefix path) + k.position)) (λ k. unequal (prefix path ++ k.text) t (other_paths path k.text clean.0 other)) (tokens s))
            ∙ ih next
            ∙ ap (λ b. text_positions (cond b (next_start 1 (starts (prefix q)) (tokens s)) (starts (prefix q))) rest) (other_prefix path clean.0 other)
        go ih true same None is None bytes_are = ih starts
        go ih false other None is None bytes_are = ih starts
        go ih true same None is (Some leaf) bytes_are = alone_other (json_term field path leaf) (run_terms starts (steps ls)) (other_leaf path leaf clean.0 (not_text v leaf is bytes_are)) ∙ ih starts
        go ih false other None is (Some leaf) bytes_are = alone_other (json_term field path leaf) (run_terms starts (steps ls)) (other_leaf path leaf clean.0 (not_text v leaf is bytes_are)) ∙ ih starts

    -- no other leaf gives it
    no_leaf : (ls : List (List ℕ × Value)) → HaveCleanPaths ls → at t (filter_map (leaf_term field) ls) ≡ []
    no_leaf [] clean = refl
    no_leaf ((path, v) ∷ ls) clean = go (no_leaf ls clean.1) (leaf_text v) refl (leaf_bytes v) refl
      where
        rest : List Placed
        rest = filter_map (leaf_term field) ls

        go : at t rest ≡ [] → (o : Option (List ℕ)) → leaf_text v ≡ o → (leaf : Option (List ℕ)) → leaf_bytes v ≡ leaf → at t (cons_option (term_by o leaf path) rest) ≡ []
        go ih (Some s) is leaf bytes_are = ih
        go ih None is None bytes_are = ih
        go ih None is (Some leaf) bytes_are = alone_other (json_term field path leaf) rest (other_leaf path leaf clean.0 (not_text v leaf is bytes_are)) ∙ ih

  -- where it isn't
  module _ (no_text : IsText → ⊥) where
    other_text : (path text : List ℕ) → has_zero path ≡ false → bytes_eq (json_term field path (type_code text_kind ++ text)) t ≡ false
    other_text path text clean = unequal (json_term field path (type_code text_kind ++ text)) t (λ is. no_text (text_shaped path text clean is))

    leaves_run_at : (starts : Starts) (ls : List (List ℕ × Value)) → HaveCleanPaths ls → at t (run_terms starts (steps ls)) ≡ at t (filter_map (leaf_term field) ls)
    leaves_run_at starts [] clean = refl
    leaves_run_at starts ((path, v) ∷ ls) clean = go (λ st. leaves_run_at st ls clean.1) (leaf_text v) (leaf_bytes v)
      where
        rest : List Placed
        rest = filter_map (leaf_term field) ls

        go : ((st : Starts) → at t (run_terms st (steps ls)) ≡ at t rest) → (o leaf : Option (List ℕ)) → at t (run_terms starts (leaf_by o leaf path ++ steps ls)) ≡ at t (cons_option (term_by o leaf path) rest)
        go ih (Some s) leaf =
            let next = next_starts starts (path_step field path (tokens s)) in
            let here : List Placed = map (λ (k : Token). (prefix path ++ k.text, starts (prefix path) + k.position)) (tokens s) in
            at-append t here (run_terms next (steps ls))
            ∙ ap (λ ms. ms ++ at t (run_terms next (steps ls))) (none_map t (λ (k : Token). (prefix path ++ k.text, starts (prefix path) + k.position)) (λ k. ap (λ u. bytes_eq u t) (leaf-append field path (type_code text_kind) k.text) ∙ other_text path k.text clean.0) (tokens s))
            ∙ ih next
        go ih None None = ih starts
        go ih None (Some leaf) =
            at-append t ((json_term field path leaf, 0) ∷ []) (run_terms starts (steps ls))
            ∙ ap (λ ns. at t ((json_term field path leaf, 0) ∷ []) ++ ns) (ih starts)
            ∙ sym (at-append t ((json_term field path leaf, 0) ∷ []) rest)

  -- ---- all leaves

  module _ (ls : List (List ℕ × Value)) (clean : HaveCleanPaths ls) where
    -- a path whose texts don't give the term
    no_path : (path : List ℕ) → (has_zero path ≡ false → (text : List ℕ) → bytes_eq (json_term field path (type_code text_kind ++ text)) t ≡ false) → at t (path_terms analyze field e ls path) ≡ []
    no_path path other = go (has_zero path) refl
      where
        go : (b : Bool) → has_zero path ≡ b → at t (path_terms analyze field e ls path) ≡ []
        go true zero = ap (λ texts. at t (map (made path) (places 1 (map tokens texts)))) (no_texts path ls clean zero)
        go false none = none_map t (made path) (λ p. other none p.0) (places 1 (map tokens (texts_at path ls)))

    -- each path's share of the term
    path_share : (path : List ℕ) → at t (path_terms analyze field e ls path) ≡ share q (at t (path_terms analyze field e ls q)) path
    path_share path = go (bytes_eq q path) refl
      where
        go : (b : Bool) → bytes_eq q path ≡ b → at t (path_terms analyze field e ls path) ≡ cond b (at t (path_terms analyze field e ls q)) []
        go true same = ap (λ p. at t (path_terms analyze field e ls p)) (sym ((bytes_eq-Decides q path).0 same))
        go false other = no_path path (λ none text. unequal (json_term field path (type_code text_kind ++ text)) t (λ is. true≢false (sym (itself q) ∙ ap (bytes_eq q) (sym (path_is field path (type_code text_kind ++ text) t none is)) ∙ other)))

    shares : (paths : List (List ℕ)) → at t (flat_map (path_terms analyze field e ls) paths) ≡ flat_map (share q (at t (path_terms analyze field e ls q))) paths
    shares [] = refl
    shares (path ∷ paths) = at-append t (path_terms analyze field e ls path) (flat_map (path_terms analyze field e ls) paths) ∙ ap₂ (λ ms ns. ms ++ ns) (path_share path) (shares paths)

    -- the texts on all paths give what those on the term's do
    own_path : at t (flat_map (path_terms analyze field e ls) (text_paths ls)) ≡ at t (path_terms analyze field e ls q)
    own_path = shares (text_paths ls) ∙ once_share q (at t (path_terms analyze field e ls q)) paths ∙ go (list_any (bytes_eq q) paths) refl
      where
        paths : List (List ℕ)
        paths = map (λ l. l.0) (filter (λ l. is_text_leaf l.1) ls)

        go : (b : Bool) → list_any (bytes_eq q) paths ≡ b → cond b (at t (path_terms analyze field e ls q)) [] ≡ at t (path_terms analyze field e ls q)
        go true there = refl
        go false absent = sym (ap (λ texts. at t (map (made q) (places 1 (map tokens texts)))) (absent_texts q ls absent))

    pub json_run : (starts : Starts) → starts (prefix q) ≡ 0 → at t (run_terms starts (steps ls)) ≡ at t (leaves_terms analyze field e ls)
    json_run starts first = go (bytes_eq (take 1 (leaf_in t)) (codes "s")) refl ∙ sym (at-append t texts (filter_map (leaf_term field) ls))
      where
        texts : List Placed
        texts = flat_map (path_terms analyze field e ls) (text_paths ls)

        go : (b : Bool) → bytes_eq (take 1 (leaf_in t)) (codes "s") ≡ b → at t (run_terms starts (steps ls)) ≡ at t texts ++ at t (filter_map (leaf_term field) ls)
        go true is =
            texts_run_at is starts ls clean
            ∙ ap (λ n. text_positions n (texts_at q ls)) first
            ∙ sym own_path
            ∙ sym (append-nil (at t texts))
            ∙ ap (λ ns. at t texts ++ ns) (sym (no_leaf is ls clean))
        go false is =
            let no_text : IsText → ⊥ = λ text. true≢false (sym text ∙ is) in
            leaves_run_at no_text starts ls clean
            ∙ ap (λ ms. ms ++ at t (filter_map (leaf_term field) ls)) (sym (own_path ∙ no_path q (λ none text. other_text no_text q text none)))
