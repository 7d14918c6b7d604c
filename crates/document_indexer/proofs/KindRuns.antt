-- The terms of a field's values, as its steps give them.
use Rattle.std.proofs.Common.{[], ◌++◌, ◌+◌, ◌≡◌, ◌∙◌, ◌∷◌, List, None, Option, Some, ap, ap₂, cond, filter_map, flat_map, length, map, option_map, refl, sym, take, ℕ}
use Rattle.std.specs.List.{cons_option, range_with_len}
use Rattle.std.specs.Option.{option_map_or}
use Rattle.std.proofs.lemmas.List.{map-append}
use Rattle.definitions.proofs.TermsReadBack.{term-append}
use Rattle.definitions.specs.Analyzers.{Analyzer, tokens_of}
use Rattle.definitions.specs.Facets.{encoded}
use Rattle.definitions.specs.Indexing.{Placed, facet_terms, value_terms}
use Rattle.definitions.specs.Indexing as indexing
use Rattle.definitions.specs.Places.{next_start, places_from}
use Rattle.definitions.specs.Schema.{Entry, Kind, facet_kind, gap_of, text_kind}
use Rattle.definitions.specs.Terms.{term_bytes, value_bytes}
use Rattle.definitions.specs.Values.{Token, Value, array, bool, bytes, date, facet, i64, ip_addr, null, object, pre_tok_str, str, u64}
use Rattle.document_indexer.specs.Runs.{Starts, next_starts, run_terms}
use Rattle.document_indexer.specs.Steps.{Step, facet_steps, term_step, term_steps, text_step, text_steps}
use Rattle.document_indexer.proofs.TermPositions.{itself}

-- tokens behind first bytes, made into terms
pub tokens_shifted : (make : List ℕ → List ℕ) (prefix : List ℕ) → ((text : List ℕ) → prefix ++ text ≡ make text) → (start : ℕ) (ts : List Token) → map {B = Placed} (λ (t : Token). (prefix ++ t.text, start + t.position)) ts ≡ map {B = Placed} (λ (p : List ℕ × ℕ). (make p.0, p.1)) (map {B = List ℕ × ℕ} (λ (t : Token). (t.text, start + t.position)) ts)
tokens_shifted make prefix is start [] = refl
tokens_shifted make prefix is start (t ∷ ts) = ap₂ (λ b ps. (b, start + t.position) ∷ ps) (is t.text) (tokens_shifted make prefix is start ts)

-- texts behind the same first bytes follow each other
pub texts_run : {X : Type 0} (make : List ℕ → List ℕ) (prefix : List ℕ) (gap : ℕ) (tokens : X → Option (List Token)) → ((text : List ℕ) → prefix ++ text ≡ make text) → (starts : Starts) (xs : List X) → run_terms starts (flat_map (λ x. option_map_or (λ ts. text_step prefix gap ts ∷ []) (tokens x) []) xs) ≡ map (λ (p : List ℕ × ℕ). (make p.0, p.1)) (places_from gap (starts prefix) (filter_map tokens xs))
texts_run make prefix gap tokens is starts [] = refl
texts_run {X} make prefix gap tokens is starts (x ∷ xs) = go (λ st. texts_run make prefix gap tokens is st xs) (tokens x)
  where
    steps : List X → List Step
    steps ys = flat_map (λ y. option_map_or (λ ts. text_step prefix gap ts ∷ []) (tokens y) []) ys

    made : List ℕ × ℕ → Placed
    made p = (make p.0, p.1)

    go : ((st : Starts) → run_terms st (steps xs) ≡ map made (places_from gap (st prefix) (filter_map tokens xs))) → (o : Option (List Token)) → run_terms starts (option_map_or (λ ts. text_step prefix gap ts ∷ []) o [] ++ steps xs) ≡ map made (places_from gap (starts prefix) (cons_option o (filter_map tokens xs)))
    go ih None = ih starts
    go ih (Some ts) =
        ap₂ (λ ps qs. ps ++ qs)
        (tokens_shifted make prefix is (starts prefix) ts)
        (ih (next_starts starts (text_step prefix gap ts))
        ∙ ap (λ b. map made (places_from gap (cond b (next_start gap (starts prefix) ts) (starts prefix)) (filter_map tokens xs))) (itself prefix))
        ∙ sym (map-append made (map {B = List ℕ × ℕ} (λ (t : Token). (t.text, starts prefix + t.position)) ts) (places_from gap (next_start gap (starts prefix) ts) (filter_map tokens xs)))

-- the values of a text field
pub text_run : (analyze : Analyzer) (field : ℕ) (e : Entry) (starts : Starts) (vs : List Value) → starts (term_bytes field text_kind []) ≡ 0 → run_terms starts (flat_map (text_steps analyze field e) vs) ≡ indexing.text_terms analyze field e vs
text_run analyze field e starts vs first =
    texts_run (term_bytes field text_kind) (term_bytes field text_kind []) (gap_of e) (tokens_of analyze e.tokenizer) (term-append field text_kind []) starts vs
    ∙ ap (λ n. map {B = Placed} (λ (p : List ℕ × ℕ). (term_bytes field text_kind p.0, p.1)) (places_from (gap_of e) n (filter_map (tokens_of analyze e.tokenizer) vs))) first

-- values that have one term at most
pub value_run : (field : ℕ) (kind : Kind) (starts : Starts) (vs : List Value) → run_terms starts (flat_map (λ v. term_steps (option_map (term_bytes field kind) (value_bytes kind v))) vs) ≡ value_terms field kind vs
value_run field kind starts [] = refl
value_run field kind starts (v ∷ vs) = go (value_run field kind starts vs) (value_bytes kind v)
  where
    go : run_terms starts (flat_map (λ v. term_steps (option_map (term_bytes field kind) (value_bytes kind v))) vs) ≡ value_terms field kind vs → (o : Option (List ℕ)) → run_terms starts (term_steps (option_map (term_bytes field kind) o) ++ flat_map (λ v. term_steps (option_map (term_bytes field kind) (value_bytes kind v))) vs) ≡ map (λ payload. (term_bytes field kind payload, 0)) (cons_option o (filter_map (value_bytes kind) vs))
    go ih None = ih
    go ih (Some payload) = ap (λ ps. (term_bytes field kind payload, 0) ∷ ps) ih

-- terms by themselves
terms_alone : (make : ℕ → List ℕ) (starts : Starts) (ns : List ℕ) (rest : List Step) → run_terms starts (map (λ n. term_step (make n)) ns ++ rest) ≡ map (λ n. (make n, 0)) ns ++ run_terms starts rest
terms_alone make starts [] rest = refl
terms_alone make starts (n ∷ ns) rest = ap (λ ps. (make n, 0) ∷ ps) (terms_alone make starts ns rest)

-- facets
pub facet_run : (field : ℕ) (starts : Starts) (vs : List Value) → run_terms starts (flat_map (facet_steps field) vs) ≡ flat_map (facet_terms field) vs
facet_run field starts [] = refl
facet_run field starts (facet steps ∷ vs) =
    terms_alone (λ n. term_bytes field facet_kind (encoded (take n steps))) starts (range_with_len 0 (length steps + 1)) (flat_map (facet_steps field) vs)
    ∙ ap (λ ps. facet_terms field (facet steps) ++ ps) (facet_run field starts vs)
facet_run field starts (null ∷ vs) = facet_run field starts vs
facet_run field starts (str s ∷ vs) = facet_run field starts vs
facet_run field starts (pre_tok_str s ts ∷ vs) = facet_run field starts vs
facet_run field starts (u64 n ∷ vs) = facet_run field starts vs
facet_run field starts (i64 z ∷ vs) = facet_run field starts vs
facet_run field starts (bool b ∷ vs) = facet_run field starts vs
facet_run field starts (date z ∷ vs) = facet_run field starts vs
facet_run field starts (bytes bs ∷ vs) = facet_run field starts vs
facet_run field starts (ip_addr n ∷ vs) = facet_run field starts vs
facet_run field starts (array ws ∷ vs) = facet_run field starts vs
facet_run field starts (object ms ∷ vs) = facet_run field starts vs
