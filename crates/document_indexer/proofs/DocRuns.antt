-- A document has the terms that its steps give, each at the same positions.
use Rattle.std.proofs.Common.{[], ◌++◌, ◌+◌, ◌<◌, ◌==◌, ◌^◌, ◌≡◌, ◌≢◌, ◌≤◌, ◌∙◌, ◌∷◌, Bool, List, None, Option, Some, ap, append-nil, ap₂, arith, cond, false, filter, flat_map, if◌then◌else◌, is_some, length, map, option_map, refl, slice_get, suc, sym, take, true, zero, ℕ}
use Rattle.std.specs.List.{AllByRecursion, enumerate_from, range_with_len}
use Rattle.std.specs.Option.{option_map_or}
use Rattle.std.proofs.lemmas.Bool.Decides.{nat_tests}
use Rattle.std.proofs.lemmas.Grind.{flat_map-append}
use Rattle.std.proofs.lemmas.Option.{slice_get_within}
use Rattle.definitions.proofs.Lists.{all_append}
use Rattle.definitions.proofs.TermsReadBack.{term-append}
use Rattle.definitions.specs.Analyzers.{Analyzer, kept, tokens_of}
use Rattle.definitions.specs.Facets.{encoded}
use Rattle.definitions.specs.Indexing.{Placed, field_terms, kind_terms}
use Rattle.definitions.specs.JsonLeaves.{leaf_text, leaves}
use Rattle.definitions.specs.Recorded.{occurrences}
use Rattle.definitions.specs.Schema.{Entry, Kind, Schema, bool_kind, bytes_kind, date_kind, facet_kind, gap_of, i64_kind, ip_addr_kind, is_indexed, json_kind, max_fields, text_kind, u64_kind}
use Rattle.definitions.specs.Terms.{field_of, json_term, leaf_bytes, term_bytes, type_code, value_bytes}
use Rattle.definitions.specs.Values.{Document, Token, Value, array, bool, bytes, date, facet, i64, ip_addr, null, object, pre_tok_str, str, u64, values_of}
use Rattle.terms.proofs.TermParts.{field_of-term}
use Rattle.document_indexer.specs.Runs.{no_starts, run_terms}
use Rattle.document_indexer.specs.Steps.{Step, entry_steps, facet_steps, kind_steps, leaf_steps, path_step, steps_of, term_step, term_steps, text_step, value_steps}
use Rattle.document_indexer.proofs.CleanPaths.{HaveCleanPaths, clean_append, leaves_clean}
use Rattle.document_indexer.proofs.JsonRuns.{json_run}
use Rattle.document_indexer.proofs.KindRuns.{facet_run, text_run, value_run}
use Rattle.document_indexer.proofs.PathTerms.{leaf-append}
use Rattle.document_indexer.proofs.TermPositions.{IsForeign, at, at-append, foreign_run, left_out}

all_flat_map : {X Y : Type 0} (P : Y → Type 0) (f : X → List Y) → ((x : X) → AllByRecursion P (f x)) → (xs : List X) → AllByRecursion P (flat_map f xs)
all_flat_map P f each [] = tt
all_flat_map P f each (x ∷ xs) = all_append P (f x) (flat_map f xs) (each x) (all_flat_map P f each xs)

all_map : {X Y : Type 0} (P : Y → Type 0) (f : X → Y) → ((x : X) → P (f x)) → (xs : List X) → AllByRecursion P (map f xs)
all_map P f each [] = tt
all_map P f each (x ∷ xs) = (each x, all_map P f each xs)

flat_map_twice : {X Y Z : Type 0} (g : Y → List Z) (h : X → List Y) (xs : List X) → flat_map (λ x. flat_map g (h x)) xs ≡ flat_map g (flat_map h xs)
flat_map_twice g h [] = refl
flat_map_twice g h (x ∷ xs) = ap (λ zs. flat_map g (h x) ++ zs) (flat_map_twice g h xs) ∙ sym (flat_map-append g (h x) (flat_map h xs))

-- no step of any value
abbrev none : Value → List Step
none v = []

flat_map_none : (vs : List Value) → flat_map none vs ≡ []
flat_map_none [] = refl
flat_map_none (x ∷ xs) = flat_map_none xs

values_clean : (dots : Bool) (vs : List Value) → HaveCleanPaths (flat_map (leaves dots []) vs)
values_clean dots [] = tt
values_clean dots (v ∷ vs) = clean_append (leaves dots [] v) (flat_map (leaves dots []) vs) (leaves_clean dots [] v tt) (values_clean dots vs)

module _ (analyze : Analyzer) (t : List ℕ) where
  -- ---- the values of one field

  -- the values of a field of each kind
  kind_run : (kind : Kind) (field : ℕ) (e : Entry) (vs : List Value) → at t (run_terms no_starts (flat_map (kind_steps kind analyze field e) vs)) ≡ at t (kind_terms kind analyze field e vs)
  kind_run text_kind field e vs = ap (at t) (text_run analyze field e no_starts vs refl)
  kind_run u64_kind field e vs = ap (at t) (value_run field u64_kind no_starts vs)
  kind_run i64_kind field e vs = ap (at t) (value_run field i64_kind no_starts vs)
  kind_run bool_kind field e vs = ap (at t) (value_run field bool_kind no_starts vs)
  kind_run date_kind field e vs = ap (at t) (value_run field date_kind no_starts vs)
  kind_run facet_kind field e vs = ap (at t) (facet_run field no_starts vs)
  kind_run bytes_kind field e vs = ap (at t) (value_run field bytes_kind no_starts vs)
  kind_run json_kind field e vs = ap (λ ss. at t (run_terms no_starts ss)) (flat_map_twice (leaf_steps analyze field e.tokenizer) (leaves e.expand_dots []) vs) ∙ json_run analyze field e t (flat_map (leaves e.expand_dots []) vs) (values_clean e.expand_dots vs) no_starts refl
  kind_run ip_addr_kind field e vs = ap (at t) (value_run field ip_addr_kind no_starts vs)

  -- those of another field give others
  module _ (n : ℕ) (fits : n < 2 ^ 32) (apart : n ≢ field_of t) where
    other_term : (kind : Kind) (key : List ℕ) → term_bytes n kind key ≢ t
    other_term kind key is = apart (sym (field_of-term n kind key fits) ∙ ap field_of is)

    found_foreign : (kind : Kind) (o : Option (List ℕ)) → AllByRecursion (IsForeign t) (term_steps (option_map (term_bytes n kind) o))
    found_foreign kind None = tt
    found_foreign kind (Some payload) = (other_term kind payload, tt)

    text_foreign : (e : Entry) (o : Option (List Token)) → AllByRecursion (IsForeign t) (option_map_or (λ ts. text_step (term_bytes n text_kind []) (gap_of e) ts ∷ []) o [])
    text_foreign e None = tt
    text_foreign e (Some ts) = (λ text is. other_term text_kind text (sym (term-append n text_kind [] text) ∙ is), tt)

    leaf_foreign : (tokenizer : List ℕ) (l : List ℕ × Value) → AllByRecursion (IsForeign t) (leaf_steps analyze n tokenizer l)
    leaf_foreign tokenizer (path, v) = go (leaf_text v) (leaf_bytes v)
      where
        go : (o leaf : Option (List ℕ)) → AllByRecursion (IsForeign t) (option_map_or (λ s. path_step n path (kept (analyze tokenizer s)) ∷ []) o (term_steps (option_map (λ (p : Placed). p.0) (if is_some o then None else option_map (λ l. (json_term n path l, 0)) leaf))))
        go (Some s) leaf = (λ text is. other_term json_kind (path ++ 0 ∷ (type_code text_kind ++ text)) (sym (leaf-append n path (type_code text_kind) text) ∙ is), tt)
        go None None = tt
        go None (Some leaf) = (other_term json_kind (path ++ 0 ∷ leaf), tt)

    facet_foreign : (v : Value) → AllByRecursion (IsForeign t) (facet_steps n v)
    facet_foreign (facet steps) = all_map (IsForeign t) (λ k. term_step (term_bytes n facet_kind (encoded (take k steps)))) (λ k. other_term facet_kind (encoded (take k steps))) (range_with_len 0 (length steps + 1))
    facet_foreign null = tt
    facet_foreign (str s) = tt
    facet_foreign (pre_tok_str s ts) = tt
    facet_foreign (u64 m) = tt
    facet_foreign (i64 z) = tt
    facet_foreign (bool b) = tt
    facet_foreign (date z) = tt
    facet_foreign (bytes bs) = tt
    facet_foreign (ip_addr m) = tt
    facet_foreign (array ws) = tt
    facet_foreign (object ms) = tt

    kind_foreign : (kind : Kind) (e : Entry) (v : Value) → AllByRecursion (IsForeign t) (kind_steps kind analyze n e v)
    kind_foreign text_kind e v = text_foreign e (tokens_of analyze e.tokenizer v)
    kind_foreign u64_kind e v = found_foreign u64_kind (value_bytes u64_kind v)
    kind_foreign i64_kind e v = found_foreign i64_kind (value_bytes i64_kind v)
    kind_foreign bool_kind e v = found_foreign bool_kind (value_bytes bool_kind v)
    kind_foreign date_kind e v = found_foreign date_kind (value_bytes date_kind v)
    kind_foreign facet_kind e v = facet_foreign v
    kind_foreign bytes_kind e v = found_foreign bytes_kind (value_bytes bytes_kind v)
    kind_foreign json_kind e v = all_flat_map (IsForeign t) (leaf_steps analyze n e.tokenizer) (leaf_foreign e.tokenizer) (leaves e.expand_dots [] v)
    kind_foreign ip_addr_kind e v = found_foreign ip_addr_kind (value_bytes ip_addr_kind v)

    entry_foreign : (e : Entry) (v : Value) → AllByRecursion (IsForeign t) (entry_steps analyze n e v)
    entry_foreign e v = go (is_indexed e)
      where
        go : (b : Bool) → AllByRecursion (IsForeign t) (if b then kind_steps e.kind analyze n e v else [])
        go true = kind_foreign e.kind e v
        go false = tt

    -- the terms of another field
    other_field : (doc : Document) (e : Entry) → at t (field_terms analyze doc (n, e)) ≡ []
    other_field doc e = go (is_indexed e)
      where
        go : (b : Bool) → at t (if b then kind_terms e.kind analyze n e (values_of n doc) else []) ≡ []
        go true = sym (kind_run e.kind n e (values_of n doc)) ∙ foreign_run t no_starts (flat_map (kind_steps e.kind analyze n e) (values_of n doc)) (all_flat_map (IsForeign t) (kind_steps e.kind analyze n e) (kind_foreign e.kind e) (values_of n doc))
        go false = refl

  -- ---- the terms of all fields

  abbrev f : ℕ
  f = field_of t

  fields_passed : (doc : Document) (n : ℕ) (es : Schema) → f < n → n + length es ≤ max_fields → at t (flat_map (field_terms analyze doc) (enumerate_from n es)) ≡ []
  fields_passed doc n [] past few = refl
  fields_passed doc n (e ∷ es) past few =
      at-append t (field_terms analyze doc (n, e)) (flat_map (field_terms analyze doc) (enumerate_from (n + 1) es))
      ∙ ap₂ (λ ms ns. ms ++ ns) (other_field n (omega arith) (λ same. absurd (omega arith)) doc e) (fields_passed doc (n + 1) es (omega arith) (omega arith))

  own_field : (doc : Document) (n j : ℕ) (es : Schema) → f ≡ n + j → n + length es ≤ max_fields → at t (flat_map (field_terms analyze doc) (enumerate_from n es)) ≡ option_map_or (λ e. at t (field_terms analyze doc (f, e))) (slice_get es j) []
  own_field doc n j [] is few = refl
  own_field doc n zero (e ∷ es) is few =
      let here : f ≡ n = omega arith in
      at-append t (field_terms analyze doc (n, e)) (flat_map (field_terms analyze doc) (enumerate_from (n + 1) es))
      ∙ ap (λ ns. at t (field_terms analyze doc (n, e)) ++ ns) (fields_passed doc (n + 1) es (omega arith) (omega arith))
      ∙ append-nil (at t (field_terms analyze doc (n, e)))
      ∙ ap (λ m. at t (field_terms analyze doc (m, e))) (sym here)
  own_field doc n (suc j) (e ∷ es) is few =
      at-append t (field_terms analyze doc (n, e)) (flat_map (field_terms analyze doc) (enumerate_from (n + 1) es))
      ∙ ap₂ (λ ms ns. ms ++ ns) (other_field n (omega arith) (λ same. absurd (omega arith)) doc e) (own_field doc (n + 1) j es (omega arith) (omega arith))

  -- ---- the steps of all values

  -- the steps of one field's values
  own_values : (schema : Schema) (doc : Document) → flat_map (value_steps schema analyze) (filter (λ p. p.0 == f) doc) ≡ flat_map (λ v. option_map_or (λ e. entry_steps analyze f e v) (slice_get schema f) []) (values_of f doc)
  own_values schema [] = refl
  own_values schema (p ∷ doc) = go (p.0 == f) refl (own_values schema doc)
    where
      rest : Document
      rest = filter (λ p. p.0 == f) doc

      steps : Value → List Step
      steps v = option_map_or (λ e. entry_steps analyze f e v) (slice_get schema f) []

      go : (b : Bool) → (p.0 == f) ≡ b → flat_map (value_steps schema analyze) rest ≡ flat_map steps (values_of f doc) → flat_map (value_steps schema analyze) (cond b (p ∷ rest) rest) ≡ flat_map steps (map (λ (q : ℕ × Value). q.1) (cond b (p ∷ rest) rest))
      go true same ih =
          let is : p.0 ≡ f = grind (arith, nat_tests) in
          ap₂ (λ xs ys. xs ++ ys) (ap (λ n. option_map_or (λ e. entry_steps analyze n e p.1) (slice_get schema n) []) is) ih
      go false other ih = ih

  -- a value of another field
  value_foreign : (schema : Schema) → length schema ≤ max_fields → (p : ℕ × Value) → (p.0 == f) ≡ false → AllByRecursion (IsForeign t) (value_steps schema analyze p)
  value_foreign schema few p other = go (slice_get schema p.0) refl
    where
      go : (o : Option Entry) → slice_get schema p.0 ≡ o → AllByRecursion (IsForeign t) (option_map_or (λ e. entry_steps analyze p.0 e p.1) o [])
      go None is = tt
      go (Some e) is =
          let within = slice_get_within schema p.0 e is in
          let apart : p.0 ≢ f = grind (arith, nat_tests) in
          entry_foreign p.0 (omega arith) apart e p.1

  -- the positions of a term in a document are those that its steps give
  pub doc_run : (schema : Schema) → length schema ≤ max_fields → (doc : Document) → at t (run_terms no_starts (steps_of schema analyze doc)) ≡ occurrences schema analyze t doc
  doc_run schema few doc =
      left_out t (value_steps schema analyze) (λ p. p.0 == f) (value_foreign schema few) no_starts no_starts (λ prefix text is. refl) doc
      ∙ ap (λ ss. at t (run_terms no_starts ss)) (own_values schema doc)
      ∙ go (slice_get schema f)
      ∙ sym (own_field doc 0 f schema (omega arith) (omega arith))
    where
      vs : List Value
      vs = values_of f doc

      indexed : (e : Entry) (b : Bool) → at t (run_terms no_starts (flat_map (λ v. if b then kind_steps e.kind analyze f e v else []) vs)) ≡ at t (if b then kind_terms e.kind analyze f e vs else [])
      indexed e true = kind_run e.kind f e vs
      indexed e false = ap (λ ss. at t (run_terms no_starts ss)) (flat_map_none vs)

      go : (o : Option Entry) → at t (run_terms no_starts (flat_map (λ v. option_map_or (λ e. entry_steps analyze f e v) o []) vs)) ≡ option_map_or (λ e. at t (field_terms analyze doc (f, e))) o []
      go None = ap (λ ss. at t (run_terms no_starts ss)) (flat_map_none vs)
      go (Some e) = indexed e (is_indexed e)
