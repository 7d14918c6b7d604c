-- One document more.
use Rattle.std.proofs.Common.{[], ◌++◌, ◌+◌, ◌<◌, ◌==◌, ◌^◌, ◌≡◌, ◌≤◌, ◌∙◌, ◌∷◌, Bool, IfSome, List, None, Option, Some, ap, ap₂, arith, bytes_eq, cond, false, filter, inl, inr, length, map, min, ne_eqb, refl, subst, sym, true, ℕ}
use Rattle.std.specs.Map.{lookup}
use Rattle.std.specs.Option.{option_map_or}
use Rattle.std.proofs.lemmas.List.{length-map, map-append}
use Rattle.std.proofs.lemmas.List.Elements.{filter-append}
use Rattle.definitions.specs.Analyzers.{Analyzer}
use Rattle.definitions.specs.Indexing.{Placed}
use Rattle.definitions.specs.Recorded.{is_recorded, occurrences}
use Rattle.definitions.specs.Schema.{Schema, has_freq, max_fields}
use Rattle.definitions.specs.Values.{Document}
use Rattle.definitions.specs.declared.fault.Fault.{Fault}
use Rattle.layouts.specs.InvertedIndexes.{option_of_term}
use Rattle.postings_writer.specs.Occurrences.{Occurrence, by_document, docs_of, ends_in, last_count, places_of}
use Rattle.document_indexer.specs.Contexts.{AreBefore, Context, HasStarts, Holds, IsRefusal, Positions, Records, Refuses}
use Rattle.document_indexer.specs.Indexed.{AreCountsWithin, HasRecorded, IsAddRefusal, doc_positions, positions_in}
use Rattle.document_indexer.specs.Runs.{AreStepsWithin, no_starts, occurrence_at, occurrences_at, run_terms}
use Rattle.document_indexer.specs.Steps.{steps_of}
use Rattle.document_indexer.proofs.DocRuns.{doc_run}
use Rattle.postings_writer.proofs.KeptCounts.{count_kept}
use Rattle.document_indexer.proofs.Grouping.{last_count_below, one_more, own_count_below, paired, positions_from}
use Rattle.document_indexer.proofs.PostingsOf.{positions, positions_are, recorded}
use Rattle.document_indexer.proofs.TermPositions.{at, at-append}
use Rattle.postings_writer.proofs.Standing.{place_in}

-- where no text of the document stands yet, all begin at 0
pub first_starts : (doc : ℕ) (kept : Positions) → AreBefore doc kept → HasStarts doc kept no_starts
first_starts doc kept before prefix = go (lookup (bytes_eq prefix) kept) (before prefix)
  where
    go : (o : Option (ℕ × ℕ)) → IfSome o (λ p. p.0 < doc) → option_map_or (λ (p : ℕ × ℕ). cond (p.0 == doc) p.1 0) o 0 ≡ min (2 ^ 31) 0
    go None below = omega arith
    go (Some p) below = (let other : (p.0 == doc) ≡ false = ne_eqb p.0 doc (λ same. absurd (omega arith)) in ap (λ b. cond b p.1 0) other ∙ (let e : 0 ≡ min (2 ^ 31) 0 = omega arith in e))

before_next : (doc : ℕ) (kept : Positions) → AreBefore doc kept → AreBefore (doc + 1) kept
before_next doc kept before prefix = go (lookup (bytes_eq prefix) kept) (before prefix)
  where
    go : (o : Option (ℕ × ℕ)) → IfSome o (λ p. p.0 < doc) → IfSome o (λ p. p.0 < doc + 1)
    go None below = tt
    go (Some p) below = omega arith

-- ---- positions

positions-append : (t : List ℕ) (os xs : List Occurrence) → places_of t (os ++ xs) ≡ places_of t os ++ places_of t xs
positions-append t os xs = ap (map place_in) (filter-append (λ (o : Occurrence). bytes_eq o.term t) os xs) ∙ map-append place_in (filter (λ o. bytes_eq o.term t) os) (filter (λ o. bytes_eq o.term t) xs)

-- the positions of a term among a document's
doc_at : (t : List ℕ) (n : ℕ) (ps : List Placed) → places_of t (occurrences_at n ps) ≡ paired (n, at t ps)
doc_at t n [] = refl
doc_at t n (p ∷ ps) = go (bytes_eq p.0 t) (doc_at t n ps)
  where
    rest : List Occurrence
    rest = filter (λ o. bytes_eq o.term t) (occurrences_at n ps)

    left : List Placed
    left = filter (λ p. bytes_eq p.0 t) ps

    go : (b : Bool) → map place_in rest ≡ paired (n, map (λ (p : Placed). p.1) left) → map place_in (cond b (occurrence_at n p ∷ rest) rest) ≡ paired (n, map (λ (p : Placed). p.1) (cond b (p ∷ left) left))
    go true ih = ap (λ qs. (n, p.1) ∷ qs) ih
    go false ih = ih

module _ (schema : Schema) (analyze : Analyzer) (was now : Context) (docs : List Document) (doc : Document) (h : HasRecorded schema analyze was docs) where
  few_fields : length schema ≤ max_fields
  few_fields = h.written.stands.schema_fits

  begun : Holds schema was h.written.os no_starts
  begun = record { stands = h.written.stands; starts_are = first_starts was.doc was.positions h.before }

  -- ---- it was recorded

  positions_more : (t : List ℕ) → places_of t (h.written.os ++ occurrences_at was.doc (run_terms no_starts (steps_of schema analyze doc))) ≡ positions_in schema analyze t (docs ++ doc ∷ [])
  positions_more t =
      positions-append t h.written.os (occurrences_at was.doc (run_terms no_starts (steps_of schema analyze doc)))
      ∙ ap₂ (λ ps qs. ps ++ qs) (h.written.occurrences_are t) (doc_at t was.doc (run_terms no_starts (steps_of schema analyze doc)) ∙ ap₂ (λ n xs. paired (n, xs)) h.count (doc_run analyze t schema few_fields doc))
      ∙ sym (one_more (doc_positions schema analyze t) docs doc)

  length-more : length (docs ++ doc ∷ []) ≡ length docs + 1
  length-more = go docs
    where
      go : (ds : List Document) → length (ds ++ doc ∷ []) ≡ length ds + 1
      go [] = refl
      go (d ∷ ds) = (let ih = go ds in omega arith)

  pub document_more : Records schema was now (steps_of schema analyze doc) → HasRecorded schema analyze (record { writer = now.writer; positions = now.positions; doc = now.doc + 1 }) (docs ++ doc ∷ [])
  document_more r = record {
    written = record {
      os = h.written.os ++ occurrences_at was.doc (run_terms no_starts (steps_of schema analyze doc));
      stands = (r.holds h.written.os no_starts begun).stands;
      occurrences_are = positions_more;
      num_docs_within = (let below = r.next in let count = h.count in let more = length-more in omega arith);
    };
    count = (let same = r.doc in let count = h.count in let more = length-more in omega arith);
    before = (let P : ℕ → Type 0 = λ n. AreBefore (n + 1) now.positions in subst P (sym r.doc) (r.before (before_next was.doc was.positions h.before)));
  }

  pub document_within : Records schema was now (steps_of schema analyze doc) → AreStepsWithin no_starts (steps_of schema analyze doc)
  document_within r = r.within h.written.os no_starts begun

  own_counted : Records schema was now (steps_of schema analyze doc) → (t : List ℕ) → has_freq (option_of_term schema t) ≡ true → length (occurrences schema analyze t doc) < 2 ^ 32
  own_counted r t counted =
      let xss : List (List ℕ) = positions schema analyze t docs in
      let own : List ℕ = occurrences schema analyze t doc in
      let os : List Occurrence = h.written.os ++ occurrences_at was.doc (run_terms no_starts (steps_of schema analyze doc)) in
      let here : places_of t os ≡ positions_from 0 (xss ++ own ∷ []) = positions_more t ∙ positions_are schema analyze t 0 (docs ++ doc ∷ []) ∙ ap (positions_from 0) (map-append (occurrences schema analyze t) docs (doc ∷ [])) in
      let kept = count_kept schema now.writer os t (r.holds h.written.os no_starts begun).stands counted in
      own_count_below (2 ^ 32) xss own (omega arith) (subst (λ ps. last_count (by_document ps) < 2 ^ 32) here kept)

  pub document_counted : Records schema was now (steps_of schema analyze doc) → AreCountsWithin schema analyze doc
  document_counted r t = go (is_recorded has_freq schema t) refl
    where
      go : (b : Bool) → is_recorded has_freq schema t ≡ b → cond b (length (occurrences schema analyze t doc)) 1 < 2 ^ 32
      go true is = own_counted r t (recorded has_freq schema t refl ∙ is)
      go false is = omega arith

  -- ---- it is refused

  part_within : (xs ys zs : List ℕ) → xs ++ ys ≡ zs → length xs ≤ length zs
  part_within xs ys zs is = (let long = ap length is in let both = go xs in omega arith)
    where
      go : (ws : List ℕ) → length (ws ++ ys) ≡ length ws + length ys
      go [] = (let e : length ys ≡ 0 + length ys = omega arith in e)
      go (w ∷ ws) = (let ih = go ws in omega arith)

  -- the count of a part of the document's terms is below the bound that the whole keeps
  counts_below : (t : List ℕ) (some rest : List Placed) → run_terms no_starts (steps_of schema analyze doc) ≡ some ++ rest → length (occurrences schema analyze t doc) < 2 ^ 32 → ends_in was.doc (docs_of (places_of t (h.written.os ++ occurrences_at was.doc some))) ≡ true → last_count (by_document (places_of t (h.written.os ++ occurrences_at was.doc some))) < 2 ^ 32
  counts_below t some rest split counted ends =
      let xs : List ℕ = at t some in
      let xss : List (List ℕ) = positions schema analyze t docs in
      let whole : xs ++ at t rest ≡ occurrences schema analyze t doc = sym (at-append t some rest) ∙ ap (at t) (sym split) ∙ doc_run analyze t schema few_fields doc in
      let last : was.doc ≡ length xss = h.count ∙ sym (length-map docs (occurrences schema analyze t)) in
      let here : places_of t (h.written.os ++ occurrences_at was.doc some) ≡ positions_from 0 (xss ++ xs ∷ []) =
      positions-append t h.written.os (occurrences_at was.doc some)
      ∙ ap₂ (λ ps qs. ps ++ qs) (h.written.occurrences_are t ∙ positions_are schema analyze t 0 docs) (doc_at t was.doc some ∙ ap (λ n. paired (n, xs)) last)
      ∙ sym (one_more paired xss xs) in
      let within = part_within xs (at t rest) (occurrences schema analyze t doc) whole in
      subst (λ ps. last_count (by_document ps) < 2 ^ 32) (sym here) (last_count_below (2 ^ 32) was.doc xss xs last (omega arith) (subst (λ ps. ends_in was.doc (docs_of ps) ≡ true) here ends))

  pub document_refused : (fault : Fault) → Refuses schema was (steps_of schema analyze doc) fault → IsAddRefusal fault schema analyze docs doc
  document_refused fault refused = go (refused h.written.os no_starts begun)
    where
      go : IsRefusal fault h.written.os was.doc no_starts (steps_of schema analyze doc) → IsAddRefusal fault schema analyze docs doc
      go (inl memory) = inl memory
      go (inr (limit, inl past)) = inr (limit, inr (inl past))
      go (inr (limit, inr count)) = inr (limit, inr (inr (λ counted. (let below = counts_below count.term count.before count.after count.split (counted count.term) count.past.0 in let past = count.past.1 in absurd (omega arith)))))
