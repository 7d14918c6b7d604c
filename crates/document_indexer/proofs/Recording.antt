-- Steps that are recorded one after the other.
use Rattle.std.proofs.Common.{[], ◌++◌, ◌+◌, ◌<◌, ◌==◌, ◌^◌, ◌≡◌, ◌≤◌, ◌∙◌, ◌∷◌, Bool, Err, IfErr, IfSome, List, Ok, OnOk, Option, Result, Some, ap, append-nil, append_assoc, arith, bytes_eq, cond, eq-eqb, false, inl, inr, map, min, refl, subst, sym, true, ℕ}
use Rattle.std.specs.Map.{lookup}
use Rattle.std.specs.Option.{option_map_or}
use Rattle.std.proofs.lemmas.List.{map-append}
use Rattle.std.proofs.lemmas.Slice.Eq.{bytes_eq-Decides}
use Rattle.definitions.specs.Indexing.{Placed}
use Rattle.definitions.specs.Places.{next_start}
use Rattle.definitions.specs.Schema.{Kind, Schema}
use Rattle.definitions.specs.Terms.{term_bytes}
use Rattle.definitions.specs.Values.{Token}
use Rattle.definitions.specs.declared.fault.Fault.{Fault}
use Rattle.postings_writer.specs.Occurrences.{Occurrence, PassesCount, places_of}
use Rattle.postings_writer.specs.Recorders.{IsCountRefusal}
use Rattle.postings_writer.specs.Texts.{AreWithin, IsTextRefusal, text_occurrences}
use Rattle.postings_writer.specs.Writers.{HasFields, IsIndexedTerm, Stands, Writer}
use Rattle.postings_writer.proofs.Groups.{ends_push}
use Rattle.postings_writer.proofs.Standing.{places_of-push}
use Rattle.document_indexer.specs.Contexts.{AreBefore, CanIndex, Context, HasStarts, Holds, IsReady, IsRefusal, Positions, Records, Refuses, context, start_of}
use Rattle.document_indexer.specs.Runs.{AreStepsWithin, Starts, occurrence_at, occurrences_at, next_starts, run_terms, starts_after, step_terms}
use Rattle.document_indexer.specs.Steps.{Step, term_step, text_step}

-- ---- steps behind others

pub run-append : (starts : Starts) (xs ys : List Step) → run_terms starts (xs ++ ys) ≡ run_terms starts xs ++ run_terms (starts_after starts xs) ys
run-append starts [] ys = refl
run-append starts (x ∷ xs) ys = ap (λ ps. step_terms starts x ++ ps) (run-append (next_starts starts x) xs ys) ∙ sym (append_assoc (step_terms starts x) (run_terms (next_starts starts x) xs) (run_terms (starts_after (next_starts starts x) xs) ys))

pub after-append : (starts : Starts) (xs ys : List Step) → starts_after starts (xs ++ ys) ≡ starts_after (starts_after starts xs) ys
after-append starts [] ys = refl
after-append starts (x ∷ xs) ys = after-append (next_starts starts x) xs ys

within_first : (starts : Starts) (xs ys : List Step) → AreStepsWithin starts (xs ++ ys) → AreStepsWithin starts xs
within_first starts [] ys all = tt
within_first starts (x ∷ xs) ys all = (all.0, within_first (next_starts starts x) xs ys all.1)

within_next : (starts : Starts) (xs ys : List Step) → AreStepsWithin starts (xs ++ ys) → AreStepsWithin (starts_after starts xs) ys
within_next starts [] ys all = all
within_next starts (x ∷ xs) ys all = within_next (next_starts starts x) xs ys all.1

within_both : (starts : Starts) (xs ys : List Step) → AreStepsWithin starts xs → AreStepsWithin (starts_after starts xs) ys → AreStepsWithin starts (xs ++ ys)
within_both starts [] ys first rest = rest
within_both starts (x ∷ xs) ys first rest = (first.0, within_both (next_starts starts x) xs ys first.1 rest)

-- the occurrences of steps behind others
joined : (doc : ℕ) (os : List Occurrence) (ps qs : List Placed) → (os ++ occurrences_at doc ps) ++ occurrences_at doc qs ≡ os ++ occurrences_at doc (ps ++ qs)
joined doc os ps qs = append_assoc os (occurrences_at doc ps) (occurrences_at doc qs) ∙ ap (λ more. os ++ more) (sym (map-append (occurrence_at doc) ps qs))

-- nothing is recorded
pub records_none : (schema : Schema) (c : Context) → IsReady schema c → Records schema c c []
records_none schema c ready = record {
  holds = λ os starts h. record { stands = subst (Stands schema c.writer) (sym (append-nil os)) h.stands; starts_are = h.starts_are };
  within = λ os starts h. tt;
  made = ready.made;
  doc = refl;
  next = ready.next;
  before = λ all. all;
}

-- more is recorded
pub records_more : (schema : Schema) (a b c : Context) (xs ys : List Step) → Records schema a b xs → Records schema b c ys → Records schema a c (xs ++ ys)
records_more schema a b c xs ys r s = record {
  holds = λ os starts h.
      let more = s.holds (os ++ occurrences_at a.doc (run_terms starts xs)) (starts_after starts xs) (r.holds os starts h) in
      let P : ℕ → Type 0 = λ d. Holds schema c ((os ++ occurrences_at a.doc (run_terms starts xs)) ++ occurrences_at d (run_terms (starts_after starts xs) ys)) (starts_after (starts_after starts xs) ys) in
      let Q : List Occurrence → Type 0 = λ os. Holds schema c os (starts_after (starts_after starts xs) ys) in
      let R : Starts → Type 0 = λ st. Holds schema c (os ++ occurrences_at a.doc (run_terms starts (xs ++ ys))) st in
      subst R (sym (after-append starts xs ys)) (subst Q (joined a.doc os (run_terms starts xs) (run_terms (starts_after starts xs) ys) ∙ ap (λ ps. os ++ occurrences_at a.doc ps) (sym (run-append starts xs ys))) (subst P r.doc more));
  within = λ os starts h. within_both starts xs ys (r.within os starts h) (s.within (os ++ occurrences_at a.doc (run_terms starts xs)) (starts_after starts xs) (r.holds os starts h));
  made = s.made;
  doc = s.doc ∙ r.doc;
  next = (let same = r.doc in let below = s.next in omega arith);
  before = λ all.
      let P : ℕ → Type 0 = λ d. AreBefore (d + 1) b.positions in
      let Q : ℕ → Type 0 = λ d. AreBefore (d + 1) c.positions in
      subst Q r.doc (s.before (subst P (sym r.doc) (r.before all)));
}

-- a value of such a field is a term's
pub known_term : (schema : Schema) (c : Context) (field : ℕ) (kind : Kind) → CanIndex schema c field kind → (key : List ℕ) → IsIndexedTerm schema (term_bytes field kind key)
known_term schema c field kind can key = record {
  field = field;
  entry = can.1.entry;
  key = key;
  fits = can.1.fits;
  entry_is = can.1.entry_is;
  indexed = can.1.indexed;
  term_is = ap (λ k. term_bytes field k key) (sym can.1.kind_is);
}

-- the first of these steps are refused
pub refused_first : (schema : Schema) (c : Context) (xs ys : List Step) (fault : Fault) → Refuses schema c xs fault → Refuses schema c (xs ++ ys) fault
refused_first schema c xs ys fault refused os starts h = go (refused os starts h)
  where
    go : IsRefusal fault os c.doc starts xs → IsRefusal fault os c.doc starts (xs ++ ys)
    go (inl memory) = inl memory
    go (inr (limit, inl past)) = inr (limit, inl (λ within. past (within_first starts xs ys within)))
    go (inr (limit, inr count)) = inr (
      limit,
      inr (record {
        before = count.before;
        after = count.after ++ run_terms (starts_after starts xs) ys;
        term = count.term;
        split = run-append starts xs ys ∙ ap (λ ps. ps ++ run_terms (starts_after starts xs) ys) count.split ∙ append_assoc count.before count.after (run_terms (starts_after starts xs) ys);
        past = count.past;
      }),
    )

-- steps behind those that were recorded are refused
pub refused_next : (schema : Schema) (a b : Context) (xs ys : List Step) (fault : Fault) → Records schema a b xs → Refuses schema b ys fault → Refuses schema a (xs ++ ys) fault
refused_next schema a b xs ys fault r refused os starts h =
    let P : ℕ → Type 0 = λ d. IsRefusal fault (os ++ occurrences_at a.doc (run_terms starts xs)) d (starts_after starts xs) ys in
    go (subst P r.doc (refused (os ++ occurrences_at a.doc (run_terms starts xs)) (starts_after starts xs) (r.holds os starts h)))
  where
    first : List Placed
    first = run_terms starts xs

    go : IsRefusal fault (os ++ occurrences_at a.doc first) a.doc (starts_after starts xs) ys → IsRefusal fault os a.doc starts (xs ++ ys)
    go (inl memory) = inl memory
    go (inr (limit, inl past)) = inr (limit, inl (λ within. past (within_next starts xs ys within)))
    go (inr (limit, inr count)) = inr (
      limit,
      inr (record {
        before = first ++ count.before;
        after = count.after;
        term = count.term;
        split = run-append starts xs ys ∙ ap (λ ps. first ++ ps) count.split ∙ sym (append_assoc first count.before count.after);
        past = subst (λ os. PassesCount a.doc (places_of count.term os)) (joined a.doc os first count.before) count.past;
      }),
    )

-- ---- a term

pub term_recorded : {A E : Type 0} (result : Result A E) (schema : Schema) (w new : Writer) (positions : Positions) (doc : ℕ) (t : List ℕ) → ((os : List Occurrence) → Stands schema w os → OnOk result (Stands schema new (os ++ record { doc = doc; term = t; position = 0 } ∷ []))) → OnOk result (HasFields schema new × (new.num_docs ≡ doc + 1)) → OnOk result (Records schema (context w positions doc) (context new positions doc) (term_step t ∷ []))
term_recorded (Ok x) schema w new positions doc t ok same = record {
  holds = λ os starts h. record { stands = ok os h.stands; starts_are = h.starts_are };
  within = λ os starts h. (tt, tt);
  made = same.0;
  doc = refl;
  next = (let is = same.1 in omega arith);
  before = λ all. all;
}
term_recorded (Err e) schema w new positions doc t ok same = tt

-- a term is refused
pub term_refused : {A : Type 0} (result : Result A Fault) (schema : Schema) (w : Writer) (positions : Positions) (doc : ℕ) (t : List ℕ) → ((os : List Occurrence) → Stands schema w os → IfErr result (λ fault. IsCountRefusal fault (places_of t os ++ (doc, 0) ∷ []))) → IfErr result (Refuses schema (context w positions doc) (term_step t ∷ []))
term_refused (Ok x) schema w positions doc t err = tt
term_refused (Err fault) schema w positions doc t err = λ os starts h. go os starts (err os h.stands)
  where
    here : (os : List Occurrence) → places_of t (os ++ occurrence_at doc (t, 0) ∷ []) ≡ places_of t os ++ (doc, 0) ∷ []
    here os = places_of-push t os (occurrence_at doc (t, 0)) ∙ ap (λ b. places_of t os ++ cond b ((doc, 0) ∷ []) []) ((bytes_eq-Decides t t).1 refl)

    go : (os : List Occurrence) (starts : Starts) → IsCountRefusal fault (places_of t os ++ (doc, 0) ∷ []) → IsRefusal fault os doc starts (term_step t ∷ [])
    go os starts (inl memory) = inl memory
    go os starts (inr limit) = inr (
      limit.0,
      inr (record {
        before = (t, 0) ∷ [];
        after = [];
        term = t;
        split = refl;
        past = subst (PassesCount doc) (sym (here os)) (ends_push (places_of t os) doc 0, limit.1);
      }),
    )

-- ---- a text

abbrev token_at : List ℕ → ℕ → Token → Placed
token_at prefix start t = (prefix ++ t.text, start + t.position)

-- the occurrences of a text's tokens
tokens_recorded : (doc : ℕ) (prefix : List ℕ) (start : ℕ) (ts : List Token) → occurrences_at doc (map (token_at prefix start) ts) ≡ text_occurrences doc prefix start ts
tokens_recorded doc prefix start [] = refl
tokens_recorded doc prefix start (t ∷ ts) = ap (λ os. occurrence_at doc (token_at prefix start t) ∷ os) (tokens_recorded doc prefix start ts)

-- the start that was kept, and those of other texts
start_more : (positions later : Positions) (starts : Starts) (doc : ℕ) (prefix : List ℕ) (gap next : ℕ) (ts : List Token) → HasStarts doc positions starts → next ≡ min (2 ^ 31) (next_start gap (starts prefix) ts)
    → ((other : List ℕ) → lookup (bytes_eq other) later ≡ cond (bytes_eq prefix other) (Some (doc, next)) (lookup (bytes_eq other) positions))
    → HasStarts doc later (next_starts starts (text_step prefix gap ts))
start_more positions later starts doc prefix gap next ts has next_is put other = ap in_doc (put other) ∙ go (bytes_eq prefix other) refl
  where
    in_doc : Option (ℕ × ℕ) → ℕ
    in_doc o = option_map_or (λ (p : ℕ × ℕ). cond (p.0 == doc) p.1 0) o 0

    go : (b : Bool) → bytes_eq prefix other ≡ b → in_doc (cond b (Some (doc, next)) (lookup (bytes_eq other) positions)) ≡ min (2 ^ 31) (cond b (next_start gap (starts other) ts) (starts other))
    go true same = ap (λ b. cond b next 0) (eq-eqb doc doc refl) ∙ next_is ∙ ap (λ bs. min (2 ^ 31) (next_start gap (starts bs) ts)) ((bytes_eq-Decides prefix other).0 same)
    go false apart = has other

before_more : (positions later : Positions) (doc : ℕ) (prefix : List ℕ) (next : ℕ)
    → ((other : List ℕ) → lookup (bytes_eq other) later ≡ cond (bytes_eq prefix other) (Some (doc, next)) (lookup (bytes_eq other) positions))
    → AreBefore (doc + 1) positions → AreBefore (doc + 1) later
before_more positions later doc prefix next put all other = subst (λ o. IfSome o (λ p. p.0 < doc + 1)) (sym (put other)) (go (bytes_eq prefix other))
  where
    go : (b : Bool) → IfSome (cond b (Some (doc, next)) (lookup (bytes_eq other) positions)) (λ (p : ℕ × ℕ). p.0 < doc + 1)
    go true = omega arith
    go false = all other

pub text_recorded : (schema : Schema) (w new : Writer) (positions later : Positions) (doc : ℕ) (prefix : List ℕ) (gap start next : ℕ) (ts : List Token)
    → start ≡ start_of doc prefix positions
    → ((os : List Occurrence) (real : ℕ) → Stands schema w os → start ≡ min (2 ^ 31) real → Stands schema new (os ++ text_occurrences doc prefix real ts))
    → ((real : ℕ) → start ≡ min (2 ^ 31) real → next ≡ min (2 ^ 31) (next_start gap real ts))
    → ((real : ℕ) → start ≡ min (2 ^ 31) real → AreWithin gap real ts)
    → HasFields schema new → new.num_docs ≤ doc + 1
    → ((other : List ℕ) → lookup (bytes_eq other) later ≡ cond (bytes_eq prefix other) (Some (doc, next)) (lookup (bytes_eq other) positions))
    → Records schema (context w positions doc) (context new later doc) (text_step prefix gap ts ∷ [])
text_recorded schema w new positions later doc prefix gap start next ts start_is stands next_is within made docs put = record {
  holds = λ os starts h.
      let real : start ≡ min (2 ^ 31) (starts prefix) = start_is ∙ h.starts_are prefix in
      let same : text_occurrences doc prefix (starts prefix) ts ≡ occurrences_at doc (run_terms starts (text_step prefix gap ts ∷ [])) = sym (tokens_recorded doc prefix (starts prefix) ts) ∙ ap (occurrences_at doc) (sym (append-nil (map (token_at prefix (starts prefix)) ts))) in
      record {
        stands = subst (λ more. Stands schema new (os ++ more)) same (stands os (starts prefix) h.stands real);
        starts_are = start_more positions later starts doc prefix gap next ts h.starts_are (next_is (starts prefix) real) put;
      };
  within = λ os starts h. (within (starts prefix) (start_is ∙ h.starts_are prefix), tt);
  made = made;
  doc = refl;
  next = docs;
  before = before_more positions later doc prefix next put;
}

-- a text is refused
pub text_refused : (fault : Fault) (schema : Schema) (w : Writer) (positions : Positions) (doc : ℕ) (prefix : List ℕ) (gap start : ℕ) (ts : List Token)
    → start ≡ start_of doc prefix positions
    → ((os : List Occurrence) (real : ℕ) → Stands schema w os → start ≡ min (2 ^ 31) real → IsTextRefusal fault os doc prefix gap real ts)
    → Refuses schema (context w positions doc) (text_step prefix gap ts ∷ []) fault
text_refused fault schema w positions doc prefix gap start ts start_is err os starts h = go (err os (starts prefix) h.stands (start_is ∙ h.starts_are prefix))
  where
    pair : Token → Placed
    pair = token_at prefix (starts prefix)

    go : IsTextRefusal fault os doc prefix gap (starts prefix) ts → IsRefusal fault os doc starts (text_step prefix gap ts ∷ [])
    go (inl memory) = inl memory
    go (inr (limit, inl past)) = inr (limit, inl (λ within. past within.0))
    go (inr (limit, inr count)) = inr (
      limit,
      inr (record {
        before = map pair count.before;
        after = map pair count.after;
        term = count.term;
        split = append-nil (map pair ts) ∙ ap (map pair) count.split ∙ map-append pair count.before count.after;
        past = subst (λ more. PassesCount doc (places_of count.term (os ++ more))) (sym (tokens_recorded doc prefix (starts prefix) count.before)) count.past;
      }),
    )
