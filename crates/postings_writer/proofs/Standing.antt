-- What a writer stands for, as one more occurrence is recorded.
use Rattle.std.proofs.Common.{[], ◌++◌, ◌+◌, ◌<◌, ◌^◌, ◌≡◌, ◌≢◌, ◌≤◌, ◌∙◌, ◌∷◌, Bool, List, Some, ap, append-nil, arith, bytes_eq, cond, drop, false, filter, length, map, nat_eq, refl, replicate, set, slice_get, subst, suc, sym, true, zero, ℕ}
use Rattle.std.specs.Int.{from_be_bytes, w32}
use Rattle.std.specs.List.{AllByRecursion}
use Rattle.std.proofs.Math.Seq.{drop-append_seam}
use Rattle.std.proofs.lemmas.Bool.Decides.{nat_tests}
use Rattle.std.proofs.lemmas.List.{length-replicate, length-set, map-append, take-append-le}
use Rattle.std.proofs.lemmas.List.Elements.{filter-append}
use Rattle.std.proofs.lemmas.Option.{slice_get_within}
use Rattle.definitions.proofs.TermsReadBack.{key_there as payload_of-term}
use Rattle.definitions.specs.Schema.{Entry, Kind, Schema, max_fields}
use Rattle.definitions.specs.Scoring.{DontFall}
use Rattle.definitions.specs.Terms.{field_of, payload_of, term_bytes}
use Rattle.terms.proofs.TermParts.{field_of-term, other_fields, same_keys}
use Rattle.postings_writer.specs.Fields.{HasRecorders, Terms, option_of_key, with_occurrence}
use Rattle.postings_writer.specs.Occurrences.{Occurrence, places_of}
use Rattle.postings_writer.specs.Recorders.{IsCountWithin, recorder_of}
use Rattle.postings_writer.specs.Writers.{HasOccurrences, IsIndexedTerm, IsOccurrence, Stands, Writer}

-- ---- one occurrence more

abbrev pub place_in : Occurrence → ℕ × ℕ
place_in x = (x.doc, x.position)

-- the occurrences of a term with it
pub places_of-push : (t : List ℕ) (os : List Occurrence) (o : Occurrence) → places_of t (os ++ o ∷ []) ≡ places_of t os ++ cond (bytes_eq o.term t) ((o.doc, o.position) ∷ []) []
places_of-push t os o =
    ap (map place_in) (filter-append (λ x. bytes_eq x.term t) os (o ∷ []))
    ∙ map-append place_in (filter (λ x. bytes_eq x.term t) os) (filter (λ x. bytes_eq x.term t) (o ∷ []))
    ∙ ap (λ ps. places_of t os ++ ps) (go (bytes_eq o.term t))
  where
    go : (b : Bool) → map place_in (cond b (o ∷ []) []) ≡ cond b ((o.doc, o.position) ∷ []) []
    go true = refl
    go false = refl

joined : (b : Bool) (ps : List (ℕ × ℕ)) (p : ℕ × ℕ) → ps ++ cond b (p ∷ []) [] ≡ cond b (ps ++ p ∷ []) ps
joined true ps p = refl
joined false ps p = append-nil ps

all_more : {A : Type 0} (P Q : A → Type 0) (xs : List A) (x : A) → ((y : A) → P y → Q y) → AllByRecursion P xs → Q x → AllByRecursion Q (xs ++ x ∷ [])
all_more P Q [] x to each last = (last, tt)
all_more P Q (y ∷ ys) x to each last = (to y each.0, all_more P Q ys x to each.1 last)

-- documents don't fall behind those that are below a bound
rises : (os : List Occurrence) (schema : Schema) (n : ℕ) (o : Occurrence) → DontFall (map (λ (x : Occurrence). x.doc) os) → AllByRecursion (IsOccurrence schema n) os → n ≤ o.doc + 1 → DontFall (map (λ (x : Occurrence). x.doc) (os ++ o ∷ []))
rises [] schema n o rising each above = tt
rises (x ∷ []) schema n o rising each above = (let within = each.0.within in omega arith, tt)
rises (x ∷ y ∷ ys) schema n o rising each above = (rising.0, rises (y ∷ ys) schema n o rising.1 each.1 above)

-- what is written at an index
set_same : {A : Type 0} (xs : List A) (i : ℕ) (x : A) → i < length xs → slice_get (set xs i x) i ≡ Some x
set_same [] i x inside = absurd (omega arith)
set_same (y ∷ ys) zero x inside = refl
set_same (y ∷ ys) (suc i) x inside = set_same ys i x (omega arith)

set_other : {A : Type 0} (xs : List A) (i j : ℕ) (x : A) → j ≢ i → slice_get (set xs i x) j ≡ slice_get xs j
set_other [] i j x apart = refl
set_other (y ∷ ys) zero zero x apart = absurd (apart refl)
set_other (y ∷ ys) zero (suc j) x apart = refl
set_other (y ∷ ys) (suc i) zero x apart = refl
set_other (y ∷ ys) (suc i) (suc j) x apart = set_other ys i j x (λ same. apart (ap suc same))

more_occurrences : (e : Entry) (terms : Terms) (occurrences others : List ℕ → List (ℕ × ℕ)) → ((key : List ℕ) → occurrences key ≡ others key) → HasRecorders e occurrences terms → HasRecorders e others terms
more_occurrences e terms occurrences others same has = record {
  recorders = λ key. has.recorders key ∙ ap (λ ps. recorder_of (option_of_key e key) ps) (same key);
  counted = λ key. subst (λ ps. IsCountWithin (option_of_key e key) ps) (same key) (has.counted key);
}

module _ (schema : Schema) (w : Writer) (os : List Occurrence) (t : List ℕ) (doc position : ℕ) (k : IsIndexedTerm schema t) where
  abbrev here : Occurrence
  here = record { doc = doc; term = t; position = position }

  -- the occurrences of the field's terms with it
  same_field : (kind : Kind) → kind ≡ k.entry.kind → (q : List ℕ) → with_occurrence k.key (doc, position) (λ q. places_of (term_bytes k.field kind q) os) q ≡ places_of (term_bytes k.field kind q) (os ++ here ∷ [])
  same_field kind is q =
      sym (places_of-push (term_bytes k.field kind q) os here
      ∙ ap (λ b. places_of (term_bytes k.field kind q) os ++ cond b ((doc, position) ∷ []) []) (ap (λ s. bytes_eq s (term_bytes k.field kind q)) (k.term_is ∙ ap (λ x. term_bytes k.field x k.key) (sym is)) ∙ same_keys k.field kind k.key q)
      ∙ joined (bytes_eq k.key q) (places_of (term_bytes k.field kind q) os) (doc, position))

  -- those of another field
  other_field : (f : ℕ) (kind : Kind) → f < 2 ^ 32 → f ≢ k.field → (q : List ℕ) → places_of (term_bytes f kind q) os ≡ places_of (term_bytes f kind q) (os ++ here ∷ [])
  other_field f kind fits apart q =
      sym (places_of-push (term_bytes f kind q) os here
      ∙ ap (λ b. places_of (term_bytes f kind q) os ++ cond b ((doc, position) ∷ []) []) (ap (λ s. bytes_eq s (term_bytes f kind q)) k.term_is ∙ other_fields k.field f k.entry.kind kind k.key q k.fits fits apart)
      ∙ append-nil (places_of (term_bytes f kind q) os))

  -- one occurrence more
  pub stands_more : (new : Terms) → Stands schema w os → w.num_docs ≤ doc + 1 → position < 2 ^ 31
      → HasRecorders k.entry (with_occurrence k.key (doc, position) (λ q. places_of (term_bytes k.field k.entry.kind q) os)) new
      → Stands schema (record { fields = set w.fields k.field new; num_docs = doc + 1 }) (os ++ here ∷ [])
  stands_more new stands above placed more = record {
    schema_fits = stands.schema_fits;
    fields_are = length-set w.fields k.field new ∙ stands.fields_are;
    each_occurrence = all_more (IsOccurrence schema w.num_docs) (IsOccurrence schema (doc + 1)) os here (λ o is. record { known = is.known; within = (let within = is.within in omega arith); placed_fit = is.placed_fit }) stands.each_occurrence (record { known = k; within = omega arith; placed_fit = placed });
    rising = rises os schema w.num_docs here stands.rising stands.each_occurrence above;
    recorded = λ f e at. go f e at (nat_eq f k.field) refl;
  }
    where
      go : (f : ℕ) (e : Entry) → slice_get schema f ≡ Some e → (b : Bool) → nat_eq f k.field ≡ b → HasOccurrences (os ++ here ∷ []) (set w.fields k.field new) (f, e)
      go f e at true is =
          let same : f ≡ k.field = grind (arith, nat_tests) in
          let entry : e ≡ k.entry = (let P : Some e ≡ Some k.entry = sym at ∙ ap (slice_get schema) same ∙ k.entry_is in cc) in
          let old = stands.recorded k.field k.entry k.entry_is in
          let has : HasRecorders k.entry (λ q. places_of (term_bytes k.field k.entry.kind q) (os ++ here ∷ [])) new = more_occurrences k.entry new _ _ (same_field k.entry.kind refl) more in
          let P : ℕ → Type 0 = λ x. HasOccurrences (os ++ here ∷ []) (set w.fields k.field new) (x, k.entry) in
          let Q : Entry → Type 0 = λ x. HasOccurrences (os ++ here ∷ []) (set w.fields k.field new) (f, x) in
          subst Q (sym entry) (subst P (sym same) (new, set_same w.fields k.field new (slice_get_within w.fields k.field old.0 old.1), has))
      go f e at false is =
          let apart : f ≢ k.field = grind (arith, nat_tests) in
          let old = stands.recorded f e at in
          let fits : f < 2 ^ 32 = (let inside = slice_get_within schema f e at in let few = stands.schema_fits in omega arith) in
          (old.0, set_other w.fields k.field f new apart ∙ old.1, more_occurrences e old.0 _ _ (other_field f e.kind fits apart) old.2)

abbrev none : Terms
none = []

-- a writer of which nothing is recorded
pub stands_none : (schema : Schema) → length schema ≤ max_fields → Stands schema (record { fields = replicate (length schema) []; num_docs = 0 }) []
stands_none schema few = record {
  schema_fits = few;
  fields_are = length-replicate (length schema) none;
  each_occurrence = tt;
  rising = tt;
  recorded = λ f e at. ([], nothing schema f e at, record { recorders = λ key. refl; counted = λ key option. omega arith });
}
  where
    nothing : (es : List Entry) (f : ℕ) (e : Entry) → slice_get es f ≡ Some e → slice_get (replicate (length es) none) f ≡ Some none
    nothing [] f e at = cc
    nothing (x ∷ xs) zero e at = refl
    nothing (x ∷ xs) (suc f) e at = nothing xs f e at

-- ---- a known term

pub field_of-known : (schema : Schema) (t : List ℕ) (k : IsIndexedTerm schema t) → field_of t ≡ k.field
field_of-known schema t k = ap field_of k.term_is ∙ field_of-term k.field k.entry.kind k.key k.fits

pub payload_of-known : (schema : Schema) (t : List ℕ) (k : IsIndexedTerm schema t) → payload_of t ≡ k.key
payload_of-known schema t k = ap payload_of k.term_is ∙ payload_of-term k.field k.entry.kind k.key

-- the entry that stands at the term's field
pub field_entry : (schema : Schema) (t : List ℕ) (k : IsIndexedTerm schema t) (e : Entry) (field : ℕ) → field ≡ field_of t → slice_get schema field ≡ Some e → e ≡ k.entry
field_entry schema t k e field is at = (let same : Some e ≡ Some k.entry = sym at ∙ ap (slice_get schema) (is ∙ field_of-known schema t k) ∙ k.entry_is in cc)

-- a known term is recorded in a writer: the recorders of its field, and all that they are of
module _ (schema : Schema) (w : Writer) (os : List Occurrence) (t : List ℕ) (doc position : ℕ) (k : IsIndexedTerm schema t) (e : Entry) (field : ℕ) (key : List ℕ) (old : Terms) where
  abbrev known_occurrences : List ℕ → List (ℕ × ℕ)
  known_occurrences q = places_of (term_bytes k.field k.entry.kind q) os

  -- the recorders that stand there are those of the field's occurrences
  pub known_has : Stands schema w os → field ≡ field_of t → slice_get schema field ≡ Some e → slice_get w.fields field ≡ Some old → HasRecorders e known_occurrences old
  known_has stands is at here =
      let s = stands.recorded k.field k.entry k.entry_is in
      let same : s.0 ≡ old = (let both : Some s.0 ≡ Some old = sym s.1 ∙ ap (slice_get w.fields) (sym (is ∙ field_of-known schema t k)) ∙ here in cc) in
      let P : Entry → Type 0 = λ x. HasRecorders x known_occurrences old in
      let Q : Terms → Type 0 = λ x. HasRecorders k.entry known_occurrences x in
      subst P (sym (field_entry schema t k e field is at)) (subst Q same s.2)

  pub known_key : key ≡ payload_of t → known_occurrences key ≡ places_of t os
  known_key is = ap (λ x. places_of x os) (ap (term_bytes k.field k.entry.kind) (is ∙ payload_of-known schema t k) ∙ sym k.term_is)

  pub known_more : (new : Terms) → Stands schema w os → field ≡ field_of t → slice_get schema field ≡ Some e → key ≡ payload_of t → w.num_docs ≤ doc + 1 → position < 2 ^ 31
      → HasRecorders e (with_occurrence key (doc, position) known_occurrences) new
      → Stands schema (record { fields = set w.fields field new; num_docs = doc + 1 }) (os ++ record { doc = doc; term = t; position = position } ∷ [])
  known_more new stands is at key_is above placed has =
      let P : Entry → Type 0 = λ x. HasRecorders x (with_occurrence key (doc, position) known_occurrences) new in
      let Q : List ℕ → Type 0 = λ x. HasRecorders k.entry (with_occurrence x (doc, position) known_occurrences) new in
      let put : HasRecorders k.entry (with_occurrence k.key (doc, position) known_occurrences) new = subst Q (key_is ∙ payload_of-known schema t k) (subst P (field_entry schema t k e field is at) has) in
      let R : ℕ → Type 0 = λ f. Stands schema (record { fields = set w.fields f new; num_docs = doc + 1 }) (os ++ record { doc = doc; term = t; position = position } ∷ []) in
      subst R (sym (is ∙ field_of-known schema t k)) (stands_more schema w os t doc position k new stands above placed put)

-- ---- a term of first bytes and a text

pub field_before : (prefix text : List ℕ) → length prefix ≡ 5 → field_of prefix ≡ field_of (prefix ++ text)
field_before prefix text five = ap (from_be_bytes w32) (sym (take-append-le 4 prefix text (omega (arith, five))))

pub payload_behind : (prefix text : List ℕ) → length prefix ≡ 5 → text ≡ payload_of (prefix ++ text)
payload_behind prefix text five = sym (ap (λ k. drop k (prefix ++ text)) (sym five) ∙ drop-append_seam prefix text)
