-- The occurrences of a term, and what holds of the postings that they give.
use Rattle.std.proofs.Common.{[], ◌<◌, ◌^◌, ◌≡◌, ◌≤◌, ◌∷◌, Bool, IfSome, List, None, Option, Some, ap, ap₂, arith, bytes_eq, cond, false, filter, length, map, nat_eq, nat_le, refl, subst, sym, true, ℕ}
use Rattle.std.specs.List.{AllByRecursion}
use Rattle.std.proofs.lemmas.Bool.Decides.{nat_tests}
use Rattle.definitions.proofs.BlockBounds.{tail_dont_fall as rest_rises}
use Rattle.definitions.proofs.DocumentBounds.{all-map as all_then}
use Rattle.definitions.proofs.Lists.{length-ascending as length_ascending}
use Rattle.definitions.specs.Postings.{Posting}
use Rattle.definitions.specs.Recorded.{ascending, insert_ascending}
use Rattle.definitions.specs.Schema.{IndexRecordOption, Schema, basic, has_positions, with_freqs, with_freqs_and_positions}
use Rattle.definitions.specs.Scoring.{DontFall}
use Rattle.layouts.specs.Deltas.{IsAscendingFrom}
use Rattle.layouts.specs.InvertedIndexes.{IsPosting}
use Rattle.postings_writer.specs.TermWriting.{recorded_count}
use Rattle.postings_writer.specs.Occurrences.{Occurrence, by_document, grouped, places_of, posting_in, postings_at}
use Rattle.postings_writer.specs.Serializing.{CanWrite}
use Rattle.postings_writer.specs.Writers.{IsOccurrence, Stands, Writer}
use Rattle.postings_writer.proofs.Runs.{zero_first}
use Rattle.postings_writer.proofs.Sorting.{ascending_rises}
use Rattle.postings_writer.proofs.Standing.{place_in as occurrence}

-- occurrences whose documents don't fall and are below a bound, at positions that are recorded
pub record AreOccurrences (num_docs : ℕ) (ps : List (ℕ × ℕ)) : Type 0 where
  pub rising : DontFall (map (λ p. p.0) ps)
  pub within : AllByRecursion (λ p. p.0 < num_docs) ps
  pub placed : AllByRecursion (λ p. p.1 < 2 ^ 31) ps

-- ---- of a writer

skipped : (n m : ℕ) (xs : List ℕ) → DontFall (n ∷ m ∷ xs) → DontFall (n ∷ xs)
skipped n m [] up = tt
skipped n m (x ∷ xs) up = (let first = up.0 in let second = up.1.0 in omega arith, up.1.1)

abbrev docs : List Occurrence → List ℕ
docs os = map (λ (o : Occurrence). o.doc) os

rises_on : (t : List ℕ) (n : ℕ) (os : List Occurrence) → DontFall (n ∷ docs os) → DontFall (n ∷ map (λ p. p.0) (places_of t os))
rises_on t n [] up = tt
rises_on t n (o ∷ os) up = go (bytes_eq o.term t) (rises_on t o.doc os up.1) (rises_on t n os (skipped n o.doc (docs os) up))
  where
    go : (b : Bool) → DontFall (o.doc ∷ map (λ p. p.0) (places_of t os)) → DontFall (n ∷ map (λ p. p.0) (places_of t os)) → DontFall (n ∷ map (λ p. p.0) (map occurrence (cond b (o ∷ filter (λ x. bytes_eq x.term t) os) (filter (λ x. bytes_eq x.term t) os))))
    go true more none = (up.0, more)
    go false more none = none

all_occurrences : (P : ℕ × ℕ → Type 0) (t : List ℕ) (os : List Occurrence) → AllByRecursion (λ o. P (occurrence o)) os → AllByRecursion P (places_of t os)
all_occurrences P t [] all = tt
all_occurrences P t (o ∷ os) all = go (bytes_eq o.term t) (all_occurrences P t os all.1)
  where
    go : (b : Bool) → AllByRecursion P (places_of t os) → AllByRecursion P (map occurrence (cond b (o ∷ filter (λ x. bytes_eq x.term t) os) (filter (λ x. bytes_eq x.term t) os)))
    go true later = (all.0, later)
    go false later = later

pub occurrences_stand : (schema : Schema) (w : Writer) (os : List Occurrence) (t : List ℕ) → Stands schema w os → AreOccurrences w.num_docs (places_of t os)
occurrences_stand schema w os t stands = record {
  rising = rest_rises 0 (map (λ p. p.0) (places_of t os)) (rises_on t 0 os (zero_first (docs os) stands.rising));
  within = all_occurrences (λ p. p.0 < w.num_docs) t os (all_then (IsOccurrence schema w.num_docs) (λ o. o.doc < w.num_docs) os (λ o is. is.within) stands.each_occurrence);
  placed = all_occurrences (λ p. p.1 < 2 ^ 31) t os (all_then (IsOccurrence schema w.num_docs) (λ o. o.position < 2 ^ 31) os (λ o is. is.placed_fit) stands.each_occurrence);
}

-- ---- by document

abbrev Group : Type 0
Group = ℕ × List ℕ

abbrev pick : Bool → List Group → List Group → List Group
pick b x y = cond b x y

grouped_all : (R : Group → Type 0) (p : ℕ × ℕ) (gs : List Group) → R (p.0, p.1 ∷ []) → ((g : Group) → R g → R (g.0, p.1 ∷ g.1)) → AllByRecursion R gs → AllByRecursion R (grouped p gs)
grouped_all R p [] new more all = (new, tt)
grouped_all R p (g ∷ gs) new more all = go (nat_eq p.0 g.0)
  where
    go : (b : Bool) → AllByRecursion R (pick b ((g.0, p.1 ∷ g.1) ∷ gs) ((p.0, p.1 ∷ []) ∷ g ∷ gs))
    go true = (more g all.0, all.1)
    go false = (new, all)

-- the groups are of documents of the occurrences
group_docs : (P : ℕ → Type 0) (ps : List (ℕ × ℕ)) → AllByRecursion (λ p. P p.0) ps → AllByRecursion (λ g. P g.0) (by_document ps)
group_docs P [] all = tt
group_docs P (p ∷ ps) all = grouped_all (λ g. P g.0) p (by_document ps) all.0 (λ g is. is) (group_docs P ps all.1)

-- and have their positions
group_positions : (P : ℕ → Type 0) (ps : List (ℕ × ℕ)) → AllByRecursion (λ p. P p.1) ps → AllByRecursion (λ g. AllByRecursion P g.1) (by_document ps)
group_positions P [] all = tt
group_positions P (p ∷ ps) all = grouped_all (λ g. AllByRecursion P g.1) p (by_document ps) (all.0, tt) (λ g is. (all.0, is)) (group_positions P ps all.1)

-- each group has an occurrence
group_some : (ps : List (ℕ × ℕ)) → AllByRecursion (λ (g : Group). 0 < length g.1) (by_document ps)
group_some [] = tt
group_some (p ∷ ps) = grouped_all (λ g. 0 < length g.1) p (by_document ps) (omega arith) (λ g is. omega arith) (group_some ps)

abbrev heads : List Group → List ℕ
heads gs = map (λ g. g.0) gs

grouped_rises : (n : ℕ) (p : ℕ × ℕ) (gs : List Group) → n ≤ p.0 → IsAscendingFrom p.0 (heads gs) → IsAscendingFrom n (heads (grouped p gs))
grouped_rises n p [] above up = (above, tt)
grouped_rises n p (g ∷ gs) above up = go (nat_eq p.0 g.0) refl
  where
    go : (b : Bool) → nat_eq p.0 g.0 ≡ b → IsAscendingFrom n (heads (pick b ((g.0, p.1 ∷ g.1) ∷ gs) ((p.0, p.1 ∷ []) ∷ g ∷ gs)))
    go true e = (let first = up.0 in omega arith, up.1)
    go false e = (above, ((let first = up.0 in grind (arith, nat_tests)), up.1))

-- documents that don't fall ascend, each once
group_rises : (n : ℕ) (ps : List (ℕ × ℕ)) → DontFall (n ∷ map (λ p. p.0) ps) → IsAscendingFrom n (heads (by_document ps))
group_rises n [] up = tt
group_rises n (p ∷ ps) up = grouped_rises n p (by_document ps) up.0 (group_rises p.0 ps up.1)

-- ---- postings

pub all_mapped : {A B : Type 0} (P : B → Type 0) (f : A → B) (xs : List A) → AllByRecursion (λ x. P (f x)) xs → AllByRecursion P (map f xs)
all_mapped P f [] all = tt
all_mapped P f (x ∷ xs) all = (all.0, all_mapped P f xs all.1)

pub docs_of-postings : (option : IndexRecordOption) (gs : List Group) → map (λ (p : Posting). p.doc) (map (posting_in option) gs) ≡ heads gs
docs_of-postings option [] = refl
docs_of-postings option (g ∷ gs) = ap (λ ds. g.0 ∷ ds) (docs_of-postings option gs)

all_inserted : (P : ℕ → Type 0) (n : ℕ) (ns : List ℕ) → P n → AllByRecursion P ns → AllByRecursion P (insert_ascending n ns)
all_inserted P n [] here all = (here, tt)
all_inserted P n (m ∷ ms) here all = go (nat_le n m) (all_inserted P n ms here all.1)
  where
    go : (b : Bool) → AllByRecursion P (insert_ascending n ms) → AllByRecursion P (cond b (n ∷ m ∷ ms) (m ∷ insert_ascending n ms))
    go true later = (here, all)
    go false later = (all.0, later)

all_ascending : (P : ℕ → Type 0) (ns : List ℕ) → AllByRecursion P ns → AllByRecursion P (ascending ns)
all_ascending P [] all = tt
all_ascending P (n ∷ ns) all = all_inserted P n (ascending ns) all.0 (all_ascending P ns all.1)

module _ (num_docs : ℕ) (option : IndexRecordOption) (ps : List (ℕ × ℕ)) (are : AreOccurrences num_docs ps) where
  ascend : IsAscendingFrom 0 (map (λ (p : Posting). p.doc) (postings_at option ps))
  ascend = subst (IsAscendingFrom 0) (sym (docs_of-postings option (by_document ps))) (group_rises 0 ps (zero_first (map (λ p. p.0) ps) are.rising))

  -- what holds of documents
  of_docs : (P : ℕ → Type 0) → ((n : ℕ) → n < num_docs → P n) → AllByRecursion (λ (p : Posting). P p.doc) (postings_at option ps)
  of_docs P to = all_mapped (λ (p : Posting). P p.doc) (posting_in option) (by_document ps) (group_docs P ps (all_then (λ p. p.0 < num_docs) (λ p. P p.0) ps (λ p is. to p.0 is) are.within))

  -- they may be written
  pub can_write : (norms : Option (List ℕ)) → num_docs ≤ 2147483647 → IfSome norms (λ ids. num_docs ≤ length ids) → CanWrite 0 norms (postings_at option ps)
  can_write norms few kept = record {
    ascending = ascend;
    fits = of_docs (λ doc. doc < 2147483647) (λ n below. omega arith);
    kept = go norms kept;
    counted = all_mapped (λ (p : Posting). 0 < p.count) (posting_in option) (by_document ps) (all_then (λ (g : Group). 0 < length g.1) (λ g. 0 < (posting_in option g).count) (by_document ps) (λ g is. counts g option is) (group_some ps));
    placed = all_mapped (λ (p : Posting). AllByRecursion (λ n. n < 2 ^ 31) p.positions) (posting_in option) (by_document ps) (all_then (λ (g : Group). AllByRecursion (λ n. n < 2 ^ 31) g.1) (λ g. AllByRecursion (λ n. n < 2 ^ 31) (posting_in option g).positions) (by_document ps) (λ g is. occurrences g option is) (group_positions (λ n. n < 2 ^ 31) ps are.placed));
  }
    where
      go : (o : Option (List ℕ)) → IfSome o (λ ids. num_docs ≤ length ids) → IfSome o (λ ids. AllByRecursion (λ (p : Posting). p.doc < length ids) (postings_at option ps))
      go None all = tt
      go (Some ids) all = of_docs (λ doc. doc < length ids) (λ n below. omega arith)

      counts : (g : Group) (o : IndexRecordOption) → 0 < length g.1 → 0 < (posting_in o g).count
      counts g basic some = omega arith
      counts g with_freqs some = some
      counts g with_freqs_and_positions some = some

      occurrences : (g : Group) (o : IndexRecordOption) → AllByRecursion (λ n. n < 2 ^ 31) g.1 → AllByRecursion (λ n. n < 2 ^ 31) (posting_in o g).positions
      occurrences g basic all = tt
      occurrences g with_freqs all = tt
      occurrences g with_freqs_and_positions all = all_ascending (λ n. n < 2 ^ 31) g.1 all

  -- they are postings of a segment of `num_docs` documents
  pub are_postings : AllByRecursion (IsPosting (has_positions option) num_docs) (postings_at option ps)
  are_postings = both (by_document ps) (group_docs (λ doc. doc < num_docs) ps are.within) (group_positions (λ n. n < 2 ^ 31) ps are.placed)
    where
      one : (g : Group) (o : IndexRecordOption) → g.0 < num_docs → AllByRecursion (λ n. n < 2 ^ 31) g.1 → IsPosting (has_positions o) num_docs (posting_in o g)
      one g basic within all = record { within = within; counted = refl; placed = tt; placed_fit = tt }
      one g with_freqs within all = record { within = within; counted = refl; placed = tt; placed_fit = tt }
      one g with_freqs_and_positions within all = record { within = within; counted = length_ascending g.1; placed = ascending_rises g.1; placed_fit = all_ascending (λ n. n < 2 ^ 31) g.1 all }

      both : (gs : List Group) → AllByRecursion (λ (g : Group). g.0 < num_docs) gs → AllByRecursion (λ (g : Group). AllByRecursion (λ n. n < 2 ^ 31) g.1) gs → AllByRecursion (IsPosting (has_positions option) num_docs) (map (posting_in option) gs)
      both [] docs all = tt
      both (g ∷ gs) docs all = (one g option docs.0 all.0, both gs docs.1 all.1)

-- what is recorded of a posting is its count
pub counts_recorded : (option : IndexRecordOption) (ps : List (ℕ × ℕ)) → map (λ (p : Posting). recorded_count option p.count) (postings_at option ps) ≡ map (λ (p : Posting). p.count) (postings_at option ps)
counts_recorded option ps = go (by_document ps)
  where
    one : (o : IndexRecordOption) (g : Group) → recorded_count o (posting_in o g).count ≡ (posting_in o g).count
    one basic g = refl
    one with_freqs g = refl
    one with_freqs_and_positions g = refl

    go : (gs : List Group) → map (λ (p : Posting). recorded_count option p.count) (map (posting_in option) gs) ≡ map (λ (p : Posting). p.count) (map (posting_in option) gs)
    go [] = refl
    go (g ∷ gs) = ap₂ (λ n ns. n ∷ ns) (one option g) (go gs)

-- occurrences give postings
pub some_postings : (option : IndexRecordOption) (ps : List (ℕ × ℕ)) → 0 < length ps → 0 < length (postings_at option ps)
some_postings option [] some = absurd (omega arith)
some_postings option (p ∷ ps) some = go (by_document ps)
  where
    go : (gs : List Group) → 0 < length (map (posting_in option) (grouped p gs))
    go [] = omega arith
    go (g ∷ gs) = either (nat_eq p.0 g.0)
      where
        either : (b : Bool) → 0 < length (map (posting_in option) (pick b ((g.0, p.1 ∷ g.1) ∷ gs) ((p.0, p.1 ∷ []) ∷ g ∷ gs)))
        either true = omega arith
        either false = omega arith

-- and postings are of occurrences
pub some_occurrences : (option : IndexRecordOption) (ps : List (ℕ × ℕ)) → 0 < length (postings_at option ps) → 0 < length ps
some_occurrences option [] some = absurd (omega arith)
some_occurrences option (p ∷ ps) some = omega arith
