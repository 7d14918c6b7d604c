-- Living documents of a cursor, written one after another.
use Rattle.std.proofs.Common.{[], Bool, IfSome, List, None, Option, Some, ap, append_assoc, arith, false, if◌then◌else◌, inl, inr, length, length-append, refl, slice_index, subst, sym, true, ◌++◌, ◌+◌, ◌/◌, ◌<◌, ◌^◌, ◌||◌, ◌≡◌, ◌≢◌, ◌≤◌, ◌∙◌, ◌∷◌, ℕ}
use Rattle.std.proofs.lemmas.List.{map-append}
use Rattle.std.specs.List.{AllByRecursion, slice_index_or}
use Rattle.docsets.specs.Entries.{AreSingle, Entry, Rising, first, highest, single}
use Rattle.definitions.specs.Blocks.{block_len}
use Rattle.definitions.specs.Merging.{at_document, rank}
use Rattle.definitions.specs.Postings.{Posting, terminated}
use Rattle.definitions.specs.declared.fault.Fault.{Fault}
use Rattle.layouts.specs.Positions.{differences}
use Rattle.layouts.specs.TermPostings.{SumsFit}
use Rattle.merging.proofs.LivingEntries.{all_counted, all_placed, all_within, dead_first, living_ascend, living_first, small_positions as small_list}
use Rattle.merging.proofs.Numbers.{number_within}
use Rattle.merging.specs.Living.{has_some, living_in, posting_in}
use Rattle.merging.specs.Mappings.{Mapping, end_of, new_doc}
use Rattle.merging.specs.Written.{AreWritten, counts_in}
use Rattle.postings_writer.specs.FieldWriting.{FieldWriting, IsOpen, IsSameTerm}
use Rattle.postings_writer.specs.TermWriting.{IsSumRefusal, recorded_count}
use Rattle.postings_writer.proofs.WrittenTerms.{Written, all_counted as all_tokens, all_opened, small_differences, written_more, sums_front}
use Rattle.postings_writer.specs.Serializing.{CanWrite}

-- ---- what may be written

all_less : (P Q : Posting → Type 0) (ps : List Posting) → ((p : Posting) → P p → Q p) → AllByRecursion P ps → AllByRecursion Q ps
all_less P Q [] each all = tt
all_less P Q (p ∷ ps) each all = (each p all.0, all_less P Q ps each all.1)

pub can_write : (m : Mapping) (es : List Entry) (next : ℕ) (norms : Option (List ℕ)) → Rising 0 es → AreSingle es → AllByRecursion (λ (e : Entry). 0 < e.count) es → end_of m ≤ terminated → next ≤ m.base → IfSome norms (λ ids. end_of m ≤ length ids) → CanWrite next norms (living_in m es)
can_write m es next norms rising single_ones counted few before kept = record {
  ascending = living_ascend m next es rising before;
  fits = all_less (λ p. p.doc < end_of m) (λ p. p.doc < terminated) (living_in m es) (λ p within. omega (arith, within, few)) (all_within m es);
  kept = go norms kept;
  counted = all_counted m es counted;
  placed = all_placed m es single_ones;
}
  where
    go : (o : Option (List ℕ)) → IfSome o (λ ids. end_of m ≤ length ids) → IfSome o (λ ids. AllByRecursion (λ (p : Posting). p.doc < length ids) (living_in m es))
    go None k = tt
    go (Some ids) k = all_less (λ p. p.doc < end_of m) (λ p. p.doc < length ids) (living_in m es) (λ p within. omega (arith, within, k)) (all_within m es)

-- ---- the document on which a cursor stands

-- a cursor that isn't at the end has an entry
pub entry_there : (es : List Entry) → first es ≢ terminated → (e : Entry) × (rest : List Entry) × (es ≡ e ∷ rest)
entry_there [] on = absurd (on refl)
entry_there (e ∷ rest) on = (e, rest, refl)

pub on_document : (es : List Entry) → Rising 0 es → first es ≢ terminated → first es < terminated
on_document [] rising on = absurd (on refl)
on_document (e ∷ es) rising on = rising.1

pub none_left : (es : List Entry) → Rising 0 es → first es ≡ terminated → es ≡ []
none_left [] rising at = refl
none_left (e ∷ es) rising at = (let below = rising.1 in absurd (omega (arith, below, at)))

-- a new number is that of a living document
pub number_of : (m : Mapping) (doc n : ℕ) → Some n ≡ new_doc m doc → (slice_index_or m.flags doc false ≡ true) × (n ≡ m.base + rank m.flags doc)
number_of m doc n is = go (slice_index_or m.flags doc false) refl is
  where
    go : (b : Bool) → slice_index_or m.flags doc false ≡ b → Some n ≡ (if b then Some (m.base + rank m.flags doc) else None) → (slice_index_or m.flags doc false ≡ true) × (n ≡ m.base + rank m.flags doc)
    go true living e = (living, (let same : n ≡ m.base + rank m.flags doc = cc in same))
    go false dead e = absurd cc

pub dead_one : (m : Mapping) (doc : ℕ) → None ≡ new_doc m doc → slice_index_or m.flags doc false ≡ false
dead_one m doc is = go (slice_index_or m.flags doc false) refl is
  where
    go : (b : Bool) → slice_index_or m.flags doc false ≡ b → None ≡ (if b then Some (m.base + rank m.flags doc) else None) → slice_index_or m.flags doc false ≡ false
    go true living e = absurd cc
    go false dead e = dead

pub number_within_end : (m : Mapping) (doc n : ℕ) → Some n ≡ new_doc m doc → n < end_of m
number_within_end m doc n is =
    let k = number_of m doc n is in
    let same = k.1 in
    let before = number_within m.flags doc k.0 in
    omega (arith, same, before)

-- ---- one document more

module _ (m : Mapping) (was now : FieldWriting) (all : List Posting) (e : Entry) (es : List Entry) (before : Written was now all (living_in m (e ∷ es))) where
  abbrev here : Posting
  here = at_document (m.base + rank m.flags e.doc) (posting_in e)

  pub living_written : (new : FieldWriting) (n : ℕ) → Some n ≡ new_doc m e.doc
      → ((docs counts numbers : List ℕ) → IsOpen now docs counts numbers → IsOpen new (docs ++ n ∷ []) (counts ++ recorded_count now.writing.option e.count ∷ []) (numbers ++ differences 0 (single e.positions)))
      → new.total_term_freq ≡ now.total_term_freq + e.count → IsSameTerm now new → new.writing.next ≡ n + 1 → Written was new all (living_in m es)
  living_written new n is more counted same next =
      let k = number_of m e.doc n is in
      written_more was now new all (living_in m (e ∷ es)) (living_in m es) here (differences 0 (single e.positions)) before (living_first m e es k.0) refl
      (λ docs counts numbers opened. subst (λ d. IsOpen new (docs ++ d ∷ []) (counts ++ recorded_count now.writing.option e.count ∷ []) (numbers ++ differences 0 (single e.positions))) k.1 (more docs counts numbers opened))
      counted same (next ∙ ap (λ d. d + 1) k.1)

  pub some_here : (some : Bool) (n : ℕ) → Some n ≡ new_doc m e.doc → (some || has_some (living_in m (e ∷ es))) ≡ has_some all → (true || has_some (living_in m es)) ≡ has_some all
  some_here some n is told = sym (sym told ∙ ap (λ ps. some || has_some ps) (living_first m e es (number_of m e.doc n is).0) ∙ either some)
    where
      either : (b : Bool) → (b || true) ≡ true
      either true = refl
      either false = refl

  pub dead_passed : None ≡ new_doc m e.doc → Written was now all (living_in m es)
  dead_passed is = subst (Written was now all) (dead_first m e es (dead_one m e.doc is)) before

  pub none_here : (some : Bool) → None ≡ new_doc m e.doc → (some || has_some (living_in m (e ∷ es))) ≡ has_some all → (some || has_some (living_in m es)) ≡ has_some all
  none_here some is told = ap (λ ps. some || has_some ps) (sym (dead_first m e es (dead_one m e.doc is))) ∙ told

-- ---- all documents

pub all_written : (m : Mapping) (was now : FieldWriting) (all : List Posting) (es : List Entry) (w : Written was now all (living_in m es)) → es ≡ [] → AreWritten was now all
all_written m was now all es w none = record {
  open_is = λ docs counts numbers is. all_opened was now all (living_in m es) w (ap (living_in m) none) docs counts numbers is;
  total = all_tokens was now all (living_in m es) w (ap (living_in m) none);
  same = w.same;
}

pub some_of_all : (m : Mapping) (some : Bool) (all : List Posting) (es : List Entry) → (some || has_some (living_in m es)) ≡ has_some all → es ≡ [] → some ≡ has_some all
some_of_all m some all es told none = sym (either some) ∙ ap (λ xs. some || has_some (living_in m xs)) (sym none) ∙ told
  where
    either : (b : Bool) → (b || false) ≡ b
    either true = refl
    either false = refl

-- ---- what is refused

pub front_passes : (front rest all : List ℕ) → all ≡ front ++ rest → (SumsFit (length front / block_len) front → ⊥) → SumsFit (length all / block_len) all → ⊥
front_passes front rest all is pass fit =
    let long : length all ≡ length front + length rest = ap length is ∙ length-append front rest in
    let P : List ℕ → Type 0 = λ xs. SumsFit (length all / block_len) xs in
    pass (sums_front (length front / block_len) (length all / block_len) front rest (subst P is fit) (omega arith) (omega arith))

pub write_refused : (fault : Fault) (m : Mapping) (was now : FieldWriting) (all : List Posting) (e : Entry) (es : List Entry) (counts : List ℕ) (n : ℕ) (w : Written was now all (living_in m (e ∷ es))) → Some n ≡ new_doc m e.doc
    → IsSumRefusal fault ((counts ++ counts_in was w.done) ++ recorded_count now.writing.option e.count ∷ []) → IsSumRefusal fault (counts ++ counts_in was all)
write_refused fault m was now all e es counts n w is (inl memory) = inl memory
write_refused fault m was now all e es counts n w is (inr (limit, pass)) = inr (limit, front_passes ((counts ++ counts_in was w.done) ++ recorded_count now.writing.option e.count ∷ []) (counts_in was (living_in m es)) (counts ++ counts_in was all) whole pass)
  where
    whole : counts ++ counts_in was all ≡ ((counts ++ counts_in was w.done) ++ recorded_count now.writing.option e.count ∷ []) ++ counts_in was (living_in m es)
    whole =
        ap (λ ps. counts ++ counts_in was ps) (w.split ∙ ap (λ ps. w.done ++ ps) (living_first m e es (number_of m e.doc n is).0))
        ∙ ap (λ xs. counts ++ xs) (map-append (λ (p : Posting). recorded_count was.writing.option p.count) w.done (at_document (m.base + rank m.flags e.doc) (posting_in e) ∷ living_in m es))
        ∙ ap (λ o. counts ++ (counts_in was w.done ++ recorded_count o e.count ∷ counts_in was (living_in m es))) (sym w.same.option)
        ∙ sym (append_assoc counts (counts_in was w.done) (recorded_count now.writing.option e.count ∷ counts_in was (living_in m es)))
        ∙ sym (append_assoc (counts ++ counts_in was w.done) (recorded_count now.writing.option e.count ∷ []) (counts_in was (living_in m es)))

-- ---- one document's positions

pub small_deltas : (ps : List ℕ) (i : ℕ) → highest ps < 2 ^ 31 → slice_index (differences 0 ps) i < 2 ^ 31
small_deltas ps i small = small_differences 0 ps i (small_list ps (2 ^ 31) small)
