-- Postings as they are written to a term, one after another.
use Rattle.std.proofs.Common.{[], ◌++◌, ◌+◌, ◌<◌, ◌^◌, ◌≡◌, ◌≤◌, ◌∙◌, ◌∷◌, ◌⊎◌, IfSome, List, None, Option, Some, ap, append-nil, ap₂, append_assoc, arith, drop, inl, inr, length, length-append, map, refl, slice_index, subst, suc, sum, sum_by, sym, zero, ◌*◌, ◌/◌, ℕ}
use Rattle.std.specs.List.{AllByRecursion}
use Rattle.std.proofs.lemmas.List.{map-append}
use Rattle.std.proofs.lemmas.List.Sums.{sum_by_push}
use Rattle.definitions.specs.Postings.{Posting}
use Rattle.layouts.specs.Deltas.{IsAscendingFrom}
use Rattle.layouts.specs.Positions.{differences, position_numbers}
use Rattle.codes.specs.UnpackedBlocks.{listed}
use Rattle.definitions.specs.declared.fault.Fault.{Fault}
use Rattle.definitions.specs.declared.fault.Fault.TheVariants as faults
use Rattle.definitions.specs.Schema.{IndexRecordOption, has_positions}
use Rattle.layouts.specs.InvertedIndexes.{HasPositions}
use Rattle.layouts.specs.TermPostings.{ArePosted, SumsFit, postings_bytes}
use Rattle.postings_writer.specs.FieldWriting.{AreKept, FieldWriting, IsCloseRefusal, IsClosed, IsOpen, IsSameTerm, MeetsLimit, Terms, inserted, postings_of}
use Rattle.postings_writer.specs.TermWriting.{IsSumRefusal, recorded_count}
use Rattle.std.proofs.lemmas.List.{drop-append-le, drop_all, length-drop, length-map, take-append-le}
use Rattle.definitions.proofs.Lists.{all_after as all_behind, docs_in}
use Rattle.definitions.specs.Schema.{with_freqs_and_positions}
use Rattle.definitions.specs.Blocks.{block_len}
use Rattle.postings_writer.specs.Limits.{CountsPass, SumsPass, TermPasses}
use Rattle.postings_writer.specs.Occurrences.{postings_at}
use Rattle.postings_writer.specs.Serializing.{CanWrite, IsWrittenTerm, length_of, of_count, of_doc, postings_from}
use Rattle.postings_writer.specs.declared.recorder.Recorder.{Recorder}
use Rattle.postings_writer.specs.declared.recorder.Recorder.TheVariants.{DocIds, TermFrequencies, TfAndPositions}

abbrev counts_in : FieldWriting → List Posting → List ℕ
counts_in w ps = map (λ (p : Posting). recorded_count w.writing.option p.count) ps

abbrev numbers_in : List Posting → List ℕ
numbers_in ps = position_numbers (map (λ (p : Posting). p.positions) ps)

abbrev pub tokens_in : List Posting → ℕ
tokens_in ps = sum_by (λ (p : Posting). p.count) ps

-- ---- what stays

pub kept_both : (was mid now : FieldWriting) → AreKept was mid → AreKept mid now → AreKept was now
kept_both was mid now first second = record {
  same = record { field = second.same.field ∙ first.same.field; num_tokens = second.same.num_tokens ∙ first.same.num_tokens; mode = second.same.mode ∙ first.same.mode; norms = second.same.norms ∙ first.same.norms };
  terms = second.terms ∙ first.terms;
  postings = second.postings ∙ first.postings;
  positions = second.positions ∙ first.positions;
}

pub same_itself : (w : FieldWriting) → IsSameTerm w w
same_itself w = record {
  kept = record { same = record { field = refl; num_tokens = refl; mode = refl; norms = refl }; terms = refl; postings = refl; positions = refl };
  key = refl;
  option = refl;
}

pub same_both : (was mid now : FieldWriting) → IsSameTerm was mid → IsSameTerm mid now → IsSameTerm was now
same_both was mid now first second = record {
  kept = kept_both was mid now first.kept second.kept;
  key = second.key ∙ first.key;
  option = second.option ∙ first.option;
}

-- ---- one posting after another

-- some of all postings were written, and the others may be
pub record Written (was now : FieldWriting) (all rest : List Posting) : Type 0 where
  pub done : List Posting
  pub split : all ≡ done ++ rest
  pub can : CanWrite now.writing.next now.writing.norms rest
  pub open_is : (docs counts numbers : List ℕ) → IsOpen was docs counts numbers → IsOpen now (docs ++ docs_in done) (counts ++ counts_in was done) (numbers ++ numbers_in done)
  pub total : now.total_term_freq ≡ was.total_term_freq + tokens_in done
  pub same : IsSameTerm was now

pub none_written : (was : FieldWriting) (all : List Posting) → CanWrite was.writing.next was.writing.norms all → Written was was all all
none_written was all can = record {
  done = [];
  split = refl;
  can = can;
  open_is = λ docs counts numbers is. subst (λ ns. IsOpen was (docs ++ []) (counts ++ []) ns) (sym (append-nil numbers)) (subst (λ ns. IsOpen was (docs ++ []) ns numbers) (sym (append-nil counts)) (subst (λ ds. IsOpen was ds counts numbers) (sym (append-nil docs)) is));
  total = omega arith;
  same = same_itself was;
}

-- what may be written after a posting
pub can_more : (now new : FieldWriting) (p : Posting) (rest : List Posting) → CanWrite now.writing.next now.writing.norms (p ∷ rest) → new.writing.next ≡ p.doc + 1 → new.writing.norms ≡ now.writing.norms → CanWrite new.writing.next new.writing.norms rest
can_more now new p rest can next norms = record {
  ascending = subst (λ n. IsAscendingFrom n (docs_in rest)) (sym next) can.ascending.1;
  fits = can.fits.1;
  kept = subst (λ o. IfSome o (λ ids. AllByRecursion (λ (q : Posting). q.doc < length ids) rest)) (sym norms) (go now.writing.norms can.kept);
  counted = can.counted.1;
  placed = can.placed.1;
}
  where
    go : (o : Option (List ℕ)) → IfSome o (λ ids. AllByRecursion (λ (q : Posting). q.doc < length ids) (p ∷ rest)) → IfSome o (λ ids. AllByRecursion (λ (q : Posting). q.doc < length ids) rest)
    go None kept = tt
    go (Some ids) kept = kept.1

-- differences of small positions are small
pub small_differences : (before : ℕ) (ps : List ℕ) (i : ℕ) → AllByRecursion (λ n. n < 2 ^ 31) ps → slice_index (differences before ps) i < 2 ^ 31
small_differences before [] i small = omega arith
small_differences before (p ∷ ps) zero small = (let first = small.0 in omega arith)
small_differences before (p ∷ ps) (suc i) small = small_differences p ps i small.1

-- one posting more
pub written_more : (was now new : FieldWriting) (all rest after : List Posting) (p : Posting) (deltas : List ℕ) → Written was now all rest → rest ≡ p ∷ after → deltas ≡ differences 0 p.positions
    → ((docs counts numbers : List ℕ) → IsOpen now docs counts numbers → IsOpen new (docs ++ p.doc ∷ []) (counts ++ recorded_count now.writing.option p.count ∷ []) (numbers ++ deltas))
    → new.total_term_freq ≡ now.total_term_freq + p.count → IsSameTerm now new → new.writing.next ≡ p.doc + 1 → Written was new all after
written_more was now new all rest after p deltas before is deltas_are more counted same next = record {
  done = before.done ++ p ∷ [];
  split = before.split ∙ ap (λ ps. before.done ++ ps) is ∙ sym (append_assoc before.done (p ∷ []) after);
  can = can_more now new p after (subst (λ ps. CanWrite now.writing.next now.writing.norms ps) is before.can) next same.kept.same.norms;
  open_is = λ docs counts numbers open_was.
      subst (λ ns. IsOpen new (docs ++ docs_in (before.done ++ p ∷ [])) (counts ++ counts_in was (before.done ++ p ∷ [])) ns) (numbers_are numbers)
      (subst (λ ns. IsOpen new (docs ++ docs_in (before.done ++ p ∷ [])) ns ((numbers ++ numbers_in before.done) ++ deltas)) (counts_are counts)
      (subst (λ ds. IsOpen new ds ((counts ++ counts_in was before.done) ++ recorded_count now.writing.option p.count ∷ []) ((numbers ++ numbers_in before.done) ++ deltas)) (docs_are docs)
      (more (docs ++ docs_in before.done) (counts ++ counts_in was before.done) (numbers ++ numbers_in before.done) (before.open_is docs counts numbers open_was))));
  total = (let first = before.total in omega (arith, first, counted, sum_by_push (λ (q : Posting). q.count) before.done p));
  same = same_both was now new before.same same;
}
  where
    docs_are : (docs : List ℕ) → (docs ++ docs_in before.done) ++ p.doc ∷ [] ≡ docs ++ docs_in (before.done ++ p ∷ [])
    docs_are docs = append_assoc docs (docs_in before.done) (p.doc ∷ []) ∙ ap (λ ds. docs ++ ds) (sym (map-append (λ (q : Posting). q.doc) before.done (p ∷ [])))

    counts_are : (counts : List ℕ) → (counts ++ counts_in was before.done) ++ recorded_count now.writing.option p.count ∷ [] ≡ counts ++ counts_in was (before.done ++ p ∷ [])
    counts_are counts =
        append_assoc counts (counts_in was before.done) (recorded_count now.writing.option p.count ∷ [])
        ∙ ap (λ o. counts ++ (counts_in was before.done ++ recorded_count o p.count ∷ [])) before.same.option
        ∙ ap (λ ns. counts ++ ns) (sym (map-append (λ (q : Posting). recorded_count was.writing.option q.count) before.done (p ∷ [])))

    numbers_join : (ps : List Posting) → numbers_in (ps ++ p ∷ []) ≡ numbers_in ps ++ differences 0 p.positions
    numbers_join [] = append-nil (differences 0 p.positions)
    numbers_join (q ∷ ps) = ap (λ ns. differences 0 q.positions ++ ns) (numbers_join ps) ∙ sym (append_assoc (differences 0 q.positions) (numbers_in ps) (differences 0 p.positions))

    numbers_are : (numbers : List ℕ) → (numbers ++ numbers_in before.done) ++ deltas ≡ numbers ++ numbers_in (before.done ++ p ∷ [])
    numbers_are numbers = append_assoc numbers (numbers_in before.done) deltas ∙ ap (λ ds. numbers ++ (numbers_in before.done ++ ds)) deltas_are ∙ ap (λ ns. numbers ++ ns) (sym (numbers_join before.done))

-- all were written
pub written_all : (was now : FieldWriting) (all rest : List Posting) (before : Written was now all rest) → rest ≡ [] → before.done ≡ all
written_all was now all rest before none = sym (before.split ∙ ap (λ ps. before.done ++ ps) none ∙ append-nil before.done)

pub all_opened : (was now : FieldWriting) (all rest : List Posting) → Written was now all rest → rest ≡ [] → (docs counts numbers : List ℕ) → IsOpen was docs counts numbers → IsOpen now (docs ++ docs_in all) (counts ++ counts_in was all) (numbers ++ numbers_in all)
all_opened was now all rest before none docs counts numbers is = subst (λ ps. IsOpen now (docs ++ docs_in ps) (counts ++ counts_in was ps) (numbers ++ numbers_in ps)) (written_all was now all rest before none) (before.open_is docs counts numbers is)

pub all_counted : (was now : FieldWriting) (all rest : List Posting) → Written was now all rest → rest ≡ [] → now.total_term_freq ≡ was.total_term_freq + tokens_in all
all_counted was now all rest before none = subst (λ ps. now.total_term_freq ≡ was.total_term_freq + tokens_in ps) (written_all was now all rest before none) before.total

-- ---- what is refused

-- a count of what is left is one of all
count_passes : (was now : FieldWriting) (all rest : List Posting) → Written was now all rest → CountsPass rest → CountsPass all
count_passes was now all rest before pass fit = pass (all_behind (λ (p : Posting). p.count < 2 ^ 32) before.done rest (subst (AllByRecursion (λ (p : Posting). p.count < 2 ^ 32)) before.split fit))

-- the blocks of a front are blocks of all
pub sums_front : (m n : ℕ) (xs ys : List ℕ) → SumsFit n (xs ++ ys) → m ≤ n → 128 * m ≤ length xs → SumsFit m xs
sums_front zero n xs ys fit le long = tt
sums_front (suc m) zero xs ys fit le long = absurd (omega arith)
sums_front (suc m) (suc n) xs ys fit le long =
    let P : List ℕ → Type 0 = λ zs. sum zs < 2 ^ 32 in
    let Q : List ℕ → Type 0 = λ zs. SumsFit n zs in (
      subst P (take-append-le 128 xs ys (omega arith)) fit.0,
      sums_front m n (drop 128 xs) ys (subst Q (drop-append-le 128 xs ys (omega arith)) fit.1) (omega arith) (omega (arith, length-drop 128 xs)),
    )

-- a sum that passes in a front passes in all
sum_passes : (was now : FieldWriting) (all rest after : List Posting) (p : Posting) (n : ℕ) (before : Written was now all rest) → rest ≡ p ∷ after → n ≡ recorded_count was.writing.option p.count → (SumsFit (length (([] ++ counts_in was before.done) ++ n ∷ []) / block_len) (([] ++ counts_in was before.done) ++ n ∷ []) → ⊥) → SumsPass was.writing.option all
sum_passes was now all rest after p n before is counted pass fit =
    let front : List ℕ = counts_in was before.done ++ n ∷ [] in
    let whole : map (λ (q : Posting). recorded_count was.writing.option q.count) all ≡ front ++ counts_in was after =
    ap (counts_in was) (before.split ∙ ap (λ ps. before.done ++ ps) is) ∙ map-append (λ (q : Posting). recorded_count was.writing.option q.count) before.done (p ∷ after)
    ∙ ap (λ k. counts_in was before.done ++ k ∷ counts_in was after) (sym counted) ∙ sym (append_assoc (counts_in was before.done) (n ∷ []) (counts_in was after)) in
    let long : length all ≡ length front + length (counts_in was after) = sym (length-map all (λ (q : Posting). recorded_count was.writing.option q.count)) ∙ ap length whole ∙ length-append front (counts_in was after) in
    let P : List ℕ → Type 0 = λ xs. SumsFit (length all / block_len) xs in
    pass (sums_front (length front / block_len) (length all / block_len) front (counts_in was after) (subst P whole fit) (omega arith) (omega arith))

-- why a posting isn't written
pub doc_refused : (fault : Fault) (was now : FieldWriting) (all rest : List Posting) → Written was now all rest → (fault ≡ faults.OutOfMemory) ⊎ ((fault ≡ faults.Limit) × CountsPass rest) → (fault ≡ faults.OutOfMemory) ⊎ ((fault ≡ faults.Limit) × (CountsPass all ⊎ SumsPass was.writing.option all))
doc_refused fault was now all rest before (inl memory) = inl memory
doc_refused fault was now all rest before (inr (limit, pass)) = inr (limit, inl (count_passes was now all rest before pass))

pub sum_refused : (fault : Fault) (was now : FieldWriting) (all rest after : List Posting) (p : Posting) (before : Written was now all rest) → rest ≡ p ∷ after → IsSumRefusal fault (([] ++ counts_in was before.done) ++ recorded_count now.writing.option p.count ∷ []) → (fault ≡ faults.OutOfMemory) ⊎ ((fault ≡ faults.Limit) × (CountsPass all ⊎ SumsPass was.writing.option all))
sum_refused fault was now all rest after p before is (inl memory) = inl memory
sum_refused fault was now all rest after p before is (inr (limit, pass)) = inr (limit, inr (sum_passes was now all rest after p (recorded_count now.writing.option p.count) before is (ap (λ o. recorded_count o p.count) before.same.option) pass))

-- nothing stands past the end of a recorder
pub none_left : (r : Recorder) (at : ℕ) → length_of r ≤ at → postings_from r at ≡ []
none_left (DocIds docs) at past = ap (map of_doc) (drop_all at docs past)
none_left (TermFrequencies counts) at past = ap (map of_count) (drop_all at counts past)
none_left (TfAndPositions occurrences) at past = ap (postings_at with_freqs_and_positions) (drop_all at occurrences past)

-- ---- a term

abbrev entry_in : List ℕ → List ℕ → List ℕ → List ℕ → Terms → Terms
entry_in key docs postings positions terms = inserted key (record { doc_freq = length docs; postings_len = length postings; positions_len = length positions }) terms

-- the tokens of a field with those of a term that was begun and written
full_tokens : (was begun full : FieldWriting) (ps : List Posting) → begun.num_tokens ≡ was.num_tokens → begun.total_term_freq ≡ 0 → full.num_tokens ≡ begun.num_tokens → full.total_term_freq ≡ begun.total_term_freq + tokens_in ps → full.num_tokens + full.total_term_freq ≡ was.num_tokens + tokens_in ps
full_tokens was begun full ps tokens none same total = omega (arith, tokens, none, same, total)

-- a term that was begun, written and closed
pub term_written : (was begun full now : FieldWriting) (key : List ℕ) (option : IndexRecordOption) (ps : List Posting) → begun.key ≡ key → begun.writing.option ≡ option
    → AreKept was begun → begun.total_term_freq ≡ 0 → IsSameTerm begun full → full.total_term_freq ≡ begun.total_term_freq + tokens_in ps → IsClosed full now (docs_in ps) (counts_in begun ps) (numbers_in ps)
    → (now.num_tokens ≡ full.num_tokens + full.total_term_freq) × (full.num_tokens + full.total_term_freq < 2 ^ 64)
    → (now.field ≡ full.field) × (now.writing.mode ≡ full.writing.mode) × (now.writing.norms ≡ full.writing.norms)
    → IsWrittenTerm was now key option ps
term_written was begun full now key option ps key_is option_is first none second total closed tokens last =
    let whole : full.num_tokens + full.total_term_freq ≡ was.num_tokens + tokens_in ps = full_tokens was begun full ps first.same.num_tokens none second.kept.same.num_tokens total in
    let o : full.writing.option ≡ option = second.option ∙ option_is in
    let n : full.writing.norms ≡ was.writing.norms = second.kept.same.norms ∙ first.same.norms in
    let terms_are : full.terms ≡ was.terms = second.kept.terms ∙ first.terms in
    let bytes : postings_of full.writing (docs_in ps) (counts_in begun ps) ≡ postings_bytes option (listed was.writing.norms) (docs_in ps) (map (λ (p : Posting). recorded_count option p.count) ps) =
    ap (λ x. postings_bytes x (listed full.writing.norms) (docs_in ps) (counts_in begun ps)) o
    ∙ ap (λ x. postings_bytes option (listed x) (docs_in ps) (counts_in begun ps)) n
    ∙ ap (λ x. postings_bytes option (listed was.writing.norms) (docs_in ps) (map (λ (p : Posting). recorded_count x p.count) ps)) option_is in
    record {
      bytes = closed.bytes;
      posted = subst (λ x. ArePosted option (docs_in ps) (map (λ (p : Posting). recorded_count x p.count) ps)) option_is (subst (λ x. ArePosted x (docs_in ps) (counts_in begun ps)) o closed.posted);
      sums_fit = subst (λ x. SumsFit (length ps / block_len) (map (λ (p : Posting). recorded_count x p.count) ps)) option_is (subst (λ n. SumsFit (n / block_len) (counts_in begun ps)) (length-map ps (λ (p : Posting). p.doc)) closed.sums_fit);
      postings_fit = subst (λ (xs : List ℕ). length xs < 2 ^ 32) bytes closed.postings_fit;
      positions_fit = closed.positions_fit;
      terms_fit = subst (λ (t : Terms). t.num_terms < 4294967295) terms_are closed.terms_fit;
      positions_are = subst (λ x. HasPositions (has_positions x) (numbers_in ps) closed.bytes) o closed.positions_are;
      postings = closed.postings ∙ ap₂ (λ xs ys. xs ++ ys) (second.kept.postings ∙ first.postings) bytes;
      positions = closed.positions ∙ ap (λ xs. (xs ++ closed.bytes, [])) (second.kept.positions ∙ first.positions);
      terms = closed.terms
          ∙ ap (λ k. entry_in k (docs_in ps) (postings_of full.writing (docs_in ps) (counts_in begun ps)) closed.bytes full.terms) (second.key ∙ key_is)
          ∙ ap (λ xs. entry_in key (docs_in ps) xs closed.bytes full.terms) bytes
          ∙ ap (entry_in key (docs_in ps) (postings_bytes option (listed was.writing.norms) (docs_in ps) (map (λ (p : Posting). recorded_count option p.count) ps)) closed.bytes) terms_are;
      tokens = tokens.0 ∙ whole;
      tokens_fit = subst (λ n. n < 2 ^ 64) whole tokens.1;
      same = (last.0 ∙ second.kept.same.field ∙ first.same.field, last.1 ∙ second.kept.same.mode ∙ first.same.mode, last.2 ∙ n);
    }

-- memory was wanting, or a term with these postings passes a limit, or would be one too many, or has too many tokens
abbrev pub IsTermRefusal : Fault → FieldWriting → IndexRecordOption → List Posting → Type 0
IsTermRefusal fault was option ps = (fault ≡ faults.OutOfMemory) ⊎ ((fault ≡ faults.Limit) × (TermPasses option (listed was.writing.norms) ps ⊎ (was.terms.num_terms ≡ 4294967295) ⊎ (2 ^ 64 ≤ was.num_tokens + tokens_in ps)))

-- why a term isn't closed
pub close_passes : (fault : Fault) (was begun full : FieldWriting) (option : IndexRecordOption) (ps : List Posting) → begun.writing.option ≡ option → begun.terms ≡ was.terms → begun.writing.norms ≡ was.writing.norms → begun.num_tokens ≡ was.num_tokens → begun.total_term_freq ≡ 0 → IsSameTerm begun full
    → full.total_term_freq ≡ begun.total_term_freq + tokens_in ps → IsCloseRefusal fault full (docs_in ps) (counts_in begun ps) (numbers_in ps) → IsTermRefusal fault was option ps
close_passes fault was begun full option ps option_is terms norms tokens none second total (inl memory) = inl memory
close_passes fault was begun full option ps option_is terms norms tokens none second total (inr limit) = inr (limit.0, go limit.1)
  where
    o : full.writing.option ≡ option
    o = second.option ∙ option_is

    bytes : postings_of full.writing (docs_in ps) (counts_in begun ps) ≡ postings_bytes option (listed was.writing.norms) (docs_in ps) (map (λ (p : Posting). recorded_count option p.count) ps)
    bytes =
        ap (λ x. postings_bytes x (listed full.writing.norms) (docs_in ps) (counts_in begun ps)) o
        ∙ ap (λ x. postings_bytes option (listed x) (docs_in ps) (counts_in begun ps)) (second.kept.same.norms ∙ norms)
        ∙ ap (λ x. postings_bytes option (listed was.writing.norms) (docs_in ps) (map (λ (p : Posting). recorded_count x p.count) ps)) option_is

    go : MeetsLimit full (docs_in ps) (counts_in begun ps) (numbers_in ps) → TermPasses option (listed was.writing.norms) ps ⊎ (was.terms.num_terms ≡ 4294967295) ⊎ (2 ^ 64 ≤ was.num_tokens + tokens_in ps)
    go (inl long) = inl (inr (inr (inl (subst (λ (xs : List ℕ). 2 ^ 32 ≤ length xs) bytes long))))
    go (inr (inl many)) = inr (inl (ap (λ (t : Terms). t.num_terms) (sym (second.kept.terms ∙ terms)) ∙ many))
    go (inr (inr (inl past))) = inr (inr (subst (λ n. 2 ^ 64 ≤ n) (full_tokens was begun full ps tokens none second.kept.same.num_tokens total) past))
    go (inr (inr (inr placed))) = inl (inr (inr (inr (placed.0, subst (λ x. HasPositions (has_positions x) (numbers_in ps) placed.0) o placed.1, placed.2))))

-- why its postings aren't written
pub write_passes : (fault : Fault) (was begun : FieldWriting) (option : IndexRecordOption) (ps : List Posting) → begun.writing.option ≡ option → (fault ≡ faults.OutOfMemory) ⊎ ((fault ≡ faults.Limit) × (CountsPass ps ⊎ SumsPass begun.writing.option ps)) → IsTermRefusal fault was option ps
write_passes fault was begun option ps is (inl memory) = inl memory
write_passes fault was begun option ps is (inr (limit, inl count)) = inr (limit, inl (inl count))
write_passes fault was begun option ps is (inr (limit, inr sums)) = inr (limit, inl (inr (inl (subst (λ o. SumsPass o ps) is sums))))
