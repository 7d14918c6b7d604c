-- Members that are written one after another.
use Rattle.std.proofs.Common.{[], List, ap, append-nil, ap₂, append_assoc, arith, inl, inr, length, map, refl, subst, suc, sym, take, zero, ◌++◌, ◌+◌, ◌<◌, ◌||◌, ◌≡◌, ◌≤◌, ◌∙◌, ◌∷◌, ℕ}
use Rattle.std.proofs.lemmas.List.{map-append}
use Rattle.std.proofs.lemmas.List.Sums.{sum_by-append}
use Rattle.std.specs.List.{slice_index_or}
use Rattle.definitions.proofs.Lists.{take_whole}
use Rattle.definitions.specs.Merging.{merged_postings, num_living, renumbered}
use Rattle.definitions.specs.Postings.{Posting}
use Rattle.definitions.specs.Schema.{Schema}
use Rattle.definitions.specs.declared.fault.Fault.{Fault}
use Rattle.segment_reader.specs.Readers.{postings_in}
use Rattle.layouts.specs.InvertedIndexes.{IndexedField}
use Rattle.layouts.specs.Positions.{differences, position_numbers}
use Rattle.merging.specs.Members.{AreMembers, IsMember, end_after, living_of, merged_in, parts_of}
use Rattle.merging.specs.declared.member.Member.{Member}
use Rattle.merging.proofs.Writes.{front_passes}
use Rattle.merging.specs.Living.{has_some}
use Rattle.merging.specs.Mappings.{end_of}
use Rattle.merging.specs.Written.{AreWritten, counts_in}
use Rattle.postings_writer.specs.FieldWriting.{FieldWriting, IsOpen}
use Rattle.postings_writer.specs.TermWriting.{recorded_count, IsSumRefusal}
use Rattle.postings_writer.proofs.WrittenTerms.{same_both}

-- ---- one writing after another

numbers_both : (ps qs : List (List ℕ)) → position_numbers (ps ++ qs) ≡ position_numbers ps ++ position_numbers qs
numbers_both [] qs = refl
numbers_both (p ∷ ps) qs = ap (λ ns. differences 0 p ++ ns) (numbers_both ps qs) ∙ sym (append_assoc (differences 0 p) (position_numbers ps) (position_numbers qs))

pub counts_same : (was mid : FieldWriting) (qs : List Posting) → mid.writing.option ≡ was.writing.option → counts_in mid qs ≡ counts_in was qs
counts_same was mid qs same = ap (λ o. map (λ (p : Posting). recorded_count o p.count) qs) same

pub written_both : (was mid now : FieldWriting) (ps qs : List Posting) → AreWritten was mid ps → AreWritten mid now qs → AreWritten was now (ps ++ qs)
written_both was mid now ps qs first second = record {
  open_is = λ docs counts numbers is.
      (let e = second.open_is (docs ++ map (λ (p : Posting). p.doc) ps) (counts ++ counts_in was ps) (numbers ++ position_numbers (map (λ (p : Posting). p.positions) ps)) (first.open_is docs counts numbers is) in
      subst (λ ds. IsOpen now ds (counts ++ counts_in was (ps ++ qs)) (numbers ++ position_numbers (map (λ (p : Posting). p.positions) (ps ++ qs)))) (docs_are docs)
      (subst (λ cs. IsOpen now ((docs ++ map (λ (p : Posting). p.doc) ps) ++ map (λ (p : Posting). p.doc) qs) cs (numbers ++ position_numbers (map (λ (p : Posting). p.positions) (ps ++ qs)))) (counts_are counts)
      (subst (λ ns. IsOpen now ((docs ++ map (λ (p : Posting). p.doc) ps) ++ map (λ (p : Posting). p.doc) qs) ((counts ++ counts_in was ps) ++ counts_in mid qs) ns) (numbers_are numbers) e)));
  total = (let before = first.total in let after = second.total in omega (arith, before, after, sum_by-append (λ (p : Posting). p.count) ps qs));
  same = same_both was mid now first.same second.same;
}
  where
    docs_are : (docs : List ℕ) → (docs ++ map (λ (p : Posting). p.doc) ps) ++ map (λ (p : Posting). p.doc) qs ≡ docs ++ map (λ (p : Posting). p.doc) (ps ++ qs)
    docs_are docs = append_assoc docs (map (λ (p : Posting). p.doc) ps) (map (λ (p : Posting). p.doc) qs) ∙ ap (λ ds. docs ++ ds) (sym (map-append (λ (p : Posting). p.doc) ps qs))

    counts_are : (counts : List ℕ) → (counts ++ counts_in was ps) ++ counts_in mid qs ≡ counts ++ counts_in was (ps ++ qs)
    counts_are counts = append_assoc counts (counts_in was ps) (counts_in mid qs) ∙ ap (λ cs. counts ++ (counts_in was ps ++ cs)) (counts_same was mid qs first.same.option) ∙ ap (λ cs. counts ++ cs) (sym (map-append (λ (p : Posting). recorded_count was.writing.option p.count) ps qs))

    numbers_are : (numbers : List ℕ) → (numbers ++ position_numbers (map (λ (p : Posting). p.positions) ps)) ++ position_numbers (map (λ (p : Posting). p.positions) qs) ≡ numbers ++ position_numbers (map (λ (p : Posting). p.positions) (ps ++ qs))
    numbers_are numbers =
        append_assoc numbers (position_numbers (map (λ (p : Posting). p.positions) ps)) (position_numbers (map (λ (p : Posting). p.positions) qs))
        ∙ ap (λ ns. numbers ++ ns) (sym (numbers_both (map (λ (p : Posting). p.positions) ps) (map (λ (p : Posting). p.positions) qs)) ∙ ap position_numbers (sym (map-append (λ (p : Posting). p.positions) ps qs)))

pub some_both : (ps qs : List Posting) → has_some (ps ++ qs) ≡ (has_some ps || has_some qs)
some_both [] qs = refl
some_both (p ∷ ps) qs = refl

-- ---- one member

pub record MemberAt (schema : Schema) (end next k : ℕ) (ms : List Member) (all : List (List IndexedField)) (m : Member) : Type 0 where
  pub fields : List IndexedField
  pub is : IsMember schema m fields
  pub base : m.doc_ids.base ≡ end_after next k ms
  pub ends : end_of m.doc_ids ≡ end_after next (suc k) ms
  pub within : end_of m.doc_ids ≤ end
  pub more : (field : ℕ) (key : List ℕ) → merged_in field key (take (suc k) ms) (take (suc k) all) ≡ merged_in field key (take k ms) (take k all) ++ living_of m.doc_ids (postings_in fields field key)
  pub split : (field : ℕ) (key : List ℕ) → (rest : List Posting) × (merged_in field key ms all ≡ merged_in field key (take k ms) (take k all) ++ (living_of m.doc_ids (postings_in fields field key) ++ rest))

pub ends_rise : (schema : Schema) (next end : ℕ) (ms : List Member) (all : List (List IndexedField)) → AreMembers schema next end ms all → next ≤ end
ends_rise schema next end [] [] are = (let e = are in omega (arith, e))
ends_rise schema next end [] (fields ∷ all) are = absurd are
ends_rise schema next end (m ∷ ms) [] are = absurd are
ends_rise schema next end (m ∷ ms) (fields ∷ all) are =
    let later = ends_rise schema (end_of m.doc_ids) end ms all are.2 in
    let base = are.1 in
    omega (arith, later, base)

pub member_at : (schema : Schema) (next end k : ℕ) (ms : List Member) (all : List (List IndexedField)) (d : Member) → AreMembers schema next end ms all → k < length ms → MemberAt schema end next k ms all (slice_index_or ms k d)
member_at schema next end k [] all d are within = absurd (omega (arith, within))
member_at schema next end k (m ∷ ms) [] d are within = absurd are
member_at schema next end zero (m ∷ ms) (fields ∷ all) d are within = record {
  fields = fields;
  is = are.0;
  base = are.1;
  ends = refl;
  within = ends_rise schema (end_of m.doc_ids) end ms all are.2;
  more = λ field key. append-nil (living_of m.doc_ids (postings_in fields field key));
  split = λ field key. (merged_in field key ms all, refl);
}
member_at schema next end (suc k) (m ∷ ms) (fields ∷ all) d are within =
    let later = member_at schema (end_of m.doc_ids) end k ms all d are.2 (omega (arith, within)) in
    record {
      fields = later.fields;
      is = later.is;
      base = later.base;
      ends = later.ends;
      within = later.within;
      more = λ field key. ap (λ ps. living_of m.doc_ids (postings_in fields field key) ++ ps) (later.more field key) ∙ sym (append_assoc (living_of m.doc_ids (postings_in fields field key)) (merged_in field key (take k ms) (take k all)) (living_of (slice_index_or ms k d).doc_ids (postings_in later.fields field key)));
      split = λ field key.
          (let rest = later.split field key in
          (rest.0, ap (λ ps. living_of m.doc_ids (postings_in fields field key) ++ ps) rest.1 ∙ sym (append_assoc (living_of m.doc_ids (postings_in fields field key)) (merged_in field key (take k ms) (take k all)) (living_of (slice_index_or ms k d).doc_ids (postings_in later.fields field key) ++ rest.0))));
    }

same_many : (schema : Schema) (next end : ℕ) (ms : List Member) (all : List (List IndexedField)) → AreMembers schema next end ms all → length all ≡ length ms
same_many schema next end [] [] are = refl
same_many schema next end [] (fields ∷ all) are = absurd are
same_many schema next end (m ∷ ms) [] are = absurd are
same_many schema next end (m ∷ ms) (fields ∷ all) are = ap suc (same_many schema (end_of m.doc_ids) end ms all are.2)

pub all_merged : (schema : Schema) (end k : ℕ) (ms : List Member) (all : List (List IndexedField)) (field : ℕ) (key : List ℕ) → AreMembers schema 0 end ms all → length ms ≤ k → merged_in field key (take k ms) (take k all) ≡ merged_in field key ms all
all_merged schema end k ms all field key are long = (let many = same_many schema 0 end ms all are in ap₂ (merged_in field key) (take_whole k ms long) (take_whole k all (omega (arith, many, long))))

-- ---- what is refused

pub member_refused : (fault : Fault) (was mid : FieldWriting) (counts : List ℕ) (before here rest all : List Posting) → mid.writing.option ≡ was.writing.option → all ≡ before ++ (here ++ rest) → IsSumRefusal fault ((counts ++ counts_in was before) ++ counts_in mid here) → IsSumRefusal fault (counts ++ counts_in was all)
member_refused fault was mid counts before here rest all option is (inl memory) = inl memory
member_refused fault was mid counts before here rest all option is (inr (limit, pass)) = inr (limit, front_passes ((counts ++ counts_in was before) ++ counts_in mid here) (counts_in was rest) (counts ++ counts_in was all) whole pass)
  where
    whole : counts ++ counts_in was all ≡ ((counts ++ counts_in was before) ++ counts_in mid here) ++ counts_in was rest
    whole =
        ap (λ ps. counts ++ counts_in was ps) is
        ∙ ap (λ cs. counts ++ cs) (map-append (λ (p : Posting). recorded_count was.writing.option p.count) before (here ++ rest) ∙ ap (λ cs. counts_in was before ++ cs) (map-append (λ (p : Posting). recorded_count was.writing.option p.count) here rest))
        ∙ ap (λ cs. counts ++ (counts_in was before ++ (cs ++ counts_in was rest))) (sym (counts_same was mid here option))
        ∙ sym (append_assoc counts (counts_in was before) (counts_in mid here ++ counts_in was rest))
        ∙ sym (append_assoc (counts ++ counts_in was before) (counts_in mid here) (counts_in was rest))

-- ---- dictionaries of members

pub mapped_at : {X Y : Type 0} (f : X → Y) (xs : List X) (k : ℕ) (e : Y) (d : X) → k < length xs → slice_index_or (map f xs) k e ≡ f (slice_index_or xs k d)
mapped_at f [] k e d within = absurd (omega (arith, within))
mapped_at f (x ∷ xs) zero e d within = refl
mapped_at f (x ∷ xs) (suc k) e d within = mapped_at f xs k e d (omega (arith, within))

pub member_found : (schema : Schema) (end k : ℕ) (ms : List Member) (all : List (List IndexedField)) (m : Member) → m ≡ slice_index_or ms k m → AreMembers schema 0 end ms all → k < length ms → MemberAt schema end 0 k ms all m
member_found schema end k ms all m is are within = subst (MemberAt schema end 0 k ms all) (sym is) (member_at schema 0 end k ms all m are within)

pub more_merged : (schema : Schema) (end k : ℕ) (ms : List Member) (all : List (List IndexedField)) (m : Member) (field : ℕ) (key : List ℕ) (at : MemberAt schema end 0 k ms all m) → merged_in field key (take (k + 1) ms) (take (k + 1) all) ≡ merged_in field key (take k ms) (take k all) ++ living_of m.doc_ids (postings_in at.fields field key)
more_merged schema end k ms all m field key at = ap (λ n. merged_in field key (take n ms) (take n all)) (let e : k + 1 ≡ suc k = omega arith in e) ∙ at.more field key

-- ---- the words of the definitions

pub as_defined : (schema : Schema) (next end : ℕ) (ms : List Member) (all : List (List IndexedField)) (field : ℕ) (key : List ℕ) → AreMembers schema next end ms all → merged_in field key ms all ≡ merged_postings next (parts_of field key ms all)
as_defined schema next end [] all field key are = refl
as_defined schema next end (m ∷ ms) [] field key are = absurd are
as_defined schema next end (m ∷ ms) (fields ∷ all) field key are =
    let base : m.doc_ids.base ≡ next = are.1 in
    ap₂ (λ ps qs. ps ++ qs)
    (ap (λ n. renumbered n m.doc_ids.flags (postings_in fields field key)) base)
    (as_defined schema (end_of m.doc_ids) end ms all field key are.2 ∙ ap (λ n. merged_postings (n + num_living m.doc_ids.flags) (parts_of field key ms all)) base)
