use Rattle.std.proofs.Common.{[], List, Some, None, ap, ap₂, arith, drop, length, map, refl, subst, sym, ◌++◌, ◌+◌, ◌||◌, ◌<◌, ◌≡◌, ◌∙◌, ◌∷◌}
use Rattle.std.proofs.lemmas.Result.{err_from_is_err_and}
use Rattle.std.specs.List.{AllByRecursion}
use Rattle.docsets.specs.Entries.{Entry, first, first_count, first_positions, from, single}
use Rattle.definitions.specs.Postings.{Posting}
use Rattle.layouts.specs.Positions.{differences}
use Rattle.merging.proofs.LivingEntries.{rest_within}
use Rattle.merging.proofs.Writes.{all_written, can_write, dead_passed, entry_there, living_written, none_here, none_left, number_within_end, on_document, some_here, some_of_all, write_refused}
use Rattle.merging.specs.Living.{has_some, living_in}
use Rattle.merging.specs.Mappings.{new_doc}
use Rattle.postings_writer.specs.FieldWriting.{FieldWriting, IsOpen}
use Rattle.postings_writer.specs.TermWriting.{IsSumRefusal, recorded_count}
use Rattle.postings_writer.proofs.WrittenTerms.{Written, none_written}
use Rattle.segment_postings.specs.Cursors.{entries_left}
use Rattle.segment_postings.specs.CursorsLaws.{rising_left, single_left}
use Rattle.merging.proofs.living_postings.write_postings.Goals as goal
use Rattle.merging.proofs.living_postings.write_postings.Goals.{in-Some+in_ok-write_posting, in_default}

pub loop-doc-init : goal.loop-doc-init
loop-doc-init c =
    let m = c.args.mapping.now in
    let es = entries_left c.args.postings.now in
    let w = c.args.serializer.now in
    let next = c.requires.next in
    record {
      written = none_written w (living_in m es) (can_write m es w.writing.next w.writing.norms (rising_left c.args.postings.now) (single_left c.args.postings.now) c.requires.counted c.requires.few next c.requires.kept);
      some = refl;
      within = c.requires.within;
      counted = c.requires.counted;
      at = c.doc-doc.ensures;
      next = omega (arith, next);
    }

pub write_posting-requires-clause-on : goal.write_posting-requires-clause-on
write_posting-requires-clause-on c = on_document (entries_left c.loop-doc.postings) (rising_left c.loop-doc.postings) (λ end. c.loop-doc-test.true (c.loop-doc.invariant.at ∙ end))

pub returns-in_err-write_posting-clause-err : goal.returns-in_err-write_posting-clause-err
returns-in_err-write_posting-clause-err c docs counts numbers is =
    let m = c.args.mapping.now in
    let all = living_in m (entries_left c.args.postings.now) in
    let es = entries_left c.loop-doc.postings in
    let was = c.args.serializer.now in
    let now = c.loop-doc.serializer in
    let inv = c.loop-doc.invariant in
    let at = entry_there es (λ end. c.loop-doc-test.true (inv.at ∙ end)) in
    let e = at.0 in
    let rest = at.1 in
    let written : Written was now all (living_in m (e ∷ rest)) = subst (λ xs. Written was now all (living_in m xs)) at.2 inv.written in
    let number : Some c.in-Some.new_doc ≡ new_doc m e.doc = sym c.in-Some.is ∙ c.get_new_doc_id.ensures ∙ ap (new_doc m) (inv.at ∙ ap first at.2) in
    let p = err_from_is_err_and c.from_residual.result c.from_residual.ensures.1 in
    rw (p.1, p.2) (write_refused c.in_err-write_posting.field-0.0 m was now all e rest counts c.in-Some.new_doc written number
    (subst (λ xs. IsSumRefusal c.in_err-write_posting.field-0.0 ((counts ++ map (λ (q : Posting). recorded_count was.writing.option q.count) written.done) ++ recorded_count now.writing.option (first_count xs) ∷ [])) at.2
    (c.in_err-write_posting.ensures.err _ _ _ (written.open_is docs counts numbers is))))

pub loop-doc-smaller : goal.loop-doc-smaller
loop-doc-smaller c =
    let es : List Entry = entries_left c.loop-doc.postings in
    let left : List Entry = entries_left c.advance-doc.new.self in
    let at = entry_there es (λ end. c.loop-doc-test.true (c.loop-doc.invariant.at ∙ end)) in
    let there : entries_left c.match-get_new_doc_id.postings ≡ es = elim c.match-get_new_doc_id.branch [
      | in-Some+in_ok-write_posting w ↦ ap entries_left w.postings-is ∙ w.in_ok-write_posting.ensures.entries
      | in_default w ↦ ap entries_left w.postings-is
    ] in
    let rest_is = ap length (c.advance-doc.ensures.rest ∙ ap (drop 1) (there ∙ at.2)) in
    let one_more = ap length at.2 in
    let goal : length left < length es = omega (arith, rest_is, one_more) in goal

pub loop-doc-preserved : goal.loop-doc-preserved
loop-doc-preserved c =
    let m = c.args.mapping.now in
    let all = living_in m (entries_left c.args.postings.now) in
    let es = entries_left c.loop-doc.postings in
    let was = c.args.serializer.now in
    let now = c.loop-doc.serializer in
    let inv = c.loop-doc.invariant in
    let at = entry_there es (λ end. c.loop-doc-test.true (inv.at ∙ end)) in
    let e : Entry = at.0 in
    let rest : List Entry = at.1 in
    let doc : c.loop-doc.doc ≡ e.doc = inv.at ∙ ap first at.2 in
    let written : Written was now all (living_in m (e ∷ rest)) = subst (λ xs. Written was now all (living_in m xs)) at.2 inv.written in
    let some : (c.loop-doc.some || has_some (living_in m (e ∷ rest))) ≡ has_some all = subst (λ xs. (c.loop-doc.some || has_some (living_in m xs)) ≡ has_some all) at.2 inv.some in
    let within : from (length m.flags) rest ≡ [] = rest_within (length m.flags) e rest (subst (λ xs. from (length m.flags) xs ≡ []) at.2 inv.within) in
    let counted : AllByRecursion (λ (x : Entry). 0 < x.count) (e ∷ rest) = subst (AllByRecursion (λ (x : Entry). 0 < x.count)) at.2 inv.counted in
    let left : List Entry = entries_left c.advance-doc.new.self in
    elim c.match-get_new_doc_id.branch [
      | in-Some+in_ok-write_posting w ↦
          let done = w.in_ok-write_posting.ensures in
          let rest_is : left ≡ rest = c.advance-doc.ensures.rest ∙ ap (drop 1) (ap entries_left w.postings-is ∙ done.entries ∙ at.2) in
          let number : Some w.in-Some.new_doc ≡ new_doc m e.doc = sym w.in-Some.is ∙ c.get_new_doc_id.ensures ∙ ap (new_doc m) doc in
          let new = w.write_posting.new.serializer in
          let further : Written was new all (living_in m rest) = living_written m was now all e rest written new w.in-Some.new_doc number
          (λ ds cs ns opened. subst (λ xs. IsOpen new (ds ++ w.in-Some.new_doc ∷ []) (cs ++ recorded_count now.writing.option (first_count xs) ∷ []) (ns ++ differences 0 (single (first_positions xs)))) at.2 (done.written ds cs ns opened))
          (done.total ∙ ap (λ xs. now.total_term_freq + first_count xs) at.2) done.same done.next in
          let small = number_within_end m e.doc w.in-Some.new_doc number in
          let next = ap (λ (s : FieldWriting). s.writing.next) w.serializer-is ∙ done.next in
          record {
            written = subst (λ xs. Written was c.match-get_new_doc_id.serializer all (living_in m xs)) (sym rest_is) (subst (λ s. Written was s all (living_in m rest)) (sym w.serializer-is) further);
            some = ap₂ (λ b xs. b || has_some (living_in m xs)) w.some-is rest_is ∙ some_here m was now all e rest written c.loop-doc.some w.in-Some.new_doc number some;
            within = subst (λ xs. from (length m.flags) xs ≡ []) (sym rest_is) within;
            counted = subst (AllByRecursion (λ (x : Entry). 0 < x.count)) (sym rest_is) counted.1;
            at = c.advance-doc.ensures.at;
            next = omega (arith, small, next);
          }
      | in_default w ↦
          let rest_is : left ≡ rest = c.advance-doc.ensures.rest ∙ ap (drop 1) (ap entries_left w.postings-is ∙ at.2) in
          let none : None ≡ new_doc m e.doc = sym w.in_default.is ∙ c.get_new_doc_id.ensures ∙ ap (new_doc m) doc in
          let before = inv.next in
          let next = ap (λ (s : FieldWriting). s.writing.next) w.serializer-is in
          record {
            written = subst (λ xs. Written was c.match-get_new_doc_id.serializer all (living_in m xs)) (sym rest_is) (subst (λ s. Written was s all (living_in m rest)) (sym w.serializer-is) (dead_passed m was now all e rest written none));
            some = ap₂ (λ b xs. b || has_some (living_in m xs)) w.some-is rest_is ∙ none_here m was now all e rest written c.loop-doc.some none some;
            within = subst (λ xs. from (length m.flags) xs ≡ []) (sym rest_is) within;
            counted = subst (AllByRecursion (λ (x : Entry). 0 < x.count)) (sym rest_is) counted.1;
            at = c.advance-doc.ensures.at;
            next = omega (arith, before, next);
          }
    ]

pub returns-clause-ok : goal.returns-clause-ok
returns-clause-ok c =
    let es = entries_left c.loop-doc.postings in
    let inv = c.loop-doc.invariant in
    let end = c.loop-doc-test.false in
    all_written c.args.mapping.now c.args.serializer.now c.loop-doc.serializer (living_in c.args.mapping.now (entries_left c.args.postings.now)) es inv.written (none_left es (rising_left c.loop-doc.postings) (sym inv.at ∙ end))

pub returns-clause-some : goal.returns-clause-some
returns-clause-some c =
    let es = entries_left c.loop-doc.postings in
    let inv = c.loop-doc.invariant in
    let end = c.loop-doc-test.false in
    some_of_all c.args.mapping.now c.loop-doc.some (living_in c.args.mapping.now (entries_left c.args.postings.now)) es inv.some (none_left es (rising_left c.loop-doc.postings) (sym inv.at ∙ end))
