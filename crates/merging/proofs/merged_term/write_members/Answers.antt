use Rattle.std.proofs.Common.{[], IfSome, List, None, Option, Some, ap, ap₂, arith, length, subst, suc, sym, take, ◌+◌, ◌||◌, ◌≡◌, ◌≤◌, ◌∙◌, ℕ}
use Rattle.std.proofs.lemmas.Result.{err_from_is_err_and}
use Rattle.std.specs.List.{slice_index_or}
use Rattle.std.proofs.Math.Logic.{∥∥₁_elim, ∥∥₁_map}
use Rattle.std.proofs.Props.{props}
use Rattle.codes.proofs.RecordedLengths.{anyway}
use Rattle.segment_reader.specs.Dictionaries.{Placed}
use Rattle.segment_reader.specs.Readers.{dictionary_in, info_in, postings_in}
use Rattle.merging.proofs.MembersWritten.{all_merged, mapped_at, member_found, member_refused, more_merged, some_both, written_both}
use Rattle.merging.specs.Members.{end_after, living_of, merged_in}
use Rattle.merging.specs.declared.member.Member.{Member}
use Rattle.merging.specs.Living.{has_some}
use Rattle.merging.specs.Mappings.{end_of}
use Rattle.merging.specs.Written.{AreWritten}
use Rattle.postings_writer.proofs.WrittenTerms.{kept_both}
use Rattle.merging.proofs.merged_term.write_members.Goals as goal
use Rattle.merging.proofs.merged_term.write_members.Goals.{else-some, then-some}

pub write_postings-requires-clause-known : goal.write_postings-requires-clause-known
write_postings-requires-clause-known c =
    let inside = c.loop-number-test.true in
    ∥∥₁_map c.requires.known (λ k.
    (let at = member_found k.0 k.1 c.loop-number.number c.args.members.now k.2 c.index-members-number.result c.index-members-number.is k.3 (omega (arith, inside)) in
    (k.0, at.fields, at.is)))

pub write_postings-requires-clause-info : goal.write_postings-requires-clause-info
write_postings-requires-clause-info c =
    let inside = c.loop-number-test.true in
    let i = c.loop-number.number in
    let ms = c.args.members.now in
    let m = c.index-members-number.result in
    let told : Member → List Placed = λ x. dictionary_in x.inverted_index.now c.args.field in
    c.term_info-info.ensures c.args.key.now c.requires.key
    ∙ ap (λ ds. info_in c.args.key.now (slice_index_or ds i [])) c.requires.dictionaries
    ∙ ap (info_in c.args.key.now) (mapped_at told ms i [] m (omega (arith, inside)) ∙ ap told (sym c.index-members-number.is))

pub write_postings-requires-clause-few : goal.write_postings-requires-clause-few
write_postings-requires-clause-few c =
    let inside = c.loop-number-test.true in
    ∥∥₁_elim c.requires.known (hlevel props) (λ k.
    (let at = member_found k.0 k.1 c.loop-number.number c.args.members.now k.2 c.index-members-number.result c.index-members-number.is k.3 (omega (arith, inside)) in
    let within = at.within in
    let few = k.4 in
    omega (arith, within, few)))

pub write_postings-requires-clause-next : goal.write_postings-requires-clause-next
write_postings-requires-clause-next c =
    let inside = c.loop-number-test.true in
    ∥∥₁_elim c.requires.known (hlevel props) (λ k.
    (let at = member_found k.0 k.1 c.loop-number.number c.args.members.now k.2 c.index-members-number.result c.index-members-number.is k.3 (omega (arith, inside)) in
    let base = at.base in
    let next = c.loop-number.invariant.next in
    omega (arith, base, next)))

pub write_postings-requires-clause-kept : goal.write_postings-requires-clause-kept
write_postings-requires-clause-kept c =
    let inside = c.loop-number-test.true in
    let end = end_of c.index-members-number.result.doc_ids in
    let norms = c.args.serializer.now.writing.norms in
    subst (λ o. IfSome o (λ ids. end ≤ length ids)) (sym c.loop-number.invariant.kept.same.norms) (∥∥₁_elim c.requires.known (kept-prop end norms) (λ k.
    (let at = member_found k.0 k.1 c.loop-number.number c.args.members.now k.2 c.index-members-number.result c.index-members-number.is k.3 (omega (arith, inside)) in
    go norms at.within k.5)))
  where
    kept-prop : (end : ℕ) (o : Option (List ℕ)) → IsProp (IfSome o (λ ids. end ≤ length ids))
    kept-prop end None = hlevel props
    kept-prop end (Some ids) = hlevel props

    go : {end num_docs : ℕ} (o : Option (List ℕ)) → end ≤ num_docs → IfSome o (λ ids. num_docs ≤ length ids) → IfSome o (λ ids. end ≤ length ids)
    go None within kept = tt
    go (Some ids) within kept = omega (arith, within, kept)

pub returns-in_err-wrote-clause-err : goal.returns-in_err-wrote-clause-err
returns-in_err-wrote-clause-err c schema num_docs all docs counts numbers are opened =
    let inside = c.loop-number-test.true in
    let i = c.loop-number.number in
    let ms = c.args.members.now in
    let key = c.args.key.now in
    let at = member_found schema num_docs i ms all c.index-members-number.result c.index-members-number.is are (omega (arith, inside)) in
    let inv = c.loop-number.invariant in
    let written = inv.written schema num_docs all are in
    let split = at.split c.args.field key in
    let p = err_from_is_err_and c.from_residual.result c.from_residual.ensures.1 in
    rw (p.1, p.2) (member_refused c.in_err-wrote.field-0.0 c.args.serializer.now c.loop-number.serializer counts (merged_in c.args.field key (take i ms) (take i all)) (living_of c.index-members-number.result.doc_ids (postings_in at.fields c.args.field key)) split.0 (merged_in c.args.field key ms all) written.same.option split.1
    (c.in_err-wrote.ensures.err schema at.fields _ _ _ at.is (written.open_is docs counts numbers opened)))

pub returns-in_err-wrote-clause-refused : goal.returns-in_err-wrote-clause-refused
returns-in_err-wrote-clause-refused c =
    anyway c.from_residual.result (kept_both c.args.serializer.now c.loop-number.serializer c.write_postings.new.serializer c.loop-number.invariant.kept c.in_err-wrote.ensures.refused)

pub loop-number-preserved : goal.loop-number-preserved
loop-number-preserved c =
    let inside = c.loop-number-test.true in
    let i = c.loop-number.number in
    let ms = c.args.members.now in
    let m = c.index-members-number.result in
    let key = c.args.key.now in
    let was = c.args.serializer.now in
    let new = c.write_postings.new.serializer in
    let inv = c.loop-number.invariant in
    record {
      written = λ schema num_docs all are.
          (let at = member_found schema num_docs i ms all m c.index-members-number.is are (omega (arith, inside)) in
          subst (AreWritten was new) (sym (more_merged schema num_docs i ms all m c.args.field key at))
          (written_both was c.loop-number.serializer new (merged_in c.args.field key (take i ms) (take i all)) (living_of m.doc_ids (postings_in at.fields c.args.field key)) (inv.written schema num_docs all are) (c.in_ok-wrote.ensures.ok schema at.fields at.is)));
      some = λ schema num_docs all are.
          (let at = member_found schema num_docs i ms all m c.index-members-number.is are (omega (arith, inside)) in
          either
          ∙ ap₂ (λ a b. a || b) (inv.some schema num_docs all are) (c.in_ok-wrote.ensures.some schema at.fields at.is)
          ∙ sym (some_both (merged_in c.args.field key (take i ms) (take i all)) (living_of m.doc_ids (postings_in at.fields c.args.field key)))
          ∙ ap has_some (sym (more_merged schema num_docs i ms all m c.args.field key at)));
      next = ∥∥₁_elim c.requires.known (hlevel props) (λ k.
          (let own = member_found k.0 k.1 i ms k.2 m c.index-members-number.is k.3 (omega (arith, inside)) in
          let next = c.in_ok-wrote.ensures.next in
          let ends = own.ends in
          let e = ap (λ n. end_after 0 n ms) (let e : i + 1 ≡ suc i = omega arith in e) in
          omega (arith, next, ends, e)));
      kept = ∥∥₁_elim c.requires.known (hlevel props) (λ k.
          (let own = member_found k.0 k.1 i ms k.2 m c.index-members-number.is k.3 (omega (arith, inside)) in
          kept_both was c.loop-number.serializer new inv.kept (c.in_ok-wrote.ensures.ok k.0 own.fields own.is).same.kept));
    }
  where
    either : c.if-some.some ≡ (c.loop-number.some || c.in_ok-wrote.wrote)
    either = elim c.if-some.branch [
      | then-some w ↦ w.some-is ∙ w.if-some.true ∙ sym (ap (λ b. b || c.in_ok-wrote.wrote) w.if-some.true)
      | else-some w ↦ w.some-is ∙ sym (ap (λ b. b || c.in_ok-wrote.wrote) w.if-some.false)
    ]

pub returns-clause-ok : goal.returns-clause-ok
returns-clause-ok c schema num_docs all are =
    subst (AreWritten c.args.serializer.now c.loop-number.serializer) (all_merged schema num_docs c.loop-number.number c.args.members.now all c.args.field c.args.key.now are c.loop-number-test.false) (c.loop-number.invariant.written schema num_docs all are)

pub returns-clause-some : goal.returns-clause-some
returns-clause-some c schema num_docs all are =
    c.loop-number.invariant.some schema num_docs all are ∙ ap has_some (all_merged schema num_docs c.loop-number.number c.args.members.now all c.args.field c.args.key.now are c.loop-number-test.false)
