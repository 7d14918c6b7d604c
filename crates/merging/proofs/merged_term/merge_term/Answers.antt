use Rattle.std.proofs.Common.{[], Bor, IfSome, List, Option, ap, cond, length, map, option_map, subst, sym, ◌≡◌, ◌≤◌, ◌∙◌, ℕ}
use Rattle.std.proofs.Math.Logic.{∥∥₁_map}
use Rattle.std.proofs.lemmas.Result.{err_from_is_err_and}
use Rattle.definitions.specs.Postings.{Posting}
use Rattle.definitions.specs.Schema.{basic}
use Rattle.layouts.specs.Positions.{position_numbers}
use Rattle.merging.proofs.TermMerged.{close_refused, merged_passed, merged_written, write_refused}
use Rattle.merging.specs.Members.{merged_in}
use Rattle.merging.specs.MergedTerm.{IsMergedTerm, IsTermRefusal}
use Rattle.postings_writer.specs.TermWriting.{recorded_count}
use Rattle.postings_writer.proofs.WrittenTerms.{close_passes, term_written}
use Rattle.merging.proofs.merged_term.merge_term.Goals as goal

pub write_members-requires-clause-known : goal.write_members-requires-clause-known
write_members-requires-clause-known c = ∥∥₁_map c.requires.known (λ k. (k.0, k.1, k.2, k.3, k.4, subst (λ (o : Option (List ℕ)). IfSome o (λ ids. k.1 ≤ length ids)) (sym c.in_ok-new_term.ensures.kept.same.norms) k.5))

pub returns-in_err-write_members-clause-err : goal.returns-in_err-write_members-clause-err
returns-in_err-write_members-clause-err c schema num_docs all key are first =
    let own : c.in-Some.key.now ≡ key = (let e = ap (option_map (λ (k : Bor (List ℕ)). k.now)) (sym c.in-Some.is) ∙ c.key.ensures ∙ first in cc) in
    let w = c.new_term.new.self in
    let begun = c.in_ok-new_term.ensures in
    let p = err_from_is_err_and c.from_residual-in_err-write_members.result c.from_residual-in_err-write_members.ensures.1 in
    rw (p.1, p.2) (subst (λ k. IsTermRefusal c.in_err-write_members.field-0.0 c.args.serializer.now (cond c.args.record_term_freq c.args.serializer.now.writing.mode basic) (merged_in c.args.field k c.args.members.now all)) own
    (write_refused c.in_err-write_members.field-0.0 c.args.serializer.now w _ (merged_in c.args.field c.in-Some.key.now c.args.members.now all) begun.option (c.in_err-write_members.ensures.err schema num_docs all [] [] [] are begun.ready)))

pub returns-in_err-close_term-clause-err : goal.returns-in_err-close_term-clause-err
returns-in_err-close_term-clause-err c schema num_docs all key are first =
    let own : c.in-Some.key.now ≡ key = (let e = ap (option_map (λ (k : Bor (List ℕ)). k.now)) (sym c.in-Some.is) ∙ c.key.ensures ∙ first in cc) in
    let w = c.new_term.new.self in
    let ps = merged_in c.args.field c.in-Some.key.now c.args.members.now all in
    let docs = map (λ (p : Posting). p.doc) ps in
    let counts = map (λ (p : Posting). recorded_count w.writing.option p.count) ps in
    let numbers = position_numbers (map (λ (p : Posting). p.positions) ps) in
    let begun = c.in_ok-new_term.ensures in
    let written = c.in_ok-write_members.ensures.ok schema num_docs all are in
    let p = err_from_is_err_and c.from_residual-in_err-close_term.result c.from_residual-in_err-close_term.ensures.1 in
    rw (p.1, p.2) (subst (λ k. IsTermRefusal c.in_err-close_term.field-0.0 c.args.serializer.now (cond c.args.record_term_freq c.args.serializer.now.writing.mode basic) (merged_in c.args.field k c.args.members.now all)) own
    (close_refused c.in_err-close_term.field-0.0 c.args.serializer.now _ ps (sym c.if-branch.true ∙ c.in_ok-write_members.ensures.some schema num_docs all are)
    (close_passes c.in_err-close_term.field-0.0 c.args.serializer.now w c.write_members.new.serializer _ ps begun.option begun.kept.terms begun.kept.same.norms begun.kept.same.num_tokens begun.total written.same written.total (c.in_err-close_term.ensures.err docs counts numbers (written.open_is [] [] [] begun.ready)))))

pub returns-in_ok-close_term-clause-ok : goal.returns-in_ok-close_term-clause-ok
returns-in_ok-close_term-clause-ok c schema num_docs all key are first =
    let own : c.in-Some.key.now ≡ key = (let e = ap (option_map (λ (k : Bor (List ℕ)). k.now)) (sym c.in-Some.is) ∙ c.key.ensures ∙ first in cc) in
    let w = c.new_term.new.self in
    let ps = merged_in c.args.field c.in-Some.key.now c.args.members.now all in
    let docs = map (λ (p : Posting). p.doc) ps in
    let counts = map (λ (p : Posting). recorded_count w.writing.option p.count) ps in
    let numbers = position_numbers (map (λ (p : Posting). p.positions) ps) in
    let begun = c.in_ok-new_term.ensures in
    let done = c.in_ok-write_members.ensures in
    let written = done.ok schema num_docs all are in
    subst (λ k. IsMergedTerm c.args.serializer.now c.close_term.new.self k (cond c.args.record_term_freq c.args.serializer.now.writing.mode basic) (merged_in c.args.field k c.args.members.now all)) own
    (merged_written c.args.serializer.now c.close_term.new.self c.in-Some.key.now _ ps (sym c.if-branch.true ∙ done.some schema num_docs all are)
    (term_written c.args.serializer.now w c.write_members.new.serializer c.close_term.new.self c.in-Some.key.now _ ps begun.key begun.option begun.kept begun.total written.same written.total (c.in_ok-close_term.ensures.ok docs counts numbers (written.open_is [] [] [] begun.ready)) c.in_ok-close_term.ensures.tokens c.in_ok-close_term.ensures.same))

pub returns-else-branch-clause-ok : goal.returns-else-branch-clause-ok
returns-else-branch-clause-ok c schema num_docs all key are first =
    let own : c.in-Some.key.now ≡ key = (let e = ap (option_map (λ (k : Bor (List ℕ)). k.now)) (sym c.in-Some.is) ∙ c.key.ensures ∙ first in cc) in
    let begun = c.in_ok-new_term.ensures in
    let done = c.in_ok-write_members.ensures in
    subst (λ k. IsMergedTerm c.args.serializer.now c.write_members.new.serializer k (cond c.args.record_term_freq c.args.serializer.now.writing.mode basic) (merged_in c.args.field k c.args.members.now all)) own
    (merged_passed c.args.serializer.now c.new_term.new.self c.write_members.new.serializer c.in-Some.key.now _ (merged_in c.args.field c.in-Some.key.now c.args.members.now all) (sym c.if-branch.false ∙ done.some schema num_docs all are) begun.ready begun.kept (done.ok schema num_docs all are))
