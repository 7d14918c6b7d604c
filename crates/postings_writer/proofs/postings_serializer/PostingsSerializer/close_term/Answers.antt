use Rattle.std.proofs.Common.{ap, length, subst, sym, ◌++◌, ◌<◌, ◌^◌, ◌∙◌, List, ℕ}
use Rattle.std.proofs.lemmas.Result.{err_from_is_err_and}
use Rattle.postings_writer.proofs.WrittenPostings.{written_closed, written_posted, written_sums}
use Rattle.postings_writer.proofs.postings_serializer.PostingsSerializer.close_term.Goals as goal

pub returns-in_err-append_to-clause-err : goal.returns-in_err-append_to-clause-err
returns-in_err-append_to-clause-err c docs counts a many =
    let same = written_closed _ c.args.self.now c.write_rest.new.self docs counts c.args.doc_freq c.self.view_is c.in_ok-write_rest.ensures c.self.invariant.waiting_fit a many in
    let p = err_from_is_err_and c.from_residual-in_err-append_to.result c.from_residual-in_err-append_to.ensures.1 in
    rw (p.1, p.2, sym same) c.in_err-append_to.ensures.err

pub returns-clause-ok : goal.returns-clause-ok
returns-clause-ok c docs counts a many = c.in_ok-append_to.ensures.ok ∙ ap (λ xs. c.args.output.now.items ++ xs) (written_closed _ c.args.self.now c.write_rest.new.self docs counts c.args.doc_freq c.self.view_is c.in_ok-write_rest.ensures c.self.invariant.waiting_fit a many)

pub returns-clause-within : goal.returns-clause-within
returns-clause-within c docs counts a many =
    let P : List ℕ → Type 0 = λ xs. length xs < 2 ^ 32 in
    subst P (written_closed _ c.args.self.now c.write_rest.new.self docs counts c.args.doc_freq c.self.view_is c.in_ok-write_rest.ensures c.self.invariant.waiting_fit a many) c.in_ok-append_to.ensures.within

pub returns-clause-posted : goal.returns-clause-posted
returns-clause-posted c docs counts a = written_posted _ c.args.self.now docs counts c.self.view_is c.self.invariant.waiting_fit a

pub returns-in_err-write_rest-clause-posted : goal.returns-in_err-write_rest-clause-posted
returns-in_err-write_rest-clause-posted c docs counts a = written_posted _ c.args.self.now docs counts c.self.view_is c.self.invariant.waiting_fit a

pub returns-in_err-append_to-clause-posted : goal.returns-in_err-append_to-clause-posted
returns-in_err-append_to-clause-posted c docs counts a = written_posted _ c.args.self.now docs counts c.self.view_is c.self.invariant.waiting_fit a

pub returns-clause-sums : goal.returns-clause-sums
returns-clause-sums c docs counts a = written_sums _ c.args.self.now docs counts c.self.view_is c.self.invariant.waiting_fit a

pub returns-in_err-write_rest-clause-sums : goal.returns-in_err-write_rest-clause-sums
returns-in_err-write_rest-clause-sums c docs counts a = written_sums _ c.args.self.now docs counts c.self.view_is c.self.invariant.waiting_fit a

pub returns-in_err-append_to-clause-sums : goal.returns-in_err-append_to-clause-sums
returns-in_err-append_to-clause-sums c docs counts a = written_sums _ c.args.self.now docs counts c.self.view_is c.self.invariant.waiting_fit a
