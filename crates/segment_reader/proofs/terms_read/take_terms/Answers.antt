use Rattle.std.proofs.Common.{[], List, arith, refl, subst, sym, ℕ}
use Rattle.std.proofs.lemmas.Result.{err_from_is_err_and}
use Rattle.front_coding.specs.declared.term_starts.TermStart.{TermStart}
use Rattle.layouts.specs.TermSections.{block_size}
use Rattle.segment_reader.proofs.HeadersTaken.{bytes_drop}
use Rattle.segment_reader.proofs.TermsLoop.{Reading, all_read, no_more, nothing_read, one_more}
use Rattle.segment_reader.proofs.terms_read.take_terms.Goals as goal

pub loop-number-init : goal.loop-number-init
loop-number-init c =
    let R : List ℕ → List TermStart → Type 0 = λ key starts. Reading (block_size c.args.front_coded) c.args.section.now c.args.start c.args.lengths.postings c.args.lengths.positions c.args.num_terms 0 key starts c.args.start 0 in
    subst (λ key. R key c.new-starts.result.items) (sym c.new-key.ensures.items) (subst (R []) (sym c.new-starts.ensures.items) (nothing_read (block_size c.args.front_coded) c.args.section.now c.args.start c.args.lengths.postings c.args.lengths.positions c.args.num_terms (bytes_drop c.args.start.entry c.args.section.now (λ i. (let fits = c.type_inv.section i in omega (arith, fits)))) c.requires.entry c.requires.postings c.requires.positions))

pub take_at-requires : goal.take_at-requires
take_at-requires c = c.loop-number.invariant.within

pub returns-in_err-end-clause-err : goal.returns-in_err-end-clause-err
returns-in_err-end-clause-err c =
    let p = err_from_is_err_and c.from_residual-in_err-end.result c.from_residual-in_err-end.ensures.1 in
    rw (p.1, p.2) (λ other. let refused = c.in_err-end.ensures.err other in (refused.0, no_more (block_size c.args.front_coded) c.args.section.now c.args.start c.args.lengths.postings c.args.lengths.positions c.args.num_terms c.loop-number.number c.loop-number.key.items c.loop-number.starts.items c.loop-number.end c.loop-number.longest (omega arith) c.loop-number-test.true c.loop-number.invariant refused.1))

pub loop-number-preserved : goal.loop-number-preserved
loop-number-preserved c =
    let read = c.in_ok-end.ensures.ok in
    one_more (block_size c.args.front_coded) c.args.section.now c.args.start c.args.lengths.postings c.args.lengths.positions c.args.num_terms c.loop-number.number c.loop-number.key.items c.loop-number.starts.items c.loop-number.end c.loop-number.longest (omega arith) c.loop-number-test.true c.loop-number.invariant c.take_at.new.key.items read.0 c.push_begun.new.starts.items c.in_ok-end.end c.max-longest.result read.1 read.2 read.3 c.in_ok-push_begun.ensures (let is = c.max-longest.ensures in let long = c.len.ensures in let same = c.take_at.new.key.ok.0 in omega (arith, is, long, same))

pub returns-clause-ok : goal.returns-clause-ok
returns-clause-ok c =
    let r = c.loop-number.invariant in
    let all = all_read (block_size c.args.front_coded) c.args.section.now c.args.start c.args.lengths.postings c.args.lengths.positions c.args.num_terms c.loop-number.number c.loop-number.key.items c.loop-number.starts.items c.loop-number.end c.loop-number.longest (omega arith) (omega arith) r in
    (r.reading.done, all.0, all.1, record { kind = refl; many = all.0; longest = r.longest_is; first = refl }, r.starts_are)
