use Rattle.std.proofs.Common.{List, Option, ap, arith, drop, length, sym, take, ◌-◌, ◌≡◌, ◌∙◌, ℕ}
use Rattle.std.proofs.lemmas.List.{take_rest}
use Rattle.std.proofs.lemmas.Result.{err_from_is_err_and}
use Rattle.front_coding.specs.Lengths.{lengths_of}
use Rattle.front_coding.specs.TakenKeys.{take_term}
use Rattle.layouts.specs.TermSections.{Told, block_size}
use Rattle.segment_reader.proofs.HeadersTaken.{bytes_drop}
use Rattle.segment_reader.proofs.TermsPlaced.{if_err, if_ok, none_some, placed, rest_within, taken_once}
use Rattle.segment_reader.proofs.terms_read.take_at.Goals as goal

-- what is taken from the slice is taken from the section
from_section : (size number : ℕ) (key section : List ℕ) (offset : ℕ) (o : Option (Told × List ℕ)) → take_term size number key (take (length section - offset) (drop offset section)) ≡ o → take_term size number key (drop offset section) ≡ o
from_section size number key section offset o is = ap (take_term size number key) (sym (take_rest section offset)) ∙ is

pub returns-in_err-entry-clause-err : goal.returns-in_err-entry-clause-err
returns-in_err-entry-clause-err c =
    let p = err_from_is_err_and c.from_residual.result c.from_residual.ensures.1 in
    rw (p.1, p.2) (λ other. let refused = c.in_err-entry.ensures.err other in (refused.0, λ t rest is. absurd (none_some (sym (from_section (block_size c.args.front_coded) c.args.number c.args.key.now.items c.args.section.now c.args.start.entry _ refused.1) ∙ is))))

pub overflow_sub-section : goal.overflow_sub-section
overflow_sub-section c = rest_within (block_size c.args.front_coded) c.args.number c.args.key.now.items c.take_term.new.key.items c.args.section.now c.args.start.entry (lengths_of c.in_ok-entry.entry) c.in_ok-entry.rest.now (bytes_drop c.args.start.entry c.args.section.now (λ i. (let fits = c.type_inv.section i in omega (arith, fits)))) (from_section (block_size c.args.front_coded) c.args.number c.args.key.now.items c.args.section.now c.args.start.entry _ c.in_ok-entry.ensures.ok)

pub returns-clause-ok : goal.returns-clause-ok
returns-clause-ok c = if_ok c.end_behind.result (λ end ends. placed (block_size c.args.front_coded) c.args.number c.args.key.now.items c.take_term.new.key.items c.args.section.now c.args.start end (lengths_of c.in_ok-entry.entry) c.args.lengths.postings c.args.lengths.positions c.in_ok-entry.rest.now (bytes_drop c.args.start.entry c.args.section.now (λ i. (let fits = c.type_inv.section i in omega (arith, fits)))) c.requires (from_section (block_size c.args.front_coded) c.args.number c.args.key.now.items c.args.section.now c.args.start.entry _ c.in_ok-entry.ensures.ok) ends.0 ends.1) c.end_behind.ensures.ok

pub returns-clause-err : goal.returns-clause-err
returns-clause-err c = if_err c.end_behind.result (λ fault refused other. (refused.0, λ t rest is fits p_end q_end. taken_once (block_size c.args.front_coded) c.args.number c.args.key.now.items (drop c.args.start.entry c.args.section.now) t (c.take_term.new.key.items, lengths_of c.in_ok-entry.entry) rest c.in_ok-entry.rest.now c.args.start c.args.lengths.postings c.args.lengths.positions is (from_section (block_size c.args.front_coded) c.args.number c.args.key.now.items c.args.section.now c.args.start.entry _ c.in_ok-entry.ensures.ok) refused.1 fits p_end q_end)) c.end_behind.ensures.err
