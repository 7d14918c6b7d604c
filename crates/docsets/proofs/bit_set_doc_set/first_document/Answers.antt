use Rattle.std.proofs.Common.{ap, sym, ◌∙◌}
use Rattle.docsets.specs.Entries.{first}
use Rattle.docsets.proofs.SetEntryLaws.{end-set, first-set, none-set, same-set}
use Rattle.docsets.proofs.bit_set_doc_set.first_document.Goals as goal

pub returns-in-Some-clause-at : goal.returns-in-Some-clause-at
returns-in-Some-clause-at c =
    let is = first-set c.args.docs.now c.args.low c.in-Some.doc c.in-Some.ensures.first in
    sym (ap first (same-set c.args.docs.now c.args.low c.in-Some.doc c.requires.small c.in-Some.ensures.first.0 is) ∙ is)

pub returns-in-Some-clause-same : goal.returns-in-Some-clause-same
returns-in-Some-clause-same c = same-set c.args.docs.now c.args.low c.in-Some.doc c.requires.small c.in-Some.ensures.first.0 (first-set c.args.docs.now c.args.low c.in-Some.doc c.in-Some.ensures.first)

pub returns-in-None-clause-at : goal.returns-in-None-clause-at
returns-in-None-clause-at c = sym (ap first (end-set c.args.docs.now c.requires.small))

pub returns-in-None-clause-same : goal.returns-in-None-clause-same
returns-in-None-clause-same c = end-set c.args.docs.now c.requires.small ∙ sym (none-set c.args.docs.now c.args.low c.in-None.ensures.first)
