use Rattle.std.proofs.Common.{[], ap, arith, drop, rules, sym, ◌+◌, ◌<◌, ◌≡◌, ◌∙◌}
use Rattle.docsets.specs.Entries.{from}
use Rattle.docsets.specs.SetEntries.{set_entries}
use Rattle.docsets.proofs.SetEntryLaws.{doc-set, end-set, next-set}
use Rattle.docsets.proofs.bit_set_doc_set.BitSetDocSetDocSet.advance.Goals as goal

pub returns-then-self-eq-TERMINATED-clause-rest : goal.returns-then-self-eq-TERMINATED-clause-rest
returns-then-self-eq-TERMINATED-clause-rest c =
    let none : from c.args.self.now.doc (set_entries c.args.self.now.docs) ≡ [] = ap (λ d. from d (set_entries c.args.self.now.docs)) c.if-self-eq-TERMINATED.true ∙ end-set c.args.self.now.docs c.args.self.now.small in
    none ∙ sym (ap (drop 1) none)

pub overflow_add-self : goal.overflow_add-self
overflow_add-self c = (let le = doc-set c.args.self.now.doc c.args.self.now.docs c.args.self.now.small c.args.self.now.at in let few : c.args.self.now.doc + 1 < 4294967296 = omega (arith, le) in search rules)

pub first_document-self-requires-clause-end : goal.first_document-self-requires-clause-end
first_document-self-requires-clause-end c = (let le = doc-set c.args.self.now.doc c.args.self.now.docs c.args.self.now.small c.args.self.now.at in omega (arith, le, c.if-self-eq-TERMINATED.false))

pub returns-clause-rest : goal.returns-clause-rest
returns-clause-rest c = c.first_document-self.ensures.same ∙ sym (next-set c.args.self.now.docs c.args.self.now.doc c.args.self.now.small c.args.self.now.at)
