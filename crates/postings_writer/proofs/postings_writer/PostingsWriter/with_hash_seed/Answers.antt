use Rattle.std.proofs.Common.{[], List, ap, arith, length, replicate, subst, sym, ◌≡◌, ◌∙◌}
use Rattle.postings_writer.specs.Fields.{Terms}
use Rattle.postings_writer.specs.Writers.{Stands}
use Rattle.postings_writer.proofs.Standing.{stands_none}
use Rattle.postings_writer.proofs.postings_writer.PostingsWriter.with_hash_seed.Goals as goal

pub returns-clause-nothing : goal.returns-clause-nothing
returns-clause-nothing c =
    let schema = c.args.schema.now in
    let none : Terms = [] in
    let all : c.loop.counter ≡ length schema = (let long = c.num_fields-num_fields.ensures.value in let end = c.loop.auto.counter-end in let done = c.loop-test.false in omega arith) in
    let P : List Terms → Type 0 = λ fields. Stands schema (record { fields = fields; num_docs = 0 }) [] in
    subst P (sym (c.loop.invariant ∙ ap (λ n. replicate n none) all)) (stands_none schema c.num_fields-num_fields.ensures.few)
