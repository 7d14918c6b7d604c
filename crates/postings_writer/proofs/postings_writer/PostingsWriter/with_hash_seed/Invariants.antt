use Rattle.std.proofs.Common.{[], ◌≡◌, replicate}
use Rattle.postings_writer.specs.Fields.{Terms}
use Rattle.postings_writer.proofs.postings_writer.PostingsWriter.with_hash_seed.Given as goal

-- `counter` fields without a term
abbrev pub invariant-loop : goal.invariant-loop
invariant-loop l = (let none : Terms = [] in l.fields.items ≡ replicate l.counter none)
