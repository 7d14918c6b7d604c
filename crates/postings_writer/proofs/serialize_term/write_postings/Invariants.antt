use Rattle.std.proofs.Common.{◌-◌}
use Rattle.postings_writer.proofs.WrittenTerms.{Written}
use Rattle.postings_writer.specs.Serializing.{length_of, postings_from}
use Rattle.postings_writer.proofs.serialize_term.write_postings.Given as goal

-- the postings so far were written
abbrev pub invariant-loop-at : goal.invariant-loop-at
invariant-loop-at l = Written l.fn.serializer l.serializer (postings_from l.recorder 0) (postings_from l.recorder l.at)

abbrev pub decreases-loop-at : goal.decreases-loop-at
decreases-loop-at l = length_of l.recorder - l.at
