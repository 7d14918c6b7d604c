use Rattle.std.proofs.Common.{List, map, take}
use Rattle.layouts.specs.InvertedIndexes.{IndexedTerm}
use Rattle.postings_writer.specs.Sections.{AreAdded}
use Rattle.terms.specs.Kinds.{kind_of}
use Rattle.postings_writer.proofs.serialize_field.serialize_terms.Given as goal

-- the terms so far were written
abbrev pub invariant-loop-key : goal.invariant-loop-key
invariant-loop-key l = (ts : List IndexedTerm) × AreAdded (kind_of l.kind) l.fn.serializer l.serializer (map (λ t. (t.0.now, t.1.now)) (take l.key-index l.terms)) ts
