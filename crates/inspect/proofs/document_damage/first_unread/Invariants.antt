use Rattle.std.proofs.Common.{ℕ, ◌<◌, ◌≡◌}
use Rattle.inspect.specs.Documents.{IsReadable}
use Rattle.segment.specs.Opened.{blocks_of, bytes_of, num_docs_of}
use Rattle.inspect.proofs.document_damage.first_unread.Given as goal

abbrev pub invariant-loop-doc : goal.invariant-loop-doc
invariant-loop-doc l = record {
  blocks : blocks_of l.segment ≡ blocks_of l.fn.segment;
  bytes : bytes_of l.segment ≡ bytes_of l.fn.segment;
  end : l.doc-end ≡ num_docs_of l.fn.segment;
  read : (doc : ℕ) → doc < l.doc → IsReadable l.schema l.fn.segment doc;
}
