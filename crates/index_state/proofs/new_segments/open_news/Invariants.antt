-- Those so far were opened over their bytes, and stand behind those that were there.
use Rattle.std.proofs.Common.{List, map, take, ◌++◌, ◌≡◌}
use Rattle.std.specs.List.{AllByRecursion, AllZip}
use Rattle.definitions.specs.Analyzers.{Analyzer}
use Rattle.definitions.specs.Values.{Document}
use Rattle.segment.specs.Opened.{IsOpened, StandsFor, bytes_of, num_docs_of}
use Rattle.segment.specs.declared.segment.Segment as code
use Rattle.index_state.proofs.NewSegments.{IsNewIn}
use Rattle.index_state.specs.NewSegments.{segment_in}
use Rattle.index_state.specs.declared.new_segments.NewSegment.{NewSegment}
use Rattle.index_state.proofs.new_segments.open_news.Given as goal

abbrev pub invariant-loop-new : goal.invariant-loop-new
invariant-loop-new l = record {
  opened : ∥ AllByRecursion (IsOpened l.schema) l.fn.segments.items ∥₁ → ∥ AllByRecursion (IsOpened l.schema) l.segments.items ∥₁;
  behind : (more : List code.Segment) × (l.segments.items ≡ l.fn.segments.items ++ more);
  bytes : map bytes_of l.segments.items ≡ map bytes_of l.fn.segments.items ++ map (segment_in l.frame) (take l.new-index l.news);
  counted : map num_docs_of l.segments.items ≡ map num_docs_of l.fn.segments.items ++ map (λ (n : NewSegment). n.num_docs) (take l.new-index l.news);
  stand : (analyze : Analyzer) (docs some : List (List Document)) → AllZip (StandsFor l.schema analyze) docs l.fn.segments.items → AllZip (IsNewIn l.schema analyze l.frame) some l.news → AllZip (StandsFor l.schema analyze) (docs ++ take l.new-index some) l.segments.items;
}
