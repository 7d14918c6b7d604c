use Rattle.std.proofs.Common.{Err, IfOk, List, Ok, Result, subst, sym, ◌∙◌, ◌≡◌, ℕ}
use Rattle.std.proofs.Math.Logic.{∥∥₁_elim, ∥∥₁_map}
use Rattle.std.proofs.Props.{props}
use Rattle.std.proofs.lemmas.Result.{IfOk-weaker}
use Rattle.definitions.specs.Schema.{Schema}
use Rattle.segment.proofs.Opening.{one_segment}
use Rattle.segment.specs.Opened.{IsOpened, bytes_of, num_docs_of}
use Rattle.segment.specs.declared.segment.Segment.{Segment}
use Rattle.segment_definitions.specs.Segments.{AreWritten, IsSegment}
use Rattle.index_state.proofs.new_segments.open_new.Goals as goal

-- an opened segment has as many documents as its bytes are known to have
counted_of : {E : Type 0} (r : Result Segment E) (schema : Schema) (bytes : List ℕ) (n : ℕ) → IfOk r (IsOpened schema) → IfOk r (λ s. bytes_of s ≡ bytes) → ∥ IsSegment schema n bytes ∥₁ → IfOk r (λ s. num_docs_of s ≡ n)
counted_of (Ok s) schema bytes n opened same known = ∥∥₁_elim known (hlevel props) (λ is. (one_segment s.num_docs n opened.sections is.sections (bytes_of s) opened.written (subst (AreWritten n is.sections) (sym same) is.written)).0)
counted_of (Err e) schema bytes n opened same known = tt

pub slice-requires-clause-forward : goal.slice-requires-clause-forward
slice-requires-clause-forward c = ∥∥₁_elim c.requires.known (hlevel props) (λ known. known.0)

pub slice-requires-clause-within : goal.slice-requires-clause-within
slice-requires-clause-within c = ∥∥₁_elim c.requires.known (hlevel props) (λ known. known.1)

pub new-requires : goal.new-requires
new-requires c =
    let same = c.in_ok-bytes.ensures in
    ∥∥₁_map c.requires.known (λ known. (c.args.new.now.num_docs, subst (IsSegment c.args.schema.now c.args.new.now.num_docs) (sym same) known.2))

pub returns-clause-bytes : goal.returns-clause-bytes
returns-clause-bytes c = IfOk-weaker c.new.result _ _ (λ segment is. is ∙ c.in_ok-bytes.ensures) c.new.ensures.bytes

pub returns-clause-counted : goal.returns-clause-counted
returns-clause-counted c =
    let n = c.args.new.now.num_docs in
    counted_of c.new.result c.args.schema.now c.in_ok-bytes.bytes n c.new.ensures.ok c.new.ensures.bytes (∥∥₁_map c.requires.known (λ known. subst (IsSegment c.args.schema.now n) (sym c.in_ok-bytes.ensures) known.2))
