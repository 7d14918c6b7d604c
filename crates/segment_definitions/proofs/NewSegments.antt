-- A new segment of a body is in its layout.
use Rattle.std.proofs.Common.{[], ap, arith, length, subst, sym, true, ◌∷◌, ◌≡◌, List, map, ℕ}
use Rattle.std.specs.List.{AllByRecursion, AllZip}
use Rattle.definitions.specs.Schema.{Schema}
use Rattle.segment_definitions.specs.ListBodies.{IsMember, IsOfPart, Makes, Member, Part, fresh, segments_body}
use Rattle.segment_definitions.specs.SegmentExamples.{bare_body}
use Rattle.segment_definitions.specs.IndexFiles.{AreBodies}
use Rattle.segment_definitions.specs.Segments.{IsSegment}
use Rattle.segment_definitions.proofs.SegmentParts.{parts_told}

-- one byte is no segment: the number of documents alone takes four
too_short : (schema : Schema) (num_docs : ℕ) (byte : ℕ) → ¬ IsSegment schema num_docs (byte ∷ [])
too_short schema num_docs byte s = absurd (omega (arith, ap length s.written.bytes_are))

-- the parts that are written
abbrev pub one_part : List Part
one_part = fresh (7 ∷ []) ∷ []

-- a list of such parts has one member, and its bytes
no_member : (schema : Schema) (after : List Member) → AllZip (IsOfPart []) one_part after → AllByRecursion (IsMember (IsSegment schema)) after → ⊥
no_member schema [] are members = are
no_member schema (m ∷ after) are members = too_short schema (length m.1) 7 (subst (IsSegment schema (length m.1)) (sym are.0) members.0.0)

not_made : (schema : Schema) (after : List Member) → ¬ Makes (IsSegment schema) [] after (segments_body one_part ((true ∷ []) ∷ []))
not_made schema after m =
    let same : one_part ≡ m.parts = parts_told one_part m.parts ((true ∷ []) ∷ []) (map (λ q. q.1) after) (omega arith, tt) m.fit (omega arith) m.num_parts_fits m.body_is in
    no_member schema after (subst (λ ps. AllZip (IsOfPart []) ps after) (sym same) m.parts_are) m.members

pub not_a_segment : ¬ AreBodies (bare_body ∷ segments_body one_part ((true ∷ []) ∷ []) ∷ [])
not_a_segment (schema, settings, [], made, follow) = follow
not_a_segment (schema, settings, after ∷ lists, made, follow) = not_made schema after follow.0
