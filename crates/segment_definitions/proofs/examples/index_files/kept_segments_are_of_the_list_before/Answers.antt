use Rattle.std.proofs.Common.{[], List, arith, refl, slice_index, slice_index_or, subst, sym, true, ap, ◌∷◌, ◌≡◌, ℕ}
use Rattle.std.specs.List.{AllZip}
use Rattle.segment_definitions.specs.ListBodies.{IsOfPart, Makes, Member, fresh, kept, segments_body}
use Rattle.segment_definitions.specs.SegmentExamples.{HasByteEach, one_byte, replacing_bodies}
use Rattle.segment_definitions.specs.IndexFiles.{AreMade}
use Rattle.segment_definitions.proofs.OneList.{one_history}
use Rattle.segment_definitions.proofs.SegmentParts.{parts_told}
use Rattle.segment_definitions.proofs.examples.index_files.kept_segments_are_of_the_list_before.Goals as goal

added : (before : List Member) (b : ℕ) → Makes HasByteEach before (one_byte b) (segments_body (fresh (b ∷ []) ∷ []) ((true ∷ []) ∷ []))
added before b = record { parts = fresh (b ∷ []) ∷ []; parts_are = (refl, tt); ascend = tt; fit = (omega arith, tt); num_parts_fits = omega arith; members = ((refl, omega arith), tt); body_is = refl }

stays : Makes HasByteEach (one_byte 11) (one_byte 11) (segments_body (kept 0 ∷ []) ((true ∷ []) ∷ []))
stays = record { parts = kept 0 ∷ []; parts_are = ((true ∷ [], refl), tt); ascend = (omega arith, tt); fit = (omega arith, tt); num_parts_fits = omega arith; members = ((refl, omega arith), tt); body_is = refl }

left : AreMade HasByteEach [] replacing_bodies (one_byte 10 ∷ one_byte 11 ∷ one_byte 11 ∷ [])
left = (added [] 10, (added (one_byte 10) 11, (stays, tt)))

pub returns-clause-left : goal.returns-clause-left
returns-clause-left c = left

-- the first byte of the first segment
byte_in : List Member → ℕ
byte_in [] = 0
byte_in (m ∷ members) = slice_index m.0 0

pub returns-clause-earlier : goal.returns-clause-earlier
unfolding byte_in
returns-clause-earlier c are =
    let same = one_history HasByteEach [] replacing_bodies (one_byte 10 ∷ one_byte 11 ∷ one_byte 11 ∷ []) (one_byte 10 ∷ one_byte 11 ∷ one_byte 10 ∷ []) left are in
    let byte : byte_in (one_byte 11) ≡ byte_in (one_byte 10) = ap (λ lists. byte_in (slice_index_or lists 2 [])) same in
    omega (arith, byte)

none_kept : (after : List Member) → Makes HasByteEach [] after (segments_body (kept 0 ∷ []) ((true ∷ []) ∷ [])) → ⊥
none_kept after m = go after (subst (λ ps. AllZip (IsOfPart []) ps after) told m.parts_are)
  where
    told : m.parts ≡ kept 0 ∷ []
    told = parts_told m.parts (kept 0 ∷ []) _ ((true ∷ []) ∷ []) m.fit (omega arith, tt) m.num_parts_fits (omega arith) (sym m.body_is)

    go : (after : List Member) → AllZip (IsOfPart []) (kept 0 ∷ []) after → ⊥
    go [] are = elim are [ ]
    go (n ∷ more) are = let none = are.0.1 in cc

pub returns-clause-nothing_before : goal.returns-clause-nothing_before
returns-clause-nothing_before c [] are = elim are [ ]
returns-clause-nothing_before c (after ∷ lists) are = none_kept after are.0

pub returns-clause-one_each : goal.returns-clause-one_each
returns-clause-one_each c are = elim are.1.1 [ ]
