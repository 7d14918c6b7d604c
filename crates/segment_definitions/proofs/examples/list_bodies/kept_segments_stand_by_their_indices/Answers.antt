use Rattle.std.proofs.Common.{[], ap, arith, false, filter_map, refl, slice_index, subst, sym, true, ◌∙◌, ◌∷◌, ◌≡◌}
use Rattle.std.specs.List.{AllZip}
use Rattle.layouts.specs.Deltas.{IsAscendingFrom}
use Rattle.segment_definitions.specs.ListBodies.{IsOfPart, fresh, kept, place_of, segments_body}
use Rattle.segment_definitions.specs.SegmentExamples.{four_segments}
use Rattle.segment_definitions.proofs.SegmentParts.{parts_told}
use Rattle.segment_definitions.proofs.examples.list_bodies.kept_segments_stand_by_their_indices.Goals as goal

pub returns-clause-merged : goal.returns-clause-merged
returns-clause-merged c = record {
  parts = kept 0 ∷ fresh (7 ∷ 8 ∷ 9 ∷ []) ∷ kept 3 ∷ [];
  parts_are = ((true ∷ true ∷ [], refl), (refl, ((true ∷ true ∷ [], refl), tt)));
  ascend = (omega arith, (omega arith, tt));
  fit = (omega arith, (omega arith, (omega arith, tt)));
  num_parts_fits = omega arith;
  members = ((refl, omega arith), ((refl, omega arith), ((refl, omega arith), tt)));
  body_is = refl;
}

pub returns-clause-old_set : goal.returns-clause-old_set
unfolding segments_body
returns-clause-old_set c m =
    let sets = (true ∷ true ∷ []) ∷ (true ∷ true ∷ []) ∷ (true ∷ true ∷ []) ∷ (false ∷ true ∷ []) ∷ [] in
    let told : m.parts ≡ kept 0 ∷ kept 1 ∷ kept 2 ∷ kept 3 ∷ [] = parts_told m.parts (kept 0 ∷ kept 1 ∷ kept 2 ∷ kept 3 ∷ []) ((true ∷ true ∷ []) ∷ (true ∷ true ∷ []) ∷ (true ∷ true ∷ []) ∷ (true ∷ true ∷ []) ∷ []) sets m.fit (omega arith, (omega arith, (omega arith, (omega arith, tt)))) m.num_parts_fits (omega arith) (sym m.body_is) in
    let bit : 2 ≡ 3 = ap (λ l. slice_index l 65) (m.body_is ∙ ap (λ ps. segments_body ps ((true ∷ true ∷ []) ∷ (true ∷ true ∷ []) ∷ (true ∷ true ∷ []) ∷ (true ∷ true ∷ []) ∷ [])) told) in
    omega (arith, bit)

pub returns-clause-twice : goal.returns-clause-twice
returns-clause-twice c m =
    let told : m.parts ≡ kept 0 ∷ kept 0 ∷ [] = parts_told m.parts (kept 0 ∷ kept 0 ∷ []) _ ((true ∷ true ∷ []) ∷ (true ∷ true ∷ []) ∷ []) m.fit (omega arith, (omega arith, tt)) m.num_parts_fits (omega arith) (sym m.body_is) in
    let up : IsAscendingFrom 0 (0 ∷ 0 ∷ []) = subst (λ ps. IsAscendingFrom 0 (filter_map place_of ps)) told m.ascend in
    omega (arith, up.1.0)

pub returns-clause-turned : goal.returns-clause-turned
returns-clause-turned c m =
    let told : m.parts ≡ kept 1 ∷ kept 0 ∷ [] = parts_told m.parts (kept 1 ∷ kept 0 ∷ []) _ ((true ∷ true ∷ []) ∷ (true ∷ true ∷ []) ∷ []) m.fit (omega arith, (omega arith, tt)) m.num_parts_fits (omega arith) (sym m.body_is) in
    let up : IsAscendingFrom 0 (1 ∷ 0 ∷ []) = subst (λ ps. IsAscendingFrom 0 (filter_map place_of ps)) told m.ascend in
    omega (arith, up.1.0)

pub returns-clause-past_the_list : goal.returns-clause-past_the_list
returns-clause-past_the_list c m =
    let told : m.parts ≡ kept 4 ∷ [] = parts_told m.parts (kept 4 ∷ []) _ ((true ∷ true ∷ []) ∷ []) m.fit (omega arith, tt) m.num_parts_fits (omega arith) (sym m.body_is) in
    let are : AllZip (IsOfPart four_segments) (kept 4 ∷ []) ((10 ∷ 10 ∷ [], true ∷ true ∷ []) ∷ []) = subst (λ ps. AllZip (IsOfPart four_segments) ps ((10 ∷ 10 ∷ [], true ∷ true ∷ []) ∷ [])) told m.parts_are in
    let none = are.0.1 in cc
