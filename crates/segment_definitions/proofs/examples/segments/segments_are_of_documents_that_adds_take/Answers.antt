use Rattle.std.proofs.Common.{[], arith, refl, sym, true≢false, ◌∷◌}
use Rattle.std.proofs.lemmas.Str.{is_utf8-from_IsUtf8}
use Rattle.definitions.proofs.OnLiterals.{definitions_on_literals}
use Rattle.segment_definitions.proofs.examples.segments.segments_are_of_documents_that_adds_take.Goals as goal

pub returns-clause-taken : goal.returns-clause-taken
returns-clause-taken c = (((omega arith, omega arith), tt), refl)

pub returns-clause-too_large : goal.returns-clause-too_large
returns-clause-too_large c bytes s = omega (arith, s.taken.0.0.0.1)

pub returns-clause-too_deep : goal.returns-clause-too_deep
returns-clause-too_deep c bytes s = let is = s.taken.0.1 in cc

pub returns-clause-no_text : goal.returns-clause-no_text
unfolding definitions_on_literals
returns-clause-no_text c bytes s = true≢false (sym (is_utf8-from_IsUtf8 (255 ∷ []) s.taken.1.0.0.0.1))

pub returns-clause-unknown_field : goal.returns-clause-unknown_field
returns-clause-unknown_field c bytes s = let is = s.taken.0.1 in cc

pub returns-clause-other_kind : goal.returns-clause-other_kind
returns-clause-other_kind c bytes s = let is = s.taken.0.1 in cc
