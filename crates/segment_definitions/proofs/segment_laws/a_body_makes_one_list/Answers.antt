use Rattle.segment_definitions.specs.Segments.{IsSegment}
use Rattle.segment_definitions.proofs.OneList.{one_list, one_history}
use Rattle.segment_definitions.proofs.segment_laws.a_body_makes_one_list.Goals as goal

pub returns-clause-body : goal.returns-clause-body
returns-clause-body c schema = one_list (IsSegment schema)

pub returns-clause-bodies : goal.returns-clause-bodies
returns-clause-bodies c schema = one_history (IsSegment schema)
