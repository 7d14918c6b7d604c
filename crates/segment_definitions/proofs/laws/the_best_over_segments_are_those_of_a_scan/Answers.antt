use Rattle.segment_definitions.proofs.FoundLive.{best_is_scan}
use Rattle.segment_definitions.proofs.laws.the_best_over_segments_are_those_of_a_scan.Goals as goal

pub returns : goal.returns
returns c = best_is_scan
