use Rattle.std.proofs.Common.{[], ◌++◌, ◌∷◌}
use Rattle.definitions.specs.Analyzers.{raw_and_default}
use Rattle.definitions.specs.Settings.{default_settings}
use Rattle.layouts.specs.RecordFiles.{records}
use Rattle.segment_definitions.specs.SegmentExamples.{bare_bodies, bare_body}
use Rattle.segment_definitions.proofs.BareFile.{all_lists, byte_3_damaged, cut_damaged}
use Rattle.segment_definitions.proofs.OneList.{undamaged}
use Rattle.segment_definitions.proofs.examples.index_files.other_bodies_are_damaged.Goals as goal

pub returns-clause-byte_3 : goal.returns-clause-byte_3
returns-clause-byte_3 c = byte_3_damaged

pub returns-clause-cut : goal.returns-clause-cut
returns-clause-cut c = cut_damaged

pub returns-clause-whole : goal.returns-clause-whole
returns-clause-whole c offset = undamaged [] default_settings raw_and_default (records (bare_body ∷ bare_bodies) ++ 0 ∷ 165 ∷ []) _ offset all_lists
