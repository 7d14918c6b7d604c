use Rattle.std.proofs.Common.{[], arith, refl, ◌∷◌}
use Rattle.layouts.proofs.FilesOfRecords.{file_of}
use Rattle.segment_definitions.specs.SegmentExamples.{bare_body}
use Rattle.segment_definitions.proofs.BareFile.{all_lists, made, no_other, short_body}
use Rattle.segment_definitions.proofs.examples.index_files.a_file_leaves_groups.Goals as goal

pub returns-clause-lists : goal.returns-clause-lists
returns-clause-lists c = all_lists

pub returns-clause-first : goal.returns-clause-first
returns-clause-first c = record {
  first = bare_body;
  bodies = [];
  members = [];
  file = file_of (bare_body ∷ []) 0 [] (λ e. omega (arith, e)) short_body;
  made = made;
  follow = tt;
  groups = (tt, tt);
}

pub returns-clause-last : goal.returns-clause-last
returns-clause-last c = ([] ∷ (([] ∷ []) ∷ []) ∷ ([] ∷ []) ∷ [], all_lists, refl)

pub returns-clause-another : goal.returns-clause-another
returns-clause-another c (lists, f, last) = no_other lists f last
