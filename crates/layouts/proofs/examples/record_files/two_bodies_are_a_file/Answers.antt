use Rattle.std.proofs.Common.{[], arith, refl, ◌∷◌}
use Rattle.layouts.specs.RecordFiles.{IsFile}
use Rattle.layouts.proofs.examples.record_files.two_bodies_are_a_file.Goals as goal

pub returns-clause-at_rest : goal.returns-clause-at_rest
returns-clause-at_rest c = record {
  file = IsFile.record_then (7 ∷ 8 ∷ []) ((9 ∷ []) ∷ []) _ (omega arith) (IsFile.record_then (9 ∷ []) [] _ (omega arith) (IsFile.ends 0 [] (λ e. omega arith)));
  place = refl;
  length_is = refl;
}

pub returns-clause-more : goal.returns-clause-more
returns-clause-more c = record {
  file = IsFile.record_then (7 ∷ 8 ∷ []) ((9 ∷ []) ∷ []) _ (omega arith) (IsFile.record_then (9 ∷ []) [] _ (omega arith) (IsFile.ends 66 (165 ∷ 1 ∷ []) (λ e. omega arith)));
  place = refl;
}

pub returns-clause-closed : goal.returns-clause-closed
returns-clause-closed c = IsFile.record_then (7 ∷ []) [] _ (omega arith) (IsFile.ends 0 _ (λ e. omega arith))
