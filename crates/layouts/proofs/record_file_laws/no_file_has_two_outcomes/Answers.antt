use Rattle.std.proofs.Common.{Bool, IsTrue, List, ℕ}
use Rattle.layouts.proofs.FilesOfRecords.{files_are_indexes, files_are_whole, one_damage}
use Rattle.layouts.proofs.record_file_laws.no_file_has_two_outcomes.Goals as goal

-- the bodies that pass a test
abbrev passes : (List (List ℕ) → List ℕ → Bool) → List (List ℕ) → List ℕ → Type 0
passes takes before body = IsTrue (takes before body)

pub returns-clause-no_index : goal.returns-clause-no_index
returns-clause-no_index c = files_are_indexes

pub returns-clause-damaged : goal.returns-clause-damaged
returns-clause-damaged c = λ takes. files_are_whole (passes takes)

pub returns-clause-neither : goal.returns-clause-neither
returns-clause-neither c = λ takes bytes offset damaged. damaged.begins

pub returns-clause-one_offset : goal.returns-clause-one_offset
returns-clause-one_offset c = λ takes. one_damage (passes takes)
