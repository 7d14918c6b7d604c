use Rattle.std.proofs.Common.{List, drop, ◌≡◌, ℕ}
use Rattle.codes.proofs.FieldNormSections.{behind, take_all_ids}
use Rattle.codes.proofs.fieldnorm_readers.check_norms.Given as goal

-- what is left decides, behind some ids
abbrev pub invariant-loop-field : goal.invariant-loop-field
invariant-loop-field l = (ids : List (List ℕ)) × (take_all_ids l.num_docs l.fields l.bytes ≡ behind ids (take_all_ids l.num_docs (drop l.field-index l.fields) l.rest))
