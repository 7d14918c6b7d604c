use Rattle.std.proofs.Math.Logic.{∥∥₁_elim}
use Rattle.std.specs.Coded.{Coded-set, coded_ℕ}
use Rattle.codes.proofs.FieldNormSections.{norms_lent, section_long}
use Rattle.codes.proofs.fieldnorm_readers.FieldNormReaders.new.Goals as goal

pub invariant_of-result : goal.invariant_of-result
invariant_of-result c = (c.requires.ascend, ∥∥₁_elim c.requires.known (Coded-set coded_ℕ _ _) (λ known. section_long c.args.num_docs c.args.fields.now c.args.bytes.now known.0 known.1))

pub returns : goal.returns
returns c norms is = norms_lent c.args.num_docs c.args.fields.now c.args.bytes.now norms is
