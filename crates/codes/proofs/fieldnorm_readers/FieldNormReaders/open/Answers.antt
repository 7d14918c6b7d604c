use Rattle.std.proofs.Common.{List, subst, sym, ℕ}
use Rattle.std.proofs.lemmas.Grind.{merely}
use Rattle.layouts.specs.FieldNorms.{IsNorms}
use Rattle.codes.proofs.fieldnorm_readers.FieldNormReaders.open.Goals as goal

pub new-requires-clause-known : goal.new-requires-clause-known
new-requires-clause-known c = merely c.in_ok-check_norms.ensures.ok

pub returns-clause-ok : goal.returns-clause-ok
returns-clause-ok c =
    let known = c.in_ok-check_norms.ensures.ok in
    subst (λ (norms : List (ℕ × List ℕ)). IsNorms c.args.fields.now c.args.num_docs c.args.bytes.now norms) (sym (c.new.ensures known.0 known.1)) known.1
