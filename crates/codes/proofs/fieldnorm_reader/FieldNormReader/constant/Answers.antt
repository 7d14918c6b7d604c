use Rattle.std.proofs.Common.{arith, rules}
use Rattle.std.proofs.lemmas.List.{length-replicate}
use Rattle.codes.proofs.ConstantLengths.{each_same}
use Rattle.codes.proofs.fieldnorm_reader.FieldNormReader.constant.Goals as goal

pub invariant_of-result : goal.invariant_of-result
invariant_of-result c = record {
  count_fits = (let fits = c.ranges.num_docs.fits in let same = length-replicate c.args.num_docs c.fieldnorm_to_id.result in omega (arith, fits, same));
  ids_fit = λ doc. each_same c.args.num_docs c.fieldnorm_to_id.result doc (search rules);
}
