use Rattle.std.proofs.Common.{ap, arith, length, refl, rules, ◌≡◌, ◌≢◌}
use Rattle.definitions.proofs.Lists.{no_numbers as empty_list}
use Rattle.segment_postings.proofs.RestChecks.{rest_ones, rest_unrecorded}
use Rattle.options.specs.RecordOption.{record_option_of}
use Rattle.segment_postings.proofs.rest_check.unrecorded_rest.Goals as goal

pub returns-then-not-is_empty-clause-err : goal.returns-then-not-is_empty-clause-err
returns-then-not-is_empty-clause-err c =
    let other : length c.args.bytes.now ≢ 0 = search rules in
    (refl, λ total h. other (ap length (rest_unrecorded (record_option_of c.args.option) c.args.doc_count c.args.bytes.now total c.requires.unrecorded h)))

pub returns-clause-ok : goal.returns-clause-ok
returns-clause-ok c =
    let none : length c.args.bytes.now ≡ 0 = search rules in
    let few = c.requires.few in
    (rest_ones (record_option_of c.args.option) c.args.doc_count c.args.bytes.now c.requires.unrecorded (empty_list c.args.bytes.now none), omega (arith, few))
