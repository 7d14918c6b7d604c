use Rattle.std.proofs.Common.{rules, subst, ◌<◌, ◌^◌}
use Rattle.document.proofs.StoredPairs.{stored_back}
use Rattle.document.proofs.compact_doc.CompactDoc.serialize_into.Goals as goal

pub returns-in_err-reserve-clause-read_back : goal.returns-in_err-reserve-clause-read_back
returns-in_err-reserve-clause-read_back c =
    let few : c.stored_count-count.result < 2 ^ 64 = search rules in
    stored_back c.args.schema.now c.args.self.now c.stored_count-count.ensures.pairs (subst (λ n. n < 2 ^ 64) c.stored_count-count.ensures.count few) c.requires.nests

pub returns-in_err-put_vint-clause-read_back : goal.returns-in_err-put_vint-clause-read_back
returns-in_err-put_vint-clause-read_back c =
    let few : c.stored_count-count.result < 2 ^ 64 = search rules in
    stored_back c.args.schema.now c.args.self.now c.stored_count-count.ensures.pairs (subst (λ n. n < 2 ^ 64) c.stored_count-count.ensures.count few) c.requires.nests

pub returns-clause-read_back : goal.returns-clause-read_back
returns-clause-read_back c =
    let few : c.stored_count-count.result < 2 ^ 64 = search rules in
    stored_back c.args.schema.now c.args.self.now c.stored_count-count.ensures.pairs (subst (λ n. n < 2 ^ 64) c.stored_count-count.ensures.count few) c.requires.nests
