use Rattle.std.proofs.Common.{arith, true≢false, sym}
use Rattle.std.proofs.lemmas.Bool.Decides.{nat_tests}
use Rattle.segment_reader.proofs.ReaderCalls.{no_kind, of_kind}
use Rattle.terms.specs.Kinds.{kind_of}
use Rattle.segment_reader.proofs.inverted_index_reader.InvertedIndexReader.has_type.Goals as goal

pub returns-in-Some : goal.returns-in-Some
returns-in-Some c =
    let both = of_kind c.args.self.now c.args.field c.index_of.result c.in-Some.index (kind_of c.args.value_type) c.to_code.result c.to_code-in-Some.result c.index_of.ensures.index c.in-Some.is c.to_code.ensures c.to_code-in-Some.ensures in
    (λ same. both.0 (grind (arith, nat_tests, same)), λ has. (let same = both.1 has in grind (arith, nat_tests, same)))

pub returns-in-None : goal.returns-in-None
returns-in-None c = (λ never. absurd (true≢false (sym never)), λ has. absurd (no_kind c.args.self.now c.args.field c.index_of.result (kind_of c.args.value_type) c.index_of.ensures.index c.in-None.is has))
