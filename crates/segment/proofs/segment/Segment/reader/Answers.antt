use Rattle.std.proofs.Common.{length, subst, sym, ◌≡◌, ◌∙◌}
use Rattle.std.proofs.Math.Logic.{∥∥₁_map}
use Rattle.std.specs.List.{AllByRecursion}
use Rattle.segment_reader.specs.Readers.{IsReader}
use Rattle.segment.proofs.Reading.{documents_lengths, opened_lengths, reader_stands}
use Rattle.segment.proofs.segment.Segment.reader.Goals as goal

pub new-requires-clause-together : goal.new-requires-clause-together
new-requires-clause-together c = ∥∥₁_map c.args.self.now.opened (λ o.
    (let s = c.args.self.now in
    let found = c.fieldnorms_readers-lengths.ensures ∙ opened_lengths o.0 s o.1 in
    record {
      schema = o.0;
      fields = o.1.fields;
      reads = subst (λ ns. IsReader o.0 s.num_docs ns o.1.fields s.inverted_index) (sym found) (o.1.reads o.1.fields o.1.terms_are);
      each_field = subst (AllByRecursion (λ p. length p.1 ≡ s.num_docs)) (sym found) o.1.norms_are.counts;
    }))

pub returns-clause-stands : goal.returns-clause-stands
returns-clause-stands c schema analyze docs stands =
    let s = c.args.self.now in
    let lent = c.fieldnorms_readers-lengths in
    reader_stands schema analyze docs s stands c.new.result lent.result c.new.ensures.max_doc c.new.ensures.index c.new.ensures.lengths (lent.ensures ∙ opened_lengths schema s stands.opened) (lent.ensures ∙ documents_lengths schema analyze docs s stands)
