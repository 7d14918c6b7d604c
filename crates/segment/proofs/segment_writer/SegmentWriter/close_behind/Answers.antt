use Rattle.std.proofs.Common.{ap, arith, length, ◌++◌, ◌∙◌, ◌<◌, ◌≡◌}
use Rattle.std.proofs.Math.Logic.{∥∥₁_elim, ∥∥₁_map}
use Rattle.std.proofs.Props.{props}
use Rattle.definitions.specs.KeptLengths.{norms_of}
use Rattle.segment_definitions.proofs.DocumentKeys.{indexed_keyed}
use Rattle.segment_definitions.specs.Segments.{Sections, segment_bytes}
use Rattle.segment_definitions.specs.Slots.{slots}
use Rattle.segment.proofs.Adding.{docs_counted}
use Rattle.segment.proofs.BehindPrefixes.{front_stands, written_behind}
use Rattle.store.proofs.SlotLaws.{slots_kept}
use Rattle.store.specs.Writing.{blocks_of}
use Rattle.segment.proofs.segment_writer.SegmentWriter.close_behind.Goals as goal

pub serialize-requires : goal.serialize-requires
serialize-requires c = ∥∥₁_map c.requires (λ given. (given.0, given.2, given.3.indexed))

pub returns-clause-front : goal.returns-clause-front
returns-clause-front c = front_stands c.args.prefix.items _ c.in_ok-put_behind.field-0.items c.in_ok-put_behind.ensures.whole

pub returns-clause-ok : goal.returns-clause-ok
returns-clause-ok c analyze block_size docs h =
    let schema = c.args.schema.now in
    let w = c.args.self.store in
    let prefix = c.args.prefix.items in
    let count : c.num_docs-num_docs.result ≡ length docs = c.num_docs-num_docs.ensures.count ∙ docs_counted w schema docs h.stored in
    let some : 0 < length docs = ∥∥₁_elim c.requires (hlevel props) (λ given.
    let asked = c.num_docs-num_docs.ensures.count ∙ docs_counted w schema given.2 given.3.stored in
    let least = given.4 in
    omega (arith, count, asked, least)) in
    let sections : Sections = record { terms = c.in_ok-terms.terms.items; postings = c.in_ok-terms.postings.items; positions = c.in_ok-terms.positions.items; norms = c.in_ok-terms.norms.items; store = c.in_ok-close.field-0.items } in
    let terms = c.in_ok-terms.ensures.ok analyze docs h.indexed in
    let kept = slots_kept w.blocks w.pending (slots schema docs) w.block_size c.num_docs-num_docs.ensures.valid h.stored in
    record {
      sections = sections;
      fields = terms.0;
      taken = h.taken;
      written = written_behind (length docs) sections prefix c.in_ok-put_behind.field-0.items some h.num_docs_fit c.in_ok-put_behind.ensures.short (c.in_ok-put_behind.ensures.whole ∙ ap (λ n. prefix ++ segment_bytes n sections) count);
      terms_are = terms.1;
      keyed = indexed_keyed schema analyze (h.texts some) docs h.taken (length docs) (norms_of schema analyze docs) terms.0 terms.1.each_field terms.2;
      indexed = terms.2;
      norms_are = c.in_ok-terms.ensures.lengths analyze docs h.indexed;
      store_is = (blocks_of w, kept.0, kept.1, c.in_ok-close.ensures);
    }
