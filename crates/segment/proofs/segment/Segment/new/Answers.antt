use Rattle.std.proofs.Common.{subst, sym}
use Rattle.std.proofs.lemmas.Grind.{merely}
use Rattle.std.proofs.Math.Logic.{∥∥₁_map}
use Rattle.segment.proofs.KnownSegments.{opened_known, parts_known, store_known, terms_known}
use Rattle.segment.proofs.Opening.{store_short}
use Rattle.definitions.specs.NumberCodes.{AreBytes}
use Rattle.segment.specs.Sections.{sections_in}
use Rattle.segment_definitions.specs.Segments.{AreWritten}
use Rattle.segment.proofs.segment.Segment.new.Goals as goal

pub known_sections-requires : goal.known_sections-requires
known_sections-requires c = ∥∥₁_map c.requires (λ is. (is.0, is.1.sections, subst (AreWritten is.0 is.1.sections) (sym c.in_ok-clone.ensures.cases) is.1.written))

pub new-requires : goal.new-requires
new-requires c =
    let N = c.in_ok-sections.sections in
    let written = subst (AreWritten N.num_docs (sections_in N)) c.in_ok-clone.ensures.cases c.in_ok-sections.ensures.written in
    terms_known c.args.schema.now N.num_docs (sections_in N) c.args.bytes written (parts_known c.args.schema.now N.num_docs (sections_in N) c.args.bytes written c.requires)

pub known_store-requires-clause-short : goal.known_store-requires-clause-short
known_store-requires-clause-short c =
    let N = c.in_ok-sections.sections in
    store_short N.num_docs (sections_in N) c.in_ok-clone.field-0 c.in_ok-sections.ensures.written

pub known_store-requires-clause-known : goal.known_store-requires-clause-known
known_store-requires-clause-known c =
    let N = c.in_ok-sections.sections in
    let written = subst (AreWritten N.num_docs (sections_in N)) c.in_ok-clone.ensures.cases c.in_ok-sections.ensures.written in
    store_known c.args.schema.now N.num_docs (sections_in N) (parts_known c.args.schema.now N.num_docs (sections_in N) c.args.bytes written c.requires)

pub invariant_of-result : goal.invariant_of-result
invariant_of-result c =
    let schema = c.args.schema.now in
    let N = c.in_ok-sections.sections in
    let s = sections_in N in
    let r = c.in_ok-inverted_index in
    let store = c.in_ok-store in
    let written = subst (AreWritten N.num_docs s) c.in_ok-clone.ensures.cases c.in_ok-sections.ensures.written in
    let bytes = subst AreBytes c.in_ok-clone.ensures.cases c.in_ok-sections.ensures.bytes in
    let known = parts_known schema N.num_docs s c.args.bytes written c.requires in
    record { opened = merely (schema, opened_known schema N.num_docs s c.args.bytes r.inverted_index c.in_ok-length_fields.length_fields.items store.store.blocks written bytes r.ensures.sections r.ensures.ok known c.in_ok-length_fields.ensures store.ensures.blocks store.ensures.counted) }

pub returns-clause-ok : goal.returns-clause-ok
returns-clause-ok c =
    let schema = c.args.schema.now in
    let N = c.in_ok-sections.sections in
    let s = sections_in N in
    let r = c.in_ok-inverted_index in
    let store = c.in_ok-store in
    let written = subst (AreWritten N.num_docs s) c.in_ok-clone.ensures.cases c.in_ok-sections.ensures.written in
    let bytes = subst AreBytes c.in_ok-clone.ensures.cases c.in_ok-sections.ensures.bytes in
    let known = parts_known schema N.num_docs s c.args.bytes written c.requires in
    opened_known schema N.num_docs s c.args.bytes r.inverted_index c.in_ok-length_fields.length_fields.items store.store.blocks written bytes r.ensures.sections r.ensures.ok known c.in_ok-length_fields.ensures store.ensures.blocks store.ensures.counted
