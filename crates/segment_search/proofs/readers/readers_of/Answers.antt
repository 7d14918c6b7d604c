use Rattle.std.proofs.Common.{[], List, ap, arith, length, map, rules, subst, suc, sym, take, ◌+◌, ◌++◌, ◌<◌, ◌∙◌, ◌∷◌, ◌≡◌}
use Rattle.std.proofs.lemmas.List.{length-append}
use Rattle.std.specs.List.{AllZip}
use Rattle.scorer_answers.specs.Rows.{HasRows, flags_in}
use Rattle.segment_search.proofs.Flagging.{flagged_at, flagged_within}
use Rattle.segment_search.proofs.RowsRead.{flags_read, rows_read, take_next}
use Rattle.segment_search.specs.Flags.{flagged_each}
use Rattle.segment_reader.specs.declared.segment_reader.SegmentReader.{SegmentReader}
use Rattle.segment_search.proofs.readers.readers_of.Goals as goal

-- src/readers.rt:32:22
pub offset_bounds-segments-index : goal.offset_bounds-segments-index
offset_bounds-segments-index c =
    let few = flagged_within c.args.segments.now c.args.alive.now c.requires.flagged in
    let there = c.loop-index-test.true in
    let inside : c.loop-index.index < length c.args.segments.now = omega (arith, few, there) in
    search rules

-- src/readers.rt:32:22
pub bounds-segments-index : goal.bounds-segments-index
bounds-segments-index c =
    let few = flagged_within c.args.segments.now c.args.alive.now c.requires.flagged in
    let there = c.loop-index-test.true in
    omega (arith, few, there)

-- src/readers.rt:32:22
pub reader-requires : goal.reader-requires
reader-requires c = record { flagged = flagged_at c.args.segments.now c.args.alive.now c.loop-index.index c.index-segments-index.result c.index-alive-index.result c.requires.flagged c.loop-index-test.true c.index-segments-index.is c.index-alive-index.is }

-- src/readers.rt:31:5
pub loop-index-preserved : goal.loop-index-preserved
loop-index-preserved c =
    let l = c.loop-index in
    let segments = c.args.segments.now in
    let sets = c.args.alive.now in
    let set = c.index-alive-index.result in
    let there = c.loop-index-test.true in
    let next : suc l.index ≡ l.index + 1 = omega arith in
    let pushed = c.in_ok-push.ensures.items in
    record {
      rows = λ schema analyze docs stands.
          let read = rows_read schema analyze docs segments sets l.readers.items l.index c.index-segments-index.result set c.reader.result stands c.requires.flagged there c.index-segments-index.is c.index-alive-index.is (c.reader.ensures.stands schema analyze) c.reader.ensures.alive (l.invariant.rows schema analyze docs stands) in
          subst (λ (rs : List SegmentReader). AllZip (HasRows schema analyze) (flagged_each docs (take (l.index + 1) sets)) rs) (sym pushed)
          (subst (λ n. AllZip (HasRows schema analyze) (flagged_each docs (take n sets)) (l.readers.items ++ c.reader.result ∷ [])) next read);
      flags =
          ap (map flags_in) pushed
          ∙ flags_read sets l.readers.items l.index set c.reader.result there c.index-alive-index.is c.reader.ensures.alive l.invariant.flags
          ∙ ap (λ n. take n sets) next;
      len =
          let so_far = l.invariant.len in
          let long = take_next sets l.index there in
          let more = length-append l.readers.items (c.reader.result ∷ []) in
          let one : length (l.readers.items ++ c.reader.result ∷ []) ≡ length (take (suc l.index) sets) = omega (arith, so_far, long, more) in
          ap length pushed ∙ one ∙ ap (λ n. length (take n sets)) next;
    }
