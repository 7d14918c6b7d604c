use Rattle.std.proofs.Common.{ap, map, sym, ◌∙◌, ◌≡◌}
use Rattle.definitions.proofs.Lists.{emptied}
use Rattle.docsets.specs.Entries.{from}
use Rattle.docsets.specs.Members.{enough}
use Rattle.intersections.specs.Differences.{without}
use Rattle.joint_walks.proofs.ClauseLists.{without_agree, without_none}
use Rattle.segment_reader.specs.SegmentReaders.{max_doc_of}
use Rattle.joint_walks.proofs.joint_counts.count_without.Goals as goal

pub count-requires : goal.count-requires
count-requires g c =
    let es = g.D.DocSet.entries c.args.scorer in
    let none = emptied c.args.must_nots.items _ _ (sym c.args.must_nots.ok.0) c.is_empty.ensures c.if-is_empty.true in
    let all : without (enough 1 (map g.N.DocSet.entries c.args.must_nots.items)) es ≡ es = ap (λ xs. without (enough 1 (map g.N.DocSet.entries xs)) es) none ∙ without_none es in
    record { within = ap (λ xs. from (max_doc_of c.args.reader.now) xs) (sym all) ∙ c.requires }

pub returns-then-is_empty : goal.returns-then-is_empty
returns-then-is_empty g c weight b q are schema analyze rows has passes =
    let es = g.D.DocSet.entries c.args.scorer in
    let none = emptied c.args.must_nots.items _ _ (sym c.args.must_nots.ok.0) c.is_empty.ensures c.if-is_empty.true in
    let all : without (enough 1 (map g.N.DocSet.entries c.args.must_nots.items)) es ≡ es = ap (λ xs. without (enough 1 (map g.N.DocSet.entries xs)) es) none ∙ without_none es in
    c.count.ensures.count schema analyze weight b q rows has passes (are es (sym all))

pub count-requires-2 : goal.count-requires-2
count-requires-2 g c =
    let es = g.D.DocSet.entries c.args.scorer in
    let same = c.new-scorer.ensures ∙ without_agree _ (enough 1 (map g.N.DocSet.entries c.args.must_nots.items)) 0 es (g.met.D.DocSet.rising c.args.scorer) c.new.ensures.excludes in
    record { within = ap (λ xs. from (max_doc_of c.args.reader.now) xs) same ∙ c.requires }

pub returns : goal.returns
returns g c weight b q are schema analyze rows has passes =
    let es = g.D.DocSet.entries c.args.scorer in
    let same = c.new-scorer.ensures ∙ without_agree _ (enough 1 (map g.N.DocSet.entries c.args.must_nots.items)) 0 es (g.met.D.DocSet.rising c.args.scorer) c.new.ensures.excludes in
    c.count-2.ensures.count schema analyze weight b q rows has passes (are _ same)
