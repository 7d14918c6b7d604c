use Rattle.std.proofs.Common.{List, ap, arith, sym, ℕ}
use Rattle.definitions.specs.Answers.{answers}
use Rattle.definitions.specs.Query.{term}
use Rattle.definitions.specs.TermBlocks.{scored_blocks}
use Rattle.walks.proofs.FedBelow.{fed_below, few_within}
use Rattle.segment_reader.specs.SegmentReaders.{max_doc_of}
use Rattle.term_scorer.specs.ScoredTerms.{scored_left}
use Rattle.term_scorer.specs.ScoredTermsLaws.{rising_scored}
use Rattle.leaf_weights.proofs.BlocksFound.{blocks_found, first_counted}
use Rattle.leaf_weights.specs.DecodedBlocks.{decoded_for}
use Rattle.leaf_weights.specs.TermWeights.{option_asked, term_of}
use Rattle.leaf_weights.proofs.term_weight.TermWeight.for_each_pruning_counted.Goals as goal

pub block_wand_single_scorer-requires-clause-room : goal.block_wand_single_scorer-requires-clause-room
block_wand_single_scorer-requires-clause-room g c =
    let scorer = c.in-Some.scorer in
    let few = few_within 0 (max_doc_of c.args.reader.now) (scored_left scorer) (rising_scored scorer) c.in-Some.ensures.within in
    let room = c.requires.room in
    omega (arith, few, room)

pub returns-in-Some-clause-listed : goal.returns-in-Some-clause-listed
returns-in-Some-clause-listed g c =
    let scorer = c.in-Some.scorer in
    fed_below g.K.Sink.limit g.K.Sink.taken (g.K.Sink.state c.args.sink.now) (g.K.Sink.state c.block_wand_single_scorer.new.sink) (max_doc_of c.args.reader.now) (scored_left scorer) (rising_scored scorer) c.in-Some.ensures.within c.block_wand_single_scorer.ensures.state

pub returns-in-Some-clause-counted : goal.returns-in-Some-clause-counted
returns-in-Some-clause-counted g c schema analyze sim docs stands scores =
    let scorer = c.in-Some.scorer in
    let t = term_of c.args.self.now in
    let option = option_asked c.args.self.now in
    let state = g.K.Sink.state c.args.sink.now in
    let opened = c.in-Some.ensures.opened in
    let first = opened.0 in
    let count = c.block_wand_single_scorer.ensures.counted in
    let told = c.decoded_blocks.ensures in
    let pairs = c.in-Some.ensures.some schema analyze sim docs stands scores in
    let found = blocks_found schema analyze sim 1 t option g.K.Sink.limit g.K.Sink.taken state docs scorer pairs (c.in-Some.ensures.similarity sim scores) opened.1 (c.in-Some.ensures.blocks schema analyze docs stands) in
    let counted = first_counted g.K.Sink.limit g.K.Sink.taken state (scored_left scorer) (answers schema analyze sim 1 (term t option) docs) (scored_blocks schema analyze sim 1 t option docs) pairs c.in-Some.ensures.present in
    omega (arith, first, count, told, found, counted)

pub returns-in-None-clause-counted : goal.returns-in-None-clause-counted
returns-in-None-clause-counted g c schema analyze sim docs stands scores =
    let none = c.in-None.ensures.none schema analyze sim docs stands in
    sym (ap (λ (ps : List (ℕ × ℕ)). decoded_for g.K.Sink.limit g.K.Sink.taken (g.K.Sink.state c.args.sink.now) ps (scored_blocks schema analyze sim 1 (term_of c.args.self.now) (option_asked c.args.self.now) docs)) none)
