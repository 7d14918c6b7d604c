use Rattle.std.proofs.Common.{List, ap, arith, length, map, sym, ◌<◌, ◌∙◌, ◌≡◌, ℕ}
use Rattle.docsets.specs.Entries.{Entry, first, first_positions, single}
use Rattle.definitions.specs.Postings.{terminated}
use Rattle.intersections.specs.Meetings.{meeting}
use Rattle.phrases.specs.PhraseEntries.{phrased}
use Rattle.phrases.proofs.PhraseEntryLaws.{phrased-first, phrased-stands}
use Rattle.phrases.specs.PhraseScores.{phrase_score_by}
use Rattle.phrases.specs.Settled.{IsSettled}
use Rattle.phrases.specs.declared.place_finder.PlaceFinder.{PlaceFinder}
use Rattle.docsets.specs.Entries.{Rising}
use Rattle.phrases.proofs.phrase_scorer.PhraseScorerPositioned.positions.Goals as goal

-- the places of a finder are those of the first document
told : (score : ℕ → ℕ → ℕ) (f : PlaceFinder) (es : List Entry) → IsSettled f es → Rising 0 es → first (phrased score f.slop es) < terminated → f.places.items ≡ single (first_positions (phrased score f.slop es))
told score f es settled r l =
    let stands = (phrased-stands score f.slop es (λ on. (let some = settled.has_places on in let is = ap length (settled.places on) in omega (arith, some, is))) r).0 in
    let on : first es < terminated = omega (arith, stands, l) in
    let some = settled.has_places on in
    let is = ap length (settled.places on) in
    settled.places on ∙ sym (ap single (phrased-first score f.slop es on (omega (arith, some, is))).2)

pub copy_all-requires : goal.copy_all-requires
copy_all-requires g c =
    let s = c.args.self.now in
    let is = ap length (c.deref.ensures.value ∙ told (phrase_score_by s.similarity_weight_opt s.fieldnorm_reader) s.finder (meeting (map g.S.DocSet.entries s.intersection_docset.docsets.items)) s.standing.settled s.intersection_docset.meets.rises c.requires.on) in
    let room = c.requires.room in
    omega (arith, is, room)

pub returns-clause-items : goal.returns-clause-items
returns-clause-items g c =
    let s = c.args.self.now in
    c.copy_all.ensures.items ∙ (c.deref.ensures.value ∙ told (phrase_score_by s.similarity_weight_opt s.fieldnorm_reader) s.finder (meeting (map g.S.DocSet.entries s.intersection_docset.docsets.items)) s.standing.settled s.intersection_docset.meets.rises c.requires.on)
