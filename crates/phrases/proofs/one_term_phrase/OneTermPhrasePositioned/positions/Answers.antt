use Rattle.std.proofs.Common.{[], List, ap, arith, length, subst, sym, ◌<◌, ◌∙◌, ◌∷◌, ◌≡◌, ℕ}
use Rattle.docsets.specs.Entries.{AreSingle, Entry, first, first_positions, single}
use Rattle.definitions.specs.Postings.{terminated}
use Rattle.phrases.proofs.OneTermLaws.{first-one_term, positions-one_term}
use Rattle.phrases.proofs.PlaceLaws.{reached-one}
use Rattle.phrases.specs.Places.{Ascends, distinct}
use Rattle.phrases.specs.PrefixEntries.{one_term}
use Rattle.phrases.proofs.PhrasePlaces.{places-reached}
use Rattle.phrases.proofs.SuffixCounts.{single-ascends}
use Rattle.phrases.proofs.one_term_phrase.OneTermPhrasePositioned.positions.Goals as goal

-- the positions, each once, are the places of the term
told : (score : ℕ) (es : List Entry) → AreSingle es → first (one_term score es) < terminated → distinct 0 (single (first_positions es)) ≡ single (first_positions (one_term score es))
told score es s l =
    let at = first-one_term score es in
    let on : first es < terminated = omega (arith, at, l) in
    let ps : List ℕ = single (first_positions es) in
    sym (positions-one_term score es on ∙ (places-reached 0 (ps ∷ []) (single-ascends es s on, tt) ∙ reached-one 0 ps))

pub copy_distinct-requires-clause-ascends : goal.copy_distinct-requires-clause-ascends
copy_distinct-requires-clause-ascends g c =
    let s = c.args.self.now in
    let es = g.P.DocSet.entries s.postings in
    let at = first-one_term s.boost es in
    let on = c.requires.on in
    subst (Ascends 0) (sym (c.deref.ensures.value ∙ c.read_positions.ensures.items)) (single-ascends es (g.met.P.Postings.of_one_term s.postings) (omega (arith, at, on)))

pub copy_all-requires : goal.copy_all-requires
copy_all-requires g c =
    let s = c.args.self.now in
    let es = g.P.DocSet.entries s.postings in
    let is = ap length (c.deref-2.ensures.value ∙ (c.copy_distinct.ensures.items ∙ (ap (distinct 0) (c.deref.ensures.value ∙ c.read_positions.ensures.items) ∙ told s.boost es (g.met.P.Postings.of_one_term s.postings) c.requires.on))) in
    let room = c.requires.room in
    omega (arith, is, room)

pub returns-clause-items : goal.returns-clause-items
returns-clause-items g c =
    let s = c.args.self.now in
    let es = g.P.DocSet.entries s.postings in
    c.copy_all.ensures.items ∙ (c.deref-2.ensures.value ∙ (c.copy_distinct.ensures.items ∙ (ap (distinct 0) (c.deref.ensures.value ∙ c.read_positions.ensures.items) ∙ told s.boost es (g.met.P.Postings.of_one_term s.postings) c.requires.on)))
