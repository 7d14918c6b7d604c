use Rattle.std.proofs.Common.{◌≡◌, List, map, rules, subst, sym, tests, ℕ}
use Rattle.std.specs.Int.{to_be_bytes, w128}
use Rattle.std.proofs.lemmas.Iterator.{YieldsList-from_map_by}
use Rattle.std.proofs.lemmas.Iterator.Consumers.{YieldsList-at, YieldsList-from_rest, map_from_collect}
use Rattle.definitions.proofs.Lists.{IfOk-map as if_ok}
use Rattle.postings_writer.specs.Fields.{AreShortTerms}
use Rattle.postings_writer.specs.PackedKeys.{unmasked}
use Rattle.postings_writer.specs.declared.recorder.Recorder.{Recorder}
use Rattle.postings_writer.proofs.FieldViews.{are_short_terms}
use Rattle.postings_writer.proofs.field_postings.FieldPostings.short_terms.Goals as goal

pub returns : goal.returns
returns c =
    let es = c.self.inside.short.entries in
    let arrays : List (List ℕ × Recorder) = map (λ e. (to_be_bytes w128 (unmasked c.self.inside.mask e.0), e.1)) es in
    let are = are_short_terms c.self.inside.mask es c.self.inside.long.entries c.args.self.now c.self.view_is c.self.invariant.0 c.self.invariant.1 c.iter.ensures.unique in
    if_ok c.collect.result (λ terms. map (λ t. (t.0, t.1.now)) terms.items ≡ arrays) (λ terms. AreShortTerms c.args.self.now (map (λ t. (t.0, t.1.now)) terms.items))
    (λ terms is. subst (AreShortTerms c.args.self.now) (sym is) are)
    (map_from_collect _ c.collect.ensures.ran (YieldsList-from_map_by _ (λ t. (t.0, t.1.now)) (λ e. (to_be_bytes w128 (unmasked c.self.inside.mask e.0), e.1)) (YieldsList-at c.map.ensures.source (YieldsList-from_rest es c.iter.ensures.rest)) c.map.ensures.closure (λ x r q k. search (rules, tests))))
