use Rattle.std.proofs.Common.{Bor, List, ap, arith, drop, map, option_map, subst, take, ◌-◌, ◌∙◌, ℕ}
use Rattle.layouts.specs.TermSections.{TermsAscend}
use Rattle.segment_reader.proofs.KeptFound.{ascends}
use Rattle.segment_reader.proofs.Ranges.{range_found}
use Rattle.segment_reader.specs.Dictionaries.{Placed, ahead}
use Rattle.segment_reader.proofs.term_dictionary.TermDictionary.range.Goals as goal

pub returns : goal.returns
returns c =
    let n = c.max-last.result - c.first_from-first.result in
    c.cut.ensures
    ∙ ap (λ (ts : List Placed). ahead (take n ts)) (c.in_ok-range.ensures ∙ ap (drop c.first_from-first.result) c.self.view_is)
    ∙ ap ahead (range_found c.args.self.now c.args.start.now (option_map (λ (key : Bor (List ℕ)). key.now) c.args.end) c.first_from-first.result c.end_from.result c.max-last.result (subst (λ ts. TermsAscend (map (λ (t : Placed). t.0) ts)) c.self.view_is (ascends c.self.inside.section.now c.self.inside.shape c.self.inside.starts.now (omega arith) c.self.invariant)) c.first_from-first.ensures c.end_from.ensures c.max-last.ensures)
