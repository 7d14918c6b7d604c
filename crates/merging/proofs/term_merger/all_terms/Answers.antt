use Rattle.std.proofs.Common.{[], ap, arith, sym, take, ◌++◌, ◌∙◌, ◌∷◌}
use Rattle.std.proofs.lemmas.List.{take_more}
use Rattle.segment_reader.specs.Dictionaries.{Walked}
use Rattle.merging.proofs.MergerSteps.{between_all}
use Rattle.merging.proofs.term_merger.all_terms.Goals as goal

pub loop-dictionary-preserved : goal.loop-dictionary-preserved
loop-dictionary-preserved c =
    let item = c.dictionary-item.result in
    let told = c.new.ensures ∙ ap (λ (w : Walked). w.rest) c.in_ok-range.ensures ∙ between_all item in
    c.in_ok-push.ensures.items ∙ ap (λ xs. xs ++ c.new.result ∷ []) c.loop-dictionary.invariant ∙ ap (λ x. take c.loop-dictionary.dictionary-index c.args.dictionaries.now ++ x ∷ []) (told ∙ c.dictionary-item.is)
    ∙ sym (take_more c.args.dictionaries.now c.loop-dictionary.dictionary-index item (omega arith))
