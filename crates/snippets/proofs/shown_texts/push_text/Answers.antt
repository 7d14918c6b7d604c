-- One character more; in the end those of the text.
use Rattle.std.proofs.Common.{ap, map-id, string_bytes, sym, ◌++◌, ◌∙◌}
use Rattle.std.proofs.lemmas.Iterator.{YieldsList-from_chars}
use Rattle.std.proofs.lemmas.Iterator.Consumers.{YieldsList-end}
use Rattle.snippets.proofs.ShownTexts.{one_more}
use Rattle.snippets.specs.ShownTexts.{shown_chars}
use Rattle.snippets.proofs.shown_texts.push_text.Goals as goal

pub loop-c-preserved : goal.loop-c-preserved
loop-c-preserved c = one_more _ _ _ _ c.in-Some.c c.shown_char.result c.in_ok-push.ensures.bytes c.shown_char.ensures c.loop-c.invariant

pub returns : goal.returns
returns c =
    let end = YieldsList-end (YieldsList-from_chars c.args.text.now c.utf8.text cc) c.loop-c.yielded _ c.loop-c.yielded_by _ _ c.in-None.is c.next.ensures.steps in
    c.loop-c.invariant ∙ ap (λ cs. string_bytes c.args.out.now ++ shown_chars cs) (sym (map-id c.loop-c.yielded) ∙ end.0)
