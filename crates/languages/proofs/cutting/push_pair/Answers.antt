use Rattle.std.proofs.Common.{◌++◌, ◌∙◌, ◌∷◌, ◌≡◌, ap, append-nil, drop, get_or, map, subst, sym, take}
use Rattle.std.proofs.lemmas.List.{take_rest}
use Rattle.common.specs.Token.{token_of}
use Rattle.languages.specs.Characters.{writing}
use Rattle.languages.specs.Words.{run_words}
use Rattle.languages.proofs.RunTokens.{pair-end, pair-none, pair-some}
use Rattle.languages.proofs.cutting.push_pair.Goals as goal
use Rattle.languages.proofs.cutting.push_pair.Goals.{else-len-run-via-else-len-run, else-len-run-via-then-len-run+else-is_neighbour_of}

pub returns-in_ok-push_token : goal.returns-in_ok-push_token
returns-in_ok-push_token c =
    let front = map token_of c.args.tokens.now.items in
    let len = c.word_len.result in
    let words =
    subst (λ rest. run_words rest ≡ (writing (get_or rest 0 0), take len rest) ∷ run_words (drop len rest)) (take_rest c.args.run.now c.args.len) c.word_len.ensures.words in
    c.in_ok-push_token.ensures
    ∙ ap (λ ts. front ++ ts)
    (pair-some c.args.form c.args.position c.args.run.now c.args.len c.word_len.result c.index-run-0.result c.index-run-len.result c.of_char.result c.of_char-then-len-run.result c.is_neighbour_of.result
    c.if-len-run.true c.index-run-0.is c.of_char.ensures c.index-run-len.is c.of_char-then-len-run.ensures c.is_neighbour_of.ensures c.if-is_neighbour_of.true words)

pub returns-else-len-run : goal.returns-else-len-run
returns-else-len-run c =
    let front = map token_of c.args.tokens.now.items in
    elim c.else-len-run.branch [
      | else-len-run-via-then-len-run+else-is_neighbour_of w ↦
          sym (append-nil front)
          ∙ ap (λ ts. front ++ ts)
          (pair-none c.args.form c.args.position c.args.run.now c.args.len w.index-run-0.result w.index-run-len.result w.of_char.result w.of_char-then-len-run.result w.is_neighbour_of.result
          w.if-len-run.true w.index-run-0.is w.of_char.ensures w.index-run-len.is w.of_char-then-len-run.ensures w.is_neighbour_of.ensures w.if-is_neighbour_of.false)
      | else-len-run-via-else-len-run w ↦
          sym (append-nil front) ∙ ap (λ ts. front ++ ts) (sym (pair-end c.args.form c.args.position (writing (get_or c.args.run.now 0 0), take c.args.len c.args.run.now) c.args.run.now c.args.len w.if-len-run.false))
    ]
