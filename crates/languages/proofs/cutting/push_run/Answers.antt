use Rattle.std.proofs.Common.{[], ◌++◌, ◌+◌, ◌∙◌, ◌≡◌, ap, ap₂, arith, drop, eqb-true, get_or, length, map, sym, take}
use Rattle.std.proofs.lemmas.List.{nil_from_length}
use Rattle.common.specs.Token.{token_of}
use Rattle.languages.specs.Characters.{writing}
use Rattle.languages.specs.Forms.{formed}
use Rattle.languages.specs.Tokens.{pair_token, run_tokens, word_token}
use Rattle.languages.specs.Words.{Word, run_words}
use Rattle.languages.proofs.RunTokens.{no_words, run-end, run-step}
use Rattle.languages.proofs.cutting.push_run.Goals as goal

pub loop-rest-preserved : goal.loop-rest-preserved
loop-rest-preserved c =
    let form = c.args.form in
    let rest = c.loop-rest.rest.now in
    let len = c.word_len-len.result in
    let position = c.loop-rest.position in
    let front = map token_of c.loop-rest.tokens.items in
    let word : Word = (writing (get_or rest 0 0), take len rest) in
    let words = run_words (drop len rest) in
    let pushed =
    c.in_ok-push_pair.ensures
    ∙ ap (λ ts. ts ++ pair_token form position word words) (c.in_ok-push_token.ensures ∙ ap (λ cs. front ++ word_token position 1 (formed form cs)) c.split_at.ensures.front) in
    let counted = ap length c.word_len-len.ensures.words in
    let behind = ap (λ later. length (run_words later)) c.split_at.ensures.back in
    record {
      whole =
          ap₂ (λ ts later. ts ++ run_tokens form (position + 1) (run_words later)) pushed c.split_at.ensures.back
          ∙ run-step form front position word words
          ∙ ap (λ ws. front ++ run_tokens form position ws) (sym c.word_len-len.ensures.words)
          ∙ c.loop-rest.invariant.whole;
      count = omega (arith, counted, behind, c.loop-rest.invariant.count);
      room = omega (arith, c.split_at.ensures.back_len, c.word_len-len.ensures.some);
    }

pub returns-clause-tokens : goal.returns-clause-tokens
returns-clause-tokens c =
    let form = c.args.form in
    let rest = c.loop-rest.rest.now in
    let front = map token_of c.loop-rest.tokens.items in
    let none : rest ≡ [] = nil_from_length rest (eqb-true (length rest) 0 (sym c.is_empty.ensures ∙ c.loop-rest-test.false)) in
    sym (run-end form front c.loop-rest.position)
    ∙ ap (λ r. front ++ run_tokens form c.loop-rest.position (run_words r)) (sym none)
    ∙ c.loop-rest.invariant.whole

pub returns-clause-behind : goal.returns-clause-behind
returns-clause-behind c =
    let form = c.args.form in
    let rest = c.loop-rest.rest.now in
    let none : rest ≡ [] = nil_from_length rest (eqb-true (length rest) 0 (sym c.is_empty.ensures ∙ c.loop-rest-test.false)) in
    let counted = ap (λ r. length (run_words r)) none ∙ no_words in
    omega (arith, counted, c.loop-rest.invariant.count)
