use Rattle.std.proofs.Common.{◌++◌, ◌+◌, ◌-◌, ◌∙◌, ◌≡◌, ap, ap₂, arith, drop, length, map, subst, sym, take, true, ℕ}
use Rattle.std.specs.List.{AllWithin}
use Rattle.std.proofs.lemmas.List.{length-drop, length-take, take_rest}
use Rattle.common.specs.Token.{token_of}
use Rattle.languages.specs.Characters.{is_word_char}
use Rattle.languages.specs.Tokens.{run_tokens, runs_tokens}
use Rattle.languages.specs.Words.{run_words, runs}
use Rattle.languages.proofs.RunTokens.{run-more, runs-last, runs-step}
use Rattle.languages.proofs.cutting.cut.Goals as goal
use Rattle.languages.proofs.cutting.cut.Goals.{else-not-is_word_char, then-not-is_word_char+in_ok-position}

pub loop-i-preserved : goal.loop-i-preserved
loop-i-preserved c =
    let s = c.args.chars.now in
    let front = map token_of c.loop-i.tokens.items in
    elim c.if-not-is_word_char.branch [
      | then-not-is_word_char+in_ok-position w ↦
          let run = take (c.loop-i.i - c.loop-i.start) (drop c.loop-i.start s) in
          record {
            whole =
                ap (λ ts. map token_of ts.items ++ runs_tokens c.args.form c.if-not-is_word_char.position (runs (drop c.if-not-is_word_char.start s))) w.tokens-is
                ∙ ap₂ (λ p q. map token_of w.push_run.new.tokens.items ++ runs_tokens c.args.form p (runs (drop q s))) (w.position-is ∙ w.in_ok-position.ensures.behind) w.start-is
                ∙ ap (λ ts. ts ++ runs_tokens c.args.form (c.loop-i.position + length (run_words run)) (runs (drop (c.loop-i.i + 1) s))) w.in_ok-position.ensures.tokens
                ∙ runs-step c.args.form s front c.loop-i.position c.loop-i.start c.loop-i.i c.index-chars-i.result c.is_word_char.result c.loop-i.invariant.begun c.loop-i-test.true c.loop-i.invariant.run c.index-chars-i.is c.is_word_char.ensures w.if-not-is_word_char.true
                ∙ c.loop-i.invariant.whole;
            run = λ k d low high. absurd (omega (arith, w.start-is));
            begun = omega (arith, w.start-is);
            few = omega (arith, w.start-is, w.position-is, w.in_ok-position.ensures.within, length-take (c.loop-i.i - c.loop-i.start) (drop c.loop-i.start s), length-drop c.loop-i.start s);
          }
      | else-not-is_word_char w ↦
          record {
            whole =
                ap (λ ts. map token_of ts.items ++ runs_tokens c.args.form c.if-not-is_word_char.position (runs (drop c.if-not-is_word_char.start s))) w.tokens-is
                ∙ ap₂ (λ p q. front ++ runs_tokens c.args.form p (runs (drop q s))) w.position-is w.start-is
                ∙ c.loop-i.invariant.whole;
            run =
                let P : ℕ → Type 0 = λ q. AllWithin (λ x. is_word_char x ≡ true) s q (c.loop-i.i + 1) in
                subst P (sym w.start-is)
                (run-more s c.loop-i.start c.loop-i.i c.index-chars-i.result c.is_word_char.result c.loop-i-test.true c.loop-i.invariant.run c.index-chars-i.is c.is_word_char.ensures w.if-not-is_word_char.false);
            begun = omega (arith, w.start-is);
            few = omega (arith, w.start-is, w.position-is);
          }
    ]

pub returns : goal.returns
returns c =
    let s = c.args.chars.now in
    let front = map token_of c.loop-i.tokens.items in
    let start = c.loop-i.start in
    c.in_ok-_end.ensures.tokens
    ∙ ap (λ r. front ++ run_tokens c.args.form c.loop-i.position (run_words r)) (take_rest s start)
    ∙ runs-last c.args.form s front c.loop-i.position start (λ k d low high. c.loop-i.invariant.run k d low (omega arith))
    ∙ c.loop-i.invariant.whole
