use Rattle.std.proofs.Common.{◌++◌, ◌<◌, ◌≡◌, ◌≤◌, ◌∙◌, ap, arith, false, get_or, length, option_to_list, rules, true}
use Rattle.std.proofs.lemmas.Bool.Decides.{nat_tests}
use Rattle.std.proofs.lemmas.List.{take_rest}
use Rattle.std.proofs.lemmas.Str.{IsCharBoundary-after_ascii, IsCharBoundary-before_ascii, IsCharBoundary-start}
use Rattle.definitions.specs.Analyzers.{is_word_byte, run_token}
use Rattle.common.proofs.TokenParts.{boundary_lowered}
use Rattle.common.proofs.Words.{tokens_from, tokens_from-gap, tokens_from-last, tokens_from-word, word-more}
use Rattle.common.proofs.raw_and_default.put_words.Goals as goal
use Rattle.common.proofs.raw_and_default.put_words.Goals.{then-not-is_word_byte, then-start-i+in_ok-put_word, else-start-i, else-not-is_word_byte}

pub loop-i-init : goal.loop-i-init
loop-i-init c = record {
  whole = ap (λ v. v.1 ++ tokens_from 0 c.args.text.now) c.in_ok-put_lowercase.ensures;
  lowered = ap (λ v. v.0) c.in_ok-put_lowercase.ensures;
  word = search rules;
  begun = search rules;
  few = search rules;
  boundary = IsCharBoundary-start c.args.text.now c.utf8.text;
}

pub put_word-requires-clause-start : goal.put_word-requires-clause-start
put_word-requires-clause-start c = rw c.loop-i.invariant.lowered (boundary_lowered c.args.text.now c.loop-i.start c.loop-i.invariant.boundary)

pub put_word-requires-clause-end : goal.put_word-requires-clause-end
put_word-requires-clause-end c =
    let s = c.args.text.now in
    let inside : c.loop-i.i < length s = omega (arith, ap length c.as_bytes-byte-items.ensures.value) in
    let apart : is_word_byte (get_or s c.loop-i.i 0) ≡ false = cc (c.if-not-is_word_byte.ensures) in
    let ascii : get_or s c.loop-i.i 0 < 128 = grind (arith, nat_tests) in
    rw c.loop-i.invariant.lowered (boundary_lowered s c.loop-i.i (IsCharBoundary-before_ascii s c.loop-i.i inside ascii))

pub loop-i-preserved : goal.loop-i-preserved
loop-i-preserved c =
    let s = c.args.text.now in
    let inside : c.loop-i.i < length s = omega (arith, ap length c.as_bytes-byte-items.ensures.value) in
    elim c.if-not-is_word_byte.branch [
      | then-not-is_word_byte w ↦
          let apart : is_word_byte (get_or s c.loop-i.i 0) ≡ false = cc (w.if-not-is_word_byte.ensures) in
          let ascii : get_or s c.loop-i.i 0 < 128 = grind (arith, nat_tests) in
          let boundary = IsCharBoundary-after_ascii s c.loop-i.i c.utf8.text inside ascii in
          elim w.if-start-i.branch [
            | then-start-i+in_ok-put_word w' ↦
                let step = tokens_from-word s c.loop-i.buffer.1 c.loop-i.position c.loop-i.start c.loop-i.i w'.if-start-i.true inside c.loop-i.invariant.word apart in
                let added = w'.in_ok-put_word.ensures.tokens s c.loop-i.invariant.lowered in
                record { whole = cc; lowered = cc (w'.in_ok-put_word.ensures.text); word = λ k d low high. absurd (omega arith); begun = omega arith; few = omega arith; boundary = rw w.start-is boundary }
            | else-start-i w' ↦
                let here : c.loop-i.start ≡ c.loop-i.i = omega arith in
                let step = tokens_from-gap s c.loop-i.position c.loop-i.i inside apart in
                record { whole = cc; lowered = cc; word = λ k d low high. absurd (omega arith); begun = omega arith; few = omega arith; boundary = rw w.start-is boundary }
          ]
      | else-not-is_word_byte w ↦
          let more : is_word_byte (get_or s c.loop-i.i 0) ≡ true = cc (w.if-not-is_word_byte.ensures) in
          record { whole = cc; lowered = cc; word = rw w.start-is (word-more s c.loop-i.start c.loop-i.i inside c.loop-i.invariant.word more); begun = omega arith; few = omega arith; boundary = search rules }
    ]

pub returns-in_ok-put_word-2 : goal.returns-in_ok-put_word-2
returns-in_ok-put_word-2 c =
    let s = c.args.text.now in
    let all : length s ≤ c.loop-i.i = omega (arith, ap length c.as_bytes-byte-items.ensures.value) in
    let step = tokens_from-last s c.loop-i.position c.loop-i.start c.if-start-text.true (λ k d low high. c.loop-i.invariant.word k d low (omega arith)) in
    let added = c.in_ok-put_word-2.ensures.tokens s c.loop-i.invariant.lowered in
    added
    ∙ ap (λ run. c.loop-i.buffer.1 ++ option_to_list (run_token (c.loop-i.position, run))) (take_rest s c.loop-i.start)
    ∙ ap (λ ts. c.loop-i.buffer.1 ++ ts) step
    ∙ c.loop-i.invariant.whole
