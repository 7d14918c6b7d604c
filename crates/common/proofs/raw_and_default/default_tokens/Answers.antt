use Rattle.std.proofs.Common.{◌<◌, ◌≡◌, ◌≤◌, ap, append-nil, arith, false, get_or, length, map, rules, true}
use Rattle.std.proofs.lemmas.Bool.Decides.{nat_tests}
use Rattle.std.proofs.lemmas.Str.{IsCharBoundary-after_ascii, IsCharBoundary-start}
use Rattle.definitions.specs.Analyzers.{is_word_byte}
use Rattle.common.specs.Token.{token_of}
use Rattle.common.proofs.Words.{tokens_from-gap, tokens_from-last, tokens_from-none, tokens_from-word, word-more}
use Rattle.common.proofs.raw_and_default.default_tokens.Goals as goal
use Rattle.common.proofs.raw_and_default.default_tokens.Goals.{then-not-is_word_byte, then-start-i+in_ok-push_word, else-start-i, else-not-is_word_byte, then-start-text+in_ok-push_word-2, else-start-text}

pub loop-i-init : goal.loop-i-init
loop-i-init c = record {
  whole = rw c.new-tokens.ensures.items;
  word = search rules;
  begun = search rules;
  few = search rules;
  boundary = IsCharBoundary-start c.args.text.now c.utf8.text;
}

pub loop-i-preserved : goal.loop-i-preserved
loop-i-preserved c =
    let s = c.args.text.now in
    let inside : c.loop-i.i < length s = omega (arith, ap length c.as_bytes-byte-items.ensures.value) in
    elim c.if-not-is_word_byte.branch [
      | then-not-is_word_byte w ↦
          let apart : is_word_byte (get_or s c.loop-i.i 0) ≡ false = cc (w.if-not-is_word_byte.ensures) in
          let ascii : get_or s c.loop-i.i 0 < 128 = grind (arith, nat_tests) in
          let boundary = IsCharBoundary-after_ascii s c.loop-i.i c.utf8.text inside ascii in
          elim w.if-start-i.branch [
            | then-start-i+in_ok-push_word w' ↦
                let step = tokens_from-word s (map token_of c.loop-i.tokens.items) c.loop-i.position c.loop-i.start c.loop-i.i w'.if-start-i.true inside c.loop-i.invariant.word apart in
                record { whole = cc w'.in_ok-push_word.ensures; word = λ k d low high. absurd (omega arith); begun = omega arith; few = omega arith; boundary = rw w.start-is boundary }
            | else-start-i w' ↦
                let here : c.loop-i.start ≡ c.loop-i.i = omega arith in
                let step = tokens_from-gap s c.loop-i.position c.loop-i.i inside apart in
                record { whole = cc; word = λ k d low high. absurd (omega arith); begun = omega arith; few = omega arith; boundary = rw w.start-is boundary }
          ]
      | else-not-is_word_byte w ↦
          let more : is_word_byte (get_or s c.loop-i.i 0) ≡ true = cc (w.if-not-is_word_byte.ensures) in
          record { whole = cc; word = rw w.start-is (word-more s c.loop-i.start c.loop-i.i inside c.loop-i.invariant.word more); begun = omega arith; few = omega arith; boundary = search rules }
    ]

pub returns : goal.returns
returns c =
    let s = c.args.text.now in
    let all : length s ≤ c.loop-i.i = omega (arith, ap length c.as_bytes-byte-items.ensures.value) in
    elim c.if-start-text.branch [
      | then-start-text+in_ok-push_word-2 w ↦
          let step = tokens_from-last s c.loop-i.position c.loop-i.start w.if-start-text.true (λ k d low high. c.loop-i.invariant.word k d low (omega arith)) in
          cc (w.in_ok-push_word-2.ensures)
      | else-start-text w ↦
          let step = tokens_from-none s c.loop-i.position c.loop-i.start w.if-start-text.false in
          let nil = append-nil (map token_of c.loop-i.tokens.items) in
          cc
    ]
