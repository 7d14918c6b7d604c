use Rattle.std.proofs.Common.{arith, get_or, length, sym, ◌*◌, ◌/◌, ◌<◌, ◌∙◌, ◌≡◌, ◌≤◌}
use Rattle.std.proofs.lemmas.Grind.{get_or_default_zero}
use Rattle.scorers.proofs.WindowWords.{found_word, no_word, skip_word}
use Rattle.scorers.proofs.window_bits.WindowBits.first_from.Goals as goal

pub returns-then-word-ne0-clause-first : goal.returns-then-word-ne0-clause-first
returns-then-word-ne0-clause-first c =
    let words = c.self.inside.words.items in
    let within : c.loop-i.i < length words = (let test = c.loop-i-test.true in omega arith) in
    let later : 64 * (c.args.el / 64) ≤ 64 * c.loop-i.i = (let after = c.loop-i.auto.i in omega arith) in
    found_word words c.args.self.now (64 * (c.args.el / 64)) c.loop-i.i c.index-word.result.now c.self.invariant c.self.view_is c.loop-i.invariant later (c.index-word.ensures ∙ get_or_default_zero words c.loop-i.i c.index-word.result.now within) c.if-word-ne0.true

pub loop-i-preserved : goal.loop-i-preserved
loop-i-preserved c =
    let words = c.self.inside.words.items in
    let within : c.loop-i.i < length words = (let test = c.loop-i-test.true in omega arith) in
    let zero_word : get_or words c.loop-i.i 0 ≡ 0 = sym (c.index-word.ensures ∙ get_or_default_zero words c.loop-i.i c.index-word.result.now within) ∙ c.if-word-ne0.false in
    skip_word words c.args.self.now (64 * (c.args.el / 64)) c.loop-i.i c.self.invariant c.self.view_is c.loop-i.invariant zero_word

pub returns-clause-first : goal.returns-clause-first
returns-clause-first c =
    let words = c.self.inside.words.items in
    no_word words c.args.self.now (64 * (c.args.el / 64)) c.loop-i.i c.self.invariant c.self.view_is c.loop-i.invariant (let test = c.loop-i-test.false in omega arith)
