use Rattle.std.proofs.Common.{arith}
use Rattle.common.proofs.SetSteps.{At, remove_again, remove_keeps, remove_shows, remove_some, seen_word}
use Rattle.common.proofs.bit_set.BitSet.remove.Goals as goal

pub index-word-requires : goal.index-word-requires
index-word-requires c =
    let within = seen_word c.self.inside.max_value c.args.el c.self.inside.words.items c.args.self.now c.self.invariant.words_are c.self.view_is c.requires in
    omega (arith, c.self.inside.words.ok.0)

pub index_mut-requires : goal.index_mut-requires
index_mut-requires c =
    let within = seen_word c.self.inside.max_value c.args.el c.self.inside.words.items c.args.self.now c.self.invariant.words_are c.self.view_is c.requires in
    omega (arith, c.self.inside.words.ok.0)

pub overflow_sub-self : goal.overflow_sub-self
overflow_sub-self c =
    let at : At c.args.self.now c.self.inside.max_value c.self.inside.len c.args.el c.index-word.result.now c.self.inside.words.items = record { is = c.self.invariant; shows = c.self.view_is; below = c.requires; read = c.index-word.ensures } in
    remove_some c.args.self.now c.self.inside.max_value c.self.inside.len c.args.el c.index-word.result.now c.self.inside.words.items at c.if-word-bit-ne0.true

pub invariant_of-self : goal.invariant_of-self
invariant_of-self c =
    let at : At c.args.self.now c.self.inside.max_value c.self.inside.len c.args.el c.index-word.result.now c.self.inside.words.items = record { is = c.self.invariant; shows = c.self.view_is; below = c.requires; read = c.index-word.ensures } in
    remove_keeps c.args.self.now c.self.inside.max_value c.self.inside.len c.args.el c.index-word.result.now c.self.inside.words.items at c.if-word-bit-ne0.true

pub returns-then-word-bit-ne0 : goal.returns-then-word-bit-ne0
returns-then-word-bit-ne0 c =
    let at : At c.args.self.now c.self.inside.max_value c.self.inside.len c.args.el c.index-word.result.now c.self.inside.words.items = record { is = c.self.invariant; shows = c.self.view_is; below = c.requires; read = c.index-word.ensures } in
    remove_shows c.args.self.now c.self.inside.max_value c.self.inside.len c.args.el c.index-word.result.now c.self.inside.words.items at

pub returns-else-word-bit-ne0 : goal.returns-else-word-bit-ne0
returns-else-word-bit-ne0 c =
    let at : At c.args.self.now c.self.inside.max_value c.self.inside.len c.args.el c.index-word.result.now c.self.inside.words.items = record { is = c.self.invariant; shows = c.self.view_is; below = c.requires; read = c.index-word.ensures } in
    remove_again c.args.self.now c.self.inside.max_value c.self.inside.len c.args.el c.index-word.result.now c.self.inside.words.items at c.if-word-bit-ne0.false
