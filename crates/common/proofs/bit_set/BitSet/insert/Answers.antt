use Rattle.std.proofs.Common.{arith}
use Rattle.common.proofs.SetSteps.{At, few_numbers, insert_again, insert_keeps, insert_shows, seen_word}
use Rattle.common.proofs.bit_set.BitSet.insert.Goals as goal

pub index-word-requires : goal.index-word-requires
index-word-requires c =
    let within = seen_word c.self.inside.max_value c.args.el c.self.inside.words.items c.args.self.now c.self.invariant.words_are c.self.view_is c.requires in
    omega (arith, c.self.inside.words.ok.0)

pub index_mut-requires : goal.index_mut-requires
index_mut-requires c =
    let within = seen_word c.self.inside.max_value c.args.el c.self.inside.words.items c.args.self.now c.self.invariant.words_are c.self.view_is c.requires in
    omega (arith, c.self.inside.words.ok.0)

pub overflow_add-self : goal.overflow_add-self
overflow_add-self c =
    let few = c.self.invariant.words_are.n_fits in
    let most = few_numbers c.self.inside.max_value c.self.inside.len c.self.inside.words.items c.self.invariant in
    omega arith

pub invariant_of-self : goal.invariant_of-self
invariant_of-self c =
    let at : At c.args.self.now c.self.inside.max_value c.self.inside.len c.args.el c.index-word.result.now c.self.inside.words.items = record { is = c.self.invariant; shows = c.self.view_is; below = c.requires; read = c.index-word.ensures } in
    insert_keeps c.args.self.now c.self.inside.max_value c.self.inside.len c.args.el c.index-word.result.now c.self.inside.words.items at c.if-word-bit-eq0.true

pub returns-then-word-bit-eq0 : goal.returns-then-word-bit-eq0
returns-then-word-bit-eq0 c =
    let at : At c.args.self.now c.self.inside.max_value c.self.inside.len c.args.el c.index-word.result.now c.self.inside.words.items = record { is = c.self.invariant; shows = c.self.view_is; below = c.requires; read = c.index-word.ensures } in
    insert_shows c.args.self.now c.self.inside.max_value c.self.inside.len c.args.el c.index-word.result.now c.self.inside.words.items at

pub returns-else-word-bit-eq0 : goal.returns-else-word-bit-eq0
returns-else-word-bit-eq0 c =
    let at : At c.args.self.now c.self.inside.max_value c.self.inside.len c.args.el c.index-word.result.now c.self.inside.words.items = record { is = c.self.invariant; shows = c.self.view_is; below = c.requires; read = c.index-word.ensures } in
    insert_again c.args.self.now c.self.inside.max_value c.self.inside.len c.args.el c.index-word.result.now c.self.inside.words.items at c.if-word-bit-eq0.false
