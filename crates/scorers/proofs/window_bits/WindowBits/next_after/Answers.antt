use Rattle.scorers.proofs.WindowWords.{found_later, found_left, removed, words_less}
use Rattle.scorers.proofs.window_bits.WindowBits.next_after.Goals as goal

pub invariant_of-self : goal.invariant_of-self
invariant_of-self c = words_less c.self.inside.words.items c.args.at c.index-word.result.now _ c.self.invariant c.requires c.index-word.ensures

pub returns-then-left-ne0-clause-removed : goal.returns-then-left-ne0-clause-removed
returns-then-left-ne0-clause-removed c = λ el low. removed c.self.inside.words.items c.args.self.now c.args.at el c.index-word.result.now c.self.invariant c.self.view_is c.requires c.index-word.ensures low

pub returns-then-left-ne0-clause-first : goal.returns-then-left-ne0-clause-first
returns-then-left-ne0-clause-first c = found_left c.self.inside.words.items c.args.at _ (words_less c.self.inside.words.items c.args.at c.index-word.result.now _ c.self.invariant c.requires c.index-word.ensures) c.self.invariant.count c.requires c.if-left-ne0.true

pub invariant_of-self-2 : goal.invariant_of-self-2
invariant_of-self-2 c = words_less c.self.inside.words.items c.args.at c.index-word.result.now _ c.self.invariant c.requires c.index-word.ensures

pub returns-clause-removed : goal.returns-clause-removed
returns-clause-removed c = λ el low. removed c.self.inside.words.items c.args.self.now c.args.at el c.index-word.result.now c.self.invariant c.self.view_is c.requires c.index-word.ensures low

pub returns-clause-first : goal.returns-clause-first
returns-clause-first c = found_later c.self.inside.words.items c.args.at _ c.first_from.result (words_less c.self.inside.words.items c.args.at c.index-word.result.now _ c.self.invariant c.requires c.index-word.ensures) c.self.invariant.count c.requires c.if-left-ne0.false c.first_from.ensures.first
