use Rattle.std.proofs.Common.{ap, arith, length, refl, ◌+◌, ◌-◌, ◌<◌, ◌≡◌, ◌∙◌}
use Rattle.std.proofs.lemmas.Grind.{get_or_default_zero}
use Rattle.store.proofs.Writes.{last_within, stands_removed}
use Rattle.store.proofs.writer_fields.Parts.remove_last.Goals as goal

pub overflow_sub-last : goal.overflow_sub-last
overflow_sub-last c = (let some = (last_within c.requires.1 c.requires.2 c.requires.3).0 in omega (arith, c.args.self.now.starts.ok.0))

pub index-requires : goal.index-requires
index-requires c = (let some = (last_within c.requires.1 c.requires.2 c.requires.3).0 in omega (arith, c.args.self.now.starts.ok.0))

pub returns : goal.returns
returns c = λ bs ds doc st.
    let some = (last_within ds doc st).0 in
    let at : c.len-last.result - 1 ≡ length c.args.self.now.starts.items - 1 = omega (arith, c.args.self.now.starts.ok.0) in
    let below : c.len-last.result - 1 < length c.args.self.now.starts.items = omega (arith, c.args.self.now.starts.ok.0) in
    stands_removed doc (c.len-last.result - 1) _ st at
    (ap (λ n. c.args.self.now.first_byte + n) (c.index.ensures ∙ get_or_default_zero c.args.self.now.starts.items (c.len-last.result - 1) _ below))
    c.truncate.ensures.items refl c.truncate-2.ensures.items
