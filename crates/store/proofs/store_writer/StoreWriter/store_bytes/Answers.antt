-- The document is added; its bytes decide whether the block is closed.
use Rattle.std.proofs.Common.{List, [], ap, arith, false, length, sym, ◌++◌, ◌<◌, ◌∙◌, ◌∷◌, ◌≡◌, ◌≤◌, ℕ}
use Rattle.std.specs.List.{concat}
use Rattle.layouts.specs.Stores.{Block}
use Rattle.store.specs.Writing.{AreWritten, Stand, closed, closed_in, passes_limit, pending_in, stored, written}
use Rattle.store.proofs.Writes.{limits_of, pending_long, sound, stored_open, stored_shut, value_of, written_added, written_closed}
use Rattle.store.proofs.store_writer.StoreWriter.store_bytes.Goals as goal

pub invariant_of-self-then-len-self : goal.invariant_of-self-then-len-self
invariant_of-self-then-len-self c =
    let bs : List Block = closed_in c.self.inside.parts in
    let ds : List (List ℕ) = pending_in c.self.inside.parts in
    let st : Stand c.add.new.self bs (ds ++ c.args.doc.now ∷ []) = c.in_ok-add.ensures.ok bs ds c.self.invariant.0 in
    let e : passes_limit (written bs ds c.self.inside.block_size) (length c.args.doc.now) ≡ false = ap (λ w. passes_limit w (length c.args.doc.now)) c.self.view_is ∙ sym c.passes_limit.ensures ∙ c.if-passes_limit.false in
    let limits = limits_of (written bs ds c.self.inside.block_size) (length c.args.doc.now) e in
    let long = (pending_long st).0 in
    let fits : length (concat (ds ++ c.args.doc.now ∷ [])) ≤ c.self.inside.block_size = omega (arith, c.add.new.self.out.ok.0) in
    sound (λ x y. Stand c.add.new.self x y × AreWritten c.self.inside.block_size x y) st (st, written_added c.self.inside.block_size bs ds c.args.doc.now c.self.invariant.1 limits.0 limits.1 fits)

pub returns-then-len-self-clause-ok : goal.returns-then-len-self-clause-ok
returns-then-len-self-clause-ok c =
    let bs : List Block = closed_in c.self.inside.parts in
    let ds : List (List ℕ) = pending_in c.self.inside.parts in
    let st : Stand c.add.new.self bs (ds ++ c.args.doc.now ∷ []) = c.in_ok-add.ensures.ok bs ds c.self.invariant.0 in
    let long = (pending_long st).0 in
    let fits : length (concat (ds ++ c.args.doc.now ∷ [])) ≤ c.self.inside.block_size = omega (arith, c.add.new.self.out.ok.0) in
    value_of c.self.inside.block_size st ∙ sym (stored_open bs ds c.self.inside.block_size c.args.doc.now fits) ∙ ap (λ w. stored w c.args.doc.now) c.self.view_is

pub invariant_of-self-in-Ok : goal.invariant_of-self-in-Ok
invariant_of-self-in-Ok c =
    let bs : List Block = closed_in c.self.inside.parts in
    let ds : List (List ℕ) = pending_in c.self.inside.parts in
    let st : Stand c.add.new.self bs (ds ++ c.args.doc.now ∷ []) = c.in_ok-add.ensures.ok bs ds c.self.invariant.0 in
    let shut : Stand c.close_block.new.self (bs ++ closed (ds ++ c.args.doc.now ∷ []) ∷ []) [] = c.in-Ok.ensures.ok bs (ds ++ c.args.doc.now ∷ []) st in
    let e : passes_limit (written bs ds c.self.inside.block_size) (length c.args.doc.now) ≡ false = ap (λ w. passes_limit w (length c.args.doc.now)) c.self.view_is ∙ sym c.passes_limit.ensures ∙ c.if-passes_limit.false in
    let limits = limits_of (written bs ds c.self.inside.block_size) (length c.args.doc.now) e in
    sound (λ x y. Stand c.close_block.new.self x y × AreWritten c.self.inside.block_size x y) shut (shut, written_closed c.self.inside.block_size bs ds c.args.doc.now c.self.invariant.1 limits.1)

pub returns-in-Ok-clause-ok : goal.returns-in-Ok-clause-ok
returns-in-Ok-clause-ok c =
    let bs : List Block = closed_in c.self.inside.parts in
    let ds : List (List ℕ) = pending_in c.self.inside.parts in
    let st : Stand c.add.new.self bs (ds ++ c.args.doc.now ∷ []) = c.in_ok-add.ensures.ok bs ds c.self.invariant.0 in
    let shut : Stand c.close_block.new.self (bs ++ closed (ds ++ c.args.doc.now ∷ []) ∷ []) [] = c.in-Ok.ensures.ok bs (ds ++ c.args.doc.now ∷ []) st in
    let long = (pending_long st).0 in
    let over : c.self.inside.block_size < length (concat (ds ++ c.args.doc.now ∷ [])) = omega (arith, c.add.new.self.out.ok.0) in
    value_of c.self.inside.block_size shut ∙ sym (stored_shut bs ds c.self.inside.block_size c.args.doc.now over) ∙ ap (λ w. stored w c.args.doc.now) c.self.view_is
