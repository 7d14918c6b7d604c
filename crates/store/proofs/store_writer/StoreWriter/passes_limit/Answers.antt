use Rattle.std.proofs.Common.{ap, arith, false, nat_le, sym, ◌+◌, ◌<◌, ◌^◌, ◌||◌, ◌≡◌, ◌∙◌}
use Rattle.std.proofs.lemmas.Bool.Decides.{nat_tests}
use Rattle.layouts.specs.Stores.{max_docs}
use Rattle.store.specs.Writing.{Written, docs_of}
use Rattle.store.proofs.Writes.{pending_long}
use Rattle.store.proofs.store_writer.StoreWriter.passes_limit.Goals as goal

pub returns-else-saturating_add : goal.returns-else-saturating_add
returns-else-saturating_add c =
    let st = c.self.invariant.0 in
    let first = st.doc in
    let many = (pending_long st).1 in
    let docs : c.self.inside.parts.first_doc + c.len.result ≡ docs_of c.args.self.now = omega (arith, ap docs_of c.self.view_is, c.self.inside.parts.starts.ok.0) in
    let size : c.self.inside.block_size ≡ c.args.self.now.block_size = ap (λ (w : Written). w.block_size) c.self.view_is in
    let low : c.args.self.now.block_size + c.args.len + 8 < 2 ^ 32 = omega arith in
    let within : nat_le (2 ^ 32) (c.args.self.now.block_size + c.args.len + 8) ≡ false = grind (arith, nat_tests) in
    ap (nat_le max_docs) docs ∙ ap (λ b. b || nat_le max_docs (docs_of c.args.self.now)) (sym within)
