use Rattle.std.proofs.Common.{List, ap, arith, length, map, rules, vec_capacity, ◌+◌, ◌<◌, ◌∙◌, ◌≡◌, ℕ}
use Rattle.std.proofs.lemmas.List.{length-map}
use Rattle.docsets.specs.Entries.{first_positions, single}
use Rattle.docsets.proofs.postings.Postings.positions_with_offset.Goals as goal

pub returns-in_err-append_positions_with_offset-clause-full :
    goal.returns-in_err-append_positions_with_offset-clause-full
returns-in_err-append_positions_with_offset-clause-full g c =
    let joined : List ℕ → List ℕ → List ℕ = g.Self.Postings.joined in
    let positions : List ℕ = single (first_positions (g.Self.DocSet.entries c.args.self.now)) in
    let moved : List ℕ = map (λ p. p + c.args.offset) positions in
    let alone = g.met.Self.Postings.alone c.args.self.now c.args.offset in
    let long : length (joined c.clear.new.self.items moved) ≡ length positions = ap (λ xs. length (joined xs moved)) c.clear.ensures.items ∙ (ap length alone ∙ length-map positions (λ p. p + c.args.offset)) in
    let full = c.in_err-append_positions_with_offset.ensures.full in
    let capacity = c.clear.ensures.capacity in
    let short : vec_capacity c.args.output.now < length positions = omega (arith, full, capacity, long) in
    search rules

pub returns-clause-ok : goal.returns-clause-ok
returns-clause-ok g c =
    let joined : List ℕ → List ℕ → List ℕ = g.Self.Postings.joined in
    let positions : List ℕ = single (first_positions (g.Self.DocSet.entries c.args.self.now)) in
    let moved : List ℕ = map (λ p. p + c.args.offset) positions in
    c.in_ok-append_positions_with_offset.ensures.ok ∙ (ap (λ xs. joined xs moved) c.clear.ensures.items ∙ g.met.Self.Postings.alone c.args.self.now c.args.offset)
