use Rattle.std.proofs.Common.{◌∙◌, ◌≡◌, List, Some, ap, nat_eq, rules, subst, Vec, map, ℕ}
use Rattle.std.specs.Cmp.Lexicographic.{pointwise}
use Rattle.std.specs.HashMap.{HashMap, UpdatesBy}
use Rattle.std.specs.declared.alloc.Global.{Global}
use Rattle.postings_writer.specs.declared.seeded_state.SeededState.{SeededState}
use Rattle.document_indexer.proofs.KeptStarts.{start_kept}
use Rattle.document_indexer.proofs.indexing_positions.IndexingPositions.set_start.Goals as goal

pub returns-in-Some : goal.returns-in-Some
returns-in-Some c = start_kept c.self.inside.starts (c.get_mut.follows.lender (c.args.doc, c.args.start)) c.args.self.now c.args.prefix.now (c.args.doc, c.args.start) c.self.view_is ((c.get_mut.follows.holds (c.args.doc, c.args.start)).3 (search rules))

pub returns-in_ok-insert-in-None : goal.returns-in_ok-insert-in-None
returns-in_ok-insert-in-None c =
    let bytes : c.in_ok-to_vec-in-None.field-0.items ≡ c.args.prefix.now = search rules in
    let view = ap (λ (m : HashMap (Vec ℕ Global) (ℕ × ℕ) SeededState). map (λ x. (x.0.items, x.1)) m.entries) c.get_mut.follows.holds-at-none ∙ c.self.view_is in
    let P : List ℕ → Type 0 = λ key. UpdatesBy (λ x y. pointwise nat_eq x.items y.items) (λ k. pointwise nat_eq key k.items) c.get_mut.follows.lender-at-none c.insert.new.self (Some (c.args.doc, c.args.start)) in
    start_kept c.get_mut.follows.lender-at-none c.insert.new.self c.args.self.now c.args.prefix.now (c.args.doc, c.args.start) view (subst P bytes c.in_ok-insert-in-None.ensures.updates)
