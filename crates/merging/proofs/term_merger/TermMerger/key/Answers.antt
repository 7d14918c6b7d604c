use Rattle.std.proofs.Common.{[], List, Some, ap, arith, slice_get, subst, sym, ◌∙◌, ℕ}
use Rattle.std.proofs.Math.Logic.{∥∥₁_elim}
use Rattle.std.proofs.Props.{props}
use Rattle.merging.proofs.MergerSteps.{first_of_keys, no_keys, same_there}
use Rattle.merging.specs.KeyLists.{first_key}
use Rattle.merging.specs.Walking.{IsLeast, Merger}
use Rattle.merging.proofs.term_merger.TermMerger.key.Goals as goal

pub returns-in_default : goal.returns-in_default
returns-in_default c = ∥∥₁_elim c.self.invariant (hlevel props) (λ inv.
    ap (λ (ks : List (List ℕ)). slice_get ks 0) (sym (no_keys c.self.inside.members.items (subst (IsLeast c.self.inside.members.items) c.in_default.is inv.1)))
    ∙ ap (λ (m : Merger). slice_get m.keys 0) c.self.view_is)

pub index-requires : goal.index-requires
index-requires c = ∥∥₁_elim c.self.invariant (hlevel props) (λ inv.
    let least : IsLeast c.self.inside.members.items (Some c.in-Some.least) = subst (IsLeast c.self.inside.members.items) c.in-Some.is inv.1 in
    let within = least.has_key.0 in
    let long = c.self.inside.members.ok.0 in
    omega (arith, within, long))

pub returns : goal.returns
returns c = ∥∥₁_elim c.self.invariant (hlevel props) (λ inv.
    let items = c.self.inside.members.items in
    let least : IsLeast items (Some c.in-Some.least) = subst (IsLeast items) c.in-Some.is inv.1 in
    c.key.ensures
    ∙ ap first_key (c.index.ensures ∙ same_there items c.in-Some.least c.index.result.now [] least.has_key.0)
    ∙ first_of_keys c.self.inside.dictionaries.items items c.in-Some.least inv.0 least
    ∙ ap (λ (m : Merger). slice_get m.keys 0) c.self.view_is)
