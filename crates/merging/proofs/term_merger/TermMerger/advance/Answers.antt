use Rattle.std.proofs.Common.{[], List, Some, ap, arith, drop, length, map, subst, sym, ◌≡◌, ◌∙◌, ℕ}
use Rattle.std.proofs.Math.Logic.{∥∥₁_elim, ∥∥₁_map}
use Rattle.std.proofs.Props.{props}
use Rattle.std.proofs.lemmas.List.{length-map, with_items_is}
use Rattle.std.specs.Vec.{with_items}
use Rattle.std.specs.List.{slice_index_or}
use Rattle.segment_reader.specs.Dictionaries.{Placed}
use Rattle.merging.proofs.MergerSteps.{first_is, keys_further, left_further, no_keys}
use Rattle.merging.specs.KeyLists.{first_key, merged_keys, past_key}
use Rattle.merging.specs.Walking.{AreLeft, IsLeast, Merger}
use Rattle.merging.proofs.term_merger.TermMerger.advance.Goals as goal

pub returns-in_default : goal.returns-in_default
returns-in_default c = ap (λ (ks : List (List ℕ)). record { members = c.args.self.now.members; keys = ks }) same
  where
    none : c.args.self.now.keys ≡ []
    none = ∥∥₁_elim c.self.invariant (hlevel props) (λ inv. sym (ap (λ (m : Merger). m.keys) c.self.view_is) ∙ no_keys c.self.inside.members.items (subst (IsLeast c.self.inside.members.items) c.in_default.is inv.1))

    same : c.args.self.now.keys ≡ drop 1 c.args.self.now.keys
    same = none ∙ ap (drop 1) (sym none)

pub pass_first-requires : goal.pass_first-requires
pass_first-requires c = ∥∥₁_elim c.self.invariant (hlevel props) (λ inv.
    let least : IsLeast c.self.inside.members.items (Some c.in-Some.least) = subst (IsLeast c.self.inside.members.items) c.in-Some.is inv.1 in
    let within = least.has_key.0 in
    let same = ap length c.deref_mut.ensures.value in
    omega (arith, within, same))

pub invariant_of-self : goal.invariant_of-self
invariant_of-self c = ∥∥₁_map c.self.invariant (λ inv.
    let items = c.self.inside.members.items in
    let all = c.self.inside.dictionaries.items in
    let least : IsLeast items (Some c.in-Some.least) = subst (IsLeast items) c.in-Some.is inv.1 in
    let first = first_is items c.in-Some.least least in
    let now : c.pass_first.new.members ≡ map (past_key first.0) items = c.pass_first.ensures first.0 (ap (λ ms. first_key (slice_index_or ms c.in-Some.least [])) c.deref_mut.ensures.value ∙ first.1) ∙ ap (map (past_key first.0)) c.deref_mut.ensures.value in
    let held = with_items_is c.self.inside.members c.pass_first.new.members (ap length now ∙ length-map items (past_key first.0) ∙ sym c.self.inside.members.ok.0) in
    let P : List (List Placed) → Type 0 = λ ms. AreLeft all ms × IsLeast ms c.least_of-self-inside.result in
    subst P (sym held)
    (subst (AreLeft all) (sym now) (left_further first.0 all items first.2 inv.0), subst (λ ms. IsLeast ms c.least_of-self-inside.result) (c.deref.ensures.value ∙ held) c.least_of-self-inside.ensures))

pub returns : goal.returns
returns c =
    ap (λ (ks : List (List ℕ)). record { members = c.self.inside.dictionaries.items; keys = ks }) keys
    ∙ ap (λ (m : Merger). record { members = m.members; keys = drop 1 m.keys }) c.self.view_is
  where
    keys : merged_keys (with_items c.self.inside.members c.pass_first.new.members).items ≡ drop 1 (merged_keys c.self.inside.members.items)
    keys = ∥∥₁_elim c.self.invariant (hlevel props) (λ inv.
        let items = c.self.inside.members.items in
        let all = c.self.inside.dictionaries.items in
        let least : IsLeast items (Some c.in-Some.least) = subst (IsLeast items) c.in-Some.is inv.1 in
        let first = first_is items c.in-Some.least least in
        let now : c.pass_first.new.members ≡ map (past_key first.0) items = c.pass_first.ensures first.0 (ap (λ ms. first_key (slice_index_or ms c.in-Some.least [])) c.deref_mut.ensures.value ∙ first.1) ∙ ap (map (past_key first.0)) c.deref_mut.ensures.value in
        let held = with_items_is c.self.inside.members c.pass_first.new.members (ap length now ∙ length-map items (past_key first.0) ∙ sym c.self.inside.members.ok.0) in
        ap merged_keys (held ∙ now) ∙ keys_further first.0 all items first.2 inv.0)
