use Rattle.std.proofs.Common.{[], Bor, List, Some, ap, arith, false, length, option_map, slice_get, sym, true, ◌≡◌, ◌∙◌, ℕ}
use Rattle.std.proofs.Math.Logic.{∥∥₁_elim}
use Rattle.std.proofs.Props.{props}
use Rattle.std.specs.List.{slice_index_or}
use Rattle.segment_reader.specs.Readers.{info_in}
use Rattle.merging.proofs.MergerSteps.{info_begun, info_none, least_of_keys, same_there}
use Rattle.merging.specs.KeyLists.{begins_with, least_key}
use Rattle.merging.specs.Walking.{Merger, first_info}
use Rattle.merging.proofs.term_merger.TermMerger.term_info.Goals as goal

pub index-terms-requires : goal.index-terms-requires
index-terms-requires c = ∥∥₁_elim c.self.invariant (hlevel props) (λ inv.
    let within = c.requires in
    let view = ap (λ (m : Merger). length m.members) c.self.view_is in
    let same = inv.0.long in
    let long = c.self.inside.members.ok.0 in
    omega (arith, within, view, same, long))

pub returns-then-begins_with : goal.returns-then-begins_with
returns-then-begins_with c key first = ∥∥₁_elim c.self.invariant (hlevel props) (λ inv.
    let items = c.self.inside.members.items in
    let all = c.self.inside.dictionaries.items in
    let own = c.in-Some.key.now in
    let same : own ≡ key = (let e = ap (option_map (λ (k : Bor (List ℕ)). k.now)) (sym c.in-Some.is) ∙ c.key.ensures ∙ first in cc) in
    let least : least_key items ≡ Some key = least_of_keys key all items c.self.inside.least inv.0 inv.1 (ap (λ (m : Merger). slice_get m.keys 0) c.self.view_is ∙ first) in
    let within = c.requires in
    let view = ap (λ (m : Merger). length m.members) c.self.view_is in
    let long = inv.0.long in
    let there = c.index-terms.ensures ∙ same_there items c.args.member c.index-terms.result.now [] (omega (arith, within, view, long)) in
    let begins : begins_with key (slice_index_or items c.args.member []) ≡ true = ap (λ k. begins_with k (slice_index_or items c.args.member [])) (sym same) ∙ ap (begins_with own) (sym there) ∙ sym c.begins_with.ensures ∙ c.if-begins_with.true in
    c.info.ensures ∙ ap first_info there ∙ info_begun key all items c.args.member least inv.0 begins
    ∙ ap (λ (m : Merger). info_in key (slice_index_or m.members c.args.member [])) c.self.view_is)

pub returns : goal.returns
returns c key first = ∥∥₁_elim c.self.invariant (hlevel props) (λ inv.
    let items = c.self.inside.members.items in
    let all = c.self.inside.dictionaries.items in
    let own = c.in-Some.key.now in
    let same : own ≡ key = (let e = ap (option_map (λ (k : Bor (List ℕ)). k.now)) (sym c.in-Some.is) ∙ c.key.ensures ∙ first in cc) in
    let least : least_key items ≡ Some key = least_of_keys key all items c.self.inside.least inv.0 inv.1 (ap (λ (m : Merger). slice_get m.keys 0) c.self.view_is ∙ first) in
    let within = c.requires in
    let view = ap (λ (m : Merger). length m.members) c.self.view_is in
    let long = inv.0.long in
    let there = c.index-terms.ensures ∙ same_there items c.args.member c.index-terms.result.now [] (omega (arith, within, view, long)) in
    let other : begins_with key (slice_index_or items c.args.member []) ≡ false = ap (λ k. begins_with k (slice_index_or items c.args.member [])) (sym same) ∙ ap (begins_with own) (sym there) ∙ sym c.begins_with.ensures ∙ c.if-begins_with.false in
    info_none key all items c.args.member least inv.0 other
    ∙ ap (λ (m : Merger). info_in key (slice_index_or m.members c.args.member [])) c.self.view_is)
