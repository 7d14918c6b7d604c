use Rattle.std.proofs.Common.{◌++◌, ◌≡◌, ◌∙◌, IfOk, ap, ap₂, bytes_eq, map, rules, subst, sym, tests}
use Rattle.std.specs.List.{IsDistinct}
use Rattle.std.specs.Map.{keys_of}
use Rattle.std.proofs.lemmas.Iterator.{YieldsList-from_map_by, YieldsList-from_slice}
use Rattle.std.proofs.lemmas.Iterator.Consumers.{YieldsList-at, YieldsList-from_rest, map_from_collect}
use Rattle.definitions.proofs.MergedRows.{map_both as map_joined}
use Rattle.postings_writer.specs.Fields.{Terms}
use Rattle.postings_writer.specs.PackedKeys.{key_of}
use Rattle.postings_writer.proofs.FieldViews.{at_ok, keys_read, others_are, terms_apart}
use Rattle.postings_writer.proofs.SortedTerms.{distinct_items}
use Rattle.postings_writer.proofs.field_postings.FieldPostings.all_terms.Goals as goal

pub returns-clause-terms : goal.returns-clause-terms
returns-clause-terms c =
    let short = c.args.short.now in
    let fs = c.self.inside.long.entries in
    let keys : Terms = map (λ t. (key_of t.0, t.1.now)) short in
    let first : IfOk c.collect.result (λ v. map (λ t. (t.0.now, t.1.now)) v.items ≡ keys) =
    map_from_collect _ c.collect.ensures.ran (YieldsList-from_map_by _ (λ t. (t.0.now, t.1.now)) (λ t. (key_of t.0, t.1.now)) (YieldsList-at c.map.ensures.source (YieldsList-from_slice short c.iter.ensures.rest)) c.map.ensures.closure (λ x r q k. search (rules, tests))) in
    let second : IfOk c.collect-2.result (λ v. map (λ t. (t.0.now, t.1.now)) v.items ≡ map (λ e. (e.0.items, e.1)) fs) =
    map_from_collect _ c.collect-2.ensures.ran (YieldsList-from_map_by _ (λ t. (t.0.now, t.1.now)) (λ e. (e.0.items, e.1)) (YieldsList-at c.map-2.ensures.source (YieldsList-from_rest fs c.iter-2.ensures.rest)) c.map-2.ensures.closure (λ x r q k. search (rules, tests))) in
    let are = others_are c.self.inside.mask c.self.inside.short.entries fs c.args.self.now (map (λ t. (t.0, t.1.now)) short) c.self.view_is c.self.invariant.0 c.self.invariant.1 c.requires in
    let joined : c.append.new.self.items ≡ c.in_ok-terms.terms.items ++ c.in_ok-long.long.items = c.in_ok-append.ensures.items in
    ap (map (λ t. (t.0.now, t.1.now))) joined
    ∙ map_joined (λ t. (t.0.now, t.1.now)) c.in_ok-terms.terms.items c.in_ok-long.long.items
    ∙ ap₂ (λ xs ys. xs ++ ys) (at_ok c.collect.result c.in_ok-terms.terms _ c.in_ok-terms.was first) (at_ok c.collect-2.result c.in_ok-long.long _ c.in_ok-long.was second)
    ∙ ap₂ (λ xs ys. xs ++ ys) (keys_read short) (sym are)
    ∙ sym c.requires.terms_are

pub returns-clause-distinct : goal.returns-clause-distinct
returns-clause-distinct c =
    let are = others_are c.self.inside.mask c.self.inside.short.entries c.self.inside.long.entries c.args.self.now (map (λ t. (t.0, t.1.now)) c.args.short.now) c.self.view_is c.self.invariant.0 c.self.invariant.1 c.requires in
    terms_apart c.args.self.now (map (λ t. (t.0, t.1.now)) c.args.short.now) c.requires (subst (λ (ts : Terms). IsDistinct bytes_eq (keys_of ts)) (sym are) (distinct_items c.self.inside.long.entries c.iter-2.ensures.unique))
