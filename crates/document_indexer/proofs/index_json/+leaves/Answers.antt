use Rattle.std.proofs.Common.{◌++◌, ◌∙◌, ◌∷◌, ◌≡◌, ◌≤◌, IfErr, List, OnOk, ap, arith, map, refl, subst, sym, ℕ}
use Rattle.std.proofs.lemmas.Result.{err_from_is_err_and}
use Rattle.std.proofs.lemmas.Grind.{flat_map-append}
use Rattle.definitions.specs.JsonLeaves.{leaves, members_leaves, values_leaves}
use Rattle.definitions.specs.Terms.{path_of_keys}
use Rattle.definitions.specs.Values.{Value, members_nesting, u64, values_nesting}
use Rattle.document_values.specs.Shown.{value_of}
use Rattle.layouts.specs.DocumentReading.{to_members, to_values}
use Rattle.document_indexer.specs.Contexts.{Records, Refuses}
use Rattle.document_indexer.specs.Steps.{Step, leaf_steps, leaves_steps}
use Rattle.document_indexer.proofs.LeafSteps.{member_leaves, steps_of_number}
use Rattle.document_indexer.proofs.Seen.{Seen, seen_more, seen_none, seen_refused}
use Rattle.document_indexer.proofs.index_json.+leaves.Goals as goal

pub index_leaves-returns-in-U64-clause-ok : goal.index_leaves-returns-in-U64-clause-ok
index_leaves-returns-in-U64-clause-ok g t c =
    let dots = c.args.json_field.now.expand_dots in
    let field = c.args.json_field.now.field in
    let steps : Value → List (List ℕ) → List Step = λ v keys. leaves_steps (g.A.Analyzer.analyze c.args.analyzer.now) field c.args.json_field.now.tokenizer.now (leaves dots keys v) in
    let P : List Step → Type 0 = λ ss. OnOk c.index_whole_number.result (Records c.args.json_field.now.schema.now c.args.indexer.now c.index_whole_number.new.indexer ss) in
    let keys = ap (map (λ k. k.now)) c.deref-in-U64.ensures.value in
    let same = sym (steps_of_number (g.A.Analyzer.analyze c.args.analyzer.now) field c.args.json_field.now.tokenizer.now (path_of_keys dots (map (λ k. k.now) c.deref-in-U64.result.now)) c.in-U64.n) in
    subst P (same ∙ ap (steps (u64 c.in-U64.n)) keys ∙ ap (λ v. steps (value_of v) (map (λ k. k.now) c.args.keys.now.items)) (sym c.in-U64.is)) c.index_whole_number.ensures.ok

pub index_leaves-returns-in-U64-clause-err : goal.index_leaves-returns-in-U64-clause-err
index_leaves-returns-in-U64-clause-err g t c =
    let dots = c.args.json_field.now.expand_dots in
    let field = c.args.json_field.now.field in
    let steps : Value → List (List ℕ) → List Step = λ v keys. leaves_steps (g.A.Analyzer.analyze c.args.analyzer.now) field c.args.json_field.now.tokenizer.now (leaves dots keys v) in
    let P : List Step → Type 0 = λ ss. IfErr c.index_whole_number.result (Refuses c.args.json_field.now.schema.now c.args.indexer.now ss) in
    let keys = ap (map (λ k. k.now)) c.deref-in-U64.ensures.value in
    let same = sym (steps_of_number (g.A.Analyzer.analyze c.args.analyzer.now) field c.args.json_field.now.tokenizer.now (path_of_keys dots (map (λ k. k.now) c.deref-in-U64.result.now)) c.in-U64.n) in
    subst P (same ∙ ap (steps (u64 c.in-U64.n)) keys ∙ ap (λ v. steps (value_of v) (map (λ k. k.now) c.args.keys.now.items)) (sym c.in-U64.is)) c.index_whole_number.ensures.err

pub index_values-loop-value-init : goal.index_values-loop-value-init
index_values-loop-value-init g t c =
    let keys = map (λ k. k.now) c.args.keys.now.items in
    let steps : List Value → List Step = λ vs. leaves_steps (g.A.Analyzer.analyze c.args.analyzer.now) c.args.json_field.now.field c.args.json_field.now.tokenizer.now (values_leaves c.args.json_field.now.expand_dots keys (to_values vs)) in
    let gives : c.into_iter-value-iterator.result ≡ c.args.values = c.into_iter-value-iterator.ensures.into_iter_gives in
    let P : List Value → Type 0 = λ vs. Seen c.args.json_field.now.schema.now c.args.indexer.now c.args.indexer.now (steps vs) (steps c.args.values) in
    let Q : List Value → Type 0 = λ vs. values_nesting (to_values vs) ≤ values_nesting (to_values c.args.values) in
    (tt, tt, refl, subst P (sym gives) (seen_none c.args.json_field.now.schema.now c.args.indexer.now (steps c.args.values) c.requires.0), subst Q (sym gives) (omega arith))

pub index_values-loop-value-preserved : goal.index_values-loop-value-preserved
index_values-loop-value-preserved g t c =
    let dots = c.args.json_field.now.expand_dots in
    let keys = map (λ k. k.now) c.args.keys.now.items in
    let analyze = g.A.Analyzer.analyze c.args.analyzer.now in
    let field = c.args.json_field.now.field in
    let tokenizer = c.args.json_field.now.tokenizer.now in
    let steps : List Value → List Step = λ vs. leaves_steps analyze field tokenizer (values_leaves dots keys (to_values vs)) in
    let inv = c.loop-value.invariant in
    let v : Value = value_of c.in-Some.value in
    let rest : List Value = c.next.new.self in
    let first : c.loop-value.value-iterator ≡ v ∷ rest = c.in-Some.ensures.steps in
    let here : List Step = leaves_steps analyze field tokenizer (leaves dots keys v) in
    let split : steps c.loop-value.value-iterator ≡ here ++ steps rest = ap steps first ∙ flat_map-append (leaf_steps analyze field tokenizer) (leaves dots keys v) (values_leaves dots keys (to_values rest)) in
    let P : List (List ℕ) → Type 0 = λ ks. Records c.args.json_field.now.schema.now c.loop-value.indexer c.index_leaves.new.indexer (leaves_steps analyze field tokenizer (leaves dots ks v)) in
    let nested = ap (λ vs. values_nesting (to_values vs)) first in (
      tt,
      tt,
      c.in_ok-index_leaves.ensures.keys ∙ inv.2,
      seen_more c.args.json_field.now.schema.now c.args.indexer.now c.loop-value.indexer c.index_leaves.new.indexer (steps c.loop-value.value-iterator) here (steps rest) (steps c.args.values) inv.3 split (subst P (ap (map (λ k. k.now)) inv.2) c.in_ok-index_leaves.ensures.ok),
      (let before = inv.4 in omega arith),
    )

pub index_values-returns-in_err-index_leaves-clause-err : goal.index_values-returns-in_err-index_leaves-clause-err
index_values-returns-in_err-index_leaves-clause-err g t c =
    let dots = c.args.json_field.now.expand_dots in
    let keys = map (λ k. k.now) c.args.keys.now.items in
    let analyze = g.A.Analyzer.analyze c.args.analyzer.now in
    let field = c.args.json_field.now.field in
    let tokenizer = c.args.json_field.now.tokenizer.now in
    let steps : List Value → List Step = λ vs. leaves_steps analyze field tokenizer (values_leaves dots keys (to_values vs)) in
    let inv = c.loop-value.invariant in
    let v : Value = value_of c.in-Some.value in
    let rest : List Value = c.next.new.self in
    let first : c.loop-value.value-iterator ≡ v ∷ rest = c.in-Some.ensures.steps in
    let here : List Step = leaves_steps analyze field tokenizer (leaves dots keys v) in
    let split : steps c.loop-value.value-iterator ≡ here ++ steps rest = ap steps first ∙ flat_map-append (leaf_steps analyze field tokenizer) (leaves dots keys v) (values_leaves dots keys (to_values rest)) in
    let p = err_from_is_err_and c.from_residual.result c.from_residual.ensures.1 in
    let fault = c.in_err-index_leaves.field-0.0 in
    let P : List (List ℕ) → Type 0 = λ ks. Refuses c.args.json_field.now.schema.now c.loop-value.indexer (leaves_steps analyze field tokenizer (leaves dots ks v)) fault in
    rw (p.1, p.2) (seen_refused c.args.json_field.now.schema.now c.args.indexer.now c.loop-value.indexer (steps c.loop-value.value-iterator) here (steps rest) (steps c.args.values) fault inv.3 split (subst P (ap (map (λ k. k.now)) inv.2) c.in_err-index_leaves.ensures.err))

pub index_members-loop-key-init : goal.index_members-loop-key-init
index_members-loop-key-init g t c =
    let keys = map (λ k. k.now) c.args.keys.now.items in
    let steps : List (List ℕ × Value) → List Step = λ vs. leaves_steps (g.A.Analyzer.analyze c.args.analyzer.now) c.args.json_field.now.field c.args.json_field.now.tokenizer.now (members_leaves c.args.json_field.now.expand_dots keys (to_members vs)) in
    let gives : c.into_iter-key-iterator.result ≡ c.args.members = c.into_iter-key-iterator.ensures.into_iter_gives in
    let P : List (List ℕ × Value) → Type 0 = λ vs. Seen c.args.json_field.now.schema.now c.args.indexer.now c.args.indexer.now (steps vs) (steps c.args.members) in
    let Q : List (List ℕ × Value) → Type 0 = λ vs. members_nesting (to_members vs) ≤ members_nesting (to_members c.args.members) in
    (tt, tt, refl, subst P (sym gives) (seen_none c.args.json_field.now.schema.now c.args.indexer.now (steps c.args.members) c.requires.0), subst Q (sym gives) (omega arith))

pub index_members-loop-key-preserved : goal.index_members-loop-key-preserved
index_members-loop-key-preserved g t c =
    let dots = c.args.json_field.now.expand_dots in
    let keys = map (λ k. k.now) c.args.keys.now.items in
    let analyze = g.A.Analyzer.analyze c.args.analyzer.now in
    let field = c.args.json_field.now.field in
    let tokenizer = c.args.json_field.now.tokenizer.now in
    let steps : List (List ℕ × Value) → List Step = λ vs. leaves_steps analyze field tokenizer (members_leaves dots keys (to_members vs)) in
    let inv = c.loop-key.invariant in
    let k : List ℕ = c.in-Some.key.now in
    let v : Value = value_of c.in-Some.value in
    let rest : List (List ℕ × Value) = c.next.new.self in
    let first : c.loop-key.key-iterator ≡ (k, v) ∷ rest = c.in-Some.ensures.steps in
    let here : List Step = leaves_steps analyze field tokenizer (member_leaves dots keys k v) in
    let split : steps c.loop-key.key-iterator ≡ here ++ steps rest = ap steps first ∙ flat_map-append (leaf_steps analyze field tokenizer) (member_leaves dots keys k v) (members_leaves dots keys (to_members rest)) in
    let P : List (List ℕ) → Type 0 = λ ks. Records c.args.json_field.now.schema.now c.loop-key.indexer c.index_member.new.indexer (leaves_steps analyze field tokenizer (member_leaves dots ks k v)) in
    let nested = ap (λ vs. members_nesting (to_members vs)) first in (
      tt,
      tt,
      c.in_ok-index_member.ensures.keys ∙ inv.2,
      seen_more c.args.json_field.now.schema.now c.args.indexer.now c.loop-key.indexer c.index_member.new.indexer (steps c.loop-key.key-iterator) here (steps rest) (steps c.args.members) inv.3 split (subst P (ap (map (λ k. k.now)) inv.2) c.in_ok-index_member.ensures.ok),
      (let before = inv.4 in omega arith),
    )

pub index_members-returns-in_err-index_member-clause-err : goal.index_members-returns-in_err-index_member-clause-err
index_members-returns-in_err-index_member-clause-err g t c =
    let dots = c.args.json_field.now.expand_dots in
    let keys = map (λ k. k.now) c.args.keys.now.items in
    let analyze = g.A.Analyzer.analyze c.args.analyzer.now in
    let field = c.args.json_field.now.field in
    let tokenizer = c.args.json_field.now.tokenizer.now in
    let steps : List (List ℕ × Value) → List Step = λ vs. leaves_steps analyze field tokenizer (members_leaves dots keys (to_members vs)) in
    let inv = c.loop-key.invariant in
    let k : List ℕ = c.in-Some.key.now in
    let v : Value = value_of c.in-Some.value in
    let rest : List (List ℕ × Value) = c.next.new.self in
    let first : c.loop-key.key-iterator ≡ (k, v) ∷ rest = c.in-Some.ensures.steps in
    let here : List Step = leaves_steps analyze field tokenizer (member_leaves dots keys k v) in
    let split : steps c.loop-key.key-iterator ≡ here ++ steps rest = ap steps first ∙ flat_map-append (leaf_steps analyze field tokenizer) (member_leaves dots keys k v) (members_leaves dots keys (to_members rest)) in
    let p = err_from_is_err_and c.from_residual.result c.from_residual.ensures.1 in
    let fault = c.in_err-index_member.field-0.0 in
    let P : List (List ℕ) → Type 0 = λ ks. Refuses c.args.json_field.now.schema.now c.loop-key.indexer (leaves_steps analyze field tokenizer (member_leaves dots ks k v)) fault in
    rw (p.1, p.2) (seen_refused c.args.json_field.now.schema.now c.args.indexer.now c.loop-key.indexer (steps c.loop-key.key-iterator) here (steps rest) (steps c.args.members) fault inv.3 split (subst P (ap (map (λ k. k.now)) inv.2) c.in_err-index_member.ensures.err))
