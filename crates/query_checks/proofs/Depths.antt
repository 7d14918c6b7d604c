-- How many nodes stand on a path.
use Rattle.std.proofs.Common.{arith, false, inl, inr, lt-ltb, nat_lt, suc, sym, true, ◌-◌, ◌<◌, ◌∙◌, ◌≡◌, ◌⊎◌, ℕ}
use Rattle.std.proofs.lemmas.Bool.Decides.{leb_tells}
use Rattle.definitions.specs.Query as definitions
use Rattle.definitions.specs.Query.{depth}
use Rattle.query_trees.specs.Queries.{query_of}
use Rattle.query_trees.specs.declared.any_query.AnyQuery.{AnyQuery}

-- each path has a node
one_node : (q : definitions.Query) → 0 < depth q
one_node definitions.all = omega arith
one_node definitions.empty = omega arith
one_node (definitions.term t option) = omega arith
one_node (definitions.phrase terms slop) = omega arith
one_node (definitions.phrase_prefix terms limit) = omega arith
one_node (definitions.boolean cs least) = omega arith
one_node (definitions.disjunction_max qs tie) = omega arith
one_node (definitions.boost factor q) = omega arith
one_node (definitions.const_score constant q) = omega arith

pub some_depth : (q : AnyQuery) (nodes : ℕ) → nodes ≡ 0 → true ≡ nat_lt nodes (depth (query_of q))
some_depth q nodes none = sym (lt-ltb nodes (depth (query_of q)) (omega (arith, one_node (query_of q))))

-- one node less
pub less_deep : (nodes deep : ℕ) → 0 < nodes → nat_lt (nodes - 1) deep ≡ nat_lt nodes (suc deep)
less_deep nodes deep some = go (leb_tells (suc (nodes - 1)) deep) (leb_tells (suc nodes) (suc deep))
  where
    go : ((nat_lt (nodes - 1) deep ≡ true) × (nodes - 1 < deep)) ⊎ ((nat_lt (nodes - 1) deep ≡ false) × (deep < suc (nodes - 1))) → ((nat_lt nodes (suc deep) ≡ true) × (nodes < suc deep)) ⊎ ((nat_lt nodes (suc deep) ≡ false) × (suc deep < suc nodes)) → nat_lt (nodes - 1) deep ≡ nat_lt nodes (suc deep)
    go (inl a) (inl b) = a.0 ∙ sym b.0
    go (inr a) (inr b) = a.0 ∙ sym b.0
    go (inl a) (inr b) = let low = a.1 in let high = b.1 in absurd (omega arith)
    go (inr a) (inl b) = let low = a.1 in let high = b.1 in absurd (omega arith)
