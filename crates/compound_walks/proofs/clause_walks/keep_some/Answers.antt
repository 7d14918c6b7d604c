use Rattle.std.proofs.Common.{arith, map, nat_lt, rules, subst, sym, ◌≤◌}
use Rattle.std.proofs.lemmas.Bool.Decides.{nat_tests}
use Rattle.std.proofs.lemmas.Fn.{filter_same}
use Rattle.definitions.specs.Postings.{terminated}
use Rattle.docsets.proofs.EntryLaws.{none_left}
use Rattle.docsets.specs.Entries.{first}
use Rattle.compound_walks.proofs.KeptScorers.{same_kept}
use Rattle.compound_walks.specs.Same.{HaveSame}
use Rattle.compound_walks.proofs.clause_walks.keep_some.Goals as goal

pub returns : goal.returns
returns g c =
    let entries = g.S.DocSet.entries in
    subst (λ xs. HaveSame (map entries xs) (map entries c.args.scorers.now.items)) (sym (filter_same _ (λ s. nat_lt (first (entries s)) terminated) _ (λ x b f' k. search rules) _ _ c.retain.ensures.filtered))
    (same_kept entries (λ s. nat_lt (first (entries s)) terminated) (λ s goes. none_left 0 (entries s) (g.met.S.DocSet.rising s) (let end : terminated ≤ first (entries s) = grind (arith, nat_tests, goes) in end)) c.args.scorers.now.items)
