use Rattle.std.proofs.Common.{Some, arith, rules, ◌≡◌}
use Rattle.definitions.specs.Terms.{kind_in}
use Rattle.terms.proofs.TermParts.{whole_term}
use Rattle.terms.specs.Kinds.{kind_of}
use Rattle.terms.proofs.term.type_of.Goals as goal

pub returns-clause-parts : goal.returns-clause-parts
returns-clause-parts c =
    let named : kind_in c.args.bytes.now ≡ Some (kind_of c.unwrap.result) = search rules in
    whole_term c.args.bytes.now (kind_of c.unwrap.result) (λ i. (let fits = c.type_inv.bytes i in omega (arith, fits))) named
