use Rattle.std.proofs.Common.{refl, sum}
use Rattle.docsets.proofs.DefinedLaws.{at_least-defined}
use Rattle.docsets.specs.Members.{combining, joining}
use Rattle.docsets.proofs.member_laws.at_least_is_that_of_definitions.Goals as goal

pub returns : goal.returns
returns c = record {
  combined = λ minimum f ess some all. at_least-defined minimum (combining f) f ess some all (λ d es. refl);
  joined = λ minimum ess some all. at_least-defined minimum joining sum ess some all (λ d es. refl);
}
