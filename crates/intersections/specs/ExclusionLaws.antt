-- Laws of several lists whose documents are left out.
use Rattle.std.proofs.Common.{List, arith}
use Rattle.docsets.specs.Entries.{Entry, Rising}
use Rattle.intersections.specs.Differences.{unscored}
use Rattle.docsets.proofs.MemberLaws.{Rising-listed}
use Rattle.docsets.specs.Members.{at_least, enough, entries_at}

pub Rising-unscored : (ess : List (List Entry)) → Rising 0 (at_least 1 unscored ess)
Rising-unscored ess = Rising-listed (enough 1 ess) (λ d. unscored d (entries_at d ess)) 0 (λ d l t e. omega arith)
