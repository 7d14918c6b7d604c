use Rattle.std.proofs.Common.{IfNone, IfSome, subst}
use Rattle.std.specs.List.{AllByRecursion}
use Rattle.inspect.specs.Documents.{IsTold, IsWhole}
use Rattle.inspect.proofs.check.document_damage.Goals as goal

pub returns-in_default-clause-none : goal.returns-in_default-clause-none
returns-in_default-clause-none c = λ bytes opens.
    (c.args.file, opens, subst (λ o. IfNone o (AllByRecursion (IsWhole c.args.file.schema) c.args.file.members.items)) c.in_default.is c.in_ok-document.ensures.none)

pub told-requires : goal.told-requires
told-requires c =
    let (bytes, are) = c.requires in
    (bytes, c.args.file, are, subst (λ o. IfSome o (IsTold c.args.file.schema c.args.file.members.items)) c.in-Some.is c.in_ok-document.ensures.some)

pub returns-clause-some : goal.returns-clause-some
returns-clause-some c = λ bytes are.
    c.in_ok-damage.ensures bytes c.args.file are (subst (λ o. IfSome o (IsTold c.args.file.schema c.args.file.members.items)) c.in-Some.is c.in_ok-document.ensures.some)
