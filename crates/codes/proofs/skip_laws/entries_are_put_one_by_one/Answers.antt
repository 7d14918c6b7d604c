use Rattle.std.proofs.Common.{refl}
use Rattle.codes.proofs.SkipLaws.{entry_after}
use Rattle.codes.proofs.skip_laws.entries_are_put_one_by_one.Goals as goal

pub returns-clause-whole : goal.returns-clause-whole
returns-clause-whole c = λ counts positions entries sound. record { many = refl; bytes_are = refl; sound = sound }

pub returns-clause-more : goal.returns-clause-more
returns-clause-more c = λ counts positions entries e. entry_after counts positions entries e
