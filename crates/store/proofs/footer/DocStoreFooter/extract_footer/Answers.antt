use Rattle.std.proofs.Common.{arith}
use Rattle.store.proofs.FooterBytes.{footer_not_at_end}
use Rattle.store.proofs.footer.DocStoreFooter.extract_footer.Goals as goal

pub returns-in-Err-clause-err : goal.returns-in-Err-clause-err
returns-in-Err-clause-err c =
    (c.in-Err.ensures.err.0, footer_not_at_end c.args.file.now c.split_at.result.0.now c.split_at.result.1.now c.split_at.ensures.by_index.0 (omega arith) c.in-Err.ensures.err.1)
