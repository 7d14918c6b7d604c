use Rattle.std.proofs.Common.{arith}
use Rattle.std.proofs.lemmas.Result.{MatchResult-weaker}
use Rattle.store.proofs.FooterBytes.{footer_none, footer_put}
use Rattle.store.proofs.footer.DocStoreFooter.deserialize.Goals as goal

pub returns-clause-ok : goal.returns-clause-ok
returns-clause-ok c = MatchResult-weaker c.take_footer.result c.take_footer.ensures.ok (λ p e. (footer_put c.args.bytes.now p.0.offset p.1.now (λ i. omega (arith, c.type_inv.bytes i)) e).1) (λ e h. h)

pub returns-clause-err : goal.returns-clause-err
returns-clause-err c = MatchResult-weaker c.take_footer.result c.take_footer.ensures.err (λ p h. h) (λ fault h. (h.0, footer_none c.args.bytes.now h.1))
