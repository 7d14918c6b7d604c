-- What is written is the reply alone.
use Rattle.std.proofs.Common.{◌∙◌, ap, map}
use Rattle.definitions.specs.Replies.{hits_reply, reply_of}
use Rattle.document.proofs.WrittenTokens.{whole_text}
use Rattle.reply_texts.proofs.ToldHits.{told_scored}
use Rattle.reply_texts.specs.ToldHits.{told}
use Rattle.segment_search.specs.Hits.{shown_hit}
use Rattle.reply_texts.proofs.hit_texts.hits_text.Goals as goal

pub returns-clause-told : goal.returns-clause-told
returns-clause-told c =
    let written = c.write_reply.new.out in
    ap (λ v. v.items) c.from_utf8_unchecked.ensures.value
    ∙ whole_text c.into_inner.result.items written.before c.new-out.result.tokens written.tokens (hits_reply (map told (map (shown_hit c.args.schema.now) c.args.hits.now))) c.into_inner.ensures.items (c.write_reply.ensures.before ∙ c.new-out.ensures.before ∙ c.new.ensures.items) c.in_ok-write_reply.ensures.ok c.new-out.ensures.tokens

pub returns-clause-scored : goal.returns-clause-scored
returns-clause-scored c hs same =
    let written = c.write_reply.new.out in
    ap (λ v. v.items) c.from_utf8_unchecked.ensures.value
    ∙ whole_text c.into_inner.result.items written.before c.new-out.result.tokens written.tokens (hits_reply (map told (map (shown_hit c.args.schema.now) c.args.hits.now))) c.into_inner.ensures.items (c.write_reply.ensures.before ∙ c.new-out.ensures.before ∙ c.new.ensures.items) c.in_ok-write_reply.ensures.ok c.new-out.ensures.tokens
    ∙ ap (λ hs. reply_of (hits_reply hs)) (told_scored (map (shown_hit c.args.schema.now) c.args.hits.now) hs same)
