use Rattle.std.proofs.Common.{Err, Ok, ap₂, map, ◌∙◌}
use Rattle.definitions.specs.Replies.{hits_reply, reply_of}
use Rattle.definitions.specs.Requests as requests
use Rattle.engine.specs.HandedOn.{shown_hit}
use Rattle.engine.specs.Indexes.{schema_of}
use Rattle.index.proofs.Answering.{refusal_answered, text_answered}
use Rattle.serde_json.specs.View.{view}
use Rattle.index.proofs.Causes.{stop_is_memory}
use Rattle.index.proofs.Endings.{memory_tells, refusal_tells}
use Rattle.reply_texts.specs.ToldHits.{told}
use Rattle.index.proofs.answers.search.Goals as goal

pub returns-in_ok-hits_text-in-Ok-clause-answered : goal.returns-in_ok-hits_text-in-Ok-clause-answered
returns-in_ok-hits_text-in-Ok-clause-answered g c k x s =
    let (hs, same, step) = c.in-Ok.ensures.ok k x s in
    text_answered g.A.Analyzer.analyze c.find.new.index k x (requests.search_docs (view c.args.query.now) c.args.k) (hits_reply hs) _ (c.find.ensures.left k x s) step (c.in_ok-hits_text-in-Ok.ensures.scored hs (ap₂ (λ schema hits. map (shown_hit schema) hits) (c.schema.ensures ∙ c.find.ensures.made.schema) c.deref.ensures.value ∙ same))

pub returns-in-Err-clause-answered : goal.returns-in-Err-clause-answered
returns-in-Err-clause-answered g c k x s = refusal_answered g.A.Analyzer.analyze c.find.new.index k x (requests.search_docs (view c.args.query.now) c.args.k) c.in-Err.fault c.refusal.result (c.find.ensures.left k x s) (c.in-Err.ensures.err k x s) c.refusal.ensures.text c.refusal.ensures.on

pub returns-in-Err-clause-err : goal.returns-in-Err-clause-err
returns-in-Err-clause-err g c k x s = stop_is_memory c.in-Err.fault c.refusal.result (c.in-Err.ensures.goes_on k x s) c.refusal.ensures.same c.refusal.ensures.err

-- ---- an index of whatever documents

pub returns-in_ok-hits_text-in-Ok-clause-comes : goal.returns-in_ok-hits_text-in-Ok-clause-comes
returns-in_ok-hits_text-in-Ok-clause-comes g c = record {
  made = c.find.ensures.made;
  outcome = Ok (hits_reply (map told (map (shown_hit (schema_of c.args.index.now)) c.in-Ok.hits.items)));
  tells = c.in_ok-hits_text-in-Ok.ensures.told ∙ ap₂ (λ schema hits. reply_of (hits_reply (map told (map (shown_hit schema) hits)))) (c.schema.ensures ∙ c.find.ensures.made.schema) c.deref.ensures.value;
  ends = c.in-Ok.ensures.ends;
}

pub returns-in_err-hits_text-in-Ok-clause-comes : goal.returns-in_err-hits_text-in-Ok-clause-comes
returns-in_err-hits_text-in-Ok-clause-comes g c = record {
  made = c.find.ensures.made;
  outcome = Ok (hits_reply (map told (map (shown_hit (schema_of c.args.index.now)) c.in-Ok.hits.items)));
  tells = memory_tells (hits_reply (map told (map (shown_hit (schema_of c.args.index.now)) c.in-Ok.hits.items))) c.from_residual.result c.from_residual.ensures.1;
  ends = c.in-Ok.ensures.ends;
}

pub returns-in-Err-clause-comes : goal.returns-in-Err-clause-comes
returns-in-Err-clause-comes g c = record {
  made = c.find.ensures.made;
  outcome = Err c.in-Err.fault;
  tells = refusal_tells c.in-Err.fault c.refusal.result c.refusal.ensures.text c.refusal.ensures.on c.refusal.ensures.err c.refusal.ensures.same;
  ends = c.in-Err.ensures.ends;
}
