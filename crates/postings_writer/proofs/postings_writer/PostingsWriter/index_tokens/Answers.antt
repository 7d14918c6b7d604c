use Rattle.std.proofs.Common.{[], ◌++◌, ◌≡◌, ◌∙◌, ◌∷◌, List, arith, subst, sym, ℕ}
use Rattle.std.proofs.lemmas.Result.{err_from_is_err_and}
use Rattle.common.specs.Buffers.{token_of_ref}
use Rattle.definitions.specs.Analyzers.{kept}
use Rattle.definitions.specs.Values.{Token}
use Rattle.postings_writer.specs.Occurrences.{Occurrence}
use Rattle.postings_writer.specs.Texts.{IsTextRefusal, text_occurrences}
use Rattle.postings_writer.specs.Writers.{Stands}
use Rattle.postings_writer.proofs.TextRuns.{indexed_more, indexed_refused, token_first}
use Rattle.postings_writer.proofs.postings_writer.PostingsWriter.index_tokens.Goals as goal

pub loop-self-preserved : goal.loop-self-preserved
loop-self-preserved g c =
    let inv = c.loop-self.invariant in
    let t : Token = token_of_ref c.token.result in
    let prefix = c.args.term_buffer.now.items in
    let all = g.T.TokenStream.rest c.args.stream.now in
    let rest = g.T.TokenStream.rest c.loop-self.stream in
    let after = g.T.TokenStream.rest c.advance.new.self in
    let first : rest ≡ t ∷ after = token_first rest after t (sym c.advance.ensures.reached ∙ sym c.token.ensures) c.advance.ensures.rest in
    let same = c.in_ok-token_end.ensures.same in
    record {
      indexed = indexed_more c.args.schema.now c.args.self.now c.loop-self.self c.index_token.new.self c.args.doc prefix c.args.gap c.args.start c.loop-self.end c.in_ok-token_end.token_end c.max-end.result c.loop-self.num_tokens c.in_ok-token_end.count c.saturating_add-num_tokens.result all rest after t inv.indexed first
          (λ os stands. subst (λ bs. Stands c.args.schema.now c.index_token.new.self (os ++ text_occurrences c.args.doc bs c.args.start (kept (t ∷ [])))) inv.buffer (c.in_ok-token_end.ensures.ok os stands))
          c.in_ok-token_end.ensures.end c.in_ok-token_end.ensures.within (let m = c.max-end.ensures in omega arith) c.in_ok-token_end.ensures.count (let m = c.saturating_add-num_tokens.ensures in omega arith);
      made = same.0;
      docs = same.1;
      buffer = same.2 ∙ inv.buffer;
    }

pub returns-in_err-token_end-clause-err : goal.returns-in_err-token_end-clause-err
returns-in_err-token_end-clause-err g c os stands =
    let inv = c.loop-self.invariant in
    let t : Token = token_of_ref c.token.result in
    let prefix = c.args.term_buffer.now.items in
    let all = g.T.TokenStream.rest c.args.stream.now in
    let rest = g.T.TokenStream.rest c.loop-self.stream in
    let after = g.T.TokenStream.rest c.advance.new.self in
    let first : rest ≡ t ∷ after = token_first rest after t (sym c.advance.ensures.reached ∙ sym c.token.ensures) c.advance.ensures.rest in
    let so_far : List Occurrence = os ++ text_occurrences c.args.doc prefix c.args.start inv.indexed.seen in
    let p = err_from_is_err_and c.from_residual.result c.from_residual.ensures.1 in
    let P : List ℕ → Type 0 = λ bs. IsTextRefusal c.in_err-token_end.field-0.0 so_far c.args.doc bs c.args.gap c.args.start (kept (t ∷ [])) in
    rw (p.1, p.2) (indexed_refused c.in_err-token_end.field-0.0 c.args.schema.now c.args.self.now c.loop-self.self os c.args.doc prefix c.args.gap c.args.start c.loop-self.end c.loop-self.num_tokens all rest after t inv.indexed first (subst P inv.buffer (c.in_err-token_end.ensures.err so_far (inv.indexed.stands os stands))))
