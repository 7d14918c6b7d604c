use Rattle.std.proofs.Common.{[], List, ap, arith, length, length-append, subst, sym, ◌++◌, ◌∙◌, ◌∷◌, ◌≡◌}
use Rattle.std.proofs.Math.Logic.{∥∥₁_map}
use Rattle.std.proofs.lemmas.List.{append-nil}
use Rattle.std.proofs.lemmas.Result.{err_from_is_err_and}
use Rattle.std.specs.List.{AllZip}
use Rattle.std.specs.Prelude.{option_to_list}
use Rattle.definitions.specs.State.{as_group}
use Rattle.definitions.specs.Values.{Document}
use Rattle.index_state.proofs.NewSegments.{all_new, new_full, new_known, put_more, told_counted}
use Rattle.index_state.proofs.PendingDocs.{group_of, writer_holds, writer_none}
use Rattle.index_state.specs.NewSegments.{AreKnown, ArePut, IsNew}
use Rattle.index_state.proofs.pending_segments.PendingSegments.encode.Goals as goal

-- ---- with no open segment

pub returns-in_default-clause-count : goal.returns-in_default-clause-count
returns-in_default-clause-count c =
    let news = told_counted c.put_full.new.body c.args.self.full.items c.in_ok-news.news.items c.in_ok-news.ensures.same in
    let none = ap (λ o. length (option_to_list o)) c.in_default.is in
    omega (arith, news, none)

pub returns-in_default-clause-known : goal.returns-in_default-clause-known
returns-in_default-clause-known c = ∥∥₁_map c.requires.held (λ h. new_known c.args.schema.now h.0 c.put_full.new.body h.2.0 c.in_ok-news.news.items (new_full c.args.schema.now h.0 c.put_full.new.body h.2.0 c.args.self.full.items c.in_ok-news.news.items c.in_ok-news.ensures.same h.2.2.closed))

pub returns-in_default-clause-ok : goal.returns-in_default-clause-ok
returns-in_default-clause-ok c analyze block_size full last h =
    let schema = c.args.schema.now in
    let body = c.put_full.new.body in
    let news = c.in_ok-news.news.items in
    let none = writer_none schema analyze block_size c.args.self full last h c.in_default.is in
    let all : full ++ as_group last ≡ full = ap (λ ds. full ++ as_group ds) none ∙ append-nil full in
    subst (λ ds. AllZip (IsNew schema analyze body) ds news) (sym all) (new_full schema analyze body full c.args.self.full.items news c.in_ok-news.ensures.same h.closed)

-- ---- with an open segment

pub put_open-requires : goal.put_open-requires
put_open-requires c = record {
  written = ∥∥₁_map c.requires.held (λ h.
      let w = writer_holds c.args.schema.now h.0 h.1 c.args.self h.2.0 h.2.1 h.2.2 c.in-Some.writer c.in-Some.is in
      (h.0, h.1, h.2.1, w.1, w.0));
}

pub returns-in_err-body-clause-limit : goal.returns-in_err-body-clause-limit
returns-in_err-body-clause-limit c analyze block_size full last h =
    let w = writer_holds c.args.schema.now analyze block_size c.args.self full last h c.in-Some.writer c.in-Some.is in
    let fault = c.in_err-body.field-0.0 in
    let p = err_from_is_err_and c.from_residual-in_err-body.result c.from_residual-in_err-body.ensures.1 in
    rw (p.1, p.2) (c.in_err-body.ensures.limit analyze block_size last w.1)

pub returns-clause-put : goal.returns-clause-put
returns-clause-put c =
    let next = c.in_ok-body.body in
    let new = c.in_ok-body.new in
    let whole = c.in_ok-body.ensures.put in
    let within = c.in_ok-body.ensures.within in
    subst (ArePut c.args.body next) (sym c.in_ok-push.ensures.items) (put_more c.args.body c.put_full.new.body next c.in_ok-news.news.items new c.in_ok-news.ensures.put whole within.0 within.1)

pub returns-clause-count : goal.returns-clause-count
returns-clause-count c =
    let next = c.in_ok-body.body in
    let new = c.in_ok-body.new in
    let were = c.in_ok-news.news.items in
    let news = told_counted c.put_full.new.body c.args.self.full.items were c.in_ok-news.ensures.same in
    let one = ap (λ o. length (option_to_list o)) c.in-Some.is in
    let pushed = ap length c.in_ok-push.ensures.items in
    let more = length-append were (new ∷ []) in
    omega (arith, news, one, pushed, more)

pub returns-clause-known : goal.returns-clause-known
returns-clause-known c =
    let next = c.in_ok-body.body in
    let new = c.in_ok-body.new in
    let schema = c.args.schema.now in
    ∥∥₁_map c.requires.held (λ h.
    let w = writer_holds schema h.0 h.1 c.args.self h.2.0 h.2.1 h.2.2 c.in-Some.writer c.in-Some.is in
    let is = c.in_ok-body.ensures.ok h.0 h.1 h.2.1 w.1 in
    let all = all_new schema h.0 c.args.body c.put_full.new.body h.2.0 c.args.self.full.items c.in_ok-news.news.items c.in_ok-news.ensures.put c.in_ok-news.ensures.same h.2.2.closed next new h.2.1 c.in_ok-body.ensures.put is in
    subst (AreKnown schema next) (sym c.in_ok-push.ensures.items) (new_known schema h.0 next (h.2.0 ++ h.2.1 ∷ []) (c.in_ok-news.news.items ++ new ∷ []) all))

pub returns-clause-ok : goal.returns-clause-ok
returns-clause-ok c analyze block_size full last h =
    let next = c.in_ok-body.body in
    let new = c.in_ok-body.new in
    let schema = c.args.schema.now in
    let w = writer_holds schema analyze block_size c.args.self full last h c.in-Some.writer c.in-Some.is in
    let is = c.in_ok-body.ensures.ok analyze block_size last w.1 in
    let all = all_new schema analyze c.args.body c.put_full.new.body full c.args.self.full.items c.in_ok-news.news.items c.in_ok-news.ensures.put c.in_ok-news.ensures.same h.closed next new last c.in_ok-body.ensures.put is in
    subst (λ (group : List (List Document)). AllZip (IsNew schema analyze next) (full ++ group) c.push.new.self.items) (sym (group_of last w.0)) (subst (AllZip (IsNew schema analyze next) (full ++ last ∷ [])) (sym c.in_ok-push.ensures.items) all)
