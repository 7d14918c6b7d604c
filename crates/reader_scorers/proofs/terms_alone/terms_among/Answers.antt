use Rattle.std.proofs.Common.{[], None, ap, arith, rules, sym, ◌++◌, ◌∙◌, ◌∷◌, ◌≡◌}
use Rattle.std.proofs.lemmas.List.{append-nil, nil_from_length}
use Rattle.reader_scorers.specs.Terms.{terms_in}
use Rattle.reader_scorers.proofs.terms_alone.terms_among.Goals as goal

pub loop-scorer-preserved : goal.loop-scorer-preserved
loop-scorer-preserved g c =
    let none : c.into_term.result ≡ None = search rules in
    let left : c.loop-scorer.left.items ≡ c.in-Some.scorer ∷ c.pop_front.new.self.items = search rules in
    let no = c.into_term.ensures.none none in
    ap (λ ts. c.loop-scorer.terms.items ++ (ts ++ terms_in c.pop_front.new.self.items)) (sym no) ∙ (ap (λ ss. c.loop-scorer.terms.items ++ terms_in ss) (sym left) ∙ c.loop-scorer.invariant)

pub returns : goal.returns
returns g c =
    let none = c.in_default.ensures.cases.0 in
    let empty : c.loop-scorer.left.items ≡ [] = nil_from_length c.loop-scorer.left.items (omega (arith, none)) in
    sym (append-nil c.loop-scorer.terms.items) ∙ (ap (λ ss. c.loop-scorer.terms.items ++ terms_in ss) (sym empty) ∙ c.loop-scorer.invariant)
