use Rattle.std.proofs.Common.{None, ap, length, subst, sym, take, ◌∙◌}
use Rattle.segment_reader.proofs.WalkSteps.{view_cut, walk_cut}
use Rattle.segment_reader.specs.Dictionaries.{Walked}
use Rattle.segment_reader.specs.KeptTerms.{IsWalk, walked}
use Rattle.segment_reader.proofs.term_range.TermRange.cut.Goals as goal

pub invariant_of-self : goal.invariant_of-self
invariant_of-self c = (
  c.self.invariant.0,
  subst (λ n. IsWalk c.self.inside.front_coded c.self.inside.number n c.self.inside.postings c.self.inside.positions (length c.self.inside.buffer.items) (take c.self.inside.key_len c.self.inside.buffer.items) c.self.inside.rest.now) (sym c.min-self-inside.ensures) (walk_cut c.self.inside.front_coded c.self.inside.left c.self.inside.number c.self.inside.postings c.self.inside.positions (length c.self.inside.buffer.items) c.args.count (take c.self.inside.key_len c.self.inside.buffer.items) c.self.inside.rest.now c.self.invariant.1),
)

pub returns : goal.returns
returns c =
    ap (λ n. walked c.self.inside.front_coded c.self.inside.number n c.self.inside.postings c.self.inside.positions (take c.self.inside.key_len c.self.inside.buffer.items) c.self.inside.rest.now None) c.min-self-inside.ensures
    ∙ view_cut c.self.inside.front_coded c.self.inside.left c.self.inside.number c.self.inside.postings c.self.inside.positions (length c.self.inside.buffer.items) c.args.count (take c.self.inside.key_len c.self.inside.buffer.items) c.self.inside.rest.now c.self.invariant.1
    ∙ ap (λ (v : Walked). record { here = None; rest = take c.args.count v.rest }) c.self.view_is
