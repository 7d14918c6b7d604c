use Rattle.std.proofs.Common.{Some, ap, ap₂, arith, drop, length, subst, sym, take, ◌++◌, ◌+◌, ◌-◌, ◌<◌, ◌≡◌, ◌≤◌, ◌∙◌}
use Rattle.std.specs.Prelude.{min}
use Rattle.front_coding.proofs.WalkSteps.{Moved, fits, items_are, never_none}
use Rattle.layouts.specs.TermSections.{block_size}
use Rattle.front_coding.specs.Lengths.{parts_as}
use Rattle.front_coding.specs.Walks.{terms_taken}
use Rattle.segment_reader.proofs.PlacedTerms.{length_by}
use Rattle.segment_reader.proofs.WalkSteps.{advanced_shorter, first_fits, view_moved, walk_moved}
use Rattle.segment_reader.specs.Dictionaries.{Walked, advanced}
use Rattle.segment_reader.specs.KeptTerms.{IsWalk, walked}
use Rattle.segment_reader.proofs.term_range.TermRange.advance.Goals as goal

pub unreachable-requires : goal.unreachable-requires
unreachable-requires c = never_none (block_size c.self.inside.front_coded) c.self.inside.left c.self.inside.number (take c.self.inside.key_len c.self.inside.buffer.items) c.self.inside.rest.now c.if-self-eq0.false c.self.invariant.1.many c.in_default.ensures.err.1

pub put_rest-requires : goal.put_rest-requires
put_rest-requires c =
    let it : min c.in-Ok.parts.shared_len c.self.inside.key_len + length c.in-Ok.parts.left.now ≤ length c.self.inside.buffer.items = fits (block_size c.self.inside.front_coded) c.self.inside.left c.self.inside.number c.self.inside.key_len c.self.inside.buffer.items c.self.inside.rest.now (parts_as c.in-Ok.parts) c.in-Ok.after.now c.self.invariant.0 c.self.invariant.1.fit c.if-self-eq0.false c.in-Ok.ensures.ok in
    let buffer : length c.deref_mut.result.now ≡ length c.self.inside.buffer.items = ap length c.deref_mut.ensures.value in
    let shared_len = c.min-shared_len.ensures in
    omega (arith, it, buffer, shared_len)

moved : (c : goal.After-self-8-1) → Moved (block_size c.self.inside.front_coded) c.self.inside.left c.self.inside.number c.self.inside.key_len c.self.inside.buffer.items c.self.inside.rest.now (parts_as c.in-Ok.parts) c.in-Ok.after.now (c.min-shared_len.result + length c.in-Ok.parts.left.now) c.put_rest.new.buffer
moved c =
    let buffer : c.deref_mut.result.now ≡ c.self.inside.buffer.items = c.deref_mut.ensures.value in
    let shared_len : c.min-shared_len.result ≡ min c.in-Ok.parts.shared_len c.self.inside.key_len = c.min-shared_len.ensures in
    record {
      within = c.self.invariant.0;
      few = c.self.invariant.1.numbers_fit;
      fit = c.self.invariant.1.fit;
      many = c.self.invariant.1.many;
      some = c.if-self-eq0.false;
      taken = c.in-Ok.ensures.ok;
      len_is = ap (λ n. n + length c.in-Ok.parts.left.now) shared_len;
      front = c.put_rest.ensures.front ∙ ap₂ (λ n xs. take n xs ++ c.in-Ok.parts.left.now) shared_len buffer;
      same = c.put_rest.ensures.len ∙ ap length buffer;
    }

written : (c : goal.After-self-8-1) → take c.self.inside.buffer.len (c.put_rest.new.buffer ++ drop (length c.put_rest.new.buffer) c.self.inside.buffer.items) ≡ c.put_rest.new.buffer
written c =
    let buffer : c.deref_mut.result.now ≡ c.self.inside.buffer.items = c.deref_mut.ensures.value in
    items_are c.self.inside.buffer.len c.put_rest.new.buffer c.self.inside.buffer.items (c.put_rest.ensures.len ∙ ap length buffer) (sym (ap length buffer) ∙ c.deref_mut.ensures.len)

pub info_of-info-requires : goal.info_of-info-requires
info_of-info-requires c = first_fits (block_size c.self.inside.front_coded) c.self.inside.left c.self.inside.number c.self.inside.postings c.self.inside.positions (take c.self.inside.key_len c.self.inside.buffer.items) c.self.inside.rest.now (parts_as c.in-Ok.parts) c.in-Ok.after.now c.if-self-eq0.false c.in-Ok.ensures.ok c.self.invariant.1.infos

pub invariant_of-self-2 : goal.invariant_of-self-2
invariant_of-self-2 c =
    let new_len = c.min-shared_len.result + length c.in-Ok.parts.left.now in
    let l = c.in-Ok.parts.lengths in
    let made = walk_moved c.self.inside.front_coded c.self.inside.left c.self.inside.number c.self.inside.postings c.self.inside.positions c.self.inside.key_len c.self.inside.buffer.items c.self.inside.rest.now (parts_as c.in-Ok.parts) c.in-Ok.after.now new_len c.put_rest.new.buffer (moved c) c.self.invariant.1.infos in
    subst (λ b. (new_len ≤ length b) × IsWalk c.self.inside.front_coded (c.self.inside.number + 1) (c.self.inside.left - 1) (c.self.inside.postings + l.postings_len) (c.self.inside.positions + l.positions_len) (length b) (take new_len b) c.in-Ok.after.now) (sym (written c)) made

pub returns-clause-next : goal.returns-clause-next
returns-clause-next c =
    let new_len = c.min-shared_len.result + length c.in-Ok.parts.left.now in
    let l = c.in-Ok.parts.lengths in
    ap (λ b. walked c.self.inside.front_coded (c.self.inside.number + 1) (c.self.inside.left - 1) (c.self.inside.postings + l.postings_len) (c.self.inside.positions + l.positions_len) (take new_len b) c.in-Ok.after.now (Some c.info_of-info.result)) (written c)
    ∙ ap (λ i. walked c.self.inside.front_coded (c.self.inside.number + 1) (c.self.inside.left - 1) (c.self.inside.postings + l.postings_len) (c.self.inside.positions + l.positions_len) (take new_len c.put_rest.new.buffer) c.in-Ok.after.now (Some i)) c.info_of-info.ensures
    ∙ view_moved c.self.inside.front_coded c.self.inside.left c.self.inside.number c.self.inside.postings c.self.inside.positions c.self.inside.key_len c.self.inside.buffer.items c.self.inside.rest.now (parts_as c.in-Ok.parts) c.in-Ok.after.now new_len c.put_rest.new.buffer (moved c) c.self.inside.here
    ∙ ap advanced c.self.view_is

pub returns-clause-shorter : goal.returns-clause-shorter
returns-clause-shorter c = λ _.
    let all = length_by c.self.inside.postings c.self.inside.positions (terms_taken (block_size c.self.inside.front_coded) c.self.inside.left c.self.inside.number (take c.self.inside.key_len c.self.inside.buffer.items) c.self.inside.rest.now) in
    let many = c.self.invariant.1.many in
    let some = c.if-self-eq0.false in
    let view = ap (λ (w : Walked). length w.rest) c.self.view_is in
    let next = ap (λ (w : Walked). length w.rest) (returns-clause-next c) in
    subst (λ n. n < length c.args.self.now.rest) (sym next) (advanced_shorter c.args.self.now (omega (arith, all, many, some, view)))
