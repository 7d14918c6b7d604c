use Rattle.std.proofs.Common.{[], ap, ap₂, arith, map, ◌++◌, ◌+◌, ◌∙◌, ◌∷◌}
use Rattle.std.proofs.lemmas.List.{map-append}
use Rattle.merging.specs.declared.member.Member.{Member}
use Rattle.merging.specs.Mappings.{end_of}
use Rattle.segment.proofs.Counts.{count_front, count_more, mapped_at, mapped_within}
use Rattle.segment.proofs.NumberedMembers.{number_more, view}
use Rattle.segment.specs.Members.{member_of}
use Rattle.segment.proofs.merged_terms.numbered_members.Goals as goal

pub new-requires : goal.new-requires
new-requires c =
    let inside = c.loop-member-test.true in
    let i = c.loop-member.member-index in
    let ms = map member_of c.args.members.now in
    let base = c.loop-member.invariant.base in
    let is = mapped_at member_of i c.args.members.now c.member-item.result c.member-item.is inside in
    let more = count_more i ms (member_of c.member-item.result) is (mapped_within member_of i c.args.members.now inside) in
    let front = count_front (i + 1) ms in
    let few = c.requires in
    omega (arith, base, more, front, few)

pub loop-member-preserved : goal.loop-member-preserved
loop-member-preserved c =
    let inside = c.loop-member-test.true in
    let i = c.loop-member.member-index in
    let ms = map member_of c.args.members.now in
    let m = member_of c.member-item.result in
    let is = mapped_at member_of i c.args.members.now c.member-item.result c.member-item.is inside in
    let within = mapped_within member_of i c.args.members.now inside in
    let was = c.loop-member.numbered.items in
    let base = c.loop-member.invariant.base in
    let end = c.end-base.ensures.end ∙ ap end_of c.in_ok-doc_ids.ensures in
    let more = count_more i ms m is within in
    let x : Member = record { inverted_index = c.inverted_index.result; doc_ids = c.in_ok-doc_ids.doc_ids } in
    record {
      members =
          ap (map view) c.in_ok-push.ensures.items
          ∙ map-append view was (x ∷ [])
          ∙ ap₂ (λ xs y. xs ++ y ∷ []) c.loop-member.invariant.members (ap₂ (λ index doc_ids. (index, doc_ids)) c.inverted_index.ensures c.in_ok-doc_ids.ensures)
          ∙ number_more i c.loop-member.base ms m is within base;
      base = omega (arith, end, base, more);
    }
