use Rattle.std.proofs.Common.{ap, map, subst, sym, ◌∙◌}
use Rattle.std.specs.List.{AllByRecursion, AllByRecursion-prop}
use Rattle.std.proofs.Math.Logic.{∥∥₁_elim}
use Rattle.segment_reader.proofs.Found.{TermsAscend-prop}
use Rattle.segment_reader.specs.Readers.{dictionary_in}
use Rattle.layouts.specs.TermSections.{TermsAscend}
use Rattle.merging.proofs.FieldMerged.{dictionaries_ascend}
use Rattle.definitions.proofs.Lists.{take_whole}
use Rattle.merging.specs.KeyLists.{keys_of}
use Rattle.merging.proofs.merged_field.all_terms.Goals as goal

pub new-requires : goal.new-requires
new-requires c =
    subst (AllByRecursion (λ terms. TermsAscend (keys_of terms)))
    (sym (c.loop-member.invariant ∙ ap (map (λ m. dictionary_in m.inverted_index.now c.args.field)) (take_whole c.loop-member.member-index c.args.members.now c.loop-member-test.false)))
    (∥∥₁_elim c.requires (AllByRecursion-prop (λ terms. TermsAscend (keys_of terms)) (λ terms. TermsAscend-prop (keys_of terms)) (map (λ m. dictionary_in m.inverted_index.now c.args.field) c.args.members.now)) (λ k. dictionaries_ascend k.0 0 k.1 c.args.members.now k.2 c.args.field k.3))
