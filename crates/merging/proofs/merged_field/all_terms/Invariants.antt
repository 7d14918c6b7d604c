use Rattle.std.proofs.Common.{map, take, ◌≡◌}
use Rattle.segment_reader.specs.Readers.{dictionary_in}
use Rattle.merging.proofs.merged_field.all_terms.Given as goal

-- the dictionaries of the members so far
abbrev pub invariant-loop-member : goal.invariant-loop-member
invariant-loop-member l = l.dictionaries.items ≡ map (λ m. dictionary_in m.inverted_index.now l.field) (take l.member-index l.members)
