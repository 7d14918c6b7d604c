use Rattle.std.proofs.Common.{Option, ap, sym, ◌∙◌}
use Rattle.std.specs.Option.{option_map_or}
use Rattle.segment_reader.proofs.ReaderCalls.{found_index, none_index, tokens_are}
use Rattle.segment_reader.specs.declared.field_index.FieldIndex.{FieldIndex}
use Rattle.segment_reader.proofs.inverted_index_reader.InvertedIndexReader.total_num_tokens.Goals as goal

pub returns-in-Some : goal.returns-in-Some
returns-in-Some c contents = sym (ap (λ (o : Option FieldIndex). option_map_or (λ i. i.num_tokens) o 0) (found_index c.args.self.now c.args.field c.index_of.result c.in-Some.index c.index_of.ensures.index c.in-Some.is)) ∙ tokens_are c.args.self.now c.args.field contents

pub returns-in-None : goal.returns-in-None
returns-in-None c contents = sym (ap (λ (o : Option FieldIndex). option_map_or (λ i. i.num_tokens) o 0) (none_index c.args.self.now c.args.field c.index_of.result c.index_of.ensures.index c.in-None.is)) ∙ tokens_are c.args.self.now c.args.field contents
