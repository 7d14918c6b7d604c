use Rattle.options.specs.RecordOption.{record_option_of}
use Rattle.postings_writer.proofs.WrittenPostings.{nothing_made}
use Rattle.postings_writer.proofs.postings_serializer.PostingsSerializer.new.Goals as goal

pub returns-clause-nothing : goal.returns-clause-nothing
returns-clause-nothing c = nothing_made (record_option_of c.args.mode) (record_option_of c.args.mode) c.args.fieldnorm_reader c.new.result c.new-2.result c.new.ensures c.new-2.ensures
