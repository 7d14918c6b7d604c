-- What is recorded of a text field's terms.
use Rattle.definitions.specs.Schema as schema
use Rattle.options.specs.declared.index_record_option.IndexRecordOption.{IndexRecordOption}
use Rattle.options.specs.declared.index_record_option.IndexRecordOption.TheVariants.{Basic, WithFreqs, WithFreqsAndPositions}

-- the option as the definitions have it
abbrev pub record_option_of : IndexRecordOption → schema.IndexRecordOption
record_option_of Basic = schema.basic
record_option_of WithFreqs = schema.with_freqs
record_option_of WithFreqsAndPositions = schema.with_freqs_and_positions

-- the one that records less
abbrev pub lesser : schema.IndexRecordOption → schema.IndexRecordOption → schema.IndexRecordOption
lesser schema.basic b = schema.basic
lesser schema.with_freqs schema.basic = schema.basic
lesser schema.with_freqs b = schema.with_freqs
lesser schema.with_freqs_and_positions b = b
