-- What recorders stand for.
use Rattle.std.specs.Prelude.{[], ◌∷◌, ◌<◌, ◌^◌, ◌≡◌, ◌≤◌, ◌⊎◌, List, None, Option, Some, true, ℕ}
use Rattle.definitions.specs.Schema.{IndexRecordOption, basic, has_freq, with_freqs, with_freqs_and_positions}
use Rattle.definitions.specs.declared.fault.Fault.{Fault}
use Rattle.definitions.specs.declared.fault.Fault.TheVariants as faults
use Rattle.postings_writer.specs.Occurrences.{by_document, counts_of, docs_of, last_count}
use Rattle.postings_writer.specs.declared.recorder.Recorder.{Recorder}
use Rattle.postings_writer.specs.declared.recorder.Recorder.TheVariants.{DocIds, TermFrequencies, TfAndPositions}

-- the recorder of these occurrences
abbrev pub recorded_as : IndexRecordOption → List (ℕ × ℕ) → Recorder
recorded_as basic ps = DocIds (docs_of ps)
recorded_as with_freqs ps = TermFrequencies (counts_of ps)
recorded_as with_freqs_and_positions ps = TfAndPositions ps

-- the recorder of a term, where it has occurrences
abbrev pub recorder_of : IndexRecordOption → List (ℕ × ℕ) → Option Recorder
recorder_of option [] = None
recorder_of option (p ∷ ps) = Some (recorded_as option (p ∷ ps))

-- where counts are recorded, that of these occurrences' last document is below 2^32
abbrev pub IsCountWithin : IndexRecordOption → List (ℕ × ℕ) → Type 0
IsCountWithin option ps = has_freq option ≡ true → last_count (by_document ps) < 2 ^ 32

-- memory was wanting, or the count of these occurrences' last document would pass 32 bits
abbrev pub IsCountRefusal : Fault → List (ℕ × ℕ) → Type 0
IsCountRefusal fault ps = (fault ≡ faults.OutOfMemory) ⊎ ((fault ≡ faults.Limit) × (2 ^ 32 ≤ last_count (by_document ps)))
