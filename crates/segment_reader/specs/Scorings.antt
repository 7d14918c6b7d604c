-- What is searched, and whether for scores.
use Rattle.std.specs.Prelude.{None, Option, Some, option_map}
use Rattle.definitions.specs.Schema.{Schema}
use Rattle.segment_reader.specs.Searchers.{schema_of}
use Rattle.segment_reader.specs.declared.enable_scoring.EnableScoring.{EnableScoring}
use Rattle.segment_reader.specs.declared.enable_scoring.EnableScoring.TheVariants.{Disabled, Enabled}
use Rattle.segment_reader.specs.declared.searcher.Searcher.{Searcher}

-- the segments, where they are known
abbrev pub searcher_asked : {T : Type 0} → EnableScoring T → Option (Searcher T)
searcher_asked (Enabled searcher statistics) = Some searcher.now
searcher_asked (Disabled schema searcher) = option_map (λ s. s.now) searcher

-- what scores come from, where they are asked for
abbrev pub statistics_asked : {T : Type 0} → EnableScoring T → Option T
statistics_asked (Enabled searcher statistics) = Some statistics.now
statistics_asked (Disabled schema searcher) = None

-- the schema
abbrev pub schema_asked : {T : Type 0} → EnableScoring T → Schema
schema_asked (Enabled searcher statistics) = schema_of searcher.now
schema_asked (Disabled schema searcher) = schema.now
