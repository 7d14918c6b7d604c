-- Histories that no search can tell apart.
use Rattle.std.specs.Prelude.{[], ⊤, ◌-◌, ◌∷◌, ◌≡◌, ◌≤◌, List, drop, filter, flat_map, not, take, ℕ}
use Rattle.definitions.specs.Calls.{Call, Configuration, after, is_merge, merge_range}
use Rattle.definitions.specs.Analyzers.{Analyzer}
use Rattle.definitions.specs.Schema.{Schema}
use Rattle.definitions.specs.Settings.{Settings}
use Rattle.definitions.specs.State.{State, committed, nothing_yet}
use Rattle.definitions.specs.Step.{configuration_of}
use Rattle.definitions.specs.Values.{Document}

-- the documents of the groups from one place to another
abbrev pub documents_within : ℕ → ℕ → State → List Document
documents_within from to s = flat_map (λ group. group) (take (to - from) (drop from s.groups))

-- two states have equal committed documents, and equal calls that wait
abbrev pub SameList : State → State → Type 0
SameList s t = (committed s ≡ committed t) × (s.pending ≡ t.pending)

-- the configuration with `n` documents in a segment
abbrev pub with_segments_of : ℕ → Configuration → Configuration
with_segments_of n c = record c { docs_per_segment = n }

-- the state after calls, one after the other, of which none is refused
abbrev pub after_all : Configuration → State → List Call → State
after_all c s [] = s
after_all c s (call ∷ calls) = after_all c (after c s call) calls

-- the calls but for merges
abbrev pub without_merges : List Call → List Call
without_merges calls = filter (λ call. not (is_merge call)) calls

-- whether a merge's range doesn't end before it begins
abbrev pub HasRange : Call → Type 0
HasRange (merge_range from to) = from ≤ to
HasRange _ = ⊤

-- settings that weigh terms and lengths alike: they may differ in the sizes of segments, of blocks and of the cache
pub record WeighAlike (a b : Settings) : Type 0 where
  pub default_weight : a.default_weight ≡ b.default_weight
  pub weights : a.weights ≡ b.weights
  pub norms : a.norms ≡ b.norms

-- the documents that are committed after calls to an index without documents, of which none is refused
abbrev pub list_after : Schema → Analyzer → Settings → List Call → List Document
list_after schema analyze settings calls = committed (after_all (configuration_of schema analyze settings) nothing_yet calls)
