use Rattle.std.proofs.Common.{List, ap, ap₂, ◌≡◌, ◌∙◌, ℕ, bytes_eq, find}
use Rattle.std.specs.Option.{option_map_or}
use Rattle.definitions.specs.Calls.{Configuration}
use Rattle.definitions.specs.EqualHistories.{WeighAlike, after_all, list_after, with_segments_of}
use Rattle.definitions.specs.Scoring.{Similarity}
use Rattle.definitions.specs.Scanning.{scan, scan_count}
use Rattle.definitions.specs.Settings.{Settings, similarity_of}
use Rattle.definitions.specs.State.{committed, nothing_yet}
use Rattle.definitions.specs.Step.{configuration_of}
use Rattle.definitions.proofs.Histories.{SameList-refl, history-same_list}
use Rattle.definitions.proofs.history_laws.whole_histories_answer_alike.Goals as goal

-- what scores are made of, by its parts
abbrev scored_by : List (List ℕ × ℕ) → ℕ → List ℕ → Similarity
scored_by weights default_weight norms = record { weight = λ t. option_map_or (λ w. w.1) (find (λ w. bytes_eq w.0 t) weights) default_weight; norms = norms }

same_similarity : (a b : Settings) → WeighAlike a b → similarity_of a ≡ similarity_of b
same_similarity a b alike =
    let first : similarity_of a ≡ scored_by b.weights a.default_weight a.norms = ap (λ ws. scored_by ws a.default_weight a.norms) alike.weights in
    let second : scored_by b.weights a.default_weight a.norms ≡ similarity_of b = ap₂ (λ n ns. scored_by b.weights n ns) alike.default_weight alike.norms in
    first ∙ second

pub returns-clause-hits : goal.returns-clause-hits
returns-clause-hits c schema analyze a b calls others alike same q k =
    ap₂ (λ sim docs. scan schema analyze sim docs q k) (same_similarity a b alike) same

pub returns-clause-counts : goal.returns-clause-counts
returns-clause-counts c schema analyze a b calls others alike same q = ap (λ docs. scan_count schema analyze docs q) same

pub returns-clause-merges : goal.returns-clause-merges
returns-clause-merges c schema analyze a b calls others alike l k h g e =
    let one : Configuration = configuration_of schema analyze b in
    let with_one : list_after schema analyze a calls ≡ committed (after_all (with_segments_of a.docs_per_segment one) nothing_yet calls) =
    ap (λ sim. committed (after_all (record { schema = schema; analyze = analyze; similarity = sim; docs_per_segment = a.docs_per_segment }) nothing_yet calls)) (same_similarity a b alike) in
    with_one ∙ (history-same_list one a.docs_per_segment b.docs_per_segment l k calls others h g e nothing_yet nothing_yet (SameList-refl nothing_yet)).0
