use Rattle.std.proofs.Common.{ap, ap₂, drop, length, map, subst, sym, ◌++◌, ◌∙◌, ◌≡◌}
use Rattle.std.specs.List.{AllByRecursion, list_any}
use Rattle.definitions.specs.Recorded.{holds}
use Rattle.segment_search.proofs.Flagging.{flagged_within}
use Rattle.index_state.proofs.RepeatedDeletions.{AreAlike, left-alike, pending-alike}
use Rattle.index_state.specs.Deletions.{IsSmall, numbered}
use Rattle.index_state.specs.Flags.{flagged_each}
use Rattle.segment_definitions.specs.Waiting.{pending_rows}
use Rattle.index_state.proofs.committed_alive_sets.next_sets.Goals as goal

pub push_left-requires-clause-within : goal.push_left-requires-clause-within
push_left-requires-clause-within c = flagged_within c.args.segments.now c.args.alive.now c.requires.flagged

pub returns-clause-rows : goal.returns-clause-rows
returns-clause-rows c schema analyze n docs stands few small =
    let has = holds schema analyze in
    let all = c.args.deletions.now in
    let last = c.as_slice-last.result.now in
    let same : last ≡ c.in_ok-owned.owned.items = c.as_slice-last.ensures.value in
    let groups = flagged_each docs c.args.alive.now in
    let pending = drop (length c.args.alive.now) docs in
    let alike : AreAlike n last all = λ test passes. ap (list_any test) same ∙ c.in_ok-owned.ensures.any n test small passes in
    let smalls = subst (AllByRecursion (IsSmall n)) (sym same) (c.in_ok-owned.ensures.small n small) in
    c.in_ok-push_new.ensures.rows schema analyze n docs stands few smalls
    ∙ ap (λ rows. rows ++ pending_rows has (map (numbered n) last) n 0 pending) (c.in_ok-push_left.ensures.rows schema analyze docs stands)
    ∙ ap₂ (λ left new. left ++ new) (left-alike has n last all alike groups) (pending-alike has n last all alike 0 pending)
