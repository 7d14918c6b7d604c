-- Those so far and those of the nodes that are left are all.
use Rattle.std.proofs.Common.{drop, map, ◌++◌, ◌≡◌}
use Rattle.std.specs.List.{flat_map}
use Rattle.ask.specs.Sought.{own_words}
use Rattle.query_trees.specs.Walks.{seen}
use Rattle.snippets.specs.Views.{word_of}
use Rattle.ask.proofs.sought.words_in.Given as goal

abbrev pub invariant-loop-node : goal.invariant-loop-node
invariant-loop-node l = map word_of l.words.items ++ flat_map (own_words l.field) (map seen (drop l.node-index l.node-items)) ≡ flat_map (own_words l.field) (map seen l.node-items)
