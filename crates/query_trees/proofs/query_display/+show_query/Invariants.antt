use Rattle.std.proofs.Common.{◌*◌, ◌+◌}
use Rattle.query_trees.proofs.query_display.+show_query.Given as goal

-- each node is shown with one less below it
abbrev pub decreases-show_query : goal.decreases-show_query
decreases-show_query g l = 2 * l.nodes

abbrev pub decreases-show_boolean : goal.decreases-show_boolean
decreases-show_boolean g l = 2 * l.nodes + 1

abbrev pub decreases-show_max : goal.decreases-show_max
decreases-show_max g l = 2 * l.nodes + 1

abbrev pub decreases-show_boost : goal.decreases-show_boost
decreases-show_boost g l = 2 * l.nodes + 1

abbrev pub decreases-show_const_score : goal.decreases-show_const_score
decreases-show_const_score g l = 2 * l.nodes + 1
