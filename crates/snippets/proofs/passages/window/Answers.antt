-- The pieces that are reached.
use Rattle.snippets.proofs.Windows.{first_pieces}
use Rattle.snippets.specs.Passages as definitions
use Rattle.std.proofs.Common.{map}
use Rattle.snippets.specs.Views.{piece_of}
use Rattle.snippets.proofs.passages.window.Goals as goal

pub returns : goal.returns
returns c = first_pieces c.reach.result (definitions.reach definitions.max_passage_len (map piece_of c.args.pieces.now)) c.args.pieces.now c.reach.ensures.reach
