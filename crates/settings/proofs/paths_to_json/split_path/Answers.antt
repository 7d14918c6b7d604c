-- What stands round the place where U+0000 was found.
use Rattle.std.proofs.Common.{◌==◌}
use Rattle.settings.proofs.TermPaths.{path_alone, path_found}
use Rattle.settings.proofs.paths_to_json.split_path.Goals as goal

pub returns-in-Some : goal.returns-in-Some
returns-in-Some c = path_found (◌==◌ 0) c.args.bytes.now c.in-Some.end c.in-Some.ensures

pub returns-in-None : goal.returns-in-None
returns-in-None c = path_alone (◌==◌ 0) c.args.bytes.now c.in-None.ensures
