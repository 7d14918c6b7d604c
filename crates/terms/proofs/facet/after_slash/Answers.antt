use Rattle.std.proofs.Common.{lit<}
use Rattle.std.proofs.lemmas.Str.Pattern.{strip_prefix_char}
use Rattle.terms.proofs.facet.after_slash.Goals as goal

pub returns : goal.returns
returns c = strip_prefix_char 47 c.args.path.now c.strip_prefix.result c.strip_prefix.ensures.cases (lit< tt)
