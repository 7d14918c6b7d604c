-- Windows of phrase prefixes: laws.
use Rattle.std.specs.Prelude.{List, ℕ}
use Rattle.std.proofs.Props.{props}
use Rattle.docsets.specs.Entries.{Entry}
use Rattle.phrases.specs.declared.window.Window.{Window}
use Rattle.phrases.specs.PrefixWindows.{IsFollowing}

pub IsFollowing-prop : (w : Window) (num_suffixes : ℕ) (ess : List (List Entry)) (es : List Entry) → IsProp (IsFollowing w num_suffixes ess es)
IsFollowing-prop w num_suffixes ess es = hlevel props
