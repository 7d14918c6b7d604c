-- Windows of phrase prefixes.
use Rattle.std.specs.Prelude.{◌<◌, ◌≤◌, List, ℕ}
use Rattle.docsets.specs.Entries.{Entry, first, most_positions}
use Rattle.definitions.specs.Postings.{terminated}
use Rattle.phrases.specs.PrefixEntries.{most_suffix_positions}
use Rattle.phrases.specs.Windows.{IsWindow, left_in}
use Rattle.phrases.specs.declared.window.Window.{Window}

-- the window has room, and rows as long as documents of the phrase are left; there are not too many places and suffixes
pub record IsFollowing (w : Window) (num_suffixes : ℕ) (ess : List (List Entry)) (es : List Entry) : Type 0 where
  pub window : IsWindow w (most_positions es) (most_suffix_positions ess)
  pub ends : terminated ≤ first (left_in w) → terminated ≤ first es
  pub few_places : most_positions es ≤ 4294967295
  pub few_suffixes : num_suffixes < 4294967296
