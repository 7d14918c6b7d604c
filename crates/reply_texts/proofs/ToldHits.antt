-- Hits are told with the scores that they have.
use Rattle.std.proofs.Common.{[], ◌∷◌, ◌≡◌, List, ap, ap₂, drop, map, refl, ℤ}
use Rattle.std.specs.Int.RustNames.{unsigned_abs}
use Rattle.definitions.proofs.Lists.{first_or}
use Rattle.definitions.specs.Scanning as scanning
use Rattle.reply_texts.specs.ToldHits.{told}
use Rattle.definitions.specs.Stored.{Named}
use Rattle.segment_search.specs.Hits.{scored}

-- hits that are these are told as these
pub told_scored : (hits : List (ℤ × Named)) (hs : List scanning.Hit) → hits ≡ map scored hs → map told hits ≡ hs
told_scored [] [] same = refl
told_scored [] (h ∷ hs) same = cc
told_scored (x ∷ xs) [] same = cc
told_scored (x ∷ xs) (h ∷ hs) same = ap₂ ◌∷◌ (ap (λ p. (unsigned_abs p.0, p.1)) (ap (first_or x) same)) (told_scored xs hs (ap (drop 1) same))
