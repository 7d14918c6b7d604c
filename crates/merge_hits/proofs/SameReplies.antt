-- Replies that are one text.
use Rattle.std.proofs.Common.{[], ◌&&◌, ◌∷◌, ◌≡◌, Bool, Global, List, String, bytes_eq, false, map, refl, string_bytes, true, ℕ}
use Rattle.std.proofs.lemmas.Slice.Eq.{bytes_eq-Decides}
use Rattle.std.specs.List.{AllByRecursion, list_all}

-- those that pass the test are
pub each_equal : (text : List ℕ) (replies : List (String Global)) → list_all (λ reply. bytes_eq (string_bytes reply) text) replies ≡ true → AllByRecursion (λ reply. reply ≡ text) (map string_bytes replies)
each_equal text [] all = tt
each_equal text (reply ∷ replies) all = go (bytes_eq (string_bytes reply) text) refl all (each_equal text replies)
  where
    go : (first : Bool) → bytes_eq (string_bytes reply) text ≡ first → (first && list_all (λ r. bytes_eq (string_bytes r) text) replies) ≡ true → (list_all (λ r. bytes_eq (string_bytes r) text) replies ≡ true → AllByRecursion (λ r. r ≡ text) (map string_bytes replies)) → (string_bytes reply ≡ text) × AllByRecursion (λ r. r ≡ text) (map string_bytes replies)
    go true is rest others = ((bytes_eq-Decides (string_bytes reply) text).0 is, others rest)
    go false is rest others = cc
