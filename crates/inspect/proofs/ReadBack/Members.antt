-- Members of JSON with one more.
use Rattle.std.proofs.Common.{[], List, refl, ◌∷◌, ◌≡◌, ℕ}
use Rattle.std.specs.List.{AllByRecursion}
use Rattle.std.specs.Ordering.{match_ordering}
use Rattle.std.specs.declared.cmp.Ordering.{Ordering}
use Rattle.std.specs.declared.cmp.Ordering.TheVariants.{Equal, Greater, Less}
use Rattle.serde_json.specs.Data.{put}
use Rattle.serde_json.specs.Data as json
use Rattle.inspect.proofs.ReadBack.Given.{Ascend}
use Rattle.inspect.proofs.ReadBack.Keys.{before_after, before_all, order_of}
use Rattle.inspect.proofs.ReadBack.Texts.{ArePlainMembers, IsPlain, json_keys}

pub all_put : (P : List ℕ → Type 0) (k : List ℕ) (d : json.Data) (ms : json.Members) → P k → AllByRecursion P (json_keys ms) → AllByRecursion P (json_keys (put k d ms))
all_put P k d json.no_members here all = (here, tt)
all_put P k d (json.member l e ms) here all = go (order_of k l) (all_put P k d ms here all.1)
  where
    go : (o : Ordering) → AllByRecursion P (json_keys (put k d ms)) → AllByRecursion P (json_keys (match_ordering o (json.member k d (json.member l e ms)) (json.member l d ms) (json.member l e (put k d ms))))
    go Less later = (here, all)
    go Equal later = all
    go Greater later = (all.0, later)

all_behind : (k l : List ℕ) (ks : List (List ℕ)) → order_of k l ≡ Less → AllByRecursion (λ m. order_of l m ≡ Less) ks → AllByRecursion (λ m. order_of k m ≡ Less) ks
all_behind k l [] first all = tt
all_behind k l (m ∷ ks) first all = (before_all k l m first all.0, all_behind k l ks first all.1)

pub rises_put : (k : List ℕ) (d : json.Data) (ms : json.Members) → Ascend (json_keys ms) → Ascend (json_keys (put k d ms))
rises_put k d json.no_members rises = (tt, tt)
rises_put k d (json.member l e ms) rises = go (order_of k l) refl (rises_put k d ms rises.1)
  where
    go : (o : Ordering) → order_of k l ≡ o → Ascend (json_keys (put k d ms)) → Ascend (json_keys (match_ordering o (json.member k d (json.member l e ms)) (json.member l d ms) (json.member l e (put k d ms))))
    go Less is later = ((is, all_behind k l (json_keys ms) is rises.0), rises)
    go Equal is later = rises
    go Greater is later = (all_put (λ m. order_of l m ≡ Less) k d ms (before_after k l is) rises.0, later)

pub plain_put : (k : List ℕ) (d : json.Data) (ms : json.Members) → IsPlain d → ArePlainMembers ms → ArePlainMembers (put k d ms)
plain_put k d json.no_members one all = (one, tt)
plain_put k d (json.member l e ms) one all = go (order_of k l) (plain_put k d ms one all.1)
  where
    go : (o : Ordering) → ArePlainMembers (put k d ms) → ArePlainMembers (match_ordering o (json.member k d (json.member l e ms)) (json.member l d ms) (json.member l e (put k d ms)))
    go Less later = (one, all)
    go Equal later = (one, all.1)
    go Greater later = (all.0, later)
