-- Room for the positions that several cursors have in one document.
use Rattle.std.proofs.Common.{◌≡◌, ◌≤◌, List, None, Option, Some, ap, arith, is_some, map, subst, sym, vec_capacity, ℕ}
use Rattle.docsets.specs.Entries.{Entry, Rising, from, most_positions}
use Rattle.docsets.specs.Members.{at_least}
use Rattle.scorers.specs.Uniting.{most_sum, uniting}
use Rattle.scorers.proofs.UnitingLaws.{most-united, most-untold, most_sum-cut}
use Rattle.scorers.specs.declared.united_positions.PositionRoom.{PositionRoom}
use Rattle.scorers.specs.UnitedRoom.{HasRoom}

-- and there is for what remains
pub room-on : (room : Option PositionRoom) (ess moved : List (List Entry)) (t : ℕ) → HasRoom room ess → moved ≡ map (from t) ess → HasRoom room moved
room-on None ess moved t has is = tt
room-on (Some room) ess moved t has is =
    let same = ap most_sum is in
    let less = most_sum-cut t ess in
    let one = has.0 in
    let all = has.1 in
    (omega (arith, same, less, one), omega (arith, same, less, all))

-- a union has no more positions than there is room for
pub room-bounds : {X : Type 0} (entries : X → List Entry) → ((x : X) → Rising 0 (entries x)) → (xs : List X) (rooms : Option PositionRoom) (room : PositionRoom) → rooms ≡ Some room → HasRoom rooms (map entries xs) → most_positions (at_least 1 (uniting (is_some rooms)) (map entries xs)) ≤ vec_capacity room.all
room-bounds entries rising xs rooms room is has =
    let fits = (subst (λ r. HasRoom r (map entries xs)) is has).1 in
    let most = most-united entries rising (is_some rooms) xs in
    omega (arith, fits, most)

-- and none where none are told
pub no_room-bounds : (rooms : Option PositionRoom) (ess : List (List Entry)) → rooms ≡ None → most_positions (at_least 1 (uniting (is_some rooms)) ess) ≤ 0
no_room-bounds rooms ess is = subst (λ r. most_positions (at_least 1 (uniting (is_some r)) ess) ≤ 0) (sym is) (most-untold ess)
