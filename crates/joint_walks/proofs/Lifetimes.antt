-- Lifetimes of scorers that are made of others: what ends no later than those of the others ends no later than theirs.
use Rattle.std.proofs.Common.{[], List, ◌++◌, ℕ}
use contract.BorrowLft.{◌⊑◌, ⊑_meet, ⊑_static}

-- those of a scorer with a minimum, as the checker puts them together
abbrev pub of_with_minimum : List ℕ → List ℕ
of_with_minimum ls =
    let e1 : List ℕ = ls ++ [] in
    let e2 : List ℕ = e1 ++ [] in
    let e3 : List ℕ = e2 ++ [] in
    let e4 : List ℕ = e1 ++ e3 in
    let e5 : List ℕ = e4 ++ [] in
    let e6 : List ℕ = e4 ++ e5 in
    let e7 : List ℕ = e5 ++ [] in
    let e8 : List ℕ = e5 ++ e7 in
    let e9 : List ℕ = e6 ++ e8 in
    let e10 : List ℕ = ls ++ e5 in
    let e11 : List ℕ = e1 ++ e7 in
    let e12 : List ℕ = e10 ++ e11 in
    let e13 : List ℕ = e9 ++ [] in
    let e14 : List ℕ = e12 ++ e13 in
    let e15 : List ℕ = e12 ++ [] in
    let e16 : List ℕ = e13 ++ [] in
    let e17 : List ℕ = e15 ++ e16 in
    let e18 : List ℕ = e14 ++ e17 in
    let e19 : List ℕ = e18 ++ [] in
    let e20 : List ℕ = e19 ++ [] in
    let e21 : List ℕ = e20 ++ [] in
    let e22 : List ℕ = e19 ++ e21 in
    let e23 : List ℕ = e22 ++ [] in
    let e24 : List ℕ = e9 ++ e23 in
    let e25 : List ℕ = e23 ++ [] in
    let e26 : List ℕ = e13 ++ e25 in
    e24 ++ e26

pub with_minimum_ends : (own ls : List ℕ) → own ⊑ ls → own ⊑ of_with_minimum ls
with_minimum_ends own ls before =
    let static = ⊑_static own in
    let e1 = ⊑_meet own _ _ before static in
    let e2 = ⊑_meet own _ _ e1 static in
    let e3 = ⊑_meet own _ _ e2 static in
    let e4 = ⊑_meet own _ _ e1 e3 in
    let e5 = ⊑_meet own _ _ e4 static in
    let e6 = ⊑_meet own _ _ e4 e5 in
    let e7 = ⊑_meet own _ _ e5 static in
    let e8 = ⊑_meet own _ _ e5 e7 in
    let e9 = ⊑_meet own _ _ e6 e8 in
    let e10 = ⊑_meet own _ _ before e5 in
    let e11 = ⊑_meet own _ _ e1 e7 in
    let e12 = ⊑_meet own _ _ e10 e11 in
    let e13 = ⊑_meet own _ _ e9 static in
    let e14 = ⊑_meet own _ _ e12 e13 in
    let e15 = ⊑_meet own _ _ e12 static in
    let e16 = ⊑_meet own _ _ e13 static in
    let e17 = ⊑_meet own _ _ e15 e16 in
    let e18 = ⊑_meet own _ _ e14 e17 in
    let e19 = ⊑_meet own _ _ e18 static in
    let e20 = ⊑_meet own _ _ e19 static in
    let e21 = ⊑_meet own _ _ e20 static in
    let e22 = ⊑_meet own _ _ e19 e21 in
    let e23 = ⊑_meet own _ _ e22 static in
    let e24 = ⊑_meet own _ _ e9 e23 in
    let e25 = ⊑_meet own _ _ e23 static in
    let e26 = ⊑_meet own _ _ e13 e25 in
    ⊑_meet own _ _ e24 e26
