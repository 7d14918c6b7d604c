use Rattle.std.proofs.Common.{[], Bool, IsTrue, List, arith, inl, inr, length, refl, subst, sym, true≢false, ◌∷◌, ◌≡◌, ◌≤◌, ℕ}
use Rattle.std.specs.Prelude.{bytes_eq}
use Rattle.layouts.specs.RecordFiles.{IsFile, IsFresh}
use Rattle.layouts.proofs.FilesOfRecords.{one_reading}
use Rattle.layouts.proofs.examples.record_files.new_files_have_one_body.Goals as goal

-- the body that is taken
abbrev taken : List ℕ → Bool
taken body = bytes_eq body (7 ∷ [])

-- eleven bytes after an open gate are no new file, where no file of one body that is taken has them
no_fresh : (bytes : List ℕ) → 9 ≤ length bytes → ((body : List ℕ) → IsTrue (taken body) → ¬ IsFile (body ∷ []) (165 ∷ bytes)) → ¬ IsFresh taken (165 ∷ bytes)
no_fresh bytes many none (inl (inl few)) = omega arith
no_fresh bytes many none (inl (inr closed)) = closed refl
no_fresh bytes many none (inr (body, is, file)) = none body is file

-- one body is another
one_body : (x y : List ℕ) → x ∷ [] ≡ y ∷ [] → x ≡ y
one_body x y e = cc

pub returns-clause-nothing : goal.returns-clause-nothing
returns-clause-nothing c = inl (inl (omega arith))

pub returns-clause-one : goal.returns-clause-one
returns-clause-one c = inr (7 ∷ [], refl, IsFile.record_then (7 ∷ []) [] _ (omega arith) (IsFile.ends 0 [] (λ e. omega arith)))

pub returns-clause-another_body : goal.returns-clause-another_body
returns-clause-another_body c = no_fresh _ (omega arith) (λ body is file.
    let file_8 : IsFile ((8 ∷ []) ∷ []) (165 ∷ 1 ∷ 0 ∷ 0 ∷ 0 ∷ 0 ∷ 0 ∷ 0 ∷ 0 ∷ 8 ∷ 0 ∷ []) = IsFile.record_then (8 ∷ []) [] _ (omega arith) (IsFile.ends 0 [] (λ e. omega arith)) in
    let e = one_body body (8 ∷ []) (one_reading (body ∷ []) ((8 ∷ []) ∷ []) _ file file_8) in
    let bad : IsTrue (taken (8 ∷ [])) = subst (λ b. IsTrue (taken b)) e is in true≢false (sym bad))

-- one body is not two
one_is_not_two : (x y z : List ℕ) → x ∷ [] ≡ y ∷ z ∷ [] → ⊥
one_is_not_two x y z e = cc

pub returns-clause-two_bodies : goal.returns-clause-two_bodies
returns-clause-two_bodies c = no_fresh _ (omega arith) (λ body is file.
    let both : IsFile ((7 ∷ []) ∷ [] ∷ []) (165 ∷ 1 ∷ 0 ∷ 0 ∷ 0 ∷ 0 ∷ 0 ∷ 0 ∷ 0 ∷ 7 ∷ 165 ∷ 0 ∷ 0 ∷ 0 ∷ 0 ∷ 0 ∷ 0 ∷ 0 ∷ 0 ∷ 0 ∷ []) = IsFile.record_then (7 ∷ []) ([] ∷ []) _ (omega arith) (IsFile.record_then [] [] _ (omega arith) (IsFile.ends 0 [] (λ e. omega arith))) in
    one_is_not_two body (7 ∷ []) [] (one_reading (body ∷ []) ((7 ∷ []) ∷ [] ∷ []) _ file both))
