use Rattle.std.proofs.Common.{[], List, arith, inl, inr, refl, sym, ◌∙◌, ◌∷◌, ◌≡◌, ℕ}
use Rattle.layouts.specs.RecordFiles.{IsFile}
use Rattle.layouts.proofs.FilesOfRecords.{files_are_indexes, one_reading}
use Rattle.layouts.proofs.examples.record_files.files_are_of_one_of_two_lists.Goals as goal

pub returns-clause-first : goal.returns-clause-first
returns-clause-first c = inl (IsFile.record_then (7 ∷ []) [] _ (omega arith) (IsFile.ends 0 [] (λ e. omega arith)))

pub returns-clause-second : goal.returns-clause-second
returns-clause-second c = inr (IsFile.record_then (7 ∷ []) ([] ∷ []) _ (omega arith) (IsFile.record_then [] [] _ (omega arith) (IsFile.ends 0 [] (λ e. omega arith))))

-- a file of another body
another : (bodies : List (List ℕ)) (x : List ℕ) (more : List (List ℕ)) → bodies ≡ x ∷ more → x ≡ 7 ∷ [] → ¬ IsFile bodies (165 ∷ 1 ∷ 0 ∷ 0 ∷ 0 ∷ 0 ∷ 0 ∷ 0 ∷ 0 ∷ 8 ∷ 0 ∷ [])
another bodies x more is seven file =
    let file_8 : IsFile ((8 ∷ []) ∷ []) (165 ∷ 1 ∷ 0 ∷ 0 ∷ 0 ∷ 0 ∷ 0 ∷ 0 ∷ 0 ∷ 8 ∷ 0 ∷ []) = IsFile.record_then (8 ∷ []) [] _ (omega arith) (IsFile.ends 0 [] (λ e. omega arith)) in
    let e = first_body x (8 ∷ []) more [] (sym is ∙ one_reading bodies ((8 ∷ []) ∷ []) _ file file_8) in
    let byte = first_byte 7 8 [] [] (sym seven ∙ e) in omega (arith, byte)
  where
    first_body : (x y : List ℕ) (xs ys : List (List ℕ)) → x ∷ xs ≡ y ∷ ys → x ≡ y
    first_body x y xs ys e = cc

    first_byte : (x y : ℕ) (xs ys : List ℕ) → x ∷ xs ≡ y ∷ ys → x ≡ y
    first_byte x y xs ys e = cc

pub returns-clause-neither : goal.returns-clause-neither
returns-clause-neither c (inl file) = another _ (7 ∷ []) [] refl refl file
returns-clause-neither c (inr file) = another _ (7 ∷ []) ([] ∷ []) refl refl file

pub returns-clause-no_record : goal.returns-clause-no_record
returns-clause-no_record c (inl file) = files_are_indexes (7 ∷ []) [] _ file (inl (omega arith))
returns-clause-no_record c (inr file) = files_are_indexes (7 ∷ []) ([] ∷ []) _ file (inl (omega arith))
