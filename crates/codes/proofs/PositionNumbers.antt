-- The positions of documents, by their numbers.
use Rattle.std.proofs.Common.{[], List, ap, ap₂, arith, drop, length, map, refl, subst, suc, sym, take, ◌-◌, ◌≡◌, ◌≤◌, ◌∙◌, ◌∷◌, ℕ}
use Rattle.std.proofs.Math.Seq.{drop-append_seam, take-append_seam}
use Rattle.std.specs.List.{AllByRecursion}
use Rattle.definitions.specs.Scoring.{DontFall}
use Rattle.layouts.specs.Positions.{differences, position_numbers}

-- each is at least the one before
abbrev RiseFrom : ℕ → List ℕ → Type 0
RiseFrom before [] = Unit {0}
RiseFrom before (p ∷ ps) = (before ≤ p) × RiseFrom p ps

rise : (before : ℕ) (ps : List ℕ) → DontFall (before ∷ ps) → RiseFrom before ps
rise before [] rising = tt
rise before (p ∷ ps) rising = (rising.0, rise p ps rising.1)

rise_from_0 : (ps : List ℕ) → DontFall ps → RiseFrom 0 ps
rise_from_0 [] rising = tt
rise_from_0 (p ∷ ps) rising = (omega arith, rise p ps rising)

same_positions : (before : ℕ) (ps qs : List ℕ) → RiseFrom before ps → RiseFrom before qs → differences before ps ≡ differences before qs → ps ≡ qs
same_positions before [] [] rise_p rise_q same = refl
same_positions before [] (q ∷ qs) rise_p rise_q same = cc
same_positions before (p ∷ ps) [] rise_p rise_q same = cc
same_positions before (p ∷ ps) (q ∷ qs) rise_p rise_q same =
    let step : p - before ≡ q - before = cc in
    let above_p = rise_p.0 in
    let above_q = rise_q.0 in
    let first : p ≡ q = omega arith in
    let others : differences p ps ≡ differences q qs = cc in
    let later : ps ≡ qs = same_positions p ps qs rise_p.1 (subst (λ n. RiseFrom n qs) (sym first) rise_q.1) (others ∙ ap (λ n. differences n qs) (sym first)) in
    ap₂ (λ n ns. n ∷ ns) first later

pub length-differences : (before : ℕ) (ps : List ℕ) → length (differences before ps) ≡ length ps
length-differences before [] = refl
length-differences before (p ∷ ps) = ap suc (length-differences p ps)

pub same_documents : (a b : List (List ℕ)) → map length a ≡ map length b → AllByRecursion DontFall a → AllByRecursion DontFall b → position_numbers a ≡ position_numbers b → a ≡ b
same_documents [] [] counts rise_a rise_b same = refl
same_documents [] (q ∷ b) counts rise_a rise_b same = cc
same_documents (p ∷ a) [] counts rise_a rise_b same = cc
same_documents (p ∷ a) (q ∷ b) counts rise_a rise_b same =
    let count : length p ≡ length q = cc in
    let more : map length a ≡ map length b = cc in
    let long : length (differences 0 p) ≡ length (differences 0 q) = length-differences 0 p ∙ count ∙ sym (length-differences 0 q) in
    let first : differences 0 p ≡ differences 0 q =
    sym (take-append_seam (differences 0 p) (position_numbers a))
    ∙ ap₂ take long same
    ∙ take-append_seam (differences 0 q) (position_numbers b) in
    let others : position_numbers a ≡ position_numbers b =
    sym (drop-append_seam (differences 0 p) (position_numbers a))
    ∙ ap₂ drop long same
    ∙ drop-append_seam (differences 0 q) (position_numbers b) in
    ap₂ (λ d ds. d ∷ ds) (same_positions 0 p q (rise_from_0 p rise_a.0) (rise_from_0 q rise_b.0) first) (same_documents a b more rise_a.1 rise_b.1 others)
