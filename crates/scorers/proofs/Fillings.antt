-- Laws of unions that stand in a window.
use Rattle.std.proofs.Common.{[], ◌++◌, ◌+◌, ◌-◌, ◌<◌, ◌||◌, ◌∙◌, ◌∷◌, ◌≡◌, ◌≤◌, Bool, List, ap, arith, false, if◌then◌else◌, le-leb, length, map, min, nat_le, slice_index_or, subst, sum, sym, true, ℕ}
use Rattle.std.proofs.lemmas.Bool.{or_from}
use Rattle.std.proofs.lemmas.List.{append-nil, get_or_past}
use Rattle.definitions.specs.Postings.{terminated}
use Rattle.definitions.specs.Scoring.{max_score}
use Rattle.docsets.specs.Entries.{Entry, first, from}
use Rattle.definitions.proofs.Lists.{by_order}
use Rattle.docsets.specs.Members.{at_least, combining, enough, entries_at, least, scores_in, with_score}
use Rattle.docsets.proofs.MemberLaws.{entries_at-cut, entries_at-kept, least-cut, listed-end, listed-found, listed-same, listed-skip, listed-stands}
use Rattle.scorers.specs.Windows.{IsFilling, IsStanding, IsWindow, entry_ahead, held, is_ahead, score_ahead, windowed}

held-none : {C : Type 0} (flags : List Bool) (slots : List C) (fresh : C) (k : ℕ) → slice_index_or flags k false ≡ false → held flags slots fresh k ≡ fresh
held-none flags slots fresh k e = ap (λ b. if b then slice_index_or slots k fresh else fresh) e

not_enough : (ess : List (List Entry)) (d : ℕ) → entries_at d ess ≡ [] → enough 1 ess d ≡ false
not_enough ess d e = ap (λ xs. nat_le 1 (length xs)) e

-- the document on which it stands, and what follows
pub standing-first : {C : Type 0} (answer : C → List ℕ → ℕ) (total : C → ℕ) (flags : List Bool) (slots : List C) (fresh : C) (start : ℕ) (ess : List (List Entry)) (doc : ℕ) → IsStanding answer total flags slots fresh start ess doc → doc < terminated → windowed answer flags slots fresh start ess doc ≡ entry_ahead answer flags slots fresh start ess doc ∷ windowed answer flags slots fresh start ess (doc + 1)
standing-first answer total flags slots fresh start ess doc s l =
    listed-found (is_ahead flags start ess) (entry_ahead answer flags slots fresh start ess) doc l (listed-stands (is_ahead flags start ess) (entry_ahead answer flags slots fresh start ess) doc l s.at)

-- documents that are neither in the window nor in the lists can be passed
pub window-skip : {C : Type 0} (answer : C → List ℕ → ℕ) (flags : List Bool) (slots : List C) (fresh : C) (start : ℕ) (ess : List (List Entry)) (low high : ℕ) → ((d : ℕ) → d < least ess → entries_at d ess ≡ []) → low ≤ high → high ≤ terminated → high ≤ least ess → ((d : ℕ) → low ≤ d → d < high → slice_index_or flags (d - start) false ≡ false) → windowed answer flags slots fresh start ess high ≡ windowed answer flags slots fresh start ess low
window-skip answer flags slots fresh start ess low high none l top behind clear =
    sym (listed-skip (is_ahead flags start ess) (entry_ahead answer flags slots fresh start ess) low high l top (λ d b h. or_from (slice_index_or flags (d - start) false) (enough 1 ess d) (clear d b h) (not_enough ess d (none d (omega (arith, h, behind))))))

-- the first flag of the window is the next document
pub window-found : {C : Type 0} (answer : C → List ℕ → ℕ) (total : C → ℕ) (flags : List Bool) (slots : List C) (fresh : C) (start : ℕ) (ess : List (List Entry)) (low k doc : ℕ) → IsWindow total flags slots fresh start ess → ((d : ℕ) → d < least ess → entries_at d ess ≡ []) → start ≤ low → low ≤ terminated → low - start ≤ k → k < 4096 → slice_index_or flags k false ≡ true → ((i : ℕ) → low - start ≤ i → i < k → slice_index_or flags i false ≡ false) → doc ≡ min (start + k) terminated → (windowed answer flags slots fresh start ess doc ≡ windowed answer flags slots fresh start ess low) × IsStanding answer total flags slots fresh start ess doc
window-found answer total flags slots fresh start ess low k doc w none begun small from_low room flag first_flag is =
    let behind = w.behind in
    let same : windowed answer flags slots fresh start ess doc ≡ windowed answer flags slots fresh start ess low = window-skip answer flags slots fresh start ess low doc none (omega (arith, is, begun, small, from_low)) (omega (arith, is)) (omega (arith, is, behind, room)) (λ d l h. first_flag (d - start) (omega (arith, l, begun)) (omega (arith, h, is, l, begun))) in (
      same,
      record {
        window = w;
        at = by_order terminated doc (doc ≡ first (windowed answer flags slots fresh start ess doc))
            (λ i. (let none_left = ap first (listed-end (is_ahead flags start ess) (entry_ahead answer flags slots fresh start ess) doc i) in omega (arith, none_left, is, i)))
            (λ o. (let index : doc - start ≡ k = omega (arith, is, o) in
            let here : is_ahead flags start ess doc ≡ true = ap (λ b. b || enough 1 ess doc) (ap (λ i. slice_index_or flags i false) index ∙ flag) in
            sym (ap first (listed-found (is_ahead flags start ess) (entry_ahead answer flags slots fresh start ess) doc o here))));
        begun = omega (arith, is, begun, small);
        small = omega (arith, is);
        near = λ l. omega (arith, is, l, room);
      },
    )

-- ---- filling
flag_past : (flags : List Bool) (k : ℕ) → length flags ≡ 4096 → 4096 ≤ k → slice_index_or flags k false ≡ false
flag_past flags k e l = get_or_past flags k false (omega (arith, e, l))

filled-flag : {C : Type 0} (answer : C → List ℕ → ℕ) (total : C → ℕ) (fresh : C) (next high : ℕ) (cleared : List Bool) (slots : List C) (ess : List (List Entry)) (flags : List Bool) (slots_then : List C) (ess_then : List (List Entry)) → IsFilling answer total fresh next high cleared slots ess flags slots_then ess_then → (d : ℕ) → next ≤ d → d < terminated → is_ahead flags next ess_then d ≡ enough 1 ess d
filled-flag answer total fresh next high cleared slots ess flags slots_then ess_then f d l t =
    let is = f.high_is in
    let P : List (List Entry) → Type 0 = λ xs. is_ahead flags next xs d ≡ enough 1 ess d in
    subst P (sym f.rest) (by_order high d (is_ahead flags next (map (from high) ess) d ≡ enough 1 ess d)
    (λ i. ap (λ b. b || enough 1 (map (from high) ess) d) (flag_past flags (d - next) (f.moved.flags_fit ∙ f.flags_fit) (omega (arith, is, i, t))) ∙ ap (λ xs. nat_le 1 (length xs)) (entries_at-kept d high ess i))
    (λ o. ap (λ xs. slice_index_or flags (d - next) false || nat_le 1 (length xs)) (entries_at-cut d high ess o) ∙ (f.moved.stand d l o ∙ ap (λ b. b || enough 1 ess d) (f.clear (d - next)))))

filled-score : {C : Type 0} (answer : C → List ℕ → ℕ) (total : C → ℕ) (fresh : C) (next high : ℕ) (cleared : List Bool) (slots : List C) (ess : List (List Entry)) (flags : List Bool) (slots_then : List C) (ess_then : List (List Entry)) → IsFilling answer total fresh next high cleared slots ess flags slots_then ess_then → (d : ℕ) → next ≤ d → d < terminated → score_ahead answer flags slots_then fresh next ess_then d ≡ answer fresh (scores_in (entries_at d ess))
filled-score answer total fresh next high cleared slots ess flags slots_then ess_then f d l t =
    let is = f.high_is in
    let P : List (List Entry) → Type 0 = λ xs. score_ahead answer flags slots_then fresh next xs d ≡ answer fresh (scores_in (entries_at d ess)) in
    subst P (sym f.rest) (by_order high d (score_ahead answer flags slots_then fresh next (map (from high) ess) d ≡ answer fresh (scores_in (entries_at d ess)))
    (λ i. ap (λ c. answer c (scores_in (entries_at d (map (from high) ess)))) (held-none flags slots_then fresh (d - next) (flag_past flags (d - next) (f.moved.flags_fit ∙ f.flags_fit) (omega (arith, is, i, t)))) ∙ ap (λ xs. answer fresh (scores_in xs)) (entries_at-kept d high ess i))
    (λ o. ap (λ xs. answer (held flags slots_then fresh (d - next)) (scores_in xs)) (entries_at-cut d high ess o) ∙ (f.moved.answers d [] l o ∙ (ap (λ c. answer c (scores_in (entries_at d ess) ++ [])) (held-none cleared slots fresh (d - next) (f.clear (d - next))) ∙ ap (answer fresh) (append-nil (scores_in (entries_at d ess)))))))

filled-fits : {C : Type 0} (answer : C → List ℕ → ℕ) (total : C → ℕ) (fresh : C) (next high : ℕ) (cleared : List Bool) (slots : List C) (ess : List (List Entry)) (flags : List Bool) (slots_then : List C) (ess_then : List (List Entry)) → IsFilling answer total fresh next high cleared slots ess flags slots_then ess_then → (d : ℕ) → next ≤ d → d < terminated → total (held flags slots_then fresh (d - next)) + sum (scores_in (entries_at d ess_then)) ≤ max_score
filled-fits answer total fresh next high cleared slots ess flags slots_then ess_then f d l t =
    let is = f.high_is in
    let low = f.least_is in
    let bound = f.fits d (omega (arith, low, l)) t in
    let unused = f.unused in
    let P : List (List Entry) → Type 0 = λ xs. total (held flags slots_then fresh (d - next)) + sum (scores_in (entries_at d xs)) ≤ max_score in
    subst P (sym f.rest) (by_order high d (total (held flags slots_then fresh (d - next)) + sum (scores_in (entries_at d (map (from high) ess))) ≤ max_score)
    (λ i. (let here = ap total (held-none flags slots_then fresh (d - next) (flag_past flags (d - next) (f.moved.flags_fit ∙ f.flags_fit) (omega (arith, is, i, t)))) in
    let kept = ap (λ xs. sum (scores_in xs)) (entries_at-kept d high ess i) in omega (arith, here, kept, bound, unused)))
    (λ o. (let gone = ap (λ xs. sum (scores_in xs)) (entries_at-cut d high ess o) in
    let moved = f.moved.totals d l o in
    let before = ap total (held-none cleared slots fresh (d - next) (f.clear (d - next))) in omega (arith, gone, moved, before, bound, unused))))

-- it has the union, and stands on its first document
pub filled : {C : Type 0} (answer : C → List ℕ → ℕ) (total : C → ℕ) (fresh : C) (next high : ℕ) (cleared : List Bool) (slots : List C) (ess : List (List Entry)) (flags : List Bool) (slots_then : List C) (ess_then : List (List Entry)) → IsFilling answer total fresh next high cleared slots ess flags slots_then ess_then → (windowed answer flags slots_then fresh next ess_then next ≡ at_least 1 (combining (answer fresh)) ess) × IsStanding answer total flags slots_then fresh next ess_then next
filled answer total fresh next high cleared slots ess flags slots_then ess_then f =
    let is = f.high_is in
    let low = f.least_is in
    let below = f.below in
    let some = f.has_next in
    let same = listed-same (is_ahead flags next ess_then) (enough 1 ess) (entry_ahead answer flags slots_then fresh next ess_then) (λ d. combining (answer fresh) d (entries_at d ess)) next (λ d l t. filled-flag answer total fresh next high cleared slots ess flags slots_then ess_then f d l t) (λ d l t. ap (with_score d) (filled-score answer total fresh next high cleared slots ess flags slots_then ess_then f d l t)) in
    let skip = listed-skip (enough 1 ess) (λ d. combining (answer fresh) d (entries_at d ess)) 0 next (omega arith) (omega (arith, below)) (λ d l h. not_enough ess d (f.none d (omega (arith, h, low)))) in
    let flag : is_ahead flags next ess_then next ≡ true = filled-flag answer total fresh next high cleared slots ess flags slots_then ess_then f next (omega arith) below ∙ le-leb 1 (length (entries_at next ess)) (omega (arith, some)) in
    let cut = least-cut high ess (omega (arith, is)) in (
      same ∙ sym skip,
      record {
        window = record {
          flags_fit = f.moved.flags_fit ∙ f.flags_fit;
          slots_fit = f.moved.slots_fit ∙ f.slots_fit;
          behind = (let ahead = ap least f.rest in omega (arith, cut, ahead, is));
          unused = f.unused;
          fits = λ d l t. filled-fits answer total fresh next high cleared slots ess flags slots_then ess_then f d l t;
        };
        at = sym (ap first (listed-found (is_ahead flags next ess_then) (entry_ahead answer flags slots_then fresh next ess_then) next below flag));
        begun = omega arith;
        small = omega (arith, below);
        near = λ l. omega arith;
      },
    )

-- at the end there is nothing
pub ended : {C : Type 0} (answer : C → List ℕ → ℕ) (total : C → ℕ) (fresh : C) (flags : List Bool) (slots : List C) (ess : List (List Entry)) → length flags ≡ 4096 → length slots ≡ 4096 → total fresh ≡ 0 → terminated ≤ least ess → ((d : ℕ) → d < least ess → entries_at d ess ≡ []) → (windowed answer flags slots fresh terminated ess terminated ≡ at_least 1 (combining (answer fresh)) ess) × IsStanding answer total flags slots fresh terminated ess terminated
ended answer total fresh flags slots ess ff ss u l none =
    let here = listed-end (is_ahead flags terminated ess) (entry_ahead answer flags slots fresh terminated ess) terminated (omega arith) in
    let there = listed-skip (enough 1 ess) (λ d. combining (answer fresh) d (entries_at d ess)) 0 terminated (omega arith) (omega arith) (λ d b h. not_enough ess d (none d (omega (arith, h, l)))) ∙ listed-end (enough 1 ess) (λ d. combining (answer fresh) d (entries_at d ess)) terminated (omega arith) in (
      here ∙ sym there,
      record {
        window = record { flags_fit = ff; slots_fit = ss; behind = omega (arith, l); unused = u; fits = λ d b t. absurd (omega (arith, b, t)) };
        at = sym (ap first here);
        begun = omega arith;
        small = omega arith;
        near = λ b. absurd (omega (arith, b));
      },
    )

-- without flags the lists alone give what follows
pub window-empty : {C : Type 0} (answer : C → List ℕ → ℕ) (flags : List Bool) (slots : List C) (fresh : C) (start : ℕ) (ess : List (List Entry)) (low : ℕ) → ((d : ℕ) → d < least ess → entries_at d ess ≡ []) → low ≤ terminated → low ≤ least ess → ((d : ℕ) → low ≤ d → slice_index_or flags (d - start) false ≡ false) → windowed answer flags slots fresh start ess low ≡ at_least 1 (combining (answer fresh)) ess
window-empty answer flags slots fresh start ess low none small behind clear =
    listed-same (is_ahead flags start ess) (enough 1 ess) (entry_ahead answer flags slots fresh start ess) (λ d. combining (answer fresh) d (entries_at d ess)) low
    (λ d l t. ap (λ b. b || enough 1 ess d) (clear d l))
    (λ d l t. ap (λ c. with_score d (answer c (scores_in (entries_at d ess)))) (held-none flags slots fresh (d - start) (clear d l)))
    ∙ sym (listed-skip (enough 1 ess) (λ d. combining (answer fresh) d (entries_at d ess)) 0 low (omega arith) small (λ d l h. not_enough ess d (none d (omega (arith, h, behind)))))

-- lists that move past the window
pub window-moved : {C : Type 0} (total : C → ℕ) (flags : List Bool) (slots : List C) (fresh : C) (start t : ℕ) (ess moved : List (List Entry)) → IsWindow total flags slots fresh start ess → start + 4096 ≤ t → t ≤ terminated → moved ≡ map (from t) ess → IsWindow total flags slots fresh start moved
window-moved total flags slots fresh start t ess moved w l h is =
    let cut = least-cut t ess h in
    let same = ap least is in
    record {
      flags_fit = w.flags_fit;
      slots_fit = w.slots_fit;
      behind = omega (arith, cut, same, l);
      unused = w.unused;
      fits = λ d b e. (let bound = w.fits d b e in
          let here = ap (λ xs. sum (scores_in (entries_at d xs))) is in
          by_order t d (total (held flags slots fresh (d - start)) + sum (scores_in (entries_at d moved)) ≤ max_score)
          (λ i. (let kept = ap (λ xs. sum (scores_in xs)) (entries_at-kept d t ess i) in omega (arith, kept, here, bound)))
          (λ o. (let gone = ap (λ xs. sum (scores_in xs)) (entries_at-cut d t ess o) in omega (arith, gone, here, bound))));
    }

pub windowed-moved : {C : Type 0} (answer : C → List ℕ → ℕ) (flags : List Bool) (slots : List C) (fresh : C) (start t : ℕ) (ess moved : List (List Entry)) → moved ≡ map (from t) ess → windowed answer flags slots fresh start moved t ≡ windowed answer flags slots fresh start ess t
windowed-moved answer flags slots fresh start t ess moved is =
    let P : List (List Entry) → Type 0 = λ xs. windowed answer flags slots fresh start xs t ≡ windowed answer flags slots fresh start ess t in
    subst P (sym is) (listed-same (is_ahead flags start (map (from t) ess)) (is_ahead flags start ess) (entry_ahead answer flags slots fresh start (map (from t) ess)) (entry_ahead answer flags slots fresh start ess) t
    (λ d l h. ap (λ xs. slice_index_or flags (d - start) false || nat_le 1 (length xs)) (entries_at-kept d t ess l))
    (λ d l h. ap (λ xs. with_score d (answer (held flags slots fresh (d - start)) (scores_in xs))) (entries_at-kept d t ess l)))
