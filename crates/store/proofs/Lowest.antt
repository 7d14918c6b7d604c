-- The lowest layer of a skip index: it is read where it was put.
use Rattle.std.proofs.Common.{ℕ, zero, suc, List, [], ◌∷◌, ◌++◌, ◌≡◌, ◌≤◌, ◌<◌, ◌+◌, ◌-◌, ◌^◌, ◌&&◌, Bool, true, false, Some, None, map, nat_eq, nat_le, nat_lt, refl, sym, ap, ap₂, ◌∙◌, subst, arith, append_assoc, append-nil, length, take, drop, get_or, flat_map, length-append, All}
use Rattle.std.proofs.lemmas.Bool.Decides.{nat_tests}
use Rattle.std.proofs.Common.{inl, inr}
use Rattle.std.proofs.lemmas.List.{length-drop, length-take, take-append-drop}
use Rattle.std.proofs.lemmas.List.Sums.{position_or_len_is}
use Rattle.std.proofs.Math.Seq.{drop-append_seam}
use Rattle.std.specs.List.{concat, position_or_len, slice_get}
use Rattle.definitions.specs.declared.fault.Fault.{Fault}
use Rattle.definitions.specs.declared.fault.Fault.TheVariants as faults
use Rattle.std.proofs.lemmas.List.{drop_all, get_or_default}
use Rattle.definitions.specs.Json.{only_if, ◌>>=◌}
use Rattle.definitions.specs.NumberCodes.{AreBytes, take_vint, vint_bytes}
use Rattle.common.proofs.TakenBack.{vint_back}
use Rattle.common.proofs.WordBytes.{back_bytes as bytes_right}
use Rattle.definitions.proofs.Lists.{both_true as both}
use Rattle.definitions.proofs.TokenTexts.{vint_some}
use Rattle.layouts.specs.Stores.{Adjoin, AreCheckpoints, HasDocument, IsSkipIndex, byte_end, doc_end, group_bytes, index_of, layer_bytes, max_docs, skip_index_bytes}
use Rattle.layouts.specs.declared.checkpoint.Checkpoint.{Checkpoint}
use Rattle.store.specs.SkipIndexes.{adjoins, follows, lowest_of, passes, take_last}
use Rattle.store.specs.TakenGroups.{IsDamage, IsGroup, take_group}
use Rattle.store.proofs.Layering.{layer_more, layers_lowest}
use Rattle.store.proofs.TakenGroups.{bytes_rise, docs_rise, group_back, group_put, group_some, same_found}
use Rattle.store.proofs.Writes.{concat_more as concat_last}

-- ---- the last length

abbrev spelled_lengths : List (List ℕ) → List ℕ
spelled_lengths ls = flat_map (λ layer. vint_bytes (length layer)) ls

last_more : (n last : ℕ) (bs : List ℕ) (m : ℕ) (more : List ℕ) → take_vint bs ≡ Some (m, more) → take_last (suc n) last bs ≡ take_last n m more
last_more n last bs m more e = ap (λ o. o >>= (λ p. take_last n p.0 p.1)) e

last_back : (ls : List (List ℕ)) (last : List ℕ) (z : ℕ) (rest : List ℕ) → length (concat (ls ++ last ∷ [])) < 2 ^ 64 → take_last (length (ls ++ last ∷ [])) z (spelled_lengths (ls ++ last ∷ []) ++ rest) ≡ Some (length last, rest)
last_back [] last z rest small =
    let long = length-append last [] in
    last_more 0 z ((vint_bytes (length last) ++ []) ++ rest) (length last) rest (ap (λ xs. take_vint (xs ++ rest)) (append-nil (vint_bytes (length last))) ∙ vint_back (length last) rest (omega arith))
last_back (l ∷ ls) last z rest small =
    let long = length-append l (concat (ls ++ last ∷ [])) in
    let others : List ℕ = spelled_lengths (ls ++ last ∷ []) in
    last_more (length (ls ++ last ∷ [])) z ((vint_bytes (length l) ++ others) ++ rest) (length l) (others ++ rest) (ap take_vint (append_assoc (vint_bytes (length l)) others rest) ∙ vint_back (length l) (others ++ rest) (omega arith))
    ∙ last_back ls last (length l) rest (omega arith)

many_lengths : (ls : List (List ℕ)) → length ls ≤ length (spelled_lengths ls)
many_lengths [] = omega arith
many_lengths (l ∷ ls) = omega (arith, many_lengths ls, vint_some (length l), length-append (vint_bytes (length l)) (spelled_lengths ls))

-- the last layer is read
index_back : (ls : List (List ℕ)) (last : List ℕ) → length (index_of (ls ++ last ∷ [])) < 2 ^ 64 → lowest_of (index_of (ls ++ last ∷ [])) ≡ Some last
index_back ls last small =
    let all : List (List ℕ) = ls ++ last ∷ [] in
    let n : ℕ = length all in
    let body : List ℕ = concat all in
    let lengths : List ℕ = spelled_lengths all in
    let long = length-append (vint_bytes n ++ lengths) body in
    let long2 = length-append (vint_bytes n) lengths in
    let many = many_lengths all in
    let first : take_vint (index_of all) ≡ Some (n, lengths ++ body) = ap take_vint (append_assoc (vint_bytes n) lengths body) ∙ vint_back n (lengths ++ body) (omega arith) in
    let second : take_last n 0 (lengths ++ body) ≡ Some (length last, body) = last_back ls last 0 body (omega arith) in
    let whole : length body ≡ length (concat ls) + length last = ap length (concat_last ls last) ∙ length-append (concat ls) last in
    let fits : nat_le (length last) (length body) ≡ true = grind (arith, nat_tests) in
    let at : length body - length last ≡ length (concat ls) = omega arith in
    ap (λ o. o >>= (λ count. take_last count.0 0 count.1 >>= (λ l. only_if (nat_le l.0 (length l.1)) (Some (drop (length l.1 - l.0) l.1))))) first
    ∙ ap (λ o. o >>= (λ l. only_if (nat_le l.0 (length l.1)) (Some (drop (length l.1 - l.0) l.1)))) second
    ∙ ap (λ b. only_if b (Some (drop (length body - length last) body))) fits
    ∙ ap (λ xs. Some xs) (ap₂ (λ k xs. drop k xs) at (concat_last ls last) ∙ drop-append_seam (concat ls) last)

map_last : (ls : List (List Checkpoint)) (cs : List Checkpoint) → map layer_bytes (ls ++ cs ∷ []) ≡ map layer_bytes ls ++ layer_bytes cs ∷ []
map_last [] cs = refl
map_last (l ∷ ls) cs = ap (λ xs. layer_bytes l ∷ xs) (map_last ls cs)

pub lowest_back : (cs : List Checkpoint) → length (skip_index_bytes cs) < 2 ^ 64 → lowest_of (skip_index_bytes cs) ≡ Some (layer_bytes cs)
lowest_back [] small =
    let first : take_vint (skip_index_bytes []) ≡ Some (0, []) = ap take_vint (append_assoc (vint_bytes 0) [] []) ∙ vint_back 0 [] (omega arith) in
    ap (λ o. o >>= (λ count. take_last count.0 0 count.1 >>= (λ l. only_if (nat_le l.0 (length l.1)) (Some (drop (length l.1 - l.0) l.1))))) first
lowest_back (c ∷ cs) small =
    let low = layers_lowest (c ∷ cs) (omega arith) in
    let is : skip_index_bytes (c ∷ cs) ≡ index_of (map layer_bytes low.0 ++ layer_bytes (c ∷ cs) ∷ []) = ap (λ ls. index_of (map layer_bytes ls)) low.1 ∙ ap index_of (map_last low.0 (c ∷ cs)) in
    ap lowest_of is ∙ index_back (map layer_bytes low.0) (layer_bytes (c ∷ cs)) (subst (λ xs. length xs < 2 ^ 64) is small)

-- ---- checkpoints in groups

-- how a run is cut in two
record CutRun (doc byte : ℕ) (cs : List Checkpoint) (k : ℕ) : Type 0 where
  first : Adjoin doc byte (take k cs)
  second : Adjoin (doc_end doc (take k cs)) (byte_end byte (take k cs)) (drop k cs)
  docs : doc_end (doc_end doc (take k cs)) (drop k cs) ≡ doc_end doc cs
  bytes : byte_end (byte_end byte (take k cs)) (drop k cs) ≡ byte_end byte cs

cut_run : (k : ℕ) (cs : List Checkpoint) (doc byte : ℕ) → Adjoin doc byte cs → CutRun doc byte cs k
cut_run zero cs doc byte run = record { first = tt; second = run; docs = refl; bytes = refl }
cut_run (suc k) [] doc byte run = record { first = tt; second = tt; docs = refl; bytes = refl }
cut_run (suc k) (c ∷ cs) doc byte run =
    let rest = cut_run k cs c.doc_range.end c.byte_range.end run.4 in
    record { first = (run.0, run.1, run.2, run.3, rest.first); second = rest.second; docs = rest.docs; bytes = rest.bytes }

doc_least : (cs : List Checkpoint) (doc : ℕ) → doc_end 0 cs ≤ doc_end doc cs
doc_least [] doc = omega arith
doc_least (c ∷ cs) doc = omega arith

byte_least : (cs : List Checkpoint) (byte : ℕ) → byte_end 0 cs ≤ byte_end byte cs
byte_least [] byte = omega arith
byte_least (c ∷ cs) byte = omega arith

-- where there are some, they end where they end
doc_same : (cs : List Checkpoint) (doc : ℕ) → 0 < length cs → doc_end doc cs ≡ doc_end 0 cs
doc_same [] doc some = absurd (omega arith)
doc_same (c ∷ cs) doc some = refl

byte_same : (cs : List Checkpoint) (byte : ℕ) → 0 < length cs → byte_end byte cs ≡ byte_end 0 cs
byte_same [] byte some = absurd (omega arith)
byte_same (c ∷ cs) byte some = refl

-- both parts of a group are groups
pub group_parts : (cs : List Checkpoint) (k : ℕ) → 0 < length cs → IsGroup cs → IsGroup (take k cs) × IsGroup (drop k cs)
group_parts cs k some group =
    let doc = group.run.0 in
    let byte = group.run.1 in
    let parts = cut_run k cs doc byte group.run.2 in
    let d = doc_same cs doc some in
    let b = byte_same cs byte some in
    let docs = group.docs in
    let bytes = group.bytes in
    let count = group.count in
    let p1 = parts.docs in
    let p2 = parts.bytes in
    let rise = docs_rise (drop k cs) (doc_end doc (take k cs)) (byte_end byte (take k cs)) parts.second in
    let climb = bytes_rise (drop k cs) (doc_end doc (take k cs)) (byte_end byte (take k cs)) parts.second in (
      record {
        run = (doc, byte, parts.first);
        count = omega (arith, length-take k cs);
        docs = omega (arith, doc_least (take k cs) doc);
        bytes = omega (arith, byte_least (take k cs) byte);
      },
      record {
        run = (doc_end doc (take k cs), byte_end byte (take k cs), parts.second);
        count = omega (arith, length-drop k cs);
        docs = omega (arith, doc_least (drop k cs) (doc_end doc (take k cs)));
        bytes = omega (arith, byte_least (drop k cs) (byte_end byte (take k cs)));
      },
    )

many_docs : (cs : List Checkpoint) (doc byte : ℕ) → Adjoin doc byte cs → All HasDocument cs → doc + length cs ≤ doc_end doc cs
many_docs [] doc byte run each = omega arith
many_docs (c ∷ cs) doc byte run each =
    let here : HasDocument c = each 0 c (omega arith) in
    let later = many_docs cs c.doc_range.end c.byte_range.end run.4 (λ k d below. each (suc k) d (omega arith)) in
    let start = run.0 in
    omega arith

-- the checkpoints of a skip index can be read in groups
pub all_in_groups : (cs : List Checkpoint) → AreCheckpoints cs → IsGroup cs
all_in_groups cs are =
    let many = many_docs cs 0 0 are.adjoin are.nonempty in
    let docs = are.docs in
    record { run = (0, 0, are.adjoin); count = omega arith; docs = omega arith; bytes = are.bytes }

-- ---- the loop over a layer's groups

-- these were read, and those that are left are what follows
pub record Reading (cs old out : List Checkpoint) (rest : List ℕ) : Type 0 where
  pub left : List Checkpoint
  pub kept : out ++ left ≡ old ++ cs
  pub spelled : rest ≡ layer_bytes left
  pub fits : IsGroup left

-- what is read of a layer
pub record ReadsLayer (bytes : List ℕ) (old out : List Checkpoint) (rest : List ℕ) : Type 0 where
  pub small : AreBytes rest
  pub each : (cs : List Checkpoint) → IsGroup cs → bytes ≡ layer_bytes cs → Reading cs old out rest

left_some : (left : List Checkpoint) (rest : List ℕ) → rest ≡ layer_bytes left → 0 < length rest → 0 < length left
left_some [] rest e some = absurd (omega (arith, ap length e))
left_some (c ∷ left) rest e some = omega arith

-- the group that stands first
first_group : (left : List Checkpoint) (rest : List ℕ) → rest ≡ layer_bytes left → IsGroup left → 0 < length rest → take_group rest ≡ Some (take 8 left, layer_bytes (drop 8 left))
first_group left rest e fits some =
    let lefts = left_some left rest e some in
    let parts = group_parts left 8 lefts fits in
    ap take_group (e ∙ layer_more left lefts) ∙ group_back (take 8 left) (layer_bytes (drop 8 left)) parts.0

pub reads_more : (bytes : List ℕ) (old out new : List Checkpoint) (rest after : List ℕ) → ReadsLayer bytes old out rest → 0 < length rest → (cs : List Checkpoint) × (take_group rest ≡ Some (cs, after)) × (new ≡ out ++ cs) → ReadsLayer bytes old new after
reads_more bytes old out new rest after reads some took =
    let g = took.0 in
    let put = group_put rest g after reads.small took.1 in
    record {
      small = bytes_right (group_bytes g) after (subst AreBytes put.1 reads.small);
      each = λ cs fits e.
          let r = reads.each cs fits e in
          let first = first_group r.left rest r.spelled r.fits some in
          let same = same_found g (take 8 r.left) after (layer_bytes (drop 8 r.left)) (sym took.1 ∙ first) in
          let lefts = left_some r.left rest r.spelled some in
          record {
            left = drop 8 r.left;
            kept = ap (λ xs. xs ++ drop 8 r.left) (took.2 ∙ ap (λ ds. out ++ ds) same.0) ∙ append_assoc out (take 8 r.left) (drop 8 r.left) ∙ ap (λ ds. out ++ ds) (take-append-drop 8 r.left) ∙ r.kept;
            spelled = same.1;
            fits = (group_parts r.left 8 lefts r.fits).1;
          };
    }

pub reads_damage : (bytes : List ℕ) (old out : List Checkpoint) (rest : List ℕ) (fault : Fault) → ReadsLayer bytes old out rest → 0 < length rest → IsDamage fault (take_group rest ≡ None) → IsDamage fault ((cs : List Checkpoint) → IsGroup cs → bytes ≡ layer_bytes cs → ⊥)
reads_damage bytes old out rest fault reads some (inl memory) = inl memory
reads_damage bytes old out rest fault reads some (inr damage) = inr (damage.0, λ cs fits e. let r = reads.each cs fits e in let first = first_group r.left rest r.spelled r.fits some in let bad : None ≡ Some (take 8 r.left, layer_bytes (drop 8 r.left)) = sym damage.1 ∙ first in cc)

pub reads_all : (bytes : List ℕ) (old out : List Checkpoint) (rest : List ℕ) → ReadsLayer bytes old out rest → length rest ≡ 0 → (cs : List Checkpoint) → IsGroup cs → bytes ≡ layer_bytes cs → out ≡ old ++ cs
reads_all bytes old out rest reads none cs fits e =
    let r = reads.each cs fits e in
    let nothing : r.left ≡ [] = empty r.left (omega (arith, ap length r.spelled)) in
    sym (append-nil out) ∙ ap (λ ds. out ++ ds) (sym nothing) ∙ r.kept
  where
    empty : (left : List Checkpoint) → length (layer_bytes left) ≡ 0 → left ≡ []
    empty [] z = refl
    empty (c ∷ left) z =
        let more = layer_more (c ∷ left) (omega arith) in
        absurd (omega (arith, ap length more, group_some (take 8 (c ∷ left)), length-append (group_bytes (take 8 (c ∷ left))) (layer_bytes (drop 8 (c ∷ left)))))

-- ---- the check of the checkpoints

all_four : (a b c d : Bool) → a && b && c && d ≡ true → (a ≡ true) × (b ≡ true) × (c ≡ true) × (d ≡ true)
all_four true true true true e = (refl, refl, refl, refl)
all_four true true true false e = cc
all_four true true false d e = cc
all_four true false c d e = cc
all_four false b c d e = cc

-- what passes
record Adjoins (doc byte : ℕ) (cs : List Checkpoint) : Type 0 where
  run : Adjoin doc byte cs
  each : All HasDocument cs
  docs : doc_end doc cs ≤ max_docs
  bytes : byte_end byte cs < 2 ^ 64

all_more : (c : Checkpoint) (cs : List Checkpoint) → HasDocument c → All HasDocument cs → All HasDocument (c ∷ cs)
all_more c cs here rest zero d below = here
all_more c cs here rest (suc k) d below = rest k d (omega arith)

adjoins_when : (cs : List Checkpoint) (doc byte : ℕ) → adjoins doc byte cs ≡ true → Adjoins doc byte cs
adjoins_when [] doc byte e =
    let parts = both (nat_le doc max_docs) (nat_lt byte (2 ^ 64)) e in
    let a = parts.0 in
    let b = parts.1 in
    record { run = tt; each = λ k d below. absurd (omega arith); docs = grind (arith, nat_tests); bytes = grind (arith, nat_tests) }
adjoins_when (c ∷ cs) doc byte e =
    let parts = both (follows doc byte c) (adjoins c.doc_range.end c.byte_range.end cs) e in
    let four = all_four (nat_eq c.doc_range.start doc) (nat_eq c.byte_range.start byte) (nat_lt doc c.doc_range.end) (nat_le byte c.byte_range.end) parts.0 in
    let f0 = four.0 in
    let f1 = four.1 in
    let f2 = four.2 in
    let f3 = four.3 in
    let start : c.doc_range.start ≡ doc = grind (arith, nat_tests) in
    let at : c.byte_range.start ≡ byte = grind (arith, nat_tests) in
    let some : doc < c.doc_range.end = grind (arith, nat_tests) in
    let order : byte ≤ c.byte_range.end = grind (arith, nat_tests) in
    let rest = adjoins_when cs c.doc_range.end c.byte_range.end parts.1 in
    record { run = (start, at, omega arith, order, rest.run); each = all_more c cs (omega arith) rest.each; docs = rest.docs; bytes = rest.bytes }

adjoins_only : (cs : List Checkpoint) (doc byte : ℕ) → Adjoins doc byte cs → adjoins doc byte cs ≡ true
adjoins_only [] doc byte are =
    let docs = are.docs in
    let bytes = are.bytes in
    let a : nat_le doc max_docs ≡ true = grind (arith, nat_tests) in
    let b : nat_lt byte (2 ^ 64) ≡ true = grind (arith, nat_tests) in
    ap₂ (λ x y. x && y) a b
adjoins_only (c ∷ cs) doc byte are =
    let run = are.run in
    let r0 = run.0 in
    let r1 = run.1 in
    let r3 = run.3 in
    let here : HasDocument c = are.each 0 c (omega arith) in
    let a : nat_eq c.doc_range.start doc ≡ true = grind (arith, nat_tests) in
    let b : nat_eq c.byte_range.start byte ≡ true = grind (arith, nat_tests) in
    let d : nat_lt doc c.doc_range.end ≡ true = (let h : doc < c.doc_range.end = omega arith in grind (arith, nat_tests)) in
    let e : nat_le byte c.byte_range.end ≡ true = grind (arith, nat_tests) in
    let rest = adjoins_only cs c.doc_range.end c.byte_range.end (record { run = run.4; each = λ k x below. are.each (suc k) x (omega arith); docs = are.docs; bytes = are.bytes }) in
    ap₂ (λ x y. x && y) (ap₂ (λ x y. x && y) (ap₂ (λ x y. x && y) (ap₂ (λ x y. x && y) a b) d) e) rest

pub checked_when : (cs : List Checkpoint) → adjoins 0 0 cs ≡ true → AreCheckpoints cs
checked_when cs e = (let are = adjoins_when cs 0 0 e in record { adjoin = are.run; nonempty = are.each; docs = are.docs; bytes = are.bytes })

pub checked_only : (cs : List Checkpoint) → AreCheckpoints cs → adjoins 0 0 cs ≡ true
checked_only cs are = adjoins_only cs 0 0 (record { run = are.adjoin; each = are.nonempty; docs = are.docs; bytes = are.bytes })

-- ---- opening

-- a skip index has checkpoints that are read out of it
pub opened : (cs got : List Checkpoint) (bytes lowest : List ℕ) → IsSkipIndex cs bytes → length bytes < 2 ^ 64 → lowest_of bytes ≡ Some lowest → ((ds : List Checkpoint) → IsGroup ds → lowest ≡ layer_bytes ds → got ≡ ds) → got ≡ cs
opened cs got bytes lowest index few low reads =
    let back = lowest_back cs (subst (λ xs. length xs < 2 ^ 64) index.1 few) in
    let e : Some lowest ≡ Some (layer_bytes cs) = sym low ∙ ap lowest_of index.1 ∙ back in
    let same : lowest ≡ layer_bytes cs = cc in
    reads cs (all_in_groups cs index.0) same

-- a skip index has a lowest layer that can be read
pub lowest_there : (cs : List Checkpoint) (bytes : List ℕ) → IsSkipIndex cs bytes → length bytes < 2 ^ 64 → (lowest_of bytes ≡ Some (layer_bytes cs)) × IsGroup cs
lowest_there cs bytes index few = (ap lowest_of index.1 ∙ lowest_back cs (subst (λ xs. length xs < 2 ^ 64) index.1 few), all_in_groups cs index.0)

-- ---- seeking

-- checkpoints end in order
ends_rise : (cs : List Checkpoint) (doc byte : ℕ) (d : Checkpoint) → Adjoin doc byte cs → (i j : ℕ) → i ≤ j → j < length cs → (get_or cs i d).doc_range.end ≤ (get_or cs j d).doc_range.end
ends_rise [] doc byte d run i j order below = absurd (omega arith)
ends_rise (c ∷ cs) doc byte d run zero zero order below = omega arith
ends_rise (c ∷ cs) doc byte d run (suc i) zero order below = absurd (omega arith)
ends_rise (c ∷ cs) doc byte d run zero (suc j) order below = first cs c.doc_range.end c.byte_range.end run.4 j (omega arith)
  where
    first : (cs : List Checkpoint) (doc byte : ℕ) → Adjoin doc byte cs → (j : ℕ) → j < length cs → doc ≤ (get_or cs j d).doc_range.end
    first [] doc byte run j below = absurd (omega arith)
    first (e ∷ cs) doc byte run zero below = run.2
    first (e ∷ cs) doc byte run (suc j) below = (let later = first cs e.doc_range.end e.byte_range.end run.4 j (omega arith) in let here = run.2 in omega arith)
ends_rise (c ∷ cs) doc byte d run (suc i) (suc j) order below = ends_rise cs c.doc_range.end c.byte_range.end d run.4 i j (omega arith) (omega arith)

-- those before don't pass, and those from on do
pub record Halves (cs : List Checkpoint) (target low high : ℕ) : Type 0 where
  pub order : low ≤ high
  pub within : high ≤ length cs
  pub before : (k : ℕ) (d : Checkpoint) → k < low → passes target (get_or cs k d) ≡ false
  pub after : (k : ℕ) (d : Checkpoint) → high ≤ k → k < length cs → passes target (get_or cs k d) ≡ true

pub halves_up : (cs : List Checkpoint) (target low high middle : ℕ) → AreCheckpoints cs → Halves cs target low high → low ≤ middle → middle < high → (x : Checkpoint) → (get_or cs middle x).doc_range.end ≤ target → Halves cs target (middle + 1) high
halves_up cs target low high middle are h order inside x passed =
    let within = h.within in
    record {
      order = omega arith;
      within = within;
      before = λ k d below.
          let rise = ends_rise cs 0 0 d are.adjoin k middle (omega arith) (omega arith) in
          let at : (get_or cs middle d).doc_range.end ≤ target = subst (λ (y : Checkpoint). y.doc_range.end ≤ target) (get_or_default cs middle x d (omega arith)) passed in
          let small : (get_or cs k d).doc_range.end ≤ target = omega arith in
          let e : nat_lt target (get_or cs k d).doc_range.end ≡ false = grind (arith, nat_tests) in
          e;
      after = h.after;
    }

pub halves_down : (cs : List Checkpoint) (target low high middle : ℕ) → AreCheckpoints cs → Halves cs target low high → low ≤ middle → middle < high → (x : Checkpoint) → target < (get_or cs middle x).doc_range.end → Halves cs target low middle
halves_down cs target low high middle are h order inside x past =
    let within = h.within in
    record {
      order = order;
      within = omega arith;
      before = h.before;
      after = λ k d from below.
          let rise = ends_rise cs 0 0 d are.adjoin middle k from below in
          let at : target < (get_or cs middle d).doc_range.end = subst (λ (y : Checkpoint). target < y.doc_range.end) (get_or_default cs middle x d (omega arith)) past in
          let great : target < (get_or cs k d).doc_range.end = omega arith in
          let e : nat_lt target (get_or cs k d).doc_range.end ≡ true = grind (arith, nat_tests) in
          e;
    }

pub halves_done : (cs : List Checkpoint) (target low high : ℕ) → Halves cs target low high → high ≤ low → low ≡ position_or_len (passes target) cs
halves_done [] target low high h met = (let w = h.within in let o = h.order in let e : low ≡ 0 = omega arith in e)
halves_done (c ∷ cs) target low high h met =
    let order = h.order in
    let within = h.within in
    sym (position_or_len_is (passes target) (c ∷ cs) low c (omega arith) (λ k below. h.before k c below) (λ below. h.after low c (omega arith) below))

-- ---- the goals of the code

pub last_step : (left last number : ℕ) (rest after : List ℕ) → 0 < left → take_vint rest ≡ Some (number, after) → take_last left last rest ≡ take_last (left - 1) number after
last_step zero last number rest after some e = absurd (omega arith)
last_step (suc n) last number rest after some e = (let same : n ≡ suc n - 1 = omega arith in last_more n last rest number after e ∙ ap (λ m. take_last m number after) same)

pub adjoins_end : (doc byte index : ℕ) (cs : List Checkpoint) → byte < 2 ^ 64 → length cs ≤ index → adjoins doc byte (drop index cs) ≡ nat_le doc max_docs
adjoins_end doc byte index cs small past =
    let t : nat_lt byte (2 ^ 64) ≡ true = grind (arith, nat_tests) in
    ap (adjoins doc byte) (drop_all index cs past) ∙ ap (λ b. nat_le doc max_docs && b) t ∙ and_true (nat_le doc max_docs)
  where
    and_true : (b : Bool) → b && true ≡ b
    and_true true = refl
    and_true false = refl

pub no_lowest : (bytes : List ℕ) (fault : Fault) → length bytes < 2 ^ 64 → (fault ≡ faults.Damaged None) × (lowest_of bytes ≡ None) → IsDamage fault ((cs : List Checkpoint) → IsSkipIndex cs bytes → ⊥)
no_lowest bytes fault few damage = inr (damage.0, λ cs index. let there = lowest_there cs bytes index few in let bad : None ≡ Some (layer_bytes cs) = sym damage.1 ∙ there.0 in cc)

pub no_layer : (bytes low : List ℕ) (fault : Fault) → length bytes < 2 ^ 64 → lowest_of bytes ≡ Some low → IsDamage fault ((cs : List Checkpoint) → IsGroup cs → low ≡ layer_bytes cs → ⊥) → IsDamage fault ((cs : List Checkpoint) → IsSkipIndex cs bytes → ⊥)
no_layer bytes low fault few at (inl memory) = inl memory
no_layer bytes low fault few at (inr damage) = inr (damage.0, λ cs index. let there = lowest_there cs bytes index few in let same : Some low ≡ Some (layer_bytes cs) = sym at ∙ there.0 in let e : low ≡ layer_bytes cs = cc in damage.1 cs there.1 e)

pub not_adjoining : (got : List Checkpoint) (bytes low : List ℕ) → length bytes < 2 ^ 64 → lowest_of bytes ≡ Some low → ((ds : List Checkpoint) → IsGroup ds → low ≡ layer_bytes ds → got ≡ ds) → adjoins 0 0 got ≡ false → (cs : List Checkpoint) → IsSkipIndex cs bytes → ⊥
not_adjoining got bytes low few at reads apart cs index =
    let same = opened cs got bytes low index few at reads in
    let yes = checked_only cs index.0 in
    let bad : true ≡ false = sym yes ∙ ap (adjoins 0 0) (sym same) ∙ apart in
    cc

pub not_spelled : (got : List Checkpoint) (bytes low spelled : List ℕ) → length bytes < 2 ^ 64 → lowest_of bytes ≡ Some low → ((ds : List Checkpoint) → IsGroup ds → low ≡ layer_bytes ds → got ≡ ds) → spelled ≡ skip_index_bytes got → (spelled ≡ bytes → ⊥) → (cs : List Checkpoint) → IsSkipIndex cs bytes → ⊥
not_spelled got bytes low spelled few at reads put other cs index =
    let same = opened cs got bytes low index few at reads in
    other (put ∙ ap skip_index_bytes same ∙ sym index.1)

pub slice_get_at : (cs : List Checkpoint) (i : ℕ) (c : Checkpoint) → i < length cs → c ≡ get_or cs i c → Some c ≡ slice_get cs i
slice_get_at [] i c below e = absurd (omega arith)
slice_get_at (d ∷ cs) zero c below e = ap (λ x. Some x) e
slice_get_at (d ∷ cs) (suc i) c below e = slice_get_at cs i c (omega arith) e
