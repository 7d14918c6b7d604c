-- Reading a store: its blocks are those at its checkpoints.
use Rattle.std.proofs.Common.{ℕ, zero, suc, List, [], ◌∷◌, ◌++◌, ◌≡◌, ◌≤◌, ◌<◌, ◌+◌, ◌-◌, ◌^◌, Bool, true, false, cond, not, Option, Some, None, nat_lt, refl, sym, ap, ap₂, ◌∙◌, subst, arith, length, take, drop, length-append, All, inl, inr}
use Rattle.std.proofs.lemmas.Bool.Decides.{nat_tests}
use Rattle.std.proofs.lemmas.List.{drop-drop, length-drop, length-take, length-take-le, take_all}
use Rattle.std.proofs.Math.Seq.{take-add}
use Rattle.std.specs.List.{position_or_len, slice_get, slice_range}
use Rattle.layouts.specs.Stores.{Adjoin, AreBlocks, AreCheckpoints, Block, HasDocument, IsSkipIndex, byte_end, checkpoints, data_of, doc_end, footer_bytes, skip_index_bytes, store_bytes}
use Rattle.layouts.specs.declared.checkpoint.Checkpoint.{Checkpoint}
use Rattle.store.specs.Footers.{take_footer}
use Rattle.store.specs.Slots.{IsFile, IsNoStore, block_and_index}
use Rattle.store.specs.SkipIndexes.{passes}
use Rattle.store.specs.Writing.{block_in, blocks_in, count_of}
use Rattle.definitions.specs.declared.fault.Fault.{Fault}
use Rattle.layouts.specs.Stores.{Hold, IsStore, group_bytes, layer_bytes}
use Rattle.std.proofs.lemmas.List.{take-append-drop}
use Rattle.store.specs.TakenGroups.{IsDamage, IsGroup, take_group}
use Rattle.store.proofs.Cuts.{append_same}
use Rattle.store.proofs.FooterBytes.{footer_back}
use Rattle.store.proofs.Layering.{layer_more}
use Rattle.store.proofs.Lowest.{group_parts, lowest_there}
use Rattle.store.proofs.SlotLaws.{count_is}
use Rattle.store.proofs.TakenGroups.{bytes_rise, docs_rise, group_back, group_some, same_checkpoint, same_found}
use Rattle.store.proofs.Writes.{blocks_back_whole, stands_at}

-- ---- the blocks at checkpoints

length_range : (bytes : List ℕ) (a b : ℕ) → a ≤ b → b ≤ length bytes → length (slice_range bytes a b) ≡ b - a
length_range bytes a b order fits = omega (arith, length-take (b - a) (drop a bytes), length-drop a bytes)

-- they have these checkpoints
pub checks_back : (cs : List Checkpoint) (bytes : List ℕ) (doc byte : ℕ) → Adjoin doc byte cs → byte_end byte cs ≤ length bytes → checkpoints doc byte (blocks_in bytes cs) ≡ cs
checks_back [] bytes doc byte run fits = refl
checks_back (c ∷ cs) bytes doc byte run fits =
    let d0 = run.0 in
    let b0 = run.1 in
    let d1 = run.2 in
    let b1 = run.3 in
    let rise = bytes_rise cs c.doc_range.end c.byte_range.end run.4 in
    let long = length_range bytes c.byte_range.start c.byte_range.end (omega arith) (omega arith) in
    let n : ℕ = c.doc_range.end - c.doc_range.start in
    let m : ℕ = length (slice_range bytes c.byte_range.start c.byte_range.end) in
    let docs : c.doc_range.end ≡ doc + n = omega arith in
    let bytes_end : c.byte_range.end ≡ byte + m = omega arith in
    let first : c ≡ stands_at doc (doc + n) byte (byte + m) = same_checkpoint c doc n byte m d0 docs b0 bytes_end in
    ap₂ (λ x xs. x ∷ xs) (sym first)
    (ap₂ (λ x y. checkpoints x y (blocks_in bytes cs)) (sym docs) (sym bytes_end) ∙ checks_back cs bytes c.doc_range.end c.byte_range.end run.4 fits)

-- they have the bytes that they cover
data_back : (cs : List Checkpoint) (bytes : List ℕ) (doc byte : ℕ) → Adjoin doc byte cs → data_of (blocks_in bytes cs) ≡ slice_range bytes byte (byte_end byte cs)
data_back [] bytes doc byte run = (let none : byte - byte ≡ 0 = omega arith in ap (λ n. take n (drop byte bytes)) (sym none))
data_back (c ∷ cs) bytes doc byte run =
    let b0 = run.1 in
    let b1 = run.3 in
    let end : ℕ = byte_end c.byte_range.end cs in
    let rise = bytes_rise cs c.doc_range.end c.byte_range.end run.4 in
    let rest = data_back cs bytes c.doc_range.end c.byte_range.end run.4 in
    let n : ℕ = c.byte_range.end - byte in
    let e1 : c.byte_range.end ≡ byte + n = omega arith in
    let e2 : end - byte ≡ n + (end - c.byte_range.end) = omega arith in
    ap₂ (λ x xs. slice_range bytes x c.byte_range.end ++ xs) b0 (rest ∙ ap (λ k. take (end - c.byte_range.end) k) (ap (λ k. drop k bytes) e1 ∙ sym (drop-drop n byte bytes)))
    ∙ sym (take-add n (end - c.byte_range.end) (drop byte bytes))
    ∙ ap (λ k. take k (drop byte bytes)) (sym e2)

pub whole_back : (cs : List Checkpoint) (bytes : List ℕ) → Adjoin 0 0 cs → byte_end 0 cs ≡ length bytes → data_of (blocks_in bytes cs) ≡ bytes
whole_back cs bytes run covers = data_back cs bytes 0 0 run ∙ take_all (byte_end 0 cs - 0) bytes (omega arith)

-- and as many documents
pub counts_back : (cs : List Checkpoint) (bytes : List ℕ) (doc byte : ℕ) → Adjoin doc byte cs → doc + count_of (blocks_in bytes cs) ≡ doc_end doc cs
counts_back [] bytes doc byte run = omega arith
counts_back (c ∷ cs) bytes doc byte run =
    let d0 = run.0 in
    let d1 = run.2 in
    let rest = counts_back cs bytes c.doc_range.end c.byte_range.end run.4 in
    omega arith

some_back : (cs : List Checkpoint) (bytes : List ℕ) → All HasDocument cs → All (λ (b : Block). 0 < b.count) (blocks_in bytes cs)
some_back [] bytes each k d below = absurd (omega arith)
some_back (c ∷ cs) bytes each zero d below = (let here : HasDocument c = each 0 c (omega arith) in omega arith)
some_back (c ∷ cs) bytes each (suc k) d below = some_back cs bytes (λ j x under. each (suc j) x (omega arith)) k d (omega arith)

pub blocks_at : (cs : List Checkpoint) (bytes : List ℕ) → AreCheckpoints cs → AreBlocks (blocks_in bytes cs)
blocks_at cs bytes are =
    let docs = are.docs in
    let many = counts_back cs bytes 0 0 are.adjoin in
    record { nonempty = some_back cs bytes are.nonempty; docs = omega (arith, count_is (blocks_in bytes cs)) }

-- ---- the checkpoints of blocks

pub ends_of : (bs : List Block) (doc byte : ℕ) → (doc_end doc (checkpoints doc byte bs) ≡ doc + count_of bs) × (byte_end byte (checkpoints doc byte bs) ≡ byte + length (data_of bs))
ends_of [] doc byte = (omega arith, omega arith)
ends_of (b ∷ bs) doc byte =
    let rest = ends_of bs (doc + b.count) (byte + length b.bytes) in
    let r0 = rest.0 in
    let r1 = rest.1 in
    (omega arith, omega (arith, length-append b.bytes (data_of bs)))

pub adjoin_of : (bs : List Block) (doc byte : ℕ) → Adjoin doc byte (checkpoints doc byte bs)
adjoin_of [] doc byte = tt
adjoin_of (b ∷ bs) doc byte = (refl, refl, omega arith, omega arith, adjoin_of bs (doc + b.count) (byte + length b.bytes))

each_of : (bs : List Block) (doc byte : ℕ) → All (λ (b : Block). 0 < b.count) bs → All HasDocument (checkpoints doc byte bs)
each_of [] doc byte some k d below = absurd (omega arith)
each_of (b ∷ bs) doc byte some zero d below = (let here = some 0 b (omega arith) in omega arith)
each_of (b ∷ bs) doc byte some (suc k) d below = each_of bs (doc + b.count) (byte + length b.bytes) (λ j e under. some (suc j) e (omega arith)) k d (omega arith)

pub checks_of : (bs : List Block) → AreBlocks bs → length (data_of bs) < 2 ^ 64 → AreCheckpoints (checkpoints 0 0 bs)
checks_of bs are small =
    let ends = ends_of bs 0 0 in
    let e0 = ends.0 in
    let e1 = ends.1 in
    let docs = are.docs in
    record { adjoin = adjoin_of bs 0 0; nonempty = each_of bs 0 0 are.nonempty; docs = omega (arith, count_is bs); bytes = omega arith }

-- ---- a file of a store

-- a file that ends in a footer, and is a store of blocks
pub record Same (bs : List Block) (body : List ℕ) (at : ℕ) : Type 0 where
  pub offset : at ≡ length (data_of bs)
  pub before : body ≡ data_of bs ++ skip_index_bytes (checkpoints 0 0 bs)

pub store_is : (bs : List Block) (file body : List ℕ) (at : ℕ) → file ≡ store_bytes bs → file ≡ body ++ footer_bytes at → at < 2 ^ 64 → length file < 2 ^ 64 → Same bs body at
store_is bs file body at is e small few =
    let front : List ℕ = data_of bs ++ skip_index_bytes (checkpoints 0 0 bs) in
    let end : List ℕ = footer_bytes (length (data_of bs)) in
    let both : body ++ footer_bytes at ≡ front ++ end = sym e ∙ is in
    let long : length body ≡ length front = omega (arith, ap length both, length-append body (footer_bytes at), length-append front end) in
    let parts = append_same body (footer_bytes at) front end both long in
    let size : length (data_of bs) < 2 ^ 64 = omega (arith, ap length is, length-append front end, length-append (data_of bs) (skip_index_bytes (checkpoints 0 0 bs))) in
    let read : Some (at, []) ≡ Some (length (data_of bs), []) = sym (footer_back at [] small) ∙ ap (λ xs. take_footer (xs ++ [])) parts.1 ∙ footer_back (length (data_of bs)) [] size in
    let offset : at ≡ length (data_of bs) = ap (λ (o : Option (ℕ × List ℕ)). first o) read in
    record { offset = offset; before = parts.0 }
  where
    first : Option (ℕ × List ℕ) → ℕ
    first None = 0
    first (Some p) = p.0

-- ---- where a document stands

pub record At (cs : List Checkpoint) (bytes : List ℕ) (doc0 byte0 doc : ℕ) (c : Checkpoint) : Type 0 where
  pub start : c.doc_range.start ≤ doc
  pub end : doc < c.doc_range.end
  pub located : block_and_index (blocks_in bytes cs) (doc - doc0) ≡ Some (block_in bytes c, doc - c.doc_range.start)
  pub order : c.byte_range.start ≤ c.byte_range.end
  pub within : c.byte_range.end ≤ byte_end byte0 cs
  pub docs : c.doc_range.end ≤ doc_end doc0 cs

abbrev get_first : Checkpoint → List Checkpoint → ℕ → Bool → Option Checkpoint
get_first x cs doc b = slice_get (x ∷ cs) (cond (not b) (1 + position_or_len (passes doc) cs) 0)

-- past the first
get_later : (x : Checkpoint) (cs : List Checkpoint) (doc : ℕ) (o : Option Checkpoint) → nat_lt doc x.doc_range.end ≡ false → slice_get (x ∷ cs) (position_or_len (passes doc) (x ∷ cs)) ≡ o → slice_get cs (position_or_len (passes doc) cs) ≡ o
get_later x cs doc o e got =
    let next : suc (position_or_len (passes doc) cs) ≡ 1 + position_or_len (passes doc) cs = omega arith in
    ap (slice_get (x ∷ cs)) next ∙ ap (get_first x cs doc) (sym e) ∙ got

pub at_some : (cs : List Checkpoint) (bytes : List ℕ) (doc0 byte0 doc : ℕ) (c : Checkpoint) → Adjoin doc0 byte0 cs → doc0 ≤ doc → slice_get cs (position_or_len (passes doc) cs) ≡ Some c → At cs bytes doc0 byte0 doc c
at_some [] bytes doc0 byte0 doc c run from got = cc
at_some (x ∷ cs) bytes doc0 byte0 doc c run from got = go (λ past later. at_some cs bytes x.doc_range.end x.byte_range.end doc c run.4 past later) (nat_lt doc x.doc_range.end) refl
  where
    go : (x.doc_range.end ≤ doc → slice_get cs (position_or_len (passes doc) cs) ≡ Some c → At cs bytes x.doc_range.end x.byte_range.end doc c) → (b : Bool) → nat_lt doc x.doc_range.end ≡ b → At (x ∷ cs) bytes doc0 byte0 doc c
    go next true e =
        let here : Some x ≡ Some c = ap (get_first x cs doc) (sym e) ∙ got in
        let same : x ≡ c = cc in
        let below : doc < x.doc_range.end = grind (arith, nat_tests) in
        let d0 = run.0 in
        let d1 = run.2 in
        let b0 = run.1 in
        let b1 = run.3 in
        let rise = bytes_rise cs x.doc_range.end x.byte_range.end run.4 in
        let first : nat_lt (doc - doc0) (x.doc_range.end - x.doc_range.start) ≡ true = grind (arith, nat_tests) in
        let at : doc - doc0 ≡ doc - x.doc_range.start = omega arith in
        subst (At (x ∷ cs) bytes doc0 byte0 doc) same (record {
          start = omega arith;
          end = below;
          located = ap (λ b. cond b (Some (block_in bytes x, doc - doc0)) (block_and_index (blocks_in bytes cs) (doc - doc0 - (x.doc_range.end - x.doc_range.start)))) first ∙ ap (λ n. Some (block_in bytes x, n)) at;
          order = omega arith;
          within = rise;
          docs = docs_rise cs x.doc_range.end x.byte_range.end run.4;
        })
    go next false e =
        let past : x.doc_range.end ≤ doc = grind (arith, nat_tests) in
        let rest = next past (get_later x cs doc (Some c) e got) in
        let d0 = run.0 in
        let d1 = run.2 in
        let first : nat_lt (doc - doc0) (x.doc_range.end - x.doc_range.start) ≡ false = grind (arith, nat_tests) in
        let at : doc - doc0 - (x.doc_range.end - x.doc_range.start) ≡ doc - x.doc_range.end = omega arith in
        record {
          start = rest.start;
          end = rest.end;
          located = ap (λ b. cond b (Some (block_in bytes x, doc - doc0)) (block_and_index (blocks_in bytes cs) (doc - doc0 - (x.doc_range.end - x.doc_range.start)))) first ∙ ap (block_and_index (blocks_in bytes cs)) at ∙ rest.located;
          order = rest.order;
          within = rest.within;
          docs = rest.docs;
        }

pub at_none : (cs : List Checkpoint) (doc0 byte0 doc : ℕ) → Adjoin doc0 byte0 cs → doc0 ≤ doc → slice_get cs (position_or_len (passes doc) cs) ≡ None → doc_end doc0 cs ≤ doc
at_none [] doc0 byte0 doc run from got = from
at_none (x ∷ cs) doc0 byte0 doc run from got = go (λ past later. at_none cs x.doc_range.end x.byte_range.end doc run.4 past later) (nat_lt doc x.doc_range.end) refl
  where
    go : (x.doc_range.end ≤ doc → slice_get cs (position_or_len (passes doc) cs) ≡ None → doc_end x.doc_range.end cs ≤ doc) → (b : Bool) → nat_lt doc x.doc_range.end ≡ b → doc_end doc0 (x ∷ cs) ≤ doc
    go next true e = (let here : Some x ≡ None = ap (get_first x cs doc) (sym e) ∙ got in cc)
    go next false e = (let past : x.doc_range.end ≤ doc = grind (arith, nat_tests) in next past (get_later x cs doc None e got))

-- ---- the last checkpoint

pub last_ends : (cs : List Checkpoint) (c : Checkpoint) (doc byte : ℕ) → slice_get cs (length cs - 1) ≡ Some c → (doc_end doc cs ≡ c.doc_range.end) × (byte_end byte cs ≡ c.byte_range.end)
last_ends [] c doc byte got = cc
last_ends (x ∷ []) c doc byte got =
    let at : length (x ∷ []) - 1 ≡ 0 = omega arith in
    let is : Some x ≡ Some c = sym (ap (slice_get (x ∷ [])) at) ∙ got in
    let same : x ≡ c = cc in
    (ap (λ (y : Checkpoint). y.doc_range.end) same, ap (λ (y : Checkpoint). y.byte_range.end) same)
last_ends (x ∷ y ∷ cs) c doc byte got =
    let at : length (x ∷ y ∷ cs) - 1 ≡ suc (length (y ∷ cs) - 1) = omega arith in
    last_ends (y ∷ cs) c x.doc_range.end x.byte_range.end (sym (ap (slice_get (x ∷ y ∷ cs)) at) ∙ got)

-- ---- a skip index is of one list of checkpoints

layer_once : (n : ℕ) (cs ds : List Checkpoint) → length cs ≤ n → IsGroup cs → IsGroup ds → layer_bytes cs ≡ layer_bytes ds → cs ≡ ds
layer_once n [] [] few a b e = refl
layer_once n [] (d ∷ ds) few a b e =
    absurd (omega (arith, ap length e, ap length (layer_more (d ∷ ds) (omega arith)), group_some (take 8 (d ∷ ds)), length-append (group_bytes (take 8 (d ∷ ds))) (layer_bytes (drop 8 (d ∷ ds)))))
layer_once n (c ∷ cs) [] few a b e =
    absurd (omega (arith, ap length e, ap length (layer_more (c ∷ cs) (omega arith)), group_some (take 8 (c ∷ cs)), length-append (group_bytes (take 8 (c ∷ cs))) (layer_bytes (drop 8 (c ∷ cs)))))
layer_once zero (c ∷ cs) (d ∷ ds) few a b e = absurd (omega arith)
layer_once (suc n) (c ∷ cs) (d ∷ ds) few a b e =
    let all : List Checkpoint = c ∷ cs in
    let every : List Checkpoint = d ∷ ds in
    let one = group_parts all 8 (omega arith) a in
    let two = group_parts every 8 (omega arith) b in
    let first : take_group (layer_bytes all) ≡ Some (take 8 all, layer_bytes (drop 8 all)) = ap take_group (layer_more all (omega arith)) ∙ group_back (take 8 all) (layer_bytes (drop 8 all)) one.0 in
    let second : take_group (layer_bytes every) ≡ Some (take 8 every, layer_bytes (drop 8 every)) = ap take_group (layer_more every (omega arith)) ∙ group_back (take 8 every) (layer_bytes (drop 8 every)) two.0 in
    let same = same_found (take 8 all) (take 8 every) (layer_bytes (drop 8 all)) (layer_bytes (drop 8 every)) (sym first ∙ ap take_group e ∙ second) in
    let fewer : length (drop 8 all) ≤ n = omega (arith, length-drop 8 all) in
    sym (take-append-drop 8 all) ∙ ap₂ (λ x y. x ++ y) same.0 (layer_once n (drop 8 all) (drop 8 every) fewer one.1 two.1 same.1) ∙ take-append-drop 8 every

pub index_once : (cs ds : List Checkpoint) (bytes : List ℕ) → length bytes < 2 ^ 64 → IsSkipIndex cs bytes → IsSkipIndex ds bytes → cs ≡ ds
index_once cs ds bytes few a b =
    let one = lowest_there cs bytes a few in
    let two = lowest_there ds bytes b few in
    let both : Some (layer_bytes cs) ≡ Some (layer_bytes ds) = sym one.0 ∙ two.0 in
    let same : layer_bytes cs ≡ layer_bytes ds = cc in
    layer_once (length cs) cs ds (omega arith) one.1 two.1 same

-- ---- what is no store

-- a skip index that starts past the end
pub no_start : (file body : List ℕ) (at : ℕ) → file ≡ body ++ footer_bytes at → at < 2 ^ 64 → length file < 2 ^ 64 → length body < at → IsNoStore file
no_start file body at e small few past bs are is =
    let same = store_is bs file body at is e small few in
    let offset = same.offset in
    omega (arith, ap length same.before, length-append (data_of bs) (skip_index_bytes (checkpoints 0 0 bs)))

-- the bytes where it must stand
index_is : (bs : List Block) (file body front index : List ℕ) (at : ℕ) → AreBlocks bs → file ≡ store_bytes bs → file ≡ body ++ footer_bytes at → at < 2 ^ 64 → length file < 2 ^ 64 → body ≡ front ++ index → length front ≡ at → IsSkipIndex (checkpoints 0 0 bs) index × (byte_end 0 (checkpoints 0 0 bs) ≡ length front)
index_is bs file body front index at are is e small few parts long =
    let same = store_is bs file body at is e small few in
    let offset = same.offset in
    let apart = append_same front index (data_of bs) (skip_index_bytes (checkpoints 0 0 bs)) (sym parts ∙ same.before) (long ∙ offset) in
    let ends = (ends_of bs 0 0).1 in
    ((checks_of bs are (omega arith), apart.1), omega arith)

pub no_index : (file body front index : List ℕ) (at : ℕ) (fault : Fault) → file ≡ body ++ footer_bytes at → at < 2 ^ 64 → length file < 2 ^ 64 → body ≡ front ++ index → length front ≡ at → IsDamage fault ((cs : List Checkpoint) → IsSkipIndex cs index → ⊥) → IsDamage fault (IsNoStore file)
no_index file body front index at fault e small few parts long (inl memory) = inl memory
no_index file body front index at fault e small few parts long (inr damage) = inr (damage.0, λ bs are is. damage.1 (checkpoints 0 0 bs) (index_is bs file body front index at are is e small few parts long).0)

pub no_end : (file body front index : List ℕ) (at : ℕ) (cs : List Checkpoint) (end : ℕ) → file ≡ body ++ footer_bytes at → at < 2 ^ 64 → length file < 2 ^ 64 → body ≡ front ++ index → length front ≡ at → IsSkipIndex cs index → end ≡ byte_end 0 cs → (end ≡ length front → ⊥) → IsNoStore file
no_end file body front index at cs end e small few parts long read is_end other bs are is =
    let made = index_is bs file body front index at are is e small few parts long in
    let less : length index < 2 ^ 64 = omega (arith, ap length e, ap length parts, length-append body (footer_bytes at), length-append front index) in
    other (is_end ∙ ap (byte_end 0) (index_once cs (checkpoints 0 0 bs) index less read made.0) ∙ made.1)

-- ---- what is one

pub is_store : (file whole : List ℕ) (cs : List Checkpoint) (at : ℕ) → IsFile at cs file → whole ≡ take at file → AreBlocks (blocks_in whole cs) × (file ≡ store_bytes (blocks_in whole cs))
is_store file whole cs at f cut =
    let within = f.within in
    let covers = f.covers in
    let long : length whole ≡ at = ap length cut ∙ length-take-le at file within in
    let bytes : data_of (blocks_in whole cs) ≡ whole = whole_back cs whole f.checks.adjoin (covers ∙ sym long) in
    let checks : checkpoints 0 0 (blocks_in whole cs) ≡ cs = checks_back cs whole 0 0 f.checks.adjoin (omega arith) in (
      blocks_at cs whole f.checks,
      f.bytes_are ∙ ap₂ (λ x y. x ++ skip_index_bytes y ++ footer_bytes at) (sym cut ∙ sym bytes) (sym checks)
          ∙ ap (λ n. data_of (blocks_in whole cs) ++ skip_index_bytes (checkpoints 0 0 (blocks_in whole cs)) ++ footer_bytes n) (sym long ∙ ap length (sym bytes)),
    )

-- a file is a store of one list of blocks
pub store_once : (xs ys : List Block) → AreBlocks xs → AreBlocks ys → store_bytes xs ≡ store_bytes ys → length (store_bytes xs) < 2 ^ 64 → xs ≡ ys
store_once xs ys one two e few =
    let front : List ℕ = data_of xs in
    let index : List ℕ = skip_index_bytes (checkpoints 0 0 xs) in
    let long = length-append front index in
    let all = length-append (front ++ index) (footer_bytes (length front)) in
    let small : length front < 2 ^ 64 = omega arith in
    let same = store_is ys (store_bytes xs) (front ++ index) (length front) e refl small few in
    let apart = append_same front index (data_of ys) (skip_index_bytes (checkpoints 0 0 ys)) same.before same.offset in
    let less : length (data_of ys) < 2 ^ 64 = (let offset = same.offset in omega arith) in
    let fits : length index < 2 ^ 64 = omega arith in
    let checks = index_once (checkpoints 0 0 xs) (checkpoints 0 0 ys) index fits (checks_of xs one small, refl) (checks_of ys two less, apart.1) in
    sym (blocks_back_whole xs) ∙ ap₂ blocks_in apart.0 checks ∙ blocks_back_whole ys

-- what the file of a store holds
pub holds_same : (file : List ℕ) (bs : List Block) (slots : List (List ℕ)) → AreBlocks bs → file ≡ store_bytes bs → length file < 2 ^ 64 → IsStore slots file → Hold bs slots
holds_same file bs slots are is few store =
    let same : store.0 ≡ bs = store_once store.0 bs store.1 are (sym store.3 ∙ is) (subst (λ xs. length xs < 2 ^ 64) store.3 few) in
    subst (λ x. Hold x slots) same store.2
