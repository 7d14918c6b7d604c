-- The fields of a writer: what they stand for, as documents are added and blocks closed.
use Rattle.std.proofs.Common.{ℕ, zero, suc, List, [], ◌∷◌, ◌++◌, ◌≡◌, ◌≤◌, ◌<◌, ◌+◌, ◌-◌, ◌^◌, Bool, true, false, refl, sym, ap, ap₂, ◌∙◌, subst, arith, append_assoc, append-nil, length, take, drop, flat_map, length-append, All, get_or}
use Rattle.std.proofs.Math.Seq.{drop-append_seam, get_or-append_seam, take-append_seam}
use Rattle.std.specs.List.{concat, slice_range}
use Rattle.definitions.specs.NumberCodes.{u32_bytes}
use Rattle.layouts.specs.Stores.{Block, block_bytes, checkpoints, data_of, max_docs, starts}
use Rattle.layouts.specs.declared.checkpoint.Checkpoint.{Checkpoint}
use Rattle.std.proofs.Common.{◌||◌, cond, nat_le, nat_lt}
use Rattle.std.proofs.lemmas.Bool.Decides.{nat_tests}
use Rattle.store.specs.Writing.{AreWritten, Stands, Written, blocks_in, closed, count_of, cut, docs_of, passes_limit, stored, written}
use Rattle.store.proofs.Cuts.{length_starts}

-- ---- one more at the end

pub concat_more : (ds : List (List ℕ)) (doc : List ℕ) → concat (ds ++ doc ∷ []) ≡ concat ds ++ doc
concat_more [] doc = append-nil doc
concat_more (d ∷ ds) doc = ap (λ xs. d ++ xs) (concat_more ds doc) ∙ sym (append_assoc d (concat ds) doc)

starts_more : (ds : List (List ℕ)) (at : ℕ) (doc : List ℕ) → starts at (ds ++ doc ∷ []) ≡ starts at ds ++ (at + length (concat ds)) ∷ []
starts_more [] at doc = (let e : at ≡ at + 0 = omega arith in ap (λ n. n ∷ []) e)
starts_more (d ∷ ds) at doc =
    let e : at + length d + length (concat ds) ≡ at + length (d ++ concat ds) = omega (arith, length-append d (concat ds)) in
    ap (λ ss. at ∷ ss) (starts_more ds (at + length d) doc ∙ ap (λ n. starts (at + length d) ds ++ n ∷ []) e)

pub count_more : (bs : List Block) (b : Block) → count_of (bs ++ b ∷ []) ≡ count_of bs + b.count
count_more [] b = omega arith
count_more (c ∷ bs) b = omega (arith, count_more bs b)

data_more : (bs : List Block) (b : Block) → data_of (bs ++ b ∷ []) ≡ data_of bs ++ b.bytes
data_more [] b = append-nil b.bytes
data_more (c ∷ bs) b = ap (λ xs. c.bytes ++ xs) (data_more bs b) ∙ sym (append_assoc c.bytes (data_of bs) b.bytes)

-- where a block stands
abbrev pub stands_at : ℕ → ℕ → ℕ → ℕ → Checkpoint
stands_at doc doc_end byte byte_end = record { doc_range = record { start = doc; end = doc_end }; byte_range = record { start = byte; end = byte_end } }

checks_more : (bs : List Block) (b : Block) (doc byte : ℕ) → checkpoints doc byte (bs ++ b ∷ []) ≡ checkpoints doc byte bs ++ stands_at (doc + count_of bs) (doc + count_of bs + b.count) (byte + length (data_of bs)) (byte + length (data_of bs) + length b.bytes) ∷ []
checks_more [] b doc byte =
    let d : doc ≡ doc + 0 = omega arith in
    let e : byte ≡ byte + 0 = omega arith in
    ap₂ (λ m n. stands_at m (m + b.count) n (n + length b.bytes) ∷ []) d e
checks_more (c ∷ bs) b doc byte =
    let d : doc + c.count + count_of bs ≡ doc + count_of (c ∷ bs) = omega arith in
    let e : byte + length c.bytes + length (data_of bs) ≡ byte + length (c.bytes ++ data_of bs) = omega (arith, length-append c.bytes (data_of bs)) in
    ap (λ cs. stands_at doc (doc + c.count) byte (byte + length c.bytes) ∷ cs)
    (checks_more bs b (doc + c.count) (byte + length c.bytes)
    ∙ ap₂ (λ m n. checkpoints (doc + c.count) (byte + length c.bytes) bs ++ stands_at m (m + b.count) n (n + length b.bytes) ∷ []) d e)

-- ---- the steps

pub stands_added : {out out' : List ℕ} {cs cs' : List Checkpoint} {ss ss' : List ℕ} {doc byte : ℕ} {bs : List Block} {ds : List (List ℕ)} (text : List ℕ) (start : ℕ) → Stands out cs ss doc byte bs ds → out' ≡ out ++ text → cs' ≡ cs → ss' ≡ ss ++ start ∷ [] → start ≡ length out - byte → Stands out' cs' ss' doc byte bs (ds ++ text ∷ [])
stands_added {out = out} {byte = byte} {bs = bs} {ds = ds} text start st o c s at =
    let b = st.byte in
    let long : length out ≡ length (data_of bs) + length (concat ds) = ap length st.out_is ∙ length-append (data_of bs) (concat ds) in
    let e : start ≡ 0 + length (concat ds) = omega arith in
    record {
      out_is = o ∙ ap (λ xs. xs ++ text) st.out_is ∙ append_assoc (data_of bs) (concat ds) text ∙ ap (λ xs. data_of bs ++ xs) (sym (concat_more ds text));
      checks = c ∙ st.checks;
      starts_are = s ∙ ap₂ (λ xs n. xs ++ n ∷ []) st.starts_are e ∙ sym (starts_more ds 0 text);
      doc = st.doc;
      byte = st.byte;
    }

-- likewise where room was made first
pub stands_pushed : {out out' : List ℕ} {cs cs' : List Checkpoint} {ss mid ss' : List ℕ} {doc byte : ℕ} {bs : List Block} {ds : List (List ℕ)} (text : List ℕ) (start : ℕ) → Stands out cs ss doc byte bs ds → out' ≡ out ++ text → cs' ≡ cs → ss' ≡ mid ++ start ∷ [] → mid ≡ ss → start ≡ length out - byte → Stands out' cs' ss' doc byte bs (ds ++ text ∷ [])
stands_pushed text start st o c s m at = stands_added text start st o c (s ∙ ap (λ xs. xs ++ start ∷ []) m) at

-- the last pending document as the fields have it
pub record Last (out ss : List ℕ) (byte : ℕ) (bs : List Block) (ds : List (List ℕ)) (text : List ℕ) : Type 0 where
  pub at : length ss ≡ suc (length (starts 0 ds))
  pub starts_before : take (length (starts 0 ds)) ss ≡ starts 0 ds
  pub start : byte + get_or ss (length (starts 0 ds)) 0 ≡ length (data_of bs ++ concat ds)
  pub whole : out ≡ (data_of bs ++ concat ds) ++ text

pub last_of : {out : List ℕ} {cs : List Checkpoint} {ss : List ℕ} {doc byte : ℕ} {bs : List Block} (ds : List (List ℕ)) (text : List ℕ) → Stands out cs ss doc byte bs (ds ++ text ∷ []) → Last out ss byte bs ds text
last_of {ss = ss} {byte = byte} {bs = bs} ds text st =
    let before : List ℕ = starts 0 ds in
    let e : ss ≡ before ++ (0 + length (concat ds)) ∷ [] = st.starts_are ∙ starts_more ds 0 text in
    let b = st.byte in
    let start : get_or ss (length before) 0 ≡ 0 + length (concat ds) = ap (λ xs. get_or xs (length before) 0) e ∙ get_or-append_seam before (0 + length (concat ds)) [] 0 in
    record {
      at = omega (arith, ap length e, length-append before ((0 + length (concat ds)) ∷ []));
      starts_before = ap (take (length before)) e ∙ take-append_seam before ((0 + length (concat ds)) ∷ []);
      start = omega (arith, length-append (data_of bs) (concat ds));
      whole = st.out_is ∙ ap (λ xs. data_of bs ++ xs) (concat_more ds text) ∙ sym (append_assoc (data_of bs) (concat ds) text);
    }

-- the last pending document is taken away
pub stands_removed : {out out' : List ℕ} {cs cs' : List Checkpoint} {ss ss' : List ℕ} {doc byte : ℕ} {bs : List Block} {ds : List (List ℕ)} (text : List ℕ) (last end : ℕ) → Stands out cs ss doc byte bs (ds ++ text ∷ []) → last ≡ length ss - 1 → end ≡ byte + get_or ss last 0 → ss' ≡ take last ss → cs' ≡ cs → out' ≡ take end out → Stands out' cs' ss' doc byte bs ds
stands_removed {ss = ss} {byte = byte} {bs = bs} {ds = ds} text last end st l e s c o =
    let is = last_of ds text st in
    let i0 = is.at in
    let at : last ≡ length (starts 0 ds) = omega arith in
    let cut_at : end ≡ length (data_of bs ++ concat ds) = e ∙ ap (λ n. byte + get_or ss n 0) at ∙ is.start in
    record {
      out_is = o ∙ ap₂ (λ n xs. take n xs) cut_at is.whole ∙ take-append_seam (data_of bs ++ concat ds) text;
      checks = c ∙ st.checks;
      starts_are = s ∙ ap (λ n. take n ss) at ∙ is.starts_before;
      doc = st.doc;
      byte = st.byte;
    }

-- where it starts is within the bytes
pub last_within : {out : List ℕ} {cs : List Checkpoint} {ss : List ℕ} {doc byte : ℕ} {bs : List Block} (ds : List (List ℕ)) (text : List ℕ) → Stands out cs ss doc byte bs (ds ++ text ∷ []) → (0 < length ss) × (byte + get_or ss (length ss - 1) 0 ≤ length out)
last_within {out = out} {ss = ss} {byte = byte} {bs = bs} ds text st =
    let is = last_of ds text st in
    let i0 = is.at in
    let at : length ss - 1 ≡ length (starts 0 ds) = omega arith in
    let e : byte + get_or ss (length ss - 1) 0 ≡ length (data_of bs ++ concat ds) = ap (λ n. byte + get_or ss n 0) at ∙ is.start in
    (omega arith, omega (arith, ap length is.whole, length-append (data_of bs ++ concat ds) text))

-- a block that is closed
pub stands_closed : {out out' : List ℕ} {cs cs' : List Checkpoint} {ss ss' : List ℕ} {doc byte doc' byte' : ℕ} {bs : List Block} {ds : List (List ℕ)} → Stands out cs ss doc byte bs ds → out' ≡ out ++ (flat_map u32_bytes ss ++ u32_bytes (length ss)) → doc' ≡ doc + length ss → byte' ≡ length out' → cs' ≡ cs ++ stands_at doc doc' byte byte' ∷ [] → ss' ≡ [] → Stands out' cs' ss' doc' byte' (bs ++ closed ds ∷ []) []
stands_closed {out = out} {out' = out'} {cs = cs} {ss = ss} {doc = doc} {byte = byte} {doc' = doc'} {byte' = byte'} {bs = bs} {ds = ds} st o d b c s =
    let many : length ss ≡ length ds = ap length st.starts_are ∙ length_starts ds 0 in
    let block : List ℕ = block_bytes ds in
    let whole : out' ≡ data_of bs ++ block = o ∙ ap₂ (λ xs n. xs ++ n) st.out_is (ap₂ (λ ns n. flat_map u32_bytes ns ++ u32_bytes n) st.starts_are many)
    ∙ append_assoc (data_of bs) (concat ds) (flat_map u32_bytes (starts 0 ds) ++ u32_bytes (length ds))
    ∙ ap (λ xs. data_of bs ++ xs) (sym (append_assoc (concat ds) (flat_map u32_bytes (starts 0 ds)) (u32_bytes (length ds)))) in
    let more : data_of (bs ++ closed ds ∷ []) ≡ data_of bs ++ block = data_more bs (closed ds) in
    let long : length out' ≡ length (data_of bs) + length block = ap length whole ∙ length-append (data_of bs) block in
    let counted = count_more bs (closed ds) in
    let c0 = st.doc in
    let b0 = st.byte in
    let e1 : doc ≡ 0 + count_of bs = omega arith in
    let e2 : doc' ≡ 0 + count_of bs + length ds = omega arith in
    let e3 : byte ≡ 0 + length (data_of bs) = omega arith in
    let e4 : byte' ≡ 0 + length (data_of bs) + length block = omega arith in
    record {
      out_is = whole ∙ sym more ∙ sym (append-nil (data_of (bs ++ closed ds ∷ [])));
      checks = c ∙ ap (λ xs. xs ++ stands_at doc doc' byte byte' ∷ []) st.checks
          ∙ ap₂ (λ m n. checkpoints 0 0 bs ++ stands_at m doc' n byte' ∷ []) e1 e3
          ∙ ap₂ (λ m n. checkpoints 0 0 bs ++ stands_at (0 + count_of bs) m (0 + length (data_of bs)) n ∷ []) e2 e4
          ∙ sym (checks_more bs (closed ds) 0 0);
      starts_are = s;
      doc = omega arith;
      byte = omega (arith, ap length more, length-append (data_of bs) block);
    }

-- ---- what the fields stand for is read from them

same_block : (b : Block) (n : ℕ) (bytes : List ℕ) → n ≡ b.count → bytes ≡ b.bytes → record { count = n; bytes = bytes } ≡ b
same_block b n bytes e f = (let made : ℕ → List ℕ → Block = λ m xs. record { count = m; bytes = xs } in ap₂ made e f)

blocks_back : (bs : List Block) (front rest : List ℕ) (doc byte : ℕ) → byte ≡ length front → blocks_in (front ++ (data_of bs ++ rest)) (checkpoints doc byte bs) ≡ bs
blocks_back [] front rest doc byte at = refl
blocks_back (b ∷ bs) front rest doc byte at =
    let count : doc + b.count - doc ≡ b.count = omega arith in
    let size : byte + length b.bytes - byte ≡ length b.bytes = omega arith in
    let apart : front ++ ((b.bytes ++ data_of bs) ++ rest) ≡ front ++ (b.bytes ++ (data_of bs ++ rest)) = ap (λ xs. front ++ xs) (append_assoc b.bytes (data_of bs) rest) in
    let here : slice_range (front ++ ((b.bytes ++ data_of bs) ++ rest)) byte (byte + length b.bytes) ≡ b.bytes = ap₂ (λ n xs. take n (drop byte xs)) size apart ∙ ap (λ n. take (length b.bytes) (drop n (front ++ (b.bytes ++ (data_of bs ++ rest))))) at ∙ ap (take (length b.bytes)) (drop-append_seam front (b.bytes ++ (data_of bs ++ rest))) ∙ take-append_seam b.bytes (data_of bs ++ rest) in
    let next : byte + length b.bytes ≡ length (front ++ b.bytes) = omega (arith, length-append front b.bytes) in
    let later : blocks_in (front ++ ((b.bytes ++ data_of bs) ++ rest)) (checkpoints (doc + b.count) (byte + length b.bytes) bs) ≡ bs = ap (λ xs. blocks_in xs (checkpoints (doc + b.count) (byte + length b.bytes) bs)) (apart ∙ sym (append_assoc front b.bytes (data_of bs ++ rest))) ∙ blocks_back bs (front ++ b.bytes) rest (doc + b.count) (byte + length b.bytes) next in
    ap₂ (λ x xs. x ∷ xs) (same_block b (doc + b.count - doc) _ count here) later

pub blocks_back_whole : (bs : List Block) → blocks_in (data_of bs) (checkpoints 0 0 bs) ≡ bs
blocks_back_whole bs = ap (λ xs. blocks_in xs (checkpoints 0 0 bs)) (sym (append-nil (data_of bs))) ∙ blocks_back bs [] [] 0 0 refl

cut_back : (ds : List (List ℕ)) (at : ℕ) → cut (starts at ds) (concat ds) ≡ ds
cut_back [] at = refl
cut_back (d ∷ []) at = ap (λ x. x ∷ []) (append-nil d)
cut_back (d ∷ e ∷ ds) at =
    let size : at + length d - at ≡ length d = omega arith in
    ap (λ n. take n (d ++ concat (e ∷ ds)) ∷ cut (starts (at + length d) (e ∷ ds)) (drop n (d ++ concat (e ∷ ds)))) size
    ∙ ap₂ (λ x xs. x ∷ cut (starts (at + length d) (e ∷ ds)) xs) (take-append_seam d (concat (e ∷ ds))) (drop-append_seam d (concat (e ∷ ds)))
    ∙ ap (λ xs. d ∷ xs) (cut_back (e ∷ ds) (at + length d))

pub closed_back : {out : List ℕ} {cs : List Checkpoint} {ss : List ℕ} {doc byte : ℕ} {bs : List Block} {ds : List (List ℕ)} → Stands out cs ss doc byte bs ds → blocks_in out cs ≡ bs
closed_back {bs = bs} {ds = ds} st = ap₂ (λ xs ys. blocks_in xs ys) st.out_is st.checks ∙ blocks_back bs [] (concat ds) 0 0 refl

pub pending_back : {out : List ℕ} {cs : List Checkpoint} {ss : List ℕ} {doc byte : ℕ} {bs : List Block} {ds : List (List ℕ)} → Stands out cs ss doc byte bs ds → cut ss (drop byte out) ≡ ds
pending_back {bs = bs} {ds = ds} st =
    ap₂ (λ xs ys. cut xs ys) st.starts_are (ap₂ (λ n xs. drop n xs) st.byte st.out_is ∙ drop-append_seam (data_of bs) (concat ds))
    ∙ cut_back ds 0

-- ---- the writer

-- what holds of some blocks and documents holds of those that the fields stand for
pub sound : (P : List Block → List (List ℕ) → Type 0) {out : List ℕ} {cs : List Checkpoint} {ss : List ℕ} {doc byte : ℕ} {bs : List Block} {ds : List (List ℕ)} → Stands out cs ss doc byte bs ds → P bs ds → P (blocks_in out cs) (cut ss (drop byte out))
sound P {out = out} {ss = ss} {byte = byte} {bs = bs} st p =
    subst (λ x. P x (cut ss (drop byte out))) (sym (closed_back st)) (subst (λ y. P bs y) (sym (pending_back st)) p)

pub all_last : (bs : List Block) (b : Block) → All (λ (x : Block). 0 < x.count) bs → 0 < b.count → All (λ (x : Block). 0 < x.count) (bs ++ b ∷ [])
all_last [] b each some zero d below = some
all_last [] b each some (suc k) d below = absurd (omega arith)
all_last (c ∷ bs) b each some zero d below = each zero d (omega arith)
all_last (c ∷ bs) b each some (suc k) d below = all_last bs b (λ j e under. each (suc j) e (omega arith)) some k d (omega arith)

-- a document more
pub written_added : (size : ℕ) (bs : List Block) (ds : List (List ℕ)) (doc : List ℕ) → AreWritten size bs ds → size + length doc + 8 < 2 ^ 32 → count_of bs + length ds < max_docs → length (concat (ds ++ doc ∷ [])) ≤ size → AreWritten size bs (ds ++ doc ∷ [])
written_added size bs ds doc are small few fits = record { nonempty = are.nonempty; docs = omega (arith, length-append ds (doc ∷ [])); size = fits; fits = λ some. omega arith }

-- a block more
pub written_closed : (size : ℕ) (bs : List Block) (ds : List (List ℕ)) (doc : List ℕ) → AreWritten size bs ds → count_of bs + length ds < max_docs → AreWritten size (bs ++ closed (ds ++ doc ∷ []) ∷ []) []
written_closed size bs ds doc are few =
    let many = length-append ds (doc ∷ []) in
    let counted = count_more bs (closed (ds ++ doc ∷ [])) in
    record { nonempty = all_last bs (closed (ds ++ doc ∷ [])) are.nonempty (omega arith); docs = omega arith; size = omega arith; fits = λ some. absurd (omega arith) }

-- the pending bytes
pub pending_long : {out : List ℕ} {cs : List Checkpoint} {ss : List ℕ} {doc byte : ℕ} {bs : List Block} {ds : List (List ℕ)} → Stands out cs ss doc byte bs ds → (length out ≡ byte + length (concat ds)) × (length ss ≡ length ds)
pending_long {bs = bs} {ds = ds} st = (let b = st.byte in omega (arith, ap length st.out_is, length-append (data_of bs) (concat ds)), ap length st.starts_are ∙ length_starts ds 0)

-- ---- a document's step

-- the value that the fields stand for
pub value_of : {out : List ℕ} {cs : List Checkpoint} {ss : List ℕ} {doc byte : ℕ} {bs : List Block} {ds : List (List ℕ)} (size : ℕ) → Stands out cs ss doc byte bs ds → written (blocks_in out cs) (cut ss (drop byte out)) size ≡ written bs ds size
value_of size st = ap₂ (λ x y. written x y size) (closed_back st) (pending_back st)

pub either : (a b : Bool) → (a || b) ≡ false → (a ≡ false) × (b ≡ false)
either false false e = (refl, refl)
either false true e = cc
either true b e = cc

pub limits_of : (w : Written) (len : ℕ) → passes_limit w len ≡ false → (w.block_size + len + 8 < 2 ^ 32) × (docs_of w < max_docs)
limits_of w len e =
    let parts = either (nat_le (2 ^ 32) (w.block_size + len + 8)) (nat_le max_docs (docs_of w)) e in
    let a = parts.0 in
    let b = parts.1 in
    (grind (arith, nat_tests), grind (arith, nat_tests))

pub stored_open : (bs : List Block) (ds : List (List ℕ)) (size : ℕ) (doc : List ℕ) → length (concat (ds ++ doc ∷ [])) ≤ size → stored (written bs ds size) doc ≡ written bs (ds ++ doc ∷ []) size
stored_open bs ds size doc fits =
    let e : nat_lt size (length (concat (ds ++ doc ∷ []))) ≡ false = grind (arith, nat_tests) in
    ap (λ b. cond b (written (bs ++ closed (ds ++ doc ∷ []) ∷ []) [] size) (written bs (ds ++ doc ∷ []) size)) e

pub stored_shut : (bs : List Block) (ds : List (List ℕ)) (size : ℕ) (doc : List ℕ) → size < length (concat (ds ++ doc ∷ [])) → stored (written bs ds size) doc ≡ written (bs ++ closed (ds ++ doc ∷ []) ∷ []) [] size
stored_shut bs ds size doc over =
    let e : nat_lt size (length (concat (ds ++ doc ∷ []))) ≡ true = grind (arith, nat_tests) in
    ap (λ b. cond b (written (bs ++ closed (ds ++ doc ∷ []) ∷ []) [] size) (written bs (ds ++ doc ∷ []) size)) e
