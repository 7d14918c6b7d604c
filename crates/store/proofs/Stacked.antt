-- Blocks that follow others: their checkpoints, and the fields of a writer.
use Rattle.std.proofs.Common.{ℕ, zero, suc, List, [], ◌∷◌, ◌++◌, ◌≡◌, ◌≤◌, ◌<◌, ◌+◌, ◌^◌, refl, sym, ap, ap₂, ◌∙◌, arith, append_assoc, append-nil, length, map, flat_map, length-append, All}
use Rattle.definitions.specs.NumberCodes.{u32_bytes}
use Rattle.layouts.specs.Stores.{Adjoin, AreBlocks, Block, byte_end, checkpoints, data_of, doc_end, max_docs}
use Rattle.layouts.specs.declared.checkpoint.Checkpoint.{Checkpoint}
use Rattle.store.specs.declared.writer_fields.Parts.{Parts}
use Rattle.store.specs.Stacking.{FitsShifted, IsShut, shifted}
use Rattle.store.specs.Writing.{AreWritten, Stand, Stands, blocks_of, closed, count_of, written}
use Rattle.store.proofs.Opened.{ends_of}
use Rattle.store.proofs.TakenGroups.{bytes_rise, docs_rise}
use Rattle.store.proofs.Writes.{all_last, count_more, pending_long, stands_at, stands_closed}

-- ---- checkpoints further on

shifts : (bs : List Block) (doc byte docs bytes : ℕ) → map (shifted docs bytes) (checkpoints doc byte bs) ≡ checkpoints (docs + doc) (bytes + byte) bs
shifts [] doc byte docs bytes = refl
shifts (b ∷ bs) doc byte docs bytes =
    let d : docs + (doc + b.count) ≡ docs + doc + b.count = omega arith in
    let e : bytes + (byte + length b.bytes) ≡ bytes + byte + length b.bytes = omega arith in
    ap₂ (λ x y. stands_at (docs + doc) x (bytes + byte) y ∷ map (shifted docs bytes) (checkpoints (doc + b.count) (byte + length b.bytes) bs)) d e
    ∙ ap (λ cs. stands_at (docs + doc) (docs + doc + b.count) (bytes + byte) (bytes + byte + length b.bytes) ∷ cs)
    (shifts bs (doc + b.count) (byte + length b.bytes) docs bytes ∙ ap₂ (λ x y. checkpoints x y bs) d e)

pub shifts_first : (bs : List Block) (docs bytes : ℕ) → map (shifted docs bytes) (checkpoints 0 0 bs) ≡ checkpoints docs bytes bs
shifts_first bs docs bytes = (let d : docs + 0 ≡ docs = omega arith in let e : bytes + 0 ≡ bytes = omega arith in shifts bs 0 0 docs bytes ∙ ap₂ (λ x y. checkpoints x y bs) d e)

pub checks_append : (xs ys : List Block) (doc byte : ℕ) → checkpoints doc byte (xs ++ ys) ≡ checkpoints doc byte xs ++ checkpoints (doc + count_of xs) (byte + length (data_of xs)) ys
checks_append [] ys doc byte = (let d : doc ≡ doc + 0 = omega arith in let e : byte ≡ byte + 0 = omega arith in ap₂ (λ x y. checkpoints x y ys) d e)
checks_append (b ∷ xs) ys doc byte =
    let d : doc + b.count + count_of xs ≡ doc + count_of (b ∷ xs) = omega arith in
    let e : byte + length b.bytes + length (data_of xs) ≡ byte + length (b.bytes ++ data_of xs) = omega (arith, length-append b.bytes (data_of xs)) in
    ap (λ cs. stands_at doc (doc + b.count) byte (byte + length b.bytes) ∷ cs)
    (checks_append xs ys (doc + b.count) (byte + length b.bytes)
    ∙ ap₂ (λ x y. checkpoints (doc + b.count) (byte + length b.bytes) xs ++ checkpoints x y ys) d e)

pub data_append : (xs ys : List Block) → data_of (xs ++ ys) ≡ data_of xs ++ data_of ys
data_append [] ys = refl
data_append (b ∷ xs) ys = ap (λ bytes. b.bytes ++ bytes) (data_append xs ys) ∙ sym (append_assoc b.bytes (data_of xs) (data_of ys))

pub count_append : (xs ys : List Block) → count_of (xs ++ ys) ≡ count_of xs + count_of ys
count_append [] ys = omega arith
count_append (b ∷ xs) ys = omega (arith, count_append xs ys)

-- they fit, where their ends do
pub fit_shifted : (cs : List Checkpoint) (doc byte docs bytes : ℕ) → Adjoin doc byte cs → docs + doc_end doc cs < 2 ^ 32 → bytes + byte_end byte cs < 2 ^ 64 → All (FitsShifted docs bytes) cs
fit_shifted [] doc byte docs bytes run few small k d below = absurd (omega arith)
fit_shifted (c ∷ cs) doc byte docs bytes run few small zero d below =
    let d0 = run.0 in
    let b0 = run.1 in
    let d1 = run.2 in
    let b1 = run.3 in
    let rise = docs_rise cs c.doc_range.end c.byte_range.end run.4 in
    let climb = bytes_rise cs c.doc_range.end c.byte_range.end run.4 in
    record { doc_order = omega arith; byte_order = omega arith; docs_fit = omega arith; bytes_fit = omega arith }
fit_shifted (c ∷ cs) doc byte docs bytes run few small (suc k) d below = fit_shifted cs c.doc_range.end c.byte_range.end docs bytes run.4 few small k d (omega arith)

-- ---- the pending documents as a block

-- where some are
pub shut_some : (w new : Parts) (bs : List Block) (ds : List (List ℕ)) (doc byte : ℕ) → Stand w bs ds → 0 < length w.starts.items → new.out.items ≡ w.out.items ++ (flat_map u32_bytes w.starts.items ++ u32_bytes (length w.starts.items)) → doc ≡ w.first_doc + length w.starts.items → byte ≡ length new.out.items → new.checkpoints.items ≡ w.checkpoints.items ++ stands_at w.first_doc doc w.first_byte byte ∷ [] → IsShut new (blocks_of (written bs ds 0)) (doc, byte)
shut_some w new bs [] doc byte st some o d b c = (let many = (pending_long st).1 in absurd (omega arith))
shut_some w new bs (x ∷ ds) doc byte st some o d b c =
    let more : Stands new.out.items new.checkpoints.items [] doc byte (bs ++ closed (x ∷ ds) ∷ []) [] = stands_closed st o d b c refl in
    record { out_is = more.out_is ∙ append-nil (data_of (bs ++ closed (x ∷ ds) ∷ [])); checks = more.checks; docs = more.doc; bytes = more.byte }

pub count_shut : (bs : List Block) (ds : List (List ℕ)) → count_of (blocks_of (written bs ds 0)) ≡ count_of bs + length ds
count_shut bs [] = omega arith
count_shut bs (d ∷ ds) = count_more bs (closed (d ∷ ds))

-- ---- the blocks that follow

pub stands_stacked : (mid : Parts) {out : List ℕ} {checks : List Checkpoint} {starts : List ℕ} {doc byte : ℕ} (blocks more : List Block) (docs end : ℕ) (bytes : List ℕ) (cs : List Checkpoint) → IsShut mid blocks (docs, end) → cs ≡ checkpoints 0 0 more → bytes ≡ data_of more → out ≡ mid.out.items ++ bytes → checks ≡ mid.checkpoints.items ++ map (shifted docs end) cs → starts ≡ [] → doc ≡ docs + doc_end 0 cs → byte ≡ length out → Stands out checks starts doc byte (blocks ++ more) []
stands_stacked mid {out = out} blocks more docs end bytes cs shut is whole o c s d b =
    let e1 = shut.docs in
    let e2 = shut.bytes in
    let ends = (ends_of more 0 0).0 in
    let counted = count_append blocks more in
    let all : out ≡ data_of (blocks ++ more) = o ∙ ap₂ (λ x y. x ++ y) shut.out_is whole ∙ sym (data_append blocks more) in
    let first : docs ≡ 0 + count_of blocks = omega arith in
    let second : end ≡ 0 + length (data_of blocks) = omega arith in
    record {
      out_is = all ∙ sym (append-nil (data_of (blocks ++ more)));
      checks = c ∙ ap₂ (λ x y. x ++ map (shifted docs end) y) shut.checks is ∙ ap (λ x. checkpoints 0 0 blocks ++ x) (shifts_first more docs end) ∙ ap₂ (λ x y. checkpoints 0 0 blocks ++ checkpoints x y more) first second ∙ sym (checks_append blocks more 0 0);
      starts_are = s;
      doc = omega (arith, ap (doc_end 0) is);
      byte = b ∙ ap length all;
    }

-- ---- the writer

abbrev SomeIn : Block → Type 0
SomeIn b = 0 < b.count

all_append : (xs ys : List Block) → All SomeIn xs → All SomeIn ys → All SomeIn (xs ++ ys)
all_append [] ys one two k d below = two k d below
all_append (x ∷ xs) ys one two zero d below = one zero d (omega arith)
all_append (x ∷ xs) ys one two (suc k) d below = all_append xs ys (λ j e under. one (suc j) e (omega arith)) two k d (omega arith)

some_shut : (bs : List Block) (ds : List (List ℕ)) → All SomeIn bs → All SomeIn (blocks_of (written bs ds 0))
some_shut bs [] each = each
some_shut bs (d ∷ ds) each = all_last bs (closed (d ∷ ds)) each (omega arith)

pub written_stacked : (size : ℕ) (bs more : List Block) (ds : List (List ℕ)) → AreWritten size bs ds → AreBlocks more → count_of bs + length ds + count_of more ≤ max_docs → AreWritten size (blocks_of (written bs ds 0) ++ more) []
written_stacked size bs more ds are blocks few =
    let counted = count_append (blocks_of (written bs ds 0)) more in
    record { nonempty = all_append (blocks_of (written bs ds 0)) more (some_shut bs ds are.nonempty) blocks.nonempty; docs = omega (arith, count_shut bs ds); size = omega arith; fits = λ some. absurd (omega arith) }
