-- Laws of documents that a sink takes in blocks.
use Rattle.std.proofs.Common.{[], List, ap, arith, drop, length, map, subst, sym, take, ◌++◌, ◌<◌, ◌∙◌, ◌∷◌, ◌≡◌, ◌≤◌, ℕ}
use Rattle.std.proofs.lemmas.List.{length-map, length-take, take-append-drop}
use Rattle.std.proofs.lemmas.List as lists
use Rattle.docsets.specs.Entries.{Entry, Rising, first}
use Rattle.walks.specs.Blocks.{IsFedInBlocks}

-- one block more, ahead of the others
pub fed-more : {S : Type 0} (taken : S → List ℕ → S) (before after : S) (block docs : List ℕ) → 1 ≤ length block → length block ≤ 64 → IsFedInBlocks taken (taken before block) docs after → IsFedInBlocks taken before (block ++ docs) after
fed-more taken before after block docs some few rest = record { blocks = block ∷ rest.blocks; are_blocks = (some, few, rest.are_blocks); all = ap (λ ds. block ++ ds) rest.all; fed = rest.fed }

-- the first block of a list of entries
pub fed-entries : {S : Type 0} (taken : S → List ℕ → S) (before after : S) (es : List Entry) → 0 < length es → IsFedInBlocks taken (taken before (map (λ e. e.doc) (take 64 es))) (map (λ e. e.doc) (drop 64 es)) after → IsFedInBlocks taken before (map (λ e. e.doc) es) after
fed-entries taken before after es some rest = (let len = length-map (take 64 es) (λ e. e.doc) ∙ length-take 64 es in let split = ap (map (λ e. e.doc)) (take-append-drop 64 es) in let fed = fed-more taken before after (map (λ e. e.doc) (take 64 es)) (map (λ e. e.doc) (drop 64 es)) (omega (arith, len, some)) (omega (arith, len)) rest in subst (λ docs. IsFedInBlocks taken before docs after) (sym (lists.map-append (λ e. e.doc) (take 64 es) (drop 64 es)) ∙ split) fed)

-- a cursor that isn't behind its last document has some
pub some-left : (es : List Entry) (doc : ℕ) → Rising 0 es → doc ≡ first es → (doc ≡ 2147483647 → ⊥) → 0 < length es
some-left [] doc r at on = absurd (on at)
some-left (e ∷ es) doc r at on = omega arith
