-- The starts that a map keeps.
use Rattle.std.proofs.Common.{◌==◌, ◌≡◌, ◌∙◌, Bool, List, None, Option, Some, Vec, ap, bytes_eq, cond, map, nat_eq, sym, ℕ}
use Rattle.std.specs.Cmp.Lexicographic.{pointwise}
use Rattle.std.specs.HashMap.{HashMap, UpdatesBy, get_by}
use Rattle.std.specs.Map.{lookup}
use Rattle.std.specs.Option.{option_map_or}
use Rattle.std.specs.declared.alloc.Global.{Global}
use Rattle.postings_writer.proofs.KeptRecorders.{lookup_items, updates_bytes}
use Rattle.document_indexer.specs.Contexts.{Positions, start_of}

-- where a text of the document begins, from what is kept
abbrev start_in : ℕ → Option (ℕ × ℕ) → ℕ
start_in doc o = option_map_or (λ (p : ℕ × ℕ). cond (p.0 == doc) p.1 0) o 0

-- a start is looked up by its bytes
pub kept_at : {S : Type 0} (m : HashMap (Vec ℕ Global) (ℕ × ℕ) S) (positions : Positions) (prefix : List ℕ) → map (λ x. (x.0.items, x.1)) m.entries ≡ positions → lookup (bytes_eq prefix) positions ≡ get_by (λ k. pointwise nat_eq prefix k.items) m
kept_at m positions prefix view = ap (lookup (bytes_eq prefix)) (sym view) ∙ lookup_items prefix m.entries

-- the start that is found
pub start_found : {S : Type 0} (m : HashMap (Vec ℕ Global) (ℕ × ℕ) S) (positions : Positions) (prefix : List ℕ) (doc : ℕ) (p : ℕ × ℕ) (b : Bool) → map (λ x. (x.0.items, x.1)) m.entries ≡ positions → Some p ≡ get_by (λ k. pointwise nat_eq prefix k.items) m → (p.0 == doc) ≡ b → cond b p.1 0 ≡ start_of doc prefix positions
start_found m positions prefix doc p b view found test = ap (λ c. cond c p.1 0) (sym test) ∙ ap (start_in doc) (found ∙ sym (kept_at m positions prefix view))

-- where none is found
pub start_missing : {S : Type 0} (m : HashMap (Vec ℕ Global) (ℕ × ℕ) S) (positions : Positions) (prefix : List ℕ) (doc : ℕ) → map (λ x. (x.0.items, x.1)) m.entries ≡ positions → None ≡ get_by (λ k. pointwise nat_eq prefix k.items) m → 0 ≡ start_of doc prefix positions
start_missing m positions prefix doc view missing = ap (start_in doc) (missing ∙ sym (kept_at m positions prefix view))

-- what stands at any bytes after one start was kept
pub start_kept : {S : Type 0} (old new : HashMap (Vec ℕ Global) (ℕ × ℕ) S) (positions : Positions) (prefix : List ℕ) (p : ℕ × ℕ) → map (λ x. (x.0.items, x.1)) old.entries ≡ positions → UpdatesBy (λ x y. pointwise nat_eq x.items y.items) (λ k. pointwise nat_eq prefix k.items) old new (Some p) → (other : List ℕ) → lookup (bytes_eq other) (map (λ x. (x.0.items, x.1)) new.entries) ≡ cond (bytes_eq prefix other) (Some p) (lookup (bytes_eq other) positions)
start_kept old new positions prefix p view put other =
    lookup_items other new.entries
    ∙ updates_bytes prefix old new (Some p) put other
    ∙ ap (λ o. cond (bytes_eq prefix other) (Some p) o) (sym (kept_at old positions other view))
