-- Alive sets of segments, one more and one after the other.
use Rattle.std.proofs.Common.{[], ◌++◌, ◌+◌, ◌<◌, ◌∙◌, ◌∷◌, ◌≡◌, ◌≤◌, Bool, List, ap, arith, drop, get_or, length, map, subst, suc, sym, take, zero, ℕ}
use Rattle.segment.specs.Opened.{num_docs_of}
use Rattle.segment.specs.declared.segment.Segment as code
use Rattle.segment_search.specs.Flags.{AreFlagged}

-- no more sets than segments
pub flagged_within : (segments : List code.Segment) (sets : List (List Bool)) → AreFlagged segments sets → length sets ≤ length segments
flagged_within segments [] h = omega arith
flagged_within [] (flags ∷ sets) h = absurd h
flagged_within (s ∷ segments) (flags ∷ sets) h = let rest = flagged_within segments sets h.1 in omega (arith, rest)

-- segments behind those with flags
pub flagged_more : (segments more : List code.Segment) (sets : List (List Bool)) → AreFlagged segments sets → AreFlagged (segments ++ more) sets
flagged_more segments more [] h = tt
flagged_more [] more (flags ∷ sets) h = absurd h
flagged_more (s ∷ segments) more (flags ∷ sets) h = (h.0, flagged_more segments more sets h.1)

-- the flags of one segment more
pub flagged_push : (segments rest : List code.Segment) (sets : List (List Bool)) (s : code.Segment) (flags : List Bool) → AreFlagged segments sets → drop (length sets) segments ≡ s ∷ rest → length flags ≡ num_docs_of s → AreFlagged segments (sets ++ flags ∷ [])
flagged_push segments rest [] s flags h e long = subst (λ (all : List code.Segment). AreFlagged all (flags ∷ [])) (sym e) (long, tt)
flagged_push [] rest (f ∷ sets) s flags h e long = absurd h
flagged_push (x ∷ segments) rest (f ∷ sets) s flags h e long = (h.0, flagged_push segments rest sets s flags h.1 e long)

-- the flags at an index
pub flagged_at : (segments : List code.Segment) (sets : List (List Bool)) (i : ℕ) (s : code.Segment) (flags : List Bool) → AreFlagged segments sets → i < length sets → s ≡ get_or segments i s → flags ≡ get_or sets i flags → length flags ≡ num_docs_of s
flagged_at segments [] i s flags h l a b = absurd (omega (arith, l))
flagged_at [] (f ∷ sets) i s flags h l a b = absurd h
flagged_at (x ∷ segments) (f ∷ sets) zero s flags h l a b = ap length b ∙ h.0 ∙ ap num_docs_of (sym a)
flagged_at (x ∷ segments) (f ∷ sets) (suc i) s flags h l a b = flagged_at segments sets i s flags h.1 (omega (arith, l)) a b

-- those of the first segments alone
pub flagged_taken : (segments : List code.Segment) (sets : List (List Bool)) → AreFlagged segments sets → AreFlagged (take (length sets) segments) sets
flagged_taken segments [] h = tt
flagged_taken [] (f ∷ sets) h = absurd h
flagged_taken (x ∷ segments) (f ∷ sets) h = (h.0, flagged_taken segments sets h.1)

-- those of as many documents
pub flagged_kept : (old new : List code.Segment) (sets : List (List Bool)) → map num_docs_of new ≡ map num_docs_of old → AreFlagged old sets → AreFlagged new sets
flagged_kept old new [] e h = tt
flagged_kept [] new (f ∷ sets) e h = absurd h
flagged_kept (o ∷ old) [] (f ∷ sets) e h = absurd (cc)
flagged_kept (o ∷ old) (n ∷ new) (f ∷ sets) e h =
    let first : num_docs_of o ≡ num_docs_of n = cc in
    let rest : map num_docs_of new ≡ map num_docs_of old = cc in
    (h.0 ∙ first, flagged_kept old new sets rest h.1)

-- likewise where the sets are counted
pub flagged_step : (segments : List code.Segment) (sets new : List (List Bool)) (at : ℕ) (s : code.Segment) (set : List Bool) → AreFlagged segments sets → length sets ≡ at → drop at segments ≡ s ∷ drop (at + 1) segments → length set ≡ num_docs_of s → new ≡ sets ++ set ∷ [] → AreFlagged segments new
flagged_step segments sets new at s set h long here each e =
    subst (AreFlagged segments) (sym e) (flagged_push segments (drop (at + 1) segments) sets s set h (ap (λ i. drop i segments) long ∙ here) each)
