-- Where a term stands among the terms that steps give.
use Rattle.std.proofs.Common.{[], ◌++◌, ◌+◌, ◌≡◌, ◌≢◌, ◌∙◌, ◌∷◌, Bool, List, ap, ap₂, bytes_eq, cond, false, filter, flat_map, map, refl, sym, true, ℕ}
use Rattle.std.specs.List.{AllByRecursion}
use Rattle.std.proofs.lemmas.Bool.{false_from_ne_true}
use Rattle.std.proofs.lemmas.List.{map-append}
use Rattle.std.proofs.lemmas.List.Elements.{filter-append}
use Rattle.std.proofs.lemmas.Slice.Eq.{bytes_eq-Decides}
use Rattle.definitions.specs.Indexing.{Placed}
use Rattle.definitions.specs.Places.{next_start}
use Rattle.definitions.specs.Values.{Token}
use Rattle.document_indexer.specs.Runs.{Starts, next_starts, run_terms, starts_after, step_terms}
use Rattle.document_indexer.specs.Steps.{Step, term_step, text_step}
use Rattle.document_indexer.proofs.Recording.{run-append}

-- bytes that differ
pub unequal : (a b : List ℕ) → a ≢ b → bytes_eq a b ≡ false
unequal a b apart = false_from_ne_true (bytes_eq a b) (λ e. apart ((bytes_eq-Decides a b).0 e))

pub itself : (a : List ℕ) → bytes_eq a a ≡ true
itself a = (bytes_eq-Decides a a).1 refl

module _ (t : List ℕ) where
  -- the positions of the term
  abbrev pub at : List Placed → List ℕ
  at ps = map (λ p. p.1) (filter (λ p. bytes_eq p.0 t) ps)

  pub at-append : (ps qs : List Placed) → at (ps ++ qs) ≡ at ps ++ at qs
  at-append ps qs = ap (map (λ (p : Placed). p.1)) (filter-append (λ p. bytes_eq p.0 t) ps qs) ∙ map-append (λ (p : Placed). p.1) (filter (λ p. bytes_eq p.0 t) ps) (filter (λ p. bytes_eq p.0 t) qs)

  -- another term first
  at_other : (p : Placed) (ps : List Placed) → bytes_eq p.0 t ≡ false → at (p ∷ ps) ≡ at ps
  at_other p ps other = ap (λ b. map (λ (q : Placed). q.1) (cond b (p ∷ filter (λ q. bytes_eq q.0 t) ps) (filter (λ q. bytes_eq q.0 t) ps))) other

  -- ---- where the term is none of these

  pub none_map : {X : Type 0} (f : X → Placed) → ((x : X) → bytes_eq (f x).0 t ≡ false) → (xs : List X) → at (map f xs) ≡ []
  none_map f other [] = refl
  none_map f other (x ∷ xs) = at_other (f x) (map f xs) (other x) ∙ none_map f other xs

  pub none_flat_map : {X : Type 0} (f : X → List Placed) → ((x : X) → at (f x) ≡ []) → (xs : List X) → at (flat_map f xs) ≡ []
  none_flat_map f other [] = refl
  none_flat_map f other (x ∷ xs) = at-append (f x) (flat_map f xs) ∙ ap (λ ns. ns ++ at (flat_map f xs)) (other x) ∙ none_flat_map f other xs

  -- ---- steps that don't give the term

  -- the term is none of the step's
  abbrev pub IsForeign : Step → Type 0
  IsForeign (text_step prefix gap ts) = (text : List ℕ) → prefix ++ text ≢ t
  IsForeign (term_step u) = u ≢ t

  -- the term's texts begin at the same positions
  abbrev pub Agree : Starts → Starts → Type 0
  Agree a b = (prefix text : List ℕ) → prefix ++ text ≡ t → a prefix ≡ b prefix

  agree_tokens : (prefix : List ℕ) (m n : ℕ) (ts : List Token) → ((text : List ℕ) → prefix ++ text ≡ t → m ≡ n) → at (map (λ (k : Token). (prefix ++ k.text, m + k.position)) ts) ≡ at (map (λ (k : Token). (prefix ++ k.text, n + k.position)) ts)
  agree_tokens prefix m n [] same = refl
  agree_tokens prefix m n (k ∷ ts) same = go (bytes_eq (prefix ++ k.text) t) refl (agree_tokens prefix m n ts same)
    where
      rest : ℕ → List Placed
      rest start = filter (λ p. bytes_eq p.0 t) (map (λ (k : Token). (prefix ++ k.text, start + k.position)) ts)

      go : (b : Bool) → bytes_eq (prefix ++ k.text) t ≡ b → map (λ (p : Placed). p.1) (rest m) ≡ map (λ (p : Placed). p.1) (rest n)
          → map (λ (p : Placed). p.1) (cond b ((prefix ++ k.text, m + k.position) ∷ rest m) (rest m)) ≡ map (λ (p : Placed). p.1) (cond b ((prefix ++ k.text, n + k.position) ∷ rest n) (rest n))
      go true is ih = ap₂ (λ x xs. x ∷ xs) (ap (λ start. start + k.position) (same k.text ((bytes_eq-Decides (prefix ++ k.text) t).0 is))) ih
      go false other ih = ih

  agree_step : (a b : Starts) → Agree a b → (s : Step) → at (step_terms a s) ≡ at (step_terms b s)
  agree_step a b same (text_step prefix gap ts) = agree_tokens prefix (a prefix) (b prefix) ts (same prefix)
  agree_step a b same (term_step u) = refl

  agree_next : (a b : Starts) → Agree a b → (s : Step) → Agree (next_starts a s) (next_starts b s)
  agree_next a b same (text_step prefix gap ts) other text is = ap (λ n. cond (bytes_eq prefix other) (next_start gap n ts) n) (same other text is)
  agree_next a b same (term_step u) other text is = same other text is

  pub agree_run : (a b : Starts) → Agree a b → (ss : List Step) → at (run_terms a ss) ≡ at (run_terms b ss)
  agree_run a b same [] = refl
  agree_run a b same (s ∷ ss) =
      at-append (step_terms a s) (run_terms (next_starts a s) ss)
      ∙ ap₂ (λ xs ys. xs ++ ys) (agree_step a b same s) (agree_run (next_starts a s) (next_starts b s) (agree_next a b same s) ss)
      ∙ sym (at-append (step_terms b s) (run_terms (next_starts b s) ss))

  pub agree_after : (a b : Starts) → Agree a b → (ss : List Step) → Agree (starts_after a ss) (starts_after b ss)
  agree_after a b same [] = same
  agree_after a b same (s ∷ ss) = agree_after (next_starts a s) (next_starts b s) (agree_next a b same s) ss

  foreign_step : (a : Starts) (s : Step) → IsForeign s → at (step_terms a s) ≡ []
  foreign_step a (text_step prefix gap ts) foreign = none_map (λ (k : Token). (prefix ++ k.text, a prefix + k.position)) (λ k. unequal (prefix ++ k.text) t (foreign k.text)) ts
  foreign_step a (term_step u) other = at_other (u, 0) [] (unequal u t other)

  foreign_next : (a b : Starts) (s : Step) → IsForeign s → Agree a b → Agree (next_starts a s) b
  foreign_next a b (text_step prefix gap ts) foreign same other text is =
      ap (λ c. cond c (next_start gap (a other) ts) (a other)) (unequal prefix other (λ e. foreign text (ap (λ bs. bs ++ text) e ∙ is))) ∙ same other text is
  foreign_next a b (term_step u) foreign same other text is = same other text is

  pub foreign_run : (a : Starts) (ss : List Step) → AllByRecursion IsForeign ss → at (run_terms a ss) ≡ []
  foreign_run a [] all = refl
  foreign_run a (s ∷ ss) all = at-append (step_terms a s) (run_terms (next_starts a s) ss) ∙ ap (λ ns. ns ++ at (run_terms (next_starts a s) ss)) (foreign_step a s all.0) ∙ foreign_run (next_starts a s) ss all.1

  pub foreign_after : (a b : Starts) (ss : List Step) → AllByRecursion IsForeign ss → Agree a b → Agree (starts_after a ss) b
  foreign_after a b [] all same = same
  foreign_after a b (s ∷ ss) all same = foreign_after (next_starts a s) b ss all.1 (foreign_next a b s all.0 same)

  -- what gives only foreign steps may be left out
  pub left_out : {X : Type 0} (steps : X → List Step) (test : X → Bool) → ((x : X) → test x ≡ false → AllByRecursion IsForeign (steps x)) → (a b : Starts) → Agree a b → (xs : List X) → at (run_terms a (flat_map steps xs)) ≡ at (run_terms b (flat_map steps (filter test xs)))
  left_out steps test foreign a b same [] = refl
  left_out {X} steps test foreign a b same (x ∷ xs) = ap at (run-append a (steps x) (flat_map steps xs)) ∙ at-append (run_terms a (steps x)) (run_terms (starts_after a (steps x)) (flat_map steps xs)) ∙ go (λ a b same. left_out steps test foreign a b same xs) (test x) refl
    where
      later : List Step
      later = flat_map steps (filter test xs)

      rest : Starts → List ℕ
      rest c = at (run_terms c (flat_map steps xs))

      go : ((c d : Starts) → Agree c d → rest c ≡ at (run_terms d later)) → (k : Bool) → test x ≡ k → at (run_terms a (steps x)) ++ rest (starts_after a (steps x)) ≡ at (run_terms b (flat_map steps (cond k (x ∷ filter test xs) (filter test xs))))
      go ih true is =
          ap₂ (λ ms ns. ms ++ ns) (agree_run a b same (steps x)) (ih (starts_after a (steps x)) (starts_after b (steps x)) (agree_after a b same (steps x)))
          ∙ sym (at-append (run_terms b (steps x)) (run_terms (starts_after b (steps x)) later))
          ∙ ap at (sym (run-append b (steps x) later))
      go ih false is =
          ap (λ ms. ms ++ rest (starts_after a (steps x))) (foreign_run a (steps x) (foreign x is))
          ∙ ih (starts_after a (steps x)) b (foreign_after a b (steps x) (foreign x is) same)
