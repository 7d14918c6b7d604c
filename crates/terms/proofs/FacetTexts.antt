-- Facets read from paths, byte by byte.
use Rattle.std.proofs.Common.{[], ◌++◌, ◌<◌, ◌==◌, ◌∙◌, ◌∷◌, ◌≡◌, ◌≢◌, ◌≤◌, Bool, IsUtf8, List, None, Option, Some, ap, append_assoc, arith, false, if◌then◌else◌, inl, inr, length, not, option_map, refl, subst, sym, true, ℕ}
use Rattle.std.specs.List.{AllByRecursion, list_any, onto_first}
use Rattle.std.proofs.lemmas.Bool.{and_parts, cases_eq, cases_lt, cond-true, ne_eqb, not_from_false}
use Rattle.std.proofs.lemmas.Str.{IsUtf8-append, IsUtf8-encode, IsUtf8-nil, encode_ascii, len_utf8_bounds, length-encode}
use lib.Utf8.{encode, encodes, low_scalar, scalar, scalars}
use Rattle.definitions.proofs.Lists.{all_behind as before}
use Rattle.definitions.proofs.TokenTexts.{high_bytes as high_places, zero_byte}
use Rattle.definitions.specs.Facets.{backslash, encoded, facet_of_path, slash, steps_from}
use Rattle.terms.proofs.FacetSteps.{steps_of-encoded, zero_free_from}
use Rattle.terms.specs.Steps.{steps_of}

-- the text of the steps of what follows in a path
abbrev pub text_from : Bool → List ℕ → Option (List ℕ)
text_from escaped rest = option_map encoded (steps_from escaped rest)

abbrev Some_step : Option (List (List ℕ)) → Type 0
Some_step None = Unit {0}
Some_step (Some []) = ⊥
Some_step (Some (step ∷ steps)) = Unit {0}

onto_some : (c : ℕ) (steps : Option (List (List ℕ))) → Some_step (option_map (onto_first c) steps)
onto_some c None = tt
onto_some c (Some []) = tt
onto_some c (Some (step ∷ steps)) = tt

empty_some : (steps : Option (List (List ℕ))) → Some_step (option_map (λ (ss : List (List ℕ)). [] ∷ ss) steps)
empty_some None = tt
empty_some (Some steps) = tt

-- where steps are read there is one
some_step_from : (escaped : Bool) (cs : List ℕ) → Some_step (steps_from escaped cs)
some_step_from true [] = tt
some_step_from false [] = tt
some_step_from true (c ∷ cs) = onto_some c (steps_from false cs)
some_step_from false (c ∷ cs) = go (c == backslash) (c == slash) (some_step_from true cs)
  where
    go : (b d : Bool) → Some_step (steps_from true cs) → Some_step (elim b [ true ↦ steps_from true cs | false ↦ option_map (if d then (λ (steps : List (List ℕ)). [] ∷ steps) else onto_first c) (steps_from false cs) ])
    go true d h = h
    go false true h = empty_some (steps_from false cs)
    go false false h = onto_some c (steps_from false cs)

-- a byte of a step
encoded-onto : (c : ℕ) (steps : Option (List (List ℕ))) → option_map encoded (option_map (onto_first c) steps) ≡ before (c ∷ []) (option_map encoded steps)
encoded-onto c None = refl
encoded-onto c (Some []) = refl
encoded-onto c (Some (step ∷ [])) = refl
encoded-onto c (Some (step ∷ next ∷ steps)) = refl

-- an empty step before others
encoded-empty : (steps : Option (List (List ℕ))) → Some_step steps → option_map encoded (option_map (λ (ss : List (List ℕ)). [] ∷ ss) steps) ≡ before (0 ∷ []) (option_map encoded steps)
encoded-empty None some = refl
encoded-empty (Some []) some = absurd some
encoded-empty (Some (step ∷ steps)) some = refl

pub text-slash : (rest : List ℕ) → text_from false (slash ∷ rest) ≡ before (0 ∷ []) (text_from false rest)
text-slash rest = encoded-empty (steps_from false rest) (some_step_from false rest)

pub text-taken : (c : ℕ) (rest : List ℕ) → text_from true (c ∷ rest) ≡ before (c ∷ []) (text_from false rest)
text-taken c rest = encoded-onto c (steps_from false rest)

pub text-plain : (c : ℕ) (rest : List ℕ) → c ≢ 92 → c ≢ 47 → text_from false (c ∷ rest) ≡ before (c ∷ []) (text_from false rest)
text-plain c rest no_escape no_slash = ap (option_map encoded) (steps_plain (c == backslash) (c == slash) (ne_eqb c 92 no_escape) (ne_eqb c 47 no_slash)) ∙ encoded-onto c (steps_from false rest)
  where
    steps_plain : (b d : Bool) → b ≡ false → d ≡ false → elim b [ true ↦ steps_from true rest | false ↦ option_map (if d then (λ (steps : List (List ℕ)). [] ∷ steps) else onto_first c) (steps_from false rest) ] ≡ option_map (onto_first c) (steps_from false rest)
    steps_plain true d h g = cc
    steps_plain false true h g = cc
    steps_plain false false h g = refl

-- bytes before bytes
pub before-before : (bs cs : List ℕ) (text : Option (List ℕ)) → before bs (before cs text) ≡ before (bs ++ cs) text
before-before bs cs None = refl
before-before bs cs (Some rest) = ap Some (sym (append_assoc bs cs rest))

-- ---- the text is UTF-8

-- bytes past ASCII stand for themselves
text-high : (bs rest : List ℕ) → AllByRecursion (λ b. 128 ≤ b) bs → text_from false (bs ++ rest) ≡ before bs (text_from false rest)
text-high [] rest high = sym (before-nil (text_from false rest))
  where
    before-nil : (text : Option (List ℕ)) → before [] text ≡ text
    before-nil None = refl
    before-nil (Some t) = refl
text-high (b ∷ bs) rest high =
    let large : 128 ≤ b = high.0 in
    text-plain b (bs ++ rest) (λ e. omega arith) (λ e. omega arith) ∙ ap (before (b ∷ [])) (text-high bs rest high.1) ∙ before-before (b ∷ []) bs (text_from false rest)

-- the first of them may stand behind a backslash
text-any : (escaped : Bool) (b : ℕ) (bs rest : List ℕ) → AllByRecursion (λ b. 128 ≤ b) (b ∷ bs) → text_from escaped (b ∷ (bs ++ rest)) ≡ before (b ∷ bs) (text_from false rest)
text-any false b bs rest high = text-high (b ∷ bs) rest high
text-any true b bs rest high = text-taken b (bs ++ rest) ∙ ap (before (b ∷ [])) (text-high bs rest high.1) ∙ before-before (b ∷ []) bs (text_from false rest)

text-char : (escaped : Bool) (bs rest : List ℕ) → 0 < length bs → AllByRecursion (λ b. 128 ≤ b) bs → text_from escaped (bs ++ rest) ≡ before bs (text_from false rest)
text-char escaped [] rest some high = absurd (omega arith)
text-char escaped (b ∷ bs) rest some high = text-any escaped b bs rest high

text_before : (bs : List ℕ) (o : Option (List ℕ)) → IsUtf8 bs → ((text : List ℕ) → o ≡ Some text → IsUtf8 text) → (text : List ℕ) → before bs o ≡ Some text → IsUtf8 text
text_before bs None utf8 rest text is = cc
text_before bs (Some t) utf8 rest text is = (let same : bs ++ t ≡ text = cc in subst IsUtf8 same (IsUtf8-append bs t utf8 (rest t refl)))

pub one_byte : (c : ℕ) → c < 128 → IsUtf8 (c ∷ [])
one_byte c small = subst IsUtf8 (encode_ascii c small) (IsUtf8-encode c (low_scalar c (omega arith)))

text_of_chars : (cs : List ℕ) → scalars cs ≡ true → (escaped : Bool) (text : List ℕ) → text_from escaped (encodes cs) ≡ Some text → IsUtf8 text
text_of_chars [] ok true text is = cc
text_of_chars [] ok false text is = (let same : [] ≡ text = cc in subst IsUtf8 same IsUtf8-nil)
text_of_chars (c ∷ cs) ok escaped text is =
    let oks = and_parts (scalar c) (scalars cs) ok in
    elim (cases_lt c 128) [
      | inl small ↦ ascii c cs escaped text small (text_of_chars cs oks.1 true) (text_of_chars cs oks.1 false) (rw (encode_ascii c small) at is)
      | inr high ↦ text_before (encode c) (text_from false (encodes cs)) (IsUtf8-encode c oks.0) (text_of_chars cs oks.1 false) text (sym (text-char escaped (encode c) (encodes cs) (let l = len_utf8_bounds c in rw (length-encode c) (omega arith)) (high_places c high)) ∙ is)
    ]
  where
    ascii : (c : ℕ) (cs : List ℕ) (escaped : Bool) (text : List ℕ) → c < 128 → ((t : List ℕ) → text_from true (encodes cs) ≡ Some t → IsUtf8 t) → ((t : List ℕ) → text_from false (encodes cs) ≡ Some t → IsUtf8 t) → text_from escaped (c ∷ encodes cs) ≡ Some text → IsUtf8 text
    ascii c cs true text small taken rest is = text_before (c ∷ []) (text_from false (encodes cs)) (one_byte c small) rest text (sym (text-taken c (encodes cs)) ∙ is)
    ascii c cs false text small taken rest is = elim (cases_eq c 92) [
      | inl escape ↦ taken text (sym (ap (λ b. text_from false (b ∷ encodes cs)) escape) ∙ is)
      | inr no_escape ↦ elim (cases_eq c 47) [
        | inl slash_here ↦ text_before (0 ∷ []) (text_from false (encodes cs)) zero_byte rest text (sym (text-slash (encodes cs)) ∙ sym (ap (λ b. text_from false (b ∷ encodes cs)) slash_here) ∙ is)
        | inr no_slash ↦ text_before (c ∷ []) (text_from false (encodes cs)) (one_byte c small) rest text (sym (text-plain c (encodes cs) no_escape no_slash) ∙ is)
      ]
    ]

-- what is read of a text is a text
pub text_utf8 : (path text : List ℕ) → IsUtf8 path → text_from false path ≡ Some text → IsUtf8 text
text_utf8 path text (cs, (ok, chars)) is = text_of_chars cs ok false text (ap (text_from false) chars ∙ is)

-- ---- the facet of a path

abbrev Zero_free : Option (List (List ℕ)) → Type 0
Zero_free None = Unit {0}
Zero_free (Some steps) = AllByRecursion (AllByRecursion (λ b. b ≢ 0)) steps

onto_free : (c : ℕ) (steps : Option (List (List ℕ))) → c ≢ 0 → Zero_free steps → Zero_free (option_map (onto_first c) steps)
onto_free c None other free = tt
onto_free c (Some []) other free = ((other, tt), tt)
onto_free c (Some (step ∷ steps)) other free = ((other, free.0), free.1)

empty_free : (steps : Option (List (List ℕ))) → Zero_free steps → Zero_free (option_map (λ (ss : List (List ℕ)). [] ∷ ss) steps)
empty_free None free = tt
empty_free (Some steps) free = (tt, free)

-- a path without U+0000 has steps without it
free_from : (escaped : Bool) (cs : List ℕ) → AllByRecursion (λ b. b ≢ 0) cs → Zero_free (steps_from escaped cs)
free_from true [] free = tt
free_from false [] free = (tt, tt)
free_from true (c ∷ cs) free = onto_free c (steps_from false cs) free.0 (free_from false cs free.1)
free_from false (c ∷ cs) free = go (c == backslash) (c == slash) (free_from true cs free.1) (free_from false cs free.1)
  where
    go : (b d : Bool) → Zero_free (steps_from true cs) → Zero_free (steps_from false cs) → Zero_free (elim b [ true ↦ steps_from true cs | false ↦ option_map (if d then (λ (steps : List (List ℕ)). [] ∷ steps) else onto_first c) (steps_from false cs) ])
    go true d taken rest = taken
    go false true taken rest = empty_free (steps_from false cs) rest
    go false false taken rest = onto_free c (steps_from false cs) free.0 rest

read_steps : (steps : Option (List (List ℕ))) (text : List ℕ) → Some_step steps → Zero_free steps → option_map encoded steps ≡ Some text → steps ≡ Some (steps_of text)
read_steps None text some free is = cc
read_steps (Some []) text some free is = absurd some
read_steps (Some (step ∷ steps)) text some free is =
    let same : encoded (step ∷ steps) ≡ text = cc in
    ap Some (sym (ap steps_of (sym same) ∙ steps_of-encoded (step ∷ steps) (λ e. cc) free))

pub facet_read : (path cs text : List ℕ) → path ≡ slash ∷ cs → list_any (◌==◌ 0) cs ≡ false → text_from false cs ≡ Some text → facet_of_path path ≡ Some (steps_of text)
facet_read path cs text begins none is =
    ap facet_of_path begins
    ∙ cond-true (not (list_any (◌==◌ 0) cs)) _ None (not_from_false _ none)
    ∙ read_steps (steps_from false cs) text (some_step_from false cs) (free_from false cs (zero_free_from cs none)) is
