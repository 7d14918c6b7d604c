-- The tokens by which a text is asked for are tokens: laws.
use Rattle.std.proofs.Common.{[], ◌||◌, ◌∷◌, ◌≤◌, List, None, Option, Some, arith, ℕ}
use Rattle.std.proofs.lemmas.Bool.{cond_both}
use Rattle.definitions.specs.Analyzers.{IsAnalyzer}
use Rattle.definitions.specs.Values.{AreTokensFrom, Token}
use Rattle.languages.specs.Asked.{asked_behind, asked_languages, is_first, is_second}
use Rattle.languages.specs.TokenLaws.{languages_analyzes}
use Rattle.languages.specs.Tokens.{languages}

-- tokens from a position are tokens from any before it
from_before : (least at : ℕ) (ts : List Token) → least ≤ at → AreTokensFrom at ts → AreTokensFrom least ts
from_before least at [] le are = tt
from_before least at (t ∷ ts) le are = (omega (arith, are.0), are.1, are.2)

asked_are_tokens : (before : Option Token) (least : ℕ) (ts : List Token) → AreTokensFrom least ts → AreTokensFrom least (asked_behind before ts)
unfolding asked_behind
asked_are_tokens before least [] are = tt
asked_are_tokens before least (t ∷ ts) are =
    let rest = asked_are_tokens (Some t) t.position ts are.2 in
    cond_both (is_second before t || is_first t ts) (asked_behind (Some t) ts) (t ∷ asked_behind (Some t) ts) (AreTokensFrom least)
    (λ _. from_before least t.position (asked_behind (Some t) ts) are.0 rest) (λ _. (are.0, are.1, rest))

-- each token's text is a text, and the positions don't fall
pub asked_analyzes : IsAnalyzer asked_languages
asked_analyzes name s h = asked_are_tokens None 0 (languages name s) (languages_analyzes name s h)
