-- Tokens whose positions don't fall are those that a text may have.
use Rattle.std.proofs.Common.{[], ◌&&◌, ◌∷◌, ◌≡◌, ◌≤◌, List, ap₂, arith, map, nat_le, refl, true, ℕ}
use Rattle.std.proofs.lemmas.Bool.{and_parts}
use Rattle.std.proofs.lemmas.Bool.Decides.{nat_tests}
use Rattle.std.proofs.lemmas.Str.{IsUtf8-string_bytes}
use Rattle.definitions.proofs.Lists.{le_of as not_before}
use Rattle.definitions.specs.Values as values
use Rattle.definitions.specs.Values.{AreTokensFrom}
use Rattle.common.specs.Token.{positions_rise, token_of}
use Rattle.common.specs.declared.token.Token.{Token}

pub are_tokens : (least : ℕ) (ts : List Token) → positions_rise least (map token_of ts) ≡ true → AreTokensFrom least (map token_of ts)
are_tokens least [] e = tt
are_tokens least (t ∷ ts) e =
    let are = and_parts (nat_le least t.position) (positions_rise t.position (map token_of ts)) e in
    (not_before least t.position are.0, IsUtf8-string_bytes t.text, are_tokens t.position ts are.1)

tested : (a b : ℕ) → a ≤ b → nat_le a b ≡ true
tested a b h = grind (arith, nat_tests)

pub they_rise : (least : ℕ) (ts : List values.Token) → AreTokensFrom least ts → positions_rise least ts ≡ true
they_rise least [] are = refl
they_rise least (t ∷ ts) are = ap₂ (λ a b. a && b) (tested least t.position are.0) (they_rise t.position ts are.2)
