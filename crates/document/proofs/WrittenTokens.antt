-- The text of a value that is written by tokens.
use Rattle.std.proofs.Common.{[], ◌++◌, ◌≡◌, ◌∙◌, List, ap, ap₂, ℕ}
use Rattle.json.specs.Print.{print}
use Rattle.json.specs.Token.{Token}
use Rattle.json.specs.Tree.{json_tokens}
use Rattle.serde_json.proofs.Texts.{print-outline}
use Rattle.serde_json.specs.Data.{Data}
use Rattle.serde_json.specs.Written.{compact_text, outline}

-- the tokens of a value alone are printed as its text
pub whole_text : (bytes before : List ℕ) (first tokens : List Token) (d : Data) → bytes ≡ before ++ print tokens → before ≡ [] → tokens ≡ first ++ json_tokens (outline d) → first ≡ [] → bytes ≡ compact_text d
whole_text bytes before first tokens d is none written nothing =
    is ∙ ap₂ (λ b ts. b ++ print ts) none (written ∙ ap (λ ts. ts ++ json_tokens (outline d)) nothing) ∙ print-outline d
