-- Texts that fold alike are those that match.
use Rattle.std.proofs.Common.{[], ap, sym, ◌∙◌, ◌∷◌, ◌≡◌, ◌↔◌, List, chars, encode_utf8_all, ℕ}
use Rattle.std.proofs.lemmas.Str.{encodes_same}
use Rattle.caseless.specs.Caseless.{IsCompatibilityMatch, default_case_fold}
use Rattle.definitions.specs.Values.{Token}
use Rattle.languages.specs.Folding.{folded}
use Rattle.languages.specs.Tokens.{IsOneWord, runs_tokens, text_tokens, words18}
use Rattle.languages.specs.Words.{runs}
use Rattle.languages.specs.declared.word_form.WordForm.{WordForm}
use Rattle.languages.specs.declared.word_form.WordForm.TheVariants.{Folded}
use Rattle.unicode_normalization.proofs.FormsLemmas.{nfkc-by_nfkd, nfkd-nfkc}
use Rattle.unicode_normalization.specs.Compose.{compose}
use Rattle.unicode_normalization.specs.Forms.{nfd, nfkd}

-- a text whose case is folded twice
abbrev twice : List ℕ → List ℕ
twice cs = default_case_fold (nfkd (default_case_fold (nfd cs)))

-- texts that match fold alike
pub matched_folded : (xs ys : List ℕ) → IsCompatibilityMatch xs ys → folded xs ≡ folded ys
matched_folded xs ys e = nfkc-by_nfkd (twice xs) ∙ ap compose e ∙ sym (nfkc-by_nfkd (twice ys))

-- texts that fold alike match
pub folded_matched : (xs ys : List ℕ) → folded xs ≡ folded ys → IsCompatibilityMatch xs ys
folded_matched xs ys e = sym (nfkd-nfkc (twice xs)) ∙ ap nfkd e ∙ nfkd-nfkc (twice ys)

-- texts that match have the same words
pub same_words : (form : WordForm) (s t : List ℕ) → IsCompatibilityMatch (chars s) (chars t) → text_tokens form s ≡ text_tokens form t
same_words form s t e = ap (λ cs. runs_tokens form 0 (runs cs)) (matched_folded (chars s) (chars t) e)

-- the text of the first token
first_text : List Token → List ℕ
first_text [] = []
first_text (token ∷ _) = token.text

-- two words meet where they match, and nowhere else
pub met : (s t : List ℕ) → IsOneWord s → IsOneWord t → (words18 s ≡ words18 t) ↔ IsCompatibilityMatch (chars s) (chars t)
unfolding first_text
met s t one two =
    let alike : words18 s ≡ words18 t → encode_utf8_all (folded (chars s)) ≡ encode_utf8_all (folded (chars t)) =
    λ e. ap first_text (sym one ∙ e ∙ two) in (
      λ e. folded_matched (chars s) (chars t) (encodes_same (folded (chars s)) (folded (chars t)) (alike e)),
      λ m. same_words Folded s t m,
    )
