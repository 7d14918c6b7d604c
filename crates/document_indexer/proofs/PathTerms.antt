-- The terms of a field, from their first bytes and what stands behind.
use Rattle.std.proofs.Common.{[], List, ap, append_assoc, subst, sym, ◌++◌, ◌∙◌, ◌∷◌, ◌≡◌, ℕ}
use Rattle.definitions.proofs.TermsReadBack.{term-append}
use Rattle.definitions.specs.Schema.{Schema, json_kind, text_kind}
use Rattle.definitions.specs.Terms.{json_term, term_bytes}
use Rattle.postings_writer.specs.Writers.{IsIndexedTerm}
use Rattle.document_indexer.specs.Contexts.{CanIndex, Context}
use Rattle.document_indexer.proofs.Recording.{known_term}

-- more bytes behind a leaf's are its own
pub leaf-append : (field : ℕ) (path leaf ys : List ℕ) → json_term field path leaf ++ ys ≡ json_term field path (leaf ++ ys)
leaf-append field path leaf ys = term-append field json_kind (path ++ (0 ∷ leaf)) ys ∙ ap (term_bytes field json_kind) (append_assoc path (0 ∷ leaf) ys)

-- tokens of a text field have its terms
pub known_token : (schema : Schema) (c : Context) (field : ℕ) (prefix : List ℕ) → CanIndex schema c field text_kind → prefix ≡ term_bytes field text_kind [] → (text : List ℕ) → IsIndexedTerm schema (prefix ++ text)
known_token schema c field prefix can is text =
    subst (IsIndexedTerm schema) (sym (ap (λ bs. bs ++ text) is ∙ term-append field text_kind [] text)) (known_term schema c field text_kind can text)

-- leaves at a path have the terms of their field
pub known_leaf : (schema : Schema) (c : Context) (field : ℕ) (path leaf : List ℕ) → CanIndex schema c field json_kind → IsIndexedTerm schema (json_term field path leaf)
known_leaf schema c field path leaf can = known_term schema c field json_kind can (path ++ (0 ∷ leaf))

pub known_behind : (schema : Schema) (c : Context) (field : ℕ) (path code start : List ℕ) → CanIndex schema c field json_kind → start ≡ json_term field path code → (value : List ℕ) → IsIndexedTerm schema (start ++ value)
known_behind schema c field path code start can is value =
    subst (IsIndexedTerm schema) (sym (ap (λ bs. bs ++ value) is ∙ leaf-append field path code value)) (known_leaf schema c field path (code ++ value) can)
