-- The byte behind the word is ASCII.
use Rattle.std.proofs.Common.{Bool, List, None, Option, Some, false, get_or, not, position, rules, take, true, ◌≡◌, ℕ}
use Rattle.std.specs.Option.{option_map_or}
use Rattle.std.proofs.lemmas.List.Quantifiers.{position-Some}
use Rattle.std.proofs.lemmas.Str.{IsCharBoundary-before_ascii}
use Rattle.definitions.specs.Analyzers.{is_word_byte}
use Rattle.snippets.proofs.Bytes.{ascii}
use Rattle.snippets.proofs.text_pieces.word_in.Goals as goal

other : (b : Bool) → not b ≡ true → b ≡ false
other false h = cc
other true h = cc

before : (s r : List ℕ) (end : ℕ) (o : Option ℕ) → Some end ≡ o → r ≡ take end s → r ≡ option_map_or (λ i. take i s) o s
before s r end (Some i) h e = cc
before s r end None h e = absurd (cc)

all : (s : List ℕ) (o : Option ℕ) → None ≡ o → s ≡ option_map_or (λ i. take i s) o s
all s (Some i) h = absurd (cc)
all s None h = cc

pub range-requires-clause-end_boundary : goal.range-requires-clause-end_boundary
range-requires-clause-end_boundary c =
    let s = c.args.piece.now in
    let at = position-Some (λ b. not (is_word_byte b)) s c.in-Some.end 0 (cc) in
    IsCharBoundary-before_ascii s c.in-Some.end at.0 (ascii (get_or s c.in-Some.end 0) (other (is_word_byte (get_or s c.in-Some.end 0)) at.1))

pub returns-in-Some : goal.returns-in-Some
returns-in-Some c = before c.args.piece.now c.range.result.now c.in-Some.end (position (λ b. not (is_word_byte b)) c.args.piece.now) c.in-Some.ensures (search rules)

pub returns-in-None : goal.returns-in-None
returns-in-None c = all c.args.piece.now (position (λ b. not (is_word_byte b)) c.args.piece.now) c.in-None.ensures
