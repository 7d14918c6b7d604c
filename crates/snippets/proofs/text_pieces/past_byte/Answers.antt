-- The byte ends a part, or it doesn't.
use Rattle.std.proofs.Common.{ap, false, get_or, if◌then◌else◌, map, slice_range, sym, ◌++◌, ◌∙◌, ◌∷◌, ◌≡◌, [], Bool}
use Rattle.std.proofs.lemmas.List.{map-append}
use Rattle.std.proofs.lemmas.List.Edits.{between_more}
use Rattle.std.proofs.lemmas.Str.{IsCharBoundary-after_ascii}
use Rattle.definitions.specs.Analyzers.{is_word_byte}
use Rattle.snippets.proofs.Bytes.{ascii}
use Rattle.snippets.proofs.text_pieces.past_byte.Goals as goal

pub range-requires-clause-end_boundary : goal.range-requires-clause-end_boundary
range-requires-clause-end_boundary c =
    let s = c.args.text.now in
    let apart : is_word_byte (get_or s c.args.offset 0) ≡ false = cc (c.is_word_byte.ensures, c.if-is_word_byte.false) in
    IsCharBoundary-after_ascii s c.args.offset c.utf8.text c.requires.within (ascii (get_or s c.args.offset 0) apart)

pub returns-clause-boundary : goal.returns-clause-boundary
returns-clause-boundary c =
    let s = c.args.text.now in
    let apart : is_word_byte (get_or s c.args.offset 0) ≡ false = cc (c.is_word_byte.ensures, c.if-is_word_byte.false) in
    IsCharBoundary-after_ascii s c.args.offset c.utf8.text c.requires.within (ascii (get_or s c.args.offset 0) apart)

pub returns-clause-parts : goal.returns-clause-parts
returns-clause-parts c =
    let s = c.args.text.now in
    let apart : is_word_byte (get_or s c.args.offset 0) ≡ false = cc (c.is_word_byte.ensures, c.if-is_word_byte.false) in
    let run = slice_range s c.args.start c.args.offset in
    let piece : c.range.result.now ≡ run ++ get_or s c.args.offset 0 ∷ [] = c.range.ensures.value ∙ between_more s c.args.start c.args.offset 0 c.requires.begun c.requires.within in
    ap (map (λ p. p.now)) c.in_ok-push.ensures.items
    ∙ map-append (λ p. p.now) c.args.parts.now.items (c.range.result ∷ [])
    ∙ ap (λ p. map (λ p. p.now) c.args.parts.now.items ++ p ∷ []) piece
    ∙ ap (λ (b : Bool). map (λ p. p.now) c.args.parts.now.items ++ (if b then [] else (run ++ get_or s c.args.offset 0 ∷ []) ∷ [])) (sym apart)
