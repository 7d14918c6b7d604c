use Rattle.std.proofs.Common.{◌∙◌, ℕ, Option, Result, Ok, Err, OnErr, List, [], ◌∷◌, ◌++◌, sym, ap, subst, append_assoc}
use Rattle.std.specs.Io.KnownBytes.{Appends}
use Rattle.std.proofs.KnownBytes.{Appends-trans}
use Rattle.definitions.specs.Replying.{output_line}
use Rattle.serve_lines.specs.Serving.{AppendsPart}
use Rattle.serve_lines.proofs.line_run.tell.Goals as goal

-- all of the first bytes were written, and a front of those that follow
AppendsPart-after : {T E : Type 0} (result : Result T E) (old mid new : Option (List ℕ)) (first bytes : List ℕ) → Appends old mid first
    → OnErr result (AppendsPart mid new bytes) → OnErr result (AppendsPart old new (first ++ bytes))
AppendsPart-after (Ok done) old mid new first bytes grown part = tt
AppendsPart-after (Err fault) old mid new first bytes grown (part, rest, split, more) =
    (first ++ part, rest, ap (λ l. first ++ l) split ∙ sym (append_assoc first part rest), Appends-trans old mid new first part grown more)

pub returns-in-Ok-clause-part : goal.returns-in-Ok-clause-part
returns-in-Ok-clause-part g c =
    let old = g.W.Write.contents c.args.writer.now in
    let mid = g.W.Write.contents c.write_bytes.new.writer in
    let new = g.W.Write.contents c.write_bytes-in-Ok.new.writer in
    let ended = c.write_bytes-in-Ok.result in
    let newline : OnErr ended (AppendsPart mid new (10 ∷ [])) =
    subst (λ (l : List ℕ). OnErr ended (AppendsPart mid new l)) c.as_bytes-in-Ok.ensures.value c.write_bytes-in-Ok.ensures.part in
    subst (λ (l : List ℕ). OnErr ended (AppendsPart old new (output_line l))) c.as_bytes.ensures.value
    (AppendsPart-after ended old mid new c.as_bytes.result.now (10 ∷ []) c.in-Ok.ensures.written newline)

pub returns-in-Err-clause-part : goal.returns-in-Err-clause-part
returns-in-Err-clause-part g c =
    let (part, rest, split, grown) = c.in-Err.ensures.part in
    (part, rest ++ 10 ∷ [], ap (λ l. l ++ 10 ∷ []) (sym c.as_bytes.ensures.value ∙ split) ∙ append_assoc part rest (10 ∷ []), grown)
