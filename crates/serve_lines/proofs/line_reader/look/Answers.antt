use Rattle.std.proofs.Common.{◌≢◌, [], sym, subst, append-nil}
use Rattle.std.proofs.lemmas.List.Elements.{All-nil}
use Rattle.std.proofs.KnownBytes.{Consumes-kept, Consumes-nil}
use Rattle.serve_lines.specs.Reading.{Holds}
use Rattle.serve_lines.proofs.line_reader.look.Goals as goal

pub returns-in-Err-clause-ok : goal.returns-in-Err-clause-ok
returns-in-Err-clause-ok g c =
    let after = c.take_chunk.new.line in (
      [],
      All-nil (λ x. x ≢ 10),
      Consumes-kept _ _ _ [] (Consumes-nil _) c.in-Err.ensures.err_reader,
      λ seen held. subst (Holds after) (sym (append-nil seen)) (subst (λ line. Holds line seen) (sym c.in-Err.ensures.err_line) held),
    )
