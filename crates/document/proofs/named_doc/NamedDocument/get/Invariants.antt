use Rattle.std.proofs.Common.{bytes_eq, drop, ◌≡◌}
use Rattle.std.specs.List.{find}
use Rattle.document.specs.NamedDocs.{named_of}
use Rattle.document.proofs.named_doc.NamedDocument.get.Given as goal

-- the field of the name is among those that are left
abbrev pub invariant-loop-field : goal.invariant-loop-field
invariant-loop-field l = find (λ f. bytes_eq f.0 l.name) (named_of (drop l.field-index l.field-items)) ≡ find (λ f. bytes_eq f.0 l.name) l.self
