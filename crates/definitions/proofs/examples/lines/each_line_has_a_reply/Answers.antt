use Rattle.std.proofs.Common.{[], List, ap, arith, inl, inr, length, length-append, ◌++◌, ◌∷◌, ◌≡◌, ℕ}
use Rattle.definitions.specs.FaultNames.{reply_text}
use Rattle.definitions.specs.LineExamples.{book_session}
use Rattle.definitions.specs.Replying.{output_line, reply_to}
use Rattle.definitions.specs.Step.{after_line, answer_of}
use Rattle.definitions.proofs.examples.lines.each_line_has_a_reply.Goals as goal

-- a reply has a byte
some_byte : (reply rest : List ℕ) → [] ≡ output_line reply ++ rest → ⊥
some_byte reply rest is =
    let long = ap length is in
    omega (arith, long, length-append (output_line reply) rest, length-append reply (10 ∷ []))

pub returns-clause-no_line : goal.returns-clause-no_line
returns-clause-no_line c is = cc

pub returns-clause-no_reply : goal.returns-clause-no_reply
returns-clause-no_reply c (inl (rest, is, more)) = some_byte (reply_to answer_of after_line book_session []) rest is
returns-clause-no_reply c (inr (fault, stop, rest, is)) = some_byte (reply_text fault) rest is
