use Rattle.std.proofs.Common.{Bool, List, None, Option, Some, ap, arith, cond, false, is_none, length, nat_lt, true, ◌∙◌, ◌<◌, ◌≡◌, ◌≤◌, ℕ}
use Rattle.std.specs.Option.{option_map_or}
use Rattle.std.specs.Str.{is_utf8}
use Rattle.std.proofs.lemmas.Bool.Decides.{nat_tests}
use Rattle.definitions.specs.FaultNames.{reply_text}
use Rattle.definitions.specs.Lines.{max_line_len}
use Rattle.definitions.specs.Replying.{line_refusal}
use Rattle.definitions.specs.Step.{Session, after_line, answer_of}
use Rattle.definitions.specs.declared.fault.Fault.{Fault}
use Rattle.definitions.specs.declared.fault.Fault.TheVariants as faults
use Rattle.definitions.proofs.grammar_laws.some_lines_are_refused_unread.Goals as goal

-- what a line is refused by, by its two tests
abbrev refusal_by : Bool → Bool → Option Fault
refusal_by long text = cond long (Some faults.LineTooLong) (cond text None (Some faults.BadRequest))

long_refusal : (line : List ℕ) → max_line_len < length line → line_refusal line ≡ Some faults.LineTooLong
long_refusal line many =
    let long : nat_lt max_line_len (length line) ≡ true = grind (arith, nat_tests) in
    ap (λ b. refusal_by b (is_utf8 line)) long

short_refusal : (line : List ℕ) (text : Bool) → length line ≤ max_line_len → is_utf8 line ≡ text → line_refusal line ≡ refusal_by false text
short_refusal line text few is =
    let short : nat_lt max_line_len (length line) ≡ false = grind (arith, nat_tests) in
    ap (λ b. refusal_by b (is_utf8 line)) short ∙ ap (λ b. refusal_by false b) is

-- the reply and the session, by what the line is refused by
abbrev reply_by : Session → List ℕ → Option Fault → List ℕ
reply_by session line refusal = option_map_or reply_text refusal (answer_of session line)

abbrev session_by : Session → List ℕ → Option Fault → Session
session_by session line refusal = cond (is_none refusal) (after_line session line) session

pub returns-clause-long : goal.returns-clause-long
returns-clause-long c session line many = (ap (reply_by session line) (long_refusal line many), ap (session_by session line) (long_refusal line many))

pub returns-clause-no_text : goal.returns-clause-no_text
returns-clause-no_text c session line few none = (ap (reply_by session line) (short_refusal line false few none), ap (session_by session line) (short_refusal line false few none))

pub returns-clause-text : goal.returns-clause-text
returns-clause-text c session line few is = (ap (reply_by session line) (short_refusal line true few is), ap (session_by session line) (short_refusal line true few is))
