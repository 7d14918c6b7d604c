-- What a run over lines has done, by what each reply says.
use Rattle.std.proofs.Common.{Bool, Err, IfSome, IsTrue, List, None, Ok, OnErr, OnOk, Option, Result, Some, ap, append_assoc, arith, false, if◌then◌else◌, inl, inr, nat_lt, refl, subst, sym, true, [], ◌++◌, ◌<◌, ◌∙◌, ◌∷◌, ◌≡◌, ◌≢◌, ◌≤◌, ◌⊎◌, ⊎_elim, ℕ}
use Rattle.std.specs.Bool.{⊤}
use Rattle.std.specs.Option.{is_none, option_map_or}
use Rattle.std.proofs.lemmas.Bool.Decides.{nat_tests}
use Rattle.common.specs.declared.analyzer.Analyzer as analyzers
use Rattle.common.specs.declared.device.Device as devices
use Rattle.definitions.specs.Disk.{Rose}
use Rattle.definitions.specs.FaultNames.{reply_text}
use Rattle.definitions.specs.Lines.{lines_of}
use Rattle.definitions.specs.Replying.{AreReplies, HasReason, output_line, reply_to, state_after, stops}
use Rattle.definitions.specs.Step as steps
use Rattle.definitions.specs.declared.fault.Fault.{Fault}
use Rattle.definitions.specs.declared.fault.Fault.TheVariants as faults
use Rattle.index.specs.Runs.{EndsAfter, IsFailedRun, IsRun, IsRunOver, MeetsLimitOnWay}
use Rattle.index.specs.Outcomes.{index_in}
use Rattle.index.specs.Replied.{IsReplied}
use Rattle.index.specs.Sessions.{HasHeld, IsLeft, MeetsLimitAt, StandsFor, analysis_of, closed_session, failures_of, honest_of, parts_of, session_on}
use Rattle.index.specs.declared.session.Session.{Session}
use Rattle.index.proofs.Causes.{limit_no_memory}
use Rattle.index.proofs.Leavings.{memory_stays}
use Rattle.index_file.proofs.Faults.{device_failed}
use Rattle.serve_lines.specs.Serving.{Answers, AnswersAll, ComesTo, ServesAll, ServesFirst}
use Rattle.serve_lines.proofs.RunFacts.{more_answers, one_answer}

-- ---- failures

-- failures that rose between two numbers rose between a lesser and a greater
pub rose_between : (first before next last : ℕ) → first ≤ before → before ≤ next → next ≤ last → Rose before next → Rose first last
rose_between first before next last less up more (inl rose) = inl (omega (arith, rose, less, more))
rose_between first before next last less up more (inr full) = go (nat_lt first before) refl
  where
    go : (b : Bool) → nat_lt first before ≡ b → Rose first last
    go true is = (let under : first < before = grind (arith, nat_tests) in inl (omega (arith, under, up, more)))
    go false is = (let over : before ≤ first = grind (arith, nat_tests) in inr (omega (arith, over, less, full)))

module _ {D A : Type 0} {d : devices.Ghosts D} {a : analyzers.Ghosts A} where
  -- ---- one answer

  -- the failures don't fall
  answer_later : (session next : Session D A d a) (line answer : List ℕ) → Answers IsReplied session next line answer → failures_of session ≤ failures_of next
  answer_later session next line answer (inl (text, (result, is, same))) = is.later
  answer_later session next line answer (inr (stays, why)) = subst (λ (m : Session D A d a). failures_of session ≤ failures_of m) (sym stays) (omega arith)

  -- the device is as honest as it was
  answer_honest : (session next : Session D A d a) (line answer : List ℕ) → Answers IsReplied session next line answer → honest_of next ≡ honest_of session
  answer_honest session next line answer (inl (text, (result, is, same))) = is.honest
  answer_honest session next line answer (inr (stays, why)) = ap (λ (m : Session D A d a). honest_of m) stays

  -- of a state for which the session stands, the answer is the definitions', or a fault that stops
  abbrev IsStep : Session D A d a → Session D A d a → steps.Session → List ℕ → List ℕ → Type 0
  IsStep session next s line answer =
      ((answer ≡ reply_to steps.answer_of steps.after_line s line) × StandsFor next (state_after steps.answer_of steps.after_line s line))
      ⊎ ((fault : Fault) × HasReason (MeetsLimitAt session) (Rose (failures_of session) (failures_of next)) s line fault × (answer ≡ reply_text fault)
      × (IsTrue (honest_of session) → fault ≢ faults.Device → (t : steps.Session) × IsLeft s (steps.line_request line) fault t × StandsFor next t)
      × (IsTrue (honest_of session) → fault ≡ faults.Device → steps.is_ready s.stage ≡ true → StandsFor next (closed_session s) ⊎ StandsFor next (closed_session (steps.after_line s line))))

  step_of : (session next : Session D A d a) (s : steps.Session) (line answer : List ℕ) → StandsFor session s → Answers IsReplied session next line answer → IsStep session next s line answer
  step_of session next s line answer stands (inl (text, (Ok reply, is, same))) =
      inl (
        same ∙ (is.replies s stands).text ∙ ap (λ (o : Option Fault). option_map_or reply_text o (steps.answer_of s line)) (sym text),
        subst (λ (o : Option Fault). StandsFor next (if is_none o then steps.after_line s line else s)) (sym text) (is.replies s stands).state,
      )
  step_of session next s line answer stands (inl (text, (Err fault, is, same))) =
      inr (
        fault,
        record {
          stops = is.stops;
          limit = λ limit. (text, (is.replies s stands).limit (ap Err limit));
          device = λ device. (text, (is.replies s stands).failures.cause (ap Err device));
        },
        same,
        (is.replies s stands).left,
        λ honest device ready. (is.replies s stands).failed honest ready (ap Err device),
      )
  step_of session next s line answer stands (inr (stays, (fault, inl memory, same))) =
      inr (
        fault,
        record {
          stops = ap stops memory;
          limit = λ limit. absurd (limit_no_memory (sym limit ∙ memory));
          device = λ device. absurd (device_failed (sym device ∙ memory));
        },
        same,
        λ honest other. (s, (refl, inl (memory_stays s.stage (steps.line_request line) fault memory, refl)), subst (λ (m : Session D A d a). StandsFor m s) (sym stays) stands),
        λ honest device ready. absurd (device_failed (sym device ∙ memory)),
      )
  step_of session next s line answer stands (inr (stays, (fault, inr refused, same))) =
      inl (
        same ∙ ap (λ (o : Option Fault). option_map_or reply_text o (steps.answer_of s line)) (sym refused),
        subst (λ (o : Option Fault). StandsFor next (if is_none o then steps.after_line s line else s)) (sym refused) (subst (λ (m : Session D A d a). StandsFor m s) (sym stays) stands),
      )

  -- ---- all answers

  answers_later : (lines : List (List ℕ)) (session last : Session D A d a) (out : List ℕ) → AnswersAll IsReplied session last lines out → failures_of session ≤ failures_of last
  answers_later [] session last out (same, none) = subst (λ (m : Session D A d a). failures_of session ≤ failures_of m) (sym same) (omega arith)
  answers_later (line ∷ lines) session last out (next, answer, rest, is, one, all) =
      let here : failures_of session ≤ failures_of next = answer_later session next line answer one in
      let there : failures_of next ≤ failures_of last = answers_later lines next last rest all in
      omega (arith, here, there)

  answers_honest : (lines : List (List ℕ)) (session last : Session D A d a) (out : List ℕ) → AnswersAll IsReplied session last lines out → honest_of last ≡ honest_of session
  answers_honest [] session last out (same, none) = ap (λ (m : Session D A d a). honest_of m) same
  answers_honest (line ∷ lines) session last out (next, answer, rest, is, one, all) = answers_honest lines next last rest all ∙ answer_honest session next line answer one

  -- ---- the run

  module _ (first last : Session D A d a) (lines : List (List ℕ)) (out : List ℕ) where
    -- one line more, after some
    one_more : (line : List ℕ) (left done : List (List ℕ)) (sent part answer rest : List ℕ) (session next : Session D A d a) (s : steps.Session) → lines ≡ done ++ line ∷ left → out ≡ sent ++ part
        → AnswersAll IsReplied first session done sent → StandsFor session s → part ≡ output_line answer ++ rest → Answers IsReplied session next line answer → AnswersAll IsReplied next last left rest
        → ((t : steps.Session) → StandsFor next t → EndsAfter first last lines out t left rest) → EndsAfter first last lines out s (line ∷ left) part
    one_more line left done sent part answer rest session next s are is before stands split one all onward = at (step_of session next s line answer stands one)
      where
        comes : ComesTo IsReplied first last lines out session line
        comes = record {
          before = done;
          after = left;
          lines_are = are;
          sent = sent;
          rest = part;
          out_is = is;
          left = before;
          answers = (next, answer, rest, split, one, all);
        }

        rises : Rose (failures_of session) (failures_of next) → Rose (failures_of first) (failures_of last)
        rises rose = rose_between (failures_of first) (failures_of session) (failures_of next) (failures_of last) (answers_later done first session sent before) (answer_later session next line answer one) (answers_later left next last rest all) rose

        at : IsStep session next s line answer → EndsAfter first last lines out s (line ∷ left) part
        at (inl (told, standing)) = inl (rest, split ∙ ap (λ (x : List ℕ). output_line x ++ rest) told, onward (state_after steps.answer_of steps.after_line s line) standing)
        at (inr (fault, reason, told, leaves, closes)) =
            inr (
              fault,
              record {
                stops = reason.stops;
                limit = λ limit. let why = reason.limit limit in (why.0, (session, comes, stands, why.1));
                device = λ device. let why = reason.device device in (why.0, rises why.1);
              },
              rest,
              split ∙ ap (λ (x : List ℕ). output_line x ++ rest) told,
              λ honest other. let t = leaves (subst IsTrue (sym (answers_honest done first session sent before)) honest) other in (t.0, t.1, onward t.0 t.2),
              λ honest device ready. ⊎_elim
                  (λ closed. inl (onward (closed_session s) closed))
                  (λ closed. inr (onward (closed_session (steps.after_line s line)) closed))
                  (closes (subst IsTrue (sym (answers_honest done first session sent before)) honest) device ready),
            )

    -- the lines that are left, after some
    ends : (left done : List (List ℕ)) (sent part : List ℕ) (session : Session D A d a) (s : steps.Session) → lines ≡ done ++ left → out ≡ sent ++ part
        → AnswersAll IsReplied first session done sent → AnswersAll IsReplied session last left part → StandsFor session s → EndsAfter first last lines out s left part
    ends [] done sent part session s are is before (same, none) stands = (none, subst (λ (m : Session D A d a). StandsFor m s) (sym same) stands)
    ends (line ∷ left) done sent part session s are is before (next, answer, rest, split, one, all) stands =
        one_more line left done sent part answer rest session next s are is before stands split one all
        (λ t standing. ends left (done ++ line ∷ []) (sent ++ output_line answer) rest next t (are ∙ sym (append_assoc done (line ∷ []) left))
        (is ∙ ap (λ (l : List ℕ). sent ++ l) split ∙ sym (append_assoc sent (output_line answer) rest))
        (more_answers IsReplied done first session next (line ∷ []) sent (output_line answer) before (one_answer IsReplied session next line answer one)) all standing)

    -- these are replies
    are_replies : (left : List (List ℕ)) (s : steps.Session) (part : List ℕ) → EndsAfter first last lines out s left part
        → AreReplies steps.answer_of steps.after_line (MeetsLimitOnWay first last lines out) (Rose (failures_of first) (failures_of last)) s left part
    are_replies [] s part h = h.0
    are_replies (line ∷ left) s part (inl (rest, is, h)) = inl (rest, is, are_replies left (state_after steps.answer_of steps.after_line s line) rest h)
    are_replies (line ∷ left) s part (inr (fault, reason, rest, is, leaves, closes)) = inr (fault, reason, rest, is)

  -- lines that are all answered in turn are a run
  run_of : (first last : Session D A d a) (lines : List (List ℕ)) (old new : Option (List ℕ)) → ServesAll IsReplied first last lines old new → IsRun first last lines old new
  run_of first last lines old new (out, written, answers) = record {
    out = out;
    written = written;
    answers = answers;
    replies = λ s stands. are_replies first last lines out lines s out (ends first last lines out lines [] [] out first s refl refl (refl, refl) answers stands);
    ends = λ s stands. ends first last lines out lines [] [] out first s refl refl (refl, refl) answers stands;
  }

  -- and so are the first ones, where a read or a write fails
  failed_run_of : (first last : Session D A d a) (lines : List (List ℕ)) (old new : Option (List ℕ)) → ServesFirst IsReplied first last lines old new → IsFailedRun first last lines old new
  failed_run_of first last lines old new served = record {
    served = served;
    replies = λ s stands. are_replies first last served.done served.out served.done s served.out (ends first last served.done served.out served.done [] [] served.out first s refl refl (refl, refl) served.answers stands);
    ends = λ s stands. ends first last served.done served.out served.done [] [] served.out first s refl refl (refl, refl) served.answers stands;
  }

  pub is_run : {Z : Type 0} (result : Result ⊤ Z) (input : Option (List ℕ)) (first last : Session D A d a) (old new : Option (List ℕ))
      → OnOk result (IfSome input (λ bytes. ServesAll IsReplied first last (lines_of bytes) old new)) → OnOk result (IfSome input (λ bytes. IsRun first last (lines_of bytes) old new))
  is_run (Err fault) input first last old new served = tt
  is_run (Ok u) None first last old new served = tt
  is_run (Ok u) (Some bytes) first last old new served = run_of first last (lines_of bytes) old new served

  pub is_failed_run : {Z : Type 0} (result : Result ⊤ Z) (input : Option (List ℕ)) (first last : Session D A d a) (old new : Option (List ℕ))
      → OnErr result (IfSome input (λ bytes. ServesFirst IsReplied first last (lines_of bytes) old new)) → OnErr result (IfSome input (λ bytes. IsFailedRun first last (lines_of bytes) old new))
  is_failed_run (Ok u) input first last old new served = tt
  is_failed_run (Err fault) None first last old new served = tt
  is_failed_run (Err fault) (Some bytes) first last old new served = failed_run_of first last (lines_of bytes) old new served

  -- and a run over the parts of the first session
  pub is_run_over : {Z : Type 0} (result : Result ⊤ Z) (input : Option (List ℕ)) (device : D) (analyzer : A) (first last : Session D A d a) (old new : Option (List ℕ)) → parts_of first ≡ Some (device, analyzer) → index_in first ≡ None
      → ((held : steps.Held) → HasHeld d.honest d.content (a.analyze analyzer) device held → StandsFor first (session_on (analysis_of a.knows_name a.analyze analyzer) held))
      → OnOk result (IfSome input (λ bytes. IsRun first last (lines_of bytes) old new)) → OnErr result (IfSome input (λ bytes. IsFailedRun first last (lines_of bytes) old new))
      → IfSome input (λ bytes. IsRunOver d a device analyzer (lines_of bytes) old new result)
  is_run_over result None device analyzer first last old new parts empty stands run failed = tt
  is_run_over result (Some bytes) device analyzer first last old new parts empty stands run failed = record {
    first = first;
    last = last;
    parts = parts;
    index = empty;
    stands = stands;
    run = run;
    failed = failed;
  }
