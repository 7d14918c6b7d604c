-- How far a run has come, and what that makes of the whole.
use Rattle.std.proofs.Common.{◌≡◌, ◌∙◌, ℕ, true, false, Option, None, Some, IfSome, OnErr, Result, Ok, Err, List, [], ◌∷◌, ◌++◌, refl, sym, ap, subst, append_assoc, append-nil, inl, inr, ⊎_elim}
use Rattle.std.specs.Io.KnownBytes.{Appends, Keeps}
use Rattle.std.specs.declared.alloc.Global.{Global}
use Rattle.std.specs.declared.borrow.CowStr.{CowStr}
use Rattle.std.proofs.KnownBytes.{Appends-trans, Appends-kept, Keeps-trans}
use Rattle.definitions.specs.Lines.{lines_of}
use Rattle.definitions.specs.Replying.{output_line}
use Rattle.definitions.specs.declared.fault.Fault.{Fault}
use Rattle.serve_lines.specs.Reading.{Holds, TakesLine}
use Rattle.serve_lines.specs.declared.line_buffer.LineBuffer.{LineBuffer}
use Rattle.serve_lines.specs.Serving.{Answers, AnswersAll, AppendsPart, ServesAll, ServesAtMost, ServesFirst, ServesLine, WritesPart}

-- known bytes stay as they were, and then grow
Appends-after : (a b c : Option (List ℕ)) (bs : List ℕ) → Keeps a b → Appends b c bs → Appends a c bs
Appends-after None b c bs kept grown = tt
Appends-after (Some x) None c bs kept grown = absurd kept
Appends-after (Some x) (Some y) None bs kept grown = absurd grown
Appends-after (Some x) (Some y) (Some z) bs kept grown = grown ∙ ap (λ l. l ++ bs) kept

module _ {Service : Type 0} (replies : Service → Service → List ℕ → Result (CowStr Global) Fault → Type 0) where
  -- the answer to one line
  pub one_answer : (service next : Service) (line answer : List ℕ) → Answers replies service next line answer → AnswersAll replies service next (line ∷ []) (output_line answer)
  one_answer service next line answer is = (next, answer, [], sym (append-nil (output_line answer)), is, (refl, refl))

  -- answers to some lines, and to those that follow
  pub more_answers : (done : List (List ℕ)) (service mid last : Service) (more : List (List ℕ)) (out part : List ℕ)
      → AnswersAll replies service mid done out → AnswersAll replies mid last more part → AnswersAll replies service last (done ++ more) (out ++ part)
  more_answers [] service mid last more out part (is, none) then =
      subst (λ (o : List ℕ). AnswersAll replies service last more (o ++ part)) (sym none) (subst (λ (m : Service). AnswersAll replies m last more part) is then)
  more_answers (line ∷ done) service mid last more out part (next, answer, rest, is, one, all) then =
      (next, answer, rest ++ part, ap (λ l. l ++ part) is ∙ append_assoc (output_line answer) rest part, one, more_answers done next mid last more rest part all then)

  -- ---- the run

  -- these bytes are left, and the lines before them were answered
  pub record Continues (began service : Service) (input : List ℕ) (left old new : Option (List ℕ)) : Type 0 where
    pub rest : List ℕ
    pub left-is : left ≡ Some rest
    pub done : List (List ℕ)
    pub are : lines_of input ≡ done ++ lines_of rest
    pub out : List ℕ
    pub written : Appends old new out
    pub answers : AnswersAll replies began service done out

  -- what was written so far for the input
  abbrev pub HasServed : Service → Service → Option (List ℕ) → Option (List ℕ) → Option (List ℕ) → Option (List ℕ) → Type 0
  HasServed began service None left old new = Unit {0}
  HasServed began service (Some input) left old new = Continues began service input left old new

  -- nothing yet
  pub HasServed-none : (began : Service) (input old : Option (List ℕ)) → Appends old old [] → HasServed began began input input old old
  HasServed-none began None old none = tt
  HasServed-none began (Some input) old none = record {
    rest = input;
    left-is = refl;
    done = [];
    are = refl;
    out = [];
    written = none;
    answers = (refl, refl);
  }

  -- one line more
  pub HasServed-more : (began service next : Service) (input left then old mid new : Option (List ℕ))
      → HasServed began service input left old mid → ServesLine replies service next true left then mid new → HasServed began next input then old new
  HasServed-more began service next None left then old mid new so_far served = tt
  HasServed-more began service next (Some input) left then old mid new so_far served =
      at then (subst (λ (l : Option (List ℕ)). ServesLine replies service next true l then mid new) so_far.left-is served)
    where
      at : (n : Option (List ℕ)) → ServesLine replies service next true (Some so_far.rest) n mid new → Continues began next input n old new
      at None h = absurd h
      at (Some rest) (line, are, (answer, written, is)) = record {
        rest = rest;
        left-is = refl;
        done = so_far.done ++ line ∷ [];
        are = so_far.are ∙ ap (λ ls. so_far.done ++ ls) are ∙ sym (append_assoc so_far.done (line ∷ []) (lines_of rest));
        out = so_far.out ++ output_line answer;
        written = Appends-trans old mid new so_far.out (output_line answer) so_far.written written;
        answers = more_answers so_far.done began service next (line ∷ []) so_far.out (output_line answer) so_far.answers (one_answer service next line answer is);
      }

  -- no line was left
  pub ServesAll-end : (began service last : Service) (input left then old mid new end : Option (List ℕ))
      → HasServed began service input left old mid → ServesLine replies service last false left then mid new → Keeps new end
      → IfSome input (λ bytes. ServesAll replies began last (lines_of bytes) old end)
  ServesAll-end began service last None left then old mid new end so_far served kept = tt
  ServesAll-end began service last (Some input) left then old mid new end so_far served kept =
      let none = at then (subst (λ (l : Option (List ℕ)). ServesLine replies service last false l then mid new) so_far.left-is served) in
      let all : lines_of input ≡ so_far.done = so_far.are ∙ ap (λ ls. so_far.done ++ ls) none.0 ∙ append-nil so_far.done in (
        so_far.out,
        Appends-kept old new end so_far.out (Appends-kept old mid new so_far.out so_far.written none.1) kept,
        subst (λ (ls : List (List ℕ)). AnswersAll replies began last ls so_far.out) (sym all)
            (subst (λ (s : Service). AnswersAll replies began s so_far.done so_far.out) (sym none.2) so_far.answers),
      )
    where
      at : (n : Option (List ℕ)) → ServesLine replies service last false (Some so_far.rest) n mid new → (lines_of so_far.rest ≡ []) × Keeps mid new × (last ≡ service)
      at None h = absurd h
      at (Some rest) h = h

  -- ---- a run that failed

  -- a part of an answer was written
  pub part_written : {T E : Type 0} (result : Result T E) (service next : Service) (line answer : List ℕ) (old new : Option (List ℕ)) → Answers replies service next line answer
      → OnErr result (AppendsPart old new (output_line answer)) → OnErr result (WritesPart replies service next line old new)
  part_written (Ok done) service next line answer old new is part = tt
  part_written (Err fault) service next line answer old new is part = (answer, part, is)

  -- no line was taken
  pub ServesAtMost-none : (service next : Service) (left then old mid new : Option (List ℕ))
      → ServesLine replies service next false left then old mid → Keeps mid new → IfSome left (λ rest. ServesAtMost replies service next (lines_of rest) old new)
  ServesAtMost-none service next None then old mid new h kept = tt
  ServesAtMost-none service next (Some input) None old mid new h kept = absurd h
  ServesAtMost-none service next (Some input) (Some rest) old mid new h kept = inl (h.2, Keeps-trans old mid new h.1 kept)

  -- none was read whole
  pub ServesAtMost-kept : (service : Service) (left old new : Option (List ℕ)) → Keeps old new → IfSome left (λ rest. ServesAtMost replies service service (lines_of rest) old new)
  ServesAtMost-kept service None old new kept = tt
  ServesAtMost-kept service (Some input) old new kept = inl (refl, kept)

  -- one was answered
  pub ServesAtMost-one : (service next : Service) (left then old mid new : Option (List ℕ)) (held : LineBuffer)
      → TakesLine true held left then → Keeps old mid → ((seen : List ℕ) → Holds held seen → WritesPart replies service next seen mid new)
      → IfSome left (λ rest. ServesAtMost replies service next (lines_of rest) old new)
  ServesAtMost-one service next None then old mid new held taken kept answered = tt
  ServesAtMost-one service next (Some input) None old mid new held taken kept answered = absurd taken
  ServesAtMost-one service next (Some input) (Some rest) old mid new held (line, holds, is) kept answered =
      let (answer, (part, end, split, grown), one) = answered line holds in
      inr (line, lines_of rest, is, (answer, (part, end, split, Appends-after old mid new part kept grown), one))

  -- one line more, or none
  pub ServesFirst-more : (began service next : Service) (input left old mid new : Option (List ℕ))
      → HasServed began service input left old mid → IfSome left (λ rest. ServesAtMost replies service next (lines_of rest) mid new)
      → IfSome input (λ bytes. ServesFirst replies began next (lines_of bytes) old new)
  ServesFirst-more began service next None left old mid new so_far more = tt
  ServesFirst-more began service next (Some input) left old mid new so_far more =
      ⊎_elim
      (λ (none : (next ≡ service) × Keeps mid new). record {
        done = so_far.done;
        left = lines_of so_far.rest;
        lines_are = so_far.are;
        out = so_far.out;
        answers = subst (λ (s : Service). AnswersAll replies began s so_far.done so_far.out) (sym none.0) so_far.answers;
        sent = so_far.out;
        is_sent = inl refl;
        written = Appends-kept old mid new so_far.out so_far.written none.1;
      })
      (λ (one : (line : List ℕ) × (lines : List (List ℕ)) × (lines_of so_far.rest ≡ line ∷ lines) × WritesPart replies service next line mid new).
      let (line, lines, is, (answer, (part, end, split, grown), answers)) = one in record {
        done = so_far.done ++ line ∷ [];
        left = lines;
        lines_are = so_far.are ∙ ap (λ ls. so_far.done ++ ls) is ∙ sym (append_assoc so_far.done (line ∷ []) lines);
        out = so_far.out ++ output_line answer;
        answers = more_answers so_far.done began service next (line ∷ []) so_far.out (output_line answer) so_far.answers (one_answer service next line answer answers);
        sent = so_far.out ++ part;
        is_sent = inr (
          service,
          line,
          record {
            before = so_far.done;
            after = [];
            lines_are = refl;
            sent = so_far.out;
            rest = output_line answer;
            out_is = refl;
            left = so_far.answers;
            answers = one_answer service next line answer answers;
          },
          refl,
          part,
          end,
          split,
          refl,
        );
        written = Appends-trans old mid new so_far.out part so_far.written grown;
      })
      (subst (λ (l : Option (List ℕ)). IfSome l (λ rest. ServesAtMost replies service next (lines_of rest) mid new)) so_far.left-is more)
