use Rattle.std.proofs.Common.{◌≡◌, ℕ, ◌-◌, List, [], ◌++◌, rules, refl, length, take, drop, sym, ap, ◌∙◌, subst, append_assoc, append-nil, take-append-drop, drop_of_length-le}
use Rattle.std.proofs.lemmas.List.{take_rest}
use Rattle.std.specs.Io.KnownBytes.{Appends}
use Rattle.std.proofs.KnownBytes.{Appends-kept, Appends-nil, Appends-trans}
use Rattle.serve_lines.proofs.line_run.write_bytes.Goals as goal

-- a front of what is left went
front_moved : (all done rest : List ℕ) (n : ℕ) → all ≡ done ++ rest → all ≡ (done ++ take n rest) ++ take (length rest - n) (drop n rest)
front_moved all done rest n split =
    split ∙ ap (λ l. done ++ l) (sym (take-append-drop n rest)) ∙ sym (append_assoc done (take n rest) (drop n rest))
    ∙ ap (λ l. (done ++ take n rest) ++ l) (sym (take_rest rest n))

pub loop-init : goal.loop-init
loop-init g c = ([], refl, Appends-nil _)

pub loop-preserved : goal.loop-preserved
loop-preserved g c =
    let (done, split, grown) = c.loop.invariant in
    let rest = c.loop.rest.now in
    let len = c.in-Ok.len in
    (done ++ take len rest, front_moved _ done rest len split, Appends-trans _ _ _ done (take len rest) grown c.in-Ok.ensures.written)

pub returns-then-is_empty-clause-written : goal.returns-then-is_empty-clause-written
returns-then-is_empty-clause-written g c =
    let (done, split, grown) = c.loop.invariant in
    let empty : c.loop.rest.now ≡ [] = drop_of_length-le c.loop.rest.now {i = 0} (search rules) in
    subst (Appends _ _) (sym (split ∙ ap (λ l. done ++ l) empty ∙ append-nil done)) grown

pub returns-in-Err-clause-part : goal.returns-in-Err-clause-part
returns-in-Err-clause-part g c =
    let (done, split, grown) = c.loop.invariant in
    (done, c.loop.rest.now, split, Appends-kept _ _ _ done grown c.in-Err.ensures.unwritten)

pub returns-clause-part : goal.returns-clause-part
returns-clause-part g c =
    let (done, split, grown) = c.loop.invariant in
    (done, c.loop.rest.now, split, grown)
