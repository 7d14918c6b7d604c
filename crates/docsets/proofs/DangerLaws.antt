-- Laws of cursors that were asked for a document.
use Rattle.std.proofs.Common.{◌<◌, ◌≡◌, ◌∙◌, List, ap, arith, ℕ}
use Rattle.docsets.specs.Entries.{Entry, Rising, first, from}
use Rattle.docsets.proofs.EntryLaws.{IsRest-from, from-from}
use Rattle.docsets.specs.Danger.{IsDangerAnswer, Missed}
use Rattle.docsets.specs.declared.seek_danger_result.SeekDangerResult.{SeekDangerResult}
use Rattle.docsets.specs.declared.seek_danger_result.SeekDangerResult.TheVariants.{Found, SeekLowerBound}

-- whatever the answer, what remains from the document on is what remained
pub danger-kept : (answer : SeekDangerResult) (t : ℕ) (before after : List Entry) → IsDangerAnswer answer t before after → from t after ≡ from t before
danger-kept Found t before after d = ap (from t) d.1 ∙ from-from t t before (omega arith)
danger-kept (SeekLowerBound bound) t before after d = d.kept

-- a plain seek past the document is an answer
pub missed-seek : (t bound low : ℕ) (before after : List Entry) → Rising low before → after ≡ from t before → bound ≡ first after → t < bound → Missed t bound before after
missed-seek t bound low before after r cut at l =
    let first_doc : bound ≡ first (from t before) = at ∙ ap first cut in
    record {
      above = l;
      before_next = omega (arith, first_doc);
      rest = (let rest = IsRest-from t low before r in (rest.0, cut ∙ rest.1));
      kept = ap (from t) cut ∙ from-from t t before (omega arith);
    }
