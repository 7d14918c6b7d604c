use Rattle.std.proofs.Common.{List, length, rules, subst, sym, ◌++◌, ◌≡◌, ℕ}
use Rattle.common.proofs.WordBytes.{Reads, reads_more}
use Rattle.common.proofs.bit_words.words_in.Goals as goal

pub loop-first-preserved : goal.loop-first-preserved
loop-first-preserved c =
    let splits : c.loop-first.rest.now ≡ c.in-Some.first.now ++ c.in-Some.after.now = search rules in
    let eight : length c.in-Some.first.now ≡ 8 = search rules in
    let P : List ℕ → Type 0 = λ ws. Reads c.args.bytes.now ws c.in-Some.after.now in
    subst P (sym c.in_ok-push.ensures.items) (reads_more c.args.bytes.now c.loop-first.words.items c.loop-first.rest.now c.in-Some.first.now c.in-Some.after.now c.from_le_bytes.result c.loop-first.invariant splits eight c.from_le_bytes.ensures)
