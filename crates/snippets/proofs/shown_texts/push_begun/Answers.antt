-- A character that has room, one that has none, and the end of the text.
use Rattle.std.proofs.Common.{arith, string_bytes}
use Rattle.std.proofs.lemmas.Str.{IsUtf8-past_char}
use Rattle.snippets.proofs.ShownTexts.{begun_before, begun_on, begun_whole}
use Rattle.snippets.proofs.shown_texts.push_begun.Goals as goal

pub returns-then-len-room : goal.returns-then-len-room
returns-then-len-room c =
    let held = c.loop-c.invariant in
    begun_before (string_bytes c.loop-c.out) _ _ _ c.in-Some.c c.len_utf8-len.result c.loop-c.room held.0 c.in-Some.ensures.steps.0 c.len_utf8-len.ensures.value (omega arith) held.1

pub loop-c-preserved : goal.loop-c-preserved
loop-c-preserved c =
    let held = c.loop-c.invariant in
    let parts = c.in-Some.ensures.steps.0 in
    (IsUtf8-past_char _ _ c.in-Some.c held.0 parts, begun_on _ (string_bytes c.loop-c.out) _ _ _ c.in-Some.c c.shown_char.result c.len_utf8-len.result c.loop-c.room held.0 parts c.len_utf8-len.ensures.value (omega arith) c.in_ok-push.ensures.bytes c.shown_char.ensures held.1)

pub returns : goal.returns
returns c = begun_whole (string_bytes c.loop-c.out) _ _ c.loop-c.room c.in-None.ensures.steps.0.0 c.loop-c.invariant.1
