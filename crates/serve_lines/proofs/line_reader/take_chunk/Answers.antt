use Rattle.std.proofs.Common.{◌≤◌, ◌+◌, length, take, subst, arith, take_all, le_refl}
use Rattle.std.specs.Io.BufRead.{FillKeeps}
use Rattle.std.specs.Io.KnownBytes.{Consumes}
use Rattle.std.proofs.BufReadLemmas.{Consumes_shown}
use Rattle.serve_lines.proofs.ChunkFacts.{HasNoNewline-before, HasNoNewline-all, take-newline}
use Rattle.serve_lines.proofs.line_reader.take_chunk.Goals as goal

pub returns-in-Some-clause-ok : goal.returns-in-Some-clause-ok
returns-in-Some-clause-ok g c =
    let shown = c.in_ok-shown.shown.now in
    let end = c.in-Some.end in
    let found = c.in-Some.ensures in
    let within : end + 1 ≤ length shown = omega (arith, found.0.high) in
    let rested = c.fill_buf.follows.lender-at-none in
    let filled = subst (FillKeeps _ (g.R.Read.remaining rested) (g.R.BufRead.consumable_len rested)) c.in_ok-shown.was c.fill_buf.follows.holds-at-none in
    let moved = Consumes_shown _ _ _ _ shown (end + 1) within c.in_ok-shown.ensures.front c.in_ok-shown.ensures.end filled.0 filled.1 c.consume.ensures.bytes in (
      take end shown,
      HasNoNewline-before shown end (omega arith) found.0.before,
      subst (Consumes _ _) (take-newline shown end (omega arith) found.1) moved.0,
      c.add.ensures,
    )

pub returns-in-None-clause-ok : goal.returns-in-None-clause-ok
returns-in-None-clause-ok g c =
    let shown = c.in_ok-shown.shown.now in
    let rested = c.fill_buf.follows.lender-at-none in
    let filled = subst (FillKeeps _ (g.R.Read.remaining rested) (g.R.BufRead.consumable_len rested)) c.in_ok-shown.was c.fill_buf.follows.holds-at-none in
    let moved = Consumes_shown _ _ _ _ shown (length shown) (le_refl _) c.in_ok-shown.ensures.front c.in_ok-shown.ensures.end filled.0 filled.1 c.consume-in-None.ensures.bytes in (
      shown,
      HasNoNewline-all shown c.in-None.ensures,
      subst (Consumes _ _) (take_all (length shown) shown (le_refl _)) moved.0,
      c.add-in-None.ensures,
    )
