use Rattle.std.proofs.Common.{◌-◌, ◌<◌, ◌≡◌, ◌≤◌, drop, length, take}
use Rattle.languages.specs.Words.{run_words, words_from}
use Rattle.languages.proofs.cutting.word_len.Given as goal

-- the characters read so far are of the first word
abbrev pub invariant-loop-len : goal.invariant-loop-len
invariant-loop-len l = record {
  words : run_words l.run ≡ words_from l.first (take l.len l.run) (drop l.len l.run);
  some : 0 < l.len;
  within : l.len ≤ length l.run;
}

abbrev pub decreases-loop-len : goal.decreases-loop-len
decreases-loop-len l = length l.run - l.len
