use Rattle.std.proofs.Common.{take, ◌++◌, ◌≡◌}
use Rattle.std.specs.List.{flat_map}
use Rattle.definitions.specs.NumberCodes.{u64_bytes}
use Rattle.common.proofs.bit_words.put_words.Given as goal

-- the words before this one are put
abbrev pub invariant-loop-word : goal.invariant-loop-word
invariant-loop-word l = l.out.items ≡ l.fn.out.items ++ flat_map u64_bytes (take l.word-index l.words)
