-- What a decoder has read.
use Rattle.std.specs.Prelude.{List, take, ℕ}
use Rattle.codes.specs.declared.block_decoder.BlockDecoder.{BlockDecoder}

-- the numbers that were read last
abbrev pub output_list : BlockDecoder → List ℕ
output_list decoder = take decoder.output_len decoder.output

-- all numbers of its output, those that were read last first
abbrev pub output_numbers : BlockDecoder → List ℕ
output_numbers decoder = decoder.output
