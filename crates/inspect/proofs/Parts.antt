-- The parts of a body, by their indices.
use Rattle.std.proofs.Common.{◌<◌, ◌∙◌, ◌≡◌, List, ap, get_or, length, map, ℕ}
use Rattle.std.proofs.lemmas.Option.{slice_get-get_or, slice_get-map}
use Rattle.std.specs.Prelude.{Some, option_map, slice_get}
use Rattle.index_file.specs.Parts.{part_of}
use Rattle.index_file.specs.declared.part.Part.{Part}

pub part_at : (parts : List Part) (i : ℕ) (d : Part) → i < length parts → slice_get (map part_of parts) i ≡ Some (part_of (get_or parts i d))
part_at parts i d within = slice_get-map part_of parts i ∙ ap (option_map part_of) (slice_get-get_or parts i d within)
