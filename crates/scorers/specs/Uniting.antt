-- What a union of postings tells of a document.
use Rattle.std.specs.Prelude.{[], Bool, List, ◌+◌, ◌∷◌, flat_map, if◌then◌else◌, map, sum, ℕ}
use Rattle.docsets.specs.Entries.{Entry, most_positions, single}
use Rattle.docsets.specs.Distinct.{distinct}
use Rattle.docsets.specs.Members.{scores_in}

-- how often terms stand in a document
abbrev pub counts_in : List Entry → List ℕ
counts_in es = map (λ e. e.count) es

-- where they stand, one term behind the other
abbrev pub positions_in : List Entry → List ℕ
positions_in es = flat_map (λ e. single e.positions) es

-- where positions are told, those ascending, each once
abbrev pub told_positions : Bool → List Entry → List ℕ
told_positions told es = if told then distinct (positions_in es) else []

-- the scores added up and, where positions are told, the counts added up and the positions
abbrev pub uniting : Bool → ℕ → List Entry → Entry
uniting told d es = record { doc = d; score = sum (scores_in es); count = if told then sum (counts_in es) else 0; positions = told_positions told es ∷ [] }

-- the greatest numbers of positions of several lists added up
abbrev pub most_sum : List (List Entry) → ℕ
most_sum [] = 0
most_sum (es ∷ ess) = most_positions es + most_sum ess
