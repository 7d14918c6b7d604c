-- The code's lengths of a term, and its parts.
use Rattle.std.specs.Prelude.{ℕ}
use Rattle.layouts.specs.TermSections.{TermLengths}
use Rattle.front_coding.specs.LookUps.{Parts}
use Rattle.front_coding.specs.declared.term_lengths.EntryLengths.{EntryLengths}
use Rattle.front_coding.specs.declared.look_ups.EntryParts.{EntryParts}
use Rattle.front_coding.specs.declared.look_ups.TermPlace.{TermPlace}

abbrev pub lengths_of : EntryLengths → TermLengths
lengths_of l = record { doc_freq = l.doc_freq; postings_len = l.postings_len; positions_len = l.positions_len }

abbrev pub parts_as : EntryParts → Parts
parts_as p = record { shared_len = p.shared_len; left = p.left.now; lengths = lengths_of p.lengths }

-- a term that was found: its lengths, and where its postings and positions begin
abbrev pub located_at : TermPlace → TermLengths × ℕ × ℕ
located_at f = (lengths_of f.lengths, f.postings, f.positions)
