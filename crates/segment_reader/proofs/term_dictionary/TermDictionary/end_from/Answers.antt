use Rattle.std.proofs.Common.{Bor, List, Option, ap, arith, length, option_map, sym, ◌∙◌, ℕ}
use Rattle.std.specs.List.{prefix_len}
use Rattle.segment_reader.proofs.KeptFound.{how_many}
use Rattle.segment_reader.proofs.Ranges.{all_true}
use Rattle.segment_reader.specs.Dictionaries.{Placed}
use Rattle.segment_reader.specs.Searching.{is_before}
use Rattle.segment_reader.proofs.term_dictionary.TermDictionary.end_from.Goals as goal

pub returns-in-None : goal.returns-in-None
returns-in-None c =
    how_many c.self.inside.section.now c.self.inside.shape c.self.inside.starts.now (omega arith) c.self.invariant
    ∙ ap length c.self.view_is
    ∙ sym (all_true c.args.self.now)
    ∙ ap (λ (o : Option (Bor (List ℕ))). prefix_len (λ (t : Placed). is_before (option_map (λ (key : Bor (List ℕ)). key.now) o) t.0) c.args.self.now) (sym c.in-None.is)
