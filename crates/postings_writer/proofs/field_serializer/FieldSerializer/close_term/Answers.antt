use Rattle.std.proofs.Common.{[], ap, arith, Bool, length, length-append, List, subst, sym, ◌++◌, ◌∙◌, ℕ, if◌then◌else◌}
use Rattle.definitions.specs.Schema.{has_positions}
use Rattle.layouts.specs.InvertedIndexes.{HasPositions}
use Rattle.postings_writer.specs.FieldWriting.{FieldWriting, IsClosed, IsOpen, postings_of}
use Rattle.postings_writer.specs.TermWriting.{Writing}
use Rattle.postings_writer.proofs.ClosedTerms.{none_waits, numbers_recorded, same_entry}
use Rattle.postings_writer.proofs.field_serializer.FieldSerializer.close_term.Goals as goal

pub returns-clause-ok : goal.returns-clause-ok
returns-clause-ok c docs counts numbers a =
    let was = c.self.inside in
    let w = was.postings_serializer in
    let P : FieldWriting → Type 0 = λ x. IsOpen x docs counts numbers in
    let open_term = subst P (sym c.self.view_is) a in
    let p = c.in_ok-close_positions.ensures.ok in
    let option = ap (λ (x : Writing). has_positions x.option) c.in_ok-close_term.ensures.begun in
    let stands = c.self-2.view_is ∙ p.2 in
    let put = ap (λ (x : FieldWriting). x.postings) stands ∙ c.in_ok-close_term.ensures.ok docs counts open_term.written (sym open_term.doc_freq_is) in
    let H : Bool → Type 0 = λ b. HasPositions b was.positions_serializer.1 p.0 in
    let placed = ap (λ (x : FieldWriting). x.positions) stands ∙ ap (λ ys. (was.positions_serializer.0 ++ p.0, ys)) (ap (λ b. if b then [] else was.positions_serializer.1) option ∙ none_waits (has_positions w.option) was.positions_serializer.1 numbers open_term.numbers_are) in
    let Q : FieldWriting → Type 0 = λ x. IsClosed x (record { field = c.self-2.inside.field; num_tokens = c.in_ok-num_tokens.num_tokens; terms = c.insert.new.self; postings = c.self-2.inside.postings.items; positions = c.self-2.inside.positions_serializer; key = c.self-2.inside.key.items; doc_freq = c.self-2.inside.doc_freq; total_term_freq = c.self-2.inside.total_term_freq; writing = c.self-2.inside.postings_serializer }) docs counts numbers in
    subst Q c.self.view_is (record {
      bytes = p.0;
      posted = c.in_ok-close_term.ensures.posted docs counts open_term.written;
      sums_fit = c.in_ok-close_term.ensures.sums docs counts open_term.written;
      postings_fit = c.in_ok-close_term.ensures.within docs counts open_term.written (sym open_term.doc_freq_is);
      positions_fit = (let more = ap (λ (x : List ℕ × List ℕ). length x.0) placed in omega (arith, more, length-append was.positions_serializer.0 p.0, c.written_bytes.ensures, c.written_bytes-positions_start.ensures, c.if-positions_len.false));
      terms_fit = (let here = c.in_ok-insert.ensures.within in let same = ap (λ (x : FieldWriting). x.terms.num_terms) stands in omega arith);
      positions_are = numbers_recorded (has_positions w.option) was.positions_serializer.1 numbers p.0 open_term.numbers_are (subst H option p.1);
      postings = put;
      positions = placed;
      terms = c.in_ok-insert.ensures.ok ∙ same_entry _ _ _ _ _ _ _ _ _ _ (c.deref.ensures.value ∙ ap (λ (x : FieldWriting). x.key) stands) open_term.doc_freq_is
          (let more = ap length put in omega (arith, more, length-append was.postings.items (postings_of w docs counts), c.len.ensures, c.len-postings_start.ensures, was.postings.ok.0, c.self-2.inside.postings.ok.0))
          (let more = ap (λ (x : List ℕ × List ℕ). length x.0) placed in omega (arith, more, length-append was.positions_serializer.0 p.0, c.written_bytes.ensures, c.written_bytes-positions_start.ensures))
          (ap (λ (x : FieldWriting). x.terms) stands);
    })
