use Rattle.std.proofs.Common.{[], ap, arith, refl, subst, sym}
use Rattle.store.specs.Writing.{HoldsSlots, Written}
use Rattle.segment.proofs.segment_writer.SegmentWriter.with_hash_seed.Goals as goal

pub returns-clause-ok : goal.returns-clause-ok
returns-clause-ok c analyze =
    record {
      taken = tt;
      texts = λ some. absurd (omega (arith, some));
      num_docs_fit = omega arith;
      indexed = c.in_ok-with_hash_seed.ensures analyze;
      stored = subst (λ (w : Written). HoldsSlots w []) (sym c.new.ensures) ([], refl, refl);
      sized = ap (λ (w : Written). w.block_size) c.new.ensures;
    }
