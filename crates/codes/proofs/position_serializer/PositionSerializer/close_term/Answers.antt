use Rattle.codes.proofs.PositionsPut.{term_closed}
use Rattle.codes.proofs.position_serializer.PositionSerializer.close_term.Goals as goal

pub returns-clause-ok : goal.returns-clause-ok
returns-clause-ok c = term_closed c.args.self.now c.self.inside.out.items c.self.inside.waiting.items c.deref.result.now c.put_blocks.new.widths.items c.deref-2.result.now c.put_blocks.new.packed.items c.deref-3.result.now c.clear-3.new.self.items c.put_bytes.new.out.items c.extend_from_slice.new.self.items c.deref-4.result.now c.extend_from_slice-2.new.self.items c.clear-4.new.self.items c.self.view_is c.self.invariant c.deref.ensures.value c.deref-2.ensures.value c.deref-3.ensures.value c.in_ok-put_blocks.ensures c.clear-3.ensures.items c.in_ok-put_bytes.ensures.ok c.in_ok-extend_from_slice.ensures.items c.deref-4.ensures.value c.in_ok-extend_from_slice-2.ensures.items c.clear-4.ensures.items
