use Rattle.std.proofs.Common.{ap, arith, subst}
use Rattle.store.specs.Writing.{AreWritten, Written, docs_of}
use Rattle.store.proofs.Writes.{pending_long}
use Rattle.store.proofs.store_writer.StoreWriter.num_docs.Goals as goal

pub overflow_add-result : goal.overflow_add-result
overflow_add-result c = (let st = c.self.invariant.0 in let first = st.doc in let many = (pending_long st).1 in let docs = c.self.invariant.1.docs in omega (arith, c.self.inside.parts.starts.ok.0))

pub overflow_cast-result : goal.overflow_cast-result
overflow_cast-result c = (let st = c.self.invariant.0 in let many = (pending_long st).1 in let docs = c.self.invariant.1.docs in omega (arith, c.self.inside.parts.starts.ok.0))

pub returns-clause-count : goal.returns-clause-count
returns-clause-count c = (let st = c.self.invariant.0 in let first = st.doc in let many = (pending_long st).1 in omega (arith, ap docs_of c.self.view_is, c.self.inside.parts.starts.ok.0))

pub returns-clause-valid : goal.returns-clause-valid
returns-clause-valid c = subst (λ (w : Written). AreWritten w.block_size w.blocks w.pending) c.self.view_is c.self.invariant.1
