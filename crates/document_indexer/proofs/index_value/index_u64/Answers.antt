use Rattle.std.proofs.Common.{IfErr, OnOk, subst, sym}
use Rattle.definitions.specs.Schema.{u64_kind}
use Rattle.document_values.specs.Shown.{value_of}
use Rattle.document_values.specs.declared.compact_value.CompactDocValue.{CompactDocValue}
use Rattle.document_indexer.specs.Contexts.{Records, Refuses}
use Rattle.document_indexer.specs.Steps.{plain_steps}
use Rattle.document_indexer.proofs.index_value.index_u64.Goals as goal

pub returns-in-U64-clause-ok : goal.returns-in-U64-clause-ok
returns-in-U64-clause-ok c =
    let P : CompactDocValue → Type 0 = λ v. OnOk c.index_fast_value.result (Records c.args.schema.now c.args.indexer.now c.index_fast_value.new.indexer (plain_steps u64_kind c.args.field (value_of v))) in
    subst P (sym c.in-U64.is) c.index_fast_value.ensures.ok

pub returns-in-U64-clause-err : goal.returns-in-U64-clause-err
returns-in-U64-clause-err c =
    let P : CompactDocValue → Type 0 = λ v. IfErr c.index_fast_value.result (Refuses c.args.schema.now c.args.indexer.now (plain_steps u64_kind c.args.field (value_of v))) in
    subst P (sym c.in-U64.is) c.index_fast_value.ensures.err
