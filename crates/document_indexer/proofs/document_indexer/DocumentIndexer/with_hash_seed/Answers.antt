use Rattle.std.proofs.Common.{[], ap, arith, map, refl, subst, sym, ◌∙◌}
use Rattle.codes.proofs.RecordedLengths.{no_ids as none}
use Rattle.layouts.specs.Deltas.{IsAscendingFrom}
use Rattle.document_indexer.specs.Contexts.{AreBefore, Positions}
use Rattle.document_indexer.proofs.KeptLengths.{fields_ascend}
use Rattle.document_indexer.proofs.document_indexer.DocumentIndexer.with_hash_seed.Goals as goal

pub for_fields-requires : goal.for_fields-requires
for_fields-requires c = subst (IsAscendingFrom 0) (sym (c.deref.ensures.value ∙ c.in_ok-fields.ensures)) (fields_ascend c.args.schema.now)

pub returns : goal.returns
returns c analyze =
    let rest = c.in_ok-context.ensures.rest in
    record {
      recorded = record {
        written = record {
          os = [];
          stands = c.in_ok-context.ensures.stands;
          occurrences_are = λ t. refl;
          num_docs_within = (let docs = c.in_ok-context.ensures.docs in omega arith);
        };
        count = rest.1;
        before = (let P : Positions → Type 0 = λ ps. AreBefore c.in_ok-context.context.doc ps in subst P (sym rest.0) (λ prefix. tt));
      };
      norms_are = c.in_ok-norms.ensures ∙ ap (map (λ field. (field, none))) (c.deref.ensures.value ∙ c.in_ok-fields.ensures);
    }
