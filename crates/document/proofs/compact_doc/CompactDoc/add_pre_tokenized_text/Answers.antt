use Rattle.definitions.specs.Values as values
use Rattle.document.proofs.LeafPairs.{tokens_pair}
use Rattle.document.proofs.compact_doc.CompactDoc.add_pre_tokenized_text.Goals as goal

pub add-requires : goal.add-requires
add-requires c = (
  (c.args.field, values.pre_tok_str c.args.text.now.0 c.args.text.now.1),
  tokens_pair c.args.field c.args.text.now.0 c.args.text.now.1 c.in_ok-pair.ensures.field c.in_ok-pair.ensures.held,
  c.in_ok-pair.ensures.pair,
)
