use Rattle.std.proofs.Common.{List, subst, sym, ◌/◌}
use Rattle.layouts.specs.SkipEntries.{AreSkips, SkipEntry}
use Rattle.codes.specs.SkipBlocks.{Skips}
use Rattle.codes.proofs.skip_reader.SkipReader.reset.Goals as goal

pub new-requires : goal.new-requires
new-requires c = subst (λ (s : Skips). ∥ ((entries : List SkipEntry) × AreSkips s.counts s.positions (c.args.doc_freq / 128) c.args.bytes.now entries) ∥₁) (sym c.self.view_is) c.requires
