use Rattle.std.proofs.Common.{Contains, inl, inr, subst, sym, ◌∙◌}
use Rattle.store.specs.Caches.{capacity_in, entries_of}
use Rattle.store.proofs.Kept.{among_more, opened_hit}
use Rattle.store.proofs.block_cache.BlockCache.open.Goals as goal

pub returns-in-Some-clause-kept : goal.returns-in-Some-clause-kept
returns-in-Some-clause-kept c = c.find.ensures.kept ∙ opened_hit c.args.at c.args.self.now c.in-Some.block (sym c.in-Some.is ∙ c.in_ok-block.ensures.value)

pub returns-clause-entries : goal.returns-clause-entries
returns-clause-entries c = λ e h.
    let kept = subst (λ es. Contains es e) c.in_ok-keep.ensures.entries h in
    elim (among_more (capacity_in c.find.new.self.cache) c.args.at c.in_ok-clone.field-0 (entries_of c.find.new.self) e kept) [
      | inl old ↦ inl (c.find.ensures.entries e old)
      | inr new ↦ inr (new.0, (new.1 ∙ c.in_ok-clone.ensures.cases ∙ c.in_ok-block-2.ensures.ok.0, c.in_ok-block-2.ensures.ok.1))
    ]
