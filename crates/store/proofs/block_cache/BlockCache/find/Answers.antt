use Rattle.std.proofs.Common.{Option, ap, sym, ◌∙◌, ℕ, List}
use Rattle.lru.specs.LruCache.{LruCache}
use Rattle.store.specs.declared.block_cache.BlockCache.{BlockCache}
use Rattle.store.specs.Caches.{kept_of, looked_up}
use Rattle.store.proofs.Kept.{kept_hit, kept_miss, kept_there, same_in, there_in}
use Rattle.store.proofs.block_cache.BlockCache.find.Goals as goal

abbrev with_cache : BlockCache → Option (LruCache ℕ (List ℕ)) → BlockCache
with_cache b o = record { cache = o; hits = b.hits; misses = b.misses }

pub returns-in-Ok-None-clause-kept : goal.returns-in-Ok-None-clause-kept
returns-in-Ok-None-clause-kept c =
    kept_miss c.args.at c.in-Some.cache c.look_up.new.cache c.args.self.now.hits c.args.self.now.misses _ (sym c.in-Ok-None.ensures.value ∙ c.in-Ok-None.field-0-is) c.look_up.ensures.entries c.saturating_add-self-in-Ok-None.ensures
    ∙ ap (λ o. looked_up c.args.at (kept_of (with_cache c.args.self.now o))) (sym c.in-Some.is)

pub returns-in-Ok-Some-clause-kept : goal.returns-in-Ok-Some-clause-kept
returns-in-Ok-Some-clause-kept c =
    kept_hit c.args.at c.in-Some.cache c.look_up.new.cache c.args.self.now.hits c.args.self.now.misses _ c.in-Ok-Some.block (sym c.in-Ok-Some.ensures.value ∙ c.in-Ok-Some.field-0-is) c.look_up.ensures.entries c.saturating_add-self-in-Ok-Some.ensures
    ∙ ap (λ o. looked_up c.args.at (kept_of (with_cache c.args.self.now o))) (sym c.in-Some.is)

pub returns-in-Err-clause-kept : goal.returns-in-Err-clause-kept
returns-in-Err-clause-kept c =
    kept_there c.args.at c.in-Some.cache c.look_up.new.cache c.args.self.now.hits c.args.self.now.misses _ c.in-Err.ensures.err c.look_up.ensures.entries c.saturating_add-self-in-Err.ensures
    ∙ ap (λ o. looked_up c.args.at (kept_of (with_cache c.args.self.now o))) (sym c.in-Some.is)

pub returns-in-Ok-None-clause-entries : goal.returns-in-Ok-None-clause-entries
returns-in-Ok-None-clause-entries c = there_in c.args.at c.args.self.now.cache c.in-Some.cache c.look_up.new.cache c.in-Some.is c.look_up.ensures.entries

pub returns-in-Ok-None-clause-same : goal.returns-in-Ok-None-clause-same
returns-in-Ok-None-clause-same c = same_in c.args.at c.args.self.now.cache c.in-Some.cache c.look_up.new.cache c.in-Some.is c.look_up.ensures.entries

pub returns-in-Ok-Some-clause-entries : goal.returns-in-Ok-Some-clause-entries
returns-in-Ok-Some-clause-entries c = there_in c.args.at c.args.self.now.cache c.in-Some.cache c.look_up.new.cache c.in-Some.is c.look_up.ensures.entries

pub returns-in-Ok-Some-clause-same : goal.returns-in-Ok-Some-clause-same
returns-in-Ok-Some-clause-same c = same_in c.args.at c.args.self.now.cache c.in-Some.cache c.look_up.new.cache c.in-Some.is c.look_up.ensures.entries

pub returns-in-Err-clause-entries : goal.returns-in-Err-clause-entries
returns-in-Err-clause-entries c = there_in c.args.at c.args.self.now.cache c.in-Some.cache c.look_up.new.cache c.in-Some.is c.look_up.ensures.entries

pub returns-in-Err-clause-same : goal.returns-in-Err-clause-same
returns-in-Err-clause-same c = same_in c.args.at c.args.self.now.cache c.in-Some.cache c.look_up.new.cache c.in-Some.is c.look_up.ensures.entries
