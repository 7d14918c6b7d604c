use Rattle.std.proofs.Common.{None, Option, ap, nat_eq, subst, sym, ◌<◌, ◌∙◌, ◌≡◌, ℕ, List}
use Rattle.std.specs.Map.{lookup}
use Rattle.lru.specs.LruCache.{LruCache}
use Rattle.store.specs.declared.block_cache.BlockCache.{BlockCache}
use Rattle.store.specs.Caches.{HasRoomIn, entries_in, kept_entries, kept_of, opened}
use Rattle.store.proofs.Kept.{put_kept, put_new}
use Rattle.store.proofs.block_cache.BlockCache.keep.Goals as goal

abbrev with_cache : BlockCache → Option (LruCache ℕ (List ℕ)) → BlockCache
with_cache b o = record { cache = o; hits = b.hits; misses = b.misses }

pub returns-in_ok-put-clause-entries : goal.returns-in_ok-put-clause-entries
returns-in_ok-put-clause-entries c =
    let none : lookup (nat_eq c.args.at) c.in-Some.cache.entries ≡ None = subst (λ o. lookup (nat_eq c.args.at) (entries_in o) ≡ None) c.in-Some.is c.requires.absent in
    let room : 0 < c.in-Some.cache.cap = subst HasRoomIn c.in-Some.is c.requires.room in
    ap (λ (x : LruCache ℕ (List ℕ)). x.entries) (put_new c.args.at c.args.block c.in-Some.cache c.put.new.self none room c.in_ok-put.ensures.entries)
    ∙ ap (λ o. kept_entries c.args.at c.args.block (with_cache c.args.self.now o)) (sym c.in-Some.is)

pub returns-in_ok-put-clause-kept : goal.returns-in_ok-put-clause-kept
returns-in_ok-put-clause-kept c =
    let none : lookup (nat_eq c.args.at) c.in-Some.cache.entries ≡ None = subst (λ o. lookup (nat_eq c.args.at) (entries_in o) ≡ None) c.in-Some.is c.requires.absent in
    let room : 0 < c.in-Some.cache.cap = subst HasRoomIn c.in-Some.is c.requires.room in
    put_kept c.args.at c.args.block c.in-Some.cache c.put.new.self c.args.self.now.hits c.args.self.now.misses none room c.in_ok-put.ensures.entries
    ∙ ap (λ o. opened c.args.at (kept_of (with_cache c.args.self.now o))) (sym c.in-Some.is)
