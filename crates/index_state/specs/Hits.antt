-- The words for hits, handed on to the crates above, which needn't name that of searches.
pub use Rattle.segment_search.specs.Counted.{IsTermQuery}
pub use Rattle.segment_search.specs.Hits.{scored, shown_hit}
pub use Rattle.segment_search.specs.declared.hits.StoredHit.{StoredHit}
