-- Words of the crates below this one, handed on so that the crates above needn't list those.
pub use Rattle.index_state.specs.Hits.{StoredHit, scored, shown_hit}
pub use Rattle.index_state.specs.Standing.{IsSlotTooLong, status_of}
