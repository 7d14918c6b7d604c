-- Alive sets of segments: what the proofs of types must name.
pub use Rattle.segment_search.proofs.Flags.{AreFlagged-prop}
