pub mod StampedWriteLemmas
pub mod ReadGroups
pub mod ReadWrites
pub mod BatchLemmas
mod Unescaped
mod InOrder
pub mod OneMessage
pub mod ReadsBack
pub mod WrittenLemmas
pub mod OneDeltaMessage
pub mod DeltaReadsBack
pub mod DeltaWrittenLemmas
pub mod DraftLemmas
pub mod JoinedLemmas
pub mod PieceLemmas
mod UnsentLemmas
pub use Rattle.xds_json.proofs.Lists
