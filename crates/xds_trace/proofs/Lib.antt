pub mod Accounts
pub mod Pending
pub mod Agreeing
pub mod Requests
pub mod Writes
pub mod StreamLines
pub mod Offering
pub mod Answering
pub mod DeltaAnswers
pub mod Judging
pub mod StreamRequests
pub mod StreamPolls
pub mod StreamAnswers
pub mod StreamSends
pub mod Following
pub mod Keeping
pub mod Tracing
pub mod Speaking
pub mod InOrder
pub mod Named
pub mod Numbering
pub mod Told
pub mod Tellable
pub mod Traced
mod Joining
mod TextLemmas
mod AnyBase
mod Sites
