pub mod Batches
pub mod NumberLemmas
pub mod Pending
pub mod PutLemmas
pub mod Putting
pub mod ReadLemmas
pub mod RowLemmas
pub mod Transactions
