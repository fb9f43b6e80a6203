pub mod Ranks
pub mod RankProps
pub mod Sorting
pub mod Sorted
pub mod Heads
pub mod Merging
