pub mod Imports
mod TextRanks
mod RankLaws
mod SortingLaws
mod HeadLaws
mod MergingLaws
mod MergeLaws
