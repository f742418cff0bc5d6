mod Descents
mod RowLemmas
mod Candidates
mod Kept
