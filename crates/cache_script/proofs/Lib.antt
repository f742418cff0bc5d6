mod ContentLemmas
pub mod Known
mod NameTexts
mod Pending
mod PieceLemmas
mod PushingLemmas
mod ReadingLemmas
mod RoundTrip
mod Taking
mod TokenLemmas
mod WordLemmas
