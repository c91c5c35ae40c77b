pub mod EditsLemmas
pub mod SettledLemmas
pub mod StepsLemmas
