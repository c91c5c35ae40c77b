pub mod CommandTexts
pub mod FaultTexts
