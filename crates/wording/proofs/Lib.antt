-- Laws of the words, with no code in sight.
pub mod MeaningLaws
