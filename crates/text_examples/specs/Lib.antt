pub mod TextExamples
