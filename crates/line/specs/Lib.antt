pub mod Decides
pub mod Digits
pub mod Fold
pub mod FoldLaws
pub mod Keys
pub mod Line
pub mod LineExamples
pub mod Numbers
