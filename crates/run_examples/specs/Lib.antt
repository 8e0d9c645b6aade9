pub mod ReelTurn
pub mod RefusalExamples
pub mod RunExamples
pub mod RunTest
pub mod WorkedRun
