pub mod ChunkLaws
pub mod FeedSteps
pub mod PieceLaws
