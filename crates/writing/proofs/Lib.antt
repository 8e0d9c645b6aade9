pub mod HeldAt
pub mod LineStores
pub mod PutLevels
