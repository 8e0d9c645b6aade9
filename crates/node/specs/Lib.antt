pub mod DigestLaws
pub mod NodeLaws
pub mod WordLaws
pub mod Words
