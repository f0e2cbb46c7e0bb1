pub mod Free
pub mod Games
pub mod Sample
