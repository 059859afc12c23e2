mod BulletinLemmas
mod DueLemmas
pub mod RevenueLemmas
mod WorthLemmas
