pub mod Copies
pub mod FewMessages
pub mod Feeding
pub mod Lending
pub mod Handing
pub mod Starting
pub mod Knowing
