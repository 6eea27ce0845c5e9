pub mod Recount
pub mod Cleared
pub mod Afresh
pub mod ExchangeRecount
pub mod ExchangeAfresh
