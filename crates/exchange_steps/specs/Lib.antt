pub mod Exchange
pub mod ExchangeLaws
pub mod ExchangePassed
pub mod ExchangePassedLaws
