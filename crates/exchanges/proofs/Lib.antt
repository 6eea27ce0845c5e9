pub mod ExchangeRows
pub mod FilledExchange
