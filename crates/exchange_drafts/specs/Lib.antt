pub mod PendingExchange
