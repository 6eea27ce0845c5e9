pub mod ExchangeFit
