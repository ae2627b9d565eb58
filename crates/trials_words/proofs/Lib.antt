pub mod Stocks
