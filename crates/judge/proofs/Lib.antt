pub mod NoneOdd
