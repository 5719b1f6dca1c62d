pub mod HexLengths
