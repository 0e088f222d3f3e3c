pub mod RangeVector
