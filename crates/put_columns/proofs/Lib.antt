-- Laws about columns put one behind another, for other crates to cite too.
pub mod Behind
