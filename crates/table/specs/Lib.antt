pub mod Cells
pub mod Filled
pub mod Keys
pub mod KeysBy
pub mod Runs
pub mod Tables
