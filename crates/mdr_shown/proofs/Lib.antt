pub mod MetLaws
pub mod ScanLaws
pub mod ObjectLaws
