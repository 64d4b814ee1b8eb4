pub mod Known
pub mod ReportLaws
pub mod ElementLaws
pub mod Fitting
pub mod OneReport
pub mod Cut
