pub mod Laws
pub mod ProgramLaws
pub mod StmtCode
pub mod StmtGrowth
pub mod TagCode
pub mod UnitCode
pub mod UnitLaws
