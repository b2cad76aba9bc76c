-- Laws of the open pairs, leaves first.
pub mod OpenLaws
pub mod DropLaws
pub mod RankLaws
pub mod LeastLaws
pub mod WaitLaws
pub mod AddLaws
pub mod StartLaws
