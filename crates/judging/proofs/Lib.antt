-- Laws of judging what a part means, and what the answers tell.
pub mod MeantRun
pub mod Told
