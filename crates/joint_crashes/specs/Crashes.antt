-- Laws of joint crashes, from one call of a device to the next, for those who save, append, flush and cut.
pub mod Standing
pub mod SaveSteps
pub mod SnapsSteps
pub mod BankSteps
pub mod ToldSteps
pub mod Instants
pub mod CutSteps
pub mod VaultCuts
pub mod StoreSteps
pub mod Rested
pub mod Safe
pub mod Rounded
pub mod Marking
pub mod CausalSteps
