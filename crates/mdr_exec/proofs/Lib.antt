pub mod EvaluationLaws
pub mod EffectLaws
pub mod CallingLaws
pub mod DepthLaws
pub mod AgainLaws
pub mod StepLaws
pub mod UnwindingLaws
pub mod RunningLaws
pub mod PlaceLaws
pub mod MachineLaws
pub mod ReadyLaws
pub mod StartLaws
pub mod StartedLaws
pub mod PathLaws
pub mod EnterLaws
pub mod PointerLaws
pub mod LeavingLaws
pub mod ClosingLaws
pub mod OperandLaws
pub mod BeginningLaws
pub mod StoringLaws
pub mod NextLaws
pub mod WentLaws
mod Begun
mod DoneLaws
mod DeclaringLaws
mod TextLaws
pub mod KeepingLaws
pub mod TurnLaws
pub mod MakingLaws
pub mod ArgumentLaws
pub mod ParamLaws
pub mod PrintLaws
pub mod ReceivingLaws
mod IntegerLaws
mod QuickLaws
mod BehindLaws
mod TurningLaws
