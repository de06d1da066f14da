pub mod StageSteps
