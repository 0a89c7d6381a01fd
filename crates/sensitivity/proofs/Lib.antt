mod Forms
mod HoldingByForm
mod Marking
mod Complete
mod SearchSteps
mod ClassLaws
mod EachHasClass
