mod AnswersFit
mod JoinedSteps
mod QuietTurns
mod RecordsInOrder
mod RunsInParts
mod SeatLemmas
mod Systems
mod Turns
