mod LiftedPieces
mod GoodStatements
mod GoodBodies
mod ListedStatements
mod ListedKinds
mod NumberedLines
