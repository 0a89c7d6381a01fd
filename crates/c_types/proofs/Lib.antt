mod Bodies
mod Capped
mod Fitting
mod Growing
mod LaidOut
mod NamesBelow
mod SameTypes
mod StructsLemmas
