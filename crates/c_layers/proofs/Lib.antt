mod ArraysOfTypes
mod PartsOfLayers
mod RoundNoType
mod Stars
mod UnitsOfArrays
