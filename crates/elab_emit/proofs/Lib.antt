pub mod CopyRows
pub mod Elements
pub mod Scalars
pub mod SeenPlaces
