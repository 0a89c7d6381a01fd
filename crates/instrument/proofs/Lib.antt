mod KindsOfTypes
mod Made
mod Whole
