mod Reduced
mod Parts
mod Folds
mod Vectors
mod Powers
