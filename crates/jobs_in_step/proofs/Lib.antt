mod Answering
mod TaggedFronts
