mod KeyVectors
mod OneBlock
mod EightBlocks
