mod Cut
mod SealedPieces
