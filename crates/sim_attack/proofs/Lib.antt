mod Fighting
mod Sums
mod Nearer
mod Sharing
