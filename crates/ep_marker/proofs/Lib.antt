mod Cores
mod Forms
mod Rows
mod RowWalks
mod Texts
mod Walks
