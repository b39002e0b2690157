pub mod public
mod CommentLaws
mod Comments
mod NameLaws
mod Names
mod NumberLaws
mod Numerals
mod PieceLaws
mod Steps
mod StringLaws
mod Strings
mod SymbolLaws
