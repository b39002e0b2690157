mod ConstantTypeLaws
mod Fields
mod ImageLaws
mod Items
mod Lists
mod Rows
