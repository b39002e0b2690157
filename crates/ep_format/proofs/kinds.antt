-- What tokens derive, other tokens of the same kinds derive too.
-- Forms, Simply: the forms of a description, with or without what is told of the two trees.
-- Shapes: what is told of them where a shape decides.
-- Expressions, Values, Types, Statements, Declarations, Units: the productions, a lemma for each.
-- Knot: the productions at each number of levels, and the law.
mod Forms
mod Simply
mod Shapes
mod Expressions
mod Values
mod Types
mod Statements
mod Declarations
mod Units
pub mod Knot
