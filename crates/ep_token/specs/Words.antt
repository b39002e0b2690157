-- The word symbols.
use Rattle.std.specs.Prelude.{ℕ, List, [], ◌∷◌, codes}

-- the word symbols of this language (ISO 10206, 6.1.2), each at its place
unfoldable pub word_symbols : List (List ℕ)
word_symbols = codes "and" ∷ codes "and_then" ∷ codes "array" ∷ codes "begin" ∷ codes "bindable" ∷ codes "case" ∷ codes "const" ∷ codes "div" ∷ codes "do" ∷ codes "downto" ∷ codes "else" ∷ codes "end" ∷ codes "export" ∷ codes "file" ∷ codes "for" ∷ codes "function" ∷ codes "goto" ∷ codes "if" ∷ codes "import" ∷ codes "in" ∷ codes "label" ∷ codes "mod" ∷ codes "module" ∷ codes "nil" ∷ codes "not" ∷ codes "of" ∷ codes "only" ∷ codes "or" ∷ codes "or_else" ∷ codes "otherwise" ∷ codes "packed" ∷ codes "pow" ∷ codes "procedure" ∷ codes "program" ∷ codes "protected" ∷ codes "qualified" ∷ codes "record" ∷ codes "repeat" ∷ codes "restricted" ∷ codes "set" ∷ codes "then" ∷ codes "to" ∷ codes "type" ∷ codes "until" ∷ codes "value" ∷ codes "var" ∷ codes "while" ∷ codes "with" ∷ []
