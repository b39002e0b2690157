-- The levels that the productions of statements take: a lemma for each description, under its name and along it.
use Rattle.std.proofs.Common.{◌≡◌, ℕ, suc, max, Option, Some, None, refl, arith}
use Rattle.ep_tree.specs.declared.expression.Access.{Access}
use Rattle.ep_tree.specs.declared.expression.ComponentValue.{ComponentValue}
use Rattle.ep_tree.specs.Nesting.{component_value_nesting, access_nesting, statement_nesting, arm_nesting, compound_nesting, otherwise_nesting}
use Rattle.ep_grammar.specs.Descriptions.{statements}
use Rattle.ep_grammar.specs.Statements.{inner_statements, compound, compound_statement, else_part, if_statement, arm, arms, other, other_arms, labelled_arms, case_arms, case_statement, while_statement, repeat_statement, for_range, for_members, for_statement, accesses, with_statement, assignment_node, simple_statement, loop_statement, statement}
use Rattle.ep_levels.proofs.Measures.{Measures, Is, Under, Over, given, part, over, before, one_of, by_class, behind, kept, within, most, there, perhaps, lightly, all_separated, all_closed}
use Rattle.ep_levels.proofs.StatementNodes.{compound_is, arm_is, otherwise_is, empty_is, assignment_is, call_is, compound_statement_is, if_is, case_statement_is, while_is, repeat_is, for_is, for_in_is, with_is}
use Rattle.ep_levels.proofs.Expressions.{access_takes, expression_takes, labels_take}
use Rattle.ep_levels.proofs.Values.{component_value_takes}

inner_statements_take : Measures inner_statements (Is (most statement_nesting))
unfolding inner_statements
inner_statements_take = all_separated (within statements)

-- `compound = "begin" stmts "end"`
pub compound_takes : Measures compound (Is compound_nesting)
unfolding compound
compound_takes = behind (before (lightly refl) (part inner_statements_take (before (lightly refl) (over (lightly refl) (given (λ at ss m h. omega (arith, h, compound_is at ss)))))))

-- ---- statements: each with the level of its own

compound_statement_takes : Measures compound_statement (Under statement_nesting)
unfolding compound_statement
compound_statement_takes = part compound_takes (given (λ c m h. omega (arith, h, compound_statement_is c)))

-- `[ "else" stmt ]`
else_takes : Measures else_part (Is (there statement_nesting))
unfolding else_part
else_takes = by_class (part (within statements) (before (lightly refl) (given (λ s m h. omega (arith, h))))) (given refl)

-- `"if" expr "then" stmt [ "else" stmt ]`
if_takes : Measures if_statement (Under statement_nesting)
unfolding if_statement
if_takes = behind (part else_takes (part (within statements) (before (lightly refl) (part expression_takes (before (lightly refl) (over (lightly refl) (given (λ at e m h s n i o k j. omega (arith, h, i, j, if_is at e s o)))))))))

-- `arm = labels ":" stmt`
arm_takes : Measures arm (Is arm_nesting)
unfolding arm
arm_takes = behind (part (within statements) (before (lightly refl) (part labels_take (over (lightly refl) (given (λ at ls m h s n i. omega (arith, h, i, arm_is at ls s)))))))

arms_take : Measures arms (Is (most arm_nesting))
unfolding arms
arms_take = all_closed arm_takes

-- `other = "otherwise" stmts`
other_takes : Measures other (Is otherwise_nesting)
unfolding other
other_takes = behind (part inner_statements_take (before (lightly refl) (over (lightly refl) (given (λ at ss m h. omega (arith, h, otherwise_is at ss))))))

other_arms_take : Measures other_arms (Is (λ p. max (most arm_nesting p.0) (there otherwise_nesting p.1)))
unfolding other_arms
other_arms_take = part other_takes (given (λ o m h. omega (arith, h)))

labelled_arms_take : Measures labelled_arms (Is (λ p. max (most arm_nesting p.0) (there otherwise_nesting p.1)))
unfolding labelled_arms
labelled_arms_take = part (perhaps other_takes) (part arms_take (given (λ xs m h o n i. omega (arith, h, i))))

case_arms_take : Measures case_arms (Is (λ p. max (most arm_nesting p.0) (there otherwise_nesting p.1)))
unfolding case_arms
case_arms_take = one_of other_arms_take labelled_arms_take

-- `"case" expr "of" ( arm { ";" arm } [ ";" | [ ";" ] other ] | other ) "end"`
case_takes : Measures case_statement (Under statement_nesting)
unfolding case_statement
case_takes = behind (before (lightly refl) (part case_arms_take (before (lightly refl) (part expression_takes (before (lightly refl) (over (lightly refl) (given (λ at e m h p n i. omega (arith, h, i, case_statement_is at e p.0 p.1)))))))))

-- `"while" expr "do" stmt`
while_takes : Measures while_statement (Under statement_nesting)
unfolding while_statement
while_takes = behind (part (within statements) (before (lightly refl) (part expression_takes (before (lightly refl) (over (lightly refl) (given (λ at e m h s n i. omega (arith, h, i, while_is at e s))))))))

-- `"repeat" stmts "until" expr`
repeat_takes : Measures repeat_statement (Under statement_nesting)
unfolding repeat_statement
repeat_takes = behind (part expression_takes (before (lightly refl) (part inner_statements_take (before (lightly refl) (over (lightly refl) (given (λ at ss m h e n i. omega (arith, h, i, repeat_is at ss e))))))))

for_range_takes : Measures for_range (Over (Over (Under statement_nesting)))
unfolding for_range
for_range_takes = part (within statements) (before (lightly refl) (part expression_takes (over (lightly refl) (part expression_takes (before (lightly refl) (given (λ a m h d b n i s k j at v. omega (arith, h, i, j, for_is at v a d b s))))))))

for_members_take : Measures for_members (Over (Over (Under statement_nesting)))
unfolding for_members
for_members_take = part (within statements) (before (lightly refl) (part expression_takes (before (lightly refl) (given (λ e m h s n i at v. omega (arith, h, i, for_in_is at v e s))))))

-- `"for" id ":=" expr ( "to" | "downto" ) expr "do" stmt | "for" id "in" expr "do" stmt`
for_takes : Measures for_statement (Under statement_nesting)
unfolding for_statement
for_takes = behind (part (one_of for_members_take for_range_takes) (over (lightly refl) (before (lightly refl) (over (lightly refl) (given (λ at v r m h. omega (arith, h at v)))))))

accesses_take : Measures accesses (Is (most access_nesting))
unfolding accesses
accesses_take = all_separated access_takes

-- `"with" access { "," access } "do" stmt`
with_takes : Measures with_statement (Under statement_nesting)
unfolding with_statement
with_takes = behind (part (within statements) (before (lightly refl) (part accesses_take (before (lightly refl) (over (lightly refl) (given (λ at xs m h s n i. omega (arith, h, i, with_is at xs s))))))))

-- an access with or without a value
assignment_takes : (at : ℕ) (a : Access) (v : Option ComponentValue) → suc (max (access_nesting a) (there component_value_nesting v)) ≡ statement_nesting (assignment_node at a v)
assignment_takes at a None = omega (arith, call_is at a)
assignment_takes at a (Some v) = omega (arith, assignment_is at a v)

-- `access ":=" cvalue | access`
simple_takes : Measures simple_statement (Under statement_nesting)
unfolding simple_statement
simple_takes = part (perhaps (kept (lightly refl) component_value_takes)) (part access_takes (over (lightly refl) (given (λ at a m h v n i. omega (arith, h, i, assignment_takes at a v)))))

-- the statements with other statements inside
loop_takes : Measures loop_statement (Under statement_nesting)
unfolding loop_statement
loop_takes = one_of while_takes (one_of repeat_takes (one_of for_takes with_takes))

-- `stmt`
pub statement_takes : Measures statement (Under statement_nesting)
unfolding statement
statement_takes = one_of simple_takes (one_of compound_statement_takes (one_of if_takes (one_of case_takes (one_of loop_takes (over (lightly refl) (given (λ at. omega (arith, empty_is at))))))))
