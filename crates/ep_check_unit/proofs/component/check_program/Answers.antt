use Rattle.std.proofs.lemmas.Result.{err_from_is_err_and}
use Rattle.ep_check_unit.specs.Blocks.{block_of}
use Rattle.ep_check_unit.proofs.Programs.{missing_refused, parameters_refused, program_typed, statements_refused, waits_refused}
use Rattle.ep_check_unit.proofs.component.check_program.Goals as goal

pub returns-in-Err-clause-refused : goal.returns-in-Err-clause-refused
returns-in-Err-clause-refused c =
    rw c.refused_at.ensures
    (parameters_refused c.args.p.now (block_of c.in_ok-block.block) c.in-Err.refusal (rw (c.in_ok-copy.ensures, c.files_given-files.ensures, c.items.ensures) at c.in_ok-block.ensures) (rw c.items-2.ensures at c.in-Err.ensures))

pub returns-in_err-found-clause-refused : goal.returns-in_err-found-clause-refused
returns-in_err-found-clause-refused c =
    let p = err_from_is_err_and c.from_residual-in_err-found.result c.from_residual-in_err-found.ensures.1 in
    rw (p.1, p.2)
    (statements_refused c.args.p.now (block_of c.enter_parameters.new.self) (block_of c.declare.new.self) c.in_err-found.field-0.0
    (rw (c.items-2.ensures, c.in_ok-block.ensures, c.in_ok-copy.ensures, c.files_given-files.ensures, c.items.ensures) at c.in_default.ensures)
    (rw c.items-3.ensures at c.in_ok-declare.ensures)
    c.in_err-found.ensures)

pub returns-in_err-statements-clause-refused : goal.returns-in_err-statements-clause-refused
returns-in_err-statements-clause-refused c =
    let p = err_from_is_err_and c.from_residual-in_err-statements.result c.from_residual-in_err-statements.ensures.1 in
    rw (p.1, p.2)
    (waits_refused c.args.p.now (block_of c.enter_parameters.new.self) (block_of c.declare.new.self) c.in_ok-found.found c.in_err-statements.field-0.0
    (rw (c.items-2.ensures, c.in_ok-block.ensures, c.in_ok-copy.ensures, c.files_given-files.ensures, c.items.ensures) at c.in_default.ensures)
    (rw c.items-3.ensures at c.in_ok-declare.ensures)
    c.in_ok-found.ensures
    (rw c.items-4.ensures at c.in_ok-all_there.ensures)
    c.in_err-statements.ensures)

pub returns-clause-typed : goal.returns-clause-typed
returns-clause-typed c =
    program_typed c.args.p.now (block_of c.enter_parameters.new.self) (block_of c.declare.new.self) c.in_ok-found.found c.in_ok-statements.statements c.into_unit.result
    (rw (c.items-2.ensures, c.in_ok-block.ensures, c.in_ok-copy.ensures, c.files_given-files.ensures, c.items.ensures) at c.in_default.ensures)
    (rw c.items-3.ensures at c.in_ok-declare.ensures)
    c.in_ok-found.ensures
    (rw c.items-4.ensures at c.in_ok-all_there.ensures)
    c.in_ok-statements.ensures
    (rw (c.in_ok-imports.ensures, c.items-5.ensures) at c.into_unit.ensures)

pub returns-in_err-all_there-clause-refused : goal.returns-in_err-all_there-clause-refused
returns-in_err-all_there-clause-refused c =
    let p = err_from_is_err_and c.from_residual-in_err-all_there.result c.from_residual-in_err-all_there.ensures.1 in
    rw (p.1, p.2)
    (missing_refused c.args.p.now (block_of c.enter_parameters.new.self) (block_of c.declare.new.self) c.in_ok-found.found c.in_err-all_there.field-0.0
    (rw (c.items-2.ensures, c.in_ok-block.ensures, c.in_ok-copy.ensures, c.files_given-files.ensures, c.items.ensures) at c.in_default.ensures)
    (rw c.items-3.ensures at c.in_ok-declare.ensures)
    c.in_ok-found.ensures
    (rw c.items-4.ensures at c.in_err-all_there.ensures))
