-- What the statements of a block know, as plain data.
use Rattle.std.specs.Prelude.{map}
use Rattle.ep_check_stmt.specs.declared.statements.Context.{Context}
use Rattle.ep_stmt_rules.specs.Answers.{locals_of, result_of}
use Rattle.ep_stmt_rules.specs.Statements as rows
use Rattle.ep_threats.specs.Callees.{callees_among}

-- what they know
abbrev pub context_of : Context → rows.Context
context_of c =
    record {
      unit = c.unit.now;
      scopes = c.scopes.now;
      files = c.files;
      results = map result_of c.results.now;
      locals = locals_of c.locals;
      members = c.members;
      callees = callees_among c.routines.now;
      withs = c.withs;
    }
