use Rattle.ep_drive.specs.Commands.{bytes_of}
use Rattle.ep_drive.proofs.WordRows.{words-exact}
use Rattle.ep_drive.proofs.words.command_of.Goals as goal

pub returns : goal.returns
returns c = words-exact (bytes_of c.args.words.now) c.read_words.result c.read_words.ensures
