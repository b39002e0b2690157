use Rattle.ep_marker.proofs.Forms.{alone}
use Rattle.ep_marker.proofs.Walks.{firsts, seconds}
use Rattle.ep_marker.proofs.components.any_rest.Goals as goal

pub returns-then-sees_interface : goal.returns-then-sees_interface
returns-then-sees_interface c = firsts (alone c.if-sees_interface.ensures) c.interface_rest.ensures

pub returns-then-sees_implementation : goal.returns-then-sees_implementation
returns-then-sees_implementation c = seconds (alone c.if-sees_interface.ensures) (firsts (alone c.if-sees_implementation.ensures) c.implementation_rest.ensures)

pub returns : goal.returns
returns c = seconds (alone c.if-sees_interface.ensures) (seconds (alone c.if-sees_implementation.ensures) c.module_rest.ensures)
